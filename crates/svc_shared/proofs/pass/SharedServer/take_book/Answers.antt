use Rattle.std.proofs.Common.{Some}
use Rattle.svc_shared.specs.Views.{book_of}
use Rattle.svc_shared.proofs.StepLemmas.{holds_one}
use Rattle.svc_shared.proofs.pass.SharedServer.take_book.Goals as goal

pub exchange-requires : goal.exchange-requires
exchange-requires c =
    (c.requires.table, (Some (book_of c.args.self.now.board.shared.key.value c.args.place.now.me.0.sight.base), holds_one _ _ c.requires.turn.carries))
