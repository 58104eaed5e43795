use Rattle.std.proofs.Common.{rules}
use mathlib.Core.Option.{none}
use Rattle.atomic_table.specs.Table.{step}
use Rattle.svc_shared.proofs.StepLemmas.{leaves_back, left_back}
use Rattle.svc_shared.proofs.pass.SharedServer.leave.Goals as goal

pub compare_exchange-requires : goal.compare_exchange-requires
compare_exchange-requires c = (
  search rules,
  search rules,
  leaves_back c.args.self.now.board.shared.key.value _ _ c.args.word c.args.next c.args.place.now.me c.exchange.new.seat.me c.args.book c.requires.lifted
      c.requires.back c.exchange.ensures.3 (step 0 0 0 0 none),
)

pub returns-clause-left : goal.returns-clause-left
returns-clause-left c =
    left_back c.args.word c.args.place.now.me c.exchange.new.seat.me c.compare_exchange.new.seat.me c.args.book c.requires.lifted c.exchange.ensures.3
    c.compare_exchange.ensures.2
