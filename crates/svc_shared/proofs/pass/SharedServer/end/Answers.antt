use Rattle.std.proofs.Common.{◌≡◌, List, ◌∙◌, ap, sym, subst}
use Rattle.svc_record.specs.Journal.{PostData}
use Rattle.svc_shared.specs.BookData.{BookData}
use Rattle.svc_shared.specs.Journals.{IsLegal}
use Rattle.svc_shared.specs.Views.{book_of}
use Rattle.svc_shared.specs.Posting.{IsClosed}
use Rattle.svc_shared.proofs.EndLemmas.{IsEnd, closes, in-slot, not-empty}
use Rattle.svc_shared.proofs.pass.SharedServer.end.Goals as goal
use Rattle.svc_shared.proofs.pass.SharedServer.end.Goals.{After-free}

at_end : (c : After-free) → IsEnd c.args.self.board.shared.key.value c.args.pass.place.me.0 c.take-slot.result
at_end c = closes c.args.self.board.shared.key.value c.args.pass.place.id c.args.pass.place.me.0 _ _ c.take-slot.result c.args.pass.idle.live
    c.args.pass.idle.free c.requires.whole c.close_with-closed.ensures.values.2 c.take-slot.ensures.value

pub unreachable-requires : goal.unreachable-requires
unreachable-requires c = let e = at_end ((goal.at.unreachable-requires c).After-free) in not-empty _ c.take-slot.result e.slot_is c.in-None.is

pub returns : goal.returns
returns c =
    let e = at_end ((goal.at.returns c).After-free) in
    let b : BookData = c.args.self.board.shared.key.value in
    let same : c.in-Some.book ≡ book_of b e.journal = in-slot c.in-Some.book (book_of b e.journal) c.take-slot.result c.in-Some.is e.slot_is in
    let items : e.journal ≡ c.into_posts.result.items = sym (c.into_posts.ensures.posts ∙ ap (λ (x : BookData). x.posts) same) in
    subst (λ (xs : List PostData). IsClosed c.args.self c.args.pass xs) items record {
      front = e.front;
      legal = subst (λ (x : BookData). IsLegal x x.posts) same c.into_posts.ensures.legal;
      own_is = e.own_is;
      ended_are = e.ended_are;
      seats = e.seats;
    }
