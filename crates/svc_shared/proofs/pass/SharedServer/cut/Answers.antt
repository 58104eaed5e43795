use Rattle.std.proofs.Common.{rules, ◌≡◌, ◌<◌, ◌∙◌, ap, subst, sym, ℕ}
use mathlib.Core.Option.{none}
use Rattle.atomic_table.specs.Table.{step}
use Rattle.svc_shared.specs.declared.view.SeatView.{SeatView}
use Rattle.svc_shared.specs.Views.{Mine}
use Rattle.svc_shared.proofs.StepLemmas.{looks}
use Rattle.svc_shared.proofs.PassSteps.{cuts}
use Rattle.svc_shared.proofs.ShareLemmas.{cut_by}
use Rattle.svc_shared.proofs.pass.SharedServer.cut.Goals as goal

pub load-requires : goal.load-requires
load-requires c = (
  c.requires.table,
  search rules,
  looks c.args.self.now.board.shared.key.value _ _ c.args.place.me.0 c.args.place.me.1
      (step 0 0 0 0 none) c.requires.idle.live c.requires.idle.free,
)

pub split_seat-second-requires : goal.split_seat-second-requires
split_seat-second-requires c =
    let hand : c.load.new.seat.me.0.hand ≡ c.args.place.me.0.hand = ap (λ (m : Mine). m.0.hand) c.load.ensures.2.0 in
    let two : c.args.place.me.0.hand.low < c.args.place.me.0.hand.high =
    subst (λ (p : ℕ × ℕ). p.0 < p.1) (λ i. (c.requires.low i, c.requires.high i)) c.requires.two in (
      search rules,
      search rules,
      cuts c.args.self.now.board.shared.key.value _ c.load.new.seat.me.0 (ap (λ (h : SeatView). h.spent) hand ∙ c.requires.idle.live) c.args.number
          (ap (λ (h : SeatView). h.drawn) hand ∙ c.requires.drawn)
          (subst (λ (h : SeatView). h.low < h.high) (sym hand) two),
    )

pub returns-clause-cut : goal.returns-clause-cut
returns-clause-cut c =
    cut_by c.args.place.me c.load.new.seat.me c.split_seat-second.new.seat.me c.split_seat-second.result.me c.args.number c.load.result c.requires.drawn
    c.load.ensures.2.0 (c.load.ensures.2.2 c.args.number c.requires.drawn)
    c.split_seat-second.ensures.2 c.split_seat-second.ensures.4
