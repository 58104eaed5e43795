use Rattle.std.proofs.Common.{Bool, true, inl, inr, ◌≡◌, ◌∙◌, sym, subst}
use Rattle.std.proofs.lemmas.Bool.{cases_eq, ne_eqb}
use Rattle.svc_core.specs.StartsState.{is_flagged, ready_now}
use Rattle.svc_core.proofs.waits.Waits.note.Goals as goal

pub returns-clause-complete : goal.returns-clause-complete
returns-clause-complete c = c.look_at.ensures.complete ∙ c.is_at.ensures c.if-not-is_at.false

pub returns-clause-ready : goal.returns-clause-ready
returns-clause-ready c = λ t inside on.
    elim (cases_eq c.args.s t) [
      | inl same ↦ subst (λ u. is_flagged c.look_at.new.self.counts.marks u ≡ true) same
          (c.look_at.ensures.ready (subst (λ u. ready_now c.args.plan.now c.args.starts.now c.args.failed.now c.args.complete u ≡ true) (sym same) on))
      | inr ne ↦ c.look_at.ensures.opens.kept t (c.requires.others t inside (ne_eqb c.args.s t ne)
          (subst (λ (complete : Bool). ready_now c.args.plan.now c.args.starts.now c.args.failed.now complete t ≡ true)
          (sym (c.is_at.ensures c.if-not-is_at.false)) on))
    ]
