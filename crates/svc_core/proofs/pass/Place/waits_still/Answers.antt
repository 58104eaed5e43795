use Rattle.std.proofs.Common.{sym, refl, inl, inr, ◌∙◌}
use Rattle.svc_core.proofs.pass.Place.waits_still.Goals as goal

pub returns-then-is_started : goal.returns-then-is_started
returns-then-is_started c = (inl (sym c.is_started.ensures ∙ c.if-is_started.true), refl)

pub returns-then-missing-eq0 : goal.returns-then-missing-eq0
returns-then-missing-eq0 c = (inr (sym c.missing.ensures ∙ c.if-missing-eq0.true), refl)

pub returns : goal.returns
returns c = (sym c.is_started.ensures ∙ c.if-is_started.false, (λ none. c.if-missing-eq0.false (c.missing.ensures ∙ none), c.close.ensures))
