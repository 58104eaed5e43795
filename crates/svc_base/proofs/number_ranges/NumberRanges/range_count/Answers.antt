use Rattle.std.proofs.Common.{ℕ, List, ap, ◌∙◌, ◌≤◌, subst, sym}
use Rattle.svc_base.specs.Items.{list_of}
use Rattle.svc_base.specs.NumberRanges.{stretches}
use Rattle.svc_base.proofs.RangeLemmas.{stretches-count, stretches-one}
use Rattle.svc_base.proofs.number_ranges.NumberRanges.range_count.Goals as goal

pub returns-clause-stretches : goal.returns-clause-stretches
returns-clause-stretches c =
    c.len.ensures.length ∙ stretches-count (list_of c.self.inside.ranges) c.self.invariant.apart
    ∙ ap (λ (x : List ℕ × ℕ). stretches (list_of x)) c.self.view_is

pub returns-clause-one : goal.returns-clause-one
returns-clause-one c = λ n k e. subst (λ (x : ℕ). x ≤ 1) (sym (returns-clause-stretches c ∙ ap stretches e)) (stretches-one n k)
