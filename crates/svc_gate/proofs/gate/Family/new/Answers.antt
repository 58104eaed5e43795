use Rattle.std.proofs.Common.{sym, subst, ◌^◌, ◌*◌, ◌≤◌, length, arith}
use Rattle.svc_gate.specs.Segments.{Ascends, FindsFirst}
use Rattle.svc_gate.proofs.MergedLemmas.{ranges_answer, ranges_rise, length-ranges}
use Rattle.svc_gate.proofs.gate.Family.new.Goals as goal

pub invariant_of-result : goal.invariant_of-result
invariant_of-result c =
    let ascend = subst (λ s. Ascends 0 s (2 ^ 128)) (sym c.as_slice-2.ensures.value) c.in_ok-segments.ensures.ascend in
    ranges_rise _ _ _ _ _ ascend c.advance-found.ensures.rest c.in_ok-later.ensures

pub returns-clause-answers : goal.returns-clause-answers
returns-clause-answers c =
    let ascend = subst (λ s. Ascends 0 s (2 ^ 128)) (sym c.as_slice-2.ensures.value) c.in_ok-segments.ensures.ascend in
    let first = subst (λ s. FindsFirst c.args.v6 c.as_slice.result.now s) (sym c.as_slice-2.ensures.value) c.in_ok-segments.ensures.found in
    let found = subst (λ rules. FindsFirst c.args.v6 rules c.as_slice-2.result.now) c.as_slice.ensures first in
    λ x fits. ranges_answer c.args.rules.now.default_allow _ c.args.v6 c.args.rules.now.rules _ _ _ _ x ascend found
    c.advance-found.ensures.word c.advance-found.ensures.rest c.unwrap_or-lowest.ensures c.in_ok-later.ensures fits

pub returns-clause-count : goal.returns-clause-count
returns-clause-count c =
    let few = subst (λ s. length s ≤ 2 * length c.as_slice.result.now) (sym c.as_slice-2.ensures.value) c.in_ok-segments.ensures.few in
    let count = length-ranges _ _ c.args.rules.now.rules _ _ _
    (subst (λ rules. length c.as_slice-2.result.now ≤ 2 * length rules) c.as_slice.ensures few) c.advance-found.ensures.rest c.in_ok-later.ensures in
    omega (arith, count)
