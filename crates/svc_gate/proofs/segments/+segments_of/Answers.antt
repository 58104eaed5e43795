use Rattle.std.proofs.Common.{subst, Global}
use Rattle.std.specs.Prelude.{IfOk}
use Rattle.std.specs.declared.vec.Vec.{Vec}
use Rattle.std.proofs.lemmas.Result.{IfOk-weaker}
use Rattle.svc_gate.specs.declared.segments.Segment.{Segment}
use Rattle.svc_gate.specs.Segments.{FindsFirst, FindsEither}
use Rattle.svc_gate.proofs.SegmentLemmas.{only_rule, halves_found}
use Rattle.svc_gate.proofs.segments.+segments_of.Goals as goal

pub returns-in-len1-clause-found : goal.returns-in-len1-clause-found
returns-in-len1-clause-found t c =
    subst (λ rules. IfOk c.segments_by.result (λ segments. FindsFirst c.args.v6 rules segments.items))
    (only_rule c.args.rules.now _ c.in-len1.len_at_least c.in-len1.len_below) c.segments_by.ensures.found

pub returns-in_ok-lower-in_default-clause-found : goal.returns-in_ok-lower-in_default-clause-found
returns-in_ok-lower-in_default-clause-found t c =
    let Either : Vec Segment Global → Type 0 = λ segments. FindsEither c.as_slice.result.now c.as_slice-in_default.result.now segments.items in
    let First : Vec Segment Global → Type 0 = λ segments. FindsFirst c.args.v6 c.args.rules.now segments.items in
    IfOk-weaker c.overlay.result Either First
    (λ segments found. halves_found c.args.v6 c.args.rules.now _ _ _ _ _ _ _ segments.items c.split_at.ensures.front c.split_at.ensures.back
    c.in_ok-upper-in_default.ensures.found c.in_ok-lower-in_default.ensures.found c.as_slice.ensures.value c.as_slice-in_default.ensures.value found)
    c.overlay.ensures.found
