use Rattle.std.proofs.Common.{arith, ◌<◌, ◌∙◌, ap, length}
use Rattle.std.proofs.lemmas.List.{get_or_read}
use Rattle.svc_graph.specs.WaitingData.{WaitingData}
use Rattle.svc_graph.specs.Waitings.{missing_of}
use Rattle.svc_graph.proofs.Waits.{missing-seen}
use Rattle.svc_graph.proofs.graph.waiting.Waiting.missing.Goals as goal

pub returns : goal.returns
returns c =
    let size = ap (λ (w : WaitingData). length w.marks) c.self.view_is in
    let sized = c.self.invariant.sized in
    let lt : c.args.s < length c.self.inside.marks.items = omega arith in
    get_or_read c.self.inside.counts.items c.args.s c.index.result.now (omega arith) c.index.ensures 0
    ∙ missing-seen c.self.inside.counts.items c.self.inside.dependents.items c.self.inside.starts.items c.self.inside.marks.items c.self.invariant c.args.s lt
    ∙ ap (λ (w : WaitingData). missing_of w c.args.s) c.self.view_is
