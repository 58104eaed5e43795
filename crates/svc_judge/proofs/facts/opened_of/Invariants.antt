use Rattle.std.proofs.Common.{◌≡◌, ◌++◌, length}
use Rattle.svc_record.specs.Descriptors.{opened_descriptors}
use Rattle.svc_judge.specs.Pasts.{reads_of}
use Rattle.svc_judge.proofs.facts.opened_of.Given as goal

abbrev pub invariant-entries : goal.invariant-entries
invariant-entries l =
    (opened_descriptors l.plan l.entries ≡ l.opened.items ++ opened_descriptors l.plan l.rest)
    × (reads_of l.entries ≡ l.reads.items ++ reads_of l.rest)

abbrev pub decreases-entries : goal.decreases-entries
decreases-entries l = length l.rest
