use Rattle.std.proofs.Common.{◌≡◌, length}
use Rattle.svc_judge.specs.Firsts.{first_of}
use Rattle.svc_judge.specs.Chains.{IsChains}
use Rattle.svc_judge.specs.Memos.{IsMemo}
use Rattle.svc_judge.specs.Verdicts.{breach_below}
use Rattle.svc_judge.specs.Pasts.{plan_of, record_of, IsRestOf}
use Rattle.svc_judge.proofs.judging.breach_below.Given as goal

abbrev pub invariant-entries : goal.invariant-entries
invariant-entries l =
    IsRestOf l.past l.rest
    × IsChains l.chains (record_of l.rest)
    × IsMemo l.memo (plan_of l.past) (record_of l.rest)
    × (breach_below (plan_of l.past) (record_of l.past) ≡ first_of (breach_below (plan_of l.past) (record_of l.rest)) l.found)

abbrev pub decreases-entries : goal.decreases-entries
decreases-entries l = length (record_of l.rest)
