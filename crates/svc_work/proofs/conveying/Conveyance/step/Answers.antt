use Rattle.std.proofs.Common.{ℕ, ◌≤◌, length, take, arith}
use Rattle.std.proofs.lemmas.List.{length-take}
use Rattle.svc_work.proofs.ConveyLemmas.{flushed, flushes_few}
use Rattle.svc_work.specs.Conveying.{waiting}
use Rattle.svc_work.proofs.conveying.Conveyance.step.Goals as goal

pub returns-then-self-len-clause-conveys : goal.returns-then-self-len-clause-conveys
returns-then-self-len-clause-conveys g c = flushed _ _ _ _ _ _ c.flush.ensures.flushes

pub returns-in-Got-clause-bounded : goal.returns-in-Got-clause-bounded
returns-in-Got-clause-bounded g c =
    let few : length (waiting c.put.new.self) ≤ length (take c.in-Got.count c.read.new.buffer) = flushes_few _ _ _ _ _ c.put.ensures.flushes in
    omega (arith, length-take {A = ℕ})
