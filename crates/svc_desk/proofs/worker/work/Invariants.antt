use Rattle.std.proofs.Common.{◌≡◌, ◌+◌, ◌≤◌, List, [], length}
use Rattle.svc_base.specs.Items.{list_of}
use Rattle.svc_shared.specs.Posting.{seen_of, origin_of}
use Rattle.svc_desk.specs.Desks.{Grew}
use Rattle.svc_desk.specs.Deeds.{Deed, LeavesOn, strays_from, call_count}
use Rattle.svc_desk.specs.Working.{IsDone, IsAtDesk}
use Rattle.svc_desk.proofs.worker.work.Given as goal

abbrev pub invariant-loop : goal.invariant-loop
invariant-loop g l = record {
  log : List Deed;
  done : IsDone l.shared l.initial.pass log l.pass;
  at_desk : IsAtDesk (g.D.Desk.seen l.initial.desk) (g.D.Desk.seen l.desk) log [];
  place : (g.D.Desk.seen l.initial.desk).room ≤ (g.D.Desk.seen l.desk).room + (l.counter + call_count log []);
  on : LeavesOn (origin_of l.shared) (seen_of l.pass) log;
  strays : list_of l.tally.strays ≡ strays_from 1 log;
  count : l.tally.taken ≡ length log;
  few : l.tally.taken ≤ l.counter;
  fewer : l.tally.answered ≤ l.tally.taken;
  takes : Grew (g.D.Desk.seen l.initial.desk).takes (g.D.Desk.seen l.desk).takes l.counter;
}
