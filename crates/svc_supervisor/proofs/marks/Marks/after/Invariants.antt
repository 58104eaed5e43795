use Rattle.std.proofs.Common.{◌≡◌, ◌++◌, take}
use Rattle.std.specs.Prelude.{reverse}
use Rattle.svc_record.specs.Record.{Record}
use Rattle.svc_supervisor.specs.Marks.{marks_of}
use Rattle.svc_supervisor.proofs.marks.Marks.after.Given as goal

abbrev pub invariant-loop-entry : goal.invariant-loop-entry
invariant-loop-entry l = (q : Record) → l.fn.self ≡ marks_of q → l.marks ≡ marks_of (reverse (take l.entry-index l.entries) ++ q)
