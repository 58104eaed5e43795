use Rattle.std.proofs.Common.{◌≡◌, length}
use Rattle.svc_record.specs.Record.{signal_of}
use Rattle.svc_judge.specs.Firsts.{first_of}
use Rattle.svc_judge.proofs.looking.signal_of.Given as goal

abbrev pub invariant-entries : goal.invariant-entries
invariant-entries l = signal_of l.entries ≡ first_of (signal_of l.rest) l.found

abbrev pub decreases-entries : goal.decreases-entries
decreases-entries l = length l.rest
