use Rattle.std.proofs.Common.{◌≡◌, drop}
use Rattle.svc_record.specs.Connections.{first_of}
use Rattle.svc_connections.specs.ConnectionsEffects.{is_of_sort}
use Rattle.svc_connections.proofs.settings.Sort.first_of.Given as goal

abbrev pub invariant-loop-option : goal.invariant-loop-option
invariant-loop-option l = first_of (is_of_sort l.self) (drop l.option-index l.options) ≡ first_of (is_of_sort l.self) l.options
