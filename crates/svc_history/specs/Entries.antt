-- The entries of one level of a history, the newest first.
use Rattle.std.specs.Prelude.{List, [], ◌∷◌}
use Rattle.svc_history.specs.declared.Told.{Told}
use Rattle.svc_history.specs.declared.Told.TheVariants.{Nothing, More}

abbrev pub entries : {T : Type 0} → Told T → List T
entries Nothing = []
entries (More entry before) = entry.value ∷ before.value
