-- A level of a history goes no deeper than it has entries, so a history is finite.
use Rattle.std.specs.Prelude.{◌≤◌, ◌+◌, max, length}
use Rattle.std.proofs.Common.{lit≤, subst, zero-le}
use Rattle.std.proofs.Math.Nat.{le_refl, max-le}
use Rattle.std.proofs.Math.Numerals.{add-one}
use Rattle.svc_history.specs.declared.Told.{Told}
use Rattle.svc_history.specs.declared.Told.TheVariants.{Nothing, More}
use Rattle.svc_history.specs.declared.History.TheDeep.{deep-Told}
use Rattle.svc_history.specs.Entries.{entries}

pub deep_le_length : {T : Type 0} (told : Told T) → max (deep-Told T told) 0 ≤ length (entries told)
deep_le_length Nothing = lit≤ tt
deep_le_length (More entry before) =
    let n = length before.value in
    max-le (max-le (subst (λ m. n + 1 ≤ m) (add-one n) (le_refl (n + 1))) zero-le) zero-le
