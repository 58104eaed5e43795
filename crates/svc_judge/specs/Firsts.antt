-- The first of two, where there may be none.
use Rattle.std.specs.Prelude.{Option, Some, None}

-- the first, if there is one, else the second
abbrev pub first_of : {A : Type 0} → Option A → Option A → Option A
first_of (Some x) y = Some x
first_of None y = y
