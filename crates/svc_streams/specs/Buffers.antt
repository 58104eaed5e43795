-- How large the buffers of a stream are.
use Rattle.std.specs.Prelude.{ℕ, Option, Some, None}

-- the number that is given, else the default
abbrev pub capacity_of : Option ℕ → ℕ → ℕ
capacity_of None default = default
capacity_of (Some n) default = n
