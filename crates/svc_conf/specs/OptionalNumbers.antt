-- What the optional numbers of a configuration mean.
use Rattle.std.specs.Prelude.{ℕ, Bool, false, ◌==◌, nat_lt, ◌&&◌, if◌then◌else◌, Option, Some, None}

-- it is set to 0
abbrev pub is_zero : Option ℕ → Bool
is_zero (Some number) = number == 0
is_zero None = false

-- it is set to more than the limit
abbrev pub is_above : ℕ → Option ℕ → Bool
is_above limit (Some number) = nat_lt limit number
is_above limit None = false

-- both numbers, where both are set and above 0
abbrev pub offload_of : Option ℕ → Option ℕ → Option (ℕ × ℕ)
offload_of (Some pools) (Some threads) = if nat_lt 0 pools && nat_lt 0 threads then Some (pools, threads) else None
offload_of _ _ = None
