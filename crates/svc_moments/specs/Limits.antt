-- A limit of time.
use Rattle.std.specs.Prelude.{ℕ, ◌-◌, ◌/◌, Bool, nat_le}

-- so many seconds from a moment on, which is in milliseconds
pub record Limit : Type 0 where
  pub seconds : ℕ
  pub start : ℕ

-- at this moment so many whole seconds have passed
abbrev pub has_passed : Limit → ℕ → Bool
has_passed limit moment = nat_le limit.seconds ((moment - limit.start) / 1000)
