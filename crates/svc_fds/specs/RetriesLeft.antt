-- What contracts see of a sender's tries.
use Rattle.std.specs.Prelude.{ℕ}

-- how many more missing receivers, and how many more busy answers, are borne
pub record RetriesLeft : Type 0 where
  pub absences : ℕ
  pub delays : ℕ
