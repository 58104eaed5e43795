-- For how many moments there is room.
use Rattle.std.proofs.Common.{ℕ, zero, suc, ◌≤◌, ◌+◌, ◌*◌, ◌/◌, arith}
use Rattle.std.proofs.Math.Nat.{div-mul-le_self}
use Rattle.std.proofs.lemmas.Nat.{le-div}

-- each of j jobs may run at a moment
pub room_used : (x y j : ℕ) → x ≤ y + j → x / (j + 1) ≤ y / (j + 1) + 1
room_used x y j le = less (x / (j + 1)) (div-mul-le_self x (j + 1))
  where
    less : (a : ℕ) → a * (j + 1) ≤ x → a ≤ y / (j + 1) + 1
    less zero h = omega arith
    less (suc a) h = (let fewer : a * (j + 1) ≤ y = omega (arith, le) in let part : a ≤ y / (j + 1) = le-div a y (j + 1) (omega arith) fewer in omega arith)
