-- What a search by halving takes.
use Rattle.std.proofs.Common.{◌≡◌, ℕ, suc, ◌+◌, ◌-◌, ◌*◌, ◌^◌, ◌<◌, ◌≤◌, ap, ◌∙◌, arith}
use Rattle.std.proofs.Math.Nat.{mul-le-mul_left}
use native.Mathlib.Numerals.{unary_clauses}

-- one step more, where at most half is left
halved : (p n m total : ℕ) → 2 * m ≤ n → 0 < n → p * n ≤ total → (2 * p * m ≤ total) × (2 * p ≤ 2 * total + 1)
halved p n m total half some h =
    let a : p * (2 * m) ≤ p * n = mul-le-mul_left p half in
    let b : p * 1 ≤ p * n = mul-le-mul_left p (omega arith) in
    (omega (arith, a, h), omega (arith, b, h))

pow_more : (n : ℕ) → 2 ^ suc n ≡ 2 * 2 ^ n
pow_more n = simp unary_clauses (omega arith)

-- one step of the search: what is left is at most half
pub one_step : (before now low high m total : ℕ) → before ≤ now → 2 * m ≤ high - low → low < high → 2 ^ (now - before) * (high - low) ≤ total
    → (2 ^ (now + 1 - before) * m ≤ total) × (2 ^ (now + 1 - before) ≤ 2 * total + 1)
one_step before now low high m total counted half some h =
    let k : now + 1 - before ≡ suc (now - before) = omega arith in
    let p : 2 ^ (now + 1 - before) ≡ 2 * 2 ^ (now - before) = ap (λ n. 2 ^ n) k ∙ pow_more (now - before) in
    let two = halved (2 ^ (now - before)) (high - low) m total half (omega arith) h in
    rw p two
