-- The digits of a number of 16 bits in lower-case hexadecimal.
use Rattle.std.proofs.Common.{◌≡◌, ℕ, zero, suc, ◌-◌, ◌/◌, ◌%◌, ◌^◌, ◌<◌, ◌≤◌, Bool, true, false, cond, eqb, List, [], ◌∷◌, refl, sym, ap, ◌∙◌, arith}
use Rattle.std.specs.Fmt.{digits, digits_onto, digit_glyph}
use Rattle.std.proofs.lemmas.Bool.{ne_eqb, eq-eqb}

whole : (n : ℕ) → digits_onto 64 16 false n [] ≡ digits 16 false n
unfolding digits
whole n = refl

spelled : (n : ℕ) (acc : List ℕ) (k : ℕ) (t : Bool) → eqb (n / 16) 0 ≡ t
    → digits_onto (suc k) 16 false n acc ≡ cond t (digit_glyph false (n % 16) ∷ acc) (digits_onto k 16 false (n / 16) (digit_glyph false (n % 16) ∷ acc))
spelled n acc k t e = ap (λ (b : Bool). cond b (digit_glyph false (n % 16) ∷ acc) (digits_onto k 16 false (n / 16) (digit_glyph false (n % 16) ∷ acc))) e

last : (n : ℕ) (acc : List ℕ) (i : ℕ) → 0 < i → n / 16 ≡ 0 → digits_onto i 16 false n acc ≡ digit_glyph false (n % 16) ∷ acc
last n acc zero h e = absurd (omega arith)
last n acc (suc k) h e = spelled n acc k true (eq-eqb _ 0 e)

step : (n : ℕ) (acc : List ℕ) (i : ℕ) → 0 < i → (n / 16 ≡ 0 → ⊥)
    → digits_onto i 16 false n acc ≡ digits_onto (i - 1) 16 false (n / 16) (digit_glyph false (n % 16) ∷ acc)
step n acc zero h e = absurd (omega arith)
step n acc (suc k) h e =
    spelled n acc k false (ne_eqb _ 0 e)
    ∙ ap (λ (j : ℕ). digits_onto j 16 false (n / 16) (digit_glyph false (n % 16) ∷ acc)) {x = k} {y = suc k - 1} (omega arith)

pub three_digits : (n : ℕ) → 256 ≤ n → n < 4096
    → digits 16 false n ≡ digit_glyph false (n / 256) ∷ digit_glyph false (n / 16 % 16) ∷ digit_glyph false (n % 16) ∷ []
three_digits n large small =
    let same : n / 16 / 16 % 16 ≡ n / 256 = omega arith in
    sym (whole n) ∙ step n [] 64 (omega arith) (omega arith)
    ∙ step (n / 16) (digit_glyph false (n % 16) ∷ []) 63 (omega arith) (omega arith)
    ∙ last (n / 16 / 16) (digit_glyph false (n / 16 % 16) ∷ digit_glyph false (n % 16) ∷ []) 62 (omega arith) (omega arith)
    ∙ ap (λ d. digit_glyph false d ∷ digit_glyph false (n / 16 % 16) ∷ digit_glyph false (n % 16) ∷ []) same

pub four_hex_digits : (n : ℕ) → 4096 ≤ n → n < 2 ^ 16
    → digits 16 false n ≡ digit_glyph false (n / 4096) ∷ digit_glyph false (n / 256 % 16) ∷ digit_glyph false (n / 16 % 16) ∷ digit_glyph false (n % 16) ∷ []
four_hex_digits n large small =
    let second : n / 16 / 16 % 16 ≡ n / 256 % 16 = omega arith in
    let first : n / 16 / 16 / 16 % 16 ≡ n / 4096 = omega arith in
    sym (whole n) ∙ step n [] 64 (omega arith) (omega arith)
    ∙ step (n / 16) (digit_glyph false (n % 16) ∷ []) 63 (omega arith) (omega arith)
    ∙ step (n / 16 / 16) (digit_glyph false (n / 16 % 16) ∷ digit_glyph false (n % 16) ∷ []) 62 (omega arith) (omega arith)
    ∙ last (n / 16 / 16 / 16) (digit_glyph false (n / 16 / 16 % 16) ∷ digit_glyph false (n / 16 % 16) ∷ digit_glyph false (n % 16) ∷ []) 61 (omega arith)
    (omega arith)
    ∙ ap (λ d. digit_glyph false d ∷ digit_glyph false (n / 16 / 16 % 16) ∷ digit_glyph false (n / 16 % 16) ∷ digit_glyph false (n % 16) ∷ []) first
    ∙ ap (λ d. digit_glyph false (n / 4096) ∷ digit_glyph false d ∷ digit_glyph false (n / 16 % 16) ∷ digit_glyph false (n % 16) ∷ []) second
