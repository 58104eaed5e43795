-- The digits of numbers are no other bytes.
use Rattle.std.proofs.Common.{◌≡◌, ℕ, zero, suc, ◌+◌, ◌/◌, ◌%◌, ◌<◌, ◌≤◌, Bool, true, false, ltb, eqb, cond, List, [], ◌∷◌, ◌++◌, length, get_or, All, refl, inl, inr, arith}
use Rattle.std.specs.List.{list_all}
use Rattle.std.specs.Str.{bytes_eq}
use Rattle.std.specs.Fmt.{digits, digits_onto, digit_glyph}
use Rattle.std.proofs.lemmas.Bool.{and_parts, and_from, lt-ltb, ltb-true, ne_eqb, cases_Bool}
use Rattle.svc_text.proofs.Visible.{is_visible, IsWord}

-- the bytes stand from the digit 0 on
abbrev pub is_high : List ℕ → Bool
is_high bytes = list_all (λ b. ltb 47 b) bytes

glyph_above : (d : ℕ) (b : Bool) → 47 < cond b (48 + d) (87 + d)
glyph_above d true = omega arith
glyph_above d false = omega arith

pub glyph_high : (d : ℕ) → 47 < digit_glyph false d
glyph_high d = glyph_above d (ltb d 10)

onto_high : (k base n : ℕ) (acc : List ℕ) → is_high acc ≡ true → is_high (digits_onto k base false n acc) ≡ true
onto_high zero base n acc h = h
onto_high (suc k) base n acc h =
    let first : ltb 47 (digit_glyph false (n % base)) ≡ true = lt-ltb 47 _ (glyph_high (n % base)) in
    let more : is_high (digit_glyph false (n % base) ∷ acc) ≡ true = and_from _ _ first h in
    elim (cases_Bool (eqb (n / base) 0)) [
      | inl e ↦ rw e more
      | inr e ↦ rw e (onto_high k base (n / base) (digit_glyph false (n % base) ∷ acc) more)
    ]

onto_some : (k base n : ℕ) (acc : List ℕ) → 0 < length acc → 0 < length (digits_onto k base false n acc)
onto_some zero base n acc h = h
onto_some (suc k) base n acc h =
    elim (cases_Bool (eqb (n / base) 0)) [
      | inl e ↦ rw e (omega arith)
      | inr e ↦ rw e (onto_some k base (n / base) (digit_glyph false (n % base) ∷ acc) (omega arith))
    ]

first_some : (k base n : ℕ) → 0 < length (digits_onto (suc k) base false n [])
first_some k base n =
    elim (cases_Bool (eqb (n / base) 0)) [
      | inl e ↦ rw e (omega arith)
      | inr e ↦ rw e (onto_some k base (n / base) (digit_glyph false (n % base) ∷ []) (omega arith))
    ]

pub digits_high : (base n : ℕ) → is_high (digits base false n) ≡ true
unfolding digits
digits_high base n = onto_high 64 base n [] refl

pub digits_some : (base n : ℕ) → 0 < length (digits base false n)
unfolding digits
digits_some base n = first_some 63 base n

pub high_visible : (bs : List ℕ) → is_high bs ≡ true → is_visible bs ≡ true
high_visible [] h = refl
high_visible (b ∷ bs) h =
    let r = and_parts _ _ h in
    let lt : 47 < b = ltb-true 47 b r.0 in
    and_from _ _ (lt-ltb 32 b (omega arith)) (high_visible bs r.1)

pub digits_word : (base n : ℕ) → IsWord (digits base false n)
digits_word base n = record { visible = high_visible (digits base false n) (digits_high base n); some = digits_some base n }

high_at : (bs : List ℕ) (k d : ℕ) → is_high bs ≡ true → k < length bs → 47 < get_or bs k d
high_at [] k d h lt = absurd (omega arith)
high_at (b ∷ bs) zero d h lt = ltb-true 47 b (and_parts _ _ h).0
high_at (b ∷ bs) (suc k) d h lt = high_at bs k d (and_parts _ _ h).1 (omega arith)

-- no byte below the digit 0 is among them
pub high_without : (c : ℕ) (bs : List ℕ) → c ≤ 47 → is_high bs ≡ true → All (λ b. eqb b c ≡ false) bs
high_without c bs low h k d lt = let p = high_at bs k d h lt in ne_eqb (get_or bs k d) c (λ e. omega arith)

pub no_dash_first : (b : ℕ) (bs : List ℕ) → 47 < b → bytes_eq (b ∷ bs) (45 ∷ []) ≡ false
no_dash_first b bs h = let e : eqb b 45 ≡ false = ne_eqb b 45 (λ q. omega arith) in rw e refl

-- a word that begins with a digit is no dash
pub no_dash : (w v : List ℕ) → 0 < length w → is_high w ≡ true → bytes_eq (w ++ v) (45 ∷ []) ≡ false
no_dash [] v some h = absurd (omega arith)
no_dash (b ∷ w) v some h = no_dash_first b (w ++ v) (ltb-true 47 b (and_parts _ _ h).0)
