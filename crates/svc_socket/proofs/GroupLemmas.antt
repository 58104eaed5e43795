-- A group is read digit by digit.
use Rattle.std.proofs.Common.{◌≡◌, ℕ, ◌+◌, ◌*◌, ◌^◌, ◌<◌, ◌≤◌, true, false, leb, if◌then◌else◌, List, length, get_or, take, Option, Some, None, refl, ◌∙◌, inl, inr, arith, lit≤, add-one, pow-suc}
use Rattle.std.specs.Char.{digit_value}
use Rattle.std.specs.List.{list_all}
use Rattle.std.specs.Str.Parse.{digits_value}
use Rattle.std.proofs.lemmas.Bool.{and_parts, cases_Bool}
use Rattle.std.proofs.lemmas.Bool.Decides.{nat_tests}
use Rattle.std.proofs.lemmas.Int.Digits.{digits_value_more}
use Rattle.std.proofs.lemmas.List.{take_all}
use Rattle.std.proofs.lemmas.List.Folds.{list_all_at, list_all_more}
use Rattle.std.proofs.Math.Nat.{pow-le-pow_right}
use Rattle.svc_socket.specs.ReadPeers.{is_hex_digit, is_short, group_of}

-- the digit that a byte is, where it is one
abbrev pub digit_of : ℕ → Option ℕ
digit_of b = if is_hex_digit b then Some (digit_value b) else None

-- the first i bytes are digits of this number
pub record HasDigits (word : List ℕ) (i group : ℕ) : Type 0 where
  pub short : is_short word ≡ true
  pub value : group ≡ digits_value 16 (take i word)
  pub digits : list_all is_hex_digit (take i word) ≡ true
  pub below : group < 16 ^ i

digit_below : (b : ℕ) → is_hex_digit b ≡ true → digit_value b < 16
digit_below b h = grind (arith, nat_tests)

short_length : (word : List ℕ) → is_short word ≡ true → length word ≤ 4
short_length word h = let p : leb (length word) 4 ≡ true = (and_parts _ _ (and_parts _ _ h).0).1 in grind (arith, nat_tests)

pub room : (word : List ℕ) (i group : ℕ) → HasDigits word i group → i < length word → group < 4096
room word i group h lt =
    let four : length word ≤ 4 = short_length word h.short in
    let most : 16 ^ i ≤ 16 ^ 3 = let three : i ≤ 3 = omega arith in pow-le-pow_right (lit≤ tt) three in
    omega (arith, h.below)

known : (b d : ℕ) → Some d ≡ digit_of b → (is_hex_digit b ≡ true) × (d ≡ digit_value b)
known b d e =
    elim (cases_Bool (is_hex_digit b)) [
      | inl t ↦ let e' : Some d ≡ Some (digit_value b) = e ∙ rw t refl in (t, cc)
      | inr f ↦ let e' : Some d ≡ None = e ∙ rw f refl in absurd (cc)
    ]

unknown : (b : ℕ) → None ≡ digit_of b → is_hex_digit b ≡ false
unknown b e =
    elim (cases_Bool (is_hex_digit b)) [
      | inl t ↦ let e' : None ≡ Some (digit_value b) = e ∙ rw t refl in absurd (cc)
      | inr f ↦ f
    ]

pub one_more : (word : List ℕ) (i group d : ℕ) → HasDigits word i group → i < length word → Some d ≡ digit_of (get_or word i 0)
    → HasDigits word (i + 1) (group * 16 + d)
one_more word i group d h lt e =
    let k = known (get_or word i 0) d e in
    let small = digit_below (get_or word i 0) k.0 in
    let grows : 16 ^ (i + 1) ≡ 16 ^ i * 16 = rw (add-one, pow-suc) refl in
    record {
      short = h.short;
      value = rw (digits_value_more 16 word i lt, ← h.value, ← k.1) refl;
      digits = rw (list_all_more is_hex_digit word i 0 lt, h.digits, k.0) refl;
      below = omega (arith, h.below);
    }

pub room_for_digit : (word : List ℕ) (i group d : ℕ) → HasDigits word i group → i < length word → Some d ≡ digit_of (get_or word i 0) → group * 16 + d < 2 ^ 16
room_for_digit word i group d h lt e =
    let k = known (get_or word i 0) d e in
    let small : digit_value (get_or word i 0) < 16 = digit_below (get_or word i 0) k.0 in
    let most : group < 4096 = room word i group h lt in
    omega (arith, k.1)

pub no_digit : (word : List ℕ) (i group : ℕ) → HasDigits word i group → i < length word → None ≡ digit_of (get_or word i 0) → group_of word ≡ None
unfolding group_of
no_digit word i group h lt e =
    let f : list_all is_hex_digit word ≡ false = list_all_at is_hex_digit word i 0 lt (unknown (get_or word i 0) e) in
    rw (h.short, f) refl

pub whole_group : (word : List ℕ) (i group : ℕ) → HasDigits word i group → length word ≤ i → group_of word ≡ Some group
unfolding group_of
whole_group word i group h le =
    let all : take i word ≡ word = take_all i word le in
    let t : list_all is_hex_digit word ≡ true = rw all at h.digits in
    let v : group ≡ digits_value 16 word = rw all at h.value in
    rw (h.short, t, ← v) refl

pub not_short : (word : List ℕ) → is_short word ≡ false → group_of word ≡ None
unfolding group_of
not_short word f = rw f refl
