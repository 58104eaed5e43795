-- When `number_of` gives a number.
use Rattle.std.proofs.Common.{◌≡◌, ℕ, ◌+◌, ◌^◌, ◌<◌, ◌≤◌, true, false, ltb, eqb, ◌||◌, ◌&&◌, List, [], ◌∷◌, length, get_or, Some, None, Result, Ok, Err, refl, sym, ap, subst, inl, inr, ◌≢◌, ◌∙◌, arith}
use Rattle.std.specs.Str.{bytes_eq, IsUtf8}
use Rattle.std.specs.Str.Parse.{digits_value, AllDigits, ParsesUnsigned}
use Rattle.std.specs.Fmt.{decimal}
use Rattle.std.specs.Result.{result_ok, OkIff}
use Rattle.std.proofs.lemmas.Bool.{lt-ltb, ltb-true, and_parts, cases_Bool, cases_lt, both_ways}
use Rattle.std.proofs.lemmas.Bool.Decides.{nat_tests}
use Rattle.std.proofs.lemmas.Str.{IsUtf8-from_ascii}
use Rattle.std.proofs.lemmas.Str.Parse.{IsNumeralModel, numerals_by_value, tells_digits, parse_plain}
use Rattle.std.proofs.lemmas.Fmt.{decimal_is_IsNumeral, IsAscii-decimal, decimal_digit, first_decimal, decimal-digits_value, digits_decimal, decimal_nonempty}
use Rattle.std.proofs.lemmas.Slice.Eq.{bytes_eq-Decides}
use Rattle.svc_base.specs.Words.{number_of, has_spare_front}

pub number_of-decimal : (limit n : ℕ) → limit ≤ 2 ^ 64 → n < limit → number_of limit (decimal n) ≡ Some n
unfolding number_of
number_of-decimal limit n wide below =
    let v : digits_value 10 (decimal n) ≡ n = (decimal_is_IsNumeral n (omega arith)).1 in
    let t : ltb n limit ≡ true = lt-ltb n limit below in
    let s : bytes_eq (decimal n) (decimal n) ≡ true = (bytes_eq-Decides (decimal n) (decimal n)).1 refl in
    rw (v, t, s) refl

pub number_missing : (limit : ℕ) (bs : List ℕ) → ((n : ℕ) → n < limit → decimal n ≡ bs → ⊥) → number_of limit bs ≡ None
unfolding number_of
number_missing limit bs never =
    let n : ℕ = digits_value 10 bs in
    elim (cases_Bool (ltb n limit && bytes_eq (decimal n) bs)) [
      | inl spelt ↦ let p = and_parts _ _ spelt in absurd (never n (ltb-true n limit p.0) ((bytes_eq-Decides (decimal n) bs).0 p.1))
      | inr other ↦ rw other refl
    ]

own : IsNumeralModel (AllDigits 10) (digits_value 10)
own = numerals_by_value (AllDigits 10) tells_digits

later_digit : (x len : ℕ) → 48 < x → ((eqb x 43) || ((eqb x 48) && ltb 1 len)) ≡ false
later_digit x len h = grind (arith, nat_tests)

one_digit : (x : ℕ) → 48 ≤ x → ((eqb x 43) || ((eqb x 48) && ltb 1 1)) ≡ false
one_digit x h = grind (arith, nat_tests)

plain_sign : (x len : ℕ) → ((eqb x 43) || ((eqb x 48) && ltb 1 len)) ≡ false → x ≡ 43 → ⊥
plain_sign x len h e = grind (arith, nat_tests)

plain_lead : (x len : ℕ) → ((eqb x 43) || ((eqb x 48) && ltb 1 len)) ≡ false → x ≡ 48 → len ≤ 1
plain_lead x len h e = grind (arith, nat_tests)

no_spare : (n : ℕ) → n < 2 ^ 64 → has_spare_front (decimal n) ≡ true → ⊥
no_spare n below h =
    elim (cases_lt n 10) [
      | inl small ↦
          let e = ap has_spare_front (decimal_digit n small) in both_ways (has_spare_front ((48 + n) ∷ [])) (one_digit (48 + n) (omega arith)) (sym e ∙ h)
      | inr large ↦ let f = first_decimal n (omega arith) below in both_ways _ (later_digit (get_or (decimal n) 0 0) (length (decimal n)) f) h
    ]

pub number_spare : (bs : List ℕ) → has_spare_front bs ≡ true → number_of (2 ^ 64) bs ≡ None
number_spare bs h = number_missing (2 ^ 64) bs (λ n below e. no_spare n below (ap has_spare_front e ∙ h))

pub number_not_text : (bs : List ℕ) → ¬ (IsUtf8 bs) → number_of (2 ^ 64) bs ≡ None
number_not_text bs h = number_missing (2 ^ 64) bs (λ n below e. h (subst IsUtf8 e (IsUtf8-from_ascii (decimal n) (IsAscii-decimal n below))))

one_byte : (bs : List ℕ) → get_or bs 0 0 ≡ 48 → length bs ≤ 1 → length bs ≡ 1
one_byte [] e le = absurd (omega arith)
one_byte (b ∷ bs) e le = omega arith

parsed_is : {E : Type 0} (bs : List ℕ) (r : Result ℕ E) → (get_or bs 0 0 ≡ 48 → length bs ≡ 1)
    → OkIff r (AllDigits 10 bs × (0 < length bs) × (digits_value 10 bs < 2 ^ 64)) (digits_value 10 bs) → result_ok r ≡ number_of (2 ^ 64) bs
parsed_is bs (Ok x) lead h =
    let spelt : decimal (digits_value 10 bs) ≡ bs = decimal-digits_value own bs h.0.0 h.0.1 lead h.0.2 in
    let known : number_of (2 ^ 64) bs ≡ Some (digits_value 10 bs) =
    ap (number_of (2 ^ 64)) (sym spelt) ∙ number_of-decimal (2 ^ 64) (digits_value 10 bs) (omega arith) h.0.2 in
    ap (λ (n : ℕ). Some n) h.1 ∙ sym known
parsed_is bs (Err f) lead h =
    sym (number_missing (2 ^ 64) bs (λ n below e.
    let v : digits_value 10 bs ≡ n = ap (digits_value 10) (sym e) ∙ (decimal_is_IsNumeral n below).1 in
    h (subst (AllDigits 10) e (digits_decimal own n below), subst (λ (w : List ℕ). 0 < length w) e (decimal_nonempty n below), omega arith)))

pub number_parsed : {E : Type 0} (bs : List ℕ) (r : Result ℕ E) → has_spare_front bs ≡ false → ParsesUnsigned 64 10 bs r → result_ok r ≡ number_of (2 ^ 64) bs
number_parsed bs r plain h =
    let sign : get_or bs 0 0 ≢ 43 = plain_sign (get_or bs 0 0) (length bs) plain in
    parsed_is bs r (λ zero_first. one_byte bs zero_first (plain_lead (get_or bs 0 0) (length bs) plain zero_first)) (parse_plain own 64 bs r h sign)
