-- The numbers that few digits spell.
use Rattle.std.proofs.Common.{◌≡◌, ℕ, ◌+◌, ◌-◌, ◌*◌, ◌^◌, ◌<◌, ◌≤◌, List, length, take, get_or, Some, sym, ap, ◌∙◌, arith}
use Rattle.std.specs.Char.{digit_value}
use Rattle.std.specs.Str.Parse.{AllDigits, digits_value}
use Rattle.std.proofs.lemmas.Str.{digit_value_digit}
use Rattle.std.proofs.lemmas.List.{length-take-le}
use Rattle.std.proofs.lemmas.Int.Digits.{digits_more, digits_value_more}
use Rattle.std.proofs.lemmas.Str.Parse.{numerals_by_value, tells_digits, digits_value_short, digit_from_value}
use Rattle.std.proofs.lemmas.Fmt.{decimal-digits_value}
use Rattle.svc_base.specs.Words.{number_of}
use Rattle.svc_base.proofs.DecimalLemmas.{number_of-decimal}

-- the digits before the last of at most 18 leave room for one more
pub value_small : (bs : List ℕ) (i : ℕ) → i < length bs → length bs ≤ 18 → AllDigits 10 (take i bs) → digits_value 10 (take i bs) < 10 ^ 17
value_small bs i lt few all =
    let len : length (take i bs) ≡ i = length-take-le i bs (omega arith) in
    digits_value_short (numerals_by_value (AllDigits 10) tells_digits) (take i bs) 17 all (omega (arith, len, lt, few))

-- one more digit
pub value_more : (bs : List ℕ) (i : ℕ) → i < length bs → AllDigits 10 (take i bs) → digit_value (get_or bs i 0) < 10
    → (digits_value 10 (take i bs) * 10 + (get_or bs i 0 - 48) ≡ digits_value 10 (take (i + 1) bs)) × AllDigits 10 (take (i + 1) bs)
value_more bs i lt all below =
    let d : digit_value (get_or bs i 0) + 48 ≡ get_or bs i 0 = digit_value_digit (get_or bs i 0) (digit_from_value (get_or bs i 0) below) in
    let digit : get_or bs i 0 - 48 ≡ digit_value (get_or bs i 0) = omega (arith, d) in
    (ap (λ (n : ℕ). digits_value 10 (take i bs) * 10 + n) digit ∙ sym (digits_value_more 10 bs i lt), digits_more 10 bs i lt all below)

-- all digits
pub value_is : (bs : List ℕ) → AllDigits 10 bs → 0 < length bs → length bs ≤ 18 → (get_or bs 0 0 ≡ 48 → length bs ≡ 1)
    → number_of (2 ^ 64) bs ≡ Some (digits_value 10 bs)
value_is bs all some few plain =
    let below : digits_value 10 bs < 10 ^ 18 = digits_value_short (numerals_by_value (AllDigits 10) tells_digits) bs 18 all few in
    let fits : digits_value 10 bs < 2 ^ 64 = omega (arith, below) in
    ap (number_of (2 ^ 64)) (sym (decimal-digits_value (numerals_by_value (AllDigits 10) tells_digits) bs all some plain fits))
    ∙ number_of-decimal (2 ^ 64) (digits_value 10 bs) (omega arith) fits
