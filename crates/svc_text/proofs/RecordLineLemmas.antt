-- The lines of a record as they are written.
use Rattle.std.proofs.Common.{◌≡◌, ℕ, ◌+◌, ◌-◌, ◌<◌, ◌≤◌, ◌^◌, List, [], ◌∷◌, ◌++◌, length, drop, Result, Ok, Err, OnOk, ap, sym, subst, ◌∙◌, append_assoc, arith}
use Rattle.std.proofs.Math.ListN.{set, drop_of_length-le}
use Rattle.std.specs.Str.{IsAscii}
use Rattle.std.specs.Fmt.{decimal}
use Rattle.std.proofs.lemmas.Fmt.{IsAscii-decimal, length-decimal-le}
use Rattle.std.proofs.lemmas.Grind.{common_steps}
use Rattle.std.proofs.lemmas.List.{drop-set}
use Rattle.std.proofs.lemmas.Str.{IsAscii-append}
use Rattle.std.proofs.lemmas.Str.Ascii.{IsAscii-cons, IsAscii-nil}

-- what was written from the last part to the first is the parts' text
pub one_text : (s i c a b d e p : List ℕ)
    → s ++ (32 ∷ (i ++ (32 ∷ (c ++ (32 ∷ (a ++ (46 ∷ (b ++ (46 ∷ (d ++ (46 ∷ (e ++ (58 ∷ (p ++ (10 ∷ [])))))))))))))))
    ≡ (s ++ (32 ∷ (i ++ (32 ∷ (c ++ (32 ∷ (((a ++ (46 ∷ (b ++ (46 ∷ (d ++ (46 ∷ e)))))) ++ (58 ∷ [])) ++ p))))))) ++ (10 ∷ [])
one_text s i c a b d e p = grind (arith, common_steps)

-- a number of 64 bits has at most 20 digits
pub number_short : (n : ℕ) → n < 2 ^ 64 → length (decimal n) ≤ 20
number_short n fits = length-decimal-le 20 n (omega arith) (omega (arith, fits)) (omega (arith, fits))

-- a number before more bytes
pub number_ascii : (n mark : ℕ) (rest : List ℕ) → n < 2 ^ 64 → mark < 128 → IsAscii rest → IsAscii (decimal n ++ (mark ∷ rest))
number_ascii n mark rest fits low h = IsAscii-append (decimal n) (mark ∷ rest) (IsAscii-decimal n fits) (IsAscii-cons mark rest low h)

-- a space and a number before more bytes
pub space_ascii : (n : ℕ) (rest : List ℕ) → n < 2 ^ 64 → IsAscii rest → IsAscii (32 ∷ decimal n ++ rest)
space_ascii n rest fits h = IsAscii-cons 32 (decimal n ++ rest) (omega arith) (IsAscii-append (decimal n) rest (IsAscii-decimal n fits) h)

-- a byte is written before what stands behind it
pub one_before : (xs rest : List ℕ) (n at end byte : ℕ) → at + n ≡ end → n ≤ 20 → 21 ≤ end → end ≤ length xs → drop at xs ≡ rest
    → drop (at - 1) (set xs (at - 1) byte) ≡ byte ∷ rest
one_before xs rest n at end byte e short room inside is =
    drop-set xs (at - 1) byte (omega (arith, e, short, room, inside))
    ∙ ap (λ (k : ℕ). byte ∷ drop k xs) (omega (arith, e, short, room)) ∙ ap (λ (t : List ℕ). byte ∷ t) is

-- the last byte of a line's bytes
pub last_byte : (xs : List ℕ) → length xs ≡ 168 → drop 167 (set xs 167 10) ≡ 10 ∷ []
last_byte xs long =
    drop-set xs 167 10 (omega (arith, long)) ∙ ap (λ (t : List ℕ). 10 ∷ t) (drop_of_length-le xs {i = 168} (omega (arith, long)))

pub last_ascii : (xs : List ℕ) → length xs ≡ 168 → IsAscii (drop 167 (set xs 167 10))
last_ascii xs long = subst IsAscii (sym (last_byte xs long)) (IsAscii-cons 10 [] (omega arith) IsAscii-nil)

-- two numbers, and three
pub two_numbers : (m n : List ℕ) → 32 ∷ m ++ (32 ∷ n ++ (10 ∷ [])) ≡ 32 ∷ m ++ 32 ∷ n ++ 10 ∷ []
two_numbers m n = grind (arith, common_steps)

pub three_numbers : (k m n : List ℕ) → 32 ∷ k ++ (32 ∷ m ++ (32 ∷ n ++ (10 ∷ []))) ≡ 32 ∷ k ++ 32 ∷ m ++ 32 ∷ n ++ 10 ∷ []
three_numbers k m n = grind (arith, common_steps)

-- two pieces are appended, one after the other
pub two_pieces : {X E : Type 0} (result : Result X E) (was now more first second third : List ℕ) → now ≡ was ++ first → OnOk result (more ≡ now ++ second)
    → second ≡ third → OnOk result (more ≡ was ++ (first ++ third))
two_pieces (Ok _) was now more first second third e f g =
    f ∙ ap (λ (t : List ℕ). t ++ second) e ∙ append_assoc was first second ∙ ap (λ (t : List ℕ). was ++ (first ++ t)) g
two_pieces (Err _) was now more first second third e f g = tt
