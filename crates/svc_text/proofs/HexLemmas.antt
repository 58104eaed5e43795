-- How `hex_of` goes along a word.
use Rattle.std.proofs.Common.{◌≡◌, ℕ, ◌<◌, ◌≤◌, length, get_or, drop, List, [], ◌∷◌, ◌++◌, Option, Some, None, refl, sym, ap, ◌∙◌, append_assoc, arith}
use Rattle.std.specs.Option.{option_map}
use Rattle.std.proofs.lemmas.List.{append-nil}
use Rattle.svc_text.specs.EventLines.{hex_byte_of, hex_of}

-- the bytes so far, before those that the rest says
abbrev pub behind : List ℕ → Option (List ℕ) → Option (List ℕ)
behind bytes o = option_map (λ more. bytes ++ more) o

behind_pushed : (bytes : List ℕ) (byte : ℕ) (o : Option (List ℕ)) → behind bytes (option_map (λ more. byte ∷ more) o) ≡ behind (bytes ++ byte ∷ []) o
behind_pushed bytes byte None = refl
behind_pushed bytes byte (Some more) = ap (λ (t : List ℕ). Some t) (sym (append_assoc bytes (byte ∷ []) more))

two_first : (rest : List ℕ) → 2 ≤ length rest → rest ≡ get_or rest 0 0 ∷ get_or rest 1 0 ∷ drop 2 rest
two_first [] h = absurd (omega arith)
two_first (a ∷ []) h = absurd (omega arith)
two_first (a ∷ b ∷ rest) h = refl

-- one byte more
pub hex_of-more : (word rest bytes others : List ℕ) (byte : ℕ) → hex_of word ≡ behind bytes (hex_of rest) → 2 ≤ length rest
    → Some byte ≡ hex_byte_of (get_or rest 0 0) (get_or rest 1 0) → others ≡ bytes ++ byte ∷ []
    → hex_of word ≡ behind others (hex_of (drop 2 rest))
unfolding hex_of
hex_of-more word rest bytes others byte h le eb eo =
    let step : hex_of (get_or rest 0 0 ∷ get_or rest 1 0 ∷ drop 2 rest) ≡ option_map (λ more. byte ∷ more) (hex_of (drop 2 rest)) = rw (← eb) refl in
    h ∙ ap (λ (r : List ℕ). behind bytes (hex_of r)) (two_first rest le) ∙ ap (behind bytes) step ∙ behind_pushed bytes byte (hex_of (drop 2 rest))
    ∙ ap (λ (t : List ℕ). behind t (hex_of (drop 2 rest))) (sym eo)

-- two bytes that are no digits
pub hex_of-stops : (word rest bytes : List ℕ) → hex_of word ≡ behind bytes (hex_of rest) → 2 ≤ length rest
    → None ≡ hex_byte_of (get_or rest 0 0) (get_or rest 1 0) → hex_of word ≡ None
unfolding hex_of
hex_of-stops word rest bytes h le eb =
    let step : hex_of (get_or rest 0 0 ∷ get_or rest 1 0 ∷ drop 2 rest) ≡ None = rw (← eb) refl in
    h ∙ ap (λ (r : List ℕ). behind bytes (hex_of r)) (two_first rest le) ∙ ap (behind bytes) step

-- nothing is left
pub hex_of-end : (word rest bytes : List ℕ) → hex_of word ≡ behind bytes (hex_of rest) → length rest ≡ 0 → hex_of word ≡ Some bytes
unfolding hex_of
hex_of-end word [] bytes h e = h ∙ ap (λ (t : List ℕ). Some t) (append-nil bytes)
hex_of-end word (a ∷ rest) bytes h e = absurd (omega arith)

-- one digit is left
pub hex_of-odd : (word rest bytes : List ℕ) → hex_of word ≡ behind bytes (hex_of rest) → length rest < 2 → (length rest ≡ 0 → ⊥) → hex_of word ≡ None
unfolding hex_of
hex_of-odd word [] bytes h lt e = absurd (e refl)
hex_of-odd word (a ∷ []) bytes h lt e = h
hex_of-odd word (a ∷ b ∷ rest) bytes h lt e = absurd (omega arith)
