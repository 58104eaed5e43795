-- Texts without control characters.
use Rattle.std.proofs.Common.{◌≡◌, ℕ, zero, suc, ◌+◌, ◌/◌, ◌%◌, ◌<◌, ◌≤◌, ◌^◌, ◌-◌, ◌==◌, nat_le, true, false, not, ◌&&◌, ltb, List, [], ◌∷◌, ◌++◌, length, refl, inl, inr, arith, sym, ap, subst, length-append, get_or, All, Any, Bor, Option, Some, None, IfSome, MatchOption}
use Rattle.std.specs.List.{list_all}
use Rattle.std.specs.Char.{is_control}
use Rattle.std.specs.Int.{is_in_range}
use Rattle.std.specs.Fmt.{decimal, digits, digits_onto, digit_glyph, padded_integral, format_spec}
use Rattle.std.proofs.lemmas.Bool.{ltb-true, ltb-false, le-leb, lt-leb, ne_eqb, and_from, and_right, or_from, not_from_false, both_ways, agree_below_at, cond_both, cases_lt}
use Rattle.std.proofs.lemmas.Fmt.{hex_byte}
use Rattle.std.proofs.lemmas.List.Folds.{list_all-append}
use Rattle.std.proofs.lemmas.List.Sums.{AllPass-from_list_all}
use lib.Utf8.{encode}
use Rattle.std.specs.Option.{option_or}
use Rattle.svc_messages.specs.Spelling.{IsOneOff}
use Rattle.svc_messages.specs.Messages.{is_plain, IsPlain, ArePlain, IsMessage}

-- the test of a text that a plain one begins
pub plain_then : (front back : List ℕ) → IsPlain front → list_all is_plain back ≡ true → list_all is_plain (front ++ back) ≡ true
plain_then front back p q = rw (list_all-append is_plain front back, p.bytes) q

high : (b : ℕ) → 128 ≤ b → is_plain b ≡ true
high b h = and_from (nat_le 32 b) (not (b == 127)) (le-leb 32 b (omega arith)) (not_from_false (b == 127) (ne_eqb b 127 (λ e. omega arith)))

high_more : (b : ℕ) (bs : List ℕ) → 128 ≤ b → list_all is_plain bs ≡ true → list_all is_plain (b ∷ bs) ≡ true
high_more b bs h p = and_from (is_plain b) (list_all is_plain bs) (high b h) p

low : (c : ℕ) → is_control c ≡ false → c < 128 → list_all is_plain (c ∷ []) ≡ true
low c h k = and_from (is_plain c) true (let e : is_plain c ≡ not (is_control c) = agree_below_at is_plain (λ x. not (is_control x)) 128 c refl k in cc) refl

-- what a character that is no control character takes
pub plain_encode : (c : ℕ) → is_control c ≡ false → list_all is_plain (encode c) ≡ true
unfolding encode
plain_encode c h =
    cond_both (ltb c 128) _ _ (λ xs. list_all is_plain xs ≡ true) (λ e. low c h (ltb-true c 128 e)) (λ e. let k : 128 ≤ c = ltb-false c 128 e in
    cond_both (ltb c 2048) _ _ (λ xs. list_all is_plain xs ≡ true)
    (λ _. high_more (192 + c / 64) ((128 + c % 64) ∷ []) (omega arith) (high_more (128 + c % 64) [] (omega arith) refl)) (λ _.
    cond_both (ltb c 65536) _ _ (λ xs. list_all is_plain xs ≡ true)
    (λ _. high_more (224 + c / 4096) ((128 + c / 64 % 64) ∷ (128 + c % 64) ∷ []) (omega arith)
    (high_more (128 + c / 64 % 64) ((128 + c % 64) ∷ []) (omega arith) (high_more (128 + c % 64) [] (omega arith) refl)))
    (λ _. high_more (240 + c / 262144) ((128 + c / 4096 % 64) ∷ (128 + c / 64 % 64) ∷ (128 + c % 64) ∷ []) (omega arith)
    (high_more (128 + c / 4096 % 64) ((128 + c / 64 % 64) ∷ (128 + c % 64) ∷ []) (omega arith)
    (high_more (128 + c / 64 % 64) ((128 + c % 64) ∷ []) (omega arith) (high_more (128 + c % 64) [] (omega arith) refl))))))

glyph : (d : ℕ) → d < 16 → is_plain (digit_glyph false d) ≡ true
glyph d h = agree_below_at (λ x. is_plain (digit_glyph false x)) (λ _. true) 16 d refl h

small : (c : ℕ) → is_control c ≡ true → c < 256
small c h = elim (cases_lt c 256) [
  | inl k ↦ k
  | inr k ↦ absurd (both_ways (is_control c) (or_from (is_in_range 0 0x1F c) (is_in_range 0x7F 0x9F c)
      (and_right (nat_le 0 c) (nat_le c 31) (lt-leb c 31 (omega arith))) (and_right (nat_le 127 c) (nat_le c 159) (lt-leb c 159 (omega arith)))) h)
]

-- the number of a character in angle brackets
abbrev pub code_shown : ℕ → List ℕ
code_shown c = 60 ∷ (padded_integral (format_spec 32 0 4 2 (2 ^ 64 - 1)) false [] (digits 16 false c) ++ 62 ∷ [])

pub plain_code : (c : ℕ) → is_control c ≡ true → list_all is_plain (code_shown c) ≡ true
plain_code c h = rw (hex_byte false c (small c h))
    (and_from (is_plain (digit_glyph false (c / 16))) (is_plain (digit_glyph false (c % 16)) && true) (glyph (c / 16) (omega (arith, small c h)))
    (and_from (is_plain (digit_glyph false (c % 16))) true (glyph (c % 16) (omega arith)) refl))

pub code_short : (c : ℕ) (text : List ℕ) → is_control c ≡ true → text ≡ code_shown c → length text ≡ 4
code_short c text h e = rw (e, hex_byte false c (small c h)) refl

-- what is written as these bytes
pub plain_as : (text parts : List ℕ) → text ≡ parts → list_all is_plain parts ≡ true → IsPlain text
plain_as text parts e p = record { bytes = rw e p }

-- a text behind a plain one
pub plain_behind : (text front back : List ℕ) → IsPlain front → text ≡ front ++ back → list_all is_plain back ≡ true → IsPlain text
plain_behind text front back p e q = record { bytes = rw e (plain_then front back p q) }

-- a message that begins with a plain text
pub message_behind : (text front : List ℕ) (b : ℕ) (back : List ℕ) → IsPlain front → text ≡ front ++ b ∷ back → list_all is_plain (b ∷ back) ≡ true
    → IsMessage text
message_behind text front b back p e q = record {
  plain = plain_behind text front (b ∷ back) p e q;
  says = omega (arith, ap length e, length-append front (b ∷ back));
}

-- a message that begins with a byte
pub message_from : (text : List ℕ) (b : ℕ) (back : List ℕ) → text ≡ b ∷ back → list_all is_plain (b ∷ back) ≡ true → IsMessage text
message_from text b back e q = record { plain = plain_as text (b ∷ back) e q; says = omega (arith, ap length e) }

-- a word more behind a message
pub message_more : (old middle new word : List ℕ) → IsMessage old → IsPlain word → middle ≡ old ++ (32 ∷ []) → new ≡ middle ++ word → IsMessage new
message_more old middle new word m p e f = record {
  plain = plain_behind new middle word (plain_behind middle old (32 ∷ []) m.plain e refl) f p.bytes;
  says = omega (arith, m.says, ap length e, ap length f, length-append old (32 ∷ []), length-append middle word);
}

-- a known word is plain where each is
pub known_at : (known : List (Bor (List ℕ))) (i : ℕ) (d : Bor (List ℕ)) → ArePlain known → i < length known → IsPlain (get_or known i d).now
known_at known i d h lt = record { bytes = AllPass-from_list_all (λ name. list_all is_plain name.now) known h i d lt }

pub known_plain : (known : List (Bor (List ℕ))) (meant : List ℕ) → ArePlain known → Any (λ name. name.now ≡ meant) known → IsPlain meant
known_plain known meant h a =
    let P : Bor (List ℕ) → Type 0 = λ b. IsPlain b.now in
    let Q : List ℕ → Type 0 = λ t. IsPlain t in
    subst Q a.4 (subst P a.3 (known_at known a.0 a.1 h a.2))

plain_onto : (k n : ℕ) (back : List ℕ) → list_all is_plain back ≡ true → list_all is_plain (digits_onto k 10 false n back) ≡ true
plain_onto zero n back p = p
plain_onto (suc k) n back p =
    let last : list_all is_plain (digit_glyph false (n % 10) ∷ back) ≡ true =
    and_from (is_plain (digit_glyph false (n % 10))) (list_all is_plain back) (glyph (n % 10) (omega arith)) p in
    cond_both (n / 10 == 0) _ _ (λ xs. list_all is_plain xs ≡ true) (λ _. last) (λ _. plain_onto k (n / 10) (digit_glyph false (n % 10) ∷ back) last)

-- a number
pub plain_decimal : (n : ℕ) → IsPlain (decimal n)
unfolding digits
plain_decimal n = record { bytes = plain_onto 64 n [] refl }

-- the known word that was meant is plain
pub nearest_plain : (word : List ℕ) (known : List (Bor (List ℕ))) (found : Option (Bor (List ℕ)))
    → MatchOption found (All (λ name. IsOneOff word name.now → ⊥) known) (λ meant. IsOneOff word meant.now × Any (λ name. name.now ≡ meant.now) known)
    → ArePlain known → IfSome found (λ text. IsPlain text.now)
nearest_plain word known None m h = tt
nearest_plain word known (Some meant) m h = known_plain known meant.now h m.1

either_plain : (a b : Option (Bor (List ℕ))) → IfSome a (λ text. IsPlain text.now) → IfSome b (λ text. IsPlain text.now)
    → IfSome (option_or a b) (λ text. IsPlain text.now)
either_plain None b p q = q
either_plain (Some x) b p q = p

pub or_plain : (a b found : Option (Bor (List ℕ))) → found ≡ option_or a b → IfSome a (λ text. IsPlain text.now) → IfSome b (λ text. IsPlain text.now)
    → IfSome found (λ text. IsPlain text.now)
or_plain a b found e p q = subst (λ (o : Option (Bor (List ℕ))). IfSome o (λ text. IsPlain text.now)) (sym e) (either_plain a b p q)

-- a message goes on with a plain text
pub message_on : (old new back : List ℕ) → IsMessage old → new ≡ old ++ back → list_all is_plain back ≡ true → IsMessage new
message_on old new back m e p = record {
  plain = plain_behind new old back m.plain e p;
  says = omega (arith, m.says, ap length e, length-append old back);
}
