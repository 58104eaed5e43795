-- Values that are printed are read back.
use Rattle.std.proofs.Common.{◌≡◌, ℕ, zero, suc, ◌-◌, ◌^◌, ◌<◌, ◌≤◌, Bool, true, false, not, ◌||◌, ◌&&◌, ◌==◌, eqb, List, [], ◌∷◌, ◌++◌, length, get_or, Some, refl, sym, ap, ◌∙◌, inl, inr, arith, append_assoc}
use Rattle.std.specs.Prelude.{flat_map, codes}
use Rattle.std.specs.List.{list_all}
use Rattle.std.specs.Fmt.{decimal}
use Rattle.std.specs.Int.{is_in_range}
use Rattle.std.proofs.lemmas.Bool.Decides.{nat_tests}
use Rattle.std.specs.Str.{is_utf8, IsUtf8, bytes_eq}
use Rattle.std.specs.Str.Lines.{lines, strip_carriage_return}
use Rattle.std.specs.Str.Parse.{AllDigits}
use Rattle.std.proofs.lemmas.Bool.{cases_Bool, eqb-true, both_ways, and_parts, and_from, ne_eqb}
use Rattle.std.proofs.lemmas.Str.{is_utf8-from_IsUtf8, IsUtf8-from_ascii}
use Rattle.std.proofs.lemmas.Fmt.{decimal_is_IsNumeral, IsAscii-decimal}
use Rattle.std.proofs.lemmas.Str.Parse.{digit_from_value}
use Rattle.svc_conf.specs.declared.server.configuration.values.Value.{Value}
use Rattle.svc_conf.specs.TextLines.{first_is, before_comment, unless_blank, without_end}
use Rattle.svc_base.specs.Words.{is_blank, number_of}
use Rattle.svc_conf.specs.Values.{behind, double, is_mark, has_colon, ends_in_colon, is_plain, is_null_word, is_unset, value_of}
use Rattle.svc_conf.specs.Printing.{is_plain_byte, is_plain_front, needs_no_quotes, escape, text_shown, IsText}
use Rattle.svc_base.proofs.LineLemmas.{lines-then}
use Rattle.svc_base.proofs.DecimalLemmas.{number_of-decimal}
use Rattle.svc_conf.proofs.ValueLemmas.{double-other}

-- a byte that passes a test isn't one that fails it
not_at : (p : ℕ → Bool) (b c : ℕ) → p b ≡ true → p c ≡ false → eqb b c ≡ false
not_at p b c h k =
    elim (cases_Bool (eqb b c)) [
      | inl t ↦ absurd (both_ways (p c) k (ap p (sym (eqb-true b c t)) ∙ h))
      | inr f ↦ f
    ]

not_from : (p : ℕ → Bool) (b c : ℕ) → p b ≡ true → p c ≡ false → eqb c b ≡ false
not_from p b c h k =
    elim (cases_Bool (eqb c b)) [
      | inl t ↦ absurd (both_ways (p c) k (ap p (eqb-true c b t) ∙ h))
      | inr f ↦ f
    ]

-- ---- lines

-- no byte that ends a line
abbrev pub is_clean : ℕ → Bool
is_clean b = not (b == 10) && not (b == 13)

pub clean_append : (xs ys : List ℕ) → list_all is_clean xs ≡ true → list_all is_clean ys ≡ true → list_all is_clean (xs ++ ys) ≡ true
clean_append [] ys p q = q
clean_append (x ∷ xs) ys p q = let r = and_parts (is_clean x) _ p in and_from _ _ r.0 (clean_append xs ys r.1 q)

clean_at : (bs : List ℕ) (k d : ℕ) → list_all is_clean bs ≡ true → k < length bs → is_clean (get_or bs k d) ≡ true
clean_at [] k d h lt = absurd (omega arith)
clean_at (b ∷ bs) zero d h lt = (and_parts (is_clean b) _ h).0
clean_at (b ∷ bs) (suc k) d h lt = clean_at bs k d (and_parts (is_clean b) _ h).1 (omega arith)

last_kept : (bs : List ℕ) → list_all is_clean bs ≡ true → eqb (get_or bs (length bs - 1) 0) 13 ≡ false
last_kept [] h = refl
last_kept (b ∷ bs) h = not_at is_clean (get_or (b ∷ bs) (length (b ∷ bs) - 1) 0) 13 (clean_at (b ∷ bs) (length (b ∷ bs) - 1) 0 h (omega arith)) refl

-- a line that is printed before more text is the text's first line
pub line_back : (bs rest : List ℕ) → list_all is_clean bs ≡ true → lines (bs ++ 10 ∷ rest) ≡ bs ∷ lines rest
line_back bs rest h =
    let kept : strip_carriage_return bs ≡ bs = rw (last_kept bs h) refl in
    lines-then bs rest (λ k d lt. not_at is_clean (get_or bs k d) 10 (clean_at bs k d h lt) refl) ∙ ap (λ (l : List ℕ). l ∷ lines rest) kept

-- ---- plain values

plain_comment : (free : Bool) (bs : List ℕ) → list_all is_plain_byte bs ≡ true → before_comment free bs ≡ bs
plain_comment free [] h = refl
plain_comment free (b ∷ bs) h =
    let r = and_parts (is_plain_byte b) _ h in
    let e : (free && (b == 35)) ≡ false = rw (not_at is_plain_byte b 35 r.0 refl) (both free) in
    rw e (ap (λ (v : List ℕ). b ∷ v) (plain_comment (is_blank b) bs r.1))
  where
    both : (x : Bool) → (x && false) ≡ false
    both true = refl
    both false = refl

plain_blank : (b : ℕ) → is_plain_byte b ≡ true → is_blank b ≡ false
plain_blank b h = rw (not_at is_plain_byte b 32 h refl, not_at is_plain_byte b 9 h refl) refl

plain_end : (bs : List ℕ) → list_all is_plain_byte bs ≡ true → without_end bs ≡ bs
plain_end [] h = refl
plain_end (b ∷ bs) h =
    let r = and_parts (is_plain_byte b) _ h in
    ap (unless_blank b) (plain_end bs r.1) ∙ kept bs
  where
    kept : (cs : List ℕ) → unless_blank b cs ≡ b ∷ cs
    kept [] = rw (plain_blank b (and_parts (is_plain_byte b) _ h).0) refl
    kept (c ∷ cs) = refl

plain_colon : (bs : List ℕ) → list_all is_plain_byte bs ≡ true → has_colon bs ≡ false
plain_colon [] h = refl
plain_colon (b ∷ []) h = both (b == 58)
  where
    both : (x : Bool) → ((x && false) || false) ≡ false
    both true = refl
    both false = refl
plain_colon (b ∷ c ∷ bs) h =
    let r = and_parts (is_plain_byte b) _ h in
    let s = and_parts (is_plain_byte c) _ r.1 in
    rw (not_at is_plain_byte c 32 s.0 refl, plain_colon (c ∷ bs) r.1) (both (b == 58))
  where
    both : (x : Bool) → ((x && false) || false) ≡ false
    both true = refl
    both false = refl

front_mark : (b : ℕ) → is_plain_front b ≡ true → is_mark b ≡ false
front_mark b h =
    rw (
      not_from is_plain_front b 91 h refl,
      not_from is_plain_front b 123 h refl,
      not_from is_plain_front b 93 h refl,
      not_from is_plain_front b 125 h refl,
      not_from is_plain_front b 38 h refl,
      not_from is_plain_front b 42 h refl,
      not_from is_plain_front b 33 h refl,
      not_from is_plain_front b 124 h refl,
      not_from is_plain_front b 62 h refl,
      not_from is_plain_front b 37 h refl,
      not_from is_plain_front b 64 h refl,
      not_from is_plain_front b 44 h refl,
      not_from is_plain_front b 63 h refl,
      not_from is_plain_front b 96 h refl,
    ) refl

pub plain_back : (t : List ℕ) → first_is is_plain_front t ≡ true → list_all is_plain_byte t ≡ true → ends_in_colon t ≡ false → is_utf8 t ≡ true
    → value_of (32 ∷ t) ≡ Some (record { quoted = false; text = t })
unfolding value_of
plain_back [] f all e u = absurd cc
plain_back (b ∷ bs) f all e u =
    let r = and_parts (is_plain_byte b) _ all in
    let blank : is_blank b ≡ false = plain_blank b r.0 in
    let single_quote : eqb b 39 ≡ false = not_at is_plain_byte b 39 r.0 refl in
    let double_quote : eqb b 34 ≡ false = not_at is_plain_byte b 34 r.0 refl in
    let bare : without_end (before_comment true (b ∷ bs)) ≡ b ∷ bs = ap without_end (plain_comment true (b ∷ bs) all) ∙ plain_end (b ∷ bs) all in
    let no_mark : is_mark b ≡ false = front_mark b f in
    let no_colon : has_colon (b ∷ bs) ≡ false = plain_colon (b ∷ bs) all in
    let plain : is_plain (b ∷ bs) ≡ true = rw (no_mark, no_colon, e) (either (bytes_eq (b ∷ bs) (codes "[]"))) in
    rw (blank, single_quote, double_quote, bare, plain, u) refl
  where
    either : (x : Bool) → (x || true) ≡ true
    either true = refl
    either false = refl

-- ---- numbers

digit_range : (d : ℕ) → 48 ≤ d → d ≤ 57 → is_in_range 48 57 d ≡ true
digit_range d low high = grind (arith, nat_tests)

digit_front : (d : ℕ) → is_in_range 48 57 d ≡ true → is_plain_front d ≡ true
digit_front d e = rw e refl

digit_byte : (d : ℕ) → is_in_range 48 57 d ≡ true → is_plain_byte d ≡ true
digit_byte d e = rw e refl

digit_here : (d : ℕ) (ds : List ℕ) → AllDigits 10 (d ∷ ds) → is_in_range 48 57 d ≡ true
digit_here d ds h = let r = digit_from_value d h.0 in digit_range d (omega (arith, r)) (omega (arith, r))

digits_plain : (ds : List ℕ) → AllDigits 10 ds → list_all is_plain_byte ds ≡ true
digits_plain [] h = refl
digits_plain (d ∷ ds) h = and_from _ _ (digit_byte d (digit_here d ds h)) (digits_plain ds h.1)

digits_colon : (ds : List ℕ) → AllDigits 10 ds → ends_in_colon ds ≡ false
digits_colon [] h = refl
digits_colon (d ∷ []) h = not_at (is_in_range 48 57) d 58 (digit_here d [] h) refl
digits_colon (d ∷ e ∷ ds) h = digits_colon (e ∷ ds) h.1

digits_front : (ds : List ℕ) → AllDigits 10 ds → 0 < length ds → first_is is_plain_front ds ≡ true
digits_front [] h some = absurd (omega arith)
digits_front (d ∷ ds) h some = digit_front d (digit_here d ds h)

digits_set : (ds : List ℕ) → AllDigits 10 ds → 0 < length ds → is_unset (record { quoted = false; text = ds }) ≡ false
digits_set [] h some = absurd (omega arith)
digits_set (d ∷ ds) h some =
    let e = digit_here d ds h in
    rw (
      not_at (is_in_range 48 57) d 110 e refl,
      not_at (is_in_range 48 57) d 78 e refl,
      not_at (is_in_range 48 57) d 126 e refl,
      ne_eqb (length (d ∷ ds)) 0
          (λ z. omega arith),
    ) refl

-- a value is read back as such a number
pub record IsNumberValue (n : ℕ) (bytes : List ℕ) : Type 0 where
  pub value : value_of (32 ∷ bytes) ≡ Some (record { quoted = false; text = bytes })
  pub unset : is_unset (record { quoted = false; text = bytes }) ≡ false
  pub number : number_of (2 ^ 64) bytes ≡ Some n

pub number_back : (n : ℕ) → n < 2 ^ 64 → IsNumberValue n (decimal n)
number_back n below =
    let p = (decimal_is_IsNumeral n below).0 in
    let ascii : IsUtf8 (decimal n) = IsUtf8-from_ascii (decimal n) (IsAscii-decimal n below) in
    record {
      value = plain_back (decimal n) (digits_front (decimal n) p.1 p.0) (digits_plain (decimal n) p.1) (digits_colon (decimal n) p.1)
          (is_utf8-from_IsUtf8 (decimal n) ascii);
      unset = digits_set (decimal n) p.1 p.0;
      number = number_of-decimal (2 ^ 64) n (omega arith) below;
    }

-- ---- texts

clean_plain : (bs : List ℕ) → list_all is_plain_byte bs ≡ true → list_all is_clean bs ≡ true
clean_plain [] h = refl
clean_plain (b ∷ bs) h =
    let r = and_parts (is_plain_byte b) _ h in
    rw (not_at is_plain_byte b 10 r.0 refl, not_at is_plain_byte b 13 r.0 refl) (clean_plain bs r.1)

pub number_clean : (n : ℕ) → n < 2 ^ 64 → list_all is_clean (decimal n) ≡ true
number_clean n below = clean_plain (decimal n) (digits_plain (decimal n) (decimal_is_IsNumeral n below).0.1)

escape_step : (b : ℕ) (bs : List ℕ) → double (escape b ++ bs) ≡ behind (b ∷ []) (double bs)
escape_step b bs =
    elim (cases_Bool (b == 34)) [
      | inl t ↦ let e : b ≡ 34 = eqb-true b 34 t in rw e refl
      | inr f ↦ elim (cases_Bool (b == 92)) [
        | inl t ↦ let e : b ≡ 92 = eqb-true b 92 t in rw e refl
        | inr g ↦ elim (cases_Bool (b == 10)) [
          | inl t ↦ let e : b ≡ 10 = eqb-true b 10 t in rw e refl
          | inr h ↦ elim (cases_Bool (b == 13)) [
            | inl t ↦ let e : b ≡ 13 = eqb-true b 13 t in rw e refl
            | inr i ↦ elim (cases_Bool (b == 9)) [
              | inl t ↦ let e : b ≡ 9 = eqb-true b 9 t in rw e refl
              | inr j ↦ rw (f, g, h, i, j) (double-other b bs f g)
            ]
          ]
        ]
      ]
    ]

escape_clean : (b : ℕ) → list_all is_clean (escape b) ≡ true
escape_clean b =
    elim (cases_Bool (b == 34)) [
      | inl t ↦ rw t refl
      | inr f ↦ elim (cases_Bool (b == 92)) [
        | inl t ↦ rw (f, t) refl
        | inr g ↦ elim (cases_Bool (b == 10)) [
          | inl t ↦ rw (f, g, t) refl
          | inr h ↦ elim (cases_Bool (b == 13)) [
            | inl t ↦ rw (f, g, h, t) refl
            | inr i ↦ elim (cases_Bool (b == 9)) [
              | inl t ↦ rw (f, g, h, i, t) refl
              | inr j ↦ rw (f, g, h, i, j) (rw (h, i) refl)
            ]
          ]
        ]
      ]
    ]

quoted_clean : (t : List ℕ) → list_all is_clean (flat_map escape t) ≡ true
quoted_clean [] = refl
quoted_clean (b ∷ bs) = clean_append (escape b) (flat_map escape bs) (escape_clean b) (quoted_clean bs)

escape_back : (t : List ℕ) → double (flat_map escape t ++ 34 ∷ []) ≡ Some (t, [])
escape_back [] = refl
escape_back (b ∷ bs) =
    ap double (append_assoc (escape b) (flat_map escape bs) (34 ∷ [])) ∙ escape_step b (flat_map escape bs ++ 34 ∷ []) ∙ ap (behind (b ∷ [])) (escape_back bs)

quoted_back : (t : List ℕ) → is_utf8 t ≡ true → value_of (32 ∷ 34 ∷ (flat_map escape t ++ 34 ∷ [])) ≡ Some (record { quoted = true; text = t })
unfolding value_of
quoted_back t u = rw (escape_back t, u) refl

-- a value is read back as this text, and it isn't the word for no value
pub record IsTextValue (text bytes : List ℕ) : Type 0 where
  pub value : Value
  pub value_is : value_of (32 ∷ bytes) ≡ Some value
  pub unset : is_unset value ≡ false
  pub text_is : value.text ≡ text
  pub clean : list_all is_clean bytes ≡ true

pub text_back : (t : List ℕ) → IsText t → IsTextValue t (text_shown t)
unfolding text_shown
text_back t u =
    elim (cases_Bool (needs_no_quotes t)) [
      | inl plain ↦
          let a = and_parts _ _ plain in
          let b = and_parts _ _ a.0 in
          let d = and_parts _ _ b.0 in
          let colon : ends_in_colon t ≡ false = not-true-is (ends_in_colon t) a.1 in
          let word : is_null_word t ≡ false = not-true-is (is_null_word t) d.1 in
          let unset : is_unset (record { quoted = false; text = t }) ≡ false = rw (some t d.0, word) refl in
          rw plain (record {
            value = record { quoted = false; text = t };
            value_is = plain_back t d.0 b.1 colon u;
            unset = unset;
            text_is = refl;
            clean = clean_plain t b.1;
          })
      | inr quoted ↦ rw quoted (record {
        value = record { quoted = true; text = t };
        value_is = quoted_back t u;
        unset = refl;
        text_is = refl;
        clean = clean_append (flat_map escape t) (34 ∷ []) (quoted_clean t) refl;
      })
    ]
  where
    not-true-is : (x : Bool) → not x ≡ true → x ≡ false
    not-true-is true h = absurd cc
    not-true-is false h = refl

    some : (xs : List ℕ) → first_is is_plain_front xs ≡ true → (length xs == 0) ≡ false
    some [] h = absurd cc
    some (x ∷ xs) h = ne_eqb (length (x ∷ xs)) 0 (λ z. omega arith)
