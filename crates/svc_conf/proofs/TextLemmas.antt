-- A configuration is printed as UTF-8.
use Rattle.std.proofs.Common.{◌≡◌, ℕ, ◌+◌, ◌/◌, ◌^◌, ◌<◌, ◌≤◌, Bool, true, false, cond, ◌==◌, ltb, List, [], ◌∷◌, ◌++◌, All, Option, Some, None, refl, sym, subst, inl, inr, arith}
use Rattle.std.specs.Prelude.{flat_map, codes, if◌then◌else◌}
use Rattle.std.specs.Fmt.{decimal}
use Rattle.std.specs.Str.{is_utf8, IsUtf8, chars}
use Rattle.std.proofs.Math.Utf8.{scalar, scalars, next, encode, encodes, low_scalar}
use Rattle.std.proofs.lemmas.Bool.{cases_Bool, and_parts, ne_eqb, ltb-true, ltb-false}
use Rattle.std.proofs.lemmas.Fmt.{IsAscii-decimal}
use Rattle.std.proofs.lemmas.Grind.{flat_map-append}
use Rattle.std.proofs.lemmas.List.{append-nil}
use Rattle.std.proofs.lemmas.Str.{encode_ascii, IsUtf8-append, IsUtf8-nil, IsUtf8-from_ascii, IsUtf8-from_is_utf8, is_utf8-from_IsUtf8}
use Rattle.svc_base.specs.declared.runtime.RuntimeMetricsPollTimeHistogramScale.{RuntimeMetricsPollTimeHistogramScale}
use Rattle.svc_base.specs.declared.runtime.RuntimeMetricsPollTimeHistogramScale.TheVariants.{Linear, Log}
use Rattle.svc_conf.specs.declared.server.configuration.ServerConf.{ServerConf}
use Rattle.svc_conf.specs.declared.server.configuration.key.Key.{Key}
use Rattle.svc_conf.specs.declared.server.configuration.key.Key.TheVariants as keys
use Rattle.svc_conf.specs.declared.server.configuration.field.Field.{Field}
use Rattle.svc_conf.specs.declared.server.configuration.field.Field.TheVariants as fields
use Rattle.svc_conf.specs.Fields.{field_of, all_keys, held_number, held_flag, held_text, held_optional_text, held_optional_number, held_list}
use Rattle.svc_conf.specs.Keys.{key_name}
use Rattle.svc_conf.proofs.ShownLemmas.{first_of, more_of}
use Rattle.svc_conf.specs.Printing.{escape, needs_no_quotes, text_shown, flag_shown, scale_shown, or_null, value_line, item_line, list_lines, field_lines, key_lines, yaml, IsText, IsOptional, FieldFits, KeyFits}

-- ---- bytes of ASCII

ascii : (b : ℕ) → b < 128 → IsUtf8 (b ∷ [])
ascii b h = (b ∷ [], (rw (low_scalar b (omega (arith, h))) refl, rw (encode_ascii b h) refl))

front : (b : ℕ) (bs : List ℕ) → b < 128 → IsUtf8 bs → IsUtf8 (b ∷ bs)
front b bs h u = IsUtf8-append (b ∷ []) bs (ascii b h) u

behind : (bs : List ℕ) (b : ℕ) → IsUtf8 bs → b < 128 → IsUtf8 (bs ++ b ∷ [])
behind bs b u h = IsUtf8-append bs (b ∷ []) u (ascii b h)

-- ---- texts between quotes

after_backslash : (b : ℕ) → b < 128 → IsUtf8 (92 ∷ b ∷ [])
after_backslash b h = front 92 (b ∷ []) (omega arith) (ascii b h)

escape_ascii : (b : ℕ) → b < 128 → IsUtf8 (escape b)
escape_ascii b h =
    elim (cases_Bool (b == 34)) [
      | inl t ↦ rw t (after_backslash 34 (omega arith))
      | inr f ↦ elim (cases_Bool (b == 92)) [
        | inl t ↦ rw (f, t) (after_backslash 92 (omega arith))
        | inr g ↦ elim (cases_Bool (b == 10)) [
          | inl t ↦ rw (f, g, t) (after_backslash 110 (omega arith))
          | inr i ↦ elim (cases_Bool (b == 13)) [
            | inl t ↦ rw (f, g, i, t) (after_backslash 114 (omega arith))
            | inr j ↦ elim (cases_Bool (b == 9)) [
              | inl t ↦ rw (f, g, i, j, t) (after_backslash 116 (omega arith))
              | inr k ↦ rw (f, g, i, j, k) (ascii b h)
            ]
          ]
        ]
      ]
    ]

escape_other : (b : ℕ) → 128 ≤ b → escape b ≡ b ∷ []
escape_other b h =
    rw (
      ne_eqb b 34 (λ e. omega (arith, e, h)),
      ne_eqb b 92 (λ e. omega (arith, e, h)),
      ne_eqb b 10 (λ e. omega (arith, e, h)),
      ne_eqb b 13 (λ e. omega (arith, e, h)),
      ne_eqb b 9 (λ e. omega (arith, e, h)),
    ) refl

-- no byte of ASCII
abbrev AreOther : List ℕ → Type 0
AreOther [] = Unit {0}
AreOther (b ∷ bs) = (128 ≤ b) × AreOther bs

others_kept : (bs : List ℕ) → AreOther bs → flat_map escape bs ≡ bs
others_kept [] h = refl
others_kept (b ∷ bs) h = rw (escape_other b h.0, others_kept bs h.1) refl

encode_other : (c : ℕ) → 128 ≤ c → AreOther (encode c)
unfolding encode
encode_other c h = first (ltb c 128) refl
  where
    third : (b : Bool) → AreOther (cond b ((224 + c / 4096) ∷ next (c / 64) ∷ next c ∷ [])
        ((240 + c / 262144) ∷ next (c / 4096) ∷ next (c / 64) ∷ next c ∷ []))
    third true = (omega arith, (omega arith, (omega arith, tt)))
    third false = (omega arith, (omega arith, (omega arith, (omega arith, tt))))

    second : (b : Bool) → AreOther (cond b ((192 + c / 64) ∷ next c ∷ []) (cond (ltb c 65536) ((224 + c / 4096) ∷ next (c / 64) ∷ next c ∷ [])
        ((240 + c / 262144) ∷ next (c / 4096) ∷ next (c / 64) ∷ next c ∷ [])))
    second true = (omega arith, (omega arith, tt))
    second false = third (ltb c 65536)

    first : (b : Bool) → ltb c 128 ≡ b → AreOther (cond b (c ∷ []) (cond (ltb c 2048) ((192 + c / 64) ∷ next c ∷ [])
        (cond (ltb c 65536) ((224 + c / 4096) ∷ next (c / 64) ∷ next c ∷ [])
        ((240 + c / 262144) ∷ next (c / 4096) ∷ next (c / 64) ∷ next c ∷ []))))
    first true e = absurd (let low = ltb-true c 128 e in omega (arith, low, h))
    first false e = second (ltb c 2048)

character : (c : ℕ) → scalar c ≡ true → IsUtf8 (encode c)
character c s = (c ∷ [], (rw s refl, append-nil (encode c)))

character_text : (c : ℕ) → scalar c ≡ true → IsUtf8 (flat_map escape (encode c))
character_text c s =
    elim (cases_Bool (ltb c 128)) [
      | inl t ↦
          let low : c < 128 = ltb-true c 128 t in
          subst (λ (bs : List ℕ). IsUtf8 (flat_map escape bs)) (sym (encode_ascii c low)) (IsUtf8-append (escape c) [] (escape_ascii c low) IsUtf8-nil)
      | inr f ↦ subst IsUtf8 (sym (others_kept (encode c) (encode_other c (ltb-false c 128 f)))) (character c s)
    ]

characters_text : (cs : List ℕ) → scalars cs ≡ true → IsUtf8 (flat_map escape (encodes cs))
characters_text [] h = IsUtf8-nil
characters_text (c ∷ cs) h =
    let p = and_parts (scalar c) (scalars cs) h in
    subst IsUtf8 (sym (flat_map-append escape (encode c) (encodes cs)))
    (IsUtf8-append (flat_map escape (encode c)) (flat_map escape (encodes cs)) (character_text c p.0) (characters_text cs p.1))

quoted_text : (t : List ℕ) → IsUtf8 t → IsUtf8 (flat_map escape t)
quoted_text t u = subst (λ (bs : List ℕ). IsUtf8 (flat_map escape bs)) u.1.1 (characters_text u.0 u.1.0)

shown_text : (t : List ℕ) → IsText t → IsUtf8 (text_shown t)
unfolding text_shown
shown_text t fits = by (needs_no_quotes t)
  where
    by : (plain : Bool) → IsUtf8 (if plain then t else 34 ∷ (flat_map escape t ++ 34 ∷ []))
    by true = IsUtf8-from_is_utf8 t fits
    by false =
        front 34 (flat_map escape t ++ 34 ∷ []) (omega arith)
        (behind (flat_map escape t) 34 (quoted_text t (IsUtf8-from_is_utf8 t fits)) (omega arith))

-- ---- values and lines

flag_text : (flag : Bool) → is_utf8 (flag_shown flag) ≡ true
unfolding is_utf8 chars encode
flag_text true = refl
flag_text false = refl

scale_text : (scale : RuntimeMetricsPollTimeHistogramScale) → is_utf8 (scale_shown scale) ≡ true
unfolding is_utf8 chars encode
scale_text Linear = refl
scale_text Log = refl

null_text : is_utf8 (codes "null") ≡ true
unfolding is_utf8 chars encode
null_text = refl

empty_text : is_utf8 (codes "[]") ≡ true
unfolding is_utf8 chars encode
empty_text = refl

key_text : (key : Key) → is_utf8 (key_name key) ≡ true
unfolding is_utf8 chars encode
key_text keys.Version = refl
key_text _ = refl

number_text : (n : ℕ) → n < 2 ^ 64 → IsUtf8 (decimal n)
number_text n fits = IsUtf8-from_ascii (decimal n) (IsAscii-decimal n fits)

optional_text : (value : Option (List ℕ)) → IsOptional IsText value → IsUtf8 (or_null text_shown value)
optional_text None fits = IsUtf8-from_is_utf8 (codes "null") null_text
optional_text (Some t) fits = shown_text t fits

optional_number : (value : Option ℕ) → IsOptional (λ n. n < 2 ^ 64) value → IsUtf8 (or_null decimal value)
optional_number None fits = IsUtf8-from_is_utf8 (codes "null") null_text
optional_number (Some n) fits = number_text n fits

optional_scale : (value : Option RuntimeMetricsPollTimeHistogramScale) → IsUtf8 (or_null scale_shown value)
optional_scale None = IsUtf8-from_is_utf8 (codes "null") null_text
optional_scale (Some scale) = IsUtf8-from_is_utf8 (scale_shown scale) (scale_text scale)

line_text : (key : Key) (value : List ℕ) → IsUtf8 value → IsUtf8 (value_line key value)
line_text key value u =
    IsUtf8-append (key_name key) (58 ∷ 32 ∷ (value ++ 10 ∷ [])) (IsUtf8-from_is_utf8 (key_name key) (key_text key))
    (front 58 (32 ∷ (value ++ 10 ∷ [])) (omega arith) (front 32 (value ++ 10 ∷ []) (omega arith) (behind value 10 u (omega arith))))

item_text : (t : List ℕ) → IsText t → IsUtf8 (item_line t)
item_text t fits =
    front 45 (32 ∷ (text_shown t ++ 10 ∷ [])) (omega arith)
    (front 32 (text_shown t ++ 10 ∷ []) (omega arith) (behind (text_shown t) 10 (shown_text t fits) (omega arith)))

items_text : (ts : List (List ℕ)) → All IsText ts → IsUtf8 (flat_map item_line ts)
items_text [] fits = IsUtf8-nil
items_text (t ∷ ts) fits =
    IsUtf8-append (item_line t) (flat_map item_line ts) (item_text t (first_of IsText t ts fits)) (items_text ts (more_of IsText t ts fits))

list_text : (key : Key) (ts : List (List ℕ)) → All IsText ts → IsUtf8 (list_lines key ts)
list_text key [] fits = line_text key (codes "[]") (IsUtf8-from_is_utf8 (codes "[]") empty_text)
list_text key (t ∷ ts) fits =
    IsUtf8-append (key_name key) (58 ∷ 10 ∷ flat_map item_line (t ∷ ts)) (IsUtf8-from_is_utf8 (key_name key) (key_text key))
    (front 58 (10 ∷ flat_map item_line (t ∷ ts)) (omega arith) (front 10 (flat_map item_line (t ∷ ts)) (omega arith) (items_text (t ∷ ts) fits)))

field_text : (key : Key) (field : Field) (conf : ServerConf) → FieldFits field conf → IsUtf8 (field_lines key field conf)
field_text key (fields.Number k) conf fits = line_text key (decimal (held_number k conf)) (number_text (held_number k conf) fits)
field_text key (fields.Flag k) conf fits =
    line_text key (flag_shown (held_flag k conf)) (IsUtf8-from_is_utf8 (flag_shown (held_flag k conf)) (flag_text (held_flag k conf)))
field_text key (fields.Text k) conf fits = line_text key (text_shown (held_text k conf)) (shown_text (held_text k conf) fits)
field_text key (fields.OptionalText k) conf fits =
    line_text key (or_null text_shown (held_optional_text k conf)) (optional_text (held_optional_text k conf) fits)
field_text key (fields.OptionalNumber k) conf fits =
    line_text key (or_null decimal (held_optional_number k conf)) (optional_number (held_optional_number k conf) fits)
field_text key fields.Scale conf fits =
    line_text key (or_null scale_shown conf.runtime_metrics_poll_time_histogram_scale) (optional_scale conf.runtime_metrics_poll_time_histogram_scale)
field_text key (fields.List k) conf fits = list_text key (held_list k conf) fits

lines_text : (conf : ServerConf) (ks : List Key) → All (KeyFits conf) ks → IsUtf8 (flat_map (key_lines conf) ks)
unfolding key_lines
lines_text conf [] fits = IsUtf8-nil
lines_text conf (k ∷ ks) fits =
    IsUtf8-append (field_lines k (field_of k) conf) (flat_map (key_lines conf) ks)
    (field_text k (field_of k) conf (first_of (KeyFits conf) k ks fits)) (lines_text conf ks (more_of (KeyFits conf) k ks fits))

-- the text of a configuration is UTF-8
pub yaml_text : (conf : ServerConf) (bytes : List ℕ) → bytes ≡ yaml conf → All (KeyFits conf) all_keys → IsText bytes
unfolding yaml
yaml_text conf bytes e fits = is_utf8-from_IsUtf8 bytes (subst IsUtf8 (sym e) (lines_text conf all_keys fits))
