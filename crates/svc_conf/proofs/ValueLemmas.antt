-- How the values of a configuration text are read byte by byte.
use Rattle.std.proofs.Common.{◌≡◌, ℕ, ◌+◌, ◌-◌, ◌<◌, ◌≤◌, Bool, true, false, ◌==◌, eqb, cond, List, [], ◌∷◌, ◌++◌, length, get_or, take, drop, Option, Some, None, refl, sym, ap, ◌∙◌, inl, inr, arith, append_assoc}
use Rattle.std.proofs.lemmas.Bool.{cases_Bool}
use Rattle.std.proofs.lemmas.List.{take_more, drop_more, take_rest, append-nil}
use Rattle.std.proofs.Math.Seq.{take-length}
use Rattle.svc_conf.specs.TextLines.{unless_blank, without_end}
use Rattle.svc_base.specs.Words.{is_blank}
use Rattle.std.specs.Str.{is_utf8, IsUtf8}
use Rattle.std.proofs.lemmas.Str.{is_utf8-from_IsUtf8, IsUtf8-from_is_utf8}
use Rattle.svc_conf.specs.Values.{behind, single, double, ends_in_colon, value_in}

-- the last byte is a colon, or there is none and the one before was
abbrev pub ends_or : Bool → List ℕ → Bool
ends_or last [] = last
ends_or last (b ∷ bs) = ends_in_colon (b ∷ bs)

pub behind-behind : (xs ys : List ℕ) (o : Option (List ℕ × List ℕ)) → behind xs (behind ys o) ≡ behind (xs ++ ys) o
behind-behind xs ys None = refl
behind-behind xs ys (Some cut) = ap (λ (v : List ℕ). Some (v, cut.1)) (sym (append_assoc xs ys cut.0))

pub double-other : (b : ℕ) (bs : List ℕ) → (b == 34) ≡ false → (b == 92) ≡ false → double (b ∷ bs) ≡ behind (b ∷ []) (double bs)
double-other b [] e f = rw e refl
double-other b (c ∷ bs) e f = rw (e, f) refl

pub single-other : (b : ℕ) (bs : List ℕ) → (b == 39) ≡ false → single (b ∷ bs) ≡ behind (b ∷ []) (single bs)
single-other b [] e = rw e refl
single-other b (c ∷ bs) e = rw e refl

without_end-last : (xs : List ℕ) (b : ℕ) → without_end (xs ++ b ∷ []) ≡ cond (is_blank b) (without_end xs) (xs ++ b ∷ [])
without_end-last [] b = refl
without_end-last (x ∷ xs) b =
    let more : without_end (xs ++ b ∷ []) ≡ cond (is_blank b) (without_end xs) (xs ++ b ∷ []) = without_end-last xs b in
    elim (cases_Bool (is_blank b)) [
      | inl t ↦ rw t (ap (unless_blank x) (more ∙ rw t refl))
      | inr f ↦ rw f (ap (unless_blank x) (more ∙ rw f refl) ∙ some xs)
    ]
  where
    some : (ys : List ℕ) → unless_blank x (ys ++ b ∷ []) ≡ x ∷ (ys ++ b ∷ [])
    some [] = refl
    some (y ∷ ys) = refl

split_last : (xs : List ℕ) → 0 < length xs → xs ≡ take (length xs - 1) xs ++ get_or xs (length xs - 1) 0 ∷ []
split_last xs some =
    let e : (length xs - 1) + 1 ≡ length xs = omega arith in
    sym (take-length xs) ∙ ap (λ (n : ℕ). take n xs) (sym e) ∙ take_more xs (length xs - 1) 0 (omega arith)

pub without_blank : (xs : List ℕ) → 0 < length xs → is_blank (get_or xs (length xs - 1) 0) ≡ true → without_end (take (length xs - 1) xs) ≡ without_end xs
without_blank xs some h =
    sym (ap without_end (split_last xs some) ∙ without_end-last (take (length xs - 1) xs) (get_or xs (length xs - 1) 0) ∙ rw h refl)

pub without_none : (xs : List ℕ) → 0 < length xs → is_blank (get_or xs (length xs - 1) 0) ≡ false → xs ≡ without_end xs
without_none xs some h =
    split_last xs some ∙ sym (ap without_end (split_last xs some) ∙ without_end-last (take (length xs - 1) xs) (get_or xs (length xs - 1) 0) ∙ rw h refl)

pub value_there : (quoted : Bool) (bytes text : List ℕ) → text ≡ bytes → IsUtf8 bytes → Some (record { quoted = quoted; text = text }) ≡ value_in quoted bytes
value_there quoted bytes text e h = rw (is_utf8-from_IsUtf8 bytes h, e) refl

pub value_missing : (quoted : Bool) (bytes : List ℕ) → ¬ (IsUtf8 bytes) → None ≡ value_in quoted bytes
value_missing quoted bytes h =
    elim (cases_Bool (is_utf8 bytes)) [
      | inl t ↦ absurd (h (IsUtf8-from_is_utf8 bytes t))
      | inr f ↦ rw f refl
    ]

-- a first byte, and what a pattern takes behind it
pub first_and_rest : (xs : List ℕ) → 1 ≤ length xs → get_or xs 0 0 ∷ take (length xs - 1) (drop 1 xs) ≡ xs
first_and_rest [] some = absurd (omega arith)
first_and_rest (x ∷ xs) some = let e : length (x ∷ xs) - 1 ≡ length xs = omega arith in rw e (ap (λ (v : List ℕ). x ∷ v) (take-length xs))

pub double_on : (rest bytes new more : List ℕ) (b : ℕ) (o : Option (List ℕ × List ℕ)) → 1 ≤ length rest → eqb (get_or rest 0 0) 34 ≡ false
    → (eqb (get_or rest 0 0) 34 ≡ false → double (get_or rest 0 0 ∷ take (length rest - 1) (drop 1 rest)) ≡ behind (b ∷ []) (double more))
    → new ≡ bytes ++ b ∷ [] → behind bytes (double rest) ≡ o → behind new (double more) ≡ o
double_on rest bytes new more b o some ne next pushed h =
    let e : double rest ≡ behind (b ∷ []) (double more) = sym (ap double (first_and_rest rest some)) ∙ next ne in
    rw pushed (sym (behind-behind bytes (b ∷ []) (double more)) ∙ ap (behind bytes) (sym e) ∙ h)

pub behind-nil : (o : Option (List ℕ × List ℕ)) → behind [] o ≡ o
behind-nil None = refl
behind-nil (Some cut) = refl

-- a byte that stands for itself goes before what is quoted
pub whole_on : (cut : List ℕ → Option (List ℕ × List ℕ)) (xs : List ℕ) (i : ℕ) (o : Option (List ℕ × List ℕ)) → i < length xs
    → cut (get_or xs i 0 ∷ drop (i + 1) xs) ≡ behind (get_or xs i 0 ∷ []) (cut (drop (i + 1) xs))
    → behind (take i xs) (cut (drop i xs)) ≡ o → behind (take (i + 1) xs) (cut (drop (i + 1) xs)) ≡ o
whole_on cut xs i o inside stands h =
    rw (take_more xs i 0 inside) (
    sym (behind-behind (take i xs) (get_or xs i 0 ∷ []) (cut (drop (i + 1) xs)))
    ∙ ap (behind (take i xs)) (sym (ap cut (drop_more xs i 0 inside) ∙ stands))
    ∙ h)

double-closed : (bs : List ℕ) → double (34 ∷ bs) ≡ Some ([], bs)
double-closed [] = refl
double-closed (b ∷ bs) = refl

-- the first quote closes what stands for itself
pub whole_end : (xs : List ℕ) (i : ℕ) → i < length xs → get_or xs i 0 ≡ 34 → behind (take i xs) (double (drop i xs)) ≡ double xs
    → double xs ≡ Some (take i xs, take (length xs - (i + 1)) (drop (i + 1) xs))
whole_end xs i inside quote h =
    let closed : double (drop i xs) ≡ Some ([], drop (i + 1) xs) =
    ap double (drop_more xs i 0 inside ∙ ap (λ (b : ℕ). b ∷ drop (i + 1) xs) quote) ∙ double-closed (drop (i + 1) xs) in
    rw (take_rest xs (i + 1)) (sym h ∙ ap (behind (take i xs)) closed ∙ ap (λ (front : List ℕ). Some (front, drop (i + 1) xs)) (append-nil (take i xs)))
