-- The words that the program takes.
use Rattle.std.proofs.Common.{◌≡◌, ℕ, Bool, List, [], ◌∷◌, length, get_or, map, Global, Option, Some, None, refl, sym, ap, ◌∙◌, arith, codes, ◌<◌}
use Rattle.std.specs.Bool.{Decides}
use Rattle.std.specs.Rc.{rc_str_bytes}
use Rattle.std.specs.Str.{bytes_eq}
use Rattle.std.specs.declared.rc.RcStr.{RcStr}
use Rattle.std.proofs.lemmas.Slice.Eq.{bytes_eq-Decides}
use Rattle.svc_main.specs.CommandWords.{BeginsWithRun, size_after, made_size}

pub first_is_run : (words : List (RcStr Global)) (w : RcStr Global) (b : Bool) → 0 < length words → w ≡ get_or words 0 w
    → b ≡ bytes_eq (rc_str_bytes w) (codes "run") → Decides b (BeginsWithRun (map rc_str_bytes words))
first_is_run [] w b n e h = absurd (omega arith)
first_is_run (x ∷ more) w b n e h =
    let d = bytes_eq-Decides (rc_str_bytes w) (codes "run") in
    let same : rc_str_bytes w ≡ rc_str_bytes x = ap rc_str_bytes e in (
      (λ t. (map rc_str_bytes more, ap (λ (v : List ℕ). v ∷ map rc_str_bytes more) (sym same ∙ d.0 (sym h ∙ t)))),
      (λ q. let f = q.1 in let v : rc_str_bytes x ≡ codes "run" = cc in h ∙ d.1 (same ∙ v)),
    )

-- two words, and any other number of words
pub two_words : (words : List (RcStr Global)) (a b : RcStr Global) → length words ≡ 2 → a ≡ get_or words 0 a → b ≡ get_or words 1 b
    → made_size (map rc_str_bytes words) ≡ size_after (rc_str_bytes a) (rc_str_bytes b)
unfolding made_size
two_words [] a b n e f = absurd (omega arith)
two_words (x ∷ []) a b n e f = absurd (omega arith)
two_words (x ∷ y ∷ []) a b n e f =
    ap (λ (w : RcStr Global). size_after (rc_str_bytes w) (rc_str_bytes y)) (sym e)
    ∙ ap (λ (w : RcStr Global). size_after (rc_str_bytes a) (rc_str_bytes w)) (sym f)
two_words (x ∷ y ∷ z ∷ more) a b n e f = absurd (omega arith)

pub other_words : (words : List (RcStr Global)) → (length words ≡ 2 → ⊥) → made_size (map rc_str_bytes words) ≡ None
unfolding made_size
other_words [] n = refl
other_words (x ∷ []) n = refl
other_words (x ∷ y ∷ []) n = absurd (n (omega arith))
other_words (x ∷ y ∷ z ∷ more) n = refl

-- words that begin with `run` ask for no generator
run_asks_none : (more : List (List ℕ)) → made_size (codes "run" ∷ more) ≡ None
unfolding made_size
run_asks_none [] = refl
run_asks_none (word ∷ []) = refl
run_asks_none (word ∷ other ∷ more) = refl

pub run_asks : (words : List (List ℕ)) → BeginsWithRun words → made_size words ≡ None
run_asks words run = ap made_size run.1 ∙ run_asks_none run.0

pub run_not_made : (words : List (List ℕ)) (n : ℕ) → BeginsWithRun words → made_size words ≡ Some n → ⊥
run_not_made words n run made =
    let never : ◌≡◌ {A = Option ℕ} (Some n) None = sym made ∙ run_asks words run in
    cc
