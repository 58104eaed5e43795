-- Pairs that are set, seen through a test of their addresses, and looked up.
use Rattle.std.proofs.Common.{ℕ, zero, suc, Bool, true, false, cond, List, [], ◌∷◌, Some, ◌≡◌, refl, sym, ap, subst, ◌∙◌, filter}
use Rattle.std.specs.Prelude.{slice_get}
use Rattle.std.specs.List.{zip}
use Rattle.std.specs.Ordering.{nat_cmp, match_ordering}
use Rattle.std.specs.declared.cmp.Ordering.{Ordering}
use Rattle.std.specs.declared.cmp.Ordering.TheVariants.{Less, Equal, Greater}
use Rattle.std.specs.Cmp.Lexicographic.{slice_cmp}
use Rattle.std.specs.Str.{bytes_eq}
use Rattle.std.proofs.lemmas.Bool.{or_parts}
use Rattle.std.proofs.lemmas.Map.Lookups.{exact_bytes}
use Rattle.svc_fds.specs.Tables.{Entry, lookup, put, put_all, IsAscending}
use Rattle.svc_fds.specs.Lists.{is_among, has_repeat}
use Rattle.svc_fds.proofs.TableLemmas.{same, lesser, lookup-put, precedes-trans, precedes-filter, ascending-put}
use Rattle.svc_fds.proofs.PlaceLemmas.{put-above}

-- the entries whose addresses pass
abbrev pub passing : (List ℕ → Bool) → List Entry → List Entry
passing p es = filter (λ e. p e.0) es

passing_less : (b c : Bool) (a : List ℕ) (n : ℕ) (e : Entry) (es : List Entry) → slice_cmp nat_cmp e.0 a ≡ Less
    → cond b (e ∷ cond c (put a n es) es) (cond c (put a n es) es) ≡ cond c (put a n (cond b (e ∷ es) es)) (cond b (e ∷ es) es)
passing_less true true a n e es less = rw less refl
passing_less true false a n e es less = refl
passing_less false true a n e es less = refl
passing_less false false a n e es less = refl

passing_equal : (b c : Bool) (a : List ℕ) (n : ℕ) (e : Entry) (es : List Entry) → b ≡ c → slice_cmp nat_cmp e.0 a ≡ Equal
    → cond c ((a, n) ∷ es) es ≡ cond c (put a n (cond b (e ∷ es) es)) (cond b (e ∷ es) es)
passing_equal true true a n e es alike tied = rw tied refl
passing_equal true false a n e es alike tied = absurd (cc)
passing_equal false true a n e es alike tied = absurd (cc)
passing_equal false false a n e es alike tied = refl

passing-put_by : (p : List ℕ → Bool) (a : List ℕ) (n : ℕ) (e : Entry) (es : List Entry) (o : Ordering) → slice_cmp nat_cmp e.0 a ≡ o → IsAscending (e ∷ es)
    → passing p (put a n es) ≡ cond (p a) (put a n (passing p es)) (passing p es)
    → passing p (match_ordering o (e ∷ put a n es) ((a, n) ∷ es) ((a, n) ∷ e ∷ es)) ≡ cond (p a) (put a n (passing p (e ∷ es))) (passing p (e ∷ es))
passing-put_by p a n e es Less o up rest =
    ap (λ xs. cond (p e.0) (e ∷ xs) xs) rest ∙ passing_less (p e.0) (p a) a n e (passing p es) o
passing-put_by p a n e es Equal o up rest = passing_equal (p e.0) (p a) a n e (passing p es) (ap p (exact_bytes e.0 a o)) o
passing-put_by p a n e es Greater o up rest =
    ap (λ xs. cond (p a) xs (passing p (e ∷ es)))
    (sym (put-above a n (passing p (e ∷ es)) (precedes-filter (λ x. p x.0) a (e ∷ es) (lesser e.0 a o, precedes-trans a e.0 es (lesser e.0 a o) up.0))))

passing-put : (p : List ℕ → Bool) (a : List ℕ) (n : ℕ) (es : List Entry) → IsAscending es
    → passing p (put a n es) ≡ cond (p a) (put a n (passing p es)) (passing p es)
passing-put p a n [] up = refl
passing-put p a n (e ∷ es) up = passing-put_by p a n e es (slice_cmp nat_cmp e.0 a) refl up (passing-put p a n es up.1)

set_or_not : (b : Bool) (q : Entry) (pairs es : List Entry) → put_all pairs (cond b (put q.0 q.1 es) es) ≡ put_all (cond b (q ∷ pairs) pairs) es
set_or_not true q pairs es = refl
set_or_not false q pairs es = refl

-- what passes of a table are the pairs that pass, set in what passed before
pub passing-put_all : (p : List ℕ → Bool) (pairs es : List Entry) → IsAscending es → passing p (put_all pairs es) ≡ put_all (passing p pairs) (passing p es)
passing-put_all p [] es up = refl
passing-put_all p (q ∷ pairs) es up =
    passing-put_all p pairs (put q.0 q.1 es) (ascending-put q.0 q.1 es up)
    ∙ ap (λ xs. put_all (passing p pairs) xs) (passing-put p q.0 q.1 es up)
    ∙ set_or_not (p q.0) q (passing p pairs) (passing p es)

-- an address that isn't among the texts is looked up as before
pub lookup-other : (texts : List (List ℕ)) (fds : List ℕ) (es : List Entry) (b : List ℕ) → is_among b texts ≡ false
    → lookup b (put_all (zip texts fds) es) ≡ lookup b es
lookup-other [] fds es b apart = refl
lookup-other (a ∷ texts) [] es b apart = refl
lookup-other (a ∷ texts) (n ∷ fds) es b apart =
    let parts = or_parts (bytes_eq a b) (is_among b texts) apart in
    lookup-other texts fds (put a n es) b parts.1 ∙ lookup-put a n es b ∙ ap (λ c. cond c (Some n) (lookup b es)) parts.0

-- the k-th text has the k-th number
pub lookup-paired : (texts : List (List ℕ)) (fds : List ℕ) (es : List Entry) (k : ℕ) (word : List ℕ) (fd : ℕ) → has_repeat texts ≡ false
    → slice_get texts k ≡ Some word → slice_get fds k ≡ Some fd
    → lookup word (put_all (zip texts fds) es) ≡ Some fd
lookup-paired [] fds es k word fd once here there = absurd (cc)
lookup-paired (a ∷ texts) [] es k word fd once here there = absurd (cc)
lookup-paired (a ∷ texts) (n ∷ fds) es zero word fd once here there =
    let parts = or_parts (is_among a texts) (has_repeat texts) once in
    let first : a ≡ word = cc in
    let number : Some n ≡ Some fd = there in
    subst (λ w. lookup w (put_all (zip texts fds) (put a n es)) ≡ Some fd) first
    (lookup-other texts fds (put a n es) a parts.0 ∙ lookup-put a n es a ∙ ap (λ c. cond c (Some n) (lookup a es)) (same a) ∙ number)
lookup-paired (a ∷ texts) (n ∷ fds) es (suc k) word fd once here there =
    let parts = or_parts (is_among a texts) (has_repeat texts) once in
    lookup-paired texts fds (put a n es) k word fd parts.1 here there
