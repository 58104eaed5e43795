-- What a place says of the table.
use Rattle.std.proofs.Common.{ℕ, zero, suc, ◌+◌, ◌<◌, ◌≤◌, List, [], ◌∷◌, ◌++◌, Some, None, ◌≡◌, refl, sym, ap, subst, ◌∙◌, arith, length, take, drop, get_or, set, add-one}
use Rattle.std.specs.Prelude.{insert, remove, slice_get}
use Rattle.std.specs.Ordering.{nat_cmp}
use Rattle.std.specs.declared.cmp.Ordering.TheVariants.{Equal, Greater}
use Rattle.std.specs.Cmp.Lexicographic.{slice_cmp, nat_list_cmp_total}
use Rattle.std.proofs.Math.Seq.{take-append_seam}
use Rattle.std.proofs.lemmas.Cmp.{tied_itself}
use Rattle.std.proofs.lemmas.Map.Lookups.{exact_bytes}
use Rattle.std.proofs.lemmas.List.{take-append-drop, drop_more, set_split}
use Rattle.std.proofs.lemmas.Option.{get_or_from_slice_get}
use Rattle.svc_fds.specs.Tables.{Entry, lookup, put, without, Precedes, PrecedesAll, IsAscending}
use Rattle.svc_fds.specs.Places.{AllPrecede, IsHeldAt, IsFreeAt}
use Rattle.svc_fds.proofs.TableLemmas.{differs, differs_back, lesser, greater, same, precedes-trans}

precedes_at : (x : List ℕ) (es : List Entry) (k : ℕ) (d : Entry) → PrecedesAll x es → k < length es → Precedes x (get_or es k d).0
precedes_at x [] k d all lt = absurd (omega arith)
precedes_at x (e ∷ es) zero d all lt = all.0
precedes_at x (e ∷ es) (suc k) d all lt = precedes_at x es k d all.1 (omega arith)

-- where an entry stands before a, so do those before it
pub all_precede-to : (a : List ℕ) (es : List Entry) (k : ℕ) (d : Entry) → IsAscending es → k < length es → Precedes (get_or es k d).0 a
    → AllPrecede a (take (suc k) es)
all_precede-to a [] k d up lt less = absurd (omega arith)
all_precede-to a (e ∷ es) zero d up lt less = (less, tt)
all_precede-to a (e ∷ es) (suc k) d up lt less =
    (nat_list_cmp_total.trans e.0 (get_or es k d).0 a (precedes_at e.0 es k d up.0 (omega arith)) less, all_precede-to a es k d up.1 (omega arith) less)

-- those before a's own entry stand before a
all_precede-below : (a : List ℕ) (es : List Entry) (k : ℕ) (d : Entry) → IsAscending es → k < length es → (get_or es k d).0 ≡ a → AllPrecede a (take k es)
all_precede-below a [] k d up lt same = absurd (omega arith)
all_precede-below a (e ∷ es) zero d up lt same = tt
all_precede-below a (e ∷ es) (suc k) d up lt same =
    (subst (λ x. Precedes e.0 x) same (precedes_at e.0 es k d up.0 (omega arith)), all_precede-below a es k d up.1 (omega arith) same)

-- where an entry stands behind a, so do those behind it
pub precedes_all-from : (a : List ℕ) (es : List Entry) (k : ℕ) (d : Entry) → IsAscending es → k < length es → slice_cmp nat_cmp (get_or es k d).0 a ≡ Greater
    → PrecedesAll a (drop k es)
precedes_all-from a [] k d up lt more = absurd (omega arith)
precedes_all-from a (e ∷ es) zero d up lt more = (lesser e.0 a more, precedes-trans a e.0 es (lesser e.0 a more) up.0)
precedes_all-from a (e ∷ es) (suc k) d up lt more = precedes_all-from a es k d up.1 (omega arith) more

ascending-drop : (n : ℕ) (es : List Entry) → IsAscending es → IsAscending (drop n es)
ascending-drop zero es up = up
ascending-drop (suc n) [] up = tt
ascending-drop (suc n) (e ∷ es) up = ascending-drop n es up.1

read_drop : (es : List Entry) (at : ℕ) (e : Entry) → at < length es → e ≡ get_or es at e → drop at es ≡ e ∷ drop (at + 1) es
read_drop es at e inside read = drop_more es at e inside ∙ ap (λ (x : Entry). x ∷ drop (at + 1) es) (sym read)

pub held-found : (a : List ℕ) (es : List Entry) (at : ℕ) (e : Entry) → IsAscending es → at < length es → e ≡ get_or es at e → slice_cmp nat_cmp e.0 a ≡ Equal
    → IsHeldAt a es at
held-found a es at e up inside read tied = record {
  inside = inside;
  before = all_precede-below a es at e up inside (ap (λ (x : Entry). x.0) (sym read) ∙ exact_bytes e.0 a tied);
  fd = e.1;
  here = read_drop es at e inside read ∙ ap (λ x. (x, e.1) ∷ drop (at + 1) es) (exact_bytes e.0 a tied);
}

-- where the search ends, all before stand before a, and all others behind it
pub free-found : (a : List ℕ) (es : List Entry) (low high : ℕ) → low ≤ high → high ≤ low → high ≤ length es → AllPrecede a (take low es)
    → PrecedesAll a (drop high es) → IsFreeAt a es low
free-found a es low high ordered met within before after =
    let same : high ≡ low = omega arith in
    record {
      inside = omega arith;
      before = before;
      after = subst (λ k. PrecedesAll a (drop k es)) same after;
    }

lookup-held : (a : List ℕ) (front : List Entry) (n : ℕ) (back : List Entry) → AllPrecede a front → lookup a (front ++ (a, n) ∷ back) ≡ Some n
lookup-held a [] n back before = rw (same a) refl
lookup-held a (e ∷ front) n back before = rw (differs e.0 a before.0) (lookup-held a front n back before.1)

lookup-above : (a : List ℕ) (back : List Entry) → PrecedesAll a back → lookup a back ≡ None
lookup-above a [] after = refl
lookup-above a (e ∷ back) after = rw (differs_back a e.0 after.0) (lookup-above a back after.1)

lookup-free : (a : List ℕ) (front back : List Entry) → AllPrecede a front → PrecedesAll a back → lookup a (front ++ back) ≡ None
lookup-free a [] back before after = lookup-above a back after
lookup-free a (e ∷ front) back before after = rw (differs e.0 a before.0) (lookup-free a front back before.1 after)

put-held : (a : List ℕ) (m n : ℕ) (front back : List Entry) → AllPrecede a front → put a n (front ++ (a, m) ∷ back) ≡ front ++ (a, n) ∷ back
put-held a m n [] back before = rw (tied_itself nat_list_cmp_total a) refl
put-held a m n (e ∷ front) back before = rw before.0 (ap (λ es. e ∷ es) (put-held a m n front back before.1))

pub put-above : (a : List ℕ) (n : ℕ) (back : List Entry) → PrecedesAll a back → put a n back ≡ (a, n) ∷ back
put-above a n [] after = refl
put-above a n (e ∷ back) after = rw (greater a e.0 after.0) refl

put-free : (a : List ℕ) (n : ℕ) (front back : List Entry) → AllPrecede a front → PrecedesAll a back → put a n (front ++ back) ≡ front ++ (a, n) ∷ back
put-free a n [] back before after = put-above a n back after
put-free a n (e ∷ front) back before after = rw before.0 (ap (λ es. e ∷ es) (put-free a n front back before.1 after))

without-above : (a : List ℕ) (back : List Entry) → PrecedesAll a back → without a back ≡ back
without-above a [] after = refl
without-above a (e ∷ back) after = rw (differs_back a e.0 after.0) (ap (λ es. e ∷ es) (without-above a back after.1))

without-free : (a : List ℕ) (front back : List Entry) → AllPrecede a front → PrecedesAll a back → without a (front ++ back) ≡ front ++ back
without-free a [] back before after = without-above a back after
without-free a (e ∷ front) back before after = rw (differs e.0 a before.0) (ap (λ es. e ∷ es) (without-free a front back before.1 after))

without-held : (a : List ℕ) (n : ℕ) (front back : List Entry) → AllPrecede a front → PrecedesAll a back → without a (front ++ (a, n) ∷ back) ≡ front ++ back
without-held a n [] back before after = rw (same a) (without-above a back after)
without-held a n (e ∷ front) back before after = rw (differs e.0 a before.0) (ap (λ es. e ∷ es) (without-held a n front back before.1 after))

-- the table around a held address
around : (a : List ℕ) (es : List Entry) (at : ℕ) (held : IsHeldAt a es at) → take at es ++ (a, held.fd) ∷ drop (at + 1) es ≡ es
around a es at held = ap (λ rest. take at es ++ rest) (sym held.here) ∙ take-append-drop at es

above : (a : List ℕ) (es : List Entry) (at : ℕ) (held : IsHeldAt a es at) → IsAscending es → PrecedesAll a (drop (at + 1) es)
above a es at held up = (subst (λ xs. IsAscending xs) held.here (ascending-drop at es up)).0

pub held-lookup : (a : List ℕ) (es : List Entry) (at : ℕ) (held : IsHeldAt a es at) → lookup a es ≡ Some held.fd
held-lookup a es at held = subst (λ xs. lookup a xs ≡ Some held.fd) (around a es at held) (lookup-held a (take at es) held.fd (drop (at + 1) es) held.before)

pub free-lookup : (a : List ℕ) (es : List Entry) (at : ℕ) → IsFreeAt a es at → lookup a es ≡ None
free-lookup a es at free = subst (λ xs. lookup a xs ≡ None) (take-append-drop at es) (lookup-free a (take at es) (drop at es) free.before free.after)

slice_get-drop : (es : List Entry) (at : ℕ) (e : Entry) (rest : List Entry) → drop at es ≡ e ∷ rest → slice_get es at ≡ Some e
slice_get-drop [] zero e rest is = absurd (cc)
slice_get-drop [] (suc at) e rest is = absurd (cc)
slice_get-drop (x ∷ es) zero e rest is = (let same : x ≡ e = cc in ap Some same)
slice_get-drop (x ∷ es) (suc at) e rest is = slice_get-drop es at e rest is

pub held-get : (a : List ℕ) (es : List Entry) (at : ℕ) (held : IsHeldAt a es at) → slice_get es at ≡ Some (a, held.fd)
held-get a es at held = slice_get-drop es at (a, held.fd) (drop (at + 1) es) held.here

one_more : (es : List Entry) (at : ℕ) → drop (at + 1) es ≡ drop (suc at) es
one_more es at = ap (λ k. drop k es) (add-one at)

pub held-put : (a : List ℕ) (n : ℕ) (es : List Entry) (at : ℕ) (held : IsHeldAt a es at) → put a n es ≡ set es at (a, n)
held-put a n es at held =
    subst (λ xs. put a n xs ≡ take at es ++ (a, n) ∷ drop (at + 1) es) (around a es at held) (put-held a held.fd n (take at es) (drop (at + 1) es) held.before)
    ∙ ap (λ rest. take at es ++ (a, n) ∷ rest) (one_more es at) ∙ sym (set_split es at (a, n) held.inside)

pub free-put : (a : List ℕ) (n : ℕ) (es : List Entry) (at : ℕ) → IsFreeAt a es at → put a n es ≡ insert es at (a, n)
free-put a n es at free =
    subst (λ xs. put a n xs ≡ take at es ++ (a, n) ∷ drop at es) (take-append-drop at es) (put-free a n (take at es) (drop at es) free.before free.after)

pub held-without : (a : List ℕ) (es : List Entry) (at : ℕ) (held : IsHeldAt a es at) → IsAscending es → without a es ≡ remove es at
held-without a es at held up =
    subst (λ xs. without a xs ≡ take at es ++ drop (at + 1) es) (around a es at held)
    (without-held a held.fd (take at es) (drop (at + 1) es) held.before (above a es at held up))
    ∙ ap (λ rest. take at es ++ rest) (one_more es at)

pub free-without : (a : List ℕ) (es : List Entry) (at : ℕ) → IsFreeAt a es at → without a es ≡ es
free-without a es at free = subst (λ xs. without a xs ≡ xs) (take-append-drop at es) (without-free a (take at es) (drop at es) free.before free.after)

-- what stands in place of a whole row
whole : (len : ℕ) (es ys : List Entry) → len ≡ length ys → take len (ys ++ drop (length ys) es) ≡ ys
whole len es ys same = subst (λ m. take m (ys ++ drop (length ys) es) ≡ ys) (sym same) (take-append_seam ys (drop (length ys) es))

-- the table after a descriptor was replaced
pub put-replaced : (len : ℕ) (es ys : List Entry) (a : List ℕ) (n at : ℕ) (held : IsHeldAt a es at) → len ≡ length ys → ys ≡ set es at (a, n)
    → take len (ys ++ drop (length ys) es) ≡ put a n es
put-replaced len es ys a n at held same now = whole len es ys same ∙ now ∙ sym (held-put a n es at held)

-- what was read at a held address
pub held-read : (a : List ℕ) (es : List Entry) (at : ℕ) (held : IsHeldAt a es at) (e : Entry) → e ≡ get_or es at e → e ≡ (a, held.fd)
held-read a es at held e read = read ∙ get_or_from_slice_get es at (a, held.fd) e (held-get a es at held)
