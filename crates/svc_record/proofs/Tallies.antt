-- How often a number stands in a list, and whether it does.
use Rattle.std.proofs.Common.{ℕ, Bool, true, false, not, ◌==◌, ◌||◌, ◌&&◌, ◌+◌, ◌≡◌, List, [], ◌∷◌, cond, filter, nat_lt, if◌then◌else◌, refl, sym, ap, ◌∙◌, true≢false, eqb-true, eq-eqb, zero-add, one-add, arith}
use Rattle.std.proofs.lemmas.Bool.{false≢true}
use Rattle.std.proofs.Math.Dec.{eqb-suc-zero}
use Rattle.std.specs.List.{list_any, list_all}
use Rattle.svc_base.specs.NumberSets.{put_number, ascending}
use Rattle.svc_record.specs.Tail.{each_once}
use Rattle.svc_record.proofs.Complete.{and, or_left, or_right}

-- 1 if this holds, else 0
abbrev pub one_if : Bool → ℕ
one_if b = if b then 1 else 0

-- how often the number stands in the list
abbrev pub tally : ℕ → List ℕ → ℕ
tally fd [] = 0
tally fd (n ∷ more) = one_if (n == fd) + tally fd more

-- the number stands in the list
abbrev pub is_in : ℕ → List ℕ → Bool
is_in fd ns = list_any (λ n. n == fd) ns

put_step : (fd n m : ℕ) (b : Bool) (ms put : List ℕ) → tally fd put ≡ one_if (n == fd) + tally fd ms
    → tally fd (if b then n ∷ m ∷ ms else m ∷ put) ≡ one_if (n == fd) + (one_if (m == fd) + tally fd ms)
put_step fd n m true ms put e = refl
put_step fd n m false ms put e = omega (arith, e)

pub tally-put_number : (fd n : ℕ) (ms : List ℕ) → tally fd (put_number n ms) ≡ one_if (n == fd) + tally fd ms
tally-put_number fd n [] = refl
tally-put_number fd n (m ∷ ms) = put_step fd n m (nat_lt n m) ms (put_number n ms) (tally-put_number fd n ms)

pub tally-ascending : (fd : ℕ) (ns : List ℕ) → tally fd (ascending ns) ≡ tally fd ns
tally-ascending fd [] = refl
tally-ascending fd (n ∷ more) = tally-put_number fd n (ascending more) ∙ ap (λ k. one_if (n == fd) + k) (tally-ascending fd more)

-- m, where the test lets a number through
abbrev pub if_kept : Bool → ℕ → ℕ
if_kept b m = if b then m else 0

none_kept : (c : Bool) → 0 ≡ if_kept c 0
none_kept true = refl
none_kept false = refl

-- a number n before others of which the test keeps so many: b says whether it keeps n, c whether it keeps the number that is counted, s whether these are one
keeps : (b c s : Bool) (k m : ℕ) → (s ≡ true → b ≡ c) → k ≡ if_kept c m → (if b then one_if s + k else k) ≡ if_kept c (one_if s + m)
keeps true true s k m f e = ap (λ x. one_if s + x) e
keeps true false true k m f e = absurd (true≢false (f refl))
keeps true false false k m f e = zero-add k ∙ e
keeps false true true k m f e = absurd (false≢true (f refl))
keeps false true false k m f e = e ∙ sym (zero-add m)
keeps false false s k m f e = e

tally-cond : (fd : ℕ) (b : Bool) (xs ys : List ℕ) → tally fd (cond b xs ys) ≡ (if b then tally fd xs else tally fd ys)
tally-cond fd true xs ys = refl
tally-cond fd false xs ys = refl

-- a test keeps a number as often as it stands there, or not at all
pub tally-filter : (fd : ℕ) (test : ℕ → Bool) (ns : List ℕ) → tally fd (filter test ns) ≡ if_kept (test fd) (tally fd ns)
tally-filter fd test [] = none_kept (test fd)
tally-filter fd test (n ∷ more) = tally-cond fd (test n) (n ∷ filter test more) (filter test more)
    ∙ keeps (test n) (test fd) (n == fd) _ _ (λ same. ap test (eqb-true n fd same)) (tally-filter fd test more)

same-sym : (m n : ℕ) → (m == n) ≡ true → (n == m) ≡ true
same-sym m n e = eq-eqb n m (sym (eqb-true m n e))

once : (s t i : Bool) (k m : ℕ) → (s ≡ true → t ≡ true) → (t ≡ true → s ≡ true) → k ≡ if_kept (not t) m → m ≡ one_if i → one_if s + k ≡ one_if (s || i)
once true true i k m f g e h = ap (λ x. 1 + x) e
once true false i k m f g e h = absurd (false≢true (f refl))
once false true i k m f g e h = absurd (false≢true (g refl))
once false false i k m f g e h = zero-add k ∙ (e ∙ h)

pub tally-each_once : (fd : ℕ) (ns : List ℕ) → tally fd (each_once ns) ≡ one_if (is_in fd ns)
tally-each_once fd [] = refl
tally-each_once fd (n ∷ more) =
    once (n == fd) (fd == n) (is_in fd more) _ _ (same-sym n fd) (same-sym fd n) (tally-filter fd (λ m. not (m == n)) (each_once more))
    (tally-each_once fd more)

in_step : (s i : Bool) (k : ℕ) → i ≡ not (k == 0) → (s || i) ≡ not ((one_if s + k) == 0)
in_step true i k e = sym (ap not (ap (λ x. x == 0) (one-add k) ∙ eqb-suc-zero k))
in_step false i k e = e ∙ ap (λ x. not (x == 0)) (sym (zero-add k))

-- a number stands in a list that has it at least once
pub is_in-tally : (fd : ℕ) (ns : List ℕ) → is_in fd ns ≡ not (tally fd ns == 0)
is_in-tally fd [] = refl
is_in-tally fd (n ∷ more) = in_step (n == fd) (is_in fd more) (tally fd more) (is_in-tally fd more)

-- lists that have it equally often have it alike
pub is_in-same : (fd : ℕ) (xs ys : List ℕ) → tally fd xs ≡ tally fd ys → is_in fd xs ≡ is_in fd ys
is_in-same fd xs ys e = is_in-tally fd xs ∙ (ap (λ k. not (k == 0)) e ∙ sym (is_in-tally fd ys))

kept_in : (c : Bool) (k : ℕ) → not (if_kept c k == 0) ≡ (c && not (k == 0))
kept_in true k = refl
kept_in false k = refl

pub is_in-filter : (fd : ℕ) (test : ℕ → Bool) (ns : List ℕ) → is_in fd (filter test ns) ≡ (test fd && is_in fd ns)
is_in-filter fd test ns = is_in-tally fd (filter test ns)
    ∙ (ap (λ k. not (k == 0)) (tally-filter fd test ns) ∙ (kept_in (test fd) (tally fd ns) ∙ ap (λ b. test fd && b) (sym (is_in-tally fd ns))))

some : (b : Bool) → not (one_if b == 0) ≡ b
some true = refl
some false = refl

pub is_in-each_once : (fd : ℕ) (ns : List ℕ) → is_in fd (each_once ns) ≡ is_in fd ns
is_in-each_once fd ns = is_in-tally fd (each_once ns) ∙ (ap (λ k. not (k == 0)) (tally-each_once fd ns) ∙ some (is_in fd ns))

-- a test that passes each number of a list passes the list
pub each_in : (test : ℕ → Bool) (ns : List ℕ) → ((fd : ℕ) → is_in fd ns ≡ true → test fd ≡ true) → list_all test ns ≡ true
each_in test [] f = refl
each_in test (n ∷ more) f = and (test n) (list_all test more) (f n (or_left (n == n) (is_in n more) (eq-eqb n n refl)))
    (each_in test more (λ fd e. f fd (or_right (n == fd) (is_in fd more) e)))
