-- The startup order that the definitions compute is the one that a plan's services are listed in.
use Rattle.std.proofs.Common.{ℕ, zero, suc, Bool, true, false, not, inl, inr, List, [], ◌∷◌, ◌++◌, ◌≡◌, refl, ap, sym, ◌∙◌, arith, ◌<◌, ◌≤◌, ◌+◌, length, take, slice_index, slice_index_or, All, append-nil}
use Rattle.std.specs.List.{list_all, range_with_len}
use Rattle.std.proofs.lemmas.List.{take_more}
use Rattle.std.proofs.lemmas.Bool.{and_parts, and_from, false_from_ne_true, cases_eq, cases_lt}
use Rattle.svc_record.specs.declared.plan.Plan.{Plan}
use Rattle.svc_record.specs.Plans.{service_count, services, depends}
use Rattle.svc_record.specs.Starts.{comes_next, first_number, first_services, startup_order}
use Rattle.svc_record.specs.Validity.{is_listed, IsStartupOrder}
use Rattle.svc_base.proofs.Logic.{apart_from as not_true}

-- the first number of a range that passes the test
first-found : (test : ℕ → Bool) (n a s : ℕ) → a ≤ s → s < a + n → test s ≡ true → ((t : ℕ) → a ≤ t → t < s → test t ≡ false)
    → first_number test (range_with_len a n) ≡ s ∷ []
first-found test zero a s low high holds below = absurd (omega arith)
first-found test (suc n) a s low high holds below = elim (cases_eq a s) [
  | inl same ↦ rw (ap test same ∙ holds, same) refl
  | inr other ↦
      rw (below a (omega arith) (omega (arith, other)))
      (first-found test n (a + 1) s (omega (arith, other)) (omega arith) holds (λ t le lt. below t (omega arith) lt))
]

-- none does
none-found : (test : ℕ → Bool) (n a : ℕ) → ((t : ℕ) → a ≤ t → t < a + n → test t ≡ false) → first_number test (range_with_len a n) ≡ []
none-found test zero a fails = refl
none-found test (suc n) a fails = rw (fails a (omega arith) (omega arith)) (none-found test n (a + 1) (λ t le lt. fails t (omega arith) (omega arith)))

-- a test that each number of a list passes
all-pass : (test : ℕ → Bool) (xs : List ℕ) → ((k d : ℕ) → k < length xs → test (slice_index_or xs k d) ≡ true) → list_all test xs ≡ true
all-pass test [] f = refl
all-pass test (x ∷ xs) f = and_from (test x) (list_all test xs) (f 0 0 (omega arith)) (all-pass test xs (λ k d lt. f (suc k) d (omega arith)))

each-passes : (test : ℕ → Bool) (xs : List ℕ) → list_all test xs ≡ true → (k d : ℕ) → k < length xs → test (slice_index_or xs k d) ≡ true
each-passes test [] h k d lt = absurd (omega arith)
each-passes test (x ∷ xs) h zero d lt = (and_parts (test x) (list_all test xs) h).0
each-passes test (x ∷ xs) h (suc k) d lt = each-passes test xs (and_parts (test x) (list_all test xs) h).1 k d (omega arith)

take-past : (xs : List ℕ) (m : ℕ) → length xs ≤ m → take m xs ≡ xs
take-past [] zero h = refl
take-past [] (suc m) h = refl
take-past (x ∷ xs) zero h = absurd (omega arith)
take-past (x ∷ xs) (suc m) h = ap (λ w. x ∷ w) (take-past xs m (omega arith))

-- a place of a front is one of the whole
pub take-within : (n : ℕ) (xs : List ℕ) (i : ℕ) → i < length (take n xs) → i < n
take-within zero xs i h = h
take-within (suc n) [] i h = absurd (omega arith)
take-within (suc n) (x ∷ xs) zero h = omega arith
take-within (suc n) (x ∷ xs) (suc i) h = let less = take-within n xs i (omega arith) in omega arith

-- what isn't listed, and depends on what is, comes next
comes : (p : Plan) (listed : List ℕ) (s : ℕ) → is_listed listed s ≡ false → All (λ d. is_listed listed d ≡ true) (depends p s) → comes_next p listed s ≡ true
comes p listed s fresh due = rw fresh (all-pass (is_listed listed) (depends p s) due)

not_next : (p : Plan) (listed : List ℕ) (t : ℕ) → (is_listed listed t ≡ false → All (λ d. is_listed listed d ≡ true) (depends p t) → ⊥)
    → comes_next p listed t ≡ false
not_next p listed t fails = false_from_ne_true (comes_next p listed t)
    (λ e. (let both = and_parts (not (is_listed listed t)) (list_all (is_listed listed) (depends p t)) e in
    fails (not_true (is_listed listed t) both.0) (each-passes (is_listed listed) (depends p t) both.1)))

module _ (p : Plan) (order : List ℕ) (least : IsStartupOrder p order) where
  -- the next one is found
  one-more : (k : ℕ) → k < length order → first_number (comes_next p (take k order)) (services p) ≡ slice_index order k ∷ []
  one-more k lt =
      let next = least.next k lt in
      first-found (comes_next p (take k order)) (service_count p) 0 (slice_index order k) (omega arith) (let inside = next.inside in omega arith)
      (comes p (take k order) (slice_index order k) next.fresh next.due)
      (λ t low below. not_next p (take k order) t (next.least t below))

  -- past the end all are listed
  no-more : first_number (comes_next p order) (services p) ≡ []
  no-more = none-found (comes_next p order) (service_count p) 0
      (λ t low high. not_next p order t (λ fresh due. (let listed = least.all_listed t (omega arith) in cc)))

  first-are : (m : ℕ) → first_services p m ≡ take m order
  first-are zero = refl
  first-are (suc m) =
      ap (λ listed. listed ++ first_number (comes_next p listed) (services p)) (first-are m)
      ∙ elim (cases_lt m (length order)) [
        | inl lt ↦ ap (λ x. take m order ++ x) (one-more m lt) ∙ sym (take_more order m 0 lt)
            ∙ (let e : m + 1 ≡ suc m = omega arith in ap (λ n. take n order) e)
        | inr past ↦ (let all : take m order ≡ order = take-past order m past in
            ap (λ xs. xs ++ first_number (comes_next p xs) (services p)) all ∙ ap (λ x. order ++ x) no-more ∙ append-nil order
            ∙ sym (take-past order (suc m) (omega arith)))
      ]

  pub startup-is : startup_order p ≡ take (service_count p) order
  startup-is = first-are (service_count p)
