-- What follows for least moments.
use Rattle.std.proofs.Common.{sym, subst, ◌∙◌, ◌+◌, ◌||◌, ℕ, Bool, true, false, inl, inr, ◌≡◌, refl, arith, ◌<◌, ◌≤◌, Option, Some, None, nat_lt}
use Rattle.std.specs.Prelude.{◌⊎◌, ◌^◌, IfSome, min}
use Rattle.std.proofs.lemmas.Bool.{cases_lt, cases_eq, or_cases}
use Rattle.svc_moments.specs.Least.{IsLeast, EndsAt, is_before, earlier_of}

before-both : (t : ℕ) (a b : Option ℕ) → is_before t (earlier_of a b) ≡ true → (is_before t a ≡ true) × (is_before t b ≡ true)
before-both t (Some m) (Some n) h = (grind arith, grind arith)
before-both t (Some m) None h = (h, refl)
before-both t None (Some n) h = (refl, h)
before-both t None None h = (refl, refl)

-- at the earlier one of the two is due
pub least-both : (f g : ℕ → Type 0) (a b : Option ℕ) → IsLeast f a → IsLeast g b → IsLeast (λ t. f t ⊎ g t) (earlier_of a b)
least-both f g a b first second = record {
  before = λ t small h due. (
      let both = before-both t a b h in
      elim due [
        | inl x ↦ first.before t small both.0 x
        | inr y ↦ second.before t small both.1 y
      ]);
  there = there a b first.there second.there;
}
  where
    min-case : (m n : ℕ) → (min m n ≡ m) ⊎ (min m n ≡ n)
    min-case m n = elim (cases_lt m n) [
      | inl lt ↦ inl (omega arith)
      | inr le ↦ inr (omega arith)
    ]

    there : (a b : Option ℕ) → IfSome a f → IfSome b g → IfSome (earlier_of a b) (λ t. f t ⊎ g t)
    there (Some m) (Some n) x y = elim (min-case m n) [
      | inl e ↦ rw e (inl x)
      | inr e ↦ rw e (inr y)
    ]
    there (Some m) None x y = inl x
    there None (Some n) x y = inr y
    there None None x y = tt

-- the same thing in other words
pub least-by : (f g : ℕ → Type 0) (a : Option ℕ) → ((t : ℕ) → f t → g t) → ((t : ℕ) → g t → f t) → IsLeast f a → IsLeast g a
least-by f g a to from least = record {
  before = λ t small h due. least.before t small h (from t due);
  there = by a least.there;
}
  where
    by : (a : Option ℕ) → IfSome a f → IfSome a g
    by (Some m) x = to m x
    by None x = tt

-- nothing is due at any moment, or at each
pub least-never : (f : ℕ → Type 0) → ((t : ℕ) → f t → ⊥) → IsLeast f None
least-never f none = record { before = λ t small h due. none t due; there = tt }

pub least-always : (f : ℕ → Type 0) → f 0 → IsLeast f (Some 0)
least-always f h = record { before = λ t small early due. absurd (none_below t early); there = h }
  where
    none_below : (t : ℕ) → nat_lt t 0 ≡ true → ⊥
    none_below t early = grind arith

-- a test that holds up to a moment is false first there
pub least-end : (test : ℕ → Bool) (a : Option ℕ) → EndsAt test a → IsLeast (λ t. test t ≡ false) a
least-end test a ends = record {
  before = λ t small h off. absurd (let on = ends.before t small h in cc);
  there = by a ends.past;
}
  where
    by : (a : Option ℕ) → ((t : ℕ) → is_before t a ≡ false → test t ≡ false) → IfSome a (λ m. test m ≡ false)
    by (Some m) past = past m (grind arith)
    by None past = tt

-- the same test in other words
pub ends-by : (f g : ℕ → Bool) (a : Option ℕ) → ((t : ℕ) → g t ≡ f t) → EndsAt f a → EndsAt g a
ends-by f g a same ends = record {
  before = λ t small h. same t ∙ ends.before t small h;
  past = λ t h. same t ∙ ends.past t h;
}

-- of some numbers the test is false from this moment on, and before it all of them together pass
pub record Swept (f : ℕ → ℕ → Bool) (any : ℕ → Bool) (upto : ℕ) (end : Option ℕ) : Type 0 where
  pub before : (t : ℕ) → t < 2 ^ 64 → is_before t end ≡ true → any t ≡ true
  pub past : (t : ℕ) → is_before t end ≡ false → (j : ℕ) → j < upto → f t j ≡ false

pub swept-none : (f : ℕ → ℕ → Bool) (any : ℕ → Bool) (upto : ℕ) → ((t j : ℕ) → j < upto → f t j ≡ false) → Swept f any upto (Some 0)
swept-none f any upto none = record { before = λ t small h. absurd (none_below t h); past = λ t h j lt. none t j lt }
  where
    none_below : (t : ℕ) → nat_lt t 0 ≡ true → ⊥
    none_below t early = grind arith

or_false : (a b : Bool) → (a || b) ≡ false → (a ≡ false) × (b ≡ false)
or_false false false h = (refl, refl)
or_false true b h = absurd (cc)
or_false false true h = absurd (cc)

-- one more, after those of which it is known to be false
pub swept-more : (f : ℕ → ℕ → Bool) (any : ℕ → Bool) (from k : ℕ) (end more after : Option ℕ)
    → ((t : ℕ) → is_before t after ≡ (is_before t end || is_before t more))
    → ((t j : ℕ) → from ≤ j → j < k → f t j ≡ false) → ((t : ℕ) → f t k ≡ true → any t ≡ true)
    → EndsAt (λ t. f t k) more → Swept f any from end → Swept f any (k + 1) after
swept-more f any from k end more after is between counts ends swept = record {
  before = λ t small h. elim (or_cases (is_before t end) (is_before t more) (sym (is t) ∙ h)) [
    | inl x ↦ swept.before t small x
    | inr y ↦ counts t (ends.before t small y)
  ];
  past = λ t h j lt. (
      let both = or_false (is_before t end) (is_before t more) (sym (is t) ∙ h) in
      elim (cases_eq j k) [
        | inl e ↦ subst (λ x. f t x ≡ false) (sym e) (ends.past t both.1)
        | inr ne ↦ elim (cases_lt j from) [
          | inl low ↦ swept.past t both.0 j low
          | inr high ↦ between t j high (omega (arith, ne, lt))
        ]
      ]);
}

-- all were looked at
pub swept-all : (f : ℕ → ℕ → Bool) (any : ℕ → Bool) (from n : ℕ) (end : Option ℕ) → ((t j : ℕ) → from ≤ j → j < n → f t j ≡ false)
    → ((t : ℕ) → ((j : ℕ) → j < n → f t j ≡ false) → any t ≡ false) → Swept f any from end → EndsAt any end
swept-all f any from n end rest none swept = record {
  before = swept.before;
  past = λ t h. none t (λ j lt. elim (cases_lt j from) [
    | inl low ↦ swept.past t h j low
    | inr high ↦ rest t j high lt
  ]);
}
