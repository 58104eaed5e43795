-- Which services have failed after an answer.
use Rattle.std.proofs.Common.{ℕ, Bool, true, false, ◌||◌, ◌&&◌, ◌==◌, not, inl, inr, ◌∷◌, ◌≡◌, refl, ap, sym, ◌∙◌, subst, arith, ◌<◌, ◌+◌, length, nat_le, if◌then◌else◌}
use Rattle.std.proofs.lemmas.Bool.{cases_eq, eq-eqb, ne_eqb}
use Rattle.svc_record.specs.declared.plan.Plan.{Plan}
use Rattle.svc_record.specs.declared.entry.Entry.TheVariants.{Got}
use Rattle.svc_record.specs.declared.event.Event.TheVariants.{InUse, BindFailed, AdoptFailed}
use Rattle.svc_record.specs.Record.{Record, has}
use Rattle.svc_record.specs.Plans.{endpoints, address}
use Rattle.svc_record.specs.Descriptors.{has_live}
use Rattle.svc_record.specs.Failed.{has_failed, is_failure, in_use_count, in_use_limit}
use Rattle.svc_endpoints.proofs.RangeLemmas.{one0}

or_first : (c h n : Bool) → ((c || h) || n) ≡ ((h || n) || (c && true))
or_first c h n = grind arith

or_none : (h : Bool) → h ≡ (h || false)
or_none h = grind arith

le_more : (l c : ℕ) → nat_le l c ≡ true → nat_le l (c + 1) ≡ true
le_more l c h = grind arith

or_counted : (h n m : Bool) → (n ≡ true → m ≡ true) → (h || m) ≡ ((h || n) || m)
or_counted h true m f = rw (f refl) (grind arith)
or_counted h false m f = grind arith

counted : (live h : Bool) (l c : ℕ) → (h || nat_le l (if not live then c + 1 else c)) ≡ ((h || nat_le l c) || (not live && nat_le l (c + 1)))
counted true h l c = or_none (h || nat_le l c)
counted false h l c = or_counted h (nat_le l c) (nat_le l (c + 1)) (le_more l c)

module _ (p : Plan) (q : Record) (s i : ℕ) (within : i < length (endpoints p s)) where
  pub failed-bind_failed : (t : ℕ) → has_failed p (Got (BindFailed s i) ∷ q) t ≡ (has_failed p q t || (s == t))
  failed-bind_failed t = elim (cases_eq s t) [
    | inl e ↦ rw (eq-eqb s t e) (one0 (λ k. has (is_failure t k) q || nat_le (in_use_limit p t k) (in_use_count p q t k)) _ true (length (endpoints p t)) i
        (subst (λ u. i < length (endpoints p u)) e within)
        (λ k. or_first (i == k) (has (is_failure t k) q) (nat_le (in_use_limit p t k) (in_use_count p q t k))))
    | inr ne ↦ rw (ne_eqb s t ne) (or_none (has_failed p q t))
  ]

  pub failed-adopt_failed : (t : ℕ) → has_failed p (Got (AdoptFailed s i) ∷ q) t ≡ (has_failed p q t || (s == t))
  failed-adopt_failed t = elim (cases_eq s t) [
    | inl e ↦ rw (eq-eqb s t e) (one0 (λ k. has (is_failure t k) q || nat_le (in_use_limit p t k) (in_use_count p q t k)) _ true (length (endpoints p t)) i
        (subst (λ u. i < length (endpoints p u)) e within)
        (λ k. or_first (i == k) (has (is_failure t k) q) (nat_le (in_use_limit p t k) (in_use_count p q t k))))
    | inr ne ↦ rw (ne_eqb s t ne) (or_none (has_failed p q t))
  ]

  -- the refusal after which the service fails
  abbrev pub fails_at : Bool
  fails_at = not (has_live p q (address p s i)) && nat_le (in_use_limit p s i) (in_use_count p q s i + 1)

  own_test : (k : ℕ)
      → (has (is_failure s k) q || nat_le (in_use_limit p s k) (in_use_count p (Got (InUse s i) ∷ q) s k))
      ≡ ((has (is_failure s k) q || nat_le (in_use_limit p s k) (in_use_count p q s k)) || ((i == k) && fails_at))
  own_test k = elim (cases_eq i k) [
    | inl e ↦ subst
        (λ j. (has (is_failure s j) q || nat_le (in_use_limit p s j) (in_use_count p (Got (InUse s i) ∷ q) s j))
        ≡ ((has (is_failure s j) q || nat_le (in_use_limit p s j) (in_use_count p q s j)) || ((i == j) && fails_at))) e
        (rw (eq-eqb s s refl, eq-eqb i i refl) (counted (has_live p q (address p s i)) (has (is_failure s i) q) (in_use_limit p s i) (in_use_count p q s i)))
    | inr ne ↦ rw (eq-eqb s s refl, ne_eqb i k ne) (or_none (has (is_failure s k) q || nat_le (in_use_limit p s k) (in_use_count p q s k)))
  ]

  pub failed-in_use : (t : ℕ) → has_failed p (Got (InUse s i) ∷ q) t ≡ (has_failed p q t || ((s == t) && fails_at))
  failed-in_use t = elim (cases_eq s t) [
    | inl e ↦ subst (λ u. has_failed p (Got (InUse s i) ∷ q) u ≡ (has_failed p q u || ((s == u) && fails_at))) e
        (one0 (λ k. has (is_failure s k) q || nat_le (in_use_limit p s k) (in_use_count p q s k)) _ fails_at (length (endpoints p s)) i within own_test
        ∙ ap (λ b. has_failed p q s || (b && fails_at)) (sym (eq-eqb s s refl)))
    | inr ne ↦ rw (ne_eqb s t ne) (or_none (has_failed p q t))
  ]
