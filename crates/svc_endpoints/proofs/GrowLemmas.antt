-- What has failed stays failed, and what is gone stays gone.
use Rattle.std.proofs.Common.{ℕ, Bool, true, false, ◌||◌, ◌&&◌, not, inl, inr, List, [], ◌∷◌, ◌≡◌, refl, ap, sym, ◌∙◌, subst, arith, ◌+◌, nat_le, Option, Some, None, if◌then◌else◌}
use Rattle.std.specs.List.{list_any, list_all}
use Rattle.std.proofs.lemmas.Bool.{and_parts, and_from, or_cases, or_left, or_right}
use Rattle.svc_record.specs.declared.plan.Plan.{Plan}
use Rattle.svc_record.specs.declared.entry.Entry.{Entry}
use Rattle.svc_record.specs.Record.{Record, has}
use Rattle.svc_record.specs.Plans.{services, names, endpoint_numbers, address}
use Rattle.svc_record.specs.Descriptors.{has_live, address_of}
use Rattle.svc_record.specs.Failed.{has_failed, is_failure, is_in_use, in_use_count, in_use_limit}
use Rattle.svc_record.specs.Closes.{is_abandoned, is_address_abandoned, is_gone, is_drained}
use Rattle.svc_endpoints.proofs.RangeLemmas.{any-grows}
use Rattle.svc_base.proofs.NumberSetLemmas.{all-grows}
use Rattle.svc_record.specs.Offer.{is_held_back}
use Rattle.svc_endpoints.proofs.GoneLemmas.{is_turned, is_gone_now}

failed_more : (x h b : Bool) (l c : ℕ) → (h || nat_le l c) ≡ true → ((x || h) || nat_le l (if b then c + 1 else c)) ≡ true
failed_more x h true l c e = grind arith
failed_more x h false l c e = grind arith

-- a service that has failed has failed for good
pub failed-grows : (p : Plan) (q : Record) (e : Entry) (s : ℕ) → has_failed p q s ≡ true → has_failed p (e ∷ q) s ≡ true
failed-grows p q e s h = any-grows (λ i. has (is_failure s i) q || nat_le (in_use_limit p s i) (in_use_count p q s i)) _ (endpoint_numbers p s)
    (λ i. failed_more (is_failure s i e) (has (is_failure s i) q) (is_in_use s i e && not (has_live p q (address p s i))) (in_use_limit p s i)
    (in_use_count p q s i)) h

module _ (p : Plan) (q r : Record) (grows : (s : ℕ) → has_failed p q s ≡ true → has_failed p r s ≡ true) where
  abandoned-grows : (a : List ℕ) → is_abandoned p q a ≡ true → is_abandoned p r a ≡ true
  abandoned-grows a h =
      let parts = and_parts (list_any (λ s. names p s a) (services p)) (list_all (λ s. not (names p s a) || has_failed p q s) (services p)) h in
      and_from (list_any (λ s. names p s a) (services p)) (list_all (λ s. not (names p s a) || has_failed p r s) (services p)) parts.0
      (all-grows (λ s. not (names p s a) || has_failed p q s) (λ s. not (names p s a) || has_failed p r s) (services p)
      (λ s e. elim (or_cases (not (names p s a)) (has_failed p q s) e) [
        | inl unnamed ↦ or_left (not (names p s a)) (has_failed p r s) unnamed
        | inr failed ↦ or_right (not (names p s a)) (has_failed p r s) (grows s failed)
      ]) parts.1)

  address_grows : (a : Option (List ℕ)) → is_address_abandoned p q a ≡ true → is_address_abandoned p r a ≡ true
  address_grows (Some a) h = abandoned-grows a h
  address_grows None h = h

  gone_now_grows : (fd : ℕ) → is_turned p r fd ≡ is_turned p q fd → address_of p r fd ≡ address_of p q fd
      → (is_held_back p r fd ≡ true → is_held_back p q fd ≡ true) → is_gone_now p q fd ≡ true → is_gone_now p r fd ≡ true
  gone_now_grows fd turned place held h = elim (or_cases (is_turned p q fd) (is_address_abandoned p q (address_of p q fd) && not (is_held_back p q fd)) h) [
    | inl d ↦ or_left (is_turned p r fd) (is_address_abandoned p r (address_of p r fd) && not (is_held_back p r fd)) (turned ∙ d)
    | inr a ↦ (let parts = and_parts (is_address_abandoned p q (address_of p q fd)) (not (is_held_back p q fd)) a in
        or_right (is_turned p r fd) (is_address_abandoned p r (address_of p r fd) && not (is_held_back p r fd))
        (and_from (is_address_abandoned p r (address_of p r fd)) (not (is_held_back p r fd))
        (subst (λ w. is_address_abandoned p r w ≡ true) (sym place) (address_grows (address_of p q fd) parts.0))
        (still_not (is_held_back p q fd) (is_held_back p r fd) held parts.1)))
  ]
    where
      still_not : (a b : Bool) → (b ≡ true → a ≡ true) → not a ≡ true → not b ≡ true
      still_not a true f h = rw (f refl) at h
      still_not a false f h = refl

  -- what is gone stays gone, where its opening stays as it was, nothing comes on offer, and what is drained stays so
  pub gone-grows : (fd : ℕ) → is_turned p r fd ≡ is_turned p q fd → address_of p r fd ≡ address_of p q fd
      → (is_held_back p r fd ≡ true → is_held_back p q fd ≡ true) → (is_drained p q fd ≡ true → is_drained p r fd ≡ true) → is_gone p q fd ≡ true
      → is_gone p r fd ≡ true
  gone-grows fd turned place held drained h = elim (or_cases (is_gone_now p q fd) (is_drained p q fd) h) [
    | inl g ↦ or_left (is_gone_now p r fd) (is_drained p r fd) (gone_now_grows fd turned place held g)
    | inr g ↦ or_right (is_gone_now p r fd) (is_drained p r fd) (drained g)
  ]

all-same : (f g : ℕ → Bool) (xs : List ℕ) → ((k : ℕ) → f k ≡ g k) → list_all f xs ≡ list_all g xs
all-same f g [] h = refl
all-same f g (x ∷ xs) h = rw (h x) (ap (λ b. g x && b) (all-same f g xs h))

module _ (p : Plan) (q r : Record) (same : (s : ℕ) → has_failed p r s ≡ has_failed p q s) where
  pub address-same : (a : Option (List ℕ)) → is_address_abandoned p r a ≡ is_address_abandoned p q a
  address-same (Some a) = ap (λ b. list_any (λ s. names p s a) (services p) && b)
      (all-same (λ s. not (names p s a) || has_failed p r s) (λ s. not (names p s a) || has_failed p q s) (services p)
      (λ s. ap (λ b. not (names p s a) || b) (same s)))
  address-same None = refl

  gone_now_same : (fd : ℕ) → is_turned p r fd ≡ is_turned p q fd → address_of p r fd ≡ address_of p q fd → is_held_back p r fd ≡ is_held_back p q fd
      → is_gone_now p r fd ≡ is_gone_now p q fd
  gone_now_same fd turned place held = ap (λ b. b || (is_address_abandoned p r (address_of p r fd) && not (is_held_back p r fd))) turned
      ∙ ap (λ b. is_turned p q fd || (b && not (is_held_back p r fd))) (ap (is_address_abandoned p r) place ∙ address-same (address_of p q fd))
      ∙ ap (λ b. is_turned p q fd || (is_address_abandoned p q (address_of p q fd) && not b)) held

  -- what is gone is the same, where no service fails, and the same is on offer and drained
  pub gone-same : (fd : ℕ) → is_turned p r fd ≡ is_turned p q fd → address_of p r fd ≡ address_of p q fd → is_held_back p r fd ≡ is_held_back p q fd
      → is_drained p r fd ≡ is_drained p q fd → is_gone p r fd ≡ is_gone p q fd
  gone-same fd turned place held drained = ap (λ b. b || is_drained p r fd) (gone_now_same fd turned place held) ∙ ap (λ b. is_gone_now p q fd || b) drained
