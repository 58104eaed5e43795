-- What the bind of an endpoint that is told leaves of who holds and who waits.
use Rattle.std.proofs.Common.{ℕ, suc, zero, Bool, true, false, not, ◌&&◌, ◌||◌, ◌==◌, ◌+◌, ◌<◌, ◌≤◌, nat_le, arith, List, [], ◌∷◌, length, ◌≡◌, refl, ap, ◌∙◌, inl, inr, Option, Some, None, if◌then◌else◌}
use Rattle.std.specs.List.{list_any, list_all, range_with_len}
use Rattle.std.proofs.lemmas.Bool.{cases_Bool, eq-eqb, or_cases, or_left, or_right, le-leb}
use Rattle.std.proofs.Math.Decide.{ℕ_discrete}
use Rattle.svc_base.proofs.Logic.{apart_from}
use Rattle.svc_record.specs.declared.plan.Plan.{Plan}
use Rattle.svc_record.specs.declared.entry.Entry.TheVariants.{Told}
use Rattle.svc_record.specs.declared.action.Action.TheVariants.{Bind}
use Rattle.svc_record.specs.Record.{Record}
use Rattle.svc_record.specs.Plans.{services, endpoints, endpoint_numbers, is_endpoint, address, same_address}
use Rattle.svc_record.specs.Descriptors.{has_live}
use Rattle.svc_record.specs.Asks.{is_ask_open}
use Rattle.svc_record.specs.Endpoints.{is_held, holds, is_at_work, is_busy, is_busy_elsewhere, waits_at, first_missing, waits_from, waits, endpoint_right, endpoint_right_late}
use Rattle.svc_record.specs.AskRules.{has_turn}
use Rattle.svc_record.proofs.Sound.{both, below}
use Rattle.svc_judge.proofs.VerdictLemmas.{and}

pub any_more : (f g : ℕ → Bool) → ((n : ℕ) → f n ≡ true → g n ≡ true) → (ns : List ℕ) → list_any f ns ≡ true → list_any g ns ≡ true
any_more f g more [] h = h
any_more f g more (n ∷ ns) h = elim (or_cases (f n) (list_any f ns) h) [
  | inl here ↦ or_left (g n) (list_any g ns) (more n here)
  | inr later ↦ or_right (g n) (list_any g ns) (any_more f g more ns later)
]

-- the first of the numbers at which there is no endpoint held
first_at : (p : Plan) (q : Record) (s n a j : ℕ) → a ≤ j → j < a + n → ((k : ℕ) → k < j → is_held p q s k ≡ true) → is_held p q s j ≡ false
    → first_missing p q s (range_with_len a n) ≡ Some j
first_at p q s zero a j low high held missing = absurd (omega arith)
first_at p q s (suc n) a j low high held missing = elim (ℕ_discrete a j) [
  | yes same ↦
      ap (λ x. if x then first_missing p q s (range_with_len (a + 1) n) else Some a) (ap (is_held p q s) same ∙ missing) ∙ ap Some same
  | no other ↦
      ap (λ x. if x then first_missing p q s (range_with_len (a + 1) n) else Some a) (held a (omega (arith, other)))
      ∙ first_at p q s n (a + 1) j (omega (arith, other)) (omega arith) held missing
]

module _ (p : Plan) (q : Record) (s j : ℕ) where
  abbrev after : Record
  after = Told (Bind s j) ∷ q

  busy_more : (t k : ℕ) → is_busy p q t k ≡ true → is_busy p after t k ≡ true
  busy_more t k h = elim (cases_Bool (s == t && j == k)) [ inl same ↦ rw (same) | inr off ↦ rw (off) h ]

  worked_more : (a : Option (List ℕ)) (t k : ℕ) → (same_address (address p t k) a && (is_at_work p q t && is_busy p q t k)) ≡ true
      → (same_address (address p t k) a && (is_at_work p after t && is_busy p after t k)) ≡ true
  worked_more a t k h =
      let one = both (same_address (address p t k) a) (is_at_work p q t && is_busy p q t k) h in
      let two = both (is_at_work p q t) (is_busy p q t k) one.1 in
      and (same_address (address p t k) a) (is_at_work p after t && is_busy p after t k) one.0
      (and (is_at_work p after t) (is_busy p after t k) two.0 (busy_more t k two.1))

  elsewhere_more : (a : Option (List ℕ)) → is_busy_elsewhere p q a ≡ true → is_busy_elsewhere p after a ≡ true
  elsewhere_more a h =
      any_more (λ t. list_any (λ k. same_address (address p t k) a && (is_at_work p q t && is_busy p q t k)) (endpoint_numbers p t))
      (λ t. list_any (λ k. same_address (address p t k) a && (is_at_work p after t && is_busy p after t k)) (endpoint_numbers p t))
      (λ t.
      any_more (λ k. same_address (address p t k) a && (is_at_work p q t && is_busy p q t k))
      (λ k. same_address (address p t k) a && (is_at_work p after t && is_busy p after t k)) (worked_more a t) (endpoint_numbers p t))
      (services p) h

  waits_at_more : (t k : ℕ) → waits_at p q t k ≡ true → waits_at p after t k ≡ true
  waits_at_more t k h =
      let a = address p t k in
      elim (or_cases (is_busy p q t k) (not (has_live p q a) && is_busy_elsewhere p q a) h) [
        | inl busy ↦ or_left (is_busy p after t k) (not (has_live p after a) && is_busy_elsewhere p after a) (busy_more t k busy)
        | inr elsewhere ↦
            (let parts = both (not (has_live p q a)) (is_busy_elsewhere p q a) elsewhere in
            or_right (is_busy p after t k) (not (has_live p after a) && is_busy_elsewhere p after a)
            (and (not (has_live p after a)) (is_busy_elsewhere p after a) parts.0 (elsewhere_more a parts.1)))
      ]

  from_more : (t k : ℕ) (o : Option ℕ) → waits_from p q t k o ≡ true → waits_from p after t k o ≡ true
  from_more t k None h = h
  from_more t k (Some m) h =
      let parts = both (nat_le m k) (waits_at p q t m) h in
      and (nat_le m k) (waits_at p after t m) parts.0 (waits_at_more t m parts.1)

  waits_more : (t k : ℕ) → waits p q t k ≡ true → waits p after t k ≡ true
  waits_more t k h = from_more t k (first_missing p q t (endpoint_numbers p t)) h

  more_by : (w h x y : Bool) → (x ≡ true → y ≡ true) → (not w || (h || x)) ≡ true → (not w || (h || y)) ≡ true
  more_by true true x y f e = refl
  more_by true false x y f e = f e
  more_by false h x y f e = refl

  -- each endpoint is as right as it was
  pub right_more : (t k : ℕ) → endpoint_right p q t k ≡ true → endpoint_right p after t k ≡ true
  right_more t k h = more_by (is_at_work p q t) (holds p q t k) (waits p q t k) (waits p after t k) (waits_more t k) h

  pub late_more : (t k : ℕ) → endpoint_right_late p q t k ≡ true → endpoint_right_late p after t k ≡ true
  late_more t k h = more_by (is_at_work p q t) (is_held p q t k) (waits p q t k) (waits p after t k) (waits_more t k) h

  now_busy : is_busy p after s j ≡ true
  now_busy = rw (eq-eqb s s refl, eq-eqb j j refl)

  -- the endpoint whose turn it was waits, and so does each behind it
  waits_now : (k : ℕ) → has_turn p q s j ≡ true → j ≤ k → j < length (endpoints p s) → waits p after s k ≡ true
  waits_now k turn high inside =
      let held = list_all (is_held p q s) (range_with_len 0 j) in
      let parts = both ((is_endpoint p s j && is_at_work p q s) && held) (not (is_held p q s j) && not (is_ask_open q s j)) turn in
      let earlier = both (is_endpoint p s j && is_at_work p q s) held parts.0 in
      let missing = apart_from (is_held p q s j) ((both (not (is_held p q s j)) (not (is_ask_open q s j)) parts.1).0) in
      ap (waits_from p after s k)
      (first_at p q s (length (endpoints p s)) 0 j (omega arith) (omega (arith, inside)) (λ m low. below (is_held p q s) j m earlier.1 low) missing)
      ∙ and (nat_le j k) (waits_at p after s j) (le-leb j k high)
      (or_left (is_busy p after s j) (not (has_live p after (address p s j)) && is_busy_elsewhere p after (address p s j)) now_busy)

  third : (w h x : Bool) → x ≡ true → (not w || (h || x)) ≡ true
  third w h x e = or_right (not w) (h || x) (or_right h x e)

  pub right_now : (k : ℕ) → has_turn p q s j ≡ true → j ≤ k → j < length (endpoints p s) → endpoint_right p after s k ≡ true
  right_now k turn high inside = third (is_at_work p after s) (holds p after s k) (waits p after s k) (waits_now k turn high inside)

  pub late_now : (k : ℕ) → has_turn p q s j ≡ true → j ≤ k → j < length (endpoints p s) → endpoint_right_late p after s k ≡ true
  late_now k turn high inside = third (is_at_work p after s) (is_held p after s k) (waits p after s k) (waits_now k turn high inside)
