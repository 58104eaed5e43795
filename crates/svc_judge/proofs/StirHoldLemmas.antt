-- What words of services, their starts, binds and addresses in use leave of who has failed, who holds and who waits.
use Rattle.std.proofs.Common.{ℕ, Bool, true, false, not, ◌&&◌, ◌||◌, ◌==◌, nat_le, ◌+◌, arith, List, ◌∷◌, ◌≡◌, refl, sym, ap, subst, ◌∙◌, inl, inr, Option, Some, None, if◌then◌else◌}
use Rattle.std.specs.List.{list_any}
use Rattle.std.proofs.lemmas.Bool.{false≢true, cases_Bool, eqb-true, or_cases, or_left, or_right, le-leb, leb-true}
use Rattle.svc_base.proofs.Logic.{apart_from}
use Rattle.svc_record.specs.declared.plan.Plan.{Plan}
use Rattle.svc_record.specs.declared.entry.Entry.{Entry}
use Rattle.svc_record.specs.declared.entry.Entry.TheVariants.{Got, Told}
use Rattle.svc_record.specs.declared.event.Event.TheVariants.{Ready, Ended, InUse}
use Rattle.svc_record.specs.declared.action.Action.TheVariants.{Start, Bind}
use Rattle.svc_record.specs.Record.{Record, has, now}
use Rattle.svc_record.specs.Plans.{services, endpoint_numbers, address, same_address}
use Rattle.svc_record.specs.Descriptors.{has_live}
use Rattle.svc_record.specs.Failed.{is_failure, in_use_count, in_use_limit, has_failed}
use Rattle.svc_record.specs.Starts.{is_start, is_started}
use Rattle.svc_record.specs.Asks.{is_ask_open}
use Rattle.svc_record.specs.Endpoints.{is_held, holds, in_use_within, is_at_work, is_busy, is_busy_elsewhere, waits_at, first_missing, waits_from, waits, endpoint_right, endpoint_right_late}
use Rattle.svc_record.proofs.Sound.{both}
use Rattle.svc_judge.specs.Stirred.{stays_busy, is_stir}
use Rattle.svc_judge.proofs.VerdictLemmas.{and}
use Rattle.svc_judge.proofs.StillLemmas.{any_same}
use Rattle.svc_judge.proofs.NextBindLemmas.{any_more, right_more, late_more}

-- what holds of a record is so after an entry, by which nothing is held, and no less is asked for
record Leaves (p : Plan) (q a : Record) : Type 0 where
  live : (x : Option (List ℕ)) → has_live p a x ≡ has_live p q x
  missing : (t : ℕ) → first_missing p a t (endpoint_numbers p t) ≡ first_missing p q t (endpoint_numbers p t)
  held : (t k : ℕ) → is_held p a t k ≡ is_held p q t k
  holds : (t k : ℕ) → holds p a t k ≡ holds p q t k
  worked : (t k : ℕ) → (is_at_work p q t && is_busy p q t k) ≡ true → (is_at_work p a t && is_busy p a t k) ≡ true

-- what an endpoint asks for is no less
record Stays (p : Plan) (q a : Record) (t : ℕ) : Type 0 where
  work : is_at_work p a t ≡ is_at_work p q t
  busy : (k : ℕ) → is_busy p q t k ≡ true → is_busy p a t k ≡ true

more_by : (w v h g x y : Bool) → v ≡ w → g ≡ h → (x ≡ true → y ≡ true) → (not w || (h || x)) ≡ true → (not v || (g || y)) ≡ true
more_by true v true g x y e f m r = rw (e, f)
more_by true v false g x y e f m r = rw (e, f) (m r)
more_by false v h g x y e f m r = rw (e)

module _ (p : Plan) (q a : Record) (l : Leaves p q a) where
  worked_more : (x : Option (List ℕ)) (t k : ℕ) → (same_address (address p t k) x && (is_at_work p q t && is_busy p q t k)) ≡ true
      → (same_address (address p t k) x && (is_at_work p a t && is_busy p a t k)) ≡ true
  worked_more x t k h =
      let one = both (same_address (address p t k) x) (is_at_work p q t && is_busy p q t k) h in
      and (same_address (address p t k) x) (is_at_work p a t && is_busy p a t k) one.0 (l.worked t k one.1)

  elsewhere_more : (x : Option (List ℕ)) → is_busy_elsewhere p q x ≡ true → is_busy_elsewhere p a x ≡ true
  elsewhere_more x h =
      any_more (λ t. list_any (λ k. same_address (address p t k) x && (is_at_work p q t && is_busy p q t k)) (endpoint_numbers p t))
      (λ t. list_any (λ k. same_address (address p t k) x && (is_at_work p a t && is_busy p a t k)) (endpoint_numbers p t))
      (λ t.
      any_more (λ k. same_address (address p t k) x && (is_at_work p q t && is_busy p q t k))
      (λ k. same_address (address p t k) x && (is_at_work p a t && is_busy p a t k)) (worked_more x t) (endpoint_numbers p t))
      (services p) h

  module _ (t : ℕ) (s : Stays p q a t) where
    waits_at_more : (k : ℕ) → waits_at p q t k ≡ true → waits_at p a t k ≡ true
    waits_at_more k h =
        let x = address p t k in
        elim (or_cases (is_busy p q t k) (not (has_live p q x) && is_busy_elsewhere p q x) h) [
          | inl busy ↦ or_left (is_busy p a t k) (not (has_live p a x) && is_busy_elsewhere p a x) (s.busy k busy)
          | inr elsewhere ↦
              (let parts = both (not (has_live p q x)) (is_busy_elsewhere p q x) elsewhere in
              or_right (is_busy p a t k) (not (has_live p a x) && is_busy_elsewhere p a x)
              (and (not (has_live p a x)) (is_busy_elsewhere p a x) (ap not (l.live x) ∙ parts.0) (elsewhere_more x parts.1)))
        ]

    from_more : (k : ℕ) (o : Option ℕ) → waits_from p q t k o ≡ true → waits_from p a t k o ≡ true
    from_more k None h = h
    from_more k (Some m) h =
        let parts = both (nat_le m k) (waits_at p q t m) h in and (nat_le m k) (waits_at p a t m) parts.0 (waits_at_more m parts.1)

    waits_more : (k : ℕ) → waits p q t k ≡ true → waits p a t k ≡ true
    waits_more k h = ap (waits_from p a t k) (l.missing t) ∙ from_more k (first_missing p q t (endpoint_numbers p t)) h

    right_kept : (k : ℕ) → endpoint_right p q t k ≡ true → endpoint_right p a t k ≡ true
    right_kept k h =
        more_by (is_at_work p q t) (is_at_work p a t) (holds p q t k) (holds p a t k) (waits p q t k) (waits p a t k) s.work (l.holds t k) (waits_more k) h

    late_kept : (k : ℕ) → endpoint_right_late p q t k ≡ true → endpoint_right_late p a t k ≡ true
    late_kept k h =
        more_by (is_at_work p q t) (is_at_work p a t) (is_held p q t k) (is_held p a t k) (waits p q t k) (waits p a t k) s.work (l.held t k)
        (waits_more k) h

module _ (p : Plan) (q : Record) (s : ℕ) where
  abbrev started : Record
  started = Told (Start s) ∷ q

  start_leaves : Leaves p q started
  start_leaves = record {
    live = λ x. refl;
    missing = λ t. refl;
    held = λ t k. refl;
    holds = λ t k. refl;
    worked = λ t k h.
        let parts = both (is_at_work p q t) (is_busy p q t k) h in
        let work = both (is_started q t) (not (has_failed p q t)) parts.0 in
        and (is_at_work p started t) (is_busy p started t k)
        (and (is_started started t) (not (has_failed p started t)) (or_right (s == t) (is_started q t) work.0) work.1) parts.1;
  }

  start_stays : (t : ℕ) → (s == t) ≡ false → Stays p q started t
  start_stays t n = record { work = rw (n); busy = λ k h. h }

-- more answers that an address is in use are no fewer than the limit
count_more : (b : Bool) (limit count : ℕ) → nat_le limit count ≡ true → nat_le limit (if b then count + 1 else count) ≡ true
count_more true limit count h = le-leb limit (count + 1) (omega (arith, leb-true limit count h))
count_more false limit count h = h

module _ (p : Plan) (q : Record) (s i : ℕ) (h : stays_busy p (Got (InUse s i) ∷ q) s i ≡ true) where
  abbrev used : Record
  used = Got (InUse s i) ∷ q

  works : has_failed p used s ≡ false
  works =
      let parts = both (is_at_work p used s) (is_busy p used s i) h in
      apart_from (has_failed p used s) ((both (is_started used s) (not (has_failed p used s)) parts.0).1)

  failed_more : has_failed p q s ≡ true → has_failed p used s ≡ true
  failed_more =
      any_more (λ k. has (is_failure s k) q || nat_le (in_use_limit p s k) (in_use_count p q s k))
      (λ k. has (is_failure s k) q || nat_le (in_use_limit p s k) (in_use_count p used s k))
      (λ k g.
      elim (or_cases (has (is_failure s k) q) (nat_le (in_use_limit p s k) (in_use_count p q s k)) g) [
        | inl failure ↦ or_left (has (is_failure s k) q) (nat_le (in_use_limit p s k) (in_use_count p used s k)) failure
        | inr often ↦
            or_right (has (is_failure s k) q) (nat_le (in_use_limit p s k) (in_use_count p used s k))
            (count_more ((s == s && i == k) && not (has_live p q (address p s k))) (in_use_limit p s k) (in_use_count p q s k) often)
      ])
      (endpoint_numbers p s)

  own_failed : has_failed p used s ≡ has_failed p q s
  own_failed = elim (cases_Bool (has_failed p q s)) [
    | inl y ↦ absurd (false≢true (sym works ∙ failed_more y))
    | inr n ↦ works ∙ sym n
  ]

  other_failed : (t : ℕ) → (s == t) ≡ false → has_failed p used t ≡ has_failed p q t
  other_failed t n =
      any_same (λ k. has (is_failure t k) q || nat_le (in_use_limit p t k) (in_use_count p used t k))
      (λ k. has (is_failure t k) q || nat_le (in_use_limit p t k) (in_use_count p q t k)) (λ k. rw (n)) (endpoint_numbers p t)

  -- who has failed is the same
  pub used_failed : (t : ℕ) → has_failed p used t ≡ has_failed p q t
  used_failed t = elim (cases_Bool (s == t)) [
    | inl y ↦ subst (λ u. has_failed p used u ≡ has_failed p q u) (eqb-true s t y) own_failed
    | inr n ↦ other_failed t n
  ]

  used_work : (t : ℕ) → is_at_work p used t ≡ is_at_work p q t
  used_work t = ap (λ b. is_started q t && not b) (used_failed t)

  used_busy : (t k : ℕ) → (s == t && i == k) ≡ false → is_busy p used t k ≡ is_busy p q t k
  used_busy t k n =
      rw (n)
      (ap
      (λ b. is_ask_open q t k || (((not b && not (is_held p q t k)) && in_use_within (now q) q t k) && not (has_live p q (address p t k))))
      (used_failed t))

  used_worked : (t k : ℕ) → (is_at_work p q t && is_busy p q t k) ≡ true → (is_at_work p used t && is_busy p used t k) ≡ true
  used_worked t k g = elim (cases_Bool (s == t && i == k)) [
    | inl y ↦
        (let same = both (s == t) (i == k) y in
        subst (λ u. (is_at_work p used u && is_busy p used u k) ≡ true) (eqb-true s t same.0)
        (subst (λ m. (is_at_work p used s && is_busy p used s m) ≡ true) (eqb-true i k same.1) h))
    | inr n ↦
        (let parts = both (is_at_work p q t) (is_busy p q t k) g in
        and (is_at_work p used t) (is_busy p used t k) (used_work t ∙ parts.0) (used_busy t k n ∙ parts.1))
  ]

  used_leaves : Leaves p q used
  used_leaves = record { live = λ x. refl; missing = λ t. refl; held = λ t k. refl; holds = λ t k. refl; worked = used_worked }

  used_more : (t k : ℕ) → is_busy p q t k ≡ true → is_busy p used t k ≡ true
  used_more t k g = elim (cases_Bool (s == t && i == k)) [
    | inl y ↦
        (let same = both (s == t) (i == k) y in
        subst (λ u. is_busy p used u k ≡ true) (eqb-true s t same.0)
        (subst (λ m. is_busy p used s m ≡ true) (eqb-true i k same.1) ((both (is_at_work p used s) (is_busy p used s i) h).1)))
    | inr n ↦ used_busy t k n ∙ g
  ]

  used_stays : (t : ℕ) → Stays p q used t
  used_stays t = record { work = used_work t; busy = used_more t }

-- who has failed is so after such an entry
pub failed_same : (p : Plan) (e : Entry) (q : Record) (t : ℕ) → is_stir p e q ≡ true → has_failed p (e ∷ q) t ≡ has_failed p q t
failed_same p (Got (Ready s)) q t h = refl
failed_same p (Got (Ended s)) q t h = refl
failed_same p (Got (InUse s i)) q t h = used_failed p q s i h t
failed_same p (Told (Start s)) q t h = refl
failed_same p (Told (Bind s i)) q t h = refl
failed_same p _ q t h = absurd (false≢true h)

-- an endpoint of a service that the entry doesn't stir is as right as it was
pub right_left : (p : Plan) (e : Entry) (q : Record) (t k : ℕ) → is_stir p e q ≡ true → is_start t e ≡ false → endpoint_right p q t k ≡ true
    → endpoint_right p (e ∷ q) t k ≡ true
right_left p (Got (Ready s)) q t k h n g = g
right_left p (Got (Ended s)) q t k h n g = g
right_left p (Got (InUse s i)) q t k h n g = right_kept p q (Got (InUse s i) ∷ q) (used_leaves p q s i h) t (used_stays p q s i h t) k g
right_left p (Told (Start s)) q t k h n g = right_kept p q (Told (Start s) ∷ q) (start_leaves p q s) t (start_stays p q s t n) k g
right_left p (Told (Bind s i)) q t k h n g = right_more p q s i t k g
right_left p _ q t k h n g = absurd (false≢true h)

-- and so as after the signal
pub late_left : (p : Plan) (e : Entry) (q : Record) (t k : ℕ) → is_stir p e q ≡ true → is_start t e ≡ false → endpoint_right_late p q t k ≡ true
    → endpoint_right_late p (e ∷ q) t k ≡ true
late_left p (Got (Ready s)) q t k h n g = g
late_left p (Got (Ended s)) q t k h n g = g
late_left p (Got (InUse s i)) q t k h n g = late_kept p q (Got (InUse s i) ∷ q) (used_leaves p q s i h) t (used_stays p q s i h t) k g
late_left p (Told (Start s)) q t k h n g = late_kept p q (Told (Start s) ∷ q) (start_leaves p q s) t (start_stays p q s t n) k g
late_left p (Told (Bind s i)) q t k h n g = late_more p q s i t k g
late_left p _ q t k h n g = absurd (false≢true h)
