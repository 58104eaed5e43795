-- What a later Start, Bind or Adopt leaves of an endpoint that holds or waits.
use Rattle.std.proofs.Common.{ℕ, Bool, true, false, ◌||◌, ◌&&◌, ◌==◌, not, ◌⊎◌, inl, inr, List, ◌∷◌, ◌≡◌, refl, arith, Option, Some, None, nat_le, if◌then◌else◌}
use Rattle.std.proofs.lemmas.Bool.{and_parts, and_from}
use Rattle.svc_record.specs.declared.plan.Plan.{Plan}
use Rattle.svc_record.specs.declared.entry.Entry.TheVariants.{Told}
use Rattle.svc_record.specs.declared.action.Action.TheVariants.{Start, Bind, Adopt}
use Rattle.svc_record.specs.Record.{Record, now}
use Rattle.svc_record.specs.Plans.{address, same_address, any_with, endpoint_numbers, services}
use Rattle.svc_record.specs.Descriptors.{has_live}
use Rattle.svc_record.specs.Asks.{is_bind_open, is_adopt_open}
use Rattle.svc_record.specs.Failed.{has_failed}
use Rattle.svc_record.specs.Starts.{is_started}
use Rattle.svc_record.specs.Endpoints.{is_held, holds, in_use_within, rests, is_busy, is_busy_elsewhere, waits_at, waits, first_missing, is_at_work, endpoint_right, endpoint_right_late}
use Rattle.svc_endpoints.proofs.RangeLemmas.{any-grows}

busy_asked : (here b a r w l : Bool) → ((b || a) || ((r && w) && l)) ≡ true
    → (((if here then true else b) || a) || ((r && (if here then false else w)) && l)) ≡ true
busy_asked true b a r w l h = refl
busy_asked false b a r w l h = h

busy_offered : (here b a r : Bool) → ((b || a) || r) ≡ true → ((b || (if here then true else a)) || r) ≡ true
busy_offered true b a r h = grind arith
busy_offered false b a r h = h

pub busy-bind : (p : Plan) (q : Record) (t k s i : ℕ) → is_busy p q s i ≡ true → is_busy p (Told (Bind t k) ∷ q) s i ≡ true
busy-bind p q t k s i h =
    busy_asked (t == s && k == i) (is_bind_open q s i) (is_adopt_open q s i) (not (has_failed p q s) && not (is_held p q s i)) (in_use_within (now q) q s i)
    (not (has_live p q (address p s i))) h

pub busy-adopt : (p : Plan) (q : Record) (t k fd s i : ℕ) → is_busy p q s i ≡ true → is_busy p (Told (Adopt t k fd) ∷ q) s i ≡ true
busy-adopt p q t k fd s i h = busy_offered (t == s && k == i) (is_bind_open q s i) (is_adopt_open q s i) (rests p q s i) h

pub any_with-grows : (p : Plan) (a : Option (List ℕ)) (f g : ℕ → ℕ → Bool) → ((s i : ℕ) → f s i ≡ true → g s i ≡ true) → any_with p a f ≡ true
    → any_with p a g ≡ true
any_with-grows p a f g grow h = any-grows _ _ (services p) (λ s. any-grows _ _ (endpoint_numbers p s) (λ i e.
    let parts = and_parts (same_address (address p s i) a) (f s i) e in and_from (same_address (address p s i) a) (g s i) parts.0 (grow s i parts.1))) h

grow_waits_at : (b b' n e e' : Bool) → (b ≡ true → b' ≡ true) → (e ≡ true → e' ≡ true) → (b || (n && e)) ≡ true → (b' || (n && e')) ≡ true
grow_waits_at true b' n e e' f g h = rw (f refl) refl
grow_waits_at false b' true e e' f g h = rw (g h) (or_true b')
  where
    or_true : (c : Bool) → (c || true) ≡ true
    or_true c = grind arith
grow_waits_at false b' false e e' f g h = absurd (cc)

pub cases_Option : (x : Option ℕ) → (x ≡ None) ⊎ ((j : ℕ) × (x ≡ Some j))
cases_Option None = inl refl
cases_Option (Some j) = inr (j, refl)

grow_right : (c c' h w w' : Bool) → (c' ≡ true → c ≡ true) → (w ≡ true → w' ≡ true) → (not c || (h || w)) ≡ true → (not c' || (h || w')) ≡ true
grow_right c false h w w' f g e = refl
grow_right c true true w w' f g e = refl
grow_right c true false w w' f g e = g (last_of c w (f refl) e)
  where
    last_of : (c w : Bool) → c ≡ true → (not c || (false || w)) ≡ true → w ≡ true
    last_of c w f e = grind arith

grow_counts : (here on f b b' : Bool) → (b ≡ true → b' ≡ true) → ((on && not f) && b) ≡ true → (((here || on) && not f) && b') ≡ true
grow_counts here true false b b' g h = rw (g h) (or_on here)
  where
    or_on : (c : Bool) → (((c || true) && true) && true) ≡ true
    or_on c = grind arith
grow_counts here true true b b' g h = absurd (cc)
grow_counts here false f b b' g h = absurd (cc)

module _ (p : Plan) (q : Record) (t k : ℕ) where
  waits_at-bind : (s j : ℕ) → waits_at p q s j ≡ true → waits_at p (Told (Bind t k) ∷ q) s j ≡ true
  waits_at-bind s j h =
      grow_waits_at (is_busy p q s j) (is_busy p (Told (Bind t k) ∷ q) s j) (not (has_live p q (address p s j))) (is_busy_elsewhere p q (address p s j))
      (is_busy_elsewhere p (Told (Bind t k) ∷ q) (address p s j)) (busy-bind p q t k s j)
      (any_with-grows p (address p s j) (λ u i. (is_started q u && not (has_failed p q u)) && is_busy p q u i) _
      (λ u i. grow_counts false (is_started q u) (has_failed p q u) (is_busy p q u i) (is_busy p (Told (Bind t k) ∷ q) u i) (busy-bind p q t k u i))) h

  waits-bind : (s i : ℕ) → waits p q s i ≡ true → waits p (Told (Bind t k) ∷ q) s i ≡ true
  waits-bind s i h = elim (cases_Option (first_missing p q s (endpoint_numbers p s))) [
    | inl none ↦ absurd (let no = rw none at h in cc)
    | inr some ↦ (let yes = rw some.1 at h in let parts = and_parts (nat_le some.0 i) (waits_at p q s some.0) yes in
        rw some.1 (and_from (nat_le some.0 i) (waits_at p (Told (Bind t k) ∷ q) s some.0) parts.0 (waits_at-bind s some.0 parts.1)))
  ]

  pub right-bind : (s i : ℕ) → endpoint_right p q s i ≡ true → endpoint_right p (Told (Bind t k) ∷ q) s i ≡ true
  right-bind s i h =
      grow_right (is_at_work p q s) (is_at_work p q s) (holds p q s i) (waits p q s i) (waits p (Told (Bind t k) ∷ q) s i) (λ e. e) (waits-bind s i) h

  pub late-bind : (s i : ℕ) → endpoint_right_late p q s i ≡ true → endpoint_right_late p (Told (Bind t k) ∷ q) s i ≡ true
  late-bind s i h =
      grow_right (is_at_work p q s) (is_at_work p q s) (is_held p q s i) (waits p q s i) (waits p (Told (Bind t k) ∷ q) s i) (λ e. e) (waits-bind s i) h

module _ (p : Plan) (q : Record) (t k fd : ℕ) where
  waits_at-adopt : (s j : ℕ) → waits_at p q s j ≡ true → waits_at p (Told (Adopt t k fd) ∷ q) s j ≡ true
  waits_at-adopt s j h =
      grow_waits_at (is_busy p q s j) (is_busy p (Told (Adopt t k fd) ∷ q) s j) (not (has_live p q (address p s j))) (is_busy_elsewhere p q (address p s j))
      (is_busy_elsewhere p (Told (Adopt t k fd) ∷ q) (address p s j)) (busy-adopt p q t k fd s j)
      (any_with-grows p (address p s j) (λ u i. (is_started q u && not (has_failed p q u)) && is_busy p q u i) _
      (λ u i. grow_counts false (is_started q u) (has_failed p q u) (is_busy p q u i) (is_busy p (Told (Adopt t k fd) ∷ q) u i)
      (busy-adopt p q t k fd u i))) h

  waits-adopt : (s i : ℕ) → waits p q s i ≡ true → waits p (Told (Adopt t k fd) ∷ q) s i ≡ true
  waits-adopt s i h = elim (cases_Option (first_missing p q s (endpoint_numbers p s))) [
    | inl none ↦ absurd (let no = rw none at h in cc)
    | inr some ↦ (let yes = rw some.1 at h in let parts = and_parts (nat_le some.0 i) (waits_at p q s some.0) yes in
        rw some.1 (and_from (nat_le some.0 i) (waits_at p (Told (Adopt t k fd) ∷ q) s some.0) parts.0 (waits_at-adopt s some.0 parts.1)))
  ]

  pub right-adopt : (s i : ℕ) → endpoint_right p q s i ≡ true → endpoint_right p (Told (Adopt t k fd) ∷ q) s i ≡ true
  right-adopt s i h =
      grow_right (is_at_work p q s) (is_at_work p q s) (holds p q s i) (waits p q s i) (waits p (Told (Adopt t k fd) ∷ q) s i) (λ e. e) (waits-adopt s i) h

  pub late-adopt : (s i : ℕ) → endpoint_right_late p q s i ≡ true → endpoint_right_late p (Told (Adopt t k fd) ∷ q) s i ≡ true
  late-adopt s i h =
      grow_right (is_at_work p q s) (is_at_work p q s) (is_held p q s i) (waits p q s i) (waits p (Told (Adopt t k fd) ∷ q) s i) (λ e. e) (waits-adopt s i) h

module _ (p : Plan) (q : Record) (t : ℕ) where
  waits_at-start : (s j : ℕ) → waits_at p q s j ≡ true → waits_at p (Told (Start t) ∷ q) s j ≡ true
  waits_at-start s j h =
      grow_waits_at (is_busy p q s j) (is_busy p q s j) (not (has_live p q (address p s j))) (is_busy_elsewhere p q (address p s j))
      (is_busy_elsewhere p (Told (Start t) ∷ q) (address p s j)) (λ e. e)
      (any_with-grows p (address p s j) (λ u i. (is_started q u && not (has_failed p q u)) && is_busy p q u i) _
      (λ u i. grow_counts (t == u) (is_started q u) (has_failed p q u) (is_busy p q u i) (is_busy p q u i) (λ e. e))) h

  waits-start : (s i : ℕ) → waits p q s i ≡ true → waits p (Told (Start t) ∷ q) s i ≡ true
  waits-start s i h = elim (cases_Option (first_missing p q s (endpoint_numbers p s))) [
    | inl none ↦ absurd (let no = rw none at h in cc)
    | inr some ↦ (let yes = rw some.1 at h in let parts = and_parts (nat_le some.0 i) (waits_at p q s some.0) yes in
        rw some.1 (and_from (nat_le some.0 i) (waits_at p (Told (Start t) ∷ q) s some.0) parts.0 (waits_at-start s some.0 parts.1)))
  ]

  -- at each service but the one that starts
  pub right-start : (s i : ℕ) → (t == s) ≡ false → endpoint_right p q s i ≡ true → endpoint_right p (Told (Start t) ∷ q) s i ≡ true
  right-start s i other h =
      grow_right (is_at_work p q s) (is_at_work p (Told (Start t) ∷ q) s) (holds p q s i) (waits p q s i) (waits p (Told (Start t) ∷ q) s i)
      (λ e. rw other at e) (waits-start s i) h

  pub late-start : (s i : ℕ) → (t == s) ≡ false → endpoint_right_late p q s i ≡ true → endpoint_right_late p (Told (Start t) ∷ q) s i ≡ true
  late-start s i other h =
      grow_right (is_at_work p q s) (is_at_work p (Told (Start t) ∷ q) s) (is_held p q s i) (waits p q s i) (waits p (Told (Start t) ∷ q) s i)
      (λ e. rw other at e) (waits-start s i) h
