-- What a bind that brought a descriptor leaves, with the close of a doubled one.
use Rattle.std.proofs.Common.{ℕ, Bool, true, false, ◌&&◌, ◌==◌, not, inl, inr, List, [], ◌∷◌, ◌++◌, ◌≡◌, refl, ap, sym, ◌∙◌, subst, arith, ◌<◌, ◌≤◌, ◌+◌, length, nat_lt, map, slice_index_or, ◌||◌, Option, Some, if◌then◌else◌}
use Rattle.std.proofs.lemmas.Bool.{cases_Bool, cases_eq, and_from, and_left, or_left, or_right, eq-eqb, ne_eqb}
use Rattle.svc_record.specs.declared.plan.Plan.{Plan}
use Rattle.svc_record.specs.declared.entry.Entry.TheVariants.{Got, Told}
use Rattle.svc_record.specs.declared.action.Action.{Action}
use Rattle.svc_record.specs.declared.action.Action.TheVariants.{Close}
use Rattle.svc_record.specs.declared.event.Event.TheVariants.{Bound}
use Rattle.svc_record.specs.Record.{Record, has, times, tell}
use Rattle.svc_record.specs.Plans.{service_count, endpoints, address}
use Rattle.svc_record.specs.Descriptors.{Descriptor, has_live, is_close, is_opened, is_doubled, address_of, brings}
use Rattle.svc_base.specs.NumberSets.{ascending, put_number, is_in, distinct}
use Rattle.svc_record.specs.Closes.{is_gone, is_drained, is_received, is_address_unclaimed, is_address_abandoned, is_abandoned}
use Rattle.svc_record.specs.Fits.{is_new}
use Rattle.svc_record.specs.Offer.{is_held_back}
use Rattle.svc_record.specs.Tail.{numbers_in}
use Rattle.svc_record.specs.Told.{Tells, IsGivingUp}
use Rattle.svc_record.proofs.ClosesOnce.{closed_once}
use Rattle.svc_endpoints.specs.declared.table.Open.{Open}
use Rattle.svc_endpoints.specs.declared.states.EndpointStatus.{EndpointStatus}
use Rattle.svc_endpoints.specs.declared.states.EndpointStatus.TheVariants.{Idle, Holding}
use Rattle.svc_endpoints.specs.EndpointsData.{EndpointsData}
use Rattle.svc_endpoints.specs.Uses.{uses, is_drained_by}
use Rattle.svc_endpoints.specs.EndpointsState.{IsEndpointsSized, EndpointsStand, last_at, failed_at, times_in_use_at, idle, is_binding, is_holding, is_done, numbers_with}
use Rattle.svc_endpoints.specs.Effects.{has_open, put_last, with_open, with_number, put_open, bound, bound_again, bound_or_again, close_told}
use Rattle.svc_endpoints.proofs.GoneLemmas.{is_turned, is_gone_now, loops-told, loops-got}
use Rattle.svc_endpoints.proofs.UseLemmas.{drained-is, used-not_drained}
use Rattle.svc_endpoints.proofs.ChangeLemmas.{Changed, loops-changed, drained-same, changed-not_done, changed-put, put-here, binding-unused}
use Rattle.svc_endpoints.proofs.GrowLemmas.{gone-same, address-same}
use Rattle.svc_base.proofs.NumberSetLemmas.{any-ascending}
use Rattle.svc_base.proofs.Logic.{not_in, clash}
use Rattle.svc_endpoints.proofs.StatesLemmas.{has_open-is}
use Rattle.svc_endpoints.proofs.KeptLemmas.{asks_free_binding, asking_not_holding}
use Rattle.svc_endpoints.proofs.OneLemmas.{binding_asks}
use Rattle.svc_endpoints.proofs.TableLemmas.{numbers_of-put}
use Rattle.svc_endpoints.proofs.LiveLemmas.{live-bound, live-doubled}
use Rattle.svc_endpoints.proofs.OpenedLemmas.{brings-in, opened-in, doubled-opened, received-opened, live-opened}
use Rattle.svc_endpoints.proofs.NamedLemmas.{unneeded, abandoned-is}
use Rattle.svc_endpoints.proofs.OneLiveLemmas.{one_live-is}
use Rattle.svc_endpoints.proofs.BoundLemmas.{stands-again, stands-bound, kept-again, kept-bound}

not_true_false : (b : Bool) → (b ≡ true → ⊥) → b ≡ false
not_true_false true f = absurd (f refl)
not_true_false false f = refl

pub giving-close : (b : Bool) (fd : ℕ) → IsGivingUp (close_told b fd)
giving-close true fd = tt
giving-close false fd = tt

module _ (p : Plan) (d : EndpointsData) (q : Record) (s i fd : ℕ) (text : List ℕ) (sized : IsEndpointsSized p d) (inside : s < service_count p)
    (within : i < length (endpoints p s))
    (binds : is_binding (last_at d s i) ≡ true) (is : Some text ≡ address p s i) (fresh : is_in fd d.came ≡ false) (stand : EndpointsStand p d q) where
  free : failed_at d s ≡ false
  free = asks_free_binding p d s i sized inside within stand.kept binds

  -- the number is new
  not_came : is_in fd (numbers_in q) ≡ false
  not_came = sym (any-ascending (λ n. n == fd) (numbers_in q)) ∙ sym (ap (is_in fd) stand.came_are) ∙ fresh

  new : is_new q fd ≡ true
  new = not_in (has (brings fd) q) (brings-in q fd ∙ not_came)

  not_opened : is_opened p q fd ≡ false
  not_opened = opened-in p q fd ∙ not_came

  not_closed : has (is_close fd) q ≡ false
  not_closed = stand.states.closed_came fd new

  no_close : times (is_close fd) q ≡ 0
  no_close = closed_once p q fd stand.closes_once ∙ (rw not_closed refl)

  not_doubled : is_doubled p q fd ≡ false
  not_doubled = not_true_false (is_doubled p q fd) (λ h. clash (is_opened p q fd) (doubled-opened p q fd h) not_opened)

  not_in_table : (a : Option (List ℕ)) → is_in fd (numbers_with d.table a) ≡ false
  not_in_table a =
      not_true_false (is_in fd (numbers_with d.table a))
      (λ h. clash (is_opened p q fd) (live-opened p q fd a (ap (is_in fd) (sym (stand.states.with_is a)) ∙ h)) not_opened)

  not_received : is_received p q fd ≡ false
  not_received = not_true_false (is_received p q fd) (λ h. clash (is_opened p q fd) (received-opened p q fd h) not_opened)

  -- its address isn't abandoned, since the service that asked hasn't failed
  needed : is_address_abandoned p q (address p s i) ≡ false
  needed = subst (λ a. is_address_abandoned p q a ≡ false) is
      (not_true_false (is_abandoned p q text) (λ h. unneeded p d.failed d refl text (abandoned-is p d q stand.states text ∙ h) s i inside free (sym is)))

  -- what was opened before is gone as it was
  other_gone : (g : ℕ) → (fd == g) ≡ false → is_drained p (Got (Bound s i fd) ∷ q) g ≡ is_drained p q g → is_gone p (Got (Bound s i fd) ∷ q) g ≡ is_gone p q g
  other_gone g off drained = gone-same p q (Got (Bound s i fd) ∷ q) (λ t. refl) g (rw off refl) (rw off refl) refl drained

  opened_before : (g : ℕ) → (fd == g) ≡ false → is_opened p (Got (Bound s i fd) ∷ q) g ≡ true → is_opened p q g ≡ true
  opened_before g off h = rw off at h

  -- a new descriptor that is alone with its address isn't gone
  new_now : has_live p q (address p s i) ≡ false → is_gone_now p (Got (Bound s i fd) ∷ q) fd ≡ false
  new_now alone =
      rw (eq-eqb fd fd refl, alone, not_doubled, not_received)
      (and_left (is_address_abandoned p (Got (Bound s i fd) ∷ q) (address p s i)) (not (is_held_back p q fd))
      (address-same p q (Got (Bound s i fd) ∷ q) (λ t. refl) (address p s i) ∙ needed))

  new_stays : has_live p q (address p s i) ≡ false → is_drained p (Got (Bound s i fd) ∷ q) fd ≡ false → is_gone p (Got (Bound s i fd) ∷ q) fd ≡ false
  new_stays alone drained = ap (λ b. b || is_drained p (Got (Bound s i fd) ∷ q) fd) (new_now alone) ∙ drained

  new_goes : has_live p q (address p s i) ≡ true → is_gone p (Got (Bound s i fd) ∷ q) fd ≡ true
  new_goes taken =
      or_left (is_gone_now p (Got (Bound s i fd) ∷ q) fd) (is_drained p (Got (Bound s i fd) ∷ q) fd)
      (or_left (is_turned p (Got (Bound s i fd) ∷ q) fd) _
      (or_right (is_received p (Got (Bound s i fd) ∷ q) fd && is_address_unclaimed p (address_of p (Got (Bound s i fd) ∷ q) fd))
      (is_doubled p (Got (Bound s i fd) ∷ q) fd) (rw (eq-eqb fd fd refl, taken) refl)))

  in_rows : s < length d.rows
  in_rows = omega (arith, sized.services)

  in_row : i < length (slice_index_or d.rows s [])
  in_row = omega (arith, sized.each s inside)

  -- only this endpoint changes
  only_at : (m : EndpointsData) (x : EndpointStatus) → m.rows ≡ d.rows → m.failed ≡ d.failed → Changed p m (put_last m s i x) s i
  only_at m x rows flags =
      changed-put p m s i false (record { last = x; times_in_use = times_in_use_at m s i }) (omega (arith, ap length rows, in_rows))
      (omega (arith, ap (λ r. length (slice_index_or r s [])) rows, in_row))
      (omega (arith, ap length flags, sized.failed)) within
      (ap (λ r. is_holding (slice_index_or (slice_index_or r s []) i idle).last) rows
      ∙ asking_not_holding (last_at d s i) (binding_asks (last_at d s i) binds))

  only_bound : (text : List ℕ) → Changed p d (bound d s i fd text) s i
  only_bound text =
      let h = only_at (with_open fd text d) (Holding fd) refl refl in
      record { loops = h.loops; last = h.last; failed = h.failed; within = h.within; idle = h.idle }

  only_again : Changed p d (bound_again d s i fd) s i
  only_again =
      let h = only_at (with_number fd d) Idle refl refl in record { loops = h.loops; last = h.last; failed = h.failed; within = h.within; idle = h.idle }

  bound_drained : (text : List ℕ) (g : ℕ) → (fd == g) ≡ false → is_drained_by p (bound d s i fd text) g ≡ is_drained_by p d g
  bound_drained text g off = drained-same p d (bound d s i fd text) s i (only_bound text) q stand.loops g refl
      (ap (uses g (failed_at d s) (is_done p d s i))
      (put-here p (with_open fd text d) s i false (record { last = Holding fd; times_in_use = times_in_use_at d s i }) in_rows in_row)
      ∙ other (not (failed_at d s) && not (is_done p d s i)) (fd == g) off
      ∙ sym (binding-unused g (failed_at d s) (is_done p d s i) (last_at d s i) binds))
    where
      other : (a b : Bool) → b ≡ false → (a && b) ≡ false
      other a b h = grind arith

  again_drained : (g : ℕ) → is_drained_by p (bound_again d s i fd) g ≡ is_drained_by p d g
  again_drained g = drained-same p d (bound_again d s i fd) s i only_again q stand.loops g refl
      (ap (uses g (failed_at d s) (is_done p d s i))
      (put-here p (with_number fd d) s i false (record { last = Idle; times_in_use = times_in_use_at d s i }) in_rows in_row)
      ∙ sym (binding-unused g (failed_at d s) (is_done p d s i) (last_at d s i) binds))

  -- what holds it now isn't drained
  held_undrained : is_drained_by p (bound d s i fd text) fd ≡ false
  held_undrained = used-not_drained p (bound d s i fd text) fd s i inside within
      (ap (uses fd (failed_at d s) (is_done p d s i))
      (put-here p (with_open fd text d) s i false (record { last = Holding fd; times_in_use = times_in_use_at d s i }) in_rows in_row)
      ∙ (rw (free, changed-not_done p d (bound d s i fd text) s i (only_bound text) q stand.loops fd i, eq-eqb fd fd refl) refl))

  pub after-bound : has_open d.table (address p s i) ≡ false → EndpointsStand p (bound d s i fd text) (Got (Bound s i fd) ∷ q)
  after-bound none =
      let states = stands-bound p d s i fd sized inside within binds free q text new is none stand.states in
      let kept = kept-bound p d s i fd sized inside within binds free text is none not_in_table stand.kept in
      let alone : has_live p q (address p s i) ≡ false = sym (has_open-is p d q stand.states (address p s i)) ∙ none in
      let loops = loops-got p (bound d s i fd text) q (Bound s i fd) refl (loops-changed p d (bound d s i fd text) s i (only_bound text) q stand.loops) in
      record {
        states = states;
        loops = loops;
        kept = kept;
        asks_due = (refl, stand.asks_due);
        asks_known = (refl, stand.asks_known);
        closes_once = (refl, stand.closes_once);
        fails = stand.fails;
        closes = λ g came. elim (cases_eq fd g) [
          | inl e ↦ subst (λ n. times (is_close n) q ≡ (if is_gone p (Got (Bound s i fd) ∷ q) n then 1 else 0)) e
              (no_close ∙ ap (λ b. if b then 1 else 0)
              (sym (new_stays alone (drained-is p (bound d s i fd text) (Got (Bound s i fd) ∷ q) states loops fd ∙ held_undrained))))
          | inr ne ↦ (let off = ne_eqb fd g ne in stand.closes g (opened_before g off came) ∙ ap (λ b. if b then 1 else 0) (sym (other_gone g off
              (drained-is p (bound d s i fd text) (Got (Bound s i fd) ∷ q) states loops g ∙ bound_drained text g off
              ∙ sym (drained-is p d q stand.states stand.loops g)))))
        ];
        one_live = one_live-is p (bound d s i fd text) (Got (Bound s i fd) ∷ q) kept states;
        open_are = numbers_of-put (record { fd = fd; address = Some text }) d.table ∙ ap (put_number fd) stand.open_are
            ∙ ap (λ w. ascending (map (λ (x : Descriptor). x.number) w)) (sym (live-bound p q s i fd new not_closed));
        came_are = ap (put_number fd) stand.came_are;
        came_apart = and_from (not (is_in fd (numbers_in q))) (distinct (numbers_in q)) (not_in (is_in fd (numbers_in q)) not_came) stand.came_apart;
      }

  pub after-again : has_open d.table (address p s i) ≡ true → EndpointsStand p (bound_again d s i fd) (Told (Close fd) ∷ Got (Bound s i fd) ∷ q)
  after-again some =
      let states = stands-again p d s i fd sized inside within binds free q new some stand.states in
      let kept = kept-again p d s i fd sized inside within binds free stand.kept in
      let taken : has_live p q (address p s i) ≡ true = sym (has_open-is p d q stand.states (address p s i)) ∙ some in
      let loops = loops-told p (bound_again d s i fd) (Got (Bound s i fd) ∷ q) (Close fd)
      (loops-got p (bound_again d s i fd) q (Bound s i fd) refl (loops-changed p d (bound_again d s i fd) s i only_again q stand.loops)) in
      record {
        states = states;
        loops = loops;
        kept = kept;
        asks_due = (refl, (refl, stand.asks_due));
        asks_known = (refl, (refl, stand.asks_known));
        closes_once = (
          and_from (is_opened p (Got (Bound s i fd) ∷ q) fd) (not (has (is_close fd) q)) (or_left (fd == fd) (is_opened p q fd) (eq-eqb fd fd refl))
              (not_in (has (is_close fd) q) not_closed),
          (refl, stand.closes_once),
        );
        fails = stand.fails;
        closes = λ g came. elim (cases_eq fd g) [
          | inl e ↦ subst (λ n. times (is_close n) (Told (Close fd) ∷ Got (Bound s i fd) ∷ q) ≡ (if is_gone p (Got (Bound s i fd) ∷ q) n then 1 else 0)) e
              (closed_up ∙ ap (λ b. if b then 1 else 0) (sym (new_goes taken)))
          | inr ne ↦ (let off = ne_eqb fd g ne in not_counted g off ∙ stand.closes g (opened_before g off came)
              ∙ ap (λ b. if b then 1 else 0) (sym (other_gone g off
              (drained-is p (bound_again d s i fd) (Told (Close fd) ∷ Got (Bound s i fd) ∷ q) states loops g ∙ again_drained g
              ∙ sym (drained-is p d q stand.states stand.loops g)))))
        ];
        one_live = one_live-is p (bound_again d s i fd) (Told (Close fd) ∷ Got (Bound s i fd) ∷ q) kept states;
        open_are = stand.open_are ∙ ap (λ w. ascending (map (λ (x : Descriptor). x.number) w)) (sym (live-doubled p q s i fd new));
        came_are = ap (put_number fd) stand.came_are;
        came_apart = and_from (not (is_in fd (numbers_in q))) (distinct (numbers_in q)) (not_in (is_in fd (numbers_in q)) not_came) stand.came_apart;
      }
    where
      closed_up : times (is_close fd) (Told (Close fd) ∷ Got (Bound s i fd) ∷ q) ≡ 1
      closed_up = rw (eq-eqb fd fd refl, no_close) refl

      not_counted : (g : ℕ) → (fd == g) ≡ false → times (is_close g) (Told (Close fd) ∷ Got (Bound s i fd) ∷ q) ≡ times (is_close g) q
      not_counted g off = rw off refl

  pub after-answer : (b : Bool) → has_open d.table (Some text) ≡ b
      → EndpointsStand p (bound_or_again b d s i fd text) (tell (Got (Bound s i fd) ∷ q) (close_told b fd))
  after-answer true e = after-again (subst (λ a. has_open d.table a ≡ true) is e)
  after-answer false e = after-bound (subst (λ a. has_open d.table a ≡ false) is e)

-- what is told, and how much
pub tells-bound : (p : Plan) (d made_now : EndpointsData) (s i fd : ℕ) (text : List ℕ) (before after : List Action) → IsEndpointsSized p d → s < service_count p
    → i < length (endpoints p s)
    → is_binding (last_at d s i) ≡ true → Some text ≡ address p s i → is_in fd d.came ≡ false
    → made_now ≡ bound_or_again (has_open d.table (Some text)) d s i fd text → after ≡ before ++ close_told (has_open d.table (Some text)) fd
    → Tells before after (λ told. IsGivingUp told × ((q : Record) → EndpointsStand p d q → EndpointsStand p made_now (tell (Got (Bound s i fd) ∷ q) told)))
tells-bound p d made_now s i fd text before after sized inside within binds is fresh made appended = record {
  told = close_told (has_open d.table (Some text)) fd;
  appended = appended;
  kept = (
    giving-close (has_open d.table (Some text)) fd,
    λ q stand. subst (λ (m : EndpointsData). EndpointsStand p m (tell (Got (Bound s i fd) ∷ q) (close_told (has_open d.table (Some text)) fd))) (sym made)
        (after-answer p d q s i fd text sized inside within binds is fresh stand (has_open d.table (Some text)) refl),
  );
}

pub longer : (o : Open) (table : List Open) → length (put_open o table) ≡ length table + 1
longer o [] = refl
longer o (x ∷ more) = let h = longer o more in elim (cases_Bool (nat_lt o.fd x.fd)) [
  | inl below ↦ rw below (omega arith)
  | inr above ↦ rw above (omega (arith, h))
]

pub bound-few : (b : Bool) (d : EndpointsData) (s i fd : ℕ) (text : List ℕ)
    → length (close_told b fd) + length (bound_or_again b d s i fd text).table ≤ length d.table + 1
bound-few true d s i fd text = omega arith
bound-few false d s i fd text = let h = longer (record { fd = fd; address = Some text }) d.table in omega (arith, h)
