-- After a bind that ended well, and the one of the service's next endpoint, no rule is broken, where none is broken before.
use Rattle.std.proofs.Common.{ℕ, Bool, true, false, not, ◌&&◌, ◌||◌, ◌==◌, ◌+◌, ◌<◌, ◌≤◌, arith, nat_lt, [], ◌∷◌, length, ◌≡◌, refl, sym, ap, subst, ◌∙◌, inl, inr, None, if◌then◌else◌}
use Rattle.std.specs.List.{list_all, range_with_len}
use Rattle.std.proofs.lemmas.Bool.{false≢true, cases_Bool, cases_lt, eq-eqb, eqb-true, ltb-true}
use Rattle.svc_base.proofs.Logic.{apart_from}
use Rattle.svc_record.specs.declared.plan.Plan.{Plan}
use Rattle.svc_record.specs.declared.entry.Entry.TheVariants.{Got, Told}
use Rattle.svc_record.specs.declared.event.Event.TheVariants.{Bound}
use Rattle.svc_record.specs.declared.action.Action.TheVariants.{Bind}
use Rattle.svc_record.specs.Record.{Record, has, times, from_the_start, each_entry}
use Rattle.svc_record.specs.Plans.{service_count, endpoints, endpoint_numbers, address, same_address, is_endpoint, any_with}
use Rattle.svc_record.specs.Descriptors.{brings, has_live, is_close, is_opened}
use Rattle.svc_record.specs.Failed.{has_failed}
use Rattle.svc_record.specs.Asks.{is_bind_open, is_ask_open}
use Rattle.svc_record.specs.Endpoints.{is_held, is_at_work, is_busy, endpoint_right, endpoint_right_late, endpoints_right, endpoints_right_late}
use Rattle.svc_record.specs.AskRules.{has_turn, fails_right}
use Rattle.svc_record.specs.Boot.{may_begin, is_side_child, boot_right, boot_entries_right, stands_first, fork_first, start_after_boot}
use Rattle.svc_record.specs.Closes.{is_broadcast, close_once}
use Rattle.svc_record.specs.Ends.{has_ended}
use Rattle.svc_record.specs.Fits.{is_new, fits_row}
use Rattle.svc_record.specs.Offer.{one_ask}
use Rattle.svc_record.specs.Right.{in_service}
use Rattle.svc_record.proofs.Sound as sound
use Rattle.svc_record.proofs.Complete as complete
use Rattle.svc_record.proofs.Sound.{both}
use Rattle.svc_judge.specs.Verdicts.{at, entry_breach, are_endpoints_kept, open_breach, step_breach, place_breach, breach_below}
use Rattle.svc_judge.specs.Binds.{is_far, is_alone, names_it, has_own_address, is_free, binds_well, is_next_bound, is_well_bound}
use Rattle.svc_judge.proofs.VerdictLemmas.{and, neither, no_rule, entries, entry_keeps, EntryKeeps, OpenKeeps, settled_kept, step_keeps, step_clear, before_event}
use Rattle.svc_judge.proofs.NewLemmas.{before, at_event, open_from}
use Rattle.svc_judge.proofs.NewDescriptorLemmas.{unopened, unclosed, not_abandoned, closes_bound, one_live_bound}
use Rattle.svc_judge.proofs.BoundHoldLemmas.{right_other, late_other, right_own, late_own}
use Rattle.svc_judge.proofs.NextBindLemmas.{right_more, late_more, right_now, late_now}

-- what an entry keeps at which no rule is broken
pub told_keeps : (p : Plan) (a : _) (q : Record) → breach_below p (Told a ∷ q) ≡ None → EntryKeeps p (Told a) q
told_keeps p a q h =
    let cut = neither (breach_below p q) (place_breach p (Told a) q) h in
    entry_keeps p (Told a) q (no_rule (length q + 1) (entry_breach p (Told a) q) cut.1)

got_keeps : (p : Plan) (e : _) (q : Record) → breach_below p (Got e ∷ q) ≡ None → EntryKeeps p (Got e) q
got_keeps p e q h =
    let cut = neither (breach_below p q) (place_breach p (Got e) q) h in
    let last = neither (at (length q) (step_breach p q)) (at (length q + 1) (entry_breach p (Got e) q)) cut.1 in
    entry_keeps p (Got e) q (no_rule (length q + 1) (entry_breach p (Got e) q) last.1)

all_kept : (p : Plan) (q : Record) → has_ended p q ≡ false → OpenKeeps p q → fails_right p q ≡ true → one_ask p q ≡ true → step_breach p q ≡ None
all_kept p q on k fails one =
    let goes_on : open_breach p q ≡ None =
    rw (k.boot, k.offer, k.connections, k.closes, k.one_live, k.starts, k.endpoints, k.phases, k.ending) in
    let settled = settled_kept p q (if_off (has_ended p q) _ (open_breach p q) on ∙ goes_on) in
    step_clear p q (before_event p q on settled fails one)
  where
    if_off : {A : Type 0} (b : Bool) (x y : A) → b ≡ false → (if b then x else y) ≡ y
    if_off true x y h = absurd (false≢true (sym h))
    if_off false x y h = refl

-- what is known of a bind that ended well
record Well (p : Plan) (b : Record) (s i : ℕ) : Type 0 where
  service : s < service_count p
  self : same_address (address p s i) (address p s i) ≡ true
  named : names_it p s (address p s i) ≡ true
  alone : is_alone p s i ≡ true
  begun : may_begin p b ≡ true
  quiet : has is_broadcast b ≡ false
  works : has_failed p b s ≡ false
  free : has_live p b (address p s i) ≡ false

well : (p : Plan) (b : Record) (s i : ℕ) → binds_well p b s i ≡ true → Well p b s i
well p b s i h =
    let halves = both (has_own_address p s i) (is_free p b s i) h in
    let own = both (nat_lt s (service_count p) && (same_address (address p s i) (address p s i) && names_it p s (address p s i))) (is_alone p s i) halves.0 in
    let first = both (nat_lt s (service_count p)) (same_address (address p s i) (address p s i) && names_it p s (address p s i)) own.0 in
    let named = both (same_address (address p s i) (address p s i)) (names_it p s (address p s i)) first.1 in
    let free = both (may_begin p b && not (has is_broadcast b)) (not (has_failed p b s) && not (has_live p b (address p s i))) halves.1 in
    let begun = both (may_begin p b) (not (has is_broadcast b)) free.0 in
    let works = both (not (has_failed p b s)) (not (has_live p b (address p s i))) free.1 in
    record {
      service = ltb-true s (service_count p) first.0;
      self = named.0;
      named = named.1;
      alone = own.1;
      begun = begun.0;
      quiet = apart_from (has is_broadcast b) begun.1;
      works = apart_from (has_failed p b s) works.0;
      free = apart_from (has_live p b (address p s i)) works.1;
    }

-- what is known of the record that it ends
record Base (p : Plan) (b : Record) (s i fd : ℕ) : Type 0 where
  on : has_ended p b ≡ false
  held : OpenKeeps p b
  fails : fails_right p b ≡ true
  one_ask : one_ask p b ≡ true
  unopened : is_opened p b fd ≡ false
  unclosed : times (is_close fd) b ≡ 0

base : (p : Plan) (b : Record) (s i fd : ℕ) → breach_below p (Got (Bound s i fd) ∷ b) ≡ None → Base p b s i fd
base p b s i fd h =
    let k = at_event p b (Bound s i fd) h in
    let keeps = step_keeps p b k.step in
    let entry = got_keeps p (Bound s i fd) b h in
    let row = both (not (has_ended p b)) (fits_row p b (Bound s i fd)) entry.fits in
    let new = (both (is_bind_open b s i) (is_new b fd) row.1).1 in
    let once = entries p (close_once p) (λ e q g. (entry_keeps p e q g).close_once) b (before p (Got (Bound s i fd)) b h) in
    record {
      on = k.on;
      held = open_from p b k.step k.on;
      fails = keeps.fails;
      one_ask = keeps.one_ask;
      unopened = unopened p b fd new;
      unclosed = unclosed p b fd once (apart_from (has (brings fd) b) new);
    }

not_closed : (q : Record) (fd : ℕ) → times (is_close fd) q ≡ 0 → not (has (is_close fd) q) ≡ true
not_closed [] fd h = refl
not_closed (e ∷ q) fd h = elim (cases_Bool (is_close fd e)) [
  | inl y ↦ (let g : times (is_close fd) q + 1 ≡ 0 = rw (y) at h in absurd (omega (arith, g)))
  | inr n ↦ (let g : times (is_close fd) q ≡ 0 = rw (n) at h in rw (n) (not_closed q fd g))
]

asked_more : (a x y : Bool) → (x ≡ true → y ≡ true) → (not a || x) ≡ true → (not a || y) ≡ true
asked_more true x y f h = f h
asked_more false x y f h = refl

module _ (p : Plan) (b : Record) (s i fd : ℕ) (w : Well p b s i) (k : Base p b s i fd) where
  abbrev bound : Record
  bound = Got (Bound s i fd) ∷ b

  unclosed_now : not (has (is_close fd) b) ≡ true
  unclosed_now = not_closed b fd k.unclosed

  far_in : (t : ℕ) → t < service_count p → list_all (is_far p s i t) (endpoint_numbers p t) ≡ true
  far_in t low = sound.below (λ u. list_all (is_far p s i u) (endpoint_numbers p u)) (service_count p) t w.alone low

  far : (t m : ℕ) → t < service_count p → m < length (endpoints p t) → is_far p s i t m ≡ true
  far t m low lower = sound.each_endpoint p (is_far p s i) w.alone t m low lower

  -- an endpoint up to this one of its service, or of another one, is as right as before
  bound_right : (t m : ℕ) → t < service_count p → m < length (endpoints p t) → (s ≡ t → m ≤ i) → endpoint_right p b t m ≡ true
      → endpoint_right p bound t m ≡ true
  bound_right t m low lower up h = elim (cases_Bool (s == t)) [
    | inl same ↦
        (let e = eqb-true s t same in
        subst (λ u. is_far p s i u m ≡ true → endpoint_right p b u m ≡ true → endpoint_right p bound u m ≡ true) e
        (right_own p b s i fd w.alone w.self w.free unclosed_now m (up e) (far_in s w.service)) (far t m low lower) h)
    | inr off ↦ right_other p b s i fd w.alone t m off (far_in t low) (far t m low lower) ∙ h
  ]

  bound_late : (t m : ℕ) → t < service_count p → (s ≡ t → m ≤ i) → endpoint_right_late p b t m ≡ true → endpoint_right_late p bound t m ≡ true
  bound_late t m low up h = elim (cases_Bool (s == t)) [
    | inl same ↦
        (let e = eqb-true s t same in
        subst (λ u. endpoint_right_late p b u m ≡ true → endpoint_right_late p bound u m ≡ true) e
        (late_own p b s i fd w.alone w.self w.free unclosed_now m (up e) (far_in s w.service)) h)
    | inr off ↦ late_other p b s i fd w.alone t m off (far_in t low) ∙ h
  ]

  -- where what is asked of endpoints held before and holds now, no rule is broken
  bound_keeps : are_endpoints_kept p bound ≡ true → OpenKeeps p bound
  bound_keeps ends = record {
    boot = k.held.boot;
    offer = k.held.offer;
    connections = k.held.connections;
    closes =
        closes_bound p b s i fd k.unopened k.unclosed w.quiet w.free (not_abandoned p b s (address p s i) w.service w.named w.works) k.held.closes;
    one_live = one_live_bound p b s i fd w.free k.held.one_live;
    starts = k.held.starts;
    endpoints = ends;
    phases = k.held.phases;
    ending = k.held.ending;
  }

  kept_by : (q : Record) → from_the_start q ≡ from_the_start b → in_service q ≡ in_service b
      → (endpoints_right_late p b ≡ true → endpoints_right_late p q ≡ true) → (endpoints_right p b ≡ true → endpoints_right p q ≡ true)
      → are_endpoints_kept p q ≡ true
  kept_by q runs serves late right =
      let parts = both (not (from_the_start b) || endpoints_right_late p b) (not (in_service b) || endpoints_right p b) k.held.endpoints in
      and (not (from_the_start q) || endpoints_right_late p q) (not (in_service q) || endpoints_right p q)
      (ap (λ x. not x || endpoints_right_late p q) runs ∙ asked_more (from_the_start b) _ _ late parts.0)
      (ap (λ x. not x || endpoints_right p q) serves ∙ asked_more (in_service b) _ _ right parts.1)

  -- the last endpoint of its service
  last_is : i + 1 ≡ length (endpoints p s) → step_breach p bound ≡ None
  last_is last =
      let up : (t m : ℕ) → m < length (endpoints p t) → s ≡ t → m ≤ i =
      λ t m lower e. (let n : length (endpoints p t) ≡ i + 1 = ap (λ u. length (endpoints p u)) (sym e) ∙ sym last in omega (arith, n, lower)) in
      all_kept p bound k.on
      (bound_keeps (kept_by bound refl refl
      (λ h. complete.each_endpoint p (endpoint_right_late p bound)
      (λ t m low lower. bound_late t m low (up t m lower) (sound.each_endpoint p (endpoint_right_late p b) h t m low lower)))
      (λ h. complete.each_endpoint p (endpoint_right p bound)
      (λ t m low lower. bound_right t m low lower (up t m lower) (sound.each_endpoint p (endpoint_right p b) h t m low lower)))))
      k.fails k.one_ask

  or_middle : (a c d : Bool) → (a || d) ≡ true → ((a || c) || d) ≡ true
  or_middle true c d h = refl
  or_middle false true d h = refl
  or_middle false false d h = h

  -- the next one is told to be bound
  module _ (j : ℕ) (next : i + 1 ≡ j) (turn : has_turn p bound s j ≡ true) where
    abbrev told : Record
    told = Told (Bind s j) ∷ bound

    inside : j < length (endpoints p s)
    inside =
        let below = list_all (is_held p bound s) (range_with_len 0 j) in
        let parts = both ((is_endpoint p s j && is_at_work p bound s) && below) (not (is_held p bound s j) && not (is_ask_open bound s j)) turn in
        let earlier = both (is_endpoint p s j && is_at_work p bound s) below parts.0 in
        ltb-true j (length (endpoints p s)) ((both (is_endpoint p s j) (is_at_work p bound s) earlier.0).0)

    told_right : (t m : ℕ) → t < service_count p → m < length (endpoints p t) → endpoint_right p b t m ≡ true → endpoint_right p told t m ≡ true
    told_right t m low lower h = elim (cases_lt i m) [
      | inl above ↦ elim (cases_Bool (s == t)) [
        | inl same ↦
            subst (λ u. endpoint_right p told u m ≡ true) (eqb-true s t same) (right_now p bound s j m turn (omega (arith, next, above)) inside)
        | inr off ↦ right_more p bound s j t m (bound_right t m low lower (λ e. absurd (false≢true (sym off ∙ eq-eqb s t e))) h)
      ]
      | inr under ↦ right_more p bound s j t m (bound_right t m low lower (λ e. under) h)
    ]

    told_late : (t m : ℕ) → t < service_count p → endpoint_right_late p b t m ≡ true → endpoint_right_late p told t m ≡ true
    told_late t m low h = elim (cases_lt i m) [
      | inl above ↦ elim (cases_Bool (s == t)) [
        | inl same ↦
            subst (λ u. endpoint_right_late p told u m ≡ true) (eqb-true s t same) (late_now p bound s j m turn (omega (arith, next, above)) inside)
        | inr off ↦ late_more p bound s j t m (bound_late t m low (λ e. absurd (false≢true (sym off ∙ eq-eqb s t e))) h)
      ]
      | inr under ↦ late_more p bound s j t m (bound_late t m low (λ e. under) h)
    ]

    told_boot : boot_right p told ≡ true
    told_boot =
        let parts = both (boot_entries_right p b) _ k.held.boot in
        let each = both (each_entry stands_first b && each_entry (fork_first p) b) (each_entry (start_after_boot p) b) parts.1 in
        let first = both (each_entry stands_first b) (each_entry (fork_first p) b) each.0 in
        let child = or_middle (not p.daemon) false (has is_side_child b) w.begun in
        let fork = and (fork_first p (Told (Bind s j)) b) (each_entry (fork_first p) b) child first.1 in
        and (boot_entries_right p told) ((each_entry stands_first told && each_entry (fork_first p) told) && each_entry (start_after_boot p) told) parts.0
        (and (each_entry stands_first told && each_entry (fork_first p) told) (each_entry (start_after_boot p) told)
        (and (each_entry stands_first told) (each_entry (fork_first p) told) first.0 fork) each.1)

    next_is : step_breach p told ≡ None
    next_is =
        let ends = kept_by told refl refl
        (λ h. complete.each_endpoint p (endpoint_right_late p told)
        (λ t m low lower. told_late t m low (sound.each_endpoint p (endpoint_right_late p b) h t m low lower)))
        (λ h. complete.each_endpoint p (endpoint_right p told)
        (λ t m low lower. told_right t m low lower (sound.each_endpoint p (endpoint_right p b) h t m low lower))) in
        let closes = closes_bound p b s i fd k.unopened k.unclosed w.quiet w.free
        (not_abandoned p b s (address p s i) w.service w.named w.works) k.held.closes in
        all_kept p told k.on (record {
          boot = told_boot;
          offer = k.held.offer;
          connections = k.held.connections;
          closes = closes;
          one_live = one_live_bound p b s i fd w.free k.held.one_live;
          starts = k.held.starts;
          endpoints = ends;
          phases = k.held.phases;
          ending = k.held.ending;
        }) k.fails k.one_ask

told_is : (p : Plan) (t j : ℕ) (q : Record) → breach_below p (Told (Bind t j) ∷ q) ≡ None → is_next_bound p t j q ≡ true
    → step_breach p (Told (Bind t j) ∷ q) ≡ None
told_is p t j [] h g = absurd (false≢true g)
told_is p t j (Got (Bound s i fd) ∷ b) h g =
    let q : Record = Got (Bound s i fd) ∷ b in
    let parts = both (s == t && i + 1 == j) (binds_well p b s i) g in
    let same = both (s == t) (i + 1 == j) parts.0 in
    let entry = told_keeps p (Bind t j) q h in
    let due = both (has_turn p q t j && not (has_live p q (address p t j))) (not (any_with p (address p t j) (is_busy p q))) entry.ask_due in
    let turn = both (has_turn p q t j) (not (has_live p q (address p t j))) due.0 in
    subst (λ u. has_turn p q u j ≡ true → step_breach p (Told (Bind u j) ∷ q) ≡ None) (eqb-true s t same.0)
    (next_is p b s i fd (well p b s i parts.1) (base p b s i fd (before p (Told (Bind t j)) q h)) j (eqb-true (i + 1) j same.1)) turn.0
told_is p t j (_ ∷ b) h g = absurd (false≢true g)

pub bound_is : (p : Plan) (q : Record) → breach_below p q ≡ None → is_well_bound p q ≡ true → step_breach p q ≡ None
bound_is p [] h g = absurd (false≢true g)
bound_is p (Got (Bound s i fd) ∷ b) h g =
    let parts = both (i + 1 == length (endpoints p s)) (binds_well p b s i) g in
    last_is p b s i fd (well p b s i parts.1) (base p b s i fd h) (eqb-true (i + 1) (length (endpoints p s)) parts.0)
bound_is p (Told (Bind t j) ∷ q) h g = told_is p t j q h g
bound_is p (_ ∷ q) h g = absurd (false≢true g)
