-- What a visit at one place leaves of what is known of the others.
use Rattle.std.proofs.Common.{ℕ, Bool, true, false, ◌||◌, ◌&&◌, not, ◌==◌, ◌⊎◌, inl, inr, List, ◌≡◌, ◌≢◌, refl, ap, sym, ◌∙◌, subst, arith, ◌<◌, ◌≤◌, ◌+◌, length, min, slice_index}
use Rattle.std.specs.Bool.{OnTrue}
use Rattle.std.proofs.lemmas.Bool.{and_from, eq-eqb, ne_eqb, or_left, or_right, cases_eq, cases_lt}
use Rattle.svc_graph.specs.Bits.{is_set}
use Rattle.svc_graph.specs.WaitingData.{WaitingData}
use Rattle.svc_graph.specs.Waitings.{missing_of}
use Rattle.svc_record.specs.declared.plan.Plan.{Plan}
use Rattle.svc_record.specs.Plans.{service_count}
use Rattle.svc_record.specs.Validity.{IsInOrder}
use Rattle.svc_endpoints.specs.EndpointsData.{EndpointsData}
use Rattle.svc_endpoints.specs.EndpointsState.{last_at, is_asking}
use Rattle.svc_endpoints.specs.Effects.{has_open}
use Rattle.svc_endpoints.specs.Rests.{HasAll, SharesWith, IsBusyUntil, AsksFirst, RestsUntil, WaitsBehind}
use Rattle.svc_endpoints.specs.Stays.{StaysHeld, StaysUnheld, OthersStay}
use Rattle.svc_endpoints.specs.Visits.{IsFirst}
use Rattle.svc_core.specs.StartsData.{StartsData}
use Rattle.svc_core.specs.StartsState.{IsStartsSized, is_flagged, ready_now, due_now, starts_now, start_if}
use Rattle.svc_core.specs.WaitsData.{WaitsData}
use Rattle.svc_core.specs.WaitsState.{Lacks, IsSound, MarksOnly, IsDueAt, AreApart, StaysBusy, IsParked, IsIdle, AreIdle, KnowsReady, KnowsOthers, IsKnown, IsHeir, Opens, HasBits, Frees, HandsOn, ClosesPlace, LeavesPlace, ParksBehind, ParksResting, WaitsStill, StartsOnly, is_open, is_behind, is_resting}
use Rattle.svc_core.proofs.ParkedLemmas.{first-one, shares-on, parked-on}
use Rattle.svc_core.proofs.CountLemmas.{and_clash, sound-only, grows-start, grows-complete}
use Rattle.svc_core.proofs.WaitsLemmas.{edges-kept, opens-idle, idle-start, idle-unheld, open-of, grown-open, opens-joined, opens-handed, none-behind, others-start, keeps-same}

-- a change at one place leaves the others idle, where what waits behind its service still has reason to
idle_moved : (p : Plan) (order : List ℕ) (st : StartsData) (d : EndpointsData) (from next k : ℕ) (bits : ℕ → ℕ → Bool) (until : ℕ) (w v : WaitsData)
    → HasBits bits until w v → ((a b : ℕ) → (b == k) ≡ false → bits a b ≡ is_set w.bits a b)
    → until ≤ w.until → ((e : ℕ) → from ≤ e → e ≢ k → next ≤ e) → (k < length order → is_open v k ≡ false → IsIdle p order st d next v (slice_index order k) k)
    → ((j : ℕ) (x : IsParked p order st.started d from w (slice_index order j) j) → is_open w j ≡ false → x.by ≡ k
    → StaysBusy d next v x.by (slice_index order x.by) x.shares.other)
    → AreIdle p order st d from w → AreIdle p order st d next v
idle_moved p order st d from next k bits until w v has others less far here behind idle = λ j lt off.
    elim (cases_eq j k) [
      | inl same ↦
          subst (λ i. IsIdle p order st d next v (slice_index order i) i) (sym same)
          (here (subst (λ i. i < length order) same lt) (subst (λ i. is_open v i ≡ false) same off))
      | inr ne ↦ (let was : is_open w j ≡ false = sym (bit j ne 0) ∙ off in
          elim (idle j lt was) [
            | inl done ↦ inl done
            | inr (inl waits) ↦
                inr (inl (waits.0, λ none. waits.1 (ap (λ (counts : WaitingData). missing_of counts (slice_index order j)) (sym has.counts) ∙ none)))
            | inr (inr parked) ↦ inr (inr (
              parked.0,
              record {
                by = parked.1.by;
                earlier = parked.1.earlier;
                started = parked.1.started;
                shares = parked.1.shares;
                busy = elim (cases_eq parked.1.by k) [
                  | inl there ↦ behind j parked.1 was there
                  | inr other ↦ moved parked.1.by (slice_index order parked.1.by) parked.1.shares.other other parked.1.busy
                ];
                behind = bit j ne (1 + slice_index order parked.1.by) ∙ parked.1.behind;
                parked = ap (λ (counts : WaitingData). is_set v.bits (length counts.marks + 1) j) has.counts ∙ bit j ne (length w.counts.marks + 1)
                    ∙ parked.1.parked;
              },
            ))
          ])
    ]
  where
    bit : (j : ℕ) → j ≢ k → (a : ℕ) → is_set v.bits a j ≡ is_set w.bits a j
    bit j ne a = has.bits a j ∙ others a j (ne_eqb j k ne)

    moved : (e t i : ℕ) → e ≢ k → StaysBusy d from w e t i → StaysBusy d next v e t i
    moved e t i ne (inl asks) = inl asks
    moved e t i ne (inr (inl opened)) =
        inr (inl (bit e ne 0 ∙ opened.0, far e opened.1 ne))
    moved e t i ne (inr (inr rest)) =
        inr (inr (
          ap (λ (counts : WaitingData). is_set v.bits (length counts.marks + 2) e) has.counts ∙ bit e ne (length w.counts.marks + 2)
              ∙ rest.0,
          λ m le. rest.1 m (let same = has.until_is in omega arith),
        ))

cleared_other : (set row here : Bool) → here ≡ false → (set && not (row && here)) ≡ set
cleared_other set row here off = grind arith

left_other : (set x y here : Bool) → here ≡ false → ((set && not (x && here)) && not (y && here)) ≡ set
left_other set x y here off = grind arith

left_open : (set x y here : Bool) → set ≡ true → x ≡ false → y ≡ false → ((set && not (x && here)) && not (y && here)) ≡ true
left_open set x y here on p q = grind arith

kept_there : (set row here : Bool) → set ≡ true → row ≡ false → (set && not (row && here)) ≡ true
kept_there set row here on off = grind arith

behind_other : (set x y row here : Bool) → here ≡ false → (((set || (x && here)) || (y && here)) && not (row && here)) ≡ set
behind_other set x y row here off = grind arith

-- what is set there, or was, is set then
behind_on : (set x y row here : Bool) → here ≡ true → row ≡ false → ((set || x) || y) ≡ true
    → (((set || (x && here)) || (y && here)) && not (row && here)) ≡ true
behind_on set x y row here there off on = grind arith

resting_other : (set x y z row here : Bool) → here ≡ false → ((((set || (x && here)) || (y && here)) || (z && here)) && not (row && here)) ≡ set
resting_other set x y z row here off = grind arith

resting_on : (set x y z row here : Bool) → here ≡ true → row ≡ false → (((set || x) || y) || z) ≡ true
    → ((((set || (x && here)) || (y && here)) || (z && here)) && not (row && here)) ≡ true
resting_on set x y z row here there off on = grind arith

-- what is set there was, and what was is set in the other row
handed_from : (was other row here : Bool) → row ≡ false → ((was || (other && was)) || (row && here)) ≡ true → was ≡ true
handed_from was other row here off on = grind arith

handed_on : (set row was opened : Bool) → row ≡ true → was ≡ true → ((set || (row && was)) || opened) ≡ true
handed_on set row was opened there on = grind arith

-- the same marks know the same
known_bits : (p : Plan) (order : List ℕ) (st : StartsData) (d : EndpointsData) (complete : Bool) (moment from next : ℕ) (bits : ℕ → ℕ → Bool) (until : ℕ)
    (w v : WaitsData) → HasBits bits until w v → moment ≤ until → AreIdle p order st d next v
    → IsKnown p order st d complete moment from w → IsKnown p order st d complete moment next v
known_bits p order st d complete moment from next bits until w v has soon idle known = record {
  count = ap (λ (counts : WaitingData). length counts.marks) has.counts ∙ known.count;
  edges = edges-kept p w v (ap (λ (counts : WaitingData). counts.depends) has.counts) known.edges;
  sound = subst (λ (counts : WaitingData). IsSound p st d.failed complete (record v { counts = counts })) (sym has.counts) known.sound;
  idle = idle;
  complete_is = has.complete ∙ known.complete_is;
  ready = λ s inside on. ap (λ (counts : WaitingData). is_flagged counts.marks s) has.counts ∙ known.ready s inside on;
  soon = (let same = has.until_is in omega arith);
}

module _ (p : Plan) (order : List ℕ) (st : StartsData) (d : EndpointsData) (complete : Bool) (moment k : ℕ) (w : WaitsData) where
  -- nothing waits behind a service that isn't started
  unstarted : (A : Type 0) → is_flagged st.started (slice_index order k) ≡ false → (j : ℕ) (x : IsParked p order st.started d k w (slice_index order j) j)
      → x.by ≡ k → A
  unstarted A off j x same =
      and_clash (is_flagged st.started (slice_index order k)) (subst (λ e. is_flagged st.started (slice_index order e) ≡ true) same x.started) off A

  pub known-unstarted : is_flagged st.started (slice_index order k) ≡ false → is_open w k ≡ true → IsKnown p order st d complete moment k w
      → IsKnown p order st d complete moment (k + 1) w
  known-unstarted off opened known =
      known_bits p order st d complete moment k (k + 1) (λ a b. is_set w.bits a b) w.until w w same known.soon
      (idle_moved p order st d k (k + 1) k (λ a b. is_set w.bits a b) w.until w w same (λ a b e. refl) (omega arith) (λ e le ne. omega arith)
      (λ lt closed. and_clash (is_open w k) opened closed (IsIdle p order st d (k + 1) w (slice_index order k) k))
      (λ j x closed there. unstarted (StaysBusy d (k + 1) w x.by (slice_index order x.by) x.shares.other) off j x there) known.idle) known
    where
      same : HasBits (λ a b. is_set w.bits a b) w.until w w
      same = record { counts = refl; bits = λ a b. refl; fresh = refl; complete = refl; until_is = refl }

  -- a service that still lacks a dependency
  pub still-lacks : (s : ℕ) (v : WaitsData) → ClosesPlace k w v → Lacks w s → Lacks v s
  still-lacks s v closes lacks = λ none. lacks (ap (λ (counts : WaitingData). missing_of counts s) (sym closes.counts) ∙ none)

  pub known-parked : (v : WaitsData) → is_flagged st.started (slice_index order k) ≡ false → Lacks w (slice_index order k) → ClosesPlace k w v
      → IsKnown p order st d complete moment k w → IsKnown p order st d complete moment (k + 1) v
  known-parked v off lacks closes known =
      known_bits p order st d complete moment k (k + 1) (λ a b. is_set w.bits a b && not (a == 0 && b == k)) w.until w v closes known.soon
      (idle_moved p order st d k (k + 1) k (λ a b. is_set w.bits a b && not (a == 0 && b == k)) w.until w v closes
      (λ a b ne. cleared_other (is_set w.bits a b) (a == 0) (b == k) ne) (omega arith) (λ e le ne. omega arith)
      (λ lt closed. inr (inl (off, still-lacks (slice_index order k) v closes lacks)))
      (λ j x closed there. unstarted (StaysBusy d (k + 1) v x.by (slice_index order x.by) x.shares.other) off j x there) known.idle) known

  -- a place that is visited waits behind nothing, and what waits behind its service does so until then
  pub left-open : (v : WaitsData) → LeavesPlace k w v → is_open w k ≡ true → is_open v k ≡ true
  left-open v left opened =
      left.bits 0 k
      ∙ left_open (is_set w.bits 0 k) (0 == length w.counts.marks + 1) (0 == length w.counts.marks + 2) (k == k) opened
      (ne_eqb 0 (length w.counts.marks + 1) (λ e. omega arith)) (ne_eqb 0 (length w.counts.marks + 2) (λ e. omega arith))

  pub known-left : (v : WaitsData) → LeavesPlace k w v → is_open w k ≡ true → IsKnown p order st d complete moment k w
      → IsKnown p order st d complete moment k v
  known-left v left opened known =
      known_bits p order st d complete moment k k
      (λ a b. (is_set w.bits a b && not (a == length w.counts.marks + 1 && b == k)) && not
      (a == length w.counts.marks + 2 && b == k)) w.until w v left known.soon
      (idle_moved p order st d k k k
      (λ a b. (is_set w.bits a b && not (a == length w.counts.marks + 1 && b == k)) && not (a == length w.counts.marks + 2 && b == k)) w.until w v left
      (λ a b ne. left_other (is_set w.bits a b) (a == length w.counts.marks + 1) (a == length w.counts.marks + 2) (b == k) ne) (omega arith) (λ e le ne. le)
      (λ lt closed. and_clash (is_open v k) (left-open v left opened) closed (IsIdle p order st d k v (slice_index order k) k))
      (λ j x closed there. inr (inl (subst (λ e. is_open v e ≡ true) (sym there) (left-open v left opened), omega arith))) known.idle) known

  -- an ask of the service is open
  pub known-asking : (v : WaitsData) → is_flagged st.started (slice_index order k) ≡ true → AsksFirst p d (slice_index order k) → ClosesPlace k w v
      → IsKnown p order st d complete moment k w → IsKnown p order st d complete moment (k + 1) v
  known-asking v on ask closes known =
      known_bits p order st d complete moment k (k + 1) (λ a b. is_set w.bits a b && not (a == 0 && b == k)) w.until w v closes known.soon
      (idle_moved p order st d k (k + 1) k (λ a b. is_set w.bits a b && not (a == 0 && b == k)) w.until w v closes
      (λ a b ne. cleared_other (is_set w.bits a b) (a == 0) (b == k) ne) (omega arith) (λ e le ne. omega arith)
      (λ lt closed. inl (on, inr (record { at = ask.at; within = ask.first.within; asks = ask.asks })))
      (λ j x closed there. inl (asks_there x.by x.shares.other there x.shares.other_first)) known.idle) known
    where
      asks_there : (e i : ℕ) → e ≡ k → IsFirst p d (slice_index order e) i → is_asking (last_at d (slice_index order e) i) ≡ true
      asks_there e i same first = subst (λ n. IsFirst p d (slice_index order n) i → is_asking (last_at d (slice_index order n) i) ≡ true) (sym same)
          (λ f. subst (λ n. is_asking (last_at d (slice_index order k) n) ≡ true) (first-one p d (slice_index order k) ask.at i ask.first f) ask.asks) first

  -- it rests
  pub known-resting : (end : ℕ) (v : WaitsData) → is_flagged st.started (slice_index order k) ≡ true → RestsUntil p d (slice_index order k) moment end
      → ParksResting k (slice_index order k) end w v
      → IsKnown p order st d complete moment k w → IsKnown p order st d complete moment (k + 1) v
  known-resting end v on rests parks known =
      let to : ℕ → ℕ
      → Bool = λ a b.
      (((is_set w.bits a b || (a == 1 + slice_index order k && b == k)) || (a == length w.counts.marks + 1 && b == k))
      || (a == length w.counts.marks + 2 && b == k)) && not (a == 0 && b == k) in
      known_bits p order st d complete moment k (k + 1) to (min w.until end) w v parks (let a = known.soon in let b = rests.lasts in omega arith)
      (idle_moved p order st d k (k + 1) k to (min w.until end) w v parks
      (λ a b ne. resting_other (is_set w.bits a b) (a == 1 + slice_index order k) (a == length w.counts.marks + 1) (a == length w.counts.marks + 2)
      (a == 0) (b == k) ne) (omega arith) (λ e le ne. omega arith)
      (λ lt closed. inr (inr (
        on,
        record {
          by = k;
          earlier = omega arith;
          started = on;
          shares = rests.shares;
          busy = inr (inr (rests_now, busy));
          behind = set (1 + slice_index order k) (λ e. omega arith) (first_on (1 + slice_index order k));
          parked = ap (λ (counts : WaitingData). is_set v.bits (length counts.marks + 1) k) parks.counts
              ∙ set (length w.counts.marks + 1) (λ e. omega arith) (second_on (length w.counts.marks + 1));
        },
      )))
      (λ j x closed there. inr (inr (subst (λ e. is_resting v e ≡ true) (sym there) rests_now, busy_there x.by x.shares.other there x.shares.other_first)))
      known.idle) known
    where
      set : (a : ℕ) → a ≢ 0
          → (((is_set w.bits a k || (a == 1 + slice_index order k)) || (a == length w.counts.marks + 1)) || (a == length w.counts.marks + 2)) ≡ true
          → is_set v.bits a k ≡ true
      set a ne one =
          parks.bits a k
          ∙ resting_on (is_set w.bits a k) (a == 1 + slice_index order k) (a == length w.counts.marks + 1) (a == length w.counts.marks + 2)
          (a == 0) (k == k) (eq-eqb k k refl) (ne_eqb a 0 ne) one

      first_on : (a : ℕ) → (((is_set w.bits a k || (a == a)) || (a == length w.counts.marks + 1)) || (a == length w.counts.marks + 2)) ≡ true
      first_on a = or_left _ (a == length w.counts.marks + 2) (or_left _ (a == length w.counts.marks + 1) (or_right (is_set w.bits a k) (a == a)
          (eq-eqb a a refl)))

      second_on : (a : ℕ) → (((is_set w.bits a k || (a == 1 + slice_index order k)) || (a == a)) || (a == length w.counts.marks + 2)) ≡ true
      second_on a =
          or_left _ (a == length w.counts.marks + 2) (or_right (is_set w.bits a k || (a == 1 + slice_index order k)) (a == a) (eq-eqb a a refl))

      third_on : (a : ℕ) → (((is_set w.bits a k || (a == 1 + slice_index order k)) || (a == length w.counts.marks + 1)) || (a == a)) ≡ true
      third_on a = or_right ((is_set w.bits a k || (a == 1 + slice_index order k)) || (a == length w.counts.marks + 1)) (a == a) (eq-eqb a a refl)

      rests_now : is_resting v k ≡ true
      rests_now = ap (λ (counts : WaitingData). is_set v.bits (length counts.marks + 2) k) parks.counts
          ∙ set (length w.counts.marks + 2) (λ e. omega arith) (third_on (length w.counts.marks + 2))

      busy : IsBusyUntil d (slice_index order k) rests.shares.other v.until
      busy m le = rests.busy m (let same = parks.until_is in omega arith)

      busy_there : (e i : ℕ) → e ≡ k → IsFirst p d (slice_index order e) i → IsBusyUntil d (slice_index order e) i v.until
      busy_there e i same first = subst (λ n. IsFirst p d (slice_index order n) i → IsBusyUntil d (slice_index order n) i v.until) (sym same)
          (λ f. subst (λ n. IsBusyUntil d (slice_index order k) n v.until)
          (first-one p d (slice_index order k) rests.shares.other i rests.shares.other_first f) busy) first

  -- what waited behind the service is open, so the pass may go on
  pub known-freed : (v : WaitsData) → Frees (slice_index order k) w v → IsKnown p order st d complete moment k w
      → IsKnown p order st d complete moment (k + 1) v
  known-freed v freed known = known_bits p order st d complete moment k (k + 1) _ w.until w v freed known.soon
      (λ j lt off. elim (opens-idle p order st d k w v (opens-joined order (1 + slice_index order k) w v freed) known.idle j lt off) [
        | inl done ↦ inl done
        | inr (inl waits) ↦ inr (inl waits)
        | inr (inr x) ↦ inr (inr (
          x.0,
          parked-on p order st.started d k (k + 1) v (slice_index order j) j x.1
              (λ le on. elim (cases_eq x.1.by k) [
                | inl there ↦
                    and_clash (is_open v j)
                    (none-behind (slice_index order k) w v j freed (subst (λ e. is_behind v (slice_index order e) j ≡ true) there x.1.behind)) off
                    (k + 1 ≤ x.1.by)
                | inr ne ↦ omega arith
              ]),
        ))
      ]) known

  -- or the first of it is, and the others wait behind that one
  pub known-handed : (e : ℕ) (v : WaitsData) → IsHeir p order st.started d w k e → HandsOn (slice_index order k) (slice_index order e) e w v
      → is_open w k ≡ true → IsKnown p order st d complete moment k w → IsKnown p order st d complete moment (k + 1) v
  known-handed e v heir hands opened known = known_bits p order st d complete moment k (k + 1) _ w.until w v hands known.soon
      (λ j lt off. elim (opens-idle p order st d k w v grown known.idle j lt off) [
        | inl done ↦ inl done
        | inr (inl waits) ↦ inr (inl waits)
        | inr (inr x) ↦ inr (inr (
          x.0,
          elim (cases_eq x.1.by k) [
            | inl there ↦ handed j off x.1 there
            | inr ne ↦ parked-on p order st.started d k (k + 1) v (slice_index order j) j x.1 (λ le on. omega arith)
          ],
        ))
      ]) known
    where
      grown : Opens order w v
      grown = opens-handed order (slice_index order k) (slice_index order e) e w v hands

      was_behind : (j : ℕ) → is_behind v (slice_index order k) j ≡ true → is_behind w (slice_index order k) j ≡ true
      was_behind j on =
          let row : ℕ = 1 + slice_index order k in
          handed_from (is_set w.bits row j) (row == 1 + slice_index order e) (row == 0) (j == e)
          (ne_eqb row (0) (λ same. omega arith))
          (sym (hands.bits row j) ∙ on)

      is_behind_heir : (j : ℕ) → is_behind w (slice_index order k) j ≡ true → is_behind v (slice_index order e) j ≡ true
      is_behind_heir j on =
          let row : ℕ = 1 + slice_index order e in
          hands.bits row j
          ∙ handed_on (is_set w.bits row j) (row == row) (is_set w.bits (1 + slice_index order k) j) (row == 0 && j == e)
          (eq-eqb row row refl) on

      heir_open : is_open v e ≡ true
      heir_open = hands.bits 0 e
          ∙ or_right _ (0 == 0 && e == e) (and_from (0 == 0) (e == e) refl (eq-eqb e e refl))

      later : (j : ℕ) → is_open v j ≡ false → k ≤ j → is_behind w (slice_index order k) j ≡ true → e ≤ j
      later j off le on = elim (cases_eq j k) [
        | inl here ↦ and_clash (is_open v j) (subst (λ n. is_open v n ≡ true) (sym here) (grown-open order w v k grown opened)) off (e ≤ j)
        | inr ne ↦ elim (cases_lt j e) [
          | inl lt ↦ and_clash (is_behind w (slice_index order k) j) on (heir.first j (omega arith) lt) (e ≤ j)
          | inr ge ↦ ge
        ]
      ]

      handed : (j : ℕ) → is_open v j ≡ false → (x : IsParked p order st.started d k v (slice_index order j) j) → x.by ≡ k
          → IsParked p order st.started d (k + 1) v (slice_index order j) j
      handed j off x there =
          let on = was_behind j (subst (λ n. is_behind v (slice_index order n) j ≡ true) there x.behind) in record {
            by = e;
            earlier = later j off (let le = x.earlier in omega arith) on;
            started = heir.started;
            shares = shares-on p d (slice_index order j) (slice_index order k) (slice_index order e)
                (subst (λ n. SharesWith p d (slice_index order j) (slice_index order n)) there x.shares) heir.same;
            busy = inr (inl (heir_open, let lt = heir.later in omega arith));
            behind = is_behind_heir j on;
            parked = x.parked;
          }

  pub freed-open : (v : WaitsData) → Frees (slice_index order k) w v → is_open w k ≡ true → is_open v k ≡ true
  freed-open v freed opened =
      freed.bits 0 k ∙ or_left (is_set w.bits 0 k) _ opened

  -- then the place may be closed
  late : (v : WaitsData) (t i : ℕ) → (is_resting w k ≡ true → is_resting v k ≡ true) → v.until ≡ w.until → (e : ℕ) → e ≡ k → StaysBusy d (k + 1) w e t i
      → StaysBusy d (k + 1) v e t i
  late v t i same until e there (inl asks) = inl asks
  late v t i same until e there (inr (inl next)) = absurd (let le = next.1 in omega arith)
  late v t i same until e there (inr (inr rest)) =
      inr (inr (
        subst (λ n. is_resting v n ≡ true) (sym there) (same (subst (λ n. is_resting w n ≡ true) there rest.0)),
        subst (λ m. IsBusyUntil d t i m)
            (sym until) rest.1,
      ))

  pub known-closed : (v : WaitsData) → is_flagged st.started (slice_index order k) ≡ true → HasAll p d (slice_index order k) → ClosesPlace k w v
      → IsKnown p order st d complete moment (k + 1) w → IsKnown p order st d complete moment (k + 1) v
  known-closed v on all closes known =
      known_bits p order st d complete moment (k + 1) (k + 1) (λ a b. is_set w.bits a b && not (a == 0 && b == k)) w.until w v closes known.soon
      (idle_moved p order st d (k + 1) (k + 1) k (λ a b. is_set w.bits a b && not (a == 0 && b == k)) w.until w v closes
      (λ a b ne. cleared_other (is_set w.bits a b) (a == 0) (b == k) ne) (omega arith) (λ e le ne. le)
      (λ lt closed. inl (on, inl all))
      (λ j x closed there. late v (slice_index order x.by) x.shares.other same closes.until_is x.by there x.busy) known.idle) known
    where
      same : is_resting w k ≡ true → is_resting v k ≡ true
      same rests = ap (λ (counts : WaitingData). is_set v.bits (length counts.marks + 2) k) closes.counts ∙ closes.bits (length w.counts.marks + 2) k
          ∙ kept_there (is_set w.bits (length w.counts.marks + 2) k) (length w.counts.marks + 2 == 0) (k == k) rests
          (ne_eqb (length w.counts.marks + 2) 0 (λ e. omega arith))

  -- or wait behind another one
  pub known-behind : (e : ℕ) (v : WaitsData) → e ≤ k → is_flagged st.started (slice_index order k) ≡ true → is_flagged st.started (slice_index order e) ≡ true
      → WaitsBehind p d (slice_index order k) (slice_index order e)
      → ParksBehind k (slice_index order e) w v → IsKnown p order st d complete moment (k + 1) w → IsKnown p order st d complete moment (k + 1) v
  known-behind e v le on started waits parks known =
      let to : ℕ → ℕ
      → Bool = λ a b. ((is_set w.bits a b || (a == 1 + slice_index order e && b == k)) || (a == length w.counts.marks + 1 && b == k))
      && not (a == 0 && b == k) in
      known_bits p order st d complete moment (k + 1) (k + 1) to w.until w v parks known.soon
      (idle_moved p order st d (k + 1) (k + 1) k to w.until w v parks
      (λ a b ne. behind_other (is_set w.bits a b) (a == 1 + slice_index order e) (a == length w.counts.marks + 1) (a == 0)
      (b == k) ne) (omega arith) (λ i low ne. low)
      (λ lt closed. inr (inr (
        on,
        record {
          by = e;
          earlier = le;
          started = started;
          shares = waits.shares;
          busy = inl waits.asks;
          behind = set (1 + slice_index order e) (λ i. omega arith) (first_on (1 + slice_index order e));
          parked = ap (λ (counts : WaitingData). is_set v.bits (length counts.marks + 1) k) parks.counts
              ∙ set (length w.counts.marks + 1) (λ i. omega arith) (second_on (length w.counts.marks + 1));
        },
      )))
      (λ j x closed there. late v (slice_index order x.by) x.shares.other same parks.until_is x.by there x.busy) known.idle) known
    where
      set : (a : ℕ) → a ≢ 0 → ((is_set w.bits a k || (a == 1 + slice_index order e)) || (a == length w.counts.marks + 1)) ≡ true
          → is_set v.bits a k ≡ true
      set a ne one =
          parks.bits a k
          ∙ behind_on (is_set w.bits a k) (a == 1 + slice_index order e) (a == length w.counts.marks + 1) (a == 0) (k == k)
          (eq-eqb k k refl) (ne_eqb a 0 ne) one

      first_on : (a : ℕ) → ((is_set w.bits a k || (a == a)) || (a == length w.counts.marks + 1)) ≡ true
      first_on a = or_left (is_set w.bits a k || (a == a)) (a == length w.counts.marks + 1) (or_right (is_set w.bits a k) (a == a) (eq-eqb a a refl))

      second_on : (a : ℕ) → ((is_set w.bits a k || (a == 1 + slice_index order e)) || (a == a)) ≡ true
      second_on a = or_right (is_set w.bits a k || (a == 1 + slice_index order e)) (a == a) (eq-eqb a a refl)

      same : is_resting w k ≡ true → is_resting v k ≡ true
      same rests = ap (λ (counts : WaitingData). is_set v.bits (length counts.marks + 2) k) parks.counts ∙ set (length w.counts.marks + 2) (λ i. omega arith)
          (or_left (is_set w.bits (length w.counts.marks + 2) k || (length w.counts.marks + 2 == 1 + slice_index order e))
          (length w.counts.marks + 2 == length w.counts.marks + 1)
          (or_left (is_set w.bits (length w.counts.marks + 2) k) (length w.counts.marks + 2 == 1 + slice_index order e) rests))

-- after a visit: the service may have been started, what is held stays held and nothing else is, and what is ready was marked
pub attended : (p : Plan) (order : List ℕ) (st st' : StartsData) (d d' : EndpointsData) (complete complete' : Bool) (moment : ℕ) (w v : WaitsData) (k : ℕ)
    → IsStartsSized p st → IsInOrder p order → AreApart order → k < length order
    → IsKnown p order st d complete moment k w → StartsOnly p d.failed complete (slice_index order k) st st' → StaysHeld d d' → StaysUnheld d d'
    → OthersStay (slice_index order k) d d' → d'.failed ≡ d.failed → d'.table ≡ d.table → (complete ≡ true → complete' ≡ true) → is_open w k ≡ true
    → Opens order w v → v.complete ≡ complete' → KnowsReady p st' d'.failed complete' v → MarksOnly (ready_now p st' d'.failed complete') w v
    → IsKnown p order st' d' complete' moment k v
attended p order st st' d d' complete complete' moment w v k sized in_order apart lt known only held unheld others failed table late opened grown complete_is
    knows marks =
    let inside : slice_index order k < service_count p = in_order.inside k lt in
    let room : slice_index order k < length st.started = (let n = sized.started in omega arith) in
    let started : AreIdle p order st' d k w =
    idle-start p order st st' d d.failed complete k w (slice_index order k) room known.count known.ready known.edges in_order.inside only known.idle in
    record {
      count = grown.count ∙ known.count;
      edges = edges-kept p w v grown.depends known.edges;
      sound = sound-only p st' d'.failed complete' w v marks
          (subst (λ flags. IsSound p st' flags complete' w) (sym failed)
          (λ t within on. grows-complete p st' d.failed complete complete' t late
          (grows-start p st d.failed complete st' complete (slice_index order k) t room only (known.sound t within on))));
      idle = opens-idle p order st' d' k w v grown
          (idle-unheld p order st' d d' k (slice_index order k) w (keeps-same (slice_index order k) d d' held others failed) unheld
          (λ a none. ap (λ t. has_open t a) table ∙ none) (λ t ne. ap (λ flags. is_flagged flags t) failed)
          (λ j within same. (open-of order k w apart lt opened j within same, at_place j within same)) started);
      complete_is = complete_is;
      ready = knows;
      soon = (let same = grown.until in let soon = known.soon in omega arith);
    }
  where
    at_place : (j : ℕ) → j < length order → slice_index order j ≡ slice_index order k → k ≤ j
    at_place j within same = elim (cases_lt j k) [ inl lower ↦ absurd (apart j k lower lt same) | inr ge ↦ ge ]

-- what is known of the others then
pub attended-others : (p : Plan) (order : List ℕ) (st st' : StartsData) (d : EndpointsData) (failed' : List Bool) (complete : Bool) (moment from : ℕ)
    (w : WaitsData) (s : ℕ) → IsStartsSized p st → s < service_count p → failed' ≡ d.failed
    → IsKnown p order st d complete moment from w → StartsOnly p d.failed complete s st st' → KnowsOthers p st' failed' w.complete s w
attended-others p order st st' d failed' complete moment from w s sized inside same known only =
    subst (λ f. KnowsOthers p st' f w.complete s w) (sym same)
    (subst (λ c. KnowsOthers p st' d.failed c s w) (sym known.complete_is)
    (others-start p st st' d.failed complete w s (let n = sized.started in omega arith) known.ready only))

-- what holds while nothing has to be looked at anew
pub on-fresh : {A : Type 0} (b : Bool) → b ≡ true → OnTrue b A → A
on-fresh true e h = h
on-fresh false e h = absurd (cc)

-- what a visit makes of the starts, where the service is due if it isn't started
due_fresh : (on due r : Bool) → (on ≡ true) ⊎ (due ≡ true) → r ≡ not on → r ≡ (not on && due)
due_fresh on due r (inl started) e = started_none on due r started e
  where
    started_none : (on due r : Bool) → on ≡ true → r ≡ not on → r ≡ (not on && due)
    started_none on due r h e = grind arith
due_fresh on due r (inr is) e = due_now_is on due r is e
  where
    due_now_is : (on due r : Bool) → due ≡ true → r ≡ not on → r ≡ (not on && due)
    due_now_is on due r h e = grind arith

pub starts-due : (p : Plan) (st : StartsData) (failed : List Bool) (complete : Bool) (s : ℕ) (starts : Bool) → IsDueAt p st failed complete s
    → starts ≡ not (is_flagged st.started s) → starts ≡ starts_now p st failed complete s
starts-due p st failed complete s starts due fresh = due_fresh (is_flagged st.started s) (due_now p st failed complete s) starts due fresh

yes_due : (here due n : Bool) → n ≡ (not here && due) → n ≡ true → due ≡ true
yes_due here due n e h = grind arith

pub starts-only : (p : Plan) (st st' : StartsData) (failed : List Bool) (complete : Bool) (s : ℕ) (starts : Bool) → starts ≡ starts_now p st failed complete s
    → st' ≡ start_if starts s st → StartsOnly p failed complete s st st'
starts-only p st st' failed complete s starts is after =
    record { starts = starts; due = λ on. yes_due (is_flagged st.started s) (due_now p st failed complete s) starts is on; after = after }

pub starts-none : (p : Plan) (st : StartsData) (failed : List Bool) (complete : Bool) (s : ℕ) → StartsOnly p failed complete s st st
starts-none p st failed complete s = record { starts = false; due = λ on. absurd (cc); after = refl }

-- what was found of a service that isn't started
pub still-parked : (st : StartsData) (s k : ℕ) (old new : WaitsData) (b : Bool) → b ≡ true → WaitsStill st s k old new b
    → (is_flagged st.started s ≡ false) × (Lacks old s × ClosesPlace k old new)
still-parked st s k old new true e h = h
still-parked st s k old new false e h = absurd (cc)

pub still-same : (st : StartsData) (s k : ℕ) (old new : WaitsData) (b : Bool) → b ≡ false → WaitsStill st s k old new b
    → ((is_flagged st.started s ≡ true) ⊎ (missing_of old.counts s ≡ 0)) × (new ≡ old)
still-same st s k old new true e h = absurd (cc)
still-same st s k old new false e h = h
