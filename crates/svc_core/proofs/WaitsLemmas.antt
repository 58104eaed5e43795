-- What becomes of the places that a pass leaves out, by an event and at the beginning of a pass.
use Rattle.std.proofs.Common.{ℕ, zero, suc, Bool, true, false, ◌||◌, ◌&&◌, ◌==◌, inl, inr, List, ◌≡◌, ◌≢◌, refl, ap, sym, ◌∙◌, subst, arith, ◌<◌, ◌≤◌, ◌+◌, length, take, slice_index, if◌then◌else◌}
use Rattle.std.specs.Bool.{OnTrue}
use Rattle.std.proofs.lemmas.Bool.{eq-eqb, ne_eqb, or_left, or_right, cases_eq, cases_lt, cases_Bool}
use Rattle.std.proofs.lemmas.List.Folds.{list_any_more}
use Rattle.svc_graph.specs.Bits.{is_set}
use Rattle.svc_graph.specs.Graphs.{is_in_row}
use Rattle.svc_graph.specs.WaitingData.{WaitingData}
use Rattle.svc_graph.specs.Waitings.{missing_of}
use Rattle.svc_graph.specs.declared.plan.Kind.TheVariants.{Plain, Bootstrap}
use Rattle.svc_record.specs.declared.plan.Plan.{Plan}
use Rattle.svc_record.specs.Plans.{service_count, address, has_kind}
use Rattle.svc_record.specs.Validity.{IsStartupOrder, is_listed}
use Rattle.svc_endpoints.specs.EndpointsData.{EndpointsData}
use Rattle.svc_endpoints.specs.EndpointsState.{IsEndpointsSized, failed_at, last_at, is_asking, is_holding}
use Rattle.svc_endpoints.specs.Effects.{has_open}
use Rattle.svc_endpoints.specs.Rests.{IsAlone}
use Rattle.svc_endpoints.specs.Stays.{FailsOnly, StaysHeld, StaysUnheld, OthersStay, GainsNone, GainsOnly}
use Rattle.svc_boot.specs.BootData.{BootData}
use Rattle.svc_boot.specs.BootEffects.{begun_with, begun_by}
use Rattle.svc_core.specs.CoreData.{IsFormed}
use Rattle.svc_core.specs.StartsData.{StartsData}
use Rattle.svc_core.specs.StartsState.{IsStartsSized, is_flagged, ready_now, due_now, start_if, word_taken, end_taken}
use Rattle.svc_core.specs.WaitsData.{WaitsData}
use Rattle.svc_core.specs.WaitsState.{CountsPlan, IsSound, MarksOnly, AsksNothing, AreApart, IsShortOrder, IsOpenOf, Reopens, StaysBusy, IsParked, IsIdle, AreIdle, KnowsReady, KnowsOthers, IsWatched, IsKnown, Opens, IsMarked, MarksIf, HasBits, JoinsRow, Frees, HandsOn, FreesAll, FreesMore, Wakes, StartsOnly, is_open, is_behind, is_parked}
use Rattle.svc_core.proofs.StartsLemmas.{flag-set}
use Rattle.svc_core.proofs.CountLemmas.{and_clash, not-due, sound-marked, sound-only, grows-word, grows-end, grows-failed, grows-complete, ready-word, ready-end, ready-failed}
use Rattle.svc_core.proofs.ParkedLemmas.{parked-grown, parked-on, parked-started, parked-kept, parked-others, parked-rows}

-- where no count has changed nothing has to be opened
opens_counts : (order : List ℕ) (u v : WaitsData) → v.counts ≡ u.counts → ((a b : ℕ) → is_set u.bits a b ≡ true → is_set v.bits a b ≡ true)
    → v.until ≡ u.until → Opens order u v
opens_counts order u v same more until = record {
  count = ap (λ (counts : WaitingData). length counts.marks) same;
  depends = ap (λ (counts : WaitingData). counts.depends) same;
  kept = λ t on. ap (λ (counts : WaitingData). is_flagged counts.marks t) same ∙ on;
  waits = more;
  opened = λ k inside lacks none. absurd (lacks (ap (λ (counts : WaitingData). missing_of counts (slice_index order k)) (sym same) ∙ none));
  until = until;
}

pub opens-none : (order : List ℕ) (w : WaitsData) → Opens order w w
opens-none order w = opens_counts order w w refl (λ a b e. e) refl

pub opens-then : (order : List ℕ) (u v w : WaitsData) → Opens order u v → Opens order v w → Opens order u w
opens-then order u v w first next = record {
  count = next.count ∙ first.count;
  depends = next.depends ∙ first.depends;
  kept = λ d on. next.kept d (first.kept d on);
  waits = λ a b e. next.waits a b (first.waits a b e);
  opened = λ k inside lacks none.
      elim (cases_eq (missing_of v.counts (slice_index order k)) 0) [
        | inl early ↦ next.waits 0 k (first.opened k inside lacks early)
        | inr late ↦ next.opened k inside late none
      ];
  until = next.until ∙ first.until;
}

-- the counts of the same edges
pub edges-kept : (p : Plan) (u v : WaitsData) → v.counts.depends ≡ u.counts.depends → CountsPlan p u → CountsPlan p v
edges-kept p u v same edges = λ a b lt. ap (λ rows. is_in_row rows a b) same ∙ edges a b lt

-- a service that was marked
pub marked-here : (order : List ℕ) (s : ℕ) (w v : WaitsData) → IsMarked order s w v → is_flagged v.counts.marks s ≡ true
marked-here order s w v m = m.marks s ∙ or_left (s == s) (is_flagged w.counts.marks s) (eq-eqb s s refl)

joined_on : (a n s : Bool) → n ≡ true → s ≡ true → (a || (n && s)) ≡ true
joined_on a n s h g = grind arith

-- a place that isn't open by then wasn't before
still_off : (order : List ℕ) (u v : WaitsData) (k : ℕ) → Opens order u v → is_open v k ≡ false → is_open u k ≡ false
still_off order u v k grown off = elim (cases_Bool (is_open u k)) [
  | inl on ↦ and_clash (is_open v k) (grown.waits 0 k on) off (is_open u k ≡ false)
  | inr was ↦ was
]

pub opens-idle : (p : Plan) (order : List ℕ) (st : StartsData) (d : EndpointsData) (from : ℕ) (u v : WaitsData) → Opens order u v
    → AreIdle p order st d from u → AreIdle p order st d from v
opens-idle p order st d from u v grown idle = λ k lt off.
    elim (idle k lt (still_off order u v k grown off)) [
      | inl done ↦ inl done
      | inr (inl waits) ↦ inr (inl (waits.0, λ none. and_clash (is_open v k) (grown.opened k lt waits.1 none) off ⊥))
      | inr (inr parked) ↦ inr (inr (parked.0, parked-grown p order st.started d from u v (slice_index order k) k grown.count grown.waits grown.until parked.1))
    ]

-- a start of a service that was due leaves the others waiting
idle_start : (p : Plan) (order : List ℕ) (st : StartsData) (d : EndpointsData) (failed : List Bool) (complete : Bool) (from : ℕ) (w : WaitsData) (s : ℕ)
    (starts : Bool) → s < length st.started → length w.counts.marks ≡ service_count p → KnowsReady p st failed complete w
    → CountsPlan p w → ((k : ℕ) → k < length order → slice_index order k < service_count p)
    → (starts ≡ true → due_now p st failed complete s ≡ true) → AreIdle p order st d from w → AreIdle p order (start_if starts s st) d from w
idle_start p order st d failed complete from w s false lt count knows edges inside due idle = idle
idle_start p order st d failed complete from w s true lt count knows edges inside due idle = λ k within off.
    elim (idle k within off) [
      | inl done ↦ inl (more (slice_index order k) done.0, done.1)
      | inr (inl waits) ↦ elim (cases_eq s (slice_index order k)) [
        | inl same ↦ and_clash (due_now p st failed complete s) (due refl)
            (subst (λ t. due_now p st failed complete t ≡ false) (sym same)
            (not-due p st failed complete w (slice_index order k) (inside k within) count edges knows waits.1))
            (IsIdle p order (start_if true s st) d from w (slice_index order k) k)
        | inr ne ↦ inr
            (inl (
              flag-set st.started s (slice_index order k) lt
                  ∙ ap (λ b. b || is_flagged st.started (slice_index order k)) (ne_eqb s (slice_index order k) ne) ∙ waits.0,
              waits.1,
            ))
      ]
      | inr (inr parked) ↦
          inr (inr (
            more (slice_index order k) parked.0,
            parked-started p order st.started (start_if true s st).started d from w
                (slice_index order k) k more parked.1,
          ))
    ]
  where
    more : (t : ℕ) → is_flagged st.started t ≡ true → is_flagged (start_if true s st).started t ≡ true
    more t on = flag-set st.started s t lt ∙ or_right (s == t) (is_flagged st.started t) on

pub idle-start : (p : Plan) (order : List ℕ) (st st' : StartsData) (d : EndpointsData) (failed : List Bool) (complete : Bool) (from : ℕ) (w : WaitsData) (s : ℕ)
    → s < length st.started → length w.counts.marks ≡ service_count p → KnowsReady p st failed complete w → CountsPlan p w
    → ((k : ℕ) → k < length order → slice_index order k < service_count p)
    → StartsOnly p failed complete s st st' → AreIdle p order st d from w → AreIdle p order st' d from w
idle-start p order st st' d failed complete from w s lt count knows edges inside only idle =
    subst (λ x. AreIdle p order x d from w) (sym only.after)
    (idle_start p order st d failed complete from w s only.starts lt count knows edges inside only.due idle)

-- what is held stays held, no failure is taken back, and at most this service's asks change
pub record KeepsHeld (s : ℕ) (d d' : EndpointsData) : Type 0 where
  pub held : StaysHeld d d'
  pub failed : (t : ℕ) → failed_at d t ≡ true → failed_at d' t ≡ true
  pub others : OthersStay s d d'

nothing_kept : (p : Plan) (d d' : EndpointsData) (s t : ℕ) → KeepsHeld s d d' → t ≢ s → AsksNothing p d t → AsksNothing p d' t
nothing_kept p d d' s t keeps ne (inl (inl bad)) = inl (inl (keeps.failed t bad))
nothing_kept p d d' s t keeps ne (inl (inr all)) = inl (inr (λ i within. keeps.held t i (all i within)))
nothing_kept p d d' s t keeps ne (inr ask) = inr (record { at = ask.at; within = ask.within; asks = ap is_asking (keeps.others t ask.at ne) ∙ ask.asks })

pub idle-kept : (p : Plan) (order : List ℕ) (st : StartsData) (d d' : EndpointsData) (from s : ℕ) (w : WaitsData) → KeepsHeld s d d' → IsOpenOf order s w
    → ((k : ℕ) → k < length order → is_open w k ≡ false → slice_index order k ≢ s → IsParked p order st.started d from w (slice_index order k) k
    → IsParked p order st.started d' from w (slice_index order k) k)
    → AreIdle p order st d from w → AreIdle p order st d' from w
idle-kept p order st d d' from s w keeps opened moves idle = λ k lt off.
    elim (cases_eq (slice_index order k) s) [
      | inl same ↦ and_clash (is_open w k) (opened k lt same) off (IsIdle p order st d' from w (slice_index order k) k)
      | inr ne ↦ elim (idle k lt off) [
        | inl done ↦ inl (done.0, nothing_kept p d d' s (slice_index order k) keeps ne done.1)
        | inr (inl waits) ↦ inr (inl waits)
        | inr (inr parked) ↦ inr (inr (parked.0, moves k lt off ne parked.1))
      ]
    ]

-- where nothing is held by it, and the service's place is still to be visited
pub idle-unheld : (p : Plan) (order : List ℕ) (st : StartsData) (d d' : EndpointsData) (from s : ℕ) (w : WaitsData) → KeepsHeld s d d' → StaysUnheld d d'
    → GainsNone d d' → ((t : ℕ) → t ≢ s → failed_at d' t ≡ failed_at d t)
    → ((k : ℕ) → k < length order → slice_index order k ≡ s → (is_open w k ≡ true) × (from ≤ k)) → AreIdle p order st d from w → AreIdle p order st d' from w
idle-unheld p order st d d' from s w keeps unheld gains failed opened =
    idle-kept p order st d d' from s w keeps (λ k lt same. (opened k lt same).0)
    (λ k lt off ne x. parked-kept p order st.started d d' from w s (slice_index order k) k keeps.held unheld gains keeps.others failed opened lt x)

-- where no state changes and no service fails, all stay idle
nothing_rows : (p : Plan) (d d' : EndpointsData) (t : ℕ) → d'.rows ≡ d.rows → d'.failed ≡ d.failed → AsksNothing p d t → AsksNothing p d' t
nothing_rows p d d' t rows failed (inl (inl bad)) = inl (inl (ap (λ flags. is_flagged flags t) failed ∙ bad))
nothing_rows p d d' t rows failed (inl (inr all)) = inl (inr (λ i within. ap (λ r. is_holding (last_at (record d { rows = r }) t i)) rows ∙ all i within))
nothing_rows p d d' t rows failed (inr ask) =
    inr (record { at = ask.at; within = ask.within; asks = ap (λ r. is_asking (last_at (record d { rows = r }) t ask.at)) rows ∙ ask.asks })

idle_rows : (p : Plan) (order : List ℕ) (st : StartsData) (d d' : EndpointsData) (w : WaitsData) → d'.rows ≡ d.rows → d'.failed ≡ d.failed
    → ((k : ℕ) → is_open w k ≡ false → IsParked p order st.started d 0 w (slice_index order k) k → IsParked p order st.started d' 0 w (slice_index order k) k)
    → AreIdle p order st d 0 w → AreIdle p order st d' 0 w
idle_rows p order st d d' w rows failed moves idle = λ k lt off.
    elim (idle k lt off) [
      | inl done ↦ inl (done.0, nothing_rows p d d' (slice_index order k) rows failed done.1)
      | inr (inl waits) ↦ inr (inl waits)
      | inr (inr parked) ↦ inr (inr (parked.0, moves k off parked.1))
    ]

-- no service stands twice in the startup order
listed_at : (order : List ℕ) (k j : ℕ) → j < k → k ≤ length order → is_listed (take k order) (slice_index order j) ≡ true
listed_at order zero j lt le = absurd (omega arith)
listed_at order (suc k) j lt le = subst (λ n. is_listed (take n order) (slice_index order j) ≡ true) (one_more k)
    (list_any_more (λ x. x == slice_index order j) order k 0 (omega arith) ∙ elim (cases_eq j k) [
      | inl same ↦
          or_right (is_listed (take k order) (slice_index order j)) (slice_index order k == slice_index order j)
          (eq-eqb (slice_index order k) (slice_index order j) (ap (slice_index order) (sym same)))
      | inr ne ↦ or_left (is_listed (take k order) (slice_index order j)) (slice_index order k == slice_index order j)
          (listed_at order k j (omega arith) (omega arith))
    ])
  where
    one_more : (n : ℕ) → n + 1 ≡ suc n
    one_more n = omega arith

pub order-apart : (p : Plan) (order : List ℕ) → IsStartupOrder p order → AreApart order
order-apart p order least j k lt inside same =
    and_clash (is_listed (take k order) (slice_index order k)) (subst (λ s. is_listed (take k order) s ≡ true) same (listed_at order k j lt (omega arith)))
    (least.next k inside).fresh ⊥

-- so the order of a core is one over which a place can be opened again
pub short-order : {p : Plan} {order : List ℕ} {st : StartsData} {d : EndpointsData} → IsFormed p order st d → IsShortOrder order
short-order {p} {order} formed = record { short = formed.in_order.short; apart = order-apart p order formed.least }

-- where a place is open, its service has no other that isn't
pub open-of : (order : List ℕ) (k : ℕ) (w : WaitsData) → AreApart order → k < length order → is_open w k ≡ true → IsOpenOf order (slice_index order k) w
open-of order k w apart inside on j within same = elim (cases_lt j k) [
  | inl lt ↦ absurd (apart j k lt inside same)
  | inr ge ↦ elim (cases_eq k j) [
    | inl here ↦ subst (λ i. is_open w i ≡ true) here on
    | inr ne ↦ absurd (apart k j (omega arith) within (sym same))
  ]
]

-- a service whose place was opened
opens_reopened : (order : List ℕ) (s : ℕ) (u w : WaitsData) → Reopens order s u w → Opens order u w
opens_reopened order s u w r = opens_counts order u w r.counts r.kept r.until

-- a row of places that was opened
joined_is : (row until : ℕ) (u v : WaitsData) (k : ℕ) → JoinsRow row until u v → is_set u.bits row k ≡ true → is_open v k ≡ true
joined_is row until u v k j on =
    j.bits 0 k
    ∙ joined_on (is_set u.bits 0 k) (0 == 0) (is_set u.bits row k) refl on

kept_off : (a n s : Bool) → n ≡ false → (a || (n && s)) ≡ a
kept_off a n s off = grind arith

-- the other rows are as they were
joined_same : (row until : ℕ) (u v : WaitsData) (a k : ℕ) → JoinsRow row until u v → a ≢ 0 → is_set v.bits a k ≡ is_set u.bits a k
joined_same row until u v a k j ne = j.bits a k ∙ kept_off (is_set u.bits a k) (a == 0) (is_set u.bits row k) (ne_eqb a 0 ne)

-- where only bits are set, services are marked as before
opens_bits : (order : List ℕ) (bits : ℕ → ℕ → Bool) (u v : WaitsData) → HasBits bits u.until u v
    → ((a b : ℕ) → is_set u.bits a b ≡ true → bits a b ≡ true) → Opens order u v
opens_bits order bits u v has more = opens_counts order u v has.counts (λ a b e. has.bits a b ∙ more a b e) has.until_is

pub opens-joined : (order : List ℕ) (row : ℕ) (u v : WaitsData) → JoinsRow row u.until u v → Opens order u v
opens-joined order row u v j = opens_bits order _ u v j (λ a b e. or_left (is_set u.bits a b) (a == 0 && is_set u.bits row b) e)

pub opens-handed : (order : List ℕ) (s t k : ℕ) (u v : WaitsData) → HandsOn s t k u v → Opens order u v
opens-handed order s t k u v hands =
    opens_bits order _ u v hands
    (λ a b e. or_left _ (a == 0 && b == k)
    (or_left (is_set u.bits a b) (a == 1 + t && is_set u.bits (1 + s) b) e))

-- what waited behind the service is open, and so is what waited behind any
pub none-behind : (t : ℕ) (u v : WaitsData) (k : ℕ) → Frees t u v → is_behind v t k ≡ true → is_open v k ≡ true
none-behind t u v k j on = joined_is (1 + t) u.until u v k j
    (sym (joined_same (1 + t) u.until u v (1 + t) k j (λ e. omega arith))
    ∙ on)

pub none-parked : (u v : WaitsData) (k : ℕ) → FreesAll u v → is_parked v k ≡ true → is_open v k ≡ true
none-parked u v k j on = joined_is (length u.counts.marks + 1) u.until u v k j
    (sym (joined_same (length u.counts.marks + 1) u.until u v (length u.counts.marks + 1) k j (λ e. omega arith))
    ∙ sym (ap (λ (counts : WaitingData). is_set v.bits (length counts.marks + 1) k) j.counts) ∙ on)

others_start : (p : Plan) (st : StartsData) (failed : List Bool) (complete : Bool) (w : WaitsData) (s : ℕ) (starts : Bool) → s < length st.started
    → KnowsReady p st failed complete w → KnowsOthers p (start_if starts s st) failed complete s w
others_start p st failed complete w s false lt knows = λ t inside ne on. knows t inside on
others_start p st failed complete w s true lt knows = λ t inside ne on.
    knows t inside
    (subst (λ b.
    (((is_flagged st.ready t || is_flagged st.ended t) || is_flagged failed t) || (b && (has_kind p Plain t || (has_kind p Bootstrap t && complete))))
    ≡ true)
    (flag-set st.started s t lt ∙ ap (λ b. b || is_flagged st.started t) ne) on)

pub others-start : (p : Plan) (st st' : StartsData) (failed : List Bool) (complete : Bool) (w : WaitsData) (s : ℕ) → s < length st.started
    → KnowsReady p st failed complete w
    → StartsOnly p failed complete s st st' → KnowsOthers p st' failed complete s w
others-start p st st' failed complete w s lt knows only =
    subst (λ x. KnowsOthers p x failed complete s w) (sym only.after) (others_start p st failed complete w s only.starts lt knows)

-- once the service itself is marked, or isn't ready, all are known
pub all-marked : (p : Plan) (order : List ℕ) (st : StartsData) (failed : List Bool) (complete : Bool) (s : ℕ) (w v : WaitsData)
    → KnowsOthers p st failed complete s w → IsMarked order s w v → KnowsReady p st failed complete v
all-marked p order st failed complete s w v others m = λ t inside on.
    elim (cases_eq s t) [
      | inl same ↦ subst (λ u. is_flagged v.counts.marks u ≡ true) same (marked-here order s w v m)
      | inr ne ↦ m.opens.kept t (others t inside (ne_eqb s t ne) on)
    ]

-- a service's word, or the end of its work, leaves the others as they were
others-word : (p : Plan) (st : StartsData) (failed : List Bool) (complete : Bool) (w : WaitsData) (s : ℕ) → s < length st.ready
    → KnowsReady p st failed complete w → KnowsOthers p (word_taken s st) failed complete s w
others-word p st failed complete w s lt knows = λ t inside ne on.
    knows t inside
    (subst (λ b.
    (((b || is_flagged st.ended t) || is_flagged failed t) || (is_flagged st.started t && (has_kind p Plain t || (has_kind p Bootstrap t && complete))))
    ≡ true)
    (flag-set st.ready s t lt ∙ ap (λ b. b || is_flagged st.ready t) ne) on)

others-end : (p : Plan) (st : StartsData) (failed : List Bool) (complete : Bool) (w : WaitsData) (s : ℕ) → s < length st.ended
    → KnowsReady p st failed complete w → KnowsOthers p (end_taken s st) failed complete s w
others-end p st failed complete w s lt knows = λ t inside ne on.
    knows t inside
    (subst (λ b.
    (((is_flagged st.ready t || b) || is_flagged failed t) || (is_flagged st.started t && (has_kind p Plain t || (has_kind p Bootstrap t && complete))))
    ≡ true)
    (flag-set st.ended s t lt ∙ ap (λ b. b || is_flagged st.ended t) ne) on)

when_fresh : (b c : Bool) (A B : Type 0) → c ≡ b → (A → B) → OnTrue b A → OnTrue c B
when_fresh true c A B e f h = subst (λ x. OnTrue x B) (sym e) (f h)
when_fresh false c A B e f h = subst (λ x. OnTrue x B) (sym e) tt

watched_marked : (p : Plan) (order : List ℕ) (st st' : StartsData) (d d' : EndpointsData) (s : ℕ) (w v : WaitsData)
    → AreIdle p order st' d' 0 w
    → ((complete : Bool) → KnowsReady p st d.failed complete w → KnowsOthers p st' d'.failed complete s w)
    → ((complete : Bool) (t : ℕ) → ready_now p st d.failed complete t ≡ true → ready_now p st' d'.failed complete t ≡ true)
    → ((complete : Bool) → ready_now p st' d'.failed complete s ≡ true) → IsMarked order s w v → IsWatched p order st d w
    → IsWatched p order st' d' v
watched_marked p order st st' d d' s w v idle others grows here m was = record {
  count = m.opens.count ∙ was.count;
  edges = edges-kept p w v m.opens.depends was.edges;
  sound = subst (λ complete. IsSound p st' d'.failed complete v) (sym m.complete)
      (sound-marked p order st st' d.failed d'.failed w.complete s w v m (grows w.complete) (here w.complete) was.sound);
  idle = opens-idle p order st' d' 0 w v m.opens idle;
  ready = when_fresh w.fresh v.fresh (KnowsReady p st d.failed w.complete w) (KnowsReady p st' d'.failed v.complete v) m.fresh
      (λ knows. subst (λ complete. KnowsReady p st' d'.failed complete v) (sym m.complete)
      (all-marked p order st' d'.failed w.complete s w v (others w.complete knows) m)) was.ready;
}

-- the event of a service's word, and of the end of its work
pub watched-word : (p : Plan) (order : List ℕ) (st : StartsData) (d : EndpointsData) (s : ℕ) (w v : WaitsData) → s < service_count p → IsStartsSized p st
    → IsMarked order s w v → IsWatched p order st d w → IsWatched p order (word_taken s st) d v
watched-word p order st d s w v inside sized m was =
    let lt : s < length st.ready = (let n = sized.ready in omega arith) in
    watched_marked p order st (word_taken s st) d d s w v was.idle
    (λ complete. others-word p st d.failed complete w s lt)
    (λ complete t. grows-word p st d.failed complete s t lt) (λ complete. ready-word p st d.failed complete s lt) m was

pub watched-end : (p : Plan) (order : List ℕ) (st : StartsData) (d : EndpointsData) (s : ℕ) (w v : WaitsData) → s < service_count p → IsStartsSized p st
    → IsMarked order s w v → IsWatched p order st d w → IsWatched p order (end_taken s st) d v
watched-end p order st d s w v inside sized m was =
    let lt : s < length st.ended = (let n = sized.ended in omega arith) in
    watched_marked p order st (end_taken s st) d d s w v was.idle
    (λ complete. others-end p st d.failed complete w s lt)
    (λ complete t. grows-end p st d.failed complete s t lt) (λ complete. ready-end p st d.failed complete s lt) m was

-- an answer to an ask changes at most whether this service has failed
pub others-failed : (p : Plan) (st : StartsData) (failed failed' : List Bool) (complete : Bool) (w : WaitsData) (s : ℕ)
    → ((t : ℕ) → (s == t) ≡ false → is_flagged failed' t ≡ is_flagged failed t) → KnowsReady p st failed complete w
    → KnowsOthers p st failed' complete s w
others-failed p st failed failed' complete w s same knows = λ t inside ne on.
    knows t inside
    (subst (λ b.
    (((is_flagged st.ready t || is_flagged st.ended t) || b)
    || (is_flagged st.started t && (has_kind p Plain t || (has_kind p Bootstrap t && complete)))) ≡ true) (same t ne) on)

-- a service that hasn't failed is as ready as it was
less_ready : (a b c : Bool) → ((a || false) || b) ≡ true → ((a || c) || b) ≡ true
less_ready a b c h = grind arith

knows_failed : (p : Plan) (st : StartsData) (failed failed' : List Bool) (complete : Bool) (w : WaitsData) (s : ℕ)
    → ((t : ℕ) → (s == t) ≡ false → is_flagged failed' t ≡ is_flagged failed t) → is_flagged failed' s ≡ false
    → KnowsReady p st failed complete w → KnowsReady p st failed' complete w
knows_failed p st failed failed' complete w s same off knows = λ t inside on.
    elim (cases_eq s t) [
      | inl here ↦
          knows t inside
          (less_ready (is_flagged st.ready t || is_flagged st.ended t)
          (is_flagged st.started t && (has_kind p Plain t || (has_kind p Bootstrap t && complete))) (is_flagged failed t)
          (subst (λ b.
          (((is_flagged st.ready t || is_flagged st.ended t) || b)
          || (is_flagged st.started t && (has_kind p Plain t || (has_kind p Bootstrap t && complete)))) ≡ true)
          (subst (λ u. is_flagged failed' u ≡ false) here off) on))
      | inr ne ↦ others-failed p st failed failed' complete w s same knows t inside (ne_eqb s t ne) on
    ]

-- more places are open
watched_opened : (p : Plan) (order : List ℕ) (st : StartsData) (d : EndpointsData) (u w : WaitsData) → Opens order u w → w.counts ≡ u.counts
    → w.fresh ≡ u.fresh → w.complete ≡ u.complete → IsWatched p order st d u → IsWatched p order st d w
watched_opened p order st d u w grown counts fresh complete was = record {
  count = grown.count ∙ was.count;
  edges = edges-kept p u w grown.depends was.edges;
  sound = subst (λ c. IsSound p st d.failed c w) (sym complete)
      (subst (λ (counts : WaitingData). IsSound p st d.failed u.complete (record w { counts = counts })) (sym counts) was.sound);
  idle = opens-idle p order st d 0 u w grown was.idle;
  ready = when_fresh u.fresh w.fresh (KnowsReady p st d.failed u.complete u) (KnowsReady p st d.failed w.complete w) fresh
      (λ knows t inside on. grown.kept t (knows t inside (subst (λ c. ready_now p st d.failed c t ≡ true) complete on))) was.ready;
}

-- the service's place is open again
watched_reopened : (p : Plan) (order : List ℕ) (st : StartsData) (d : EndpointsData) (s : ℕ) (u w : WaitsData) → Reopens order s u w → IsWatched p order st d u
    → IsWatched p order st d w
watched_reopened p order st d s u w r was = watched_opened p order st d u w (opens_reopened order s u w r) r.counts r.fresh r.complete was

-- a row of places is open again
watched_joined : (p : Plan) (order : List ℕ) (st : StartsData) (d : EndpointsData) (row : ℕ) (u w : WaitsData) → JoinsRow row u.until u w
    → IsWatched p order st d u → IsWatched p order st d w
watched_joined p order st d row u w j was = watched_opened p order st d u w (opens-joined order row u w j) j.counts j.fresh j.complete was

watched_if : (p : Plan) (order : List ℕ) (st : StartsData) (d d' : EndpointsData) (s : ℕ) (w v : WaitsData) (b : Bool) → b ≡ failed_at d' s
    → AreIdle p order st d' 0 w → ((t : ℕ) → (s == t) ≡ false → failed_at d' t ≡ failed_at d t)
    → ((t : ℕ) → failed_at d t ≡ true → failed_at d' t ≡ true)
    → MarksIf b order s w v → IsWatched p order st d w → IsWatched p order st d' v
watched_if p order st d d' s w v true e idle same stays m was =
    watched_marked p order st st d d' s w v idle (λ complete. others-failed p st d.failed d'.failed complete w s same)
    (λ complete t. grows-failed p st d.failed complete d'.failed t (stays t)) (λ complete. ready-failed p st d'.failed complete s (sym e)) m was
watched_if p order st d d' s w v false e idle same stays m was = subst (λ x. IsWatched p order st d' x) (sym m) (record {
  count = was.count;
  edges = was.edges;
  sound = λ t inside on. grows-failed p st d.failed w.complete d'.failed t (stays t) (was.sound t inside on);
  idle = idle;
  ready = when_fresh w.fresh w.fresh (KnowsReady p st d.failed w.complete w) (KnowsReady p st d'.failed w.complete w) refl
      (knows_failed p st d.failed d'.failed w.complete w s same (sym e)) was.ready;
})

-- the flags of failed services after such an answer
flag_others : (s : ℕ) (flags next : List Bool) → s < length flags → FailsOnly s flags next → (t : ℕ) → (s == t) ≡ false → is_flagged next t ≡ is_flagged flags t
flag_others s flags next lt (inl same) t ne = ap (λ f. is_flagged f t) same
flag_others s flags next lt (inr set) t ne = ap (λ f. is_flagged f t) set ∙ flag-set flags s t lt ∙ ap (λ b. b || is_flagged flags t) ne

flag_stays : (s : ℕ) (flags next : List Bool) → s < length flags → FailsOnly s flags next → (t : ℕ) → is_flagged flags t ≡ true → is_flagged next t ≡ true
flag_stays s flags next lt (inl same) t on = ap (λ f. is_flagged f t) same ∙ on
flag_stays s flags next lt (inr set) t on = ap (λ f. is_flagged f t) set ∙ flag-set flags s t lt ∙ or_right (s == t) (is_flagged flags t) on

pub watched-answer : (p : Plan) (order : List ℕ) (st : StartsData) (d d' : EndpointsData) (s : ℕ) (u w v : WaitsData) → s < service_count p
    → IsEndpointsSized p d → FailsOnly s d.failed d'.failed → StaysHeld d d' → StaysUnheld d d' → GainsNone d d' → OthersStay s d d'
    → Reopens order s u w → MarksIf (failed_at d' s) order s w v → IsWatched p order st d u → IsWatched p order st d' v
watched-answer p order st d d' s u w v inside sized fails held unheld gains others r m was =
    let lt : s < length d.failed = (let n = sized.failed in omega arith) in
    let reopened = watched_reopened p order st d s u w r was in
    let same = flag_others s d.failed d'.failed lt fails in
    let stays = flag_stays s d.failed d'.failed lt fails in
    watched_if p order st d d' s w v (failed_at d' s) refl
    (idle-unheld p order st d d' 0 s w (record { held = held; failed = stays; others = others }) unheld gains
    (λ t ne. same t (ne_eqb s t (λ e. ne (sym e)))) (λ k lt same. (r.opened k lt same, omega arith)) reopened.idle)
    same stays m reopened

-- what was open stays so
pub grown-open : (order : List ℕ) (u v : WaitsData) (k : ℕ) → Opens order u v → is_open u k ≡ true → is_open v k ≡ true
grown-open order u v k grown on = grown.waits 0 k on

opened_then : (order : List ℕ) (s : ℕ) (u v : WaitsData) → Opens order u v → IsOpenOf order s u → IsOpenOf order s v
opened_then order s u v grown opened k lt same = grown-open order u v k grown (opened k lt same)

-- so it is where no service failed
pub keeps-same : (s : ℕ) (d d' : EndpointsData) → StaysHeld d d' → OthersStay s d d' → d'.failed ≡ d.failed → KeepsHeld s d d'
keeps-same s d d' held others same = record { held = held; failed = λ t on. ap (λ flags. is_flagged flags t) same ∙ on; others = others }

-- states of the service changed, whose place was opened and a row of others, and what waits in a place that isn't open still does
watched_freed : (p : Plan) (order : List ℕ) (st : StartsData) (d d' : EndpointsData) (s row : ℕ) (u w v : WaitsData) → StaysHeld d d' → OthersStay s d d'
    → d'.failed ≡ d.failed → Reopens order s u w → JoinsRow row w.until w v
    → ((k : ℕ) → k < length order → is_open v k ≡ false → slice_index order k ≢ s → IsParked p order st.started d 0 v (slice_index order k) k
    → IsParked p order st.started d' 0 v (slice_index order k) k)
    → IsWatched p order st d u → IsWatched p order st d' v
watched_freed p order st d d' s row u w v held others same r j moves was =
    let freed = watched_joined p order st d row w v j (watched_reopened p order st d s u w r was) in record {
      count = freed.count;
      edges = freed.edges;
      sound = subst (λ failed. IsSound p st failed v.complete v) (sym same) freed.sound;
      idle = idle-kept p order st d d' 0 s v (keeps-same s d d' held others same)
          (opened_then order s w v (opens-joined order row w v j) r.opened) moves freed.idle;
      ready = subst (λ failed. OnTrue v.fresh (KnowsReady p st failed v.complete v)) (sym same) freed.ready;
    }

-- what waited behind the service is open; what waits behind another one still does, where the address that it waits for has no live descriptor yet
moves_behind : (p : Plan) (order : List ℕ) (on : List Bool) (d d' : EndpointsData) (s k : ℕ) (w v : WaitsData) → OthersStay s d d' → d'.failed ≡ d.failed
    → Frees s w v → is_open v k ≡ false → slice_index order k ≢ s → (x : IsParked p order on d 0 v (slice_index order k) k)
    → has_open d'.table (address p (slice_index order k) x.shares.at) ≡ false → IsParked p order on d' 0 v (slice_index order k) k
moves_behind p order on d d' s k w v others same j off ne x none = elim (cases_eq (slice_index order x.by) s) [
  | inl here ↦
      and_clash (is_open v k) (none-behind s w v k j (subst (λ t. is_behind v t k ≡ true) here x.behind)) off
      (IsParked p order on d' 0 v (slice_index order k) k)
  | inr other ↦ parked-others p order on d d' 0 v s (slice_index order k) k others same ne x other none
]

-- where no address has gained a live descriptor
pub watched-adopted : (p : Plan) (order : List ℕ) (st : StartsData) (d d' : EndpointsData) (s : ℕ) (u w v : WaitsData) → StaysHeld d d' → OthersStay s d d'
    → d'.failed ≡ d.failed → GainsNone d d' → Reopens order s u w → Frees s w v
    → IsWatched p order st d u → IsWatched p order st d' v
watched-adopted p order st d d' s u w v held others same gains r j was =
    watched_freed p order st d d' s (1 + s) u w v held others same r j
    (λ k lt off ne x. moves_behind p order st.started d d' s k w v others same j off ne x (gains _ x.shares.none)) was

-- and where the address of the service's endpoint i may have: all that waits behind a service is open, or no other service has the address
pub watched-bound : (p : Plan) (order : List ℕ) (st : StartsData) (d d' : EndpointsData) (s i : ℕ) (all : Bool) (u w v : WaitsData)
    → ((k : ℕ) → k < length order → slice_index order k < service_count p) → StaysHeld d d' → OthersStay s d d'
    → d'.failed ≡ d.failed → GainsOnly (address p s i) d d' → (all ≡ false → IsAlone p s i) → Reopens order s u w → FreesMore all s w v
    → IsWatched p order st d u → IsWatched p order st d' v
watched-bound p order st d d' s i true u w v inside held others same gains alone r j was =
    watched_freed p order st d d' s (length w.counts.marks + 1) u w v held others same r j
    (λ k lt off ne x. and_clash (is_open v k) (none-parked w v k j x.parked) off (IsParked p order st.started d' 0 v (slice_index order k) k)) was
watched-bound p order st d d' s i false u w v inside held others same gains alone r j was =
    watched_freed p order st d d' s (1 + s) u w v held others same r j
    (λ k lt off ne x. moves_behind p order st.started d d' s k w v others same j off ne x
    (gains _ (alone refl (slice_index order k) x.shares.at (inside k lt) x.shares.first.within ne) x.shares.none)) was

-- where no state changed
watched_rows : (p : Plan) (order : List ℕ) (st : StartsData) (d d' : EndpointsData) (w : WaitsData) → d'.rows ≡ d.rows → d'.failed ≡ d.failed
    → ((k : ℕ) → is_open w k ≡ false → IsParked p order st.started d 0 w (slice_index order k) k → IsParked p order st.started d' 0 w (slice_index order k) k)
    → IsWatched p order st d w → IsWatched p order st d' w
watched_rows p order st d d' w rows same moves was = record {
  count = was.count;
  edges = was.edges;
  sound = subst (λ failed. IsSound p st failed w.complete w) (sym same) was.sound;
  idle = idle_rows p order st d d' w rows same moves was.idle;
  ready = subst (λ failed. OnTrue w.fresh (KnowsReady p st failed w.complete w)) (sym same) was.ready;
}

pub watched-same : (p : Plan) (order : List ℕ) (st : StartsData) (d d' : EndpointsData) (w : WaitsData) → d'.rows ≡ d.rows → d'.failed ≡ d.failed
    → GainsNone d d'
    → IsWatched p order st d w → IsWatched p order st d' w
watched-same p order st d d' w rows same gains =
    watched_rows p order st d d' w rows same (λ k off x. parked-rows p order st.started d d' 0 w (slice_index order k) k rows same gains x)

pub watched-received : (p : Plan) (order : List ℕ) (st : StartsData) (d d' : EndpointsData) (w v : WaitsData) → d'.rows ≡ d.rows → d'.failed ≡ d.failed
    → FreesAll w v
    → IsWatched p order st d w → IsWatched p order st d' v
watched-received p order st d d' w v rows same j was =
    watched_rows p order st d d' v rows same
    (λ k off x. and_clash (is_open v k) (none-parked w v k j x.parked) off (IsParked p order st.started d' 0 v (slice_index order k) k))
    (watched_joined p order st d (length w.counts.marks + 1) w v j was)

-- once a rest may be over, all that rest are open
idle_woken : (p : Plan) (order : List ℕ) (st : StartsData) (d : EndpointsData) (w v : WaitsData) → JoinsRow (length w.counts.marks + 2) v.until w v
    → AreIdle p order st d 0 w → AreIdle p order st d 0 v
idle_woken p order st d w v j idle = λ k lt off.
    elim (idle k lt (was_off k off)) [
      | inl done ↦ inl done
      | inr (inl waits) ↦ inr (inl (waits.0, λ none. waits.1 (ap (λ (counts : WaitingData). missing_of counts (slice_index order k)) (sym j.counts) ∙ none)))
      | inr (inr parked) ↦ inr (inr (
        parked.0,
        record {
          by = parked.1.by;
          earlier = parked.1.earlier;
          started = parked.1.started;
          shares = parked.1.shares;
          busy = woken parked.1.by (slice_index order parked.1.by) parked.1.shares.other parked.1.busy;
          behind = grown (1 + slice_index order parked.1.by) k parked.1.behind;
          parked = ap (λ (counts : WaitingData). is_set v.bits (length counts.marks + 1) k) j.counts ∙ grown (length w.counts.marks + 1) k parked.1.parked;
        },
      ))
    ]
  where
    grown : (a b : ℕ) → is_set w.bits a b ≡ true → is_set v.bits a b ≡ true
    grown a b e = j.bits a b ∙ or_left (is_set w.bits a b) (a == 0 && is_set w.bits (length w.counts.marks + 2) b) e

    stays_open : (k : ℕ) → is_open w k ≡ true → is_open v k ≡ true
    stays_open k on = grown 0 k on

    was_off : (k : ℕ) → is_open v k ≡ false → is_open w k ≡ false
    was_off k off = elim (cases_Bool (is_open w k)) [
      | inl on ↦ and_clash (is_open v k) (stays_open k on) off (is_open w k ≡ false)
      | inr was ↦ was
    ]

    woken : (e t i : ℕ) → StaysBusy d 0 w e t i → StaysBusy d 0 v e t i
    woken e t i (inl asks) = inl asks
    woken e t i (inr (inl next)) = inr (inl (stays_open e next.0, next.1))
    woken e t i (inr (inr rest)) = inr (inl (joined_is (length w.counts.marks + 2) v.until w v e j rest.0, omega arith))

pub watched-woken : (p : Plan) (order : List ℕ) (st : StartsData) (d : EndpointsData) (w v : WaitsData) → Wakes w v → IsWatched p order st d w
    → IsWatched p order st d v
watched-woken p order st d w v (inl same) was = subst (λ x. IsWatched p order st d x) (sym same) was
watched-woken p order st d w v (inr j) was = record {
  count = ap (λ (counts : WaitingData). length counts.marks) j.counts ∙ was.count;
  edges = edges-kept p w v (ap (λ (counts : WaitingData). counts.depends) j.counts) was.edges;
  sound = subst (λ c. IsSound p st d.failed c v) (sym j.complete)
      (subst (λ (counts : WaitingData). IsSound p st d.failed w.complete (record v { counts = counts })) (sym j.counts) was.sound);
  idle = idle_woken p order st d w v j was.idle;
  ready = when_fresh w.fresh v.fresh (KnowsReady p st d.failed w.complete w) (KnowsReady p st d.failed v.complete v) j.fresh
      (λ knows t inside on. ap (λ (counts : WaitingData). is_flagged counts.marks t) j.counts
      ∙ knows t inside (subst (λ c. ready_now p st d.failed c t ≡ true) j.complete on)) was.ready;
}

-- what was complete stays so while the waits of a pass are over
pub woken-late : (w v : WaitsData) (complete : Bool) → Wakes w v → (w.complete ≡ true → complete ≡ true) → v.complete ≡ true → complete ≡ true
woken-late w v complete (inl same) late on = late (sym (ap (λ (x : WaitsData). x.complete) same) ∙ on)
woken-late w v complete (inr j) late on = late (sym j.complete ∙ on)

-- before a pass, and after it
pub known-caught : (p : Plan) (order : List ℕ) (st : StartsData) (d : EndpointsData) (complete : Bool) (moment : ℕ) (w v : WaitsData) → IsWatched p order st d w
    → Opens order w v → v.complete ≡ complete → KnowsReady p st d.failed complete v → MarksOnly (ready_now p st d.failed complete) w v
    → (w.complete ≡ true → complete ≡ true) → moment ≤ w.until → IsKnown p order st d complete moment 0 v
known-caught p order st d complete moment w v was grown complete_is knows only late soon =
    record {
      count = grown.count ∙ was.count;
      edges = edges-kept p w v grown.depends was.edges;
      sound = sound-only p st d.failed complete w v only (λ t inside on. grows-complete p st d.failed w.complete complete t late (was.sound t inside on));
      idle = opens-idle p order st d 0 w v grown was.idle;
      complete_is = complete_is;
      ready = knows;
      soon = (let same = grown.until in omega arith);
    }

-- a pass that has gone on over places that aren't open
pub idle-on : (p : Plan) (order : List ℕ) (st : StartsData) (d : EndpointsData) (from next : ℕ) (w : WaitsData)
    → ((e : ℕ) → from ≤ e → is_open w e ≡ true → next ≤ e) → AreIdle p order st d from w → AreIdle p order st d next w
idle-on p order st d from next w far idle = λ k lt off.
    elim (idle k lt off) [
      | inl done ↦ inl done
      | inr (inl waits) ↦ inr (inl waits)
      | inr (inr parked) ↦ inr (inr (parked.0, parked-on p order st.started d from next w (slice_index order k) k parked.1 (far parked.1.by)))
    ]

pub watched-known : (p : Plan) (order : List ℕ) (st : StartsData) (d : EndpointsData) (complete : Bool) (moment from : ℕ) (w : WaitsData)
    → IsKnown p order st d complete moment from w → IsWatched p order st d w
watched-known p order st d complete moment from w known = record {
  count = known.count;
  edges = known.edges;
  sound = subst (λ c. IsSound p st d.failed c w) (sym known.complete_is) known.sound;
  idle = idle-on p order st d from 0 w (λ e le on. omega arith) known.idle;
  ready = anyhow w.fresh (KnowsReady p st d.failed w.complete w) (subst (λ c. KnowsReady p st d.failed c w) (sym known.complete_is) known.ready);
}
  where
    anyhow : (b : Bool) (A : Type 0) → A → OnTrue b A
    anyhow true A h = h
    anyhow false A h = tt

-- at the beginning each place is open, and nothing is marked
pub watched-open : (p : Plan) (order : List ℕ) (st : StartsData) (d : EndpointsData) (w : WaitsData) → length w.counts.marks ≡ service_count p
    → CountsPlan p w → ((s : ℕ) → is_flagged w.counts.marks s ≡ false)
    → ((k : ℕ) → k < length order → is_open w k ≡ true) → w.fresh ≡ false → IsWatched p order st d w
watched-open p order st d w count edges none opened off = record {
  count = count;
  edges = edges;
  sound = λ t inside on. and_clash (is_flagged w.counts.marks t) on (none t) (ready_now p st d.failed w.complete t ≡ true);
  idle = λ k lt closed. and_clash (is_open w k) (opened k lt) closed (IsIdle p order st d 0 w (slice_index order k) k);
  ready = when_fresh false w.fresh (KnowsReady p st d.failed w.complete w) (KnowsReady p st d.failed w.complete w) off (λ knows. knows) tt;
}

-- a beginning leaves what was complete
begun_complete : (begun test upgrade : Bool) (b : BootData) → b.complete ≡ true → (if begun then b else begun_with test upgrade b).complete ≡ true
begun_complete true test upgrade b on = on
begun_complete false true upgrade b on = on
begun_complete false false true b on = on
begun_complete false false false b on = refl

pub begun-complete : (p : Plan) (b : BootData) → b.complete ≡ true → (begun_by p b).complete ≡ true
begun-complete p b on = begun_complete b.begun p.test p.upgrade b on

-- and so does a mark
pub marked-late : (order : List ℕ) (s : ℕ) (w v : WaitsData) (b : Bool) → MarksIf b order s w v → v.complete ≡ w.complete
marked-late order s w v true m = m.complete
marked-late order s w v false m = ap (λ (x : WaitsData). x.complete) m

-- and so do places that are freed
pub free-late : (all : Bool) (t : ℕ) (w v : WaitsData) → FreesMore all t w v → v.complete ≡ w.complete
free-late true t w v j = j.complete
free-late false t w v j = j.complete
