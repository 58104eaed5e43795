-- A moment before the least at which something is due tells nothing, and at that one something is to be told, or the run ends.
use Rattle.std.proofs.Common.{ℕ, Bool, true, false, not, ◌&&◌, ◌||◌, inl, inr, [], ◌∷◌, ◌≡◌, refl, ap, sym, ◌∙◌, subst, arith, ◌<◌, ◌≤◌, length, slice_index, Option, Some, None, if◌then◌else◌}
use Rattle.std.specs.Prelude.{max}
use Rattle.std.specs.Bool.{OnTrue}
use Rattle.std.proofs.lemmas.Bool.{cases_Bool, and_parts, and_from, or_left, or_right, or_parts, eqb-true}
use Rattle.svc_base.proofs.Logic.{clash, apart_from, not_in}
use Rattle.svc_record.specs.declared.plan.Plan.{Plan}
use Rattle.svc_record.specs.declared.entry.Entry.TheVariants.{Got}
use Rattle.svc_record.specs.declared.event.Event.TheVariants.{Moment}
use Rattle.svc_record.specs.AskRules.{fails_right}
use Rattle.svc_record.specs.Boot.{runs, receive_right, complete_right, is_notify, boots}
use Rattle.svc_record.specs.Drain.{waits_are_over}
use Rattle.svc_record.specs.Due.{is_calm}
use Rattle.svc_record.specs.Ends.{has_ended, has_ended_early, ends_tested}
use Rattle.svc_record.specs.Record.{Record, times, once_if, is_running, from_the_start}
use Rattle.svc_record.specs.Right.{OpenRight, open_right}
use Rattle.svc_record.specs.Endpoints.{EndpointsRightLate}
use Rattle.svc_record.specs.Starts.{is_started}
use Rattle.svc_record.specs.Validity.{IsInOrder}
use Rattle.svc_record.proofs.Complete as complete
use Rattle.svc_record.proofs.Sound as sound
use Rattle.svc_record.proofs.Tallies.{one_if}
use Rattle.svc_moments.specs.Least.{IsLeast, is_before}
use Rattle.svc_endpoints.specs.Dues.{AsksAt}
use Rattle.svc_endpoints.specs.Visits.{Visited}
use Rattle.svc_endpoints.proofs.DueStands.{left-right, due-wrong}
use Rattle.svc_boot.specs.BootData.{BootData}
use Rattle.svc_boot.specs.BootState.{is_due_in, is_refused}
use Rattle.svc_boot.specs.BootEffects.{forked, waited, end_of, is_early}
use Rattle.svc_boot.specs.BootFacts.{IsBootSettled}
use Rattle.svc_boot.specs.ForkState.{may_run, is_parent_over}
use Rattle.svc_boot.proofs.BootEnds.{ended-is}
use Rattle.svc_boot.proofs.BootLemmas.{stands-waited}
use Rattle.svc_offer.specs.OfferState.{over_since, is_connect_due, is_send_due}
use Rattle.svc_offer.specs.OfferDues as offers
use Rattle.svc_drain.specs.DrainState.{is_told_far, passes_at}
use Rattle.svc_drain.specs.DrainEffects.{at_moment}
use Rattle.svc_drain.specs.DrainDues as drains
use Rattle.svc_drain.proofs.Passing.{passed-is}
use Rattle.svc_core.specs.CoreData.{CoreData, IsFormed, is_on, with_end}
use Rattle.svc_core.specs.Copies.{message_at}
use Rattle.svc_core.specs.Dues.{GoesOnFrom, TellsNothingBefore, TellsAt, AsksSome, RunsAndAsks, NothingAsked, IsRested, IsDueAt, EndsWaitAt, from_last}
use Rattle.svc_core.specs.Passes.{VisitedUpTo, is_tested, may_start}
use Rattle.svc_core.specs.Stands.{AfterEvent, StepRight}
use Rattle.svc_core.proofs.DueGrows.{due-grows, wait-grows}
use Rattle.svc_core.proofs.DueRecords.{try-wrong, ask-wrong, rest-wrong, moment-stands}
use Rattle.svc_core.proofs.FinishLemmas.{on-by, on-end}
use Rattle.svc_core.proofs.HeldLemmas.{Held, waiting-held, held-right}
use Rattle.svc_core.proofs.OpenLemmas.{runs-same, step-on}
use Rattle.svc_core.proofs.SignalLemmas.{strike-moment}
use Rattle.svc_core.proofs.StepLemmas.{struck, unended, opened, uncut-of, drain-of, ends-of, settled-of, on-boot, all-started, end-of-boot, running-is}

-- a record that is right, from which the run goes on, is right as it is
right-calm : (core : CoreData) (q : Record) → StepRight core q core.end → is_on core.end ≡ true → is_calm core.plan q ≡ true
right-calm core q at on =
    and_from (not (has_ended core.plan q)) (open_right core.plan q && fails_right core.plan q)
    (not_in (has_ended core.plan q) (unended core q at.stands on))
    (and_from (open_right core.plan q) (fails_right core.plan q)
    (complete.open_ core.plan q (opened core q at.stands on at.right)) (complete.fails core.plan q at.right.asks.fails.0))

-- what is right as it is
calm-open : (p : Plan) (q : Record) → is_calm p q ≡ true → (has_ended p q ≡ false) × OpenRight p q
calm-open p q calm =
    let parts = and_parts (not (has_ended p q)) (open_right p q && fails_right p q) calm in
    let rest = and_parts (open_right p q) (fails_right p q) parts.1 in
    (apart_from (has_ended p q) parts.0, sound.open_ p q rest.0)

both_false : (a b : Bool) → (a || b) ≡ false → (a ≡ false) × (b ≡ false)
both_false a b h = or_parts a b h

same_count : (a b : Bool) → one_if a ≡ one_if b → a ≡ b
same_count true true h = refl
same_count false false h = refl
same_count true false h = absurd (omega (arith, h))
same_count false true h = absurd (omega (arith, h))

-- what a right beginning says of when the run runs, and of what is received
receive-of : (p : Plan) (q : Record) → OpenRight p q → receive_right p q ≡ true
receive-of p q at =
    let all = and_parts _ _ at.boot.entries in
    let first = and_parts _ _ all.0 in
    (and_parts (once_if (boots p q && (p.daemon && p.wait)) is_notify q) (receive_right p q) first.1).1

runs-of : (p : Plan) (q : Record) → OpenRight p q → times is_running q ≡ (if runs p q then 1 else 0)
runs-of p q at =
    let all = and_parts _ _ at.boot.entries in
    eqb-true (times is_running q) (if runs p q then 1 else 0) (and_parts (complete_right p q) (once_if (runs p q) is_running q) all.1).1

module _ (core : CoreData) (q : Record) (from : GoesOnFrom core q) (t : ℕ) (later : core.drain.moment ≤ t) where
  abbrev next : Record
  next = Got (Moment t) ∷ q

  abbrev moved : CoreData
  moved = struck core core.starts core.endpoints core.boot core.offer (at_moment t core.drain)

  settled : IsBootSettled core.plan core.boot core.drain.moment
  settled = (settled-of core q from.stands from.on).boot

  -- a server that goes on
  module _ (free : may_run core.plan core.boot.fork ≡ true) where
    struck-is : AfterEvent moved (message_at core (Moment t)) next
    struck-is = strike-moment core t (at_moment t core.drain) (message_at core (Moment t)) from.on free later refl
        (λ p over r far stand. moment-stands p core.drain over r t far stand) refl q from.right from.stands

    runs-now : core.drain.running ≡ may_start core.plan core.boot
    runs-now = same_count core.drain.running (may_start core.plan core.boot)
        (sym (drain-of core q from.stands from.on).running_is ∙ runs-of core.plan q (opened core q from.stands from.on from.right)
        ∙ ap one_if
        (runs-same core.plan core.starts core.endpoints core.boot core.offer (at_moment t core.drain) core.connections next struck-is.going))

    module _ (formed : IsFormed core.plan core.order core.starts core.endpoints) where
      started-at : (k : ℕ) → k < length core.order → is_started next (slice_index core.order k) ≡ true
          → AsksAt core.plan core.endpoints (slice_index core.order k) t → AsksSome core.plan core.order core.starts.started core.endpoints t
      started-at k inside on asks = record {
        place = k;
        inside = inside;
        there = record { started = struck-is.going.starts.started_is (slice_index core.order k) (formed.in_order.inside k inside) ∙ on; asks = asks };
      }

      visited-at : (runs : core.drain.running ≡ true) → (RunsAndAsks core t → ⊥) → (k : ℕ) → k < length core.order
          → Visited core.plan core.endpoints (slice_index core.order k) next []
      visited-at runs none k inside =
          left-right core.plan core.endpoints next formed.endpoints struck-is.going.ends (slice_index core.order k) (formed.in_order.inside k inside)
          (λ on asks. none (record { runs = runs; asks = started-at k inside on asks }))

      visited-all : (RunsAndAsks core t → ⊥) → OnTrue (may_start core.plan core.boot) (VisitedUpTo core.plan core.order (length core.order) next)
      visited-all none = by (may_start core.plan core.boot) refl
        where
          by : (c : Bool) → may_start core.plan core.boot ≡ c → OnTrue c (VisitedUpTo core.plan core.order (length core.order) next)
          by false e = tt
          by true e = record {
            due_started = λ k inside due.
                all-started core q from.stands from.on from.right (runs-now ∙ e) (slice_index core.order k) (formed.in_order.inside k inside) due;
            right = λ calm k inside i within. (visited-at (runs-now ∙ e) none k inside).right calm i within;
            late = λ k inside i within. (visited-at (runs-now ∙ e) none k inside).right_late i within;
          }

      -- where nothing is due, the record is right as it is
      pub undue-calm : (IsDueAt core t → ⊥) → is_calm core.plan next ≡ true
      undue-calm none =
          let live = on-end core.plan core.boot (on-boot core q from.stands from.on) in
          let ask = both_false (is_connect_due core.offer.state t) (is_send_due core.offer.state t)
          (to_off (offers.is_due_at core.offer.state t) (λ h. none (inl (inr h)))) in
          let end = both_false (not (is_told_far core.drain.stage core.drain.signal (over_since core.offer.state) t)) (passes_at core.plan core.drain.stage t)
          (to_off (drains.is_due_at core.plan core.drain (over_since core.offer.state) t) (λ h. none (inr (inl h)))) in
          right-calm moved next
          (step-on moved next formed.in_order
          (record {
            going = struck-is.going;
            settled = record {
              forked_is = settled.forked_is;
              no_parent_over = settled.no_parent_over;
              goes_on = settled.goes_on;
              no_try_due = to_off (is_due_in core.boot.receiving t) (λ h. none (inl (inl h)));
              complete_is = settled.complete_is;
            };
            untested = live.0;
            visited = visited-all (λ asks. none (inr (inr asks)));
            runs_now = runs-now;
            on = from.on;
            end_is = from.stands.end_is ∙ end-of-boot core q from.stands from.on;
            drain = told_all (is_told_far core.drain.stage core.drain.signal (over_since core.offer.state) t) end.0;
            offer = record { no_connect = ask.0; no_send = ask.1 };
          }) end.1) from.on
        where
          to_off : (b : Bool) → (b ≡ true → ⊥) → b ≡ false
          to_off true f = absurd (f refl)
          to_off false f = refl

          told_all : (b : Bool) → not b ≡ false → b ≡ true
          told_all b h = grind arith

      -- where something is due, it isn't
      due-open : IsDueAt core t → is_calm core.plan next ≡ true → ⊥
      due-open due calm =
          let at = calm-open core.plan next calm in
          elim due [
            | inl first ↦ elim first [
              | inl tries ↦ try-wrong core.plan core.boot next struck-is.going.boot struck-is.going.begun_is tries (receive-of core.plan next at.1)
              | inr asks ↦ ask-wrong core.plan core.offer next struck-is.going.offer (uncut-of core q from.stands from.on) asks at.1.offer.goes
            ]
            | inr second ↦ elim second [
              | inl ends ↦ drain-open ends at.0 at.1
              | inr asks ↦ asks-open asks at.1
            ]
          ]
        where
          over-ended : waits_are_over core.plan next ≡ true → has_ended core.plan next ≡ true
          over-ended h = or_left (waits_are_over core.plan next || ends_tested core.plan next) (has_ended_early core.plan next)
              (or_left (waits_are_over core.plan next) (ends_tested core.plan next) h)

          drain-open : drains.is_due_at core.plan core.drain (over_since core.offer.state) t ≡ true → has_ended core.plan next ≡ false
              → OpenRight core.plan next → ⊥
          drain-open ends on at = elim (cases_Bool (is_told_far core.drain.stage core.drain.signal (over_since core.offer.state) t)) [
            | inr behind ↦ rest-wrong core.plan (at_moment t core.drain) (over_since core.offer.state) next core.drain.moment struck-is.going.drain
                (settled-of core q from.stands from.on).drain behind at.phases
            | inl far ↦ (
                let passed = passed-is core.plan (at_moment t core.drain) (over_since core.offer.state) next struck-is.going.drain far in
                let now_over : passes_at core.plan core.drain.stage t ≡ true =
                second_holds (is_told_far core.drain.stage core.drain.signal (over_since core.offer.state) t) (passes_at core.plan core.drain.stage t)
                far ends in
                clash (has_ended core.plan next) (over-ended (passed ∙ now_over)) on)
          ]
            where
              second_holds : (a b : Bool) → a ≡ true → (not a || b) ≡ true → b ≡ true
              second_holds a b h k = grind arith

          asks-open : RunsAndAsks core t → OpenRight core.plan next → ⊥
          asks-open due at =
              let s = slice_index core.order due.asks.place in
              let inside = formed.in_order.inside due.asks.place due.asks.inside in
              let started = sym (struck-is.going.starts.started_is s inside) ∙ due.asks.there.started in
              let asks = due.asks.there.asks in
              let right = on_start (from_the_start next) (EndpointsRightLate core.plan next) (running-is core q from.stands from.on ∙ due.runs)
              at.endpoints_late in
              clash _ (right s asks.at inside asks.first.within)
              (due-wrong core.plan core.endpoints next formed.endpoints struck-is.going.ends s inside started asks)
            where
              on_start : (c : Bool) (A : Type 0) → c ≡ true → OnTrue c A → A
              on_start true A e h = h
              on_start false A e h = absurd (cc)

      pub due-uncalm : IsDueAt core t → is_calm core.plan next ≡ false
      due-uncalm due = to_off (is_calm core.plan next) (due-open due)
        where
          to_off : (b : Bool) → (b ≡ true → ⊥) → b ≡ false
          to_off true f = absurd (f refl)
          to_off false f = refl

  -- while the fork is awaited, or to a parent
  module _ (awaits : may_run core.plan core.boot.fork ≡ false) where
    abbrev waiting : BootData
    waiting = forked (waited core.plan.ready_timeout t core.boot.fork) core.boot

    abbrev held_core : CoreData
    held_core = struck core core.starts core.endpoints waiting core.offer (at_moment t core.drain)

    held-is : Held held_core next
    held-is = waiting-held core t waiting (at_moment t core.drain) from.on awaits later refl
        (λ p over r far stand. moment-stands p core.drain over r t far stand) refl
        (λ r alive stand. stands-waited core.plan core.boot r t alive stand) q from.right from.stands

    pub waits-calm : IsInOrder core.plan core.order → (EndsWaitAt core t → ⊥) → is_calm core.plan next ≡ true
    waits-calm in_order none =
        let live = on-end core.plan core.boot (on-boot core q from.stands from.on) in
        right-calm (with_end (end_of core.plan waiting) held_core) next (held-right held_core next in_order held-is)
        (on-by core.plan waiting live.0 live.1 (to_off (is_parent_over waiting.fork) none))
      where
        to_off : (b : Bool) → (b ≡ true → ⊥) → b ≡ false
        to_off true f = absurd (f refl)
        to_off false f = refl

    pub waits-uncalm : EndsWaitAt core t → is_calm core.plan next ≡ false
    waits-uncalm over =
        let ended : has_ended core.plan next ≡ true =
        ended-is core.plan waiting next held-is.going.boot
        ∙ or_right (waits_are_over core.plan next) (is_tested core.plan waiting || is_early waiting)
        (or_right (is_tested core.plan waiting) (is_early waiting) (or_left (is_parent_over waiting.fork) (is_refused waiting.receiving) over)) in
        off (has_ended core.plan next) (open_right core.plan next && fails_right core.plan next) ended
      where
        off : (a b : Bool) → a ≡ true → (not a && b) ≡ false
        off a b h = grind arith

-- at the last moment no service was left to be asked for
nothing-asked : (core : CoreData) (q : Record) → GoesOnFrom core q → IsFormed core.plan core.order core.starts core.endpoints → NothingAsked core
nothing-asked core q from formed due =
    let s = slice_index core.order due.asks.place in
    let inside = formed.in_order.inside due.asks.place due.asks.inside in
    let started = sym (from.stands.starts.started_is s inside) ∙ due.asks.there.started in
    let asks = subst (λ m. AsksAt core.plan core.endpoints s m) (drain-of core q from.stands from.on).moment_is due.asks.there.asks in
    let right = on_start (from_the_start q) (EndpointsRightLate core.plan q) (running-is core q from.stands from.on ∙ due.runs)
    (opened core q from.stands from.on from.right).endpoints_late in
    clash _ (right s asks.at inside asks.first.within)
    (due-wrong core.plan core.endpoints q formed.endpoints (ends-of core q from.stands from.on) s inside started asks)
  where
    on_start : (c : Bool) (A : Type 0) → c ≡ true → OnTrue c A → A
    on_start true A e h = h
    on_start false A e h = absurd (cc)

-- and the endpoints keep their states
rested : (core : CoreData) (q : Record) → GoesOnFrom core q → IsFormed core.plan core.order core.starts core.endpoints → IsRested core
rested core q from formed = record { none = nothing-asked core q from formed; kept = (ends-of core q from.stands from.on).kept }

-- what the least moment at which something is due says of the records
at_last : (last t : ℕ) (at : Option ℕ) → last ≤ t → is_before t (from_last last at) ≡ true → is_before t at ≡ true
at_last last t None le h = refl
at_last last t (Some m) le h = grind arith

pub due-before : (core : CoreData) (at : Option ℕ) → IsFormed core.plan core.order core.starts core.endpoints → may_run core.plan core.boot.fork ≡ true
    → (IsRested core → IsLeast (IsDueAt core) at) → TellsNothingBefore core (from_last core.drain.moment at)
due-before core at formed free least q from t later small early =
    undue-calm core q from t later free formed
    (λ due. (least (rested core q from formed)).before t small (at_last core.drain.moment t at later early) due)

pub waits-before : (core : CoreData) (at : Option ℕ) → IsInOrder core.plan core.order → may_run core.plan core.boot.fork ≡ false
    → IsLeast (EndsWaitAt core) at → TellsNothingBefore core (from_last core.drain.moment at)
waits-before core at in_order awaits least q from t later small early =
    waits-calm core q from t later awaits in_order (λ due. least.before t small (at_last core.drain.moment t at later early) due)

pub ended-before : (core : CoreData) (at : Option ℕ) → is_on core.end ≡ false → TellsNothingBefore core at
ended-before core at off q from t later small early = absurd (let on = from.on in cc)

pub due-at : (core : CoreData) (at : Option ℕ) → IsFormed core.plan core.order core.starts core.endpoints → may_run core.plan core.boot.fork ≡ true
    → (IsRested core → IsLeast (IsDueAt core) at) → TellsAt core (from_last core.drain.moment at)
due-at core None formed free least = tt
due-at core (Some m) formed free least = (
  omega arith,
  λ q from. due-uncalm core q from (max m core.drain.moment) (omega arith) free formed
      (due-grows core m (max m core.drain.moment) (omega arith) (least (rested core q from formed)).there),
)

pub waits-at : (core : CoreData) (at : Option ℕ) → may_run core.plan core.boot.fork ≡ false → IsLeast (EndsWaitAt core) at
    → TellsAt core (from_last core.drain.moment at)
waits-at core None awaits least = tt
waits-at core (Some m) awaits least = (
  omega arith,
  λ q from. waits-uncalm core q from (max m core.drain.moment) (omega arith) awaits
      (wait-grows core m (max m core.drain.moment) (omega arith) least.there),
)
