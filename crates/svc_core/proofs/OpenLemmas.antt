-- What a step leaves is right, while the run goes on, and where it ended in its bootstrapping.
use Rattle.std.proofs.Common.{ℕ, Bool, true, false, ◌||◌, ◌&&◌, not, inl, inr, List, [], ◌∷◌, ◌≡◌, refl, ap, sym, ◌∙◌, subst, arith, ◌<◌, ◌+◌, length, if◌then◌else◌, MatchBool}
use Rattle.std.specs.Bool.{OnTrue}
use Rattle.std.proofs.lemmas.Bool.{and_parts, or_from, or_right, cases_Bool}
use Rattle.svc_record.specs.declared.plan.Plan.{Plan}
use Rattle.svc_record.specs.declared.entry.Entry.{Entry}
use Rattle.svc_record.specs.declared.entry.Entry.TheVariants.{Got, Told}
use Rattle.svc_record.specs.declared.action.Action.TheVariants.{Phase}
use Rattle.svc_record.specs.declared.action.StepEnd.{StepEnd}
use Rattle.svc_record.specs.declared.action.StepEnd.TheVariants.{Served, Tested}
use Rattle.svc_record.specs.Plans.{service_count, endpoints}
use Rattle.svc_record.specs.Record.{Record, has, times, is_signal, is_running, is_bootstrap_complete, from_the_start}
use Rattle.svc_record.specs.Starts.{is_started, is_due, StartsRight}
use Rattle.svc_record.specs.Boot.{runs}
use Rattle.svc_record.specs.Drain.{every_moment_right, moment_right, is_boot_phase, waits_are_over}
use Rattle.svc_record.specs.Offer.{one_ask}
use Rattle.svc_record.specs.Ends.{has_ended, ends_tested, step_end, TestedRight}
use Rattle.svc_record.specs.Endpoints.{endpoint_right, endpoint_right_late, EndpointsRight, EndpointsRightLate}
use Rattle.svc_record.specs.Closes.{is_broadcast}
use Rattle.svc_record.specs.Right.{Right, OpenRight, EndedRight, PassedRight, in_service}
use Rattle.svc_record.specs.Validity.{IsInOrder}
use Rattle.svc_endpoints.specs.EndpointsData.{EndpointsData}
use Rattle.svc_boot.specs.declared.receiving.Receiving.{Receiving}
use Rattle.svc_boot.specs.declared.receiving.Receiving.TheVariants.{Unasked, Trying, Missed, Came, Refused}
use Rattle.svc_boot.specs.BootData.{BootData}
use Rattle.svc_boot.specs.declared.fork.Fork.{Fork}
use Rattle.svc_boot.specs.declared.fork.Fork.TheVariants.{Unforked, Asked, Child, Waiting, Over}
use Rattle.svc_boot.specs.ForkState.{may_run, is_parent_over}
use Rattle.svc_boot.specs.BootState.{is_refused}
use Rattle.svc_boot.specs.BootEffects.{end_of, early_end, refusal_of, is_early}
use Rattle.svc_boot.specs.BootFacts.{IsBootSettled}
use Rattle.svc_boot.proofs.BootEnds.{boot-right, tested-is, end-is, ended-is, settled-on}
use Rattle.svc_boot.proofs.Begun.{may_begin-is}
use Rattle.svc_offer.specs.OfferData.{OfferData}
use Rattle.svc_offer.specs.OfferState.{IsOfferSettled, over_since}
use Rattle.svc_offer.proofs.OfferRules.{offer-right, one-ask, forward-fits}
use Rattle.svc_drain.specs.DrainData.{DrainData}
use Rattle.svc_drain.specs.DrainState.{IsDrainSettled, passes}
use Rattle.svc_drain.proofs.Passing.{passed-is, marks-right}
use Rattle.svc_drain.proofs.Broadcasts.{unsignalled-silent}
use Rattle.svc_core.specs.StartsData.{StartsData}
use Rattle.svc_core.specs.CoreData.{CoreData, is_on, is_served}
use Rattle.svc_core.specs.Passes.{EntriesRight, Going, VisitedUpTo, is_tested, may_start}
use Rattle.svc_core.specs.Stands.{EndedSo, Answered, StepRight}
use Rattle.svc_core.proofs.RecordLemmas.{EachEntry-weaker, not_true, signal-none}
use Rattle.svc_connections.specs.ConnectionsData.{ConnectionsData}
use Rattle.svc_core.proofs.StartsLemmas.{count-start}
use Rattle.svc_core.proofs.PassLemmas.{are-failed}
use Rattle.svc_base.proofs.Logic.{apart_from as not_not}

same_Bool : (a b : Bool) → (a ≡ true → b ≡ true) → (b ≡ true → a ≡ true) → a ≡ b
same_Bool true b f g = sym (f refl)
same_Bool false true f g = g refl
same_Bool false false f g = refl

-- what stands once or not at all
counts-none : (test : Entry → Bool) (q : Record) → has test q ≡ false → times test q ≡ 0
counts-none test [] h = refl
counts-none test (e ∷ q) h = by (test e) (has test q) (times test q) h (counts-none test q)
  where
    by : (here later : Bool) (n : ℕ) → (here || later) ≡ false → (later ≡ false → n ≡ 0) → (if here then n + 1 else n) ≡ 0
    by true later n h f = absurd (cc)
    by false later n h f = f h

counts-some : (test : Entry → Bool) (q : Record) → has test q ≡ true → 0 < times test q
counts-some test [] h = absurd (cc)
counts-some test (e ∷ q) h = by (test e) (has test q) (times test q) h (counts-some test q)
  where
    by : (here later : Bool) (n : ℕ) → (here || later) ≡ true → (later ≡ true → 0 < n) → 0 < (if here then n + 1 else n)
    by true later n h f = omega arith
    by false later n h f = f h

pub has-count : (test : Entry → Bool) (q : Record) (b : Bool) → times test q ≡ (if b then 1 else 0) → has test q ≡ b
has-count test q true n = elim (cases_Bool (has test q)) [ inl there ↦ there | inr fails ↦ absurd (let none = counts-none test q fails in omega arith) ]
has-count test q false n = elim (cases_Bool (has test q)) [ inl there ↦ absurd (let some = counts-some test q there in omega arith) | inr fails ↦ fails ]

-- a moment that is right for every phase is right
pub moment-weaker : (e : Entry) (b : Record) → every_moment_right e b ≡ true → moment_right e b ≡ true
moment-weaker (Told (Phase x ms)) b h = or_right (is_boot_phase x) (every_moment_right (Told (Phase x ms)) b) h
moment-weaker (Told _) b h = h
moment-weaker (Got e) b h = h

when : (c : Bool) (A : Type 0) → (c ≡ true → A) → OnTrue c A
when true A f = f refl
when false A f = tt

-- the services that were visited, where all were
module _ (p : Plan) (order : List ℕ) (in_order : IsInOrder p order) (q : Record) (entries : EntriesRight p q)
    (started_due : (s : ℕ) → s < service_count p → is_started q s ≡ true → is_due p q s ≡ true) (visited : VisitedUpTo p order (length order) q) where
  due_started : (s : ℕ) → s < service_count p → is_due p q s ≡ true → is_started q s ≡ true
  due_started s inside due =
      let at = in_order.each s inside in
      subst (λ t. is_started q t ≡ true) at.2 (visited.due_started at.0 at.1 (subst (λ t. is_due p q t ≡ true) (sym at.2) due))

  pub starts-right : StartsRight p q
  starts-right = record {
    each = λ s inside.
        count-start p q s entries.starts
        ∙ ap (λ b. if b then 1 else 0) (same_Bool (is_started q s) (is_due p q s) (started_due s inside) (due_started s inside));
    in_turn = entries.starts;
  }

  endpoints-right : has is_broadcast q ≡ false → EndpointsRight p q
  endpoints-right none s i inside =
      let at = in_order.each s inside in
      subst (λ t. i < length (endpoints p t) → endpoint_right p q t i ≡ true) at.2 (visited.right none at.0 at.1 i)

  pub endpoints-late : EndpointsRightLate p q
  endpoints-late s i inside =
      let at = in_order.each s inside in
      subst (λ t. i < length (endpoints p t) → endpoint_right_late p q t i ≡ true) at.2 (visited.late at.0 at.1 i)

-- what holds of a record by its parts
module _ (p : Plan) (st : StartsData) (d : EndpointsData) (b : BootData) (o : OfferData) (dr : DrainData) (cn : ConnectionsData) (q : Record)
    (going : Going p st d b o dr cn q) where
  pub running-is : has is_running q ≡ dr.running
  running-is = has-count is_running q dr.running going.drain.running_is

  pub tested-same : ends_tested p q ≡ is_tested p b
  tested-same = tested-is p b q going.boot

  pub runs-same : runs p q ≡ may_start p b
  runs-same = ap (λ c. c && (not p.eager || has is_bootstrap_complete q)) (may_begin-is p b q going.boot)
      ∙ ap (λ c. may_run p b.fork && (not p.eager || c)) going.boot.begin.complete_is

  pub running-right : dr.running ≡ may_start p b → times is_running q ≡ (if runs p q then 1 else 0)
  running-right runs_now = going.drain.running_is ∙ ap (λ c. if c then 1 else 0) (runs_now ∙ sym runs-same)

  -- where its waits haven't passed
  module _ (unpassed : waits_are_over p q ≡ false) where
    pub end-same : step_end p q ≡ end_of p b
    end-same = end-is p b q going.boot ∙ ap (λ c. if c then Served else end_of p b) unpassed

    pub ended-same : has_ended p q ≡ (is_tested p b || is_early b)
    ended-same = ended-is p b q going.boot ∙ ap (λ c. c || (is_tested p b || is_early b)) unpassed

    -- whatever it is otherwise, it is right where each settled prefix is
    pub right-of : one_ask p q ≡ true → MatchBool (has_ended p q) (EndedRight p q) (OpenRight p q) → OnTrue (ends_tested p q) (TestedRight p q) → Right p q
    right-of asks settled tested = record {
      fits = going.entries.fits;
      starts = going.entries.starts;
      settled = (settled, going.earlier);
      asks = record { in_turn = going.ends.asks_due; fails = (going.ends.fails, going.fails) };
      passed = not_true (waits_are_over p q) (PassedRight p q) unpassed;
      stronger = record {
        boots = going.boot.boots_due;
        tries = going.boot.tries_due;
        retries = going.offer.retries_due;
        one_ask = (asks, going.asks);
        tested = tested;
        closes = going.ends.closes_once;
        last_step = not_true (waits_are_over p q) _ unpassed;
        moments = going.entries.moments;
        known_starts = going.entries.known_starts;
        known_asks = going.ends.asks_known;
        known_connections = going.connections.known;
      };
    }

  -- where the server runs and services may start, they were visited
  pub open-right : (order : List ℕ) → IsInOrder p order → IsBootSettled p b dr.moment → IsDrainSettled dr (over_since o.state) → IsOfferSettled o dr.moment
      → passes p dr ≡ false
      → OnTrue (may_start p b) (VisitedUpTo p order (length order) q) → dr.running ≡ may_start p b → OpenRight p q
  open-right order in_order settled told asked waits visited runs_now = record {
    boot = boot-right p b q going.boot going.begun_is (subst (IsBootSettled p b) going.drain.moment_is settled)
        (running-right runs_now) going.entries.after_boot;
    offer = offer-right p o q going.offer (subst (IsOfferSettled o) going.drain.moment_is asked);
    connections = going.connections.right;
    closes = going.ends.closes;
    one_live = going.ends.one_live;
    starts = when (from_the_start q) (StartsRight p q) (λ e. starts-right p order in_order q going.entries going.started_due (at e));
    endpoints = when (in_service q) (EndpointsRight p q) (λ e. (let parts = and_parts (from_the_start q) (not (has is_signal q)) e in
        endpoints-right p order in_order q going.entries going.started_due (at parts.0)
        (unsignalled-silent p dr (over_since o.state) q (going.drain.signal_is ∙ signal-none q (not_not (has is_signal q) parts.1)) going.drain)));
    endpoints_late = when (from_the_start q) (EndpointsRightLate p q) (λ e. endpoints-late p order in_order q going.entries going.started_due (at e));
    phases = marks-right p dr (over_since o.state) q waits told going.drain;
    moments = EachEntry-weaker (λ e before. every_moment_right e before ≡ true)
        (λ e before. moment_right e before ≡ true) moment-weaker q going.entries.moments;
    no_end = going.no_end;
  }
    where
      at : from_the_start q ≡ true → VisitedUpTo p order (length order) q
      at e = on (may_start p b) (VisitedUpTo p order (length order) q) (sym runs_now ∙ sym running-is ∙ e) visited
        where
          on : (c : Bool) (A : Type 0) → c ≡ true → OnTrue c A → A
          on true A e h = h
          on false A e h = absurd (cc)

-- bootstrapping doesn't serve
pub served-not : (p : Plan) (b : BootData) (end : StepEnd) → end ≡ end_of p b → is_served end ≡ false
served-not p b end e = ap is_served e ∙ by (p.test && b.begun) b.fork b.receiving
  where
    refusals : (x : Receiving) → is_served (refusal_of x) ≡ false
    refusals Unasked = refl
    refusals Trying = refl
    refusals (Missed at) = refl
    refusals Came = refl
    refusals (Refused reason) = refl

    by : (c : Bool) (f : Fork) (x : Receiving) → is_served (if c then Tested else early_end f x) ≡ false
    by true f x = refl
    by false (Over status) x = refl
    by false Unforked x = refusals x
    by false Asked x = refusals x
    by false Child x = refusals x
    by false (Waiting at) x = refusals x

-- an end is that of a run that was tested, or ended otherwise in its bootstrapping
pub ended-end : (p : Plan) (b : BootData) → is_on (end_of p b) ≡ false → (is_tested p b || is_early b) ≡ true
ended-end p b off = elim (cases_Bool (p.test && b.begun)) [
  | inl tested ↦ rw tested refl
  | inr live ↦
      ap (λ c. c || is_early b) live ∙ early b.fork b.receiving (subst (λ c. is_on (if c then Tested else early_end b.fork b.receiving) ≡ false) live off)
]
  where
    refused : (x : Receiving) → is_on (refusal_of x) ≡ false → is_refused x ≡ true
    refused (Refused reason) h = refl
    refused Unasked h = absurd (cc)
    refused Trying h = absurd (cc)
    refused (Missed at) h = absurd (cc)
    refused Came h = absurd (cc)

    early : (f : Fork) (x : Receiving) → is_on (early_end f x) ≡ false → (is_parent_over f || is_refused x) ≡ true
    early (Over status) x h = refl
    early Unforked x h = refused x h
    early Asked x h = refused x h
    early Child x h = refused x h
    early (Waiting at) x h = refused x h

-- the run goes on
pub step-on : (core : CoreData) (q : Record) → IsInOrder core.plan core.order → Answered core q → passes core.plan core.drain ≡ false
    → StepRight core q core.end
step-on core q in_order at waits =
    let going = at.going in
    let unpassed : waits_are_over core.plan q ≡ false = passed-is core.plan core.drain (over_since core.offer.state) q going.drain at.drain ∙ waits in
    record {
      stands = record {
        drain = λ e. going.drain;
        offer = λ e. going.offer;
        starts = going.starts;
        boot = going.boot;
        endpoints = λ e. going.ends;
        failed = are-failed core.plan core.endpoints q going.ends;
        came = going.ends.came_are;
        closed = λ e. absurd (let unserved = served-not core.plan core.boot core.end at.end_is in cc);
        connections = λ e. going.connections;
        uncut = λ e. absurd (let unserved = served-not core.plan core.boot core.end at.end_is in cc);
        after_boot = going.entries.after_boot;
        started_due = going.started_due;
        begun_is = going.begun_is;
        runs = going.runs;
        settled = λ e. record { boot = at.settled; drain = at.drain; offer = at.offer; waits = waits };
        end_is = at.end_is ∙ sym (end-same core.plan core.starts core.endpoints core.boot core.offer core.drain core.connections q going unpassed);
      };
      right = right-of core.plan core.starts core.endpoints core.boot core.offer core.drain core.connections q going unpassed
          (one-ask core.plan core.offer q going.offer (subst (IsOfferSettled core.offer) going.drain.moment_is at.offer)
          (forward-fits core.plan q going.entries.fits))
          (opened (has_ended core.plan q) (EndedRight core.plan q) (OpenRight core.plan q)
          (ended-same core.plan core.starts core.endpoints core.boot core.offer core.drain core.connections q going unpassed
          ∙ or_from (is_tested core.plan core.boot) (is_early core.boot) at.untested (settled-on core.plan core.boot core.drain.moment at.settled))
          (open-right core.plan core.starts core.endpoints core.boot core.offer core.drain core.connections q going core.order in_order at.settled at.drain
          at.offer waits at.visited at.runs_now))
          (not_true (ends_tested core.plan q) (TestedRight core.plan q)
          (tested-same core.plan core.starts core.endpoints core.boot core.offer core.drain core.connections q going ∙ at.untested));
      answer = at.end_is ∙ sym (end-same core.plan core.starts core.endpoints core.boot core.offer core.drain core.connections q going unpassed);
    }
  where
    opened : (c : Bool) (A B : Type 0) → c ≡ false → B → MatchBool c A B
    opened true A B e h = absurd (cc)
    opened false A B e h = h

-- the run has ended
pub step-ended : (core : CoreData) (q : Record) → Going core.plan core.starts core.endpoints core.boot core.offer core.drain core.connections q
    → is_on core.end ≡ false → core.end ≡ end_of core.plan core.boot → EndedSo core.plan q → StepRight core q core.end
step-ended core q going off end so = record {
  stands = record {
    drain = λ e. going.drain;
    offer = λ e. going.offer;
    starts = going.starts;
    boot = going.boot;
    endpoints = λ e. going.ends;
    failed = are-failed core.plan core.endpoints q going.ends;
    came = going.ends.came_are;
    closed = λ e. absurd (let unserved = served-not core.plan core.boot core.end end in cc);
    connections = λ e. going.connections;
    uncut = λ e. absurd (let unserved = served-not core.plan core.boot core.end end in cc);
    after_boot = going.entries.after_boot;
    started_due = going.started_due;
    begun_is = going.begun_is;
    runs = going.runs;
    settled = λ e. absurd (cc);
    end_is = end ∙ sym (end-same core.plan core.starts core.endpoints core.boot core.offer core.drain core.connections q going so.may_end.unpassed);
  };
  right = right-of core.plan core.starts core.endpoints core.boot core.offer core.drain core.connections q going so.may_end.unpassed so.may_end.asks
      (ended (has_ended core.plan q) (EndedRight core.plan q) (OpenRight core.plan q)
      (ended-same core.plan core.starts core.endpoints core.boot core.offer core.drain core.connections q going so.may_end.unpassed
      ∙ ended-end core.plan core.boot (sym (ap is_on end) ∙ off)) so.ended) so.tested;
  answer = end ∙ sym (end-same core.plan core.starts core.endpoints core.boot core.offer core.drain core.connections q going so.may_end.unpassed);
}
  where
    ended : (c : Bool) (A B : Type 0) → c ≡ true → A → MatchBool c A B
    ended true A B e h = h
    ended false A B e h = absurd (cc)
