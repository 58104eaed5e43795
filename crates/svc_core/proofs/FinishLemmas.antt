-- The stages of a step: bootstrapping is completed, services are visited, the server runs, and a handover is tried for again.
use Rattle.std.proofs.Common.{ℕ, Bool, true, false, ◌||◌, ◌&&◌, not, inl, inr, List, [], ◌∷◌, ◌++◌, ◌≡◌, refl, ap, sym, ◌∙◌, subst, arith, length, if◌then◌else◌, MatchBool, append-nil, append_assoc}
use Rattle.std.specs.Bool.{OnTrue}
use Rattle.std.specs.Prelude.{Option}
use Rattle.std.proofs.lemmas.Bool.{and_parts, eq-eqb, or_from, cases_Bool}
use Rattle.svc_record.specs.declared.plan.Plan.{Plan}
use Rattle.svc_record.specs.declared.action.Action.{Action}
use Rattle.svc_record.specs.declared.action.Action.TheVariants.{Phase, TryReceive}
use Rattle.svc_record.specs.declared.action.ExecutionPhase.TheVariants.{Running, BootstrapComplete}
use Rattle.svc_record.specs.declared.action.StepEnd.{StepEnd}
use Rattle.svc_record.specs.declared.action.StepEnd.TheVariants.{Tested}
use Rattle.svc_record.specs.Record.{Record, now, tell, last_step}
use Rattle.svc_record.specs.Right.{is_quiet}
use Rattle.svc_record.specs.Told.{Tells}
use Rattle.svc_record.specs.Validity.{IsInOrder, IsStartupOrder}
use Rattle.svc_record.proofs.Closing.{tell-append}
use Rattle.svc_endpoints.specs.EndpointsData.{EndpointsData}
use Rattle.svc_endpoints.specs.EndpointsState.{EndpointsStand}
use Rattle.svc_endpoints.proofs.EventLemmas.{stands-told}
use Rattle.svc_boot.specs.declared.receiving.Receiving.{Receiving}
use Rattle.svc_boot.specs.declared.receiving.Receiving.TheVariants.{Unasked, Trying, Missed, Came, Refused}
use Rattle.svc_boot.specs.declared.fork.Fork.{Fork}
use Rattle.svc_boot.specs.declared.fork.Fork.TheVariants.{Unforked, Asked, Child, Waiting, Over}
use Rattle.svc_boot.specs.BootData.{BootData}
use Rattle.svc_boot.specs.ForkState.{is_forked, is_parent_over, may_run}
use Rattle.svc_boot.specs.BootState.{BootStands, is_refused, is_through, is_due_in, has_come, is_tried}
use Rattle.svc_boot.specs.BootEffects.{end_of, early_end, refusal_of, is_complete_due, completed_if, complete_told, tried_if, try_told}
use Rattle.svc_boot.specs.BootFacts.{IsBootSettled}
use Rattle.svc_boot.proofs.Foreign.{stands-running}
use Rattle.svc_boot.proofs.Settled.{free-forked, free-on, free-end}
use Rattle.svc_fds.specs.declared.encoding.Message.{Message}
use Rattle.svc_offer.specs.OfferState.{over_since, is_send_due}
use Rattle.svc_offer.specs.OfferFacts.{has_no_offer_action}
use Rattle.svc_offer.proofs.Foreign as offers
use Rattle.svc_drain.specs.DrainData.{DrainData}
use Rattle.svc_drain.specs.DrainState.{DrainStands}
use Rattle.svc_drain.specs.DrainEffects.{run, run_told}
use Rattle.svc_connections.specs.ConnectionsFacts.{has_no_connection_action}
use Rattle.svc_connections.proofs.Foreign as sockets
use Rattle.svc_core.specs.StartsData.{StartsData}
use Rattle.svc_core.specs.CoreData.{CoreData, is_on, with_end}
use Rattle.svc_core.specs.Passes.{Going, IsBootRipe, VisitedUpTo, TestedAt, Passes, AreStarted, is_tested, may_start}
use Rattle.svc_core.specs.Stands.{AfterEvent, AfterBootstrap, AfterPass, AfterRetry, StepRight, Follows, EndedSo, HasCopy}
use Rattle.svc_core.proofs.RecordLemmas.{to_true, not_true, on_false}
use Rattle.svc_core.proofs.GoingLemmas.{base-of, base-tell, loose-of, loose-tell, may-tell, going-from, are_free, are_loose, begun-frees, begun-tell}
use Rattle.svc_core.proofs.PassLemmas.{may-free, may-complete}
use Rattle.svc_core.proofs.OpenLemmas.{step-ended, ended-end}
use Rattle.svc_core.proofs.TestedLemmas.{tested-so}

-- a run that goes on, by the part on bootstrapping
pub on-by : (p : Plan) (b : BootData) → is_tested p b ≡ false → is_refused b.receiving ≡ false → is_parent_over b.fork ≡ false → is_on (end_of p b) ≡ true
on-by p b untested goes alive =
    ap (λ c. is_on (if c then Tested else early_end b.fork b.receiving)) untested ∙ ap is_on (free-end b.fork b.receiving alive) ∙ unrefused b.receiving goes
  where
    unrefused : (x : Receiving) → is_refused x ≡ false → is_on (refusal_of x) ≡ true
    unrefused (Refused reason) h = absurd (cc)
    unrefused Unasked h = refl
    unrefused Trying h = refl
    unrefused (Missed at) h = refl
    unrefused Came h = refl

-- the core with other parts
abbrev pub with_boot : BootData → CoreData → CoreData
with_boot b core = record core { boot = b }

abbrev pub with_pass : StartsData → EndpointsData → BootData → CoreData → CoreData
with_pass st d b core = record core { starts = st; endpoints = d; boot = b }

-- a run that goes on wasn't tested or refused, and isn't that of a parent which ends
pub on-end : (p : Plan) (b : BootData) → is_on (end_of p b) ≡ true
    → (is_tested p b ≡ false) × (is_refused b.receiving ≡ false) × (is_parent_over b.fork ≡ false)
on-end p b h = elim (cases_Bool (p.test && b.begun)) [
  | inl tested ↦ absurd (let off : is_on (end_of p b) ≡ false = rw tested refl in cc)
  | inr live ↦ (
      let goes = subst (λ c. is_on (if c then Tested else early_end b.fork b.receiving) ≡ true) live h in
      let alive = no-parent b.fork b.receiving goes in
      (live, unrefused b.receiving (sym (ap is_on (free-end b.fork b.receiving alive)) ∙ goes), alive))
]
  where
    no-parent : (f : Fork) (x : Receiving) → is_on (early_end f x) ≡ true → is_parent_over f ≡ false
    no-parent (Over status) x k = absurd (cc)
    no-parent Unforked x k = refl
    no-parent Asked x k = refl
    no-parent Child x k = refl
    no-parent (Waiting at) x k = refl

    unrefused : (x : Receiving) → is_on (refusal_of x) ≡ true → is_refused x ≡ false
    unrefused (Refused reason) k = absurd (cc)
    unrefused Unasked k = refl
    unrefused Trying k = refl
    unrefused (Missed at) k = refl
    unrefused Came k = refl

-- a message came by a try
pub come-tried : (x : Receiving) → has_come x ≡ true → is_tried x ≡ true
come-tried Came h = refl
come-tried Unasked h = absurd (cc)
come-tried Trying h = absurd (cc)
come-tried (Missed at) h = absurd (cc)
come-tried (Refused reason) h = absurd (cc)

-- completing
through_after : (c h t u b due : Bool) → (c ≡ true → ((b && not t) && (not u || h)) ≡ true) → due ≡ (h && not c) → (h ≡ true → ((b && not t) && u) ≡ true)
    → (u ≡ false → c ≡ ((b && not t) && (not u || h)))
    → (c || due) ≡ ((b && not t) && (not u || h))
through_after c h t u b due f e g k = grind (arith, f, g, k)

-- it was told where bootstrapping is complete
pub ripen : (core : CoreData) (copy : Option Message) (q : Record) (due : Bool) → due ≡ is_complete_due core.boot
    → ((r : Record) → may_run core.plan core.boot.fork ≡ true → BootStands core.plan core.boot r
    → BootStands core.plan (completed_if due core.boot) (tell r (complete_told due core.drain.moment)))
    → is_on (end_of core.plan core.boot) ≡ true → (core.plan.upgrade ≡ false → core.boot.complete ≡ is_through core.plan core.boot) → AfterEvent core copy q
    → AfterBootstrap (with_boot (completed_if due core.boot) core) copy (tell q (complete_told due core.drain.moment))
ripen core copy q due e stands on alone struck =
    let going = struck.going in
    let loose : are_loose (now q) (complete_told due core.drain.moment) ≡ true =
    subst (λ m. are_loose m (complete_told due core.drain.moment) ≡ true) going.drain.moment_is (told-loose due core.drain.moment) in
    record {
      going = going-from core.plan core.starts core.endpoints (completed_if due core.boot) core.offer core.drain core.connections
          (tell q (complete_told due core.drain.moment))
          (loose-tell core.plan core.starts core.offer core.drain core.connections q (complete_told due core.drain.moment) loose
          (loose-of core.plan core.starts core.endpoints core.boot core.offer core.drain core.connections q going))
          (told-ends due) (stands q struck.free going.boot)
          (begun-tell core.plan q (now q) (complete_told due core.drain.moment) loose ∙ going.begun_is)
          (λ r. may-more (may_run core.plan core.boot.fork) core.plan.eager core.boot.complete due (going.runs r));
      free = struck.free;
      quiet = λ none. told-quiet due e none;
      goes_on = on;
      ripe = record {
        goes_on = (on-end core.plan core.boot on).1;
        complete_is =
            through_after core.boot.complete (has_come core.boot.receiving) core.plan.test core.plan.upgrade core.boot.begun due going.boot.kept.through e
            (λ c. sym going.boot.kept.tried_is ∙ come-tried core.boot.receiving c) alone;
      };
      calm = elim struck.calm [
        | inl all ↦ inl (all-started due (e ∙ all.1) all.0)
        | inr may ↦ inr (may-tell core.plan (now q) q (complete_told due core.drain.moment) loose may)
      ];
      copied = struck.copied;
    }
  where
    told-loose : (c : Bool) (m : ℕ) → are_loose m (complete_told c m) ≡ true
    told-loose true m = rw (eq-eqb m m refl) refl
    told-loose false m = refl

    told-ends : (c : Bool) → EndpointsStand core.plan core.endpoints (tell q (complete_told c core.drain.moment))
    told-ends true = stands-told core.plan core.endpoints q (Phase BootstrapComplete core.drain.moment) refl struck.going.ends
    told-ends false = struck.going.ends

    may-more : (free eager complete more : Bool) → (free && (not eager || complete)) ≡ true → (free && (not eager || (complete || more))) ≡ true
    may-more free eager complete more h = grind arith

    all-started : (c : Bool) → c ≡ false → AreStarted core.plan q → AreStarted core.plan (tell q (complete_told c core.drain.moment))
    all-started true k all = absurd (cc)
    all-started false k all = all

    receives_begun : (b t u : Bool) → ((b && not t) && u) ≡ true → b ≡ true
    receives_begun b t u h = grind arith

    told-quiet : (c : Bool) → c ≡ is_complete_due core.boot → core.boot.begun ≡ false → is_quiet (last_step (tell q (complete_told c core.drain.moment))) ≡ true
    told-quiet true e none = absurd (
        let come = (and_parts (has_come core.boot.receiving) (not core.boot.complete) (sym e)).0 in
        let begun = receives_begun core.boot.begun core.plan.test core.plan.upgrade
        (sym struck.going.boot.kept.tried_is ∙ come-tried core.boot.receiving come) in
        cc)
    told-quiet false e none = struck.quiet none

-- the services are visited
pub start-up : (core : CoreData) (st : StartsData) (d : EndpointsData) (b : BootData) (before after : List Action) → may_start core.plan core.boot ≡ true
    → Passes core.plan core.order core.drain 0 (length core.order) core.starts st core.endpoints d core.boot b before after
    → Tells before after (λ told. (copy : Option Message) (q : Record) → AfterBootstrap core copy q → AfterPass (with_pass st d b core) copy (tell q told))
start-up core st d b before after may pass = record {
  told = pass.told;
  appended = pass.appended;
  kept = λ copy q ripe. (
      let none = on-end core.plan core.boot ripe.goes_on in
      let up = pass.kept core.offer core.connections q (record {
        going = ripe.going;
        may = may;
        ripe = ripe.ripe;
        visited = unvisited (is_tested core.plan core.boot) ((j : ℕ) × TestedAt core.plan core.order j q) (VisitedUpTo core.plan core.order 0 q) none.0
            (record { due_started = λ j lt. absurd (omega arith); right = λ none j lt. absurd (omega arith); late = λ j lt. absurd (omega arith) });
        quiet = ripe.quiet;
        calm = ripe.calm;
      }) in
      record {
        going = up.going;
        free = may-free core.plan b up.may;
        ripe = up.ripe;
        passed = to_true (may_start core.plan b)
            (MatchBool (is_tested core.plan b) ((k : ℕ) × TestedAt core.plan core.order k (tell q pass.told))
            (VisitedUpTo core.plan core.order (length core.order) (tell q pass.told))) up.visited;
        waits = λ off. absurd (let on = up.may in cc);
        copied = ripe.copied;
      });
}
  where
    unvisited : (c : Bool) (A B : Type 0) → c ≡ false → B → MatchBool c A B
    unvisited true A B e h = absurd (cc)
    unvisited false A B e h = h

-- none may start yet
pub start-none : (core : CoreData) (before : List Action) → may_start core.plan core.boot ≡ false
    → Tells before before (λ told. (copy : Option Message) (q : Record) → AfterBootstrap core copy q → AfterPass core copy (tell q told))
start-none core before off = record {
  told = [];
  appended = sym (append-nil before);
  kept = λ copy q ripe. record {
    going = ripe.going;
    free = ripe.free;
    ripe = ripe.ripe;
    passed = not_true (may_start core.plan core.boot) _ off;
    waits = λ e. (on-end core.plan core.boot ripe.goes_on).0;
    copied = ripe.copied;
  };
}

-- the run was tested: nothing more is told
pub go-ended : (core : CoreData) (copy : Option Message) (before : List Action) → IsStartupOrder core.plan core.order → IsInOrder core.plan core.order
    → is_on (end_of core.plan core.boot) ≡ false
    → Tells before before
    (λ told. (q : Record) → AfterPass core copy q → StepRight (with_end (end_of core.plan core.boot) core) (tell q told) (end_of core.plan core.boot))
go-ended core copy before least in_order off = record {
  told = [];
  appended = sym (append-nil before);
  kept = λ q visited. (
      let tested =
      is-tested (is_tested core.plan core.boot) (is_parent_over core.boot.fork || is_refused core.boot.receiving) (ended-end core.plan core.boot off)
      (or_from (is_parent_over core.boot.fork) (is_refused core.boot.receiving)
      (free-on core.plan core.boot q visited.going.boot visited.free) visited.ripe.goes_on) in
      let may = starts (may_start core.plan core.boot) (λ e. (let untested = visited.waits e in cc)) in
      let at = on-both (may_start core.plan core.boot) (is_tested core.plan core.boot) ((k : ℕ) × TestedAt core.plan core.order k q)
      (VisitedUpTo core.plan core.order (length core.order) q) may tested visited.passed in
      step-ended (with_end (end_of core.plan core.boot) core) q visited.going off refl
      (tested-so core.plan core.order least in_order core.starts core.endpoints core.boot core.offer core.drain core.connections q visited.going at.0 at.1
      visited.free tested visited.ripe.goes_on));
}
  where
    is-tested : (a b : Bool) → (a || b) ≡ true → b ≡ false → a ≡ true
    is-tested a b h k = grind arith

    starts : (c : Bool) → (c ≡ false → ⊥) → c ≡ true
    starts true f = refl
    starts false f = absurd (f refl)

    on-both : (c e : Bool) (A B : Type 0) → c ≡ true → e ≡ true → OnTrue c (MatchBool e A B) → A
    on-both true true A B h k x = x
    on-both true false A B h k x = absurd (cc)
    on-both false e A B h k x = absurd (cc)

-- the server runs, once
run-free : (c : Bool) (m : ℕ) → are_free m (if c then [] else Phase Running m ∷ []) ≡ true
run-free true m = refl
run-free false m = rw (eq-eqb m m refl) refl

run-unasked : (c : Bool) (m : ℕ) → has_no_offer_action (if c then [] else Phase Running m ∷ []) ≡ true
run-unasked true m = refl
run-unasked false m = refl

run-apart : (c : Bool) (m : ℕ) → has_no_connection_action (if c then [] else Phase Running m ∷ []) ≡ true
run-apart true m = refl
run-apart false m = refl

run-boot : (p : Plan) (b : BootData) (q : Record) (c : Bool) (m : ℕ) → may_start p b ≡ true → BootStands p b q
    → BootStands p b (tell q (if c then [] else Phase Running m ∷ []))
run-boot p b q true m may h = h
run-boot p b q false m may h = stands-running p b q m (may-complete p b may) (may-free p b may) h

run-ends : (p : Plan) (d : EndpointsData) (q : Record) (c : Bool) (m : ℕ) → EndpointsStand p d q
    → EndpointsStand p d (tell q (if c then [] else Phase Running m ∷ []))
run-ends p d q true m h = h
run-ends p d q false m h = stands-told p d q (Phase Running m) refl h

run-going : (core : CoreData) (q : Record) → may_start core.plan core.boot ≡ true
    → ((p : Plan) (over : Option ℕ) (r : Record) → DrainStands p core.drain over r → DrainStands p (run core.drain) over (tell r (run_told core.drain)))
    → Going core.plan core.starts core.endpoints core.boot core.offer core.drain core.connections q
    → Going core.plan core.starts core.endpoints core.boot core.offer (run core.drain) core.connections (tell q (run_told core.drain))
run-going core q may runs going =
    let free : are_free (now q) (run_told core.drain) ≡ true =
    subst (λ m. are_free m (run_told core.drain) ≡ true) going.drain.moment_is (run-free core.drain.running core.drain.moment) in
    going-from core.plan core.starts core.endpoints core.boot core.offer (run core.drain) core.connections (tell q (run_told core.drain))
    (record {
      base = base-tell core.plan core.starts q (run_told core.drain) free
          (base-of core.plan core.starts core.endpoints core.boot core.offer core.drain core.connections q going);
      drain = runs core.plan (over_since core.offer.state) q going.drain;
      offer = offers.stands-tell core.plan core.offer q (run_told core.drain) (run-unasked core.drain.running core.drain.moment) going.offer;
      connections = sockets.stands-tell core.plan core.connections q (run_told core.drain) (run-apart core.drain.running core.drain.moment) going.connections;
    })
    (run-ends core.plan core.endpoints q core.drain.running core.drain.moment going.ends)
    (run-boot core.plan core.boot q core.drain.running core.drain.moment may going.boot)
    (begun-frees core.plan q (now q) (run_told core.drain) free ∙ going.begun_is)
    (λ r. may)

run-visited : (p : Plan) (order : List ℕ) (k : ℕ) (q : Record) (dr : DrainData) → VisitedUpTo p order k q → VisitedUpTo p order k (tell q (run_told dr))
run-visited p order k q dr h = by dr.running
  where
    by : (c : Bool) → VisitedUpTo p order k (tell q (if c then [] else Phase Running dr.moment ∷ []))
    by true = h
    by false = record {
      due_started = λ j lt due. h.due_started j lt due;
      right = λ none j lt i within. h.right none j lt i within;
      late = λ j lt i within. h.late j lt i within;
    }

-- a handover is tried for again, and the step is done
try-visited : (p : Plan) (order : List ℕ) (k : ℕ) (q : Record) (due : Bool) → VisitedUpTo p order k q → VisitedUpTo p order k (tell q (try_told due))
try-visited p order k q true h =
    record {
      due_started = λ j lt due. h.due_started j lt due;
      right = λ none j lt i within. h.right none j lt i within;
      late = λ j lt i within. h.late j lt i within;
    }
try-visited p order k q false h = h

settled-by : (p : Plan) (b : BootData) (m : ℕ) (due : Bool) → due ≡ is_due_in b.receiving m → is_forked b.fork ≡ p.daemon → is_parent_over b.fork ≡ false
    → IsBootRipe p b → IsBootSettled p (tried_if due b) m
settled-by p b m due e forks alive ripe = record {
  forked_is = forks;
  no_parent_over = alive;
  goes_on = goes due;
  no_try_due = over due e;
  complete_is = ripe.complete_is ∙ ap (λ h. (b.begun && not p.test) && (not p.upgrade || h)) (same due e);
}
  where
    goes : (c : Bool) → is_refused (if c then Trying else b.receiving) ≡ false
    goes true = refl
    goes false = ripe.goes_on

    over : (c : Bool) → c ≡ is_due_in b.receiving m → is_due_in (if c then Trying else b.receiving) m ≡ false
    over true k = refl
    over false k = sym k

    missed : (x : Receiving) → is_due_in x m ≡ true → has_come x ≡ false
    missed (Missed at) k = refl
    missed Unasked k = absurd (cc)
    missed Trying k = absurd (cc)
    missed Came k = absurd (cc)
    missed (Refused reason) k = absurd (cc)

    same : (c : Bool) → c ≡ is_due_in b.receiving m → has_come b.receiving ≡ has_come (if c then Trying else b.receiving)
    same true k = missed b.receiving (sym k)
    same false k = refl

-- what is left of a step, where services may start or not
module _ (core : CoreData) (in_order : IsInOrder core.plan core.order) (on : is_on (end_of core.plan core.boot) ≡ true) (due : Bool)
    (due_is : due ≡ is_due_in core.boot.receiving core.drain.moment) (dr : DrainData) (same_moment : dr.moment ≡ core.drain.moment)
    (stands : (q : Record) → core.drain.moment ≡ now q → may_run core.plan core.boot.fork ≡ true → BootStands core.plan core.boot q
    → BootStands core.plan (tried_if due core.boot) (tell q (try_told due))) where
  tries-loose : (m : ℕ) (c : Bool) → are_loose m (try_told c) ≡ true
  tries-loose m true = refl
  tries-loose m false = refl

  tries-ends : (q : Record) (c : Bool) → EndpointsStand core.plan core.endpoints q → EndpointsStand core.plan core.endpoints (tell q (try_told c))
  tries-ends q true h = stands-told core.plan core.endpoints q TryReceive refl h
  tries-ends q false h = h

  end-kept : (c : Bool) → c ≡ is_due_in core.boot.receiving core.drain.moment → end_of core.plan core.boot ≡ end_of core.plan (tried_if c core.boot)
  end-kept true k = ap (λ x. if core.plan.test && core.boot.begun then Tested else x) (missed-on core.boot.receiving (sym k))
    where
      missed-on : (x : Receiving) → is_due_in x core.drain.moment ≡ true → early_end core.boot.fork x ≡ early_end core.boot.fork Trying
      missed-on (Missed at) h =
          free-end core.boot.fork (Missed at) (on-end core.plan core.boot on).2 ∙ sym (free-end core.boot.fork Trying (on-end core.plan core.boot on).2)
      missed-on Unasked h = absurd (cc)
      missed-on Trying h = absurd (cc)
      missed-on Came h = absurd (cc)
      missed-on (Refused reason) h = absurd (cc)
  end-kept false k = refl

  pub settle : (copy : Option Message) (q : Record) → Going core.plan core.starts core.endpoints core.boot core.offer dr core.connections q
      → may_run core.plan core.boot.fork ≡ true → IsBootRipe core.plan core.boot
      → OnTrue (may_start core.plan core.boot) (VisitedUpTo core.plan core.order (length core.order) q) → dr.running ≡ may_start core.plan core.boot
      → HasCopy core copy
      → AfterRetry (record core { boot = tried_if due core.boot; drain = dr; end = end_of core.plan core.boot }) copy (tell q (try_told due))
  settle copy q going free ripe visited runs copied = record {
    going = going-from core.plan core.starts core.endpoints (tried_if due core.boot) core.offer dr core.connections (tell q (try_told due))
        (loose-tell core.plan core.starts core.offer dr core.connections q (try_told due) (tries-loose (now q) due)
        (loose-of core.plan core.starts core.endpoints core.boot core.offer dr core.connections q going))
        (tries-ends q due going.ends) (stands q (sym same_moment ∙ going.drain.moment_is) free going.boot)
        (begun-tell core.plan q (now q) (try_told due) (tries-loose (now q) due) ∙ going.begun_is) going.runs;
    free = free;
    settled = subst (IsBootSettled core.plan (tried_if due core.boot)) (sym same_moment)
        (settled-by core.plan core.boot core.drain.moment due due_is (free-forked core.plan core.boot q going.boot free)
        (free-on core.plan core.boot q going.boot free) ripe);
    untested = (on-end core.plan core.boot on).0;
    visited = map-on (may_start core.plan core.boot) (VisitedUpTo core.plan core.order (length core.order) q)
        (VisitedUpTo core.plan core.order (length core.order) (tell q (try_told due)))
        (try-visited core.plan core.order (length core.order) q due) visited;
    runs_now = runs;
    on = on;
    end_is = end-kept due due_is;
    copied = subst (λ m. is_send_due core.offer.state m ≡ true → copy ≡ core.offer.message) (sym same_moment) copied;
  }
    where
      map-on : (c : Bool) (A B : Type 0) → (A → B) → OnTrue c A → OnTrue c B
      map-on true A B f x = f x
      map-on false A B f x = tt

untested-visited : (c : Bool) (A B : Type 0) → c ≡ false → MatchBool c A B → B
untested-visited true A B e h = absurd (cc)
untested-visited false A B e h = h

-- the server runs
pub go-on : (core : CoreData) (copy : Option Message) (before mid after : List Action) → IsInOrder core.plan core.order
    → is_on (end_of core.plan core.boot) ≡ true → may_start core.plan core.boot ≡ true
    → ((p : Plan) (over : Option ℕ) (r : Record) → DrainStands p core.drain over r → DrainStands p (run core.drain) over (tell r (run_told core.drain)))
    → mid ≡ before ++ run_told core.drain → (due : Bool) → due ≡ is_due_in core.boot.receiving core.drain.moment → after ≡ mid ++ try_told due
    → ((q : Record) → core.drain.moment ≡ now q → may_run core.plan core.boot.fork ≡ true → BootStands core.plan core.boot q
    → BootStands core.plan (tried_if due core.boot) (tell q (try_told due)))
    → Tells before after (λ told. (q : Record) → AfterPass core copy q
    → AfterRetry (record core { boot = tried_if due core.boot; drain = run core.drain; end = end_of core.plan core.boot }) copy (tell q told))
go-on core copy before mid after in_order on may runs first due due_is next stands = record {
  told = run_told core.drain ++ try_told due;
  appended = next ∙ ap (λ w. w ++ try_told due) first ∙ append_assoc before (run_told core.drain) (try_told due);
  kept = λ q visited.
      subst (λ r. AfterRetry
      (record core { boot = tried_if due core.boot; drain = run core.drain; end = end_of core.plan core.boot }) copy r)
      (sym (tell-append q (run_told core.drain) (try_told due)))
      (settle core in_order on due due_is (run core.drain) refl stands copy (tell q (run_told core.drain))
      (run-going core q may runs visited.going) visited.free visited.ripe
      (to_true (may_start core.plan core.boot) (VisitedUpTo core.plan core.order (length core.order) (tell q (run_told core.drain)))
      (run-visited core.plan core.order (length core.order) q core.drain
      (untested-visited (is_tested core.plan core.boot) ((k : ℕ) × TestedAt core.plan core.order k q) (VisitedUpTo core.plan core.order (length core.order) q)
      (on-end core.plan core.boot on).0
      (on-this (may_start core.plan core.boot)
      (MatchBool (is_tested core.plan core.boot) ((k : ℕ) × TestedAt core.plan core.order k q) (VisitedUpTo core.plan core.order (length core.order) q)) may
      visited.passed))))
      (sym may) visited.copied);
}
  where
    on-this : (c : Bool) (A : Type 0) → c ≡ true → OnTrue c A → A
    on-this true A e h = h
    on-this false A e h = absurd (cc)

-- it doesn't yet
pub go-waiting : (core : CoreData) (copy : Option Message) (before after : List Action) → IsInOrder core.plan core.order
    → is_on (end_of core.plan core.boot) ≡ true → may_start core.plan core.boot ≡ false
    → (due : Bool) → due ≡ is_due_in core.boot.receiving core.drain.moment → after ≡ before ++ try_told due
    → ((q : Record) → core.drain.moment ≡ now q → may_run core.plan core.boot.fork ≡ true → BootStands core.plan core.boot q
    → BootStands core.plan (tried_if due core.boot) (tell q (try_told due)))
    → Tells before after (λ told. (q : Record) → AfterPass core copy q
    → AfterRetry (record core { boot = tried_if due core.boot; end = end_of core.plan core.boot }) copy (tell q told))
go-waiting core copy before after in_order on off due due_is told stands = record {
  told = try_told due;
  appended = told;
  kept = λ q visited.
      settle core in_order on due due_is core.drain refl stands copy q visited.going visited.free visited.ripe (not_true (may_start core.plan core.boot) _ off)
      (idle core.drain.running (may_start core.plan core.boot) off visited.going.runs) visited.copied;
}
  where
    idle : (r m : Bool) → m ≡ false → (r ≡ true → m ≡ true) → r ≡ m
    idle true m e f = sym (f refl)
    idle false m e f = sym e

-- nothing follows where the event ended the run
pub follows-ended : (core : CoreData) (copy : Option Message) (before : List Action) → is_on (end_of core.plan core.boot) ≡ false
    → Follows core (with_end (end_of core.plan core.boot) core) copy before before (end_of core.plan core.boot)
follows-ended core copy before off = record {
  told = [];
  appended = sym (append-nil before);
  kept = λ q struck. step-ended (with_end (end_of core.plan core.boot) core) q struck.going off refl
      (on_false (is_on (end_of core.plan core.boot)) (EndedSo core.plan q) off struck.ended);
}

-- the stages one after the other
pub follows-on : (core ripe_core visited_core new : CoreData) (copy : Option Message) (before mid passed after : List Action) (end : StepEnd) (due : Bool)
    → due ≡ is_complete_due core.boot → mid ≡ before ++ complete_told due core.drain.moment
    → ((r : Record) → may_run core.plan core.boot.fork ≡ true → BootStands core.plan core.boot r
    → BootStands core.plan (completed_if due core.boot) (tell r (complete_told due core.drain.moment)))
    → is_on (end_of core.plan core.boot) ≡ true → ripe_core ≡ with_boot (completed_if due core.boot) core
    → Tells mid passed (λ told. (copy : Option Message) (q : Record) → AfterBootstrap ripe_core copy q → AfterPass visited_core copy (tell q told))
    → Tells passed after (λ told. (q : Record) → AfterPass visited_core copy q → StepRight new (tell q told) end)
    → Follows core new copy before after end
follows-on core ripe_core visited_core new copy before mid passed after end due due_is first stands on same starts goes = record {
  told = complete_told due core.drain.moment ++ (starts.told ++ goes.told);
  appended = goes.appended ∙ ap (λ w. w ++ goes.told) (starts.appended ∙ ap (λ w. w ++ starts.told) first)
      ∙ append_assoc (before ++ complete_told due core.drain.moment) starts.told goes.told
      ∙ append_assoc before (complete_told due core.drain.moment) (starts.told ++ goes.told);
  kept = λ q struck.
      subst (λ r. StepRight new r end)
      (sym (tell-append q (complete_told due core.drain.moment) (starts.told ++ goes.told)
      ∙ tell-append (tell q (complete_told due core.drain.moment)) starts.told goes.told))
      (goes.kept (tell (tell q (complete_told due core.drain.moment)) starts.told)
      (starts.kept copy (tell q (complete_told due core.drain.moment))
      (subst (λ c. AfterBootstrap c copy (tell q (complete_told due core.drain.moment))) (sym same)
      (ripen core copy q due due_is stands on struck.alone struck))));
}

-- the same with what the calls gave
pub go-ended-at : (core : CoreData) (copy : Option Message) (end : StepEnd) (before : List Action) → end ≡ end_of core.plan core.boot
    → IsStartupOrder core.plan core.order → IsInOrder core.plan core.order → is_on end ≡ false
    → Tells before before (λ told. (q : Record) → AfterPass core copy q → StepRight (with_end end core) (tell q told) end)
go-ended-at core copy end before same least in_order off =
    subst (λ e. Tells before before (λ told. (q : Record) → AfterPass core copy q → StepRight (with_end e core) (tell q told) e)) (sym same)
    (go-ended core copy before least in_order (sym (ap is_on same) ∙ off))

-- and then what is told of the offer and of the signal
pub go-then : (core mid_core new : CoreData) (copy : Option Message) (before mid after : List Action) (end : StepEnd)
    → Tells before mid (λ told. (q : Record) → AfterPass core copy q → AfterRetry mid_core copy (tell q told))
    → Tells mid after (λ told. (q : Record) → AfterRetry mid_core copy q → StepRight new (tell q told) end)
    → Tells before after (λ told. (q : Record) → AfterPass core copy q → StepRight new (tell q told) end)
go-then core mid_core new copy before mid after end first next = record {
  told = first.told ++ next.told;
  appended = next.appended ∙ ap (λ w. w ++ next.told) first.appended ∙ append_assoc before first.told next.told;
  kept = λ q visited. subst (λ r. StepRight new r end) (sym (tell-append q first.told next.told)) (next.kept (tell q first.told) (first.kept q visited));
}

pub go-on-at : (core : CoreData) (copy : Option Message) (end : StepEnd) (b : BootData) (dr : DrainData) (before mid after : List Action) (due : Bool)
    → end ≡ end_of core.plan core.boot → b ≡ tried_if due core.boot → dr ≡ run core.drain
    → IsInOrder core.plan core.order → is_on end ≡ true → may_start core.plan core.boot ≡ true
    → ((p : Plan) (over : Option ℕ) (r : Record) → DrainStands p core.drain over r → DrainStands p dr over (tell r (run_told core.drain)))
    → mid ≡ before ++ run_told core.drain → due ≡ is_due_in core.boot.receiving core.drain.moment → after ≡ mid ++ try_told due
    → ((q : Record) → core.drain.moment ≡ now q → may_run core.plan core.boot.fork ≡ true → BootStands core.plan core.boot q
    → BootStands core.plan b (tell q (try_told due)))
    → Tells before after (λ told. (q : Record) → AfterPass core copy q
    → AfterRetry (record core { boot = b; drain = dr; end = end }) copy (tell q told))
go-on-at core copy end b dr before mid after due same boots drains in_order on may runs first due_is next stands =
    rw (same, boots, drains)
    (go-on core copy before mid after in_order (sym (ap is_on same) ∙ on) may (rw drains at runs) first due due_is next (rw boots at stands))

pub go-waiting-at : (core : CoreData) (copy : Option Message) (end : StepEnd) (b : BootData) (before after : List Action) (due : Bool)
    → end ≡ end_of core.plan core.boot → b ≡ tried_if due core.boot
    → IsInOrder core.plan core.order → is_on end ≡ true → may_start core.plan core.boot ≡ false
    → due ≡ is_due_in core.boot.receiving core.drain.moment → after ≡ before ++ try_told due
    → ((q : Record) → core.drain.moment ≡ now q → may_run core.plan core.boot.fork ≡ true → BootStands core.plan core.boot q
    → BootStands core.plan b (tell q (try_told due)))
    → Tells before after (λ told. (q : Record) → AfterPass core copy q
    → AfterRetry (record core { boot = b; end = end }) copy (tell q told))
go-waiting-at core copy end b before after due same boots in_order on off due_is told stands =
    rw (same, boots) (go-waiting core copy before after in_order (sym (ap is_on same) ∙ on) off due due_is told (rw boots at stands))

pub follows-ended-at : (core : CoreData) (copy : Option Message) (end : StepEnd) (before : List Action) → end ≡ end_of core.plan core.boot → is_on end ≡ false
    → Follows core (with_end end core) copy before before end
follows-ended-at core copy end before same off =
    subst (λ e. Follows core (with_end e core) copy before before e) (sym same) (follows-ended core copy before (sym (ap is_on same) ∙ off))

pub follows-on-at : (core ripe_core visited_core new : CoreData) (copy : Option Message) (held end : StepEnd) (b : BootData)
    (before mid passed after : List Action) (due : Bool)
    → held ≡ end_of core.plan core.boot → is_on held ≡ true → due ≡ is_complete_due core.boot → b ≡ completed_if due core.boot
    → mid ≡ before ++ complete_told due core.drain.moment
    → ((r : Record) → may_run core.plan core.boot.fork ≡ true → BootStands core.plan core.boot r
    → BootStands core.plan b (tell r (complete_told due core.drain.moment)))
    → ripe_core ≡ record core { boot = b; end = held }
    → Tells mid passed (λ told. (copy : Option Message) (q : Record) → AfterBootstrap ripe_core copy q → AfterPass visited_core copy (tell q told))
    → Tells passed after (λ told. (q : Record) → AfterPass visited_core copy q → StepRight new (tell q told) end)
    → Follows core new copy before after end
follows-on-at core ripe_core visited_core new copy held end b before mid passed after due same on due_is boots first stands ripe starts goes =
    let follows =
    follows-on (with_end held core) ripe_core visited_core new copy before mid passed after end due due_is first (rw boots at stands)
    (sym (ap is_on same) ∙ on)
    (ripe ∙ ap (λ (x : BootData).
    record core { boot = x; end = held }) boots) starts goes in
    record {
      told = follows.told;
      appended = follows.appended;
      kept = λ q struck. follows.kept q
          (record {
            going = struck.going;
            free = struck.free;
            quiet = struck.quiet;
            alone = struck.alone;
            ended = struck.ended;
            calm = struck.calm;
            copied = struck.copied;
          });
    }
