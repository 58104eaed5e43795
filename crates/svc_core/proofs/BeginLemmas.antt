-- The first step, and how a server's run begins in it or after a fork.
use Rattle.std.proofs.Common.{ℕ, Bool, true, false, ◌||◌, ◌&&◌, ◌==◌, not, inl, inr, List, [], ◌∷◌, ◌++◌, ◌≡◌, refl, ap, sym, ◌∙◌, subst, append_assoc, arith}
use Rattle.std.specs.Prelude.{None}
use Rattle.std.specs.Bool.{OnFalse}
use Rattle.std.specs.List.{list_any}
use Rattle.std.proofs.lemmas.Bool.{and_from, eq-eqb, or_from, cases_Bool}
use Rattle.svc_graph.specs.declared.plan.Kind.TheVariants.{Bootstrap as BootstrapKind}
use Rattle.svc_record.specs.declared.plan.Plan.{Plan}
use Rattle.svc_record.specs.declared.action.Action.{Action}
use Rattle.svc_record.specs.declared.action.StepEnd.{StepEnd}
use Rattle.svc_record.specs.Plans.{services, has_kind}
use Rattle.svc_record.specs.Record.{Record, now, tell, last_step}
use Rattle.svc_record.specs.Right.{is_quiet, is_test_step}
use Rattle.svc_record.specs.Ends.{ends_tested, has_ended_early, TestedRight}
use Rattle.svc_record.proofs.Closing.{tell-append}
use Rattle.svc_boot.specs.BootData.{BootData}
use Rattle.svc_boot.specs.ForkState.{may_run, is_parent_over}
use Rattle.svc_boot.specs.BootState.{BootStands, is_refused, is_through, has_come, is_tried}
use Rattle.svc_boot.specs.declared.receiving.Receiving.{Receiving}
use Rattle.svc_boot.specs.declared.receiving.Receiving.TheVariants.{Unasked, Trying, Missed, Came, Refused}
use Rattle.svc_boot.specs.BootEffects.{end_of, begin_told, begun_by, is_early}
use Rattle.svc_boot.proofs.BootEnds.{tested-is, early-is}
use Rattle.svc_boot.proofs.Settled.{fork-begin, free-on}
use Rattle.svc_boot.proofs.Begun.{may_begin-is}
use Rattle.svc_drain.specs.DrainState.{DrainStands}
use Rattle.svc_core.specs.CoreData.{CoreData, is_on}
use Rattle.svc_core.specs.Passes.{Going, IsBootRipe, MayEnd}
use Rattle.svc_core.specs.Stands.{HasNotBegun, MayBootstrap, Bootstraps, AfterEvent, EndedSo, StepRight, BeginKeeps, Follows}
use Rattle.svc_core.proofs.RecordLemmas.{to_false, to_true, not_true, not_false}
use Rattle.svc_core.proofs.GoingLemmas.{Loose, loose-tell, may-tell, going-from, are_loose, begun-tell}
use Rattle.svc_core.proofs.PassLemmas.{begin-loose, begin-ends, begun-now, ripe-begun, tested-told}
use Rattle.svc_core.proofs.FinishLemmas.{with_boot, on-by}

pub none-started : (p : Plan) (xs : List ℕ) → list_any (λ s. has_kind p BootstrapKind s && false) xs ≡ false
none-started p [] = refl
none-started p (x ∷ xs) = rw (none-started p xs) (and_none (has_kind p BootstrapKind x))
  where
    and_none : (b : Bool) → ((b && false) || false) ≡ false
    and_none b = grind arith

-- nothing was got or told yet, and the server is no daemon
pub first-may : (core : CoreData) → HasNotBegun core → core.plan.daemon ≡ false → MayBootstrap core []
first-may core first none = record {
  drain = subst (λ over. DrainStands core.plan core.drain over []) (sym first.unoffered) first.drain;
  offer = first.offer;
  connections = first.connections;
  starts = first.starts;
  ends = first.ends;
  boot = first.boot;
  entries = record { fits = tt; starts = tt; after_boot = tt; moments = tt; known_starts = tt };
  started_due = λ s lt here. absurd (cc);
  no_end = refl;
  earlier = tt;
  fails = tt;
  asks = tt;
  free = rw none refl;
  begins = rw (none, none-started core.plan (services core.plan)) (begins_by core.plan.eager);
  unbegun = first.unbegun;
  idle = first.idle;
  silent = refl;
  may_end = record { unpassed = refl; asks = refl };
  unasked = first.unasked;
}
  where
    begins_by : (eager : Bool) → ((eager && true) || false) ≡ eager
    begins_by eager = grind arith

through-none : (begun t u h : Bool) → begun ≡ false → ((begun && not t) && (not u || h)) ≡ false
through-none begun t u h e = grind arith

untried : (begun t u : Bool) → begun ≡ false → ((begun && not t) && u) ≡ false
untried begun t u e = grind arith

untried-goes : (x : Receiving) → is_tried x ≡ false → is_refused x ≡ false
untried-goes Unasked h = refl
untried-goes Trying h = refl
untried-goes (Missed at) h = refl
untried-goes Came h = refl
untried-goes (Refused reason) h = absurd (cc)

untested : (t begun : Bool) → begun ≡ false → (t && begun) ≡ false
untested t begun e = grind arith

-- a server's run may begin
module _ (core : CoreData) (q : Record) (may : MayBootstrap core q) where
  loose : Loose core.plan core.starts core.offer core.drain core.connections q
  loose = record {
    base = record {
      starts = may.starts;
      entries = may.entries;
      started_due = may.started_due;
      no_end = may.no_end;
      earlier = may.earlier;
      fails = may.fails;
      asks = may.asks;
    };
    drain = may.drain;
    offer = may.offer;
    connections = may.connections;
  }

  -- nothing was received yet, and bootstrapping isn't complete
  incomplete : core.boot.complete ≡ false
  incomplete = elim (cases_Bool core.boot.complete) [
    | inl complete ↦
        absurd (let through = may.boot.kept.through complete in
        let none = through-none core.boot.begun core.plan.test core.plan.upgrade (has_come core.boot.receiving) may.unbegun in cc)
    | inr fails ↦ fails
  ]

  alone : core.boot.complete ≡ is_through core.plan core.boot
  alone = incomplete ∙ sym (through-none core.boot.begun core.plan.test core.plan.upgrade (has_come core.boot.receiving) may.unbegun)

  unrefused : is_refused core.boot.receiving ≡ false
  unrefused = untried-goes core.boot.receiving (may.boot.kept.tried_is ∙ untried core.boot.begun core.plan.test core.plan.upgrade may.unbegun)

  early-none : is_early core.boot ≡ false
  early-none = or_from (is_parent_over core.boot.fork) (is_refused core.boot.receiving) (free-on core.plan core.boot q may.boot may.free) unrefused

  unended : ends_tested core.plan q ≡ false
  unended = tested-is core.plan core.boot q may.boot ∙ untested core.plan.test core.boot.begun may.unbegun

  -- bootstrapping doesn't come first
  strike-plain : core.plan.eager ≡ false → AfterEvent core None q
  strike-plain late = record {
    going = going-from core.plan core.starts core.endpoints core.boot core.offer core.drain core.connections q loose may.ends may.boot
        (may.begins ∙ late ∙ sym may.unbegun) (λ r. absurd (let idle = may.idle in cc));
    free = may.free;
    quiet = λ e. ap is_quiet may.silent;
    alone = λ e. alone;
    ended = to_false (is_on (end_of core.plan core.boot)) (EndedSo core.plan q) (record {
      ended = record {
        early = not_true (has_ended_early core.plan q) _ (early-is core.plan core.boot q may.boot ∙ early-none);
        tested = not_true (ends_tested core.plan q) _ unended;
      };
      tested = not_true (ends_tested core.plan q) (TestedRight core.plan q) unended;
      may_end = may.may_end;
    });
    calm = inr may.may_end;
    copied = λ due. absurd (let none = may.unasked in cc);
  }

  -- it does
  module _ (eager : core.plan.eager ≡ true)
      (stands : BootStands core.plan (begun_by core.plan core.boot) (tell q (begin_told core.plan core.boot core.drain.moment))) where
    abbrev begun : BootData
    begun = begun_by core.plan core.boot

    abbrev told : List Action
    told = begin_told core.plan core.boot core.drain.moment

    abbrev followed : Record
    followed = tell q (begin_told core.plan core.boot core.drain.moment)

    told-loose : are_loose (now q) told ≡ true
    told-loose =
        subst (λ m. are_loose m (begin_told core.plan core.boot core.drain.moment) ≡ true) may.drain.moment_is
        (begin-loose core.plan core.boot core.drain.moment)

    after-end : MayEnd core.plan followed
    after-end = may-tell core.plan (now q) q told told-loose may.may_end

    ripe : IsBootRipe core.plan begun
    ripe = ripe-begun core.plan core.boot may.unbegun (record { goes_on = unrefused; complete_is = alone })

    after-free : may_run core.plan (begun_by core.plan core.boot).fork ≡ true
    after-free = ap (may_run core.plan) (fork-begin core.plan core.boot) ∙ may.free

    after-alive : is_parent_over (begun_by core.plan core.boot).fork ≡ false
    after-alive = free-on core.plan begun followed stands after-free

    going : Going core.plan core.starts core.endpoints begun core.offer core.drain core.connections followed
    going = going-from core.plan core.starts core.endpoints begun core.offer core.drain core.connections followed
        (loose-tell core.plan core.starts core.offer core.drain core.connections q told told-loose loose)
        (begin-ends core.plan core.endpoints core.boot core.drain.moment q may.ends) stands
        (begun-tell core.plan q (now q) told told-loose ∙ may.begins ∙ eager ∙ sym (begun-now core.plan core.boot may.unbegun))
        (λ r. absurd (let idle = may.idle in cc))

    -- with `test` that is all
    test-last : core.plan.test ≡ true → is_test_step (now followed) (last_step followed) ≡ true
    test-last e =
        subst (λ told. is_test_step (now (tell q told)) (last_step (tell q told)) ≡ true)
        (sym (tested-told core.plan core.boot core.drain.moment may.unbegun e))
        (and_from (core.drain.moment == now q) (is_quiet (last_step q)) (eq-eqb core.drain.moment (now q) may.drain.moment_is) (ap is_quiet may.silent))

    tested-ended : core.plan.test ≡ true → EndedSo core.plan followed
    tested-ended e = record {
      ended = record {
        early = not_true (has_ended_early core.plan followed) _
            (early-is core.plan begun followed stands ∙ or_from (is_parent_over begun.fork) (is_refused begun.receiving) after-alive ripe.goes_on);
        tested = to_true (ends_tested core.plan followed) _ (test-last e, going.ends.closes);
      };
      tested = to_true (ends_tested core.plan followed) (TestedRight core.plan followed) (record {
        forked = may_begin-is core.plan begun followed stands ∙ after-free;
        begun = going.begun_is ∙ begun-now core.plan core.boot may.unbegun;
        in_turn = going.entries.after_boot;
        starts = not_false core.plan.eager _ eager;
        endpoints = not_false core.plan.eager _ eager;
      });
      may_end = after-end;
    }

    ended-by : (t : Bool) → core.plan.test ≡ t → OnFalse (is_on (end_of core.plan begun)) (EndedSo core.plan followed)
    ended-by true e = to_false (is_on (end_of core.plan begun)) (EndedSo core.plan followed) (tested-ended e)
    ended-by false e = not_false (is_on (end_of core.plan begun)) (EndedSo core.plan followed)
        (on-by core.plan begun (no_test core.plan.test begun.begun e) ripe.goes_on after-alive)
      where
        no_test : (t b : Bool) → t ≡ false → (t && b) ≡ false
        no_test t b h = grind arith

    strike-eager : AfterEvent (with_boot (begun_by core.plan core.boot) core) None followed
    strike-eager = record {
      going = going;
      free = after-free;
      quiet = λ e. absurd (let begun_now = begun-now core.plan core.boot may.unbegun in cc);
      alone = λ e. ripe.complete_is;
      ended = ended-by core.plan.test refl;
      calm = inr after-end;
      copied = λ due. absurd (let none = may.unasked in cc);
    }

-- a server's run begins
pub bootstrap-plain : (core new : CoreData) (before after : List Action) (end : StepEnd) → core.plan.eager ≡ false → Follows core new None before after end
    → Bootstraps core new before after end
bootstrap-plain core new before after end late follows = record {
  told = follows.told;
  appended = follows.appended;
  kept = λ q may. follows.kept q (strike-plain core q may late);
}

bootstrap-eager : (core new : CoreData) (before mid after : List Action) (end : StepEnd) → core.plan.eager ≡ true
    → mid ≡ before ++ begin_told core.plan core.boot core.drain.moment
    → ((q : Record) → may_run core.plan core.boot.fork ≡ true → BootStands core.plan core.boot q
    → BootStands core.plan (begun_by core.plan core.boot) (tell q (begin_told core.plan core.boot core.drain.moment)))
    → Follows (with_boot (begun_by core.plan core.boot) core) new None mid after end → Bootstraps core new before after end
bootstrap-eager core new before mid after end eager told stands follows = record {
  told = begin_told core.plan core.boot core.drain.moment ++ follows.told;
  appended = follows.appended ∙ ap (λ w. w ++ follows.told) told ∙ append_assoc before (begin_told core.plan core.boot core.drain.moment) follows.told;
  kept = λ q may. subst (λ r. StepRight new r end) (sym (tell-append q (begin_told core.plan core.boot core.drain.moment) follows.told))
      (follows.kept (tell q (begin_told core.plan core.boot core.drain.moment)) (strike-eager core q may eager (stands q may.free may.boot)));
}

-- the same with what the call gave
pub bootstrap-eager-at : (core new : CoreData) (b : BootData) (before mid after : List Action) (end : StepEnd) → core.plan.eager ≡ true
    → b ≡ begun_by core.plan core.boot → mid ≡ before ++ begin_told core.plan core.boot core.drain.moment
    → ((q : Record) → may_run core.plan core.boot.fork ≡ true → BootStands core.plan core.boot q
    → BootStands core.plan b (tell q (begin_told core.plan core.boot core.drain.moment)))
    → Follows (with_boot b core) new None mid after end → Bootstraps core new before after end
bootstrap-eager-at core new b before mid after end eager boots told stands follows =
    bootstrap-eager core new before mid after end eager told (rw boots at stands) (rw boots at follows)

-- the first step of a server that is no daemon
pub begin-first : (core new : CoreData) (before after : List Action) (end : StepEnd) → HasNotBegun core → core.plan.daemon ≡ false
    → Bootstraps core new before after end → BeginKeeps new before after end
begin-first core new before after end first none bootstraps = record {
  told = bootstraps.told;
  appended = bootstraps.appended;
  kept = bootstraps.kept [] (first-may core first none);
}
