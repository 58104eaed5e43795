-- What isn't the part's changes nothing of what it stands for.
use Rattle.std.proofs.Common.{ℕ, Bool, true, false, not, ◌||◌, ◌&&◌, List, [], ◌∷◌, Option, Some, None, ◌≡◌, refl, ap, sym, ◌∙◌, arith, if◌then◌else◌, is_some}
use Rattle.std.proofs.lemmas.Bool.{and_parts, and_from}
use Rattle.svc_record.specs.declared.plan.Plan.{Plan}
use Rattle.svc_record.specs.declared.entry.Entry.TheVariants.{Got, Told}
use Rattle.svc_record.specs.declared.action.Action.{Action}
use Rattle.svc_record.specs.declared.action.Action.TheVariants.{Phase, Broadcast}
use Rattle.svc_record.specs.declared.action.ExecutionPhase.TheVariants.{Bootstrap, BootstrapComplete}
use Rattle.svc_record.specs.declared.event.Event.{Event}
use Rattle.svc_record.specs.declared.event.Event.TheVariants.{Moment, Signal}
use Rattle.svc_record.specs.declared.event.ShutdownSignal.{ShutdownSignal}
use Rattle.svc_record.specs.Record.{Record, tell, now, times, is_running}
use Rattle.svc_record.specs.Offer.{is_upgrade, over_moment}
use Rattle.svc_record.specs.Drain.{told_marks}
use Rattle.svc_drain.specs.declared.stage.Stage.{Stage}
use Rattle.svc_drain.specs.declared.stage.Stage.TheVariants.{Running, Offering, CloseTimeout, Grace, Terminating, CutShort}
use Rattle.svc_drain.specs.DrainData.{DrainData}
use Rattle.svc_drain.specs.DrainState.{DrainStands, IsDrainSettled, OverIs, stage_fits, is_terminate_signal, rest_from, rest_at}
use Rattle.svc_drain.specs.DrainFacts.{is_drain_event, is_drain_action, has_no_drain_action}
use Rattle.svc_drain.proofs.Records.{rest-new}
use Rattle.svc_base.proofs.Logic.{apart_from as not_true}

-- a told action that says nothing of `Running` and of the marks
kept-told : (p : Plan) (d : DrainData) (over : Option ℕ) (q : Record) (a : Action) → times is_running (Told a ∷ q) ≡ times is_running q
    → told_marks (Told a ∷ q) ≡ told_marks q
    → DrainStands p d over q → DrainStands p d over (Told a ∷ q)
kept-told p d over q a running marks stand = record {
  running_is = running ∙ stand.running_is;
  moment_is = stand.moment_is;
  signal_is = stand.signal_is;
  since_is = stand.since_is;
  offers_is = stand.offers_is;
  over_is = record { is = stand.over_is.is; moment = stand.over_is.moment };
  fits = stand.fits;
  cut_is = stand.cut_is;
  rest_is = stand.rest_is;
  grace_is = stand.grace_is;
  marks_are = marks ∙ stand.marks_are;
  unstarted = stand.unstarted;
  unsignalled = stand.unsignalled;
  unrested = stand.unrested;
  at_once = stand.at_once;
}

-- an action that isn't the part's
pub stands-told : (p : Plan) (d : DrainData) (over : Option ℕ) (q : Record) (a : Action) → is_drain_action a ≡ false → DrainStands p d over q
    → DrainStands p d over (Told a ∷ q)
stands-told p d over q (Phase Bootstrap ms) other stand = kept-told p d over q (Phase Bootstrap ms) refl refl stand
stands-told p d over q (Phase BootstrapComplete ms) other stand = kept-told p d over q (Phase BootstrapComplete ms) refl refl stand
stands-told p d over q (Phase x ms) other stand = absurd (cc)
stands-told p d over q Broadcast other stand = absurd (cc)
stands-told p d over q a other stand = kept-told p d over q a refl refl stand

-- a told list in which nothing is the part's
pub stands-tell : (p : Plan) (d : DrainData) (over : Option ℕ) (q : Record) (told : List Action) → has_no_drain_action told ≡ true → DrainStands p d over q
    → DrainStands p d over (tell q told)
stands-tell p d over q [] other stand = stand
stands-tell p d over q (a ∷ told) other stand =
    let parts = and_parts (not (is_drain_action a)) (has_no_drain_action told) other in
    stands-tell p d over (Told a ∷ q) told parts.1 (stands-told p d over q a (not_true (is_drain_action a) parts.0) stand)

fits-terms : (t u o over over2 : Bool) → (t || (u && (not o || over))) ≡ true → (over ≡ true → over2 ≡ true) → (t || (u && (not o || over2))) ≡ true
fits-terms t u o true over2 h f = let e = f refl in grind arith
fits-terms t u o false over2 h f = grind arith

-- an offer stays over
fits-later : (g : Stage) (s : Option ShutdownSignal) (o : Bool) (over over2 : Option ℕ) → stage_fits g s o over ≡ true → (is_some over ≡ true → over2 ≡ over)
    → stage_fits g s o over2 ≡ true
fits-later Running s o over over2 h f = refl
fits-later Offering s o over over2 h f = h
fits-later CloseTimeout s o over over2 h f =
    let parts = and_parts (is_upgrade s && o) (is_some over) h in
    and_from (is_upgrade s && o) (is_some over2) parts.0 (ap is_some (f parts.1) ∙ parts.1)
fits-later (Grace at) s o over over2 h f = fits-terms (is_terminate_signal s) (is_upgrade s) o (is_some over) (is_some over2) h (λ e. ap is_some (f e) ∙ e)
fits-later Terminating s o over over2 h f = h
fits-later (CutShort started) s o over over2 h f = h

-- as the offer gets over no rest is over
rest-later : (over over2 : Option ℕ) (t : ℕ) → (is_some over ≡ true → over2 ≡ over) → (is_some over ≡ false → rest_from over2 t ≡ None)
    → rest_from over2 t ≡ rest_from over t
rest-later None over2 t f new = new refl
rest-later (Some at) over2 t f new = ap (λ x. rest_from x t) (f refl)

rest-at-later : (g : Stage) (over over2 : Option ℕ) (t : ℕ) → rest_from over2 t ≡ rest_from over t → rest_at g over t ≡ rest_at g over2 t
rest-at-later Running over over2 t e = sym e
rest-at-later Offering over over2 t e = sym e
rest-at-later CloseTimeout over over2 t e = sym e
rest-at-later (Grace at) over over2 t e = refl
rest-at-later Terminating over over2 t e = sym e
rest-at-later (CutShort started) over over2 t e = sym e

-- an event by which the offer gets over does so at its moment
new-rest : (p : Plan) (d : DrainData) (over over2 : Option ℕ) (q : Record) (e : Event) → now (Got e ∷ q) ≡ now q → OverIs p (Got e ∷ q) over2
    → DrainStands p d over q → is_some over ≡ false → rest_from over2 d.moment ≡ None
new-rest p d over over2 q e same overs stand not_over =
    rest-new over2 d.moment
    (λ at is. sym (overs.moment at is) ∙ ap (λ b. if b then over_moment p q else now (Got e ∷ q)) (stand.over_is.is ∙ not_over) ∙ same
    ∙ sym stand.moment_is)

-- an event that isn't the part's, be it an answer by which the offer gets over
pub stands-got : (p : Plan) (d : DrainData) (over over2 : Option ℕ) (q : Record) (e : Event) → is_drain_event e ≡ false → IsDrainSettled d over
    → OverIs p (Got e ∷ q) over2 → (is_some over ≡ true → over2 ≡ over)
    → DrainStands p d over q → DrainStands p d over2 (Got e ∷ q)
stands-got p d over over2 q (Moment ms) other settled overs stays stand = absurd (cc)
stands-got p d over over2 q (Signal kind) other settled overs stays stand = absurd (cc)
stands-got p d over over2 q e other settled overs stays stand =
    let later : rest_from over2 d.moment ≡ rest_from over d.moment = rest-later over over2 d.moment stays (new-rest p d over over2 q e refl overs stand) in
    record {
      running_is = stand.running_is;
      moment_is = stand.moment_is;
      signal_is = stand.signal_is;
      since_is = stand.since_is;
      offers_is = stand.offers_is;
      over_is = overs;
      fits = fits-later d.stage d.signal d.offers over over2 stand.fits stays;
      cut_is = stand.cut_is;
      rest_is = λ u o. stand.rest_is u o ∙ rest-at-later d.stage over over2 d.moment later;
      grace_is = stand.grace_is;
      marks_are = stand.marks_are;
      unstarted = stand.unstarted;
      unsignalled = stand.unsignalled;
      unrested = λ b. later ∙ stand.unrested b;
      at_once = stand.at_once;
    }
