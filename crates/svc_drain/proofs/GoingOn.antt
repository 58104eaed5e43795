-- What the part stands for once it was told what is due of the shutdown.
use Rattle.std.proofs.Common.{ℕ, Bool, true, false, not, ◌&&◌, List, [], ◌∷◌, ◌++◌, Option, Some, None, ◌≡◌, refl, ap, sym, ◌∙◌, subst, if◌then◌else◌, is_some}
use Rattle.std.proofs.lemmas.Bool.{and_from}
use Rattle.svc_record.specs.declared.plan.Plan.{Plan}
use Rattle.svc_record.specs.declared.action.Action.{Action}
use Rattle.svc_record.specs.declared.action.Action.TheVariants.{Phase, Broadcast}
use Rattle.svc_record.specs.declared.action.ExecutionPhase.TheVariants.{Running as RunningPhase, GracefulUpgradeTransferringFds, GracefulUpgradeCloseTimeout, GracefulTerminate, ShutdownStarted, ShutdownGracePeriod}
use Rattle.svc_record.specs.declared.event.ShutdownSignal.{ShutdownSignal}
use Rattle.svc_record.specs.declared.event.ShutdownSignal.TheVariants.{FastShutdown, GracefulTerminate as TerminateSignal, GracefulUpgrade}
use Rattle.svc_record.specs.Record.{Record, tell, times, now, is_running}
use Rattle.svc_record.specs.Offer.{is_upgrade, is_empty_table, table}
use Rattle.svc_record.specs.Drain.{Mark, phase, broadcast, marks_if, told_marks}
use Rattle.svc_drain.specs.declared.stage.Stage.{Stage}
use Rattle.svc_drain.specs.declared.stage.Stage.TheVariants.{Running, Offering, CloseTimeout, Grace, Terminating, CutShort}
use Rattle.svc_drain.specs.DrainData.{DrainData}
use Rattle.svc_drain.specs.DrainState.{DrainStands, is_before_rest, is_unanswered, is_cut, is_unstarted, has_start, cut_row, stage_fits, stage_marks, marks_of, grace_from, rest_from, rest_at}
use Rattle.svc_drain.specs.DrainEffects.{at_stage, grace_told, gone_on, row_told}
use Rattle.svc_drain.proofs.Records.{unmoved-tell, offer-is, rest-ends, fast-offers}
use Rattle.svc_drain.proofs.Signalled.{offers-by}

-- all that were told so far, by the row that was due before a cut
abbrev marks_of_row : DrainData → List Mark → List Mark
marks_of_row d row = stage_marks d.stage d.signal d.offers row ++ marks_if d.running (phase RunningPhase ∷ [])

-- the stage changes as this is told
restage : (p : Plan) (d : DrainData) (over : Option ℕ) (q : Record) (g : Stage) (told : List Action) → times is_running (tell q told) ≡ times is_running q
    → stage_fits g d.signal d.offers over ≡ true
    → is_cut g ≡ is_cut d.stage
    → (is_cut g ≡ false → d.offers ≡ true → rest_at d.stage over d.moment ≡ rest_at g over d.moment)
    → ((at : ℕ) → g ≡ Grace at → grace_from d at)
    → told_marks (tell q told) ≡ marks_of p q (at_stage g d)
    → (is_unstarted g ≡ true → has_start (cut_row p q) ≡ false)
    → (is_before_rest g ≡ true → rest_from over d.moment ≡ None)
    → (is_unanswered g d.signal ≡ true → d.moment ≡ d.since)
    → DrainStands p d over q → DrainStands p (at_stage g d) over (tell q told)
restage p d over q g told running fits cut rest grace marks unstarted unrested at_once stand = let u = unmoved-tell p q told in record {
  running_is = running ∙ stand.running_is;
  moment_is = stand.moment_is ∙ sym u.now_is;
  signal_is = stand.signal_is ∙ sym u.signal_is;
  since_is = stand.since_is ∙ ap now (sym u.before_is);
  offers_is = stand.offers_is ∙ sym (offer-is p q (tell q told) u);
  over_is = record { is = u.over_is ∙ stand.over_is.is; moment = λ at e. u.moment_is ∙ stand.over_is.moment at e };
  fits = fits;
  cut_is = cut ∙ stand.cut_is ∙ sym u.cut_is;
  rest_is = λ c o. u.rest_is ∙ stand.rest_is (sym cut ∙ c) o ∙ rest c o;
  grace_is = grace;
  marks_are = marks ∙ ap (λ row. marks_of_row (at_stage g d) row) (sym u.row_is);
  unstarted = λ h. ap has_start u.row_is ∙ unstarted h;
  unsignalled = stand.unsignalled;
  unrested = unrested;
  at_once = at_once;
}

-- the part by its fields
abbrev part : Bool → ℕ → Option ShutdownSignal → ℕ → Bool → Stage → DrainData
part r m s c o g = record { running = r; moment = m; signal = s; since = c; offers = o; stage = g }

-- the end of the grace period is counted from the signal where the grace period begins at once
from-signal : (m since at : ℕ) → m ≡ since → Grace m ≡ Grace at → at ≡ since
from-signal m since at e same = cc

-- the first signal is answered
answered-fast : (p : Plan) (r : Bool) (m c : ℕ) (o : Bool) (over : Option ℕ) (q : Record) → DrainStands p (part r m (Some FastShutdown) c o Running) over q
    → DrainStands p (part r m (Some FastShutdown) c o Terminating) over (tell q (Phase ShutdownStarted m ∷ []))
answered-fast p r m c o over q stand = restage p (part r m (Some FastShutdown) c o Running) over q Terminating (Phase ShutdownStarted m ∷ []) refl refl refl
    (λ n w. let f =
    fast-offers (Some FastShutdown) o (not (is_empty_table (table p q))) refl (offers-by p (part r m (Some FastShutdown) c o Running) over q stand) in
    absurd (cc))
    (λ at e w. cc)
    (ap (λ marks. phase ShutdownStarted ∷ marks) stand.marks_are)
    (λ h. cc)
    (λ h. cc)
    (λ h. cc)
    stand

answered-terminate : (p : Plan) (r : Bool) (m c : ℕ) (o : Bool) (over : Option ℕ) (q : Record)
    → DrainStands p (part r m (Some TerminateSignal) c o Running) over q
    → DrainStands p (part r m (Some TerminateSignal) c o (Grace m)) over (tell q (Broadcast ∷ Phase GracefulTerminate m ∷ grace_told m))
answered-terminate p r m c o over q stand =
    restage p (part r m (Some TerminateSignal) c o Running) over q (Grace m) (Broadcast ∷ Phase GracefulTerminate m ∷ grace_told m) refl refl refl
    (λ n w. let f = offers-by p (part r m (Some TerminateSignal) c o Running) over q stand in absurd (cc))
    (λ at e w. from-signal m c at (stand.at_once refl) e)
    (ap (λ marks. phase ShutdownGracePeriod ∷ phase ShutdownStarted ∷ phase GracefulTerminate ∷ broadcast ∷ marks) stand.marks_are)
    (λ h. cc)
    (λ h. cc)
    (λ h. cc)
    stand

answered-plain : (p : Plan) (r : Bool) (m c : ℕ) (over : Option ℕ) (q : Record) → DrainStands p (part r m (Some GracefulUpgrade) c false Running) over q
    → DrainStands p (part r m (Some GracefulUpgrade) c false (Grace m)) over (tell q (Phase GracefulUpgradeTransferringFds m ∷ Broadcast ∷ grace_told m))
answered-plain p r m c over q stand =
    restage p (part r m (Some GracefulUpgrade) c false Running) over q (Grace m)
    (Phase GracefulUpgradeTransferringFds m ∷ Broadcast ∷ grace_told m) refl refl refl
    (λ n w. absurd (cc))
    (λ at e w. from-signal m c at (stand.at_once refl) e)
    (ap (λ marks. phase ShutdownGracePeriod ∷ phase ShutdownStarted ∷ broadcast ∷ phase GracefulUpgradeTransferringFds ∷ marks) stand.marks_are)
    (λ h. cc)
    (λ h. cc)
    (λ h. cc)
    stand

answered-offer : (p : Plan) (r : Bool) (m c : ℕ) (over : Option ℕ) (q : Record) → DrainStands p (part r m (Some GracefulUpgrade) c true Running) over q
    → DrainStands p (gone_on (part r m (Some GracefulUpgrade) c true Running) over) over
    (tell q (row_told (part r m (Some GracefulUpgrade) c true Running) over))
answered-offer p r m c None q stand =
    restage p (part r m (Some GracefulUpgrade) c true Running) None q Offering (Phase GracefulUpgradeTransferringFds m ∷ []) refl refl refl
    (λ n w. refl)
    (λ at e w. cc)
    (ap (λ marks. phase GracefulUpgradeTransferringFds ∷ marks) stand.marks_are)
    (λ h. cc)
    (λ h. refl)
    (λ h. cc)
    stand
answered-offer p r m c (Some at) q stand =
    restage p (part r m (Some GracefulUpgrade) c true Running) (Some at) q CloseTimeout
    (Phase GracefulUpgradeTransferringFds m ∷ Phase GracefulUpgradeCloseTimeout m ∷ []) refl refl refl
    (λ n w. refl)
    (λ at e w. cc)
    (ap (λ marks. phase GracefulUpgradeCloseTimeout ∷ phase GracefulUpgradeTransferringFds ∷ marks) stand.marks_are)
    (λ h. cc)
    (λ h. cc)
    (λ h. cc)
    stand

-- the offer is over
offered : (p : Plan) (r : Bool) (m : ℕ) (s : Option ShutdownSignal) (c : ℕ) (o : Bool) (over : Option ℕ) (q : Record)
    → DrainStands p (part r m s c o Offering) over q
    → DrainStands p (gone_on (part r m s c o Offering) over) over (tell q (row_told (part r m s c o Offering) over))
offered p r m s c o None q stand = stand
offered p r m s c o (Some at) q stand =
    restage p (part r m s c o Offering) (Some at) q CloseTimeout (Phase GracefulUpgradeCloseTimeout m ∷ []) refl
    (and_from (is_upgrade s && o) true stand.fits refl) refl
    (λ n w. refl)
    (λ at e w. cc)
    (ap (λ marks. phase GracefulUpgradeCloseTimeout ∷ marks) stand.marks_are)
    (λ h. cc)
    (λ h. cc)
    (λ h. cc)
    stand

-- the rest is over
rested : (p : Plan) (r : Bool) (m : ℕ) (s : Option ShutdownSignal) (c : ℕ) (o : Bool) (over x : Option ℕ) (q : Record) → rest_from over m ≡ x
    → (is_some x ≡ true → x ≡ Some m) → DrainStands p (part r m s c o CloseTimeout) over q
    → DrainStands p (part r m s c o (if is_some x then Grace m else CloseTimeout)) over (tell q (if is_some x then Broadcast ∷ grace_told m else []))
rested p r m s c o over None q is ends stand = stand
rested p r m (Some GracefulUpgrade) c true over (Some k) q is ends stand =
    restage p (part r m (Some GracefulUpgrade) c true CloseTimeout) over q (Grace m) (Broadcast ∷ grace_told m) refl stand.fits refl
    (λ n w. is ∙ ends refl)
    (λ at e w. cc)
    (ap (λ marks. phase ShutdownGracePeriod ∷ phase ShutdownStarted ∷ broadcast ∷ marks) stand.marks_are)
    (λ h. cc)
    (λ h. cc)
    (λ h. cc)
    stand
rested p r m (Some GracefulUpgrade) c false over (Some k) q is ends stand = let e = stand.fits in absurd (cc)
rested p r m (Some TerminateSignal) c o over (Some k) q is ends stand = let e = stand.fits in absurd (cc)
rested p r m (Some FastShutdown) c o over (Some k) q is ends stand = let e = stand.fits in absurd (cc)
rested p r m None c o over (Some k) q is ends stand = let e = stand.fits in absurd (cc)

-- the waits were cut short
shortened : (p : Plan) (r : Bool) (m : ℕ) (s : Option ShutdownSignal) (c : ℕ) (o : Bool) (over : Option ℕ) (q : Record)
    → DrainStands p (part r m s c o (CutShort false)) over q
    → DrainStands p (part r m s c o (CutShort true)) over (tell q (Phase ShutdownStarted m ∷ []))
shortened p r m s c o over q stand = restage p (part r m s c o (CutShort false)) over q (CutShort true) (Phase ShutdownStarted m ∷ []) refl stand.fits refl
    (λ n w. refl)
    (λ at e w. cc)
    (ap (λ marks. phase ShutdownStarted ∷ marks) stand.marks_are
    ∙ ap (λ b. (if b then cut_row p q else phase ShutdownStarted ∷ cut_row p q) ++ marks_if r (phase RunningPhase ∷ [])) (sym (stand.unstarted refl)))
    (λ h. cc)
    (λ h. cc)
    (λ h. cc)
    stand

gone : (p : Plan) (r : Bool) (m : ℕ) (s : Option ShutdownSignal) (c : ℕ) (o : Bool) (g : Stage) (over : Option ℕ) (q : Record)
    → DrainStands p (part r m s c o g) over q
    → DrainStands p (gone_on (part r m s c o g) over) over (tell q (row_told (part r m s c o g) over))
gone p r m None c o Running over q stand = stand
gone p r m (Some FastShutdown) c o Running over q stand = answered-fast p r m c o over q stand
gone p r m (Some TerminateSignal) c o Running over q stand = answered-terminate p r m c o over q stand
gone p r m (Some GracefulUpgrade) c false Running over q stand = answered-plain p r m c over q stand
gone p r m (Some GracefulUpgrade) c true Running over q stand = answered-offer p r m c over q stand
gone p r m s c o Offering over q stand = offered p r m s c o over q stand
gone p r m s c o CloseTimeout over q stand = rested p r m s c o over (rest_from over m) q refl (rest-ends over m) stand
gone p r m s c o (Grace at) over q stand = stand
gone p r m s c o Terminating over q stand = stand
gone p r m s c o (CutShort false) over q stand = shortened p r m s c o over q stand
gone p r m s c o (CutShort true) over q stand = stand

-- what is due of the shutdown was told
pub stands-gone_on : (p : Plan) (d : DrainData) (over : Option ℕ) (q : Record) → DrainStands p d over q
    → DrainStands p (gone_on d over) over (tell q (row_told d over))
stands-gone_on p d over q stand = gone p d.running d.moment d.signal d.since d.offers d.stage over q stand

-- the same of what the part is after the call
pub after-gone_on : (p : Plan) (d new : DrainData) (over : Option ℕ) (q : Record) → new ≡ gone_on d over → DrainStands p d over q
    → DrainStands p new over (tell q (row_told d over))
after-gone_on p d new over q after stand =
    subst (λ (x : DrainData). DrainStands p x over (tell q (row_told d over))) (sym after) (stands-gone_on p d over q stand)
