-- What the part stands for after a fast signal that cuts the waits of a graceful one short.
use Rattle.std.proofs.Common.{ℕ, Bool, true, false, not, ◌||◌, ◌&&◌, List, ◌∷◌, ◌++◌, [], Option, Some, None, ◌≡◌, refl, ap, sym, ◌∙◌, subst, if◌then◌else◌}
use Rattle.svc_record.specs.declared.plan.Plan.{Plan}
use Rattle.svc_record.specs.declared.entry.Entry.TheVariants.{Got}
use Rattle.svc_record.specs.declared.event.Event.TheVariants.{Signal}
use Rattle.svc_record.specs.declared.event.ShutdownSignal.{ShutdownSignal}
use Rattle.svc_record.specs.declared.event.ShutdownSignal.TheVariants.{FastShutdown, GracefulTerminate as TerminateSignal, GracefulUpgrade}
use Rattle.svc_record.specs.declared.action.ExecutionPhase.TheVariants.{Running as RunningPhase, ShutdownStarted}
use Rattle.svc_record.specs.Record.{Record, has, now, signal_of, before_signal, is_signal, is_graceful, has_cut, before_cut}
use Rattle.svc_record.specs.Descriptors.{live_table}
use Rattle.svc_record.specs.Offer.{is_upgrade, is_empty_table}
use Rattle.svc_record.specs.Drain.{Mark, phase, marks_if, row_by, with_start}
use Rattle.svc_drain.specs.declared.stage.Stage.{Stage}
use Rattle.svc_drain.specs.declared.stage.Stage.TheVariants.{Running, Offering, CloseTimeout, Grace, Terminating, CutShort}
use Rattle.svc_drain.specs.DrainData.{DrainData}
use Rattle.svc_drain.specs.DrainState.{DrainStands, IsDrainSettled, OverIs, is_told_far, is_before_rest, is_unanswered, is_cut, is_unstarted, has_start, cut_row, stage_fits, stage_marks}
use Rattle.svc_drain.specs.DrainEffects.{signalled, cuts, cut_stage, at_stage}
use Rattle.svc_drain.proofs.Records.{signal-graceful, first-later, cut-signal}
use Rattle.svc_drain.proofs.Signalled.{with_signal}
use Rattle.svc_drain.proofs.Passing.{row-is}

-- the waits are cut short at the stage
stage-cut : (g : Stage) (s : Option ShutdownSignal) (o : Bool) (over : Option ℕ) → is_graceful s ≡ true → stage_fits g s o over ≡ true
    → is_cut (cut_stage g) ≡ true
stage-cut Running s o over graceful fits = refl
stage-cut Offering s o over graceful fits = refl
stage-cut CloseTimeout s o over graceful fits = refl
stage-cut (Grace at) s o over graceful fits = refl
stage-cut (CutShort started) s o over graceful fits = refl
stage-cut Terminating (Some FastShutdown) o over graceful fits = absurd (cc)
stage-cut Terminating (Some TerminateSignal) o over graceful fits = absurd (cc)
stage-cut Terminating (Some GracefulUpgrade) o over graceful fits = absurd (cc)
stage-cut Terminating None o over graceful fits = absurd (cc)

-- what such a stage says of the rest and of the signal
cut-late : (g : Stage) → is_cut g ≡ true → (is_before_rest g ≡ false) × ((s : Option ShutdownSignal) → is_unanswered g s ≡ false)
cut-late (CutShort started) h = (refl, λ s. refl)
cut-late Running h = absurd (cc)
cut-late Offering h = absurd (cc)
cut-late CloseTimeout h = absurd (cc)
cut-late (Grace at) h = absurd (cc)
cut-late Terminating h = absurd (cc)

cut-fits : (g : Stage) (s : Option ShutdownSignal) (o : Bool) (over : Option ℕ) → is_graceful s ≡ true → is_cut g ≡ true → stage_fits g s o over ≡ true
cut-fits (CutShort started) s o over graceful h = graceful
cut-fits Running s o over graceful h = absurd (cc)
cut-fits Offering s o over graceful h = absurd (cc)
cut-fits CloseTimeout s o over graceful h = absurd (cc)
cut-fits (Grace at) s o over graceful h = absurd (cc)
cut-fits Terminating s o over graceful h = absurd (cc)

-- in the grace period it was told that the shutdown has started
grace-started : (at : ℕ) (s : Option ShutdownSignal) (o : Bool) (row : List Mark) → has_start (stage_marks (Grace at) s o row) ≡ true
grace-started at (Some GracefulUpgrade) true row = refl
grace-started at (Some GracefulUpgrade) false row = refl
grace-started at (Some TerminateSignal) o row = refl
grace-started at (Some FastShutdown) o row = refl
grace-started at None o row = refl

-- what was told before the cut is what was due before it
cut-marks : (g : Stage) (s : Option ShutdownSignal) (o : Bool) (over : Option ℕ) (t : ℕ) (row before : List Mark) → is_graceful s ≡ true → is_cut g ≡ false
    → is_told_far g s over t ≡ true → stage_fits g s o over ≡ true
    → row ≡ stage_marks g s o before → row ≡ stage_marks (cut_stage g) s o row
cut-marks Running (Some kind) o over t row before graceful uncut far fits is = absurd (cc)
cut-marks Running None o over t row before graceful uncut far fits is = absurd (cc)
cut-marks Offering s o over t row before graceful uncut far fits is = refl
cut-marks CloseTimeout s o over t row before graceful uncut far fits is = refl
cut-marks (Grace at) s o over t row before graceful uncut far fits is =
    sym (ap (λ b. if b then row else phase ShutdownStarted ∷ row) (ap has_start is ∙ grace-started at s o before))
cut-marks (CutShort started) s o over t row before graceful uncut far fits is = absurd (cc)
cut-marks Terminating s o over t row before graceful uncut far fits is = let e = stage-cut Terminating s o over graceful fits in absurd (cc)

-- and has the start of the shutdown in the grace period alone
unstarted-row : (g : Stage) (s : Option ShutdownSignal) (o : Bool) (row before : List Mark) → is_cut g ≡ false → row ≡ stage_marks g s o before
    → is_unstarted (cut_stage g) ≡ true → has_start row ≡ false
unstarted-row Running s o row before uncut is h = ap has_start is
unstarted-row Offering s o row before uncut is h = ap has_start is
unstarted-row CloseTimeout s o row before uncut is h = ap has_start is
unstarted-row (Grace at) s o row before uncut is h = absurd (cc)
unstarted-row (CutShort started) s o row before uncut is h = absurd (cc)
unstarted-row Terminating s o row before uncut is h = absurd (cc)

-- a fast signal after a graceful one
module _ (p : Plan) (d : DrainData) (over over2 : Option ℕ) (q : Record) (graceful : is_graceful d.signal ≡ true) (uncut : is_cut d.stage ≡ false)
    (settled : IsDrainSettled d over)
    (overs : OverIs p (Got (Signal FastShutdown) ∷ q) over2) (stand : DrainStands p d over q) where
  graceful-first : is_graceful (signal_of q) ≡ true
  graceful-first = ap is_graceful (sym stand.signal_is) ∙ graceful

  came : has is_signal q ≡ true
  came = signal-graceful q graceful-first

  calm : has_cut q ≡ false
  calm = sym stand.cut_is ∙ uncut

  same : signal_of (Got (Signal FastShutdown) ∷ q) ≡ signal_of q
  same = first-later q FastShutdown came

  before : before_signal (Got (Signal FastShutdown) ∷ q) ≡ before_signal q
  before = ap (λ b. if b then before_signal q else q) came

  -- what was due before it
  row : cut_row p (Got (Signal FastShutdown) ∷ q) ≡ stage_marks d.stage d.signal d.offers (cut_row p q)
  row = ap (λ b. row_by p (if b then before_cut q else q) (signal_of (if b then before_cut q else q))) calm
      ∙ sym (ap (λ b. if b then with_start (cut_row p q) else row_by p q (signal_of q)) calm)
      ∙ row-is p d over q stand settled

  short : is_cut (cut_stage d.stage) ≡ true
  short = stage-cut d.stage d.signal d.offers over graceful stand.fits

  cut-record : DrainStands p (at_stage (cut_stage d.stage) d) over2 (Got (Signal FastShutdown) ∷ q)
  cut-record = record {
    running_is = stand.running_is;
    moment_is = stand.moment_is;
    signal_is = stand.signal_is ∙ sym same;
    since_is = stand.since_is ∙ ap now (sym before);
    offers_is = stand.offers_is
        ∙ ap (λ r. is_upgrade (signal_of q) && not (is_empty_table (live_table p r))) (sym before)
        ∙ ap (λ s. is_upgrade s && not (is_empty_table (live_table p (before_signal (Got (Signal FastShutdown) ∷ q))))) (sym same);
    over_is = overs;
    fits = cut-fits (cut_stage d.stage) d.signal d.offers over2 graceful short;
    cut_is = short ∙ sym (cut-signal q FastShutdown ∙ ap (λ b. b || has_cut q) graceful-first);
    rest_is = λ n w. let e : true ≡ false = sym short ∙ n in absurd (cc);
    grace_is = λ at e w. let h : true ≡ false = sym short ∙ ap is_cut e in absurd (cc);
    marks_are = stand.marks_are
        ∙ ap (λ marks. marks ++ marks_if d.running (phase RunningPhase ∷ []))
        (sym row ∙ cut-marks d.stage d.signal d.offers over d.moment (cut_row p (Got (Signal FastShutdown) ∷ q))
        (cut_row p q) graceful uncut settled stand.fits row);
    unstarted = λ h. unstarted-row d.stage d.signal d.offers (cut_row p (Got (Signal FastShutdown) ∷ q)) (cut_row p q) uncut row h;
    unsignalled = stand.unsignalled;
    unrested = λ h. let e : true ≡ false = sym h ∙ (cut-late (cut_stage d.stage) short).0 in absurd (cc);
    at_once = λ h. let e : true ≡ false = sym h ∙ (cut-late (cut_stage d.stage) short).1 d.signal in absurd (cc);
  }

-- a cut is a further signal
signalled-cut : (kind : ShutdownSignal) (offers : Bool) (d : DrainData) → cuts d.signal kind ≡ true → signalled kind offers d ≡ at_stage (cut_stage d.stage) d
signalled-cut kind offers d h = by d.signal kind h
  where
    by : (s : Option ShutdownSignal) (k : ShutdownSignal) → cuts s k ≡ true
        → signalled k offers (with_signal d s d.stage) ≡ at_stage (cut_stage d.stage) (with_signal d s d.stage)
    by (Some earlier) k e = rw e refl
    by None FastShutdown e = absurd (cc)
    by None TerminateSignal e = absurd (cc)
    by None GracefulUpgrade e = absurd (cc)

pub stands-cut : (p : Plan) (d : DrainData) (kind : ShutdownSignal) (offers : Bool) (over over2 : Option ℕ) (q : Record) → cuts d.signal kind ≡ true
    → is_cut d.stage ≡ false → IsDrainSettled d over
    → OverIs p (Got (Signal kind) ∷ q) over2 → DrainStands p d over q → DrainStands p (signalled kind offers d) over2 (Got (Signal kind) ∷ q)
stands-cut p d FastShutdown offers over over2 q cut uncut settled overs stand =
    subst (λ (x : DrainData). DrainStands p x over2 (Got (Signal FastShutdown) ∷ q)) (sym (signalled-cut FastShutdown offers d cut))
    (cut-record p d over over2 q cut uncut settled overs stand)
stands-cut p d TerminateSignal offers over over2 q cut uncut settled overs stand = absurd (cc)
stands-cut p d GracefulUpgrade offers over over2 q cut uncut settled overs stand = absurd (cc)

-- the same of what the part is after the call
pub after-cut : (p : Plan) (d new : DrainData) (kind : ShutdownSignal) (offers : Bool) (over over2 : Option ℕ) (q : Record) → new ≡ signalled kind offers d
    → cuts d.signal kind ≡ true → is_cut d.stage ≡ false
    → IsDrainSettled d over → OverIs p (Got (Signal kind) ∷ q) over2 → DrainStands p d over q → DrainStands p new over2 (Got (Signal kind) ∷ q)
after-cut p d new kind offers over over2 q after cut uncut settled overs stand =
    subst (λ (x : DrainData). DrainStands p x over2 (Got (Signal kind) ∷ q)) (sym after) (stands-cut p d kind offers over over2 q cut uncut settled overs stand)
