-- When the waits have passed, and which phases are due until then, by the part.
use Rattle.std.proofs.Common.{ℕ, Bool, true, false, ◌||◌, ◌&&◌, ◌+◌, List, [], ◌∷◌, ◌++◌, Option, Some, None, ◌≡◌, refl, ap, sym, ◌∙◌, arith, if◌then◌else◌, is_some}
use Rattle.svc_record.specs.declared.plan.Plan.{Plan}
use Rattle.svc_record.specs.declared.entry.Entry.{Entry}
use Rattle.svc_record.specs.declared.entry.Entry.TheVariants.{Got, Told}
use Rattle.svc_record.specs.declared.action.Action.{Action}
use Rattle.svc_record.specs.declared.event.Event.{Event}
use Rattle.svc_record.specs.declared.event.Event.TheVariants.{Moment, Signal}
use Rattle.svc_record.specs.declared.event.ShutdownSignal.{ShutdownSignal}
use Rattle.svc_record.specs.declared.event.ShutdownSignal.TheVariants.{FastShutdown, GracefulTerminate as TerminateSignal, GracefulUpgrade}
use Rattle.svc_record.specs.declared.action.ExecutionPhase.TheVariants.{Running as RunningPhase, GracefulTerminate, GracefulUpgradeTransferringFds, GracefulUpgradeCloseTimeout, ShutdownStarted, ShutdownGracePeriod, ShutdownRuntimes, Terminated}
use Rattle.svc_record.specs.Record.{Record, has, times, tell, now, signal_of, before_signal, is_running}
use Rattle.svc_record.specs.Offer.{has_offer, is_over, is_upgrade}
use Rattle.svc_record.specs.Drain.{Mark, phase, broadcast, marks_if, is_some_moment, rest_end, grace_over, has_passed_by, waits_are_over, row_by, with_start, wait_row, PhasesRight}
use Rattle.svc_drain.specs.declared.stage.Stage.{Stage}
use Rattle.svc_drain.specs.declared.stage.Stage.TheVariants.{Running, Offering, CloseTimeout, Grace, Terminating, CutShort}
use Rattle.svc_drain.specs.DrainData.{DrainData}
use Rattle.svc_drain.specs.DrainState.{DrainStands, IsDrainSettled, OverIs, is_told_far, is_terminate_signal, is_cut, cut_row, stage_fits, stage_marks, rest_from, rest_at, passes, passes_at}
use Rattle.svc_drain.specs.DrainFacts.{is_drain_event}
use Rattle.svc_drain.proofs.Records.{no_moment}
use Rattle.svc_drain.proofs.Signalled.{offers-by}

-- the grace period after an offer, by the end of the rest
abbrev pub grace_after : Plan → ℕ → Option ℕ → Bool
grace_after p t (Some m) = grace_over p t m
grace_after p t None = false

-- what the kind of signal waits for, by what the record says of it
abbrev pub waits_over : Plan → Option ShutdownSignal → Bool → ℕ → ℕ → Option ℕ → Bool
waits_over p None offers t since rest = false
waits_over p (Some FastShutdown) offers t since rest = true
waits_over p (Some TerminateSignal) offers t since rest = grace_over p t since
waits_over p (Some GracefulUpgrade) offers t since rest = if offers then grace_after p t rest else grace_over p t since

passed-by : (p : Plan) (q : Record) (s : Option ShutdownSignal)
    → has_passed_by p q s ≡ waits_over p s (has_offer p q) (now q) (now (before_signal q)) (rest_end p q)
passed-by p q None = refl
passed-by p q (Some FastShutdown) = refl
passed-by p q (Some TerminateSignal) = refl
passed-by p q (Some GracefulUpgrade) = refl

-- the row likewise
abbrev pub row_over : Option ShutdownSignal → Bool → Bool → Option ℕ → List Mark
row_over None offers over rest = []
row_over (Some FastShutdown) offers over rest = phase ShutdownStarted ∷ []
row_over (Some TerminateSignal) offers over rest = phase ShutdownGracePeriod ∷ phase ShutdownStarted ∷ phase GracefulTerminate ∷ broadcast ∷ []
row_over (Some GracefulUpgrade) true over rest = marks_if (is_some_moment rest) (phase ShutdownGracePeriod ∷ phase ShutdownStarted ∷ broadcast ∷ [])
    ++ (marks_if over (phase GracefulUpgradeCloseTimeout ∷ []) ++ (phase GracefulUpgradeTransferringFds ∷ []))
row_over (Some GracefulUpgrade) false over rest = phase ShutdownGracePeriod ∷ phase ShutdownStarted ∷ broadcast ∷ phase GracefulUpgradeTransferringFds ∷ []

upgrade-row : (p : Plan) (q : Record) (o : Bool) → has_offer p q ≡ o
    → row_by p q (Some GracefulUpgrade) ≡ row_over (Some GracefulUpgrade) o (is_over p q) (rest_end p q)
upgrade-row p q true e = rw e refl
upgrade-row p q false e = rw e refl

row-by : (p : Plan) (q : Record) (s : Option ShutdownSignal) → row_by p q s ≡ row_over s (has_offer p q) (is_over p q) (rest_end p q)
row-by p q None = refl
row-by p q (Some FastShutdown) = refl
row-by p q (Some TerminateSignal) = refl
row-by p q (Some GracefulUpgrade) = upgrade-row p q (has_offer p q) refl

-- the waits by the stage, where all is told that is due
waits-stage : (p : Plan) (g : Stage) (s : Option ShutdownSignal) (o : Bool) (over rest : Option ℕ) (t since : ℕ) → stage_fits g s o over ≡ true
    → is_told_far g s over t ≡ true → (is_cut g ≡ false → o ≡ true → rest ≡ rest_at g over t)
    → ((at : ℕ) → g ≡ Grace at → o ≡ false → at ≡ since) → (is_terminate_signal s ≡ true → o ≡ false)
    → (is_cut g || waits_over p s o t since rest) ≡ passes_at p g t
waits-stage p Running None o over rest t since fits far is grace plain = refl
waits-stage p Running (Some kind) o over rest t since fits far is grace plain = absurd (cc)
waits-stage p Offering (Some GracefulUpgrade) true over rest t since fits far is grace plain =
    ap (grace_after p t) (is refl refl ∙ ap (λ x. rest_from x t) (no_moment over far))
waits-stage p Offering (Some GracefulUpgrade) false over rest t since fits far is grace plain = absurd (cc)
waits-stage p Offering _ o over rest t since fits far is grace plain = absurd (cc)
waits-stage p CloseTimeout (Some GracefulUpgrade) true over rest t since fits far is grace plain =
    ap (grace_after p t) (is refl refl ∙ no_moment (rest_from over t) far)
waits-stage p CloseTimeout (Some GracefulUpgrade) false over rest t since fits far is grace plain = absurd (cc)
waits-stage p CloseTimeout _ o over rest t since fits far is grace plain = absurd (cc)
waits-stage p (Grace at) (Some TerminateSignal) o over rest t since fits far is grace plain = ap (grace_over p t) (sym (grace at refl (plain refl)))
waits-stage p (Grace at) (Some GracefulUpgrade) true over rest t since fits far is grace plain = ap (grace_after p t) (is refl refl)
waits-stage p (Grace at) (Some GracefulUpgrade) false over rest t since fits far is grace plain = ap (grace_over p t) (sym (grace at refl refl))
waits-stage p (Grace at) _ o over rest t since fits far is grace plain = absurd (cc)
waits-stage p Terminating (Some FastShutdown) o over rest t since fits far is grace plain = refl
waits-stage p Terminating _ o over rest t since fits far is grace plain = absurd (cc)
waits-stage p (CutShort started) s o over rest t since fits far is grace plain = refl

-- the row by the stage
row-stage : (g : Stage) (s : Option ShutdownSignal) (o : Bool) (over rest : Option ℕ) (t : ℕ) (before : List Mark) → stage_fits g s o over ≡ true
    → is_told_far g s over t ≡ true → (is_cut g ≡ false → o ≡ true → rest ≡ rest_at g over t)
    → (if is_cut g then with_start before else row_over s o (is_some over) rest) ≡ stage_marks g s o before
row-stage Running None o over rest t before fits far is = refl
row-stage Running (Some kind) o over rest t before fits far is = absurd (cc)
row-stage Offering (Some GracefulUpgrade) true over rest t before fits far is = let e = no_moment over far in rw (is refl refl, e) refl
row-stage Offering (Some GracefulUpgrade) false over rest t before fits far is = absurd (cc)
row-stage Offering _ o over rest t before fits far is = absurd (cc)
row-stage CloseTimeout (Some GracefulUpgrade) true over rest t before fits far is = rw (is refl refl ∙ no_moment (rest_from over t) far, fits) refl
row-stage CloseTimeout (Some GracefulUpgrade) false over rest t before fits far is = absurd (cc)
row-stage CloseTimeout _ o over rest t before fits far is = absurd (cc)
row-stage (Grace at) (Some TerminateSignal) o over rest t before fits far is = refl
row-stage (Grace at) (Some GracefulUpgrade) true over rest t before fits far is = rw (is refl refl, fits) refl
row-stage (Grace at) (Some GracefulUpgrade) false over rest t before fits far is = refl
row-stage (Grace at) _ o over rest t before fits far is = absurd (cc)
row-stage Terminating (Some FastShutdown) o over rest t before fits far is = refl
row-stage Terminating _ o over rest t before fits far is = absurd (cc)
row-stage (CutShort true) s o over rest t before fits far is = refl
row-stage (CutShort false) s o over rest t before fits far is = absurd (cc)

terminate-offers : (s : Option ShutdownSignal) (o b : Bool) → o ≡ (is_upgrade s && b) → is_terminate_signal s ≡ true → o ≡ false
terminate-offers (Some TerminateSignal) o b e t = e
terminate-offers (Some FastShutdown) o b e t = cc
terminate-offers (Some GracefulUpgrade) o b e t = cc
terminate-offers None o b e t = cc

module _ (p : Plan) (d : DrainData) (over : Option ℕ) (q : Record) (stand : DrainStands p d over q) (settled : IsDrainSettled d over) where
  -- the waits have passed exactly where the part says so
  pub passed-is : waits_are_over p q ≡ passes p d
  passed-is =
      ap (λ b. b || has_passed_by p q (signal_of q)) (sym stand.cut_is)
      ∙ ap (λ b. is_cut d.stage || b) (
      ap (has_passed_by p q) (sym stand.signal_is)
      ∙ passed-by p q d.signal
      ∙ ap (λ o. waits_over p d.signal o (now q) (now (before_signal q)) (rest_end p q)) (sym stand.offers_is)
      ∙ ap (λ t. waits_over p d.signal d.offers t (now (before_signal q)) (rest_end p q)) (sym stand.moment_is)
      ∙ ap (λ t. waits_over p d.signal d.offers d.moment t (rest_end p q)) (sym stand.since_is)
      )
      ∙ waits-stage p d.stage d.signal d.offers over (rest_end p q) d.moment d.since stand.fits settled stand.rest_is stand.grace_is
      (terminate-offers d.signal d.offers _ (offers-by p d over q stand))

  -- what is due after the signal is what was told
  pub row-is : wait_row p q ≡ stage_marks d.stage d.signal d.offers (cut_row p q)
  row-is =
      ap (λ b. if b then with_start (cut_row p q) else row_by p q (signal_of q)) (sym stand.cut_is)
      ∙ ap (λ marks. if is_cut d.stage then with_start (cut_row p q) else marks) (
      ap (row_by p q) (sym stand.signal_is)
      ∙ row-by p q d.signal
      ∙ ap (λ o. row_over d.signal o (is_over p q) (rest_end p q)) (sym stand.offers_is)
      ∙ ap (λ b. row_over d.signal d.offers b (rest_end p q)) stand.over_is.is
      )
      ∙ row-stage d.stage d.signal d.offers over (rest_end p q) d.moment (cut_row p q) stand.fits settled stand.rest_is

once-step : (x : Bool) (n : ℕ) (h b : Bool) → (n ≡ (if b then 1 else 0) → h ≡ b) → (if x then n + 1 else n) ≡ (if b then 1 else 0) → (x || h) ≡ b
once-step true n h true f e = refl
once-step true n h false f e = absurd (omega (arith, e))
once-step false n h b f e = f e

-- what was told once was told
pub has-once : (test : Entry → Bool) (q : Record) (b : Bool) → times test q ≡ (if b then 1 else 0) → has test q ≡ b
has-once test [] true h = absurd (omega (arith, h))
has-once test [] false h = refl
has-once test (e ∷ q) b h = once-step (test e) (times test q) (has test q) b (has-once test q b) h

-- whether the server runs
pub running-is : (p : Plan) (d : DrainData) (over : Option ℕ) (q : Record) → DrainStands p d over q → has is_running q ≡ d.running
running-is p d over q stand = has-once is_running q d.running stand.running_is

-- until the waits have passed, what was told is what is due
pub marks-right : (p : Plan) (d : DrainData) (over : Option ℕ) (q : Record) → passes p d ≡ false → IsDrainSettled d over → DrainStands p d over q
    → PhasesRight p q
marks-right p d over q unpassed settled stand =
    stand.marks_are
    ∙ ap (λ b. stage_marks d.stage d.signal d.offers (cut_row p q) ++ marks_if b (phase RunningPhase ∷ [])) (sym (running-is p d over q stand))
    ∙ ap (λ marks. marks ++ marks_if (has is_running q) (phase RunningPhase ∷ [])) (sym (row-is p d over q stand settled))
    ∙ ap (λ b. (marks_if b (phase Terminated ∷ phase ShutdownRuntimes ∷ []) ++ wait_row p q) ++ marks_if (has is_running q) (phase RunningPhase ∷ []))
    (sym (passed-is p d over q stand settled ∙ unpassed))

-- what is told changes nothing of that
pub passed-told : (p : Plan) (q : Record) (a : Action) → waits_are_over p (Told a ∷ q) ≡ waits_are_over p q
passed-told p q a = refl

pub passed-tell : (p : Plan) (q : Record) (told : List Action) → waits_are_over p (tell q told) ≡ waits_are_over p q
passed-tell p q [] = refl
passed-tell p q (a ∷ told) = passed-tell p (Told a ∷ q) told ∙ passed-told p q a

-- nor of the row
pub row-told : (p : Plan) (q : Record) (a : Action) → wait_row p (Told a ∷ q) ≡ wait_row p q
row-told p q a = refl

pub row-tell : (p : Plan) (q : Record) (told : List Action) → wait_row p (tell q told) ≡ wait_row p q
row-tell p q [] = refl
row-tell p q (a ∷ told) = row-tell p (Told a ∷ q) told ∙ row-told p q a

passed-other : (p : Plan) (q : Record) (e : Event) → is_drain_event e ≡ false → waits_are_over p (Got e ∷ q) ≡ waits_are_over p q
passed-other p q (Moment ms) other = absurd (cc)
passed-other p q (Signal kind) other = absurd (cc)
passed-other p q e other = refl

-- nor does an event that isn't the part's
pub passed-got : (p : Plan) (d : DrainData) (over over2 : Option ℕ) (q : Record) (e : Event) → is_drain_event e ≡ false → DrainStands p d over q
    → IsDrainSettled d over → OverIs p (Got e ∷ q) over2
    → (is_some over ≡ true → over2 ≡ over) → passes p d ≡ false → waits_are_over p (Got e ∷ q) ≡ false
passed-got p d over over2 q e other stand settled overs stays unpassed = passed-other p q e other ∙ passed-is p d over q stand settled ∙ unpassed

-- as long as the waits haven't passed, no cut came
pub uncut : (p : Plan) (d : DrainData) → passes p d ≡ false → is_cut d.stage ≡ false
uncut p d unpassed = by d.stage unpassed
  where
    by : (g : Stage) → passes_at p g d.moment ≡ false → is_cut g ≡ false
    by (CutShort started) h = absurd (cc)
    by Running h = refl
    by Offering h = refl
    by CloseTimeout h = refl
    by (Grace at) h = refl
    by Terminating h = refl
