-- The records that the part on the end of a run stands for.
use Rattle.std.specs.List.{list_any}
use Rattle.std.specs.Prelude.{ℕ, Bool, true, false, ◌≡◌, ◌-◌, ◌++◌, not, ◌&&◌, ◌||◌, List, [], ◌∷◌, Option, Some, None, nat_le, if◌then◌else◌, is_some}
use Rattle.svc_record.specs.declared.plan.Plan.{Plan}
use Rattle.svc_record.specs.declared.event.ShutdownSignal.{ShutdownSignal}
use Rattle.svc_record.specs.declared.event.ShutdownSignal.TheVariants.{GracefulTerminate as TerminateSignal, GracefulUpgrade}
use Rattle.svc_record.specs.declared.action.ExecutionPhase.TheVariants.{Running as RunningPhase, GracefulUpgradeTransferringFds, GracefulUpgradeCloseTimeout, GracefulTerminate, ShutdownStarted, ShutdownGracePeriod}
use Rattle.svc_record.specs.Record.{Record, times, now, signal_of, before_signal, is_running, is_graceful, has_cut, before_cut}
use Rattle.svc_record.specs.Offer.{is_upgrade, has_offer, is_over, over_moment}
use Rattle.svc_record.specs.Drain.{Mark, phase, broadcast, marks_if, told_marks, rest_end, grace_over, is_fast, row_by, same_mark, with_start}
use Rattle.svc_drain.specs.declared.stage.Stage.{Stage}
use Rattle.svc_drain.specs.declared.stage.Stage.TheVariants.{Running, Offering, CloseTimeout, Grace, Terminating, CutShort}
use Rattle.svc_drain.specs.DrainData.{DrainData}

-- since when the offer is over, if it is
pub record OverIs (p : Plan) (q : Record) (over : Option ℕ) : Type 0 where
  pub is : is_over p q ≡ is_some over
  pub moment : (at : ℕ) → over ≡ Some at → over_moment p q ≡ at

-- the signal ends it after the grace period
abbrev pub is_terminate_signal : Option ShutdownSignal → Bool
is_terminate_signal (Some TerminateSignal) = true
is_terminate_signal _ = false

-- the stage is one that the signal leads to, and what is waited for after an offer waits until it is over
abbrev pub stage_fits : Stage → Option ShutdownSignal → Bool → Option ℕ → Bool
stage_fits Running signal offers over = true
stage_fits Offering signal offers over = is_upgrade signal && offers
stage_fits CloseTimeout signal offers over = (is_upgrade signal && offers) && is_some over
stage_fits (Grace at) signal offers over = is_terminate_signal signal || (is_upgrade signal && (not offers || is_some over))
stage_fits Terminating signal offers over = is_fast signal
stage_fits (CutShort started) signal offers over = is_graceful signal

-- the waits were cut short
abbrev pub is_cut : Stage → Bool
is_cut (CutShort started) = true
is_cut _ = false

-- they were, and the start of the shutdown wasn't told
abbrev pub is_unstarted : Stage → Bool
is_unstarted (CutShort false) = true
is_unstarted _ = false

-- what was due before a cut
abbrev pub cut_row : Plan → Record → List Mark
cut_row p q = row_by p (before_cut q) (signal_of (before_cut q))

-- the start of the shutdown is among these
abbrev pub has_start : List Mark → Bool
has_start marks = list_any (same_mark (phase ShutdownStarted)) marks

-- the phases and the broadcast that were told since the signal, the newest first, where the row was due before a cut
abbrev pub stage_marks : Stage → Option ShutdownSignal → Bool → List Mark → List Mark
stage_marks Running signal offers row = []
stage_marks Offering signal offers row = phase GracefulUpgradeTransferringFds ∷ []
stage_marks CloseTimeout signal offers row = phase GracefulUpgradeCloseTimeout ∷ phase GracefulUpgradeTransferringFds ∷ []
stage_marks (Grace at) (Some GracefulUpgrade) true row =
    phase ShutdownGracePeriod ∷ phase ShutdownStarted ∷ broadcast ∷ phase GracefulUpgradeCloseTimeout ∷ phase GracefulUpgradeTransferringFds ∷ []
stage_marks (Grace at) (Some GracefulUpgrade) false row =
    phase ShutdownGracePeriod ∷ phase ShutdownStarted ∷ broadcast ∷ phase GracefulUpgradeTransferringFds ∷ []
stage_marks (Grace at) _ offers row = phase ShutdownGracePeriod ∷ phase ShutdownStarted ∷ phase GracefulTerminate ∷ broadcast ∷ []
stage_marks Terminating signal offers row = phase ShutdownStarted ∷ []
stage_marks (CutShort false) signal offers row = row
stage_marks (CutShort true) signal offers row = with_start row

-- all that were told so far
abbrev pub marks_of : Plan → Record → DrainData → List Mark
marks_of p q d = stage_marks d.stage d.signal d.offers (cut_row p q) ++ marks_if d.running (phase RunningPhase ∷ [])

-- the first moment 5,000 ms or more after the offer was over, at the moment t
abbrev pub rest_from : Option ℕ → ℕ → Option ℕ
rest_from (Some at) t = if nat_le 5000 (t - at) then Some t else None
rest_from None t = None

-- the end of the rest at this stage and moment
abbrev pub rest_at : Stage → Option ℕ → ℕ → Option ℕ
rest_at (Grace at) over t = Some at
rest_at _ over t = rest_from over t

-- the same of the part
abbrev pub rest_in : DrainData → Option ℕ → Option ℕ
rest_in d over = rest_at d.stage over d.moment

-- the rest isn't told at this stage
abbrev pub is_before_rest : Stage → Bool
is_before_rest Running = true
is_before_rest Offering = true
is_before_rest _ = false

-- a signal came, and nothing was told after it
abbrev pub is_unanswered : Stage → Option ShutdownSignal → Bool
is_unanswered Running (Some kind) = true
is_unanswered _ signal = false

-- the moment from which the grace period is counted: the end of the rest, or the signal
abbrev pub grace_from : DrainData → ℕ → Type 0
grace_from d at = (d.offers ≡ false) → at ≡ d.since

-- the part says what the record says
pub record DrainStands (p : Plan) (d : DrainData) (over : Option ℕ) (q : Record) : Type 0 where
  pub running_is : times is_running q ≡ (if d.running then 1 else 0)
  pub moment_is : d.moment ≡ now q
  pub signal_is : d.signal ≡ signal_of q
  pub since_is : d.since ≡ now (before_signal q)
  pub offers_is : d.offers ≡ has_offer p q
  pub over_is : OverIs p q over
  pub fits : stage_fits d.stage d.signal d.offers over ≡ true
  pub cut_is : is_cut d.stage ≡ has_cut q
  pub rest_is : is_cut d.stage ≡ false → d.offers ≡ true → rest_end p q ≡ rest_in d over
  pub grace_is : (at : ℕ) → d.stage ≡ Grace at → grace_from d at
  pub marks_are : told_marks q ≡ marks_of p q d
  pub unstarted : is_unstarted d.stage ≡ true → has_start (cut_row p q) ≡ false
  pub unsignalled : d.running ≡ false → d.signal ≡ None
  pub unrested : is_before_rest d.stage ≡ true → rest_from over d.moment ≡ None
  pub at_once : is_unanswered d.stage d.signal ≡ true → d.moment ≡ d.since

-- the broadcast was told at this stage, where no cut came
abbrev pub is_grace : Stage → Bool
is_grace (Grace at) = true
is_grace _ = false

-- the broadcast was told, where no cut came
abbrev pub is_broadcast_told : DrainData → Bool
is_broadcast_told d = is_grace d.stage

-- the shutdown is told as far as it is due: nothing where no signal came; an offer that is over, or whose rest is, isn't left untold
abbrev pub is_told_far : Stage → Option ShutdownSignal → Option ℕ → ℕ → Bool
is_told_far Running None over t = true
is_told_far Running (Some kind) over t = false
is_told_far Offering signal over t = not (is_some over)
is_told_far CloseTimeout signal over t = not (is_some (rest_from over t))
is_told_far (Grace at) signal over t = true
is_told_far Terminating signal over t = true
is_told_far (CutShort started) signal over t = started

-- the same as a fact
abbrev pub IsDrainSettled : DrainData → Option ℕ → Type 0
IsDrainSettled d over = is_told_far d.stage d.signal over d.moment ≡ true

-- the waits have passed at this stage and moment
abbrev pub passes_at : Plan → Stage → ℕ → Bool
passes_at p (Grace at) t = grace_over p t at
passes_at p Terminating t = true
passes_at p (CutShort started) t = true
passes_at p _ t = false

-- the waits have passed
abbrev pub passes : Plan → DrainData → Bool
passes p d = passes_at p d.stage d.moment
