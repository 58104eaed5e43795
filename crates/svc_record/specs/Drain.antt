-- How a run ends after its first signal.
use Rattle.std.specs.Prelude.{ℕ, Bool, true, false, ◌==◌, ◌≡◌, ◌-◌, ◌/◌, ◌++◌, not, ◌&&◌, ◌||◌, List, [], ◌∷◌, Option, Some, None, map, nat_le, if◌then◌else◌}
use Rattle.svc_record.specs.declared.plan.Plan.{Plan}
use Rattle.svc_record.specs.declared.entry.Entry.{Entry}
use Rattle.svc_record.specs.declared.entry.Entry.TheVariants.{Got, Told}
use Rattle.svc_record.specs.declared.action.Action.{Action}
use Rattle.svc_record.specs.declared.action.Action.TheVariants.{Phase, Broadcast, Cut, Close, Stop}
use Rattle.svc_record.specs.declared.event.Event.TheVariants.{Moment}
use Rattle.svc_record.specs.declared.event.ShutdownSignal.{ShutdownSignal}
use Rattle.svc_record.specs.declared.event.ShutdownSignal.TheVariants.{FastShutdown, GracefulTerminate as TerminateSignal, GracefulUpgrade}
use Rattle.svc_record.specs.declared.action.ExecutionPhase.{ExecutionPhase}
use Rattle.svc_record.specs.declared.action.ExecutionPhase.TheVariants.{Setup, Bootstrap, BootstrapComplete, Running, GracefulUpgradeTransferringFds, GracefulUpgradeCloseTimeout, GracefulTerminate, ShutdownStarted, ShutdownGracePeriod, ShutdownRuntimes, Terminated}
use Rattle.std.specs.List.{list_any}
use Rattle.svc_record.specs.Record.{Record, has, tell, now, signal_of, before_signal, before_runtimes, has_cut, before_cut, is_running, EachEntry, EachEarlier, EachSettled, each_entry, each_earlier, each_settled}
use Rattle.svc_record.specs.Descriptors.{Descriptor, live_descriptors}
use Rattle.svc_record.specs.Offer.{has_offer, is_over, over_moment}
use Rattle.svc_record.specs.Connections.{live_connections}
use Rattle.svc_base.specs.NumberSets.{ascending}

-- a phase or the broadcast
pub data Mark : Type 0 where
  phase : ExecutionPhase → Mark
  broadcast : Mark

-- one of bootstrap's two phases
abbrev pub is_boot_phase : ExecutionPhase → Bool
is_boot_phase Bootstrap = true
is_boot_phase BootstrapComplete = true
is_boot_phase _ = false

-- the phases that were told, and the broadcast, the newest first and without bootstrap's two
abbrev pub told_marks : Record → List Mark
told_marks [] = []
told_marks (Told (Phase x ms) ∷ before) = if is_boot_phase x then told_marks before else phase x ∷ told_marks before
told_marks (Told Broadcast ∷ before) = broadcast ∷ told_marks before
told_marks (e ∷ before) = told_marks before

-- the first moment, once the offer is over, that is 5,000 ms or more after that
abbrev pub rest_end : Plan → Record → Option ℕ
rest_end p [] = None
rest_end p (Got (Moment ms) ∷ before) = earlier_or (rest_end p before)
  where
    earlier_or : Option ℕ → Option ℕ
    earlier_or (Some m) = Some m
    earlier_or None = if is_over p before && nat_le 5000 (ms - over_moment p before) then Some ms else None
rest_end p (e ∷ before) = rest_end p before

-- the grace period that began at m has passed at t
abbrev pub grace_over : Plan → ℕ → ℕ → Bool
grace_over p t m = nat_le p.grace ((t - m) / 1000)

-- the grace period that began at the signal has passed
abbrev pub signal_grace_over : Plan → Record → Bool
signal_grace_over p q = grace_over p (now q) (now (before_signal q))

-- the time after the offer has passed, and the grace period that began then
abbrev pub offer_grace_over : Plan → Record → Bool
offer_grace_over p q = after (rest_end p q)
  where
    after : Option ℕ → Bool
    after (Some m) = grace_over p (now q) m
    after None = false

-- the waits of the kind of signal have passed
abbrev pub has_passed_by : Plan → Record → Option ShutdownSignal → Bool
has_passed_by p q None = false
has_passed_by p q (Some FastShutdown) = true
has_passed_by p q (Some TerminateSignal) = signal_grace_over p q
has_passed_by p q (Some GracefulUpgrade) = if has_offer p q then offer_grace_over p q else signal_grace_over p q

-- the first signal has come, and its waits have passed or a cut ended them
abbrev pub waits_are_over : Plan → Record → Bool
waits_are_over p q = has_cut q || has_passed_by p q (signal_of q)

-- the marks if this holds, else none
abbrev pub marks_if : Bool → List Mark → List Mark
marks_if true marks = marks
marks_if false marks = []

-- there is a moment
abbrev pub is_some_moment : Option ℕ → Bool
is_some_moment (Some m) = true
is_some_moment None = false

-- the phases and the broadcast that are due after an upgrade signal and before the end, where something is offered
abbrev pub offer_row : Plan → Record → List Mark
offer_row p q = marks_if (is_some_moment (rest_end p q)) (phase ShutdownGracePeriod ∷ phase ShutdownStarted ∷ broadcast ∷ [])
    ++ (marks_if (is_over p q) (phase GracefulUpgradeCloseTimeout ∷ []) ++ (phase GracefulUpgradeTransferringFds ∷ []))

-- those that are due after the kind of signal and before its end, the newest first
abbrev pub row_by : Plan → Record → Option ShutdownSignal → List Mark
row_by p q None = []
row_by p q (Some FastShutdown) = phase ShutdownStarted ∷ []
row_by p q (Some TerminateSignal) = phase ShutdownGracePeriod ∷ phase ShutdownStarted ∷ phase GracefulTerminate ∷ broadcast ∷ []
row_by p q (Some GracefulUpgrade) = if has_offer p q then offer_row p q
    else phase ShutdownGracePeriod ∷ phase ShutdownStarted ∷ broadcast ∷ phase GracefulUpgradeTransferringFds ∷ []

-- a number for each phase, to compare by
abbrev pub phase_number : ExecutionPhase → ℕ
phase_number Setup = 0
phase_number Bootstrap = 1
phase_number BootstrapComplete = 2
phase_number Running = 3
phase_number GracefulUpgradeTransferringFds = 4
phase_number GracefulUpgradeCloseTimeout = 5
phase_number GracefulTerminate = 6
phase_number ShutdownStarted = 7
phase_number ShutdownGracePeriod = 8
phase_number ShutdownRuntimes = 9
phase_number Terminated = 10

-- the two are equal
abbrev pub same_mark : Mark → Mark → Bool
same_mark (phase x) (phase y) = phase_number x == phase_number y
same_mark broadcast broadcast = true
same_mark _ _ = false

-- the start of the shutdown, unless it is among these, and these
abbrev pub with_start : List Mark → List Mark
with_start marks = if list_any (same_mark (phase ShutdownStarted)) marks then marks else phase ShutdownStarted ∷ marks

-- those that are due after the signal and before the end, the newest first: at a cut those that were due before it, and the start of the shutdown
abbrev pub wait_row : Plan → Record → List Mark
wait_row p q = if has_cut q then with_start (row_by p (before_cut q) (signal_of (before_cut q))) else row_by p q (signal_of q)

-- those that are due after the signal, the newest first
abbrev pub row : Plan → Record → List Mark
row p q = marks_if (waits_are_over p q) (phase Terminated ∷ phase ShutdownRuntimes ∷ []) ++ wait_row p q

-- what is due so far: `Running`, once it was told, and then the row
abbrev pub due_marks : Plan → Record → List Mark
due_marks p q = row p q ++ marks_if (has is_running q) (phase Running ∷ [])

-- the phases and the broadcast told so far are those that are due. In each settled prefix this says at which event each is told.
abbrev pub PhasesRight : Plan → Record → Type 0
PhasesRight p q = told_marks q ≡ due_marks p q

-- the two lists are equal
abbrev pub same_marks : List Mark → List Mark → Bool
same_marks [] [] = true
same_marks (x ∷ more) (y ∷ others) = same_mark x y && same_marks more others
same_marks _ _ = false

-- what was told so far is what is due so far: as a test
abbrev pub phases_right : Plan → Record → Bool
phases_right p q = same_marks (told_marks q) (due_marks p q)

-- a phase carries its moment; bootstrap's two aside, and with them
abbrev pub moment_right : Entry → Record → Bool
moment_right (Told (Phase x ms)) before = is_boot_phase x || ms == now before
moment_right _ before = true

-- a phase carries its moment, bootstrap's two among them
abbrev pub every_moment_right : Entry → Record → Bool
every_moment_right (Told (Phase x ms)) before = ms == now before
every_moment_right _ before = true

-- the signal is the fast one
abbrev pub is_fast : Option ShutdownSignal → Bool
is_fast (Some FastShutdown) = true
is_fast _ = false

-- the seconds that `Stop` carries: none after a fast first signal or a cut
abbrev pub stop_seconds : Plan → Record → ℕ
stop_seconds p q = if is_fast (signal_of q) || has_cut q then 0 else p.stop

-- the numbers of the live descriptors
abbrev pub live_numbers : Plan → Record → List ℕ
live_numbers p q = map (λ (d : Descriptor). d.number) (live_descriptors p q)

-- what is told from `ShutdownRuntimes` on, where at stands before it
abbrev pub last_actions : Plan → Record → List Action
last_actions p at = Phase ShutdownRuntimes (now at) ∷ (map Cut (ascending (live_connections at))
    ++ (map Close (ascending (live_numbers p at)) ++ (Stop (stop_seconds p at) ∷ Phase Terminated (now at) ∷ [])))

-- what only the end tells: a cut or `Stop`
abbrev pub is_ending : Entry → Bool
is_ending (Told (Cut c)) = true
is_ending (Told (Stop n)) = true
is_ending _ = false

-- the entry tells this action, which is a phase, a cut, a close or `Stop`
abbrev pub is_told : Action → Entry → Bool
is_told (Phase x ms) (Told (Phase y m)) = phase_number y == phase_number x && m == ms
is_told (Cut c) (Told (Cut n)) = n == c
is_told (Close fd) (Told (Close n)) = n == fd
is_told (Stop n) (Told (Stop m)) = m == n
is_told _ _ = false

-- the newest entries of the second are the first, which has only what is told
abbrev pub begins_with : Record → Record → Bool
begins_with [] q = true
begins_with (Told a ∷ more) (e ∷ before) = is_told a e && begins_with more before
begins_with _ _ = false

-- r ends with what is told from `ShutdownRuntimes` on, where at stands before it
abbrev pub ends_right : Plan → Record → Record → Bool
ends_right p at r = begins_with (tell [] (last_actions p at)) r

-- r has passed and no shorter settled prefix has, so a cut is its last event; each phase is told at its event, with its moment; and from
-- `ShutdownRuntimes` on stand the cuts, the closes, `Stop` and `Terminated`
pub record Drain (p : Plan) (r : Record) : Type 0 where
  pub passes : waits_are_over p r ≡ true
  pub first : EachEarlier (λ q. waits_are_over p q ≡ false) r
  pub phases : EachSettled (PhasesRight p) r
  pub moments : EachEntry (λ e before. every_moment_right e before ≡ true) r
  pub ends : r ≡ tell (before_runtimes r) (last_actions p (before_runtimes r))
  pub nowhere_else : has is_ending (before_runtimes r) ≡ false

-- the same as a test
abbrev pub drain_right : Plan → Record → Bool
drain_right p r =
    (((waits_are_over p r && each_earlier (λ q. not (waits_are_over p q)) r) && each_settled (phases_right p) r) && each_entry every_moment_right r)
    && (ends_right p (before_runtimes r) r && not (has is_ending (before_runtimes r)))
