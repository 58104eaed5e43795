-- Where the broadcast was told, by the part.
use Rattle.std.proofs.Common.{ℕ, Bool, true, false, List, [], ◌∷◌, ◌++◌, Option, Some, None, ◌≡◌, refl, ap, sym, ◌∙◌, if◌then◌else◌}
use Rattle.std.specs.List.{list_any}
use Rattle.svc_record.specs.declared.plan.Plan.{Plan}
use Rattle.svc_record.specs.declared.entry.Entry.TheVariants.{Told}
use Rattle.svc_record.specs.declared.action.Action.TheVariants.{Phase, Broadcast}
use Rattle.svc_record.specs.declared.action.ExecutionPhase.TheVariants.{Running as RunningPhase}
use Rattle.svc_record.specs.declared.event.ShutdownSignal.{ShutdownSignal}
use Rattle.svc_record.specs.declared.event.ShutdownSignal.TheVariants.{FastShutdown, GracefulTerminate as TerminateSignal, GracefulUpgrade}
use Rattle.svc_record.specs.Record.{Record, has}
use Rattle.svc_record.specs.Closes.{is_broadcast}
use Rattle.svc_record.specs.Drain.{Mark, phase, broadcast, marks_if, told_marks, is_boot_phase}
use Rattle.svc_record.proofs.CutLaws.{unsignalled-uncut}
use Rattle.svc_drain.specs.declared.stage.Stage.{Stage}
use Rattle.svc_drain.specs.declared.stage.Stage.TheVariants.{Running, Offering, CloseTimeout, Grace, Terminating, CutShort}
use Rattle.svc_drain.specs.DrainData.{DrainData}
use Rattle.svc_drain.specs.DrainState.{DrainStands, is_cut, cut_row, stage_fits, stage_marks, is_grace, is_broadcast_told}

-- the mark is the broadcast
abbrev pub is_the_broadcast : Mark → Bool
is_the_broadcast broadcast = true
is_the_broadcast _ = false

-- the broadcast was told where its mark is
pub marked-is : (q : Record) → has is_broadcast q ≡ list_any is_the_broadcast (told_marks q)
marked-is [] = refl
marked-is (Told (Phase x ms) ∷ q) = marked-is q ∙ by (is_boot_phase x)
  where
    by : (c : Bool) → list_any is_the_broadcast (told_marks q) ≡ list_any is_the_broadcast (if c then told_marks q else phase x ∷ told_marks q)
    by true = refl
    by false = refl
marked-is (Told Broadcast ∷ q) = refl
marked-is (e ∷ q) = marked-is q

-- no broadcast is told before the server runs
run-unmarked : (r : Bool) → list_any is_the_broadcast (marks_if r (phase RunningPhase ∷ [])) ≡ false
run-unmarked true = refl
run-unmarked false = refl

-- by the stage
stage-marked : (g : Stage) (s : Option ShutdownSignal) (o r : Bool) (row : List Mark) → is_cut g ≡ false
    → list_any is_the_broadcast (stage_marks g s o row ++ marks_if r (phase RunningPhase ∷ [])) ≡ is_grace g
stage-marked Running s o r row h = run-unmarked r
stage-marked Offering s o r row h = run-unmarked r
stage-marked CloseTimeout s o r row h = run-unmarked r
stage-marked (Grace at) (Some GracefulUpgrade) true r row h = refl
stage-marked (Grace at) (Some GracefulUpgrade) false r row h = refl
stage-marked (Grace at) (Some TerminateSignal) o r row h = refl
stage-marked (Grace at) (Some FastShutdown) o r row h = refl
stage-marked (Grace at) None o r row h = refl
stage-marked Terminating s o r row h = run-unmarked r
stage-marked (CutShort started) s o r row h = absurd (cc)

-- until a cut the part says whether the broadcast was told
pub broadcast-is : (p : Plan) (d : DrainData) (over : Option ℕ) (q : Record) → is_cut d.stage ≡ false → DrainStands p d over q
    → has is_broadcast q ≡ is_broadcast_told d
broadcast-is p d over q uncut stand =
    marked-is q ∙ ap (list_any is_the_broadcast) stand.marks_are ∙ stage-marked d.stage d.signal d.offers d.running (cut_row p q) uncut

-- it isn't before a signal
unsignalled-stage : (g : Stage) (o : Bool) (over : Option ℕ) → stage_fits g None o over ≡ true → is_grace g ≡ false
unsignalled-stage (Grace at) o over h = absurd (cc)
unsignalled-stage Running o over h = refl
unsignalled-stage Offering o over h = refl
unsignalled-stage CloseTimeout o over h = refl
unsignalled-stage Terminating o over h = refl
unsignalled-stage (CutShort started) o over h = refl

pub unsignalled-silent : (p : Plan) (d : DrainData) (over : Option ℕ) (q : Record) → d.signal ≡ None → DrainStands p d over q → has is_broadcast q ≡ false
unsignalled-silent p d over q none stand =
    broadcast-is p d over q (stand.cut_is ∙ unsignalled-uncut q (sym stand.signal_is ∙ none)) stand
    ∙ unsignalled-stage d.stage d.offers over (rw none at stand.fits)
