-- What the end tells is what is due, and when each phase is told.
use Rattle.std.proofs.Common.{ℕ, true, ◌||◌, List, [], ◌∷◌, ◌++◌, map, Option, ◌≡◌, refl, ap, sym, ◌∙◌, if◌then◌else◌}
use Rattle.svc_record.specs.declared.plan.Plan.{Plan}
use Rattle.svc_record.specs.declared.entry.Entry.TheVariants.{Told}
use Rattle.svc_record.specs.declared.action.Action.{Action}
use Rattle.svc_record.specs.declared.action.Action.TheVariants.{Phase, Cut, Close, Stop}
use Rattle.svc_record.specs.declared.action.ExecutionPhase.TheVariants.{Running as RunningPhase, ShutdownRuntimes, Terminated}
use Rattle.svc_record.specs.Record.{Record, has, tell, now, signal_of, is_running}
use Rattle.svc_record.specs.Connections.{live_connections}
use Rattle.svc_record.specs.Drain.{phase, marks_if, told_marks, due_marks, wait_row, is_fast, stop_seconds, live_numbers, last_actions}
use Rattle.svc_base.specs.NumberSets.{ascending}
use Rattle.svc_drain.specs.DrainData.{DrainData}
use Rattle.svc_drain.specs.DrainState.{DrainStands, IsDrainSettled, is_cut, cut_row, stage_marks, passes}
use Rattle.svc_drain.specs.DrainEffects.{stop_after, stop_told, end_told}
use Rattle.svc_drain.proofs.Passing.{passed-is, row-is, running-is, passed-tell, row-tell}

-- the seconds that `Stop` carries
pub stop-is : (p : Plan) (d : DrainData) (over : Option ℕ) (q : Record) → DrainStands p d over q → stop_after p d ≡ stop_seconds p q
stop-is p d over q stand =
    ap (λ s. if is_fast s || is_cut d.stage then 0 else p.stop) stand.signal_is ∙ ap (λ b. if is_fast (signal_of q) || b then 0 else p.stop) stand.cut_is

-- what the end tells is what is due, where the cuts are of the live connections
pub ending-is : (p : Plan) (d : DrainData) (over : Option ℕ) (q : Record) (cuts : List ℕ) → DrainStands p d over q → cuts ≡ ascending (live_connections q)
    → end_told p d cuts (ascending (live_numbers p q)) ≡ last_actions p q
ending-is p d over q cuts stand live =
    let fds : List ℕ = ascending (live_numbers p q) in
    ap (λ t. Phase ShutdownRuntimes t ∷ (map Cut cuts ++ (map Close fds ++ (Stop (stop_after p d) ∷ Phase Terminated t ∷ [])))) stand.moment_is
    ∙ ap (λ n. Phase ShutdownRuntimes (now q) ∷ (map Cut cuts ++ (map Close fds ++ (Stop n ∷ Phase Terminated (now q) ∷ [])))) (stop-is p d over q stand)
    ∙ ap (λ cs. Phase ShutdownRuntimes (now q) ∷ (map Cut cs ++ (map Close fds ++ (Stop (stop_seconds p q) ∷ Phase Terminated (now q) ∷ [])))) live

-- cuts and closes are no marks
marks-closes : (q : Record) (fds : List ℕ) (told : List Action) → told_marks (tell q (map Close fds ++ told)) ≡ told_marks (tell (tell q (map Close fds)) told)
marks-closes q [] told = refl
marks-closes q (fd ∷ fds) told = marks-closes (Told (Close fd) ∷ q) fds told

marks-cuts : (q : Record) (cs : List ℕ) (told : List Action) → told_marks (tell q (map Cut cs ++ told)) ≡ told_marks (tell (tell q (map Cut cs)) told)
marks-cuts q [] told = refl
marks-cuts q (c ∷ cs) told = marks-cuts (Told (Cut c) ∷ q) cs told

closed-marks : (q : Record) (fds : List ℕ) → told_marks (tell q (map Close fds)) ≡ told_marks q
closed-marks q [] = refl
closed-marks q (fd ∷ fds) = closed-marks (Told (Close fd) ∷ q) fds

cut-marks : (q : Record) (cs : List ℕ) → told_marks (tell q (map Cut cs)) ≡ told_marks q
cut-marks q [] = refl
cut-marks q (c ∷ cs) = cut-marks (Told (Cut c) ∷ q) cs

-- the two marks of the end
end-marks : (p : Plan) (d : DrainData) (q : Record) (cuts closes : List ℕ)
    → told_marks (tell q (end_told p d cuts closes)) ≡ phase Terminated ∷ phase ShutdownRuntimes ∷ told_marks q
end-marks p d q cuts closes =
    let begun : Record = Told (Phase ShutdownRuntimes d.moment) ∷ q in
    marks-cuts begun cuts (map Close closes ++ stop_told p d)
    ∙ marks-closes (tell begun (map Cut cuts)) closes (stop_told p d)
    ∙ ap (λ marks. phase Terminated ∷ marks) (closed-marks (tell begun (map Cut cuts)) closes ∙ cut-marks begun cuts)

-- the end tells no `Running`
pub end-running : (p : Plan) (d : DrainData) (q : Record) (cuts closes : List ℕ) → has is_running (tell q (end_told p d cuts closes)) ≡ has is_running q
end-running p d q cuts closes = by (Told (Phase ShutdownRuntimes d.moment) ∷ q) cuts closes
  where
    by : (r : Record) (cs fds : List ℕ) → has is_running (tell r (map Cut cs ++ (map Close fds ++ stop_told p d))) ≡ has is_running r
    by r [] [] = refl
    by r [] (fd ∷ fds) = by (Told (Close fd) ∷ r) [] fds
    by r (c ∷ cs) fds = by (Told (Cut c) ∷ r) cs fds

-- after the end, what was told is what is due
pub marks-at-end : (p : Plan) (d : DrainData) (over : Option ℕ) (q : Record) (cuts closes : List ℕ) → DrainStands p d over q → IsDrainSettled d over
    → passes p d ≡ true
    → told_marks (tell q (end_told p d cuts closes)) ≡ due_marks p (tell q (end_told p d cuts closes))
marks-at-end p d over q cuts closes stand settled passed =
    let r : Record = tell q (end_told p d cuts closes) in
    end-marks p d q cuts closes
    ∙ ap (λ marks. phase Terminated ∷ phase ShutdownRuntimes ∷ marks) (
    stand.marks_are
    ∙ ap (λ b. stage_marks d.stage d.signal d.offers (cut_row p q) ++ marks_if b (phase RunningPhase ∷ []))
    (sym (end-running p d q cuts closes ∙ running-is p d over q stand))
    ∙ ap (λ marks. marks ++ marks_if (has is_running r) (phase RunningPhase ∷ []))
    (sym (row-tell p q (end_told p d cuts closes) ∙ row-is p d over q stand settled))
    )
    ∙ ap (λ b. (marks_if b (phase Terminated ∷ phase ShutdownRuntimes ∷ []) ++ wait_row p r) ++ marks_if (has is_running r) (phase RunningPhase ∷ []))
    (sym (passed-tell p q (end_told p d cuts closes) ∙ passed-is p d over q stand settled ∙ passed))
