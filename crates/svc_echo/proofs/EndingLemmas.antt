-- A journal whose last post stops the server is that of a run that was served, and the other way round.
use Rattle.std.proofs.Common.{◌≡◌, ℕ, Bool, true, false, ◌||◌, ◌&&◌, List, [], ◌∷◌, ◌++◌, map, reverse, refl, sym, ap, ◌∙◌, append_assoc, append-nil, if◌then◌else◌}
use Rattle.std.proofs.lemmas.List.{reverse-append}
use Rattle.std.specs.Bool.{MatchBool}
use Rattle.std.specs.Prelude.{◌↔◌}
use Rattle.svc_record.specs.declared.plan.Plan.{Plan}
use Rattle.svc_record.specs.declared.entry.Entry.TheVariants.{Got, Told}
use Rattle.svc_record.specs.declared.action.Action.{Action}
use Rattle.svc_record.specs.declared.action.Action.TheVariants.{Stop, Phase, Cut, Close}
use Rattle.svc_record.specs.declared.action.StepEnd.TheVariants.{On, Tested, Parent, Ended, Served as ServedEnd}
use Rattle.svc_record.specs.declared.action.BootstrapError.TheVariants.{Transfer, NoSender, BadMessage}
use Rattle.svc_record.specs.declared.action.ExecutionPhase.TheVariants.{Terminated, ShutdownRuntimes}
use Rattle.svc_record.specs.Record.{Record, has, tell, last_step, now, signal_of, before_runtimes}
use Rattle.svc_record.specs.Connections.{live_connections}
use Rattle.svc_record.specs.Drain.{waits_are_over, is_ending, live_numbers, stop_seconds}
use Rattle.svc_record.proofs.CutLaws.{unsignalled-unpassed}
use Rattle.svc_base.specs.NumberSets.{ascending}
use Rattle.svc_record.specs.Ends.{step_end, has_ended, has_ended_early, ends_tested, ends_parent_well, ends_parent_badly, ends_transfer, ends_no_sender, ends_bad_message}
use Rattle.svc_record.specs.Right.{Right, EndedRight, OpenRight, is_test_step}
use Rattle.svc_record.specs.Journal.{PostData, Legal, record_after, journal_record}
use Rattle.svc_record.proofs.Closing.{tell-append}
use Rattle.svc_echo.specs.Endings.{is_stop, is_terminated, stops_last, ends_with_stop}

-- what was told since the last event, where more is told
pub last_step-tell : (q : Record) (told : List Action) → last_step (tell q told) ≡ reverse told ++ last_step q
last_step-tell q [] = refl
last_step-tell q (a ∷ more) =
    last_step-tell (Told a ∷ q) more
    ∙ sym (ap (λ (w : List Action). w ++ last_step q) (reverse-append (a ∷ []) more) ∙ append_assoc (reverse more) (a ∷ []) (last_step q))

stop_ends : (a : Action) → is_stop a ≡ true → is_ending (Told a) ≡ true
stop_ends (Stop n) h = refl
stop_ends _ h = cc

not_tested : (t : ℕ) (a : Action) (more : List Action) → is_terminated a ≡ true → is_test_step t (a ∷ more) ≡ false
not_tested t (Phase Terminated ms) more h = refl
not_tested t (Phase _ ms) more h = cc
not_tested t _ more h = cc

signal_of-tell : (q : Record) (told : List Action) → signal_of (tell q told) ≡ signal_of q
signal_of-tell q [] = refl
signal_of-tell q (a ∷ more) = signal_of-tell (Told a ∷ q) more

pub both : (x y : Bool) → (x && y) ≡ true → (x ≡ true) × (y ≡ true)
both true true h = (refl, refl)
both true false h = cc
both false y h = cc

or_second : (x y z : Bool) → y ≡ true → (x || (y || z)) ≡ true
or_second true y z h = refl
or_second false true z h = refl
or_second false false z h = cc

none_of : (x y z : Bool) → x ≡ false → y ≡ false → z ≡ false → ((x || y) || z) ≡ true → ⊥
none_of true y z a b c h = cc
none_of false true z a b c h = cc
none_of false false true a b c h = cc
none_of false false false a b c h = cc

-- a right record whose last step stopped the server is that of a run that was served
pub served_if_stopped : (p : Plan) (r : Record) → Right p r → stops_last (last_step r) ≡ true → waits_are_over p r ≡ true
served_if_stopped p [] right h = cc
served_if_stopped p (Got e ∷ q) right h = cc
served_if_stopped p (Told a ∷ []) right h = cc
served_if_stopped p (Told a ∷ Got e ∷ q) right h = cc
served_if_stopped p (Told a ∷ Told b ∷ q) right h = by (waits_are_over p r) refl
  where
    r : Record
    r = Told a ∷ Told b ∷ q

    parts : (is_stop b ≡ true) × (is_terminated a ≡ true)
    parts = both (is_stop b) (is_terminated a) h

    while_open : OpenRight p r → ⊥
    while_open open_right = let t : has is_ending r ≡ true = or_second (is_ending (Told a)) (is_ending (Told b)) (has is_ending q) (stop_ends b parts.0) in
        let f : has is_ending r ≡ false = open_right.no_end in cc

    by_ends : (tested early : Bool) → ends_tested p r ≡ tested → has_ended_early p r ≡ early → waits_are_over p r ≡ false → has_ended p r ≡ true
        → EndedRight p r → ⊥
    by_ends tested true et ee never e right_end = let silent : a ∷ b ∷ last_step q ≡ [] = rw ee at right_end.early in cc
    by_ends true false et ee never e right_end = let step = rw et at right_end.tested in
        let t : is_test_step (now r) (last_step r) ≡ true = step.0 in
        let f : is_test_step (now r) (last_step r) ≡ false = not_tested (now r) a (b ∷ last_step q) parts.1 in cc
    by_ends false false et ee never e right_end = none_of (waits_are_over p r) (ends_tested p r) (has_ended_early p r) never et ee e

    by_settled : (ended : Bool) → has_ended p r ≡ ended → MatchBool ended (EndedRight p r) (OpenRight p r) → waits_are_over p r ≡ false → ⊥
    by_settled true e right_end never = by_ends (ends_tested p r) (has_ended_early p r) refl refl never e right_end
    by_settled false e right_open never = while_open right_open

    by : (b : Bool) → waits_are_over p r ≡ b → waits_are_over p r ≡ true
    by true e = e
    by false e = absurd (by_settled (has_ended p r) refl right.settled.0 e)

-- what a run that was served told last
last_told : (at : Record) (cuts closes : List ℕ) (n t m : ℕ)
    → stops_last (last_step (tell at (Phase ShutdownRuntimes m ∷ (map Cut cuts ++ (map Close closes ++ (Stop n ∷ Phase Terminated t ∷ [])))))) ≡ true
last_told at cuts closes n t m =
    let begun : Record = Told (Phase ShutdownRuntimes m) ∷ at in
    let rest : List Action = Stop n ∷ Phase Terminated t ∷ [] in
    let e : tell begun (map Cut cuts ++ (map Close closes ++ rest)) ≡ tell (tell (tell begun (map Cut cuts)) (map Close closes)) rest =
    tell-append begun (map Cut cuts) (map Close closes ++ rest) ∙ tell-append (tell begun (map Cut cuts)) (map Close closes) rest in
    ap (λ (q : Record). stops_last (last_step q)) e

-- a right record of a run that was served stopped the server in its last step
pub stopped_if_served : (p : Plan) (r : Record) → Right p r → waits_are_over p r ≡ true → stops_last (last_step r) ≡ true
stopped_if_served p r right e =
    let passed = rw e at right.passed in
    let at : Record = before_runtimes r in
    ap (λ (q : Record). stops_last (last_step q)) passed.served.drain.ends
    ∙ last_told at (ascending (live_connections at)) (ascending (live_numbers p at)) (stop_seconds p at) (now at) (now at)

other_end : (x y z u v w : Bool)
    → (if x then Tested else
    (if y then Parent 0 else (if z then Parent 1 else (if u then Ended Transfer else (if v then Ended NoSender else (if w then Ended BadMessage else On))))))
    ≡ ServedEnd → ⊥
other_end true y z u v w h = cc
other_end false true z u v w h = cc
other_end false false true u v w h = cc
other_end false false false true v w h = cc
other_end false false false false true w h = cc
other_end false false false false false true h = cc
other_end false false false false false false h = cc

pub end_if_passed : (p : Plan) (r : Record) → waits_are_over p r ≡ true → step_end p r ≡ ServedEnd
end_if_passed p r e = rw e refl

pub passed_if_end : (p : Plan) (r : Record) → step_end p r ≡ ServedEnd → waits_are_over p r ≡ true
passed_if_end p r h = by (waits_are_over p r) refl
  where
    by : (b : Bool) → waits_are_over p r ≡ b → waits_are_over p r ≡ true
    by true e = e
    by false e =
        absurd (other_end (ends_tested p r) (ends_parent_well p r) (ends_parent_badly p r) (ends_transfer r) (ends_no_sender p r) (ends_bad_message r)
        (rw e at h))

-- the last post's actions are the last step of the journal's record
ends-journal : (q : Record) (x : PostData) (posts : List PostData) → ends_with_stop (x ∷ posts) ≡ stops_last (last_step (record_after q (x ∷ posts)))
ends-journal q x [] = sym (ap stops_last (last_step-tell (Got x.event ∷ q) x.actions ∙ append-nil (reverse x.actions)))
ends-journal q x (y ∷ more) = ends-journal (tell (Got x.event ∷ q) x.actions) y more

-- without a signal nothing has passed
opening_open : (p : Plan) (opening : List Action) → waits_are_over p (tell [] opening) ≡ false
opening_open p opening = unsignalled-unpassed p (tell [] opening) (signal_of-tell [] opening)

-- the last post's end is `Served` exactly where its actions stop the server
pub journal_served : (p : Plan) (opening : List Action) (posts : List PostData) → Legal p opening posts
    → (ends_with_stop posts ≡ true) ↔ (step_end p (journal_record opening posts) ≡ ServedEnd)
journal_served p opening [] legal = (
  λ h. cc,
  λ h. let t : waits_are_over p (tell [] opening) ≡ true = passed_if_end p (tell [] opening) h in
      let f : waits_are_over p (tell [] opening) ≡ false = opening_open p opening in cc,
)
journal_served p opening (x ∷ posts) legal =
    let r : Record = journal_record opening (x ∷ posts) in
    let same : ends_with_stop (x ∷ posts) ≡ stops_last (last_step r) = ends-journal (tell [] opening) x posts in
    (λ h. end_if_passed p r (served_if_stopped p r legal.right (sym same ∙ h)), λ h. same ∙ stopped_if_served p r legal.right (passed_if_end p r h))
