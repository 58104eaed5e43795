-- What the answer of a step says of the record.
use Rattle.std.proofs.Common.{◌≡◌, [], ◌∷◌, ◌||◌, Bool, true, false, if◌then◌else◌, List, refl, sym, ◌∙◌}
use Rattle.std.specs.Bool.{OnTrue}
use Rattle.std.proofs.lemmas.Bool.{false≢true, or_parts}
use Rattle.svc_record.specs.declared.plan.Plan.{Plan}
use Rattle.svc_record.specs.declared.action.Action.{Action}
use Rattle.svc_record.specs.declared.action.StepEnd.{StepEnd}
use Rattle.svc_record.specs.declared.action.StepEnd.TheVariants.{On, Served, Tested, Parent, Ended}
use Rattle.svc_record.specs.declared.action.BootstrapError.TheVariants.{Transfer, NoSender, BadMessage}
use Rattle.svc_record.specs.declared.entry.Entry.TheVariants.{Got, Told}
use Rattle.svc_record.specs.declared.event.Event.{Event}
use Rattle.svc_record.specs.declared.event.Event.TheVariants.{ReceiveFailed}
use Rattle.svc_record.specs.Record.{Record, has, tell}
use Rattle.svc_record.specs.Drain.{waits_are_over}
use Rattle.svc_record.specs.Ends.{step_end, has_ended, is_receive_failure, ends_tested, ends_parent_well, ends_parent_badly, ends_transfer, ends_no_sender, ends_bad_message}
use Rattle.svc_record.specs.Right.{Right, Served as ServedRecord, PassedRight}
use Rattle.svc_server.specs.Hosts.{tells_failure}

-- ---- the answer, by what is so of the record

abbrev picked : Bool → Bool → Bool → Bool → Bool → Bool → Bool → StepEnd
picked passed tested well badly transfer none bad =
    if passed then Served else (if tested then Tested else (if well then Parent 0 else (if badly then Parent 1
    else (if transfer then Ended Transfer else (if none then Ended NoSender else (if bad then Ended BadMessage else On))))))

served_by : (a b c d e f g : Bool) → Served ≡ picked a b c d e f g → a ≡ true
served_by true b c d e f g is = refl
served_by false true c d e f g is = cc
served_by false false true d e f g is = cc
served_by false false false true e f g is = cc
served_by false false false false true f g is = cc
served_by false false false false false true g is = cc
served_by false false false false false false true is = cc
served_by false false false false false false false is = cc

on_by : (a b c d e f g : Bool) → On ≡ picked a b c d e f g → ((a || b) || (((c || d) || e) || (f || g))) ≡ false
on_by true b c d e f g is = cc
on_by false true c d e f g is = cc
on_by false false true d e f g is = cc
on_by false false false true e f g is = cc
on_by false false false false true f g is = cc
on_by false false false false false true g is = cc
on_by false false false false false false true is = cc
on_by false false false false false false false is = refl

transfer_by : (a b c d e f g : Bool) → Ended Transfer ≡ picked a b c d e f g → e ≡ true
transfer_by true b c d e f g is = cc
transfer_by false true c d e f g is = cc
transfer_by false false true d e f g is = cc
transfer_by false false false true e f g is = cc
transfer_by false false false false true f g is = refl
transfer_by false false false false false true g is = cc
transfer_by false false false false false false true is = cc
transfer_by false false false false false false false is = cc

no_transfer_by : (a b c d e f g : Bool) → ((a || b) || (((c || d) || e) || (f || g))) ≡ false → e ≡ false
no_transfer_by a b c d e f g none =
    let early = or_parts (a || b) (((c || d) || e) || (f || g)) none in
    let first = or_parts ((c || d) || e) (f || g) early.1 in
    (or_parts (c || d) e first.0).1

on_true : (b : Bool) (P : Type 0) → b ≡ true → OnTrue b P → P
on_true true P is h = h
on_true false P is h = absurd (false≢true is)

-- where the answer is that the run served, the record is a served one
pub served_from_answer : (p : Plan) (q : Record) → Right p q → Served ≡ step_end p q → ServedRecord p q
served_from_answer p q right is =
    let passed =
    served_by (waits_are_over p q) (ends_tested p q) (ends_parent_well p q) (ends_parent_badly p q) (ends_transfer q) (ends_no_sender p q)
    (ends_bad_message q) is in
    (on_true (waits_are_over p q) (PassedRight p q) passed right.passed).served

-- where it is that the run goes on, the record hasn't ended
pub on_from_answer : (p : Plan) (q : Record) → On ≡ step_end p q → has_ended p q ≡ false
on_from_answer p q is =
    on_by (waits_are_over p q) (ends_tested p q) (ends_parent_well p q) (ends_parent_badly p q) (ends_transfer q) (ends_no_sender p q) (ends_bad_message q) is

-- ---- where receiving failed

-- what is told is no failure
failed-tell : (q : Record) (told : List Action) → has is_receive_failure (tell q told) ≡ has is_receive_failure q
failed-tell q [] = refl
failed-tell q (a ∷ more) = failed-tell (Told a ∷ q) more

failed-here : (here before : Bool) → (here || before) ≡ true → before ≡ false → here ≡ true
failed-here true before either none = refl
failed-here false before either none = absurd (false≢true (sym none ∙ either))

failure-tells : (e : Event) → is_receive_failure (Got e) ≡ true → tells_failure e ≡ true
failure-tells ReceiveFailed is = refl
failure-tells _ is = absurd (false≢true is)

transfer-failed : (p : Plan) (q : Record) → Ended Transfer ≡ step_end p q → has is_receive_failure q ≡ true
transfer-failed p q is =
    transfer_by (waits_are_over p q) (ends_tested p q) (ends_parent_well p q) (ends_parent_badly p q) (ends_transfer q) (ends_no_sender p q)
    (ends_bad_message q) is

-- where the answer is that receiving failed, and the record before the event hadn't ended, the event tells a failure
pub failure_from_answer : (p : Plan) (q : Record) (e : Event) (told : List Action) → has_ended p q ≡ false → Ended Transfer ≡ step_end p (tell (Got e ∷ q) told)
    → tells_failure e ≡ true
failure_from_answer p q e told on is =
    let failed : has is_receive_failure (Got e ∷ q) ≡ true = sym (failed-tell (Got e ∷ q) told) ∙ transfer-failed p (tell (Got e ∷ q) told) is in
    let before : has is_receive_failure q ≡ false =
    no_transfer_by (waits_are_over p q) (ends_tested p q) (ends_parent_well p q) (ends_parent_badly p q) (ends_transfer q) (ends_no_sender p q)
    (ends_bad_message q) on in
    failure-tells e (failed-here (is_receive_failure (Got e)) (has is_receive_failure q) failed before)

-- it isn't the answer of the first step
pub first_unfailed : (p : Plan) (told : List Action) → Ended Transfer ≡ step_end p (tell [] told) → ⊥
first_unfailed p told is = false≢true (sym (failed-tell [] told) ∙ transfer-failed p (tell [] told) is)
