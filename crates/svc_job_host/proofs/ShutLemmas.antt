-- A signal shuts a server of jobs down at once: it has nothing to offer.
use Rattle.std.proofs.Common.{Bool, true, false, ◌≡◌, ◌&&◌, List, [], ◌∷◌, ◌++◌, Option, refl, ap, subst, ◌∙◌, inl, inr}
use Rattle.std.specs.Prelude.{Some, None, if◌then◌else◌}
use Rattle.std.specs.List.{list_any}
use Rattle.std.proofs.lemmas.Bool.{cases_Bool, or_parts, or_right}
use Rattle.svc_record.specs.declared.plan.Plan.{Plan}
use Rattle.svc_record.specs.declared.entry.Entry.TheVariants.{Got, Told}
use Rattle.svc_record.specs.declared.event.Event.TheVariants.{Moment, Ready, Signal}
use Rattle.svc_record.specs.declared.event.ShutdownSignal.{ShutdownSignal}
use Rattle.svc_record.specs.declared.event.ShutdownSignal.TheVariants.{FastShutdown, GracefulTerminate as TerminateSignal, GracefulUpgrade}
use Rattle.svc_record.specs.declared.action.ExecutionPhase.TheVariants.{Running, Terminated, ShutdownRuntimes}
use Rattle.svc_record.specs.Record.{Record, has, signal_of, before_signal, has_cut, before_cut, is_signal, is_running, each_entry}
use Rattle.svc_record.specs.Closes.{is_broadcast}
use Rattle.svc_record.specs.Descriptors.{opened_descriptors, live_table}
use Rattle.svc_record.specs.Offer.{has_offer}
use Rattle.svc_record.specs.Drain.{Mark, phase, marks_if, row_by, with_start, wait_row, waits_are_over, has_passed_by, PhasesRight}
use Rattle.svc_job_host.specs.Dues.{is_shutdown}
use Rattle.svc_job_host.specs.JobHosts.{is_job_entry}
use Rattle.svc_drain.proofs.Broadcasts.{is_the_broadcast, marked-is}

-- no event brings a descriptor
nothing-opened : (p : Plan) (q : Record) → each_entry (λ e before. is_job_entry e) q ≡ true → opened_descriptors p q ≡ []
nothing-opened p [] only = refl
nothing-opened p (Got (Moment m) ∷ q) only = nothing-opened p q only
nothing-opened p (Got (Signal kind) ∷ q) only = nothing-opened p q only
nothing-opened p (Got (Ready s) ∷ q) only = nothing-opened p q only
nothing-opened p (Got e ∷ q) only = absurd (cc)
nothing-opened p (Told a ∷ q) only = nothing-opened p q only

jobs-before : (q : Record) → each_entry (λ e before. is_job_entry e) q ≡ true → each_entry (λ e before. is_job_entry e) (before_signal q) ≡ true
jobs-before [] only = refl
jobs-before (Got (Moment m) ∷ q) only = jobs-before q only
jobs-before (Got (Ready s) ∷ q) only = jobs-before q only
jobs-before (Got (Signal kind) ∷ q) only =
    elim (has is_signal q) as
    (λ b. each_entry (λ e before. is_job_entry e) (if b then before_signal q else q) ≡ true) [ true ↦ jobs-before q only | false ↦ only ]
jobs-before (Got e ∷ q) only = absurd (cc)
jobs-before (Told a ∷ q) only = jobs-before q only

and_none : (b : Bool) → (b && false) ≡ false
and_none true = refl
and_none false = refl

no-offer : (p : Plan) (q : Record) → each_entry (λ e before. is_job_entry e) q ≡ true → has_offer p q ≡ false
no-offer p q only =
    let none : live_table p (before_signal q) ≡ [] = rw (nothing-opened p (before_signal q) (jobs-before q only)) refl in
    rw none (and_none _)

by-kind : (p : Plan) (b : Record) (more rest : List Mark) (kind : ShutdownSignal) → has_offer p b ≡ false → has_passed_by p b (Some kind) ≡ false
    → list_any is_the_broadcast ((marks_if false more ++ row_by p b (Some kind)) ++ rest) ≡ true
by-kind p b more rest FastShutdown none passed = absurd (cc)
by-kind p b more rest TerminateSignal none passed = refl
by-kind p b more rest GracefulUpgrade none passed = rw none refl

-- the broadcast was told
broadcast-told : (p : Plan) (b : Record) (kind : ShutdownSignal) → each_entry (λ e before. is_job_entry e) b ≡ true → PhasesRight p b
    → waits_are_over p b ≡ false → signal_of b ≡ Some kind → has is_broadcast b ≡ true
broadcast-told p b kind only phases passed signal =
    let unpassed = or_parts (has_cut b) (has_passed_by p b (signal_of b)) passed in
    marked-is b ∙ ap (list_any is_the_broadcast) phases
    ∙ ap (λ x. list_any is_the_broadcast
    ((marks_if x (phase Terminated ∷ phase ShutdownRuntimes ∷ []) ++ wait_row p b) ++ marks_if (has is_running b) (phase Running ∷ []))) passed
    ∙ ap (λ x. list_any is_the_broadcast
    ((marks_if false (phase Terminated ∷ phase ShutdownRuntimes ∷ [])
    ++ (if x then with_start (row_by p (before_cut b) (signal_of (before_cut b))) else row_by p b (signal_of b)))
    ++ marks_if (has is_running b) (phase Running ∷ []))) unpassed.0
    ∙ ap (λ (s : Option ShutdownSignal). list_any is_the_broadcast
    ((marks_if false (phase Terminated ∷ phase ShutdownRuntimes ∷ []) ++ row_by p b s) ++ marks_if (has is_running b) (phase Running ∷ []))) signal
    ∙ by-kind p b (phase Terminated ∷ phase ShutdownRuntimes ∷ []) (marks_if (has is_running b) (phase Running ∷ [])) kind (no-offer p b only)
    (subst (λ (s : Option ShutdownSignal). has_passed_by p b s ≡ false) signal unpassed.1)

shut-by : (q : Record) → has is_broadcast q ≡ true → has is_shutdown q ≡ true
shut-by [] h = h
shut-by (e ∷ q) h = elim (cases_Bool (is_broadcast e)) [
  | inl told ↦ rw told refl
  | inr other ↦ (let rest : has is_broadcast q ≡ true = rw other at h in or_right (is_shutdown e) (has is_shutdown q) (shut-by q rest))
]

-- so before the shutdown no signal came
pub unsignalled : (p : Plan) (b : Record) → each_entry (λ e before. is_job_entry e) b ≡ true → PhasesRight p b → waits_are_over p b ≡ false
    → has is_shutdown b ≡ false → signal_of b ≡ None
unsignalled p b only phases passed on = by (signal_of b) refl
  where
    by : (o : Option ShutdownSignal) → signal_of b ≡ o → signal_of b ≡ None
    by None e = e
    by (Some kind) e = absurd (let off = shut-by b (broadcast-told p b kind only phases passed e) in cc)
