-- Each close is of a descriptor that is doubled, unclaimed, abandoned or drained, or stands after `ShutdownRuntimes`.
use Rattle.std.proofs.Common.{ℕ, Bool, true, false, ◌||◌, not, ◌==◌, [], ◌∷◌, ◌≡◌, refl, sym, ◌∙◌, subst, arith, if◌then◌else◌}
use Rattle.std.proofs.lemmas.Bool.{and_parts, and_from, or_left, or_right, eq-eqb, not-true}
use Rattle.svc_record.specs.declared.plan.Plan.{Plan}
use Rattle.svc_record.specs.declared.entry.Entry.TheVariants.{Got, Told}
use Rattle.svc_record.specs.declared.action.Action.TheVariants.{Close}
use Rattle.svc_record.specs.Record.{Record, has, before_runtimes, EachEntry, EachEarlier, each_entry, each_earlier}
use Rattle.svc_record.specs.Descriptors.{is_close, is_doubled}
use Rattle.svc_record.specs.Closes.{ClosesRight, is_drained, close_once}
use Rattle.svc_record.specs.Drain.{waits_are_over, last_actions}
use Rattle.svc_record.specs.Ends.{has_ended}
use Rattle.svc_record.specs.Fits.{event_fits, fits_row}
use Rattle.svc_record.specs.Right.{Right, SettledRight, LastStepRight, PassedRight}
use Rattle.svc_record.proofs.ClosesOnce.{closed_was_opened}
use Rattle.svc_core.specs.CoreData.{CoreData, is_served}
use Rattle.svc_core.specs.Stands.{Represents}
use Rattle.svc_core.proofs.RecordLemmas.{on_true}
use Rattle.svc_endpoints.proofs.GoneLemmas.{closed-is}
use Rattle.svc_handover.specs.GivingUp.{before_end, is_received_unclaimed, is_abandoned_off_offer, has_cause, is_caused, are_caused, gives_up_rightly}
use Rattle.svc_handover.proofs.TriesLemmas.{served-passed}
use Rattle.svc_handover.proofs.CoveredLemmas.{open-settled}
use Rattle.svc_handover.proofs.OvertakenLemmas.{each-part}
use Rattle.svc_base.proofs.Logic.{clash}

-- what is gone is doubled or has a cause
module _ (p : Plan) (at : Record) (once : EachEntry (λ e before. close_once p e before ≡ true) at) (closes : ClosesRight p at) where
  cause : (fd : ℕ) → has (is_close fd) at ≡ true → (is_doubled p at fd || has_cause p at fd) ≡ true
  cause fd closed = sorted (is_received_unclaimed p at fd) (is_doubled p at fd) (is_abandoned_off_offer p at fd) (is_drained p at fd)
      (sym (closed-is p at fd once (closes fd (closed_was_opened p at fd once closed))) ∙ closed)
    where
      sorted : (u d f r : Bool) → (((u || d) || f) || r) ≡ true → (d || ((u || f) || r)) ≡ true
      sorted u d f r h = grind arith

  all-caused : (x : Record) → ((fd : ℕ) → has (is_close fd) x ≡ true → has (is_close fd) at ≡ true) → each_entry (λ e before. is_caused p at e) x ≡ true
  all-caused [] within = refl
  all-caused (Told (Close fd) ∷ x) within = and_from (is_doubled p at fd || has_cause p at fd) (each_entry (λ e before. is_caused p at e) x)
      (cause fd (within fd (or_left (fd == fd) (has (is_close fd) x) (eq-eqb fd fd refl))))
      (all-caused x (λ n h. within n (or_right (is_close n (Told (Close fd))) (has (is_close n) x) h)))
  all-caused (e ∷ x) within = all-caused x (λ n h. within n (or_right (is_close n e) (has (is_close n) x) h))

-- at the end of each step but the last
earlier-caused : (p : Plan) (q : Record) → EachEntry (λ e before. event_fits p e before ≡ true) q → EachEntry (λ e before. close_once p e before ≡ true) q
    → EachEarlier (SettledRight p) q → each_earlier (are_caused p) q ≡ true
earlier-caused p [] fits once settled = refl
earlier-caused p (Got e ∷ b) fits once settled =
    let going = not-true (has_ended p b) (and_parts (not (has_ended p b)) (fits_row p b e) fits.0).0 in
    and_from (are_caused p b) (each_earlier (are_caused p) b) (all-caused p b once.1 (open-settled p b going settled.0).closes b (λ fd h. h))
    (earlier-caused p b fits.1 once.1 settled.1)
earlier-caused p (Told a ∷ q) fits once settled = earlier-caused p q fits.1 once.1 settled

-- before the end
last-caused : (core : CoreData) (q : Record) → Represents core q → Right core.plan q → are_caused core.plan (before_end core.plan q) ≡ true
last-caused core q stand right = by (waits_are_over core.plan q) refl
  where
    by : (c : Bool) → waits_are_over core.plan q ≡ c → are_caused core.plan (if c then before_runtimes q else q) ≡ true
    by true passed =
        let last = on_true (waits_are_over core.plan q) (LastStepRight core.plan (before_runtimes q)) passed right.stronger.last_step in
        let ends = (on_true (waits_are_over core.plan q) (PassedRight core.plan q) passed right.passed).served.drain.ends in
        let once = each-part (λ e before. close_once core.plan e before ≡ true) (before_runtimes q) (last_actions core.plan (before_runtimes q))
        (subst (λ r. EachEntry (λ e before. close_once core.plan e before ≡ true) r) ends right.stronger.closes) in
        all-caused core.plan (before_runtimes q) once last.closes (before_runtimes q) (λ fd h. h)
    by false goes =
        let unserved : is_served core.end ≡ false = off (is_served core.end)
        (λ hit. clash (waits_are_over core.plan q) (served-passed core.plan q (subst (λ x. is_served x ≡ true) stand.end_is hit)) goes) in
        all-caused core.plan q right.stronger.closes (stand.endpoints unserved).closes q (λ fd h. h)
      where
        off : (c : Bool) → (c ≡ true → ⊥) → c ≡ false
        off true f = absurd (f refl)
        off false f = refl

-- so it is in the record of every core
pub gives-up-rightly : (core : CoreData) (q : Record) → Represents core q → Right core.plan q → gives_up_rightly core.plan q ≡ true
gives-up-rightly core q stand right = and_from (each_earlier (are_caused core.plan) q) (are_caused core.plan (before_end core.plan q))
    (earlier-caused core.plan q right.fits right.stronger.closes right.settled.1) (last-caused core q stand right)
