-- What the parts say of a record that ends with a moment: whether it is right as it is.
use Rattle.std.proofs.Common.{ℕ, Bool, true, false, not, ◌&&◌, ◌||◌, ◌-◌, List, [], ◌∷◌, ◌++◌, ◌≡◌, refl, rules, ap, sym, ◌∙◌, subst, arith, Option, Some, None, if◌then◌else◌, nat_le, nat_lt}
use Rattle.std.specs.Prelude.{is_some}
use Rattle.std.proofs.lemmas.Bool.{and_parts}
use Rattle.std.proofs.lemmas.Bool.Decides.{nat_tests}
use Rattle.svc_record.specs.declared.plan.Plan.{Plan}
use Rattle.svc_record.specs.declared.event.ShutdownSignal.{ShutdownSignal}
use Rattle.svc_record.specs.declared.event.ShutdownSignal.TheVariants.{FastShutdown, GracefulTerminate as TerminateSignal, GracefulUpgrade}
use Rattle.svc_record.specs.declared.action.ExecutionPhase.TheVariants.{Terminated, ShutdownRuntimes, ShutdownGracePeriod, ShutdownStarted, GracefulUpgradeCloseTimeout, GracefulUpgradeTransferringFds, Running as RunningPhase}
use Rattle.svc_record.specs.declared.entry.Entry.TheVariants.{Got}
use Rattle.svc_record.specs.declared.event.Event.TheVariants.{Moment}
use Rattle.svc_record.specs.Record.{Record, now, has, is_running, signal_of, has_cut, before_cut}
use Rattle.svc_record.specs.Asks.{is_connect_open, is_send_open, is_try_open, is_try}
use Rattle.svc_record.specs.Boot.{has_begun, boots, receive_right, try_rests}
use Rattle.svc_record.specs.Drain.{Mark, phase, broadcast, marks_if, phase_number, row_by, offer_row, wait_row, with_start, due_marks, rest_end, is_some_moment, waits_are_over, PhasesRight}
use Rattle.svc_record.specs.Offer.{answer_rests, offer_right, has_offer, is_over, is_upgrade}
use Rattle.svc_boot.specs.declared.receiving.Receiving.{Receiving}
use Rattle.svc_boot.specs.declared.receiving.Receiving.TheVariants.{Unasked, Trying, Missed, Came, Refused}
use Rattle.svc_boot.specs.BootData.{BootData}
use Rattle.svc_boot.specs.BootState as boot
use Rattle.svc_offer.specs.declared.offering.Offering.{Offering}
use Rattle.svc_offer.specs.declared.offering.Offering.TheVariants as offering
use Rattle.svc_offer.specs.OfferData.{OfferData}
use Rattle.svc_offer.specs.OfferState as offer
use Rattle.svc_offer.specs.OfferDues as offers
use Rattle.svc_offer.proofs.AskLemmas.{goes_on-is}
use Rattle.svc_drain.specs.declared.stage.Stage.{Stage}
use Rattle.svc_drain.specs.declared.stage.Stage.TheVariants.{Running, Offering as OfferStage, CloseTimeout, Grace, Terminating, CutShort}
use Rattle.svc_drain.specs.DrainData.{DrainData}
use Rattle.svc_drain.specs.DrainState.{DrainStands, IsDrainSettled, is_told_far, is_cut, stage_fits, stage_marks, rest_from, rest_at, cut_row}
use Rattle.svc_drain.specs.DrainEffects.{at_moment}
use Rattle.svc_core.proofs.DueGrows.{or_none}
use Rattle.svc_base.proofs.Logic.{clash}

over_rest : (limit n : ℕ) → nat_le limit n ≡ true → nat_lt n limit ≡ false
over_rest limit n h = grind (arith, nat_tests)

-- a try is due, and none is open
missed_wrong : (x : Receiving) (t : ℕ) (asks rest tried : Bool) → boot.is_due_in x t ≡ true → asks ≡ boot.is_trying x
    → (boot.tells_rest x ≡ true → rest ≡ boot.rests_in x t) → (if boot.is_tried x then (asks || rest) else not tried) ≡ false
missed_wrong (Missed at) t asks rest tried due is rests = ap (λ b. b || rest) is ∙ rests refl ∙ over_rest 1000 (t - at) due
missed_wrong Unasked t asks rest tried due is rests = absurd (cc)
missed_wrong Trying t asks rest tried due is rests = absurd (cc)
missed_wrong Came t asks rest tried due is rests = absurd (cc)
missed_wrong (Refused reason) t asks rest tried due is rests = absurd (cc)

pub try-wrong : (p : Plan) (d : BootData) (q : Record) → boot.BootStands p d q → has_begun p q ≡ d.begun → boot.is_due_in d.receiving (now q) ≡ true
    → receive_right p q ≡ true → ⊥
try-wrong p d q stand begins due right =
    let x = stand.receiving in
    let tries : (boots p q && p.upgrade) ≡ boot.is_tried d.receiving = ap (λ b. (b && not p.test) && p.upgrade) begins ∙ sym stand.kept.tried_is in
    let wrong = ap (λ b. if b then (is_try_open q || try_rests (now q) q) else not (has is_try q)) tries
    ∙ missed_wrong d.receiving (now q) (is_try_open q) (try_rests (now q) q) (has is_try q) due x.trying_is (λ h. x.rests_is h (now q)) in
    clash (if boots p q && p.upgrade then (is_try_open q || try_rests (now q) q) else not (has is_try q)) (and_parts _ _ right).1 wrong

-- an ask of the offer is due, and none is open
offer_wrong : (x : Offering) (t : ℕ) (c s r : Bool) → offers.is_due_at x t ≡ true → (offer.is_going x ≡ true → c ≡ offer.is_connecting x)
    → (offer.is_going x ≡ true → s ≡ offer.is_sending x)
    → (offer.tells_next x ≡ true → r ≡ offer.rests_in x t) → (not (offer.is_going x) || ((c || s) || r)) ≡ false
offer_wrong offering.Unasked t c s r due con sen rests = rw (con refl, sen refl, rests refl) refl
offer_wrong offering.Connected t c s r due con sen rests = rw (con refl, sen refl, rests refl) refl
offer_wrong (offering.Absent at) t c s r due con sen rests =
    rw (con refl, sen refl, rests refl) (over_rest 1000 (t - at) (sym (or_none (nat_le 1000 (t - at))) ∙ due))
offer_wrong (offering.Delayed at) t c s r due con sen rests =
    rw (con refl, sen refl, rests refl) (over_rest 500 (t - at) (sym (or_none (nat_le 500 (t - at))) ∙ due))
offer_wrong (offering.Stalled at) t c s r due con sen rests = rw (con refl, sen refl, rests refl) (over_rest 500 (t - at) due)
offer_wrong offering.Nothing t c s r due con sen rests = absurd (cc)
offer_wrong offering.Connecting t c s r due con sen rests = absurd (cc)
offer_wrong offering.Sending t c s r due con sen rests = absurd (cc)
offer_wrong (offering.Over at) t c s r due con sen rests = absurd (cc)

pub ask-wrong : (p : Plan) (d : OfferData) (q : Record) → offer.OfferStands p d q → has_cut q ≡ false → offers.is_due_at d.state (now q) ≡ true
    → offer_right p q ≡ true → ⊥
ask-wrong p d q stand whole due right =
    clash (offer_right p q) right
    (ap (λ b. not b || ((is_connect_open q || is_send_open q) || answer_rests (now q) q)) (goes_on-is p d q stand)
    ∙ offer_wrong d.state (now q) (is_connect_open q) (is_send_open q) (answer_rests (now q) q) due
    (λ on. stand.connecting_is whole) (λ on. stand.sending_is whole) (λ h. stand.rests_is h (now q)))

-- what wasn't told any more at a later moment: the end of the rest after an offer
resting : (g : Stage) (s : Option ShutdownSignal) (over : Option ℕ) (t m : ℕ) → is_told_far g s over m ≡ true → is_told_far g s over t ≡ false
    → (g ≡ CloseTimeout) × (is_some (rest_from over t) ≡ true)
resting Running None over t m was far = absurd (cc)
resting Running (Some kind) over t m was far = absurd (cc)
resting OfferStage s over t m was far = absurd (cc)
resting CloseTimeout s over t m was far = (refl, not_false (is_some (rest_from over t)) far)
  where
    not_false : (b : Bool) → not b ≡ false → b ≡ true
    not_false b h = grind arith
resting (Grace at) s over t m was far = absurd (cc)
resting Terminating s over t m was far = absurd (cc)
resting (CutShort started) s over t m was far = absurd (cc)

upgrade_kind : (s : Option ShutdownSignal) → is_upgrade s ≡ true → s ≡ Some GracefulUpgrade
upgrade_kind (Some GracefulUpgrade) h = refl
upgrade_kind (Some FastShutdown) h = absurd (cc)
upgrade_kind (Some TerminateSignal) h = absurd (cc)
upgrade_kind None h = absurd (cc)

some_moment : (x : Option ℕ) → is_some x ≡ true → is_some_moment x ≡ true
some_moment (Some m) h = refl
some_moment None h = absurd (cc)

-- the number of the newest phase
abbrev first_number : List Mark → ℕ
first_number [] = 0
first_number (phase x ∷ more) = phase_number x
first_number (broadcast ∷ more) = 11

due_first : (w : Bool) (more others : List Mark)
    → first_number ((marks_if w (phase Terminated ∷ phase ShutdownRuntimes ∷ []) ++ ((phase ShutdownGracePeriod ∷ phase ShutdownStarted ∷ broadcast ∷ [])
    ++ more)) ++ others) ≡ 5 → ⊥
due_first true more others h = cc
due_first false more others h = cc

-- while the rest after an offer is over, its end is due
pub rest-wrong : (p : Plan) (d : DrainData) (over : Option ℕ) (q : Record) (m : ℕ) → DrainStands p d over q → is_told_far d.stage d.signal over m ≡ true
    → is_told_far d.stage d.signal over d.moment ≡ false → PhasesRight p q → ⊥
rest-wrong p d over q m stand was far right =
    let at = resting d.stage d.signal over d.moment m was far in
    let fits : stage_fits CloseTimeout d.signal d.offers over ≡ true = subst (λ g. stage_fits g d.signal d.offers over ≡ true) at.0 stand.fits in
    let parts = and_parts (is_upgrade d.signal && d.offers) (is_some over) fits in
    let kinds = and_parts (is_upgrade d.signal) d.offers parts.0 in
    let whole : is_cut d.stage ≡ false = ap is_cut at.0 in
    let uncut : has_cut q ≡ false = sym stand.cut_is ∙ whole in
    let upgrade : signal_of q ≡ Some GracefulUpgrade = sym stand.signal_is ∙ upgrade_kind d.signal kinds.0 in
    let offered : has_offer p q ≡ true = sym stand.offers_is ∙ kinds.1 in
    let rest : rest_end p q ≡ rest_from over d.moment = stand.rest_is whole kinds.1 ∙ ap (λ g. rest_at g over d.moment) at.0 in
    let ended : is_some_moment (rest_end p q) ≡ true = ap is_some_moment rest ∙ some_moment (rest_from over d.moment) at.1 in
    let row : wait_row p q ≡ offer_row p q =
    ap (λ b. if b then with_start (row_by p (before_cut q) (signal_of (before_cut q))) else row_by p q (signal_of q)) uncut
    ∙ ap (row_by p q) upgrade
    ∙ ap (λ b. if b then offer_row p q
    else phase ShutdownGracePeriod ∷ phase ShutdownStarted ∷ broadcast ∷ phase GracefulUpgradeTransferringFds ∷ []) offered in
    let more : List Mark = marks_if (is_over p q) (phase GracefulUpgradeCloseTimeout ∷ []) ++ (phase GracefulUpgradeTransferringFds ∷ []) in
    let graced : offer_row p q ≡ (phase ShutdownGracePeriod ∷ phase ShutdownStarted ∷ broadcast ∷ []) ++ more =
    ap (λ b. marks_if b (phase ShutdownGracePeriod ∷ phase ShutdownStarted ∷ broadcast ∷ []) ++ more) ended in
    let five : first_number (due_marks p q) ≡ 5 =
    ap first_number (sym right) ∙ ap first_number stand.marks_are
    ∙ ap (λ g. first_number (stage_marks g d.signal d.offers (cut_row p q) ++ marks_if d.running (phase RunningPhase ∷ []))) at.0 in
    due_first (waits_are_over p q) more (marks_if (has is_running q) (phase RunningPhase ∷ []))
    (sym (ap (λ r. first_number ((marks_if (waits_are_over p q) (phase Terminated ∷ phase ShutdownRuntimes ∷ []) ++ r)
    ++ marks_if (has is_running q) (phase RunningPhase ∷ []))) (row ∙ graced)) ∙ five)

-- time goes on
pub moment-stands : (p : Plan) (d : DrainData) (over : Option ℕ) (q : Record) (ms : ℕ) → IsDrainSettled d over → DrainStands p d over q
    → DrainStands p (at_moment ms d) over (Got (Moment ms) ∷ q)
moment-stands p d over q ms settled stand = search rules
