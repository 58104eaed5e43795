-- The waits and the offer stand as before, whatever is told.
use Rattle.std.proofs.Common.{ℕ, Bool, false, not, ◌&&◌, ◌||◌, ◌++◌, List, [], ◌∷◌, Option, Some, None, ◌≡◌, ◌∙◌, refl, sym, ap, if◌then◌else◌}
use Rattle.svc_record.specs.declared.plan.Plan.{Plan}
use Rattle.svc_record.specs.declared.action.Action.{Action}
use Rattle.svc_record.specs.declared.action.ExecutionPhase.TheVariants.{Running, ShutdownRuntimes, Terminated}
use Rattle.svc_record.specs.declared.event.ShutdownSignal.{ShutdownSignal}
use Rattle.svc_record.specs.declared.event.ShutdownSignal.TheVariants.{FastShutdown, GracefulTerminate, GracefulUpgrade}
use Rattle.svc_record.specs.Record.{Record, has, tell, now, is_running, signal_of, before_signal, has_cut}
use Rattle.svc_record.specs.Message.{encode}
use Rattle.svc_record.specs.Descriptors.{live_table}
use Rattle.svc_record.specs.Offer.{is_upgrade, is_empty_table, is_written, has_offer, is_answered, is_over, is_offered, is_held_back, goes_on}
use Rattle.svc_record.specs.Drain.{Mark, phase, rest_end, grace_over, signal_grace_over, offer_grace_over, has_passed_by, waits_are_over, marks_if, offer_row, row_by, wait_row, due_marks}
use Rattle.svc_laws.proofs.ToldLemmas.{kept}

-- what the waits and the offer look at is in both the same
pub record SameWaits (p : Plan) (b q : Record) : Type 0 where
  pub signal : signal_of q ≡ signal_of b
  pub cut : has_cut q ≡ has_cut b
  pub before : before_signal q ≡ before_signal b
  pub time : now q ≡ now b
  pub rest : rest_end p q ≡ rest_end p b
  pub answered : is_answered p q ≡ is_answered p b

pub same-waits : (p : Plan) (b : Record) (told : List Action) → SameWaits p b (tell b told)
same-waits p b told = record {
  signal = kept signal_of (λ a q. refl) told b;
  cut = kept has_cut (λ a q. refl) told b;
  before = kept before_signal (λ a q. refl) told b;
  time = kept now (λ a q. refl) told b;
  rest = kept (rest_end p) (λ a q. refl) told b;
  answered = kept (is_answered p) (λ a q. refl) told b;
}

-- `is_over` by what it looks at
over_by : Plan → Option ShutdownSignal → Record → Bool → Bool → Bool
over_by p s t c a = is_upgrade s && ((not (is_empty_table (live_table p t)) && (not (is_written (encode (live_table p t))) || c)) || a)

pub over-same : (p : Plan) (b q : Record) → SameWaits p b q → is_over p q ≡ is_over p b
unfolding over_by
over-same p b q w = ap (λ s. over_by p s (before_signal q) (has_cut q) (is_answered p q)) w.signal
    ∙ (ap (λ t. over_by p (signal_of b) t (has_cut q) (is_answered p q)) w.before
    ∙ (ap (λ c. over_by p (signal_of b) (before_signal b) c (is_answered p q)) w.cut
    ∙ ap (λ a. over_by p (signal_of b) (before_signal b) (has_cut b) a) w.answered))

-- `has_offer` by what it looks at
offer_by : Plan → Option ShutdownSignal → Record → Bool
offer_by p s t = is_upgrade s && not (is_empty_table (live_table p t))

offer-same : (p : Plan) (b q : Record) → SameWaits p b q → has_offer p q ≡ has_offer p b
unfolding offer_by
offer-same p b q w = ap (λ s. offer_by p s (before_signal q)) w.signal ∙ ap (λ t. offer_by p (signal_of b) t) w.before

-- `goes_on` by what it looks at
going_by : Plan → Bool → Record → Bool → Bool
going_by p o t over = (o && is_written (encode (live_table p t))) && not over

pub going-same : (p : Plan) (b q : Record) → SameWaits p b q → goes_on p q ≡ goes_on p b
unfolding going_by
going-same p b q w = ap (λ o. going_by p o (before_signal q) (is_over p q)) (offer-same p b q w)
    ∙ (ap (λ t. going_by p (has_offer p b) t (is_over p q)) w.before ∙ ap (λ x. going_by p (has_offer p b) (before_signal b) x) (over-same p b q w))

offered-same : (p : Plan) (b q : Record) (fd : ℕ) → SameWaits p b q → is_offered p q fd ≡ is_offered p b fd
offered-same p b q fd w = rw (w.signal, w.before) refl

pub held_back-same : (p : Plan) (b q : Record) (fd : ℕ) → SameWaits p b q → is_held_back p q fd ≡ is_held_back p b fd
held_back-same p b q fd w = ap (λ x. x && not (is_over p q)) (offered-same p b q fd w) ∙ ap (λ x. is_offered p b fd && not x) (over-same p b q w)

grace-same : (p : Plan) (b q : Record) → SameWaits p b q → offer_grace_over p q ≡ offer_grace_over p b
grace-same p b q w = by (rest_end p b) w.rest refl
  where
    by : (o : Option ℕ) → rest_end p q ≡ o → rest_end p b ≡ o → offer_grace_over p q ≡ offer_grace_over p b
    by (Some m) x y = rw (x, y) (ap (λ t. grace_over p t m) w.time)
    by None x y = rw (x, y) refl

signal_grace-same : (p : Plan) (b q : Record) → SameWaits p b q → signal_grace_over p q ≡ signal_grace_over p b
signal_grace-same p b q w = ap (λ t. grace_over p t (now (before_signal q))) w.time ∙ ap (λ (x : Record). grace_over p (now b) (now x)) w.before

if_same : {X : Type 0} (c d : Bool) (x y z w : X) → c ≡ d → x ≡ y → z ≡ w → (if c then x else z) ≡ (if d then y else w)
if_same c d x y z w e f g = rw (e, f, g) refl

by-same : (p : Plan) (b q : Record) → SameWaits p b q → (s : Option ShutdownSignal) → has_passed_by p q s ≡ has_passed_by p b s
by-same p b q w None = refl
by-same p b q w (Some FastShutdown) = refl
by-same p b q w (Some GracefulTerminate) = signal_grace-same p b q w
by-same p b q w (Some GracefulUpgrade) = if_same _ _ _ _ _ _ (offer-same p b q w) (grace-same p b q w) (signal_grace-same p b q w)

pub passed-same : (p : Plan) (b q : Record) → SameWaits p b q → waits_are_over p q ≡ waits_are_over p b
passed-same p b q w = ap (λ c. c || has_passed_by p q (signal_of q)) w.cut
    ∙ (ap (λ s. has_cut b || has_passed_by p q s) w.signal ∙ ap (λ x. has_cut b || x) (by-same p b q w (signal_of b)))

offer_row-same : (p : Plan) (b q : Record) → SameWaits p b q → offer_row p q ≡ offer_row p b
offer_row-same p b q w = rw (w.rest, over-same p b q w) refl

row_by-same : (p : Plan) (b q : Record) → SameWaits p b q → (s : Option ShutdownSignal) → row_by p q s ≡ row_by p b s
row_by-same p b q w None = refl
row_by-same p b q w (Some FastShutdown) = refl
row_by-same p b q w (Some GracefulTerminate) = refl
row_by-same p b q w (Some GracefulUpgrade) = if_same _ _ _ _ _ _ (offer-same p b q w) (offer_row-same p b q w) refl

-- where no cut came
wait_row-at : (p : Plan) (q : Record) → has_cut q ≡ false → wait_row p q ≡ row_by p q (signal_of q)
wait_row-at p q uncut = rw uncut refl

wait_row-same : (p : Plan) (b q : Record) → SameWaits p b q → has_cut b ≡ false → wait_row p q ≡ wait_row p b
wait_row-same p b q w uncut = wait_row-at p q (w.cut ∙ uncut) ∙ (ap (row_by p q) w.signal ∙ (row_by-same p b q w (signal_of b) ∙ sym (wait_row-at p b uncut)))

-- `due_marks` by what it looks at
due_by : Bool → List Mark → Bool → List Mark
due_by passed row running = (marks_if passed (phase Terminated ∷ phase ShutdownRuntimes ∷ []) ++ row) ++ marks_if running (phase Running ∷ [])

pub due-same : (p : Plan) (b q : Record) → SameWaits p b q → has_cut b ≡ false → has is_running q ≡ has is_running b → due_marks p q ≡ due_marks p b
unfolding due_by
due-same p b q w uncut runs = ap (λ x. due_by x (wait_row p q) (has is_running q)) (passed-same p b q w)
    ∙ (ap (λ r. due_by (waits_are_over p b) r (has is_running q)) (wait_row-same p b q w uncut) ∙ ap (λ x. due_by (waits_are_over p b) (wait_row p b) x) runs)
