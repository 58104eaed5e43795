-- What is told changes nothing of what the record says on its signal and its waits; and what it says before and after a signal.
use Rattle.std.proofs.Common.{ℕ, Bool, true, false, not, ◌||◌, ◌&&◌, ◌-◌, List, [], ◌∷◌, Option, Some, None, ◌≡◌, refl, ap, sym, ◌∙◌, arith, if◌then◌else◌, is_some}
use Rattle.std.specs.Prelude.{nat_le}
use Rattle.svc_record.specs.declared.plan.Plan.{Plan}
use Rattle.svc_record.specs.declared.entry.Entry.TheVariants.{Got, Told}
use Rattle.svc_record.specs.declared.action.Action.{Action}
use Rattle.svc_record.specs.declared.event.Event.TheVariants.{Moment, Signal}
use Rattle.svc_record.specs.declared.event.ShutdownSignal.{ShutdownSignal}
use Rattle.svc_record.specs.declared.event.ShutdownSignal.TheVariants.{FastShutdown, GracefulTerminate, GracefulUpgrade}
use Rattle.svc_record.specs.Record.{Record, has, tell, now, signal_of, before_signal, first_or, is_signal, is_graceful, has_cut, before_cut}
use Rattle.svc_record.specs.Message.{encode}
use Rattle.svc_record.specs.Descriptors.{live_table}
use Rattle.svc_record.specs.Offer.{has_offer, is_over, over_moment, is_upgrade, is_empty_table, table, is_answered, is_written}
use Rattle.svc_record.specs.Drain.{Mark, rest_end, is_fast, row_by}
use Rattle.svc_drain.specs.declared.stage.Stage.{Stage}
use Rattle.svc_drain.specs.declared.stage.Stage.TheVariants.{Running, Offering, CloseTimeout, Grace, Terminating, CutShort}
use Rattle.svc_drain.specs.DrainState.{rest_from, is_cut, is_unstarted, cut_row, stage_marks}
use Rattle.svc_drain.specs.DrainEffects.{cuts}

-- r says the same as q on the moment, the signal and the offer's end
pub record Unmoved (p : Plan) (q r : Record) : Type 0 where
  pub now_is : now r ≡ now q
  pub signal_is : signal_of r ≡ signal_of q
  pub before_is : before_signal r ≡ before_signal q
  pub over_is : is_over p r ≡ is_over p q
  pub moment_is : over_moment p r ≡ over_moment p q
  pub rest_is : rest_end p r ≡ rest_end p q
  pub cut_is : has_cut r ≡ has_cut q
  pub row_is : cut_row p r ≡ cut_row p q

pub unmoved-tell : (p : Plan) (q : Record) (told : List Action) → Unmoved p q (tell q told)
unmoved-tell p q [] =
    record { now_is = refl; signal_is = refl; before_is = refl; over_is = refl; moment_is = refl; rest_is = refl; cut_is = refl; row_is = refl }
unmoved-tell p q (a ∷ told) = let u = unmoved-tell p (Told a ∷ q) told in record {
  now_is = u.now_is;
  signal_is = u.signal_is;
  before_is = u.before_is;
  over_is = u.over_is;
  moment_is = u.moment_is;
  rest_is = u.rest_is;
  cut_is = u.cut_is;
  row_is = u.row_is;
}

-- with that, what it says of an offer is the same
pub offer-is : (p : Plan) (q r : Record) → Unmoved p q r → has_offer p r ≡ has_offer p q
offer-is p q r u =
    ap (λ s. is_upgrade s && not (is_empty_table (live_table p (before_signal r)))) u.signal_is
    ∙ ap (λ b. is_upgrade (signal_of q) && not (is_empty_table (live_table p b))) u.before_is

-- there is a kind
abbrev is_kind : Option ShutdownSignal → Bool
is_kind (Some kind) = true
is_kind None = false

first-kind : (s : Option ShutdownSignal) (kind : ShutdownSignal) → is_kind (first_or s kind) ≡ true
first-kind (Some earlier) kind = refl
first-kind None kind = refl

-- a signal came exactly where there is a first
signal-kind : (q : Record) → has is_signal q ≡ is_kind (signal_of q)
signal-kind [] = refl
signal-kind (Got (Signal kind) ∷ q) = sym (first-kind (signal_of q) kind)
signal-kind (Got e ∷ q) = signal-kind q
signal-kind (Told a ∷ q) = signal-kind q

no_kind : (s : Option ShutdownSignal) → is_kind s ≡ false → s ≡ None
no_kind (Some kind) h = cc
no_kind None h = refl

pub signal-none : (q : Record) → has is_signal q ≡ false → signal_of q ≡ None
signal-none q h = no_kind (signal_of q) (sym (signal-kind q) ∙ h)

-- a later signal isn't the first
pub first-later : (q : Record) (kind : ShutdownSignal) → has is_signal q ≡ true → first_or (signal_of q) kind ≡ signal_of q
first-later q kind h = by (signal_of q) (sym (signal-kind q) ∙ h)
  where
    by : (s : Option ShutdownSignal) → is_kind s ≡ true → first_or s kind ≡ s
    by (Some earlier) k = refl
    by None k = absurd (cc)

graceful-kind : (s : Option ShutdownSignal) → is_graceful s ≡ true → is_kind s ≡ true
graceful-kind (Some kind) h = refl
graceful-kind None h = absurd (cc)

-- a graceful first signal came
pub signal-graceful : (q : Record) → is_graceful (signal_of q) ≡ true → has is_signal q ≡ true
signal-graceful q h = signal-kind q ∙ graceful-kind (signal_of q) h

-- before a signal no offer is over
pub unsignalled-over : (p : Plan) (q : Record) → signal_of q ≡ None → is_over p q ≡ false
unsignalled-over p q h =
    ap (λ s. is_upgrade s && ((not (is_empty_table (table p q)) && (not (is_written (encode (table p q))) || has_cut q)) || is_answered p q)) h

-- the first if there is one, else the other
abbrev pub or_rest : Option ℕ → Option ℕ → Option ℕ
or_rest (Some m) other = Some m
or_rest None other = other

-- the rest that ends with this moment
abbrev pub rest_now : Plan → Record → ℕ → Option ℕ
rest_now p q ms = if is_over p q && nat_le 5000 (ms - over_moment p q) then Some ms else None

-- what a moment makes of the end of the rest
pub rest-step : (p : Plan) (q : Record) (ms : ℕ) → rest_end p (Got (Moment ms) ∷ q) ≡ or_rest (rest_end p q) (rest_now p q ms)
rest-step p q ms = by (rest_end p q) refl
  where
    by : (x : Option ℕ) → rest_end p q ≡ x → rest_end p (Got (Moment ms) ∷ q) ≡ or_rest (rest_end p q) (rest_now p q ms)
    by (Some m) e = rw e refl
    by None e = rw e refl

first-none : (q : Record) (kind : ShutdownSignal) → first_or (signal_of q) kind ≡ None → true ≡ false
first-none q kind h = sym (first-kind (signal_of q) kind) ∙ ap is_kind h

-- nor does it rest
pub unsignalled-rest : (p : Plan) (q : Record) → signal_of q ≡ None → rest_end p q ≡ None
unsignalled-rest p [] h = refl
unsignalled-rest p (Got (Moment ms) ∷ q) h =
    rest-step p q ms ∙ ap (λ x. or_rest x (rest_now p q ms)) (unsignalled-rest p q h)
    ∙ ap (λ b. if b && nat_le 5000 (ms - over_moment p q) then Some ms else None) (unsignalled-over p q h)
unsignalled-rest p (Got (Signal kind) ∷ q) h = let e = first-none q kind h in absurd (cc)
unsignalled-rest p (Got e ∷ q) h = unsignalled-rest p q h
unsignalled-rest p (Told a ∷ q) h = unsignalled-rest p q h

pub no_moment : (x : Option ℕ) → not (is_some x) ≡ true → x ≡ None
no_moment None h = refl
no_moment (Some m) h = cc

-- nor at the moment at which the offer is over
pub rest-new : (over : Option ℕ) (t : ℕ) → ((at : ℕ) → over ≡ Some at → at ≡ t) → rest_from over t ≡ None
rest-new None t h = refl
rest-new (Some at) t h = ap (λ n. if nat_le 5000 n then Some t else None) (no_time (h at refl))
  where
    no_time : at ≡ t → t - at ≡ 0
    no_time e = omega (arith, e)

-- a rest that ends, ends at the moment
pub rest-ends : (over : Option ℕ) (t : ℕ) → is_some (rest_from over t) ≡ true → rest_from over t ≡ Some t
rest-ends None t h = cc
rest-ends (Some at) t h = by (nat_le 5000 (t - at)) h
  where
    by : (b : Bool) → is_some (if b then Some t else None) ≡ true → (if b then Some t else None) ≡ Some t
    by true k = refl
    by false k = cc

-- only an upgrade offers
pub fast-offers : (s : Option ShutdownSignal) (o b : Bool) → is_fast s ≡ true → o ≡ (is_upgrade s && b) → o ≡ false
fast-offers (Some FastShutdown) o b f e = e
fast-offers (Some GracefulTerminate) o b f e = cc
fast-offers (Some GracefulUpgrade) o b f e = cc
fast-offers None o b f e = cc

-- a signal is a cut by its kind and the first one
pub cut-signal : (q : Record) (kind : ShutdownSignal) → has_cut (Got (Signal kind) ∷ q) ≡ (cuts (signal_of q) kind || has_cut q)
cut-signal q FastShutdown = refl
cut-signal q GracefulTerminate = refl
cut-signal q GracefulUpgrade = refl

cuts-none : (kind : ShutdownSignal) → cuts None kind ≡ false
cuts-none FastShutdown = refl
cuts-none GracefulTerminate = refl
cuts-none GracefulUpgrade = refl

-- the first signal is none
pub uncut-first : (q : Record) (kind : ShutdownSignal) → signal_of q ≡ None → has_cut (Got (Signal kind) ∷ q) ≡ has_cut q
uncut-first q kind none = cut-signal q kind ∙ ap (λ b. b || has_cut q) (ap (λ s. cuts s kind) none ∙ cuts-none kind)

-- what stands before a cut stays so
pub before-later : (q : Record) (kind : ShutdownSignal) → has_cut q ≡ true → before_cut (Got (Signal kind) ∷ q) ≡ before_cut q
before-later q FastShutdown h = ap (λ b. if b then before_cut q else q) h
before-later q GracefulTerminate h = refl
before-later q GracefulUpgrade h = refl

pub row-later : (p : Plan) (q : Record) (kind : ShutdownSignal) → has_cut q ≡ true → cut_row p (Got (Signal kind) ∷ q) ≡ cut_row p q
row-later p q kind h = ap (λ (x : Record). row_by p x (signal_of x)) (before-later q kind h)

-- only at a cut the row before it counts
pub same-row : (g : Stage) (s : Option ShutdownSignal) (o : Bool) (row other : List Mark) → (is_cut g ≡ true → row ≡ other)
    → stage_marks g s o row ≡ stage_marks g s o other
same-row Running s o row other h = refl
same-row Offering s o row other h = refl
same-row CloseTimeout s o row other h = refl
same-row (Grace at) (Some GracefulUpgrade) true row other h = refl
same-row (Grace at) (Some GracefulUpgrade) false row other h = refl
same-row (Grace at) (Some GracefulTerminate) o row other h = refl
same-row (Grace at) (Some FastShutdown) o row other h = refl
same-row (Grace at) None o row other h = refl
same-row Terminating s o row other h = refl
same-row (CutShort started) s o row other h = ap (stage_marks (CutShort started) s o) (h refl)

pub cut-unstarted : (g : Stage) → is_unstarted g ≡ true → is_cut g ≡ true
cut-unstarted (CutShort started) h = refl
cut-unstarted Running h = cc
cut-unstarted Offering h = cc
cut-unstarted CloseTimeout h = cc
cut-unstarted (Grace at) h = cc
cut-unstarted Terminating h = cc
