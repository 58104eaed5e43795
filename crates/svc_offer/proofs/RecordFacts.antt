-- What a record without an answer or a signal says of the offer, and what a later signal leaves as it was.
use Rattle.std.proofs.Common.{ℕ, Bool, true, false, ◌||◌, ◌&&◌, [], ◌∷◌, ◌≡◌, refl, ap, ◌∙◌, arith, Option, Some, None, if◌then◌else◌}
use Rattle.svc_record.specs.declared.entry.Entry.TheVariants.{Got}
use Rattle.svc_record.specs.declared.event.Event.TheVariants.{Connected, NotThere, StillConnecting, ConnectFailed, Sent, SendBusy, SendFailed, Signal}
use Rattle.svc_record.specs.declared.event.ShutdownSignal.{ShutdownSignal}
use Rattle.svc_record.specs.Record.{Record, has, times, is_signal, is_fast_signal, is_graceful, has_cut, signal_of, before_signal, first_or}
use Rattle.svc_record.specs.Offer.{is_last_answer, is_not_there, is_busy_answer, answer_rests, sends_next}
use Rattle.svc_record.proofs.CutLaws.{unsignalled-uncut}
use Rattle.svc_offer.specs.OfferState.{is_offer_answer}

-- what no answer leaves
pub record Unanswered (q : Record) : Type 0 where
  pub no_last : has is_last_answer q ≡ false
  pub no_absence : times is_not_there q ≡ 0
  pub no_delay : times is_busy_answer q ≡ 0
  pub no_rest : (t : ℕ) → answer_rests t q ≡ false
  pub no_next : sends_next q ≡ false

pub unanswered : (q : Record) → has is_offer_answer q ≡ false → Unanswered q
unanswered [] h = record { no_last = refl; no_absence = refl; no_delay = refl; no_rest = λ t. refl; no_next = refl }
unanswered (Got Connected ∷ q) h = cc
unanswered (Got NotThere ∷ q) h = cc
unanswered (Got StillConnecting ∷ q) h = cc
unanswered (Got ConnectFailed ∷ q) h = cc
unanswered (Got Sent ∷ q) h = cc
unanswered (Got SendBusy ∷ q) h = cc
unanswered (Got SendFailed ∷ q) h = cc
unanswered (_ ∷ q) h =
    let u = unanswered q h in record { no_last = u.no_last; no_absence = u.no_absence; no_delay = u.no_delay; no_rest = u.no_rest; no_next = u.no_next }

-- no signal, no kind of one
pub no-kind : (q : Record) → has is_signal q ≡ false → signal_of q ≡ None
no-kind [] h = refl
no-kind (Got (Signal kind) ∷ q) h = cc
no-kind (_ ∷ q) h = no-kind q h

first-twice : (s : Option ShutdownSignal) (a b : ShutdownSignal) → first_or (first_or s a) b ≡ first_or s a
first-twice (Some earlier) a b = refl
first-twice None a b = refl

-- a later signal isn't the first
pub later-kind : (q : Record) (kind : ShutdownSignal) → has is_signal q ≡ true → first_or (signal_of q) kind ≡ signal_of q
later-kind [] kind h = cc
later-kind (Got (Signal k) ∷ q) kind h = first-twice (signal_of q) k kind
later-kind (_ ∷ q) kind h = later-kind q kind h

if-so : (b : Bool) (x y : Record) → b ≡ true → (if b then x else y) ≡ x
if-so true x y h = refl
if-so false x y h = cc

if-not : (b : Bool) (x y : Record) → b ≡ false → (if b then x else y) ≡ y
if-not true x y h = cc
if-not false x y h = refl

pub later-before : (q : Record) (kind : ShutdownSignal) → has is_signal q ≡ true → before_signal (Got (Signal kind) ∷ q) ≡ before_signal q
later-before q kind h = if-so (has is_signal q) (before_signal q) q h

pub first-before : (q : Record) (kind : ShutdownSignal) → has is_signal q ≡ false → before_signal (Got (Signal kind) ∷ q) ≡ q
first-before q kind h = if-not (has is_signal q) (before_signal q) q h

-- without a signal there is no cut, and the first signal is none
pub uncut-none : (q : Record) → has is_signal q ≡ false → has_cut q ≡ false
uncut-none q h = unsignalled-uncut q (no-kind q h)

pub first-uncut : (q : Record) (kind : ShutdownSignal) → has is_signal q ≡ false → has_cut (Got (Signal kind) ∷ q) ≡ false
first-uncut q kind h =
    ap (λ s. (is_fast_signal (Got (Signal kind)) && is_graceful s) || has_cut q) (no-kind q h)
    ∙ none (is_fast_signal (Got (Signal kind))) (has_cut q) (uncut-none q h)
  where
    none : (f c : Bool) → c ≡ false → ((f && false) || c) ≡ false
    none f c k = grind arith

-- a graceful signal came
pub graceful-came : (q : Record) → is_graceful (signal_of q) ≡ true → has is_signal q ≡ true
graceful-came [] h = cc
graceful-came (Got (Signal kind) ∷ q) h = refl
graceful-came (_ ∷ q) h = graceful-came q h
