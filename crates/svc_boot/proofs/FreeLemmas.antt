-- What says that a server goes on, and what is settled while it doesn't.
use Rattle.std.proofs.Common.{ℕ, Bool, true, false, not, ◌&&◌, [], ◌∷◌, length, ◌≡◌, refl, sym, ◌∙◌, subst, inl, inr, if◌then◌else◌}
use Rattle.std.specs.Prelude.{nat_le, nat_lt}
use Rattle.std.specs.List.{list_all}
use Rattle.std.proofs.lemmas.Bool.{and_parts, cases_Bool, or_left, or_right}
use Rattle.svc_graph.specs.declared.plan.Kind.TheVariants.{Notifying}
use Rattle.svc_record.specs.declared.plan.Plan.{Plan}
use Rattle.svc_record.specs.declared.entry.Entry.{Entry}
use Rattle.svc_record.specs.declared.entry.Entry.TheVariants.{Got, Told}
use Rattle.svc_record.specs.declared.action.Action.TheVariants.{Daemonize}
use Rattle.svc_record.specs.declared.event.Event.{Event}
use Rattle.svc_record.specs.declared.event.Event.TheVariants.{Moment, Ready, Ended, Bound, InUse, BindFailed, Adopted, AdoptFailed, Received, NoSenderYet, ReceiveFailed, Connected, NotThere, StillConnecting, ConnectFailed, Sent, SendBusy, SendFailed, Arrived, AcceptFailed, Set, Shaken, Finished, LoopEnded, Signal, Side, ChildReady, ChildGone, DropFailed}
use Rattle.svc_record.specs.declared.action.StepEnd.TheVariants.{Tested}
use Rattle.svc_record.specs.Record.{Record, has, is_running}
use Rattle.svc_record.specs.Plans.{has_kind, endpoint_numbers, is_endpoint}
use Rattle.svc_record.specs.Asks.{is_open, is_bind, is_bind_answer, is_bind_open, is_adopt, is_adopt_answer, is_adopt_open, is_try, is_try_answer, is_try_open, is_connect, is_connect_answer, is_send, is_send_answer, is_settings, is_set, is_handshake, is_shaken}
use Rattle.svc_record.specs.Starts.{is_start, is_started, is_ready_event, is_ended_event}
use Rattle.svc_record.specs.Failed.{has_failed}
use Rattle.svc_record.specs.Endpoints.{is_held, is_at_work, serves}
use Rattle.svc_record.specs.Closes.{is_broadcast, is_loop_end, have_loops_ended}
use Rattle.svc_record.specs.Connections.{is_arrival, is_serve, is_live_connection}
use Rattle.svc_record.specs.Fits.{is_new, are_new, may_end, accepts, fits_row}
use Rattle.svc_boot.specs.BootData.{BootData}
use Rattle.svc_boot.specs.ForkState.{is_forked, is_parent_over, may_run, is_other_told}
use Rattle.svc_boot.specs.BootState.{BootStands}
use Rattle.svc_boot.specs.BootEffects.{end_of, early_end}
use Rattle.svc_boot.specs.BootFacts.{IsBootSettled, is_fork_event}
use Rattle.svc_boot.proofs.BootEnds.{held-is, unbegun-is}
use Rattle.svc_boot.proofs.BeginLemmas.{fresh, as-fresh}

-- where the test passes an entry that tells something else than the fork, and passes some entry, the server goes on
pub told-free : (p : Plan) (d : BootData) (q : Record) (test : Entry → Bool) → BootStands p d q → ((e : Entry) → test e ≡ true → is_other_told e ≡ true)
    → has test q ≡ true → may_run p d.fork ≡ true
told-free p d q test stand other told = elim (cases_Bool (may_run p d.fork)) [
  | inl free ↦ free
  | inr awaits ↦ absurd (let none = held-is p d q stand test other awaits in cc)
]

-- an ask that is open was told
pub open-told : (ask answer : Entry → Bool) (q : Record) → is_open ask answer q ≡ true → has ask q ≡ true
open-told ask answer [] h = cc
open-told ask answer (e ∷ q) h = elim (cases_Bool (ask e)) [
  | inl here ↦ or_left (ask e) (has ask q) here
  | inr other ↦ elim (cases_Bool (answer e)) [
    | inl closed ↦ absurd (let never : false ≡ true = rw (other, closed) at h in cc)
    | inr on ↦ or_right (ask e) (has ask q) (open-told ask answer q (rw (other, on) at h))
  ]
]

start-other : (s : ℕ) (e : Entry) → is_start s e ≡ true → is_other_told e ≡ true
start-other s (Told Daemonize) h = cc
start-other s (Told a) h = refl
start-other s (Got e) h = cc

bind-other : (s i : ℕ) (e : Entry) → is_bind s i e ≡ true → is_other_told e ≡ true
bind-other s i (Told Daemonize) h = cc
bind-other s i (Told a) h = refl
bind-other s i (Got e) h = cc

adopt-other : (s i : ℕ) (e : Entry) → is_adopt s i e ≡ true → is_other_told e ≡ true
adopt-other s i (Told Daemonize) h = cc
adopt-other s i (Told a) h = refl
adopt-other s i (Got e) h = cc

try-other : (e : Entry) → is_try e ≡ true → is_other_told e ≡ true
try-other (Told Daemonize) h = cc
try-other (Told a) h = refl
try-other (Got e) h = cc

connect-other : (e : Entry) → is_connect e ≡ true → is_other_told e ≡ true
connect-other (Told Daemonize) h = cc
connect-other (Told a) h = refl
connect-other (Got e) h = cc

send-other : (e : Entry) → is_send e ≡ true → is_other_told e ≡ true
send-other (Told Daemonize) h = cc
send-other (Told a) h = refl
send-other (Got e) h = cc

settings-other : (c : ℕ) (e : Entry) → is_settings c e ≡ true → is_other_told e ≡ true
settings-other c (Told Daemonize) h = cc
settings-other c (Told a) h = refl
settings-other c (Got e) h = cc

handshake-other : (c : ℕ) (e : Entry) → is_handshake c e ≡ true → is_other_told e ≡ true
handshake-other c (Told Daemonize) h = cc
handshake-other c (Told a) h = refl
handshake-other c (Got e) h = cc

serve-other : (c : ℕ) (e : Entry) → is_serve c e ≡ true → is_other_told e ≡ true
serve-other c (Told Daemonize) h = cc
serve-other c (Told a) h = refl
serve-other c (Got e) h = cc

broadcast-other : (e : Entry) → is_broadcast e ≡ true → is_other_told e ≡ true
broadcast-other (Told Daemonize) h = cc
broadcast-other (Told a) h = refl
broadcast-other (Got e) h = cc

running-other : (e : Entry) → is_running e ≡ true → is_other_told e ≡ true
running-other (Told Daemonize) h = cc
running-other (Told a) h = refl
running-other (Got e) h = cc

-- an event that isn't of the fork fits only where the server goes on
module _ (p : Plan) (d : BootData) (q : Record) (stand : BootStands p d q) where
  started-free : (s : ℕ) → is_started q s ≡ true → may_run p d.fork ≡ true
  started-free s started = told-free p d q (is_start s) stand (start-other s) started

  bind-free : (s i : ℕ) → is_bind_open q s i ≡ true → may_run p d.fork ≡ true
  bind-free s i asked = told-free p d q (is_bind s i) stand (bind-other s i) (open-told (is_bind s i) (is_bind_answer s i) q asked)

  adopt-free : (s i : ℕ) → is_adopt_open q s i ≡ true → may_run p d.fork ≡ true
  adopt-free s i asked = told-free p d q (is_adopt s i) stand (adopt-other s i) (open-told (is_adopt s i) (is_adopt_answer s i) q asked)

  try-free : is_try_open q ≡ true → may_run p d.fork ≡ true
  try-free asked = told-free p d q is_try stand try-other (open-told is_try is_try_answer q asked)

  connect-free : is_open is_connect is_connect_answer q ≡ true → may_run p d.fork ≡ true
  connect-free asked = told-free p d q is_connect stand connect-other (open-told is_connect is_connect_answer q asked)

  send-free : is_open is_send is_send_answer q ≡ true → may_run p d.fork ≡ true
  send-free asked = told-free p d q is_send stand send-other (open-told is_send is_send_answer q asked)

  serves-free : (s : ℕ) → serves p q s ≡ true → may_run p d.fork ≡ true
  serves-free s h =
      started-free s
      (and_parts (is_started q s) (not (has_failed p q s)) (and_parts (is_at_work p q s) (list_all (is_held p q s) (endpoint_numbers p s)) h).0).0

  accepts-free : (s i : ℕ) → accepts p q s i ≡ true → may_run p d.fork ≡ true
  accepts-free s i h =
      serves-free s (and_parts (serves p q s) (is_endpoint p s i) (and_parts (serves p q s && is_endpoint p s i) (not (have_loops_ended p q s i)) h).0).0

  pub fit-free : (e : Event) → is_fork_event e ≡ false → fits_row p q e ≡ true → may_run p d.fork ≡ true
  fit-free (Moment ms) other fit = cc
  fit-free (Side side) other fit = cc
  fit-free ChildReady other fit = cc
  fit-free ChildGone other fit = cc
  fit-free DropFailed other fit = cc
  fit-free (Ready s) other fit =
      started-free s
      (and_parts (has_kind p Notifying s) (is_started q s) (and_parts (has_kind p Notifying s && is_started q s) (not (has (is_ready_event s) q)) fit).0).1
  fit-free (Ended s) other fit =
      started-free s (and_parts (may_end p s) (is_started q s) (and_parts (may_end p s && is_started q s) (not (has (is_ended_event s) q)) fit).0).1
  fit-free (Bound s i fd) other fit = bind-free s i (and_parts (is_bind_open q s i) (is_new q fd) fit).0
  fit-free (InUse s i) other fit = bind-free s i fit
  fit-free (BindFailed s i) other fit = bind-free s i fit
  fit-free (Adopted s i) other fit = adopt-free s i fit
  fit-free (AdoptFailed s i) other fit = adopt-free s i fit
  fit-free (Received bytes fds) other fit =
      try-free (and_parts (is_try_open q) (nat_le (length fds) 32) (and_parts (is_try_open q && nat_le (length fds) 32) (are_new q fds) fit).0).0
  fit-free NoSenderYet other fit = try-free fit
  fit-free ReceiveFailed other fit = try-free fit
  fit-free Connected other fit = connect-free fit
  fit-free NotThere other fit = connect-free fit
  fit-free StillConnecting other fit = connect-free fit
  fit-free ConnectFailed other fit = connect-free fit
  fit-free Sent other fit = send-free fit
  fit-free SendBusy other fit = send-free fit
  fit-free SendFailed other fit = send-free fit
  fit-free (Arrived s i c peer) other fit = accepts-free s i (and_parts (accepts p q s i) (not (has (is_arrival c) q)) fit).0
  fit-free (AcceptFailed s i n) other fit = accepts-free s i fit
  fit-free (Set c ok) other fit = told-free p d q (is_settings c) stand (settings-other c) (open-told (is_settings c) (is_set c) q fit)
  fit-free (Shaken c ok) other fit = told-free p d q (is_handshake c) stand (handshake-other c) (open-told (is_handshake c) (is_shaken c) q fit)
  fit-free (Finished c) other fit = told-free p d q (is_serve c) stand (serve-other c) (and_parts (has (is_serve c) q) (is_live_connection q c) fit).0
  fit-free (LoopEnded s i j) other fit = told-free p d q is_broadcast stand broadcast-other
      (and_parts (has is_broadcast q) (serves p q s)
      (and_parts (has is_broadcast q && serves p q s) (is_endpoint p s i)
      (and_parts ((has is_broadcast q && serves p q s) && is_endpoint p s i) (nat_lt j p.tasks && not (has (is_loop_end s i j) q)) fit).0).0).0
  fit-free (Signal kind) other fit = told-free p d q is_running stand running-other fit

fresh-settled : (p : Plan) (d : BootData) (t : ℕ) → is_forked d.fork ≡ p.daemon → is_parent_over d.fork ≡ false → IsBootSettled p (fresh d.fork d.retries) t
fresh-settled p d t forks on = record {
  forked_is = forks;
  no_parent_over = on;
  goes_on = refl;
  no_try_due = refl;
  complete_is = refl;
}

-- while a server awaits its fork, or a parent its child, all is told that is due
pub held-settled : (p : Plan) (d : BootData) (q : Record) → BootStands p d q → may_run p d.fork ≡ false → is_forked d.fork ≡ true
    → is_parent_over d.fork ≡ false → (t : ℕ) → IsBootSettled p d t
held-settled p d q stand awaits forks on t =
    subst (λ (x : BootData). IsBootSettled p x t) (sym (as-fresh p d stand.kept (unbegun-is p d q stand awaits)))
    (fresh-settled p d t (forks ∙ sym (stand.fork.daemon_is forks)) on)

-- the run ends then by the parent's end alone
pub held-end : (p : Plan) (d : BootData) (q : Record) → BootStands p d q → may_run p d.fork ≡ false → end_of p d ≡ early_end d.fork d.receiving
held-end p d q stand awaits = untested p.test d.begun (unbegun-is p d q stand awaits)
  where
    untested : (test begun : Bool) → begun ≡ false → (if test && begun then Tested else early_end d.fork d.receiving) ≡ early_end d.fork d.receiving
    untested true begun h = rw h refl
    untested false begun h = refl
