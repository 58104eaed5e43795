-- A moment leaves what is asked of a record in which nothing rests, while the run goes on.
use Rattle.std.proofs.Common.{ℕ, Bool, true, false, not, ◌&&◌, ◌||◌, ◌==◌, ◌++◌, ◌-◌, nat_lt, nat_le, arith, List, [], ◌∷◌, inl, inr, ◌≡◌, refl, sym, ap, ◌∙◌, eqb-true, Option, Some, None, if◌then◌else◌}
use Rattle.std.specs.List.{list_any, list_all}
use Rattle.std.proofs.lemmas.Bool.{false≢true, cases_Bool, lt-ltb}
use Rattle.svc_record.specs.declared.plan.Plan.{Plan}
use Rattle.svc_record.specs.declared.entry.Entry.TheVariants.{Got, Told}
use Rattle.svc_record.specs.declared.event.Event.TheVariants.{Moment, Bound, InUse, BindFailed, Received, NoSenderYet, ReceiveFailed}
use Rattle.svc_record.specs.declared.action.Action.TheVariants.{Bind}
use Rattle.svc_record.specs.declared.event.ShutdownSignal.{ShutdownSignal}
use Rattle.svc_record.specs.declared.event.ShutdownSignal.TheVariants.{FastShutdown, GracefulTerminate, GracefulUpgrade}
use Rattle.svc_record.specs.declared.action.ExecutionPhase.TheVariants.{Running, ShutdownRuntimes, Terminated}
use Rattle.svc_record.specs.Record.{Record, has, now, once_if, signal_of, has_cut, before_cut, is_running, is_bootstrap, from_the_start, each_entry}
use Rattle.svc_record.specs.Plans.{services, endpoint_numbers, address, same_address}
use Rattle.svc_record.specs.Descriptors.{has_live, one_live}
use Rattle.svc_record.specs.Failed.{has_failed}
use Rattle.svc_record.specs.Starts.{starts_right, start_due}
use Rattle.svc_record.specs.Asks.{is_ask_open, is_daemonize, is_try, is_try_open}
use Rattle.svc_record.specs.Endpoints.{is_held, holds, in_use_within, is_at_work, rests, is_busy, is_busy_elsewhere, waits_at, first_missing, waits_from, waits, endpoint_right, endpoint_right_late, endpoints_right, endpoints_right_late}
use Rattle.svc_record.specs.Boot.{is_notify, is_open_receiver, has_begun, boots, try_rests, stands_first, fork_first, complete_right, runs, start_after_boot, boot_right}
use Rattle.svc_record.specs.Offer.{is_upgrade, table, is_empty_table, is_written, is_over, goes_on, offer_right, offer_due}
use Rattle.svc_record.specs.Message.{encode}
use Rattle.svc_record.specs.Closes.{closes_right}
use Rattle.svc_record.specs.Connections.{conn_right}
use Rattle.svc_record.specs.Drain.{Mark, phase, told_marks, row_by, with_start, wait_row, marks_if, waits_are_over, same_marks, phases_right, moment_right, is_ending}
use Rattle.svc_record.specs.Right.{in_service, open_right}
use Rattle.svc_record.proofs.Sound.{both}
use Rattle.svc_judge.specs.Still.{awaits_sender, is_last_in_use, has_in_use, is_still}

or_left : (a b : Bool) → a ≡ true → (a || b) ≡ true
or_left true b h = refl
or_left false b h = absurd (false≢true h)

pub or_right : (a b : Bool) → b ≡ true → (a || b) ≡ true
or_right true b h = refl
or_right false b h = h

pub not_true : (b : Bool) → not b ≡ true → b ≡ false
not_true true h = absurd (false≢true h)
not_true false h = refl

pick : (b u v x y : Bool) → (if b then u else x) ≡ true → (u ≡ true → v ≡ true) → (x ≡ true → y ≡ true) → (if b then v else y) ≡ true
pick true u v x y h f g = f h
pick false u v x y h f g = g h

other : (b x : Bool) → (if b then false else x) ≡ true → x ≡ true
other true x h = absurd (false≢true h)
other false x h = h

-- what rests at a moment rests at the first
at_zero : (t : ℕ) (q : Record) (s i : ℕ) → in_use_within t q s i ≡ true → in_use_within 0 q s i ≡ true
at_zero t [] s i h = absurd (false≢true h)
at_zero t (Told (Bind a b) ∷ q) s i h =
    pick (a == s && b == i) false false (in_use_within t q s i) (in_use_within 0 q s i) h (λ k. k) (at_zero t q s i)
at_zero t (Got (InUse a b) ∷ q) s i h =
    pick (a == s && b == i) (nat_lt (t - now q) 1000) (nat_lt (0 - now q) 1000) (in_use_within t q s i) (in_use_within 0 q s i) h
    (λ k. lt-ltb (0 - now q) 1000 (omega arith)) (at_zero t q s i)
at_zero t (Got (Bound a b fd) ∷ q) s i h =
    pick (a == s && b == i) false false (in_use_within t q s i) (in_use_within 0 q s i) h (λ k. k) (at_zero t q s i)
at_zero t (Got (BindFailed a b) ∷ q) s i h =
    pick (a == s && b == i) false false (in_use_within t q s i) (in_use_within 0 q s i) h (λ k. k) (at_zero t q s i)
at_zero t (_ ∷ q) s i h = at_zero t q s i h

same_endpoint : (w : Record) (a b s i : ℕ) → (a == s && b == i) ≡ true → in_use_within 0 w s i ≡ true → in_use_within 0 w a b ≡ true
same_endpoint w a b s i y h = let k = both (a == s) (b == i) y in rw (eqb-true a s k.0, eqb-true b i k.1) h

-- what rests was found in use
found : (w : Record) (t : ℕ) (q : Record) (s i : ℕ) → in_use_within 0 w s i ≡ true → in_use_within t q s i ≡ true → has (is_last_in_use w) q ≡ true
found w t [] s i h g = absurd (false≢true g)
found w t (Told (Bind a b) ∷ q) s i h g = found w t q s i h (other (a == s && b == i) (in_use_within t q s i) g)
found w t (Got (InUse a b) ∷ q) s i h g = elim (cases_Bool (a == s && b == i)) [
  | inl y ↦ or_left (in_use_within 0 w a b) (has (is_last_in_use w) q) (same_endpoint w a b s i y h)
  | inr n ↦
      (let k : in_use_within t q s i ≡ true = rw (n) at g in
      or_right (in_use_within 0 w a b) (has (is_last_in_use w) q) (found w t q s i h k))
]
found w t (Got (Bound a b fd) ∷ q) s i h g = found w t q s i h (other (a == s && b == i) (in_use_within t q s i) g)
found w t (Got (BindFailed a b) ∷ q) s i h g = found w t q s i h (other (a == s && b == i) (in_use_within t q s i) g)
found w t (_ ∷ q) s i h g = found w t q s i h g

none_within : (q : Record) → has_in_use q ≡ false → (t s i : ℕ) → in_use_within t q s i ≡ false
none_within q h t s i = elim (cases_Bool (in_use_within t q s i)) [
  | inl y ↦ absurd (false≢true (sym h ∙ found q t q s i (at_zero t q s i y) y))
  | inr n ↦ n
]

try_same : (t u : ℕ) (q : Record) → awaits_sender q ≡ false → try_rests t q ≡ try_rests u q
try_same t u [] h = refl
try_same t u (Got (Received bytes fds) ∷ q) h = refl
try_same t u (Got NoSenderYet ∷ q) h = absurd (false≢true (sym h))
try_same t u (Got ReceiveFailed ∷ q) h = refl
try_same t u (_ ∷ q) h = try_same t u q h

-- what doesn't rest
record NoneRest (q : Record) : Type 0 where
  offer : is_upgrade (signal_of q) ≡ false
  tries : awaits_sender q ≡ false
  binds : has_in_use q ≡ false

none_rest : (q : Record) → is_still q ≡ true → NoneRest q
none_rest q h =
    let parts = both (not (is_upgrade (signal_of q)) && not (awaits_sender q)) (not (has_in_use q)) h in
    let first = both (not (is_upgrade (signal_of q))) (not (awaits_sender q)) parts.0 in
    record {
      offer = not_true (is_upgrade (signal_of q)) first.0;
      tries = not_true (awaits_sender q) first.1;
      binds = not_true (has_in_use q) parts.1;
    }

pub any_same : (f g : ℕ → Bool) → ((n : ℕ) → f n ≡ g n) → (ns : List ℕ) → list_any f ns ≡ list_any g ns
any_same f g h [] = refl
any_same f g h (n ∷ ns) = ap (λ b. b || list_any f ns) (h n) ∙ ap (λ b. g n || b) (any_same f g h ns)

pub all_same : (f g : ℕ → Bool) → ((n : ℕ) → f n ≡ g n) → (ns : List ℕ) → list_all f ns ≡ list_all g ns
all_same f g h [] = refl
all_same f g h (n ∷ ns) = ap (λ b. b && list_all f ns) (h n) ∙ ap (λ b. g n && b) (all_same f g h ns)

rests_same : (p : Plan) (ms : ℕ) (r : Record) → has_in_use r ≡ false → (s i : ℕ) → rests p (Got (Moment ms) ∷ r) s i ≡ rests p r s i
rests_same p ms r h s i =
    ap (λ b. ((not (has_failed p r s) && not (is_held p r s i)) && b) && not (has_live p r (address p s i)))
    (none_within r h ms s i ∙ sym (none_within r h (now r) s i))

busy_same : (p : Plan) (ms : ℕ) (r : Record) → has_in_use r ≡ false → (s i : ℕ) → is_busy p (Got (Moment ms) ∷ r) s i ≡ is_busy p r s i
busy_same p ms r h s i = ap (λ b. is_ask_open r s i || b) (rests_same p ms r h s i)

elsewhere_same : (p : Plan) (ms : ℕ) (r : Record) → has_in_use r ≡ false → (a : Option (List ℕ))
    → is_busy_elsewhere p (Got (Moment ms) ∷ r) a ≡ is_busy_elsewhere p r a
elsewhere_same p ms r h a =
    let q : Record = Got (Moment ms) ∷ r in
    any_same (λ t. list_any (λ k. same_address (address p t k) a && (is_at_work p q t && is_busy p q t k)) (endpoint_numbers p t))
    (λ t. list_any (λ k. same_address (address p t k) a && (is_at_work p r t && is_busy p r t k)) (endpoint_numbers p t))
    (λ t. any_same (λ k. same_address (address p t k) a && (is_at_work p q t && is_busy p q t k))
    (λ k. same_address (address p t k) a && (is_at_work p r t && is_busy p r t k))
    (λ k. ap (λ b. same_address (address p t k) a && (is_at_work p r t && b)) (busy_same p ms r h t k)) (endpoint_numbers p t))
    (services p)

waits_at_same : (p : Plan) (ms : ℕ) (r : Record) → has_in_use r ≡ false → (s j : ℕ) → waits_at p (Got (Moment ms) ∷ r) s j ≡ waits_at p r s j
waits_at_same p ms r h s j =
    let q : Record = Got (Moment ms) ∷ r in
    ap (λ b. b || (not (has_live p r (address p s j)) && is_busy_elsewhere p q (address p s j))) (busy_same p ms r h s j)
    ∙ ap (λ b. is_busy p r s j || (not (has_live p r (address p s j)) && b)) (elsewhere_same p ms r h (address p s j))

waits_from_same : (p : Plan) (ms : ℕ) (r : Record) → has_in_use r ≡ false → (s i : ℕ) (o : Option ℕ)
    → waits_from p (Got (Moment ms) ∷ r) s i o ≡ waits_from p r s i o
waits_from_same p ms r h s i None = refl
waits_from_same p ms r h s i (Some j) = ap (λ b. nat_le j i && b) (waits_at_same p ms r h s j)

waits_same : (p : Plan) (ms : ℕ) (r : Record) → has_in_use r ≡ false → (s i : ℕ) → waits p (Got (Moment ms) ∷ r) s i ≡ waits p r s i
waits_same p ms r h s i = waits_from_same p ms r h s i (first_missing p r s (endpoint_numbers p s))

endpoints_same : (p : Plan) (ms : ℕ) (r : Record) → has_in_use r ≡ false → endpoints_right p (Got (Moment ms) ∷ r) ≡ endpoints_right p r
endpoints_same p ms r h =
    let q : Record = Got (Moment ms) ∷ r in
    all_same (λ s. list_all (endpoint_right p q s) (endpoint_numbers p s)) (λ s. list_all (endpoint_right p r s) (endpoint_numbers p s))
    (λ s. all_same (endpoint_right p q s) (endpoint_right p r s)
    (λ i. ap (λ b. not (is_at_work p r s) || (holds p r s i || b)) (waits_same p ms r h s i)) (endpoint_numbers p s))
    (services p)

late_same : (p : Plan) (ms : ℕ) (r : Record) → has_in_use r ≡ false → endpoints_right_late p (Got (Moment ms) ∷ r) ≡ endpoints_right_late p r
late_same p ms r h =
    let q : Record = Got (Moment ms) ∷ r in
    all_same (λ s. list_all (endpoint_right_late p q s) (endpoint_numbers p s)) (λ s. list_all (endpoint_right_late p r s) (endpoint_numbers p s))
    (λ s. all_same (endpoint_right_late p q s) (endpoint_right_late p r s)
    (λ i. ap (λ b. not (is_at_work p r s) || (is_held p r s i || b)) (waits_same p ms r h s i)) (endpoint_numbers p s))
    (services p)

-- what is asked of the beginning, where it is known whether a try rests
abbrev boot_by : Plan → Record → Bool → Bool
boot_by p q rest = (((once_if p.daemon is_daemonize q && once_if (has_begun p q) is_bootstrap q)
    && (once_if (boots p q && (p.daemon && p.wait)) is_notify q
    && (once_if (boots p q && p.upgrade) is_open_receiver q
    && (if boots p q && p.upgrade then (is_try_open q || rest) else not (has is_try q)))))
    && (complete_right p q && once_if (runs p q) is_running q))
    && ((each_entry stands_first q && each_entry (fork_first p) q) && each_entry (start_after_boot p) q)

boot_same : (p : Plan) (ms : ℕ) (r : Record) → awaits_sender r ≡ false → boot_right p (Got (Moment ms) ∷ r) ≡ boot_right p r
boot_same p ms r h = ap (boot_by p r) (try_same ms (now r) r h)

off : (u b c d : Bool) → u ≡ false → (((u && b) && c) && d) ≡ false
off u b c d h = rw (h)

-- no offer goes on
pub goes_off : (p : Plan) (q : Record) → is_upgrade (signal_of q) ≡ false → goes_on p q ≡ false
goes_off p q h =
    off (is_upgrade (signal_of q)) (not (is_empty_table (table p q))) (is_written (encode (table p q))) (not (is_over p q)) h

unasked_both : (g k a b : Bool) → g ≡ false → k ≡ false → (not g || a) ≡ (not k || b)
unasked_both g k a b h f = rw (h, f)

row_same : (p : Plan) (ms : ℕ) (r : Record) (x : Option ShutdownSignal) → is_upgrade x ≡ false → row_by p (Got (Moment ms) ∷ r) x ≡ row_by p r x
row_same p ms r None h = refl
row_same p ms r (Some FastShutdown) h = refl
row_same p ms r (Some GracefulTerminate) h = refl
row_same p ms r (Some GracefulUpgrade) h = absurd (false≢true (sym h))

-- what was told of the phases is what is due, where it is known whether the waits are over, and what is due before the end
abbrev phases_by : Record → Bool → List Mark → Bool
phases_by q over waited =
    same_marks (told_marks q) ((marks_if over (phase Terminated ∷ phase ShutdownRuntimes ∷ []) ++ waited) ++ marks_if (has is_running q) (phase Running ∷ []))

phases_same : (p : Plan) (ms : ℕ) (r : Record) → is_upgrade (signal_of r) ≡ false → waits_are_over p (Got (Moment ms) ∷ r) ≡ waits_are_over p r
    → phases_right p (Got (Moment ms) ∷ r) ≡ phases_right p r
phases_same p ms r h w =
    ap (λ b. phases_by r b (wait_row p (Got (Moment ms) ∷ r))) w
    ∙ ap (λ x. phases_by r (waits_are_over p r) (if has_cut r then with_start (row_by p (before_cut r) (signal_of (before_cut r))) else x))
    (row_same p ms r (signal_of r) h)

five : (f : Bool → Bool → Bool → Bool → Bool → Bool) (a b c d e x y z v w : Bool) → a ≡ x → b ≡ y → c ≡ z → d ≡ v → e ≡ w
    → f a b c d e ≡ f x y z v w
five f a b c d e x y z v w h g i j k = rw (h, g, i, j, k)

-- what is asked of a prefix in which the run goes on, where the parts that time may change are known
abbrev open_by : Plan → Record → Bool → Bool → Bool → Bool → Bool → Bool
open_by p q boot offer late held phases = (((boot && (offer && each_entry (offer_due p) q)) && (conn_right p q && closes_right p q))
    && (one_live p q && (not (from_the_start q) || ((starts_right p q && each_entry (start_due p) q) && late))))
    && ((not (in_service q) || held) && ((phases && each_entry moment_right q) && not (has is_ending q)))

-- a moment leaves it, where nothing rests, and no wait ends
pub open_same : (p : Plan) (ms : ℕ) (r : Record) → is_still r ≡ true → waits_are_over p (Got (Moment ms) ∷ r) ≡ waits_are_over p r
    → open_right p (Got (Moment ms) ∷ r) ≡ open_right p r
open_same p ms r h w =
    let q : Record = Got (Moment ms) ∷ r in
    let k = none_rest r h in
    five (open_by p r) (boot_right p q) (offer_right p q) (endpoints_right_late p q) (endpoints_right p q) (phases_right p q)
    (boot_right p r) (offer_right p r) (endpoints_right_late p r) (endpoints_right p r) (phases_right p r)
    (boot_same p ms r k.tries) (unasked_both (goes_on p q) (goes_on p r) _ _ (goes_off p q k.offer) (goes_off p r k.offer))
    (late_same p ms r k.binds) (endpoints_same p ms r k.binds) (phases_same p ms r k.offer w)

pub no_offer : (q : Record) → is_still q ≡ true → is_upgrade (signal_of q) ≡ false
no_offer q h = (none_rest q h).offer
