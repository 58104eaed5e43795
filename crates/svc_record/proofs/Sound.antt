-- A record that passes a test has what the test's fact says.
use Rattle.std.proofs.Common.{ℕ, zero, suc, Bool, true, false, ◌||◌, ◌&&◌, not, ◌==◌, ◌+◌, ◌<◌, ◌≤◌, ◌⊎◌, inl, inr, List, [], ◌∷◌, ◌++◌, map, length, slice_index_or, if◌then◌else◌, MatchBool, ◌≡◌, refl, sym, ap, subst, ◌∙◌, eqb-true, arith}
use Rattle.std.proofs.lemmas.Bool.{false≢true, not-true}
use Rattle.std.proofs.Math.Decide.{ℕ_discrete}
use Rattle.std.specs.Bool.{OnTrue, OnFalse}
use Rattle.std.specs.List.{list_all, list_any, range_with_len}
use Rattle.svc_record.specs.declared.plan.Plan.{Plan}
use Rattle.svc_record.specs.declared.entry.Entry.{Entry}
use Rattle.svc_record.specs.declared.entry.Entry.TheVariants.{Got, Told}
use Rattle.svc_record.specs.declared.action.Action.{Action}
use Rattle.svc_record.specs.declared.action.Action.TheVariants.{Phase, Cut, Close, Stop}
use Rattle.svc_record.specs.declared.action.ExecutionPhase.{ExecutionPhase}
use Rattle.svc_record.specs.declared.action.ExecutionPhase.TheVariants.{Setup, Bootstrap, BootstrapComplete, Running, GracefulUpgradeTransferringFds, GracefulUpgradeCloseTimeout, GracefulTerminate, ShutdownStarted, ShutdownGracePeriod, ShutdownRuntimes, Terminated}
use Rattle.svc_record.specs.Record.{Record, tell, has, times, now, last_step, is_signal, from_the_start, before_runtimes, EachEntry, EachEarlier, EachSettled, each_entry, each_earlier, each_settled}
use Rattle.svc_record.specs.Plans.{service_count, endpoints, services, endpoint_numbers}
use Rattle.svc_record.specs.Descriptors.{Descriptor, opened_descriptors, has_number, is_close}
use Rattle.svc_record.specs.Failed.{has_failed, is_fail}
use Rattle.svc_record.specs.Starts.{StartsRight, starts_right, start_right, start_due, start_known}
use Rattle.svc_record.specs.Endpoints.{EndpointsRight, EndpointsRightLate, endpoints_right, endpoints_right_late, endpoint_right, endpoint_right_late}
use Rattle.svc_record.specs.Closes.{ClosesRight, closes_right, close_right, close_once}
use Rattle.svc_record.specs.AskRules.{FailsRight, fails_right, ask_due, ask_known}
use Rattle.svc_record.specs.Offer.{OfferRight, offer_right, offer_due, retry_due, one_ask}
use Rattle.svc_record.specs.Connections.{ConnRight, conn_right, connection_right, arrivals, rests_right, rest_due, live_connections, connection_known}
use Rattle.svc_record.specs.Drain.{Mark, phase, broadcast, Drain, drain_right, PhasesRight, phases_right, phase_number, same_mark, same_marks, told_marks, due_marks, waits_are_over, moment_right, every_moment_right, ends_right, last_actions, live_numbers, is_ending, begins_with, is_told}
use Rattle.svc_base.specs.NumberSets.{ascending}
use Rattle.svc_record.specs.Boot.{BootRight, boot_right, boot_entries_right, stands_first, fork_first, start_after_boot, try_due, boot_due}
use Rattle.svc_record.specs.Ends.{has_ended, has_ended_early, ends_tested, TestedRight, tested_right, visited_services}
use Rattle.svc_record.specs.Fits.{event_fits}
use Rattle.svc_record.specs.Right.{Right, is_right, Served, is_served, ServesRight, serves_right, EndedRight, ended_right, OpenRight, open_right, SettledRight, settled_right, PassedRight, passed_right, close_due, in_service, is_silent, is_test_step, is_right_by_words, is_served_by_words, Stronger, is_stronger, LastStepRight, last_step_right}

pub both : (a b : Bool) → (a && b) ≡ true → (a ≡ true) × (b ≡ true)
both true b e = (refl, e)
both false b e = absurd (false≢true e)

pub either : (a b : Bool) → (a || b) ≡ true → (a ≡ true) ⊎ (b ≡ true)
either true b e = inl refl
either false b e = inr e

pub on_true : (b t : Bool) (P : Type 0) → (t ≡ true → P) → (not b || t) ≡ true → OnTrue b P
on_true true t P f e = f e
on_true false t P f e = tt

pub on_false : (b t : Bool) (P : Type 0) → (t ≡ true → P) → (b || t) ≡ true → OnFalse b P
on_false true t P f e = tt
on_false false t P f e = f e

pub chosen : (b x y : Bool) (P Q : Type 0) → (x ≡ true → P) → (y ≡ true → Q) → (if b then x else y) ≡ true → MatchBool b P Q
chosen true x y P Q f g e = f e
chosen false x y P Q f g e = g e

pub entries : (test : Entry → Record → Bool) (q : Record) → each_entry test q ≡ true → EachEntry (λ e before. test e before ≡ true) q
entries test [] e = tt
entries test (x ∷ before) e = let h = both (test x before) (each_entry test before) e in (h.0, entries test before h.1)

pub earlier : (test : Record → Bool) (P : Record → Type 0) → ((q : Record) → test q ≡ true → P q) → (q : Record) → each_earlier test q ≡ true → EachEarlier P q
earlier test P f [] e = tt
earlier test P f (Got x ∷ before) e = let h = both (test before) (each_earlier test before) e in (f before h.0, earlier test P f before h.1)
earlier test P f (Told a ∷ before) e = earlier test P f before e

pub settled : (test : Record → Bool) (P : Record → Type 0) → ((q : Record) → test q ≡ true → P q) → (q : Record) → each_settled test q ≡ true → EachSettled P q
settled test P f q e = let h = both (test q) (each_earlier test q) e in (f q h.0, earlier test P f q h.1)

pub in_range : (test : ℕ → Bool) (n a s : ℕ) → list_all test (range_with_len a n) ≡ true → a ≤ s → s < a + n → test s ≡ true
in_range test zero a s e low high = absurd (omega arith)
in_range test (suc n) a s e low high = let h = both (test a) (list_all test (range_with_len (a + 1) n)) e in
    elim (ℕ_discrete a s) [ yes same ↦ subst (λ x. test x ≡ true) same h.0 | no other ↦ in_range test n (a + 1) s h.1 (omega (arith, other)) (omega arith) ]

pub below : (test : ℕ → Bool) (n s : ℕ) → list_all test (range_with_len 0 n) ≡ true → s < n → test s ≡ true
below test n s e high = in_range test n 0 s e (omega arith) (omega arith)

pub each_endpoint : (p : Plan) (test : ℕ → ℕ → Bool) → list_all (λ s. list_all (test s) (endpoint_numbers p s)) (services p) ≡ true → (s i : ℕ)
    → s < service_count p → i < length (endpoints p s) → test s i ≡ true
each_endpoint p test e s i low lower =
    below (test s) (length (endpoints p s)) i (below (λ t. list_all (test t) (endpoint_numbers p t)) (service_count p) s e low) lower

pub each_number : (test : ℕ → Bool) (ds : List Descriptor) (fd : ℕ) → list_all (λ (d : Descriptor). test d.number) ds ≡ true
    → list_any (has_number fd) ds ≡ true → test fd ≡ true
each_number test [] fd all e = absurd (false≢true e)
each_number test (d ∷ ds) fd all e = let h = both (test d.number) (list_all (λ (x : Descriptor). test x.number) ds) all in
    elim (either (d.number == fd) (list_any (has_number fd) ds) e)
    [ inl same ↦ subst (λ n. test n ≡ true) (eqb-true d.number fd same) h.0 | inr later ↦ each_number test ds fd h.1 later ]

pub starts : (p : Plan) (q : Record) → (starts_right p q && each_entry (start_due p) q) ≡ true → StartsRight p q
starts p q e = let h = both (starts_right p q) (each_entry (start_due p) q) e in
    record { each = λ s low. eqb-true _ _ (below (start_right p q) (service_count p) s h.0 low); in_turn = entries (start_due p) q h.1 }

pub held_or_wait : (p : Plan) (q : Record) → endpoints_right p q ≡ true → EndpointsRight p q
held_or_wait p q e = each_endpoint p (endpoint_right p q) e

pub held_or_wait_late : (p : Plan) (q : Record) → endpoints_right_late p q ≡ true → EndpointsRightLate p q
held_or_wait_late p q e = each_endpoint p (endpoint_right_late p q) e

pub closes : (p : Plan) (q : Record) → closes_right p q ≡ true → ClosesRight p q
closes p q e fd o = eqb-true _ _ (each_number (close_right p q) (opened_descriptors p q) fd e o)

pub fails : (p : Plan) (q : Record) → fails_right p q ≡ true → FailsRight p q
fails p q e s low = eqb-true _ _ (below (λ t. times (is_fail t) q == (if has_failed p q t then 1 else 0)) (service_count p) s e low)

-- the phase that has the number
abbrev phase_of : ℕ → ExecutionPhase
phase_of n =
    slice_index_or
    (Setup ∷ Bootstrap ∷ BootstrapComplete ∷ Running ∷ GracefulUpgradeTransferringFds ∷ GracefulUpgradeCloseTimeout ∷ GracefulTerminate ∷ ShutdownStarted
    ∷ ShutdownGracePeriod ∷ ShutdownRuntimes ∷ Terminated ∷ []) n Setup

phase_back : (x : ExecutionPhase) → phase_of (phase_number x) ≡ x
phase_back Setup = refl
phase_back Bootstrap = refl
phase_back BootstrapComplete = refl
phase_back Running = refl
phase_back GracefulUpgradeTransferringFds = refl
phase_back GracefulUpgradeCloseTimeout = refl
phase_back GracefulTerminate = refl
phase_back ShutdownStarted = refl
phase_back ShutdownGracePeriod = refl
phase_back ShutdownRuntimes = refl
phase_back Terminated = refl

-- phases with one number are one phase
pub is_phase : (x y : ExecutionPhase) → phase_number x ≡ phase_number y → x ≡ y
is_phase x y e = sym (phase_back x) ∙ (ap phase_of e ∙ phase_back y)

pub is_mark : (x y : Mark) → same_mark x y ≡ true → x ≡ y
is_mark (phase x) (phase y) e = ap phase (is_phase x y (eqb-true (phase_number x) (phase_number y) e))
is_mark (phase x) broadcast e = absurd (false≢true e)
is_mark broadcast (phase y) e = absurd (false≢true e)
is_mark broadcast broadcast e = refl

pub are_marks : (xs ys : List Mark) → same_marks xs ys ≡ true → xs ≡ ys
are_marks [] [] e = refl
are_marks [] (y ∷ ys) e = absurd (false≢true e)
are_marks (x ∷ xs) [] e = absurd (false≢true e)
are_marks (x ∷ xs) (y ∷ ys) e = let h = both (same_mark x y) (same_marks xs ys) e in
    ap (λ z. z ∷ xs) (is_mark x y h.0) ∙ ap (λ zs. y ∷ zs) (are_marks xs ys h.1)

pub phases : (p : Plan) (q : Record) → phases_right p q ≡ true → PhasesRight p q
phases p q e = are_marks (told_marks q) (due_marks p q) e

pub offer : (p : Plan) (q : Record) → (offer_right p q && each_entry (offer_due p) q) ≡ true → OfferRight p q
offer p q e = let h = both (offer_right p q) (each_entry (offer_due p) q) e in record { goes = h.0; in_turn = entries (offer_due p) q h.1 }

pub boot : (p : Plan) (q : Record) → boot_right p q ≡ true → BootRight p q
boot p q e = let h = both (boot_entries_right p q) ((each_entry stands_first q && each_entry (fork_first p) q) && each_entry (start_after_boot p) q) e in
    let k = both (each_entry stands_first q && each_entry (fork_first p) q) (each_entry (start_after_boot p) q) h.1 in
    let f = both (each_entry stands_first q) (each_entry (fork_first p) q) k.0 in
    record { entries = h.0; first = entries stands_first q f.0; fork = entries (fork_first p) q f.1; starts = entries (start_after_boot p) q k.1 }

pub connections : (p : Plan) (q : Record) → conn_right p q ≡ true → ConnRight p q
connections p q e = let h = both (list_all (connection_right p q) (arrivals q) && rests_right q) (each_entry rest_due q) e in
    let k = both (list_all (connection_right p q) (arrivals q)) (rests_right q) h.0 in
    record { each = k.0; rests = k.1; in_turn = entries rest_due q h.1 }

silent : (told : List Action) → is_silent told ≡ true → told ≡ []
silent [] e = refl
silent (a ∷ more) e = absurd (false≢true e)

pub ended : (p : Plan) (q : Record) → ended_right p q ≡ true → EndedRight p q
ended p q e =
    let h = both (not (has_ended_early p q) || is_silent (last_step q)) (not (ends_tested p q) || (is_test_step (now q) (last_step q) && closes_right p q)) e in
    record {
      early = on_true (has_ended_early p q) _ _ (silent (last_step q)) h.0;
      tested = on_true (ends_tested p q) _ _ (λ t. let k = both (is_test_step (now q) (last_step q)) (closes_right p q) t in (k.0, closes p q k.1)) h.1;
    }

pub open_ : (p : Plan) (q : Record) → open_right p q ≡ true → OpenRight p q
open_ p q e =
    let a = both _ _ e in let b = both _ _ a.0 in let c = both _ _ b.0 in let d = both _ _ b.1 in let f = both _ _ c.0 in let g = both _ _ c.1 in
    let k = both _ _ a.1 in let l = both _ _ k.1 in let m = both _ _ l.0 in
    record {
      boot = boot p q f.0;
      offer = offer p q f.1;
      connections = connections p q g.0;
      closes = closes p q g.1;
      one_live = d.0;
      starts = on_true (from_the_start q) _ _ (λ t. starts p q (both _ _ t).0) d.1;
      endpoints = on_true (in_service q) _ _ (held_or_wait p q) k.0;
      endpoints_late = on_true (from_the_start q) _ _ (λ t. held_or_wait_late p q (both _ _ t).1) d.1;
      phases = phases p q m.0;
      moments = entries moment_right q m.1;
      no_end = not-true (has is_ending q) l.1;
    }

pub settled_clause : (p : Plan) (q : Record) → settled_right p q ≡ true → SettledRight p q
settled_clause p q e = chosen (has_ended p q) (ended_right p q) (open_right p q) _ _ (ended p q) (open_ p q) e

pub serves : (p : Plan) (q : Record) → serves_right p q ≡ true → ServesRight p q
serves p q e =
    let h = both (has is_signal q || closes_right p q) (not (in_service q) || ((starts_right p q && each_entry (start_due p) q) && endpoints_right p q)) e in
    record {
      closes = on_false (has is_signal q) (closes_right p q) _ (closes p q) h.0;
      starts = on_true (in_service q) _ _ (λ t. starts p q (both _ _ t).0) h.1;
      endpoints = on_true (in_service q) _ _ (λ t. held_or_wait p q (both _ _ t).1) h.1;
    }

told_is : (a : Action) (e : Entry) → is_told a e ≡ true → e ≡ Told a
told_is (Phase x ms) (Told (Phase y m)) h = let k = both (phase_number y == phase_number x) (m == ms) h in
    ap (λ z. Told (Phase z m)) (is_phase y x (eqb-true (phase_number y) (phase_number x) k.0)) ∙ ap (λ n. Told (Phase x n)) (eqb-true m ms k.1)
told_is (Cut c) (Told (Cut n)) h = ap (λ z. Told (Cut z)) (eqb-true n c h)
told_is (Close fd) (Told (Close n)) h = ap (λ z. Told (Close z)) (eqb-true n fd h)
told_is (Stop n) (Told (Stop m)) h = ap (λ z. Told (Stop z)) (eqb-true m n h)
told_is _ _ h = absurd (false≢true h)

begins : (told r : Record) → begins_with told r ≡ true → (rest : Record) × (r ≡ told ++ rest)
begins [] r e = (r, refl)
begins (Told a ∷ more) [] e = absurd (false≢true e)
begins (Told a ∷ more) (x ∷ before) e = let h = both (is_told a x) (begins_with more before) e in
    let k = begins more before h.1 in (k.0, ap (λ z. z ∷ before) (told_is a x h.0) ∙ ap (λ z. Told a ∷ z) k.1)
begins (Got x ∷ more) r e = absurd (false≢true e)

pub tell_onto : (told_next : List Action) (told rest : Record) → tell (told ++ rest) told_next ≡ tell told told_next ++ rest
tell_onto [] told rest = refl
tell_onto (a ∷ more) told rest = tell_onto more (Told a ∷ told) rest

-- telling these actions leaves what stands before `ShutdownRuntimes`
abbrev Leaves : List Action → Record → Type 0
Leaves actions rest = (q : Record) → before_runtimes q ≡ rest → before_runtimes (tell q actions) ≡ rest

cuts_leave : (cs : List ℕ) (more : List Action) (rest : Record) → Leaves more rest → Leaves (map Cut cs ++ more) rest
cuts_leave [] more rest f q e = f q e
cuts_leave (c ∷ cs) more rest f q e = cuts_leave cs more rest f (Told (Cut c) ∷ q) e

closes_leave : (fds : List ℕ) (more : List Action) (rest : Record) → Leaves more rest → Leaves (map Close fds ++ more) rest
closes_leave [] more rest f q e = f q e
closes_leave (fd ∷ fds) more rest f q e = closes_leave fds more rest f (Told (Close fd) ∷ q) e

-- before the last actions stands what they were told after
pub stands_before : (p : Plan) (at rest : Record) → before_runtimes (tell rest (last_actions p at)) ≡ rest
stands_before p at rest =
    cuts_leave (ascending (live_connections at)) _ rest (closes_leave (ascending (live_numbers p at)) _ rest (λ q e. e))
    (Told (Phase ShutdownRuntimes (now at)) ∷ rest) refl

pub ends : (p : Plan) (r : Record) → ends_right p (before_runtimes r) r ≡ true → r ≡ tell (before_runtimes r) (last_actions p (before_runtimes r))
ends p r e = let at = before_runtimes r in
    let h = begins (tell [] (last_actions p at)) r e in
    let is : r ≡ tell h.0 (last_actions p at) = h.1 ∙ sym (tell_onto (last_actions p at) [] h.0) in
    let before : at ≡ h.0 = ap before_runtimes is ∙ stands_before p at h.0 in
    is ∙ ap (λ z. tell z (last_actions p at)) (sym before)

pub drains : (p : Plan) (r : Record) → drain_right p r ≡ true → Drain p r
drains p r e = let a = both _ _ e in let b = both _ _ a.0 in let c = both _ _ b.0 in let d = both _ _ c.0 in let f = both _ _ a.1 in
    record {
      passes = d.0;
      first = earlier (λ q. not (waits_are_over p q)) (λ q. waits_are_over p q ≡ false) (λ q t. not-true (waits_are_over p q) t) r d.1;
      phases = settled (phases_right p) (PhasesRight p) (phases p) r c.1;
      moments = entries every_moment_right r b.1;
      ends = ends p r f.0;
      nowhere_else = not-true (has is_ending (before_runtimes r)) f.1;
    }

pub each_among : (test : ℕ → Bool) (ns : List ℕ) (s : ℕ) → list_all test ns ≡ true → list_any (λ n. n == s) ns ≡ true → test s ≡ true
each_among test [] s all e = absurd (false≢true e)
each_among test (n ∷ ns) s all e = let h = both (test n) (list_all test ns) all in
    elim (either (n == s) (list_any (λ m. m == s) ns) e)
    [ inl same ↦ subst (λ m. test m ≡ true) (eqb-true n s same) h.0 | inr later ↦ each_among test ns s h.1 later ]

pub tested : (p : Plan) (q : Record) → tested_right p q ≡ true → TestedRight p q
tested p q e = let a = both _ _ e in let b = both _ _ a.0 in let c = both _ _ b.0 in let d = both _ _ a.1 in
    record {
      forked = c.0;
      begun = c.1;
      in_turn = entries (start_after_boot p) q b.1;
      starts = on_false p.eager (list_all (start_right p q) (visited_services p q)) _
          (λ t s v. eqb-true _ _ (each_among (start_right p q) (visited_services p q) s t v)) d.0;
      endpoints = on_false p.eager (list_all (λ s. list_all (endpoint_right_late p q s) (endpoint_numbers p s)) (visited_services p q)) _
          (λ t s i v low. below (endpoint_right_late p q s) (length (endpoints p s)) i
          (each_among (λ x. list_all (endpoint_right_late p q x) (endpoint_numbers p x)) (visited_services p q) s t v) low) d.1;
    }

pub last_step_clause : (p : Plan) (at : Record) → last_step_right p at ≡ true → LastStepRight p at
last_step_clause p at e = let a = both _ _ e in let b = both _ _ a.0 in let c = both _ _ b.0 in let d = both _ _ b.1 in let f = both _ _ a.1 in
    record {
      starts = starts p at c.0;
      endpoints = held_or_wait_late p at c.1;
      closes = closes p at d.0;
      boot = boot p at d.1;
      offer = offer p at f.0;
      connections = connections p at f.1;
    }

pub stronger : (p : Plan) (r : Record) → is_stronger p r ≡ true → Stronger p r
stronger p r e =
    let a = both _ _ e in let b = both _ _ a.0 in let c = both _ _ b.0 in let d = both _ _ c.0 in let d0 = both _ _ d.0 in let f = both _ _ c.1 in
    let g = both _ _ b.1 in let h = both _ _ g.0 in let k = both _ _ a.1 in let l = both _ _ k.0 in
    record {
      boots = entries (boot_due p) r d0.0;
      tries = entries try_due r d0.1;
      retries = entries retry_due r d.1;
      one_ask = settled (one_ask p) (λ q. one_ask p q ≡ true) (λ q t. t) r f.0;
      tested = on_true (ends_tested p r) _ _ (tested p r) f.1;
      closes = entries (close_once p) r h.0;
      last_step = on_true (waits_are_over p r) _ _ (last_step_clause p (before_runtimes r)) h.1;
      moments = entries every_moment_right r g.1;
      known_starts = entries (start_known p) r l.0;
      known_asks = entries (ask_known p) r l.1;
      known_connections = entries (connection_known p) r k.1;
    }

served_by_words : (p : Plan) (r : Record) → Stronger p r → is_served_by_words p r ≡ true → Served p r
served_by_words p r s e = let a = both _ _ e in let b = both _ _ a.0 in let c = both _ _ b.0 in let d = both _ _ a.1 in
    record {
      fits = entries (event_fits p) r c.0;
      drain = drains p r c.1;
      serves = settled (serves_right p) (ServesRight p) (serves p) r b.1;
      closed_once = λ fd o. eqb-true _ _ (each_number (λ n. times (is_close n) r == 1) (opened_descriptors p r) fd d.0 o);
      closed_after = entries (close_due p) r d.1;
      stronger = s;
    }

-- a record that passes the test is that of a run that served
pub served_from_test : (p : Plan) (r : Record) → is_served p r ≡ true → Served p r
served_from_test p r e = let h = both (is_served_by_words p r) (is_stronger p r) e in served_by_words p r (stronger p r h.1) h.0

pub passing : (p : Plan) (r : Record) → Stronger p r → passed_right p r ≡ true → PassedRight p r
passing p r s e = let a = both _ _ e in let b = both _ _ a.0 in let c = both _ _ a.1 in
    record { served = served_by_words p r s b.0; boot = boot p r b.1; offer = offer p r c.0; connections = connections p r c.1 }

-- a record that passes the test is right
pub right_from_test : (p : Plan) (r : Record) → is_right p r ≡ true → Right p r
right_from_test p r e =
    let w = both (is_right_by_words p r) (is_stronger p r) e in let s = stronger p r w.1 in let a = both _ _ w.0 in let b = both _ _ a.0 in
    let c = both _ _ b.0 in let d = both _ _ a.1 in let f = both _ _ d.0 in
    record {
      fits = entries (event_fits p) r c.0;
      starts = entries (start_due p) r c.1;
      settled = settled (settled_right p) (SettledRight p) (settled_clause p) r b.1;
      asks = record { in_turn = entries (ask_due p) r f.0; fails = settled (fails_right p) (FailsRight p) (fails p) r f.1 };
      passed = on_true (waits_are_over p r) _ _ (passing p r s) d.1;
      stronger = s;
    }
