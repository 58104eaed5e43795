-- A record that has what a fact says passes the fact's test, so a wrong record is refuted by computing.
use Rattle.std.proofs.Common.{ℕ, zero, suc, Bool, true, false, ◌||◌, ◌&&◌, not, ◌==◌, ◌+◌, ◌<◌, ◌≤◌, List, [], ◌∷◌, ◌++◌, map, length, if◌then◌else◌, MatchBool, ◌≡◌, refl, sym, ap, subst, ◌∙◌, eq-eqb, arith}
use Rattle.std.proofs.lemmas.Bool.{false≢true, not_from_false}
use Rattle.std.specs.Bool.{OnTrue, OnFalse}
use Rattle.std.specs.List.{list_all, list_any, range_with_len}
use Rattle.svc_record.specs.declared.plan.Plan.{Plan}
use Rattle.svc_record.specs.declared.entry.Entry.{Entry}
use Rattle.svc_record.specs.declared.entry.Entry.TheVariants.{Got, Told}
use Rattle.svc_record.specs.declared.action.Action.{Action}
use Rattle.svc_record.specs.declared.action.Action.TheVariants.{Phase, Cut, Close}
use Rattle.svc_record.specs.declared.action.ExecutionPhase.TheVariants.{ShutdownRuntimes}
use Rattle.svc_record.specs.Record.{Record, tell, has, times, now, last_step, is_signal, from_the_start, before_runtimes, EachEntry, EachEarlier, EachSettled, each_entry, each_earlier, each_settled}
use Rattle.svc_record.specs.Plans.{service_count, endpoints, services, endpoint_numbers}
use Rattle.svc_record.specs.Descriptors.{Descriptor, opened_descriptors, has_number, is_close}
use Rattle.svc_record.specs.Failed.{has_failed, is_fail}
use Rattle.svc_record.specs.Starts.{StartsRight, starts_right, start_right, is_start, is_due, start_due, start_known}
use Rattle.svc_record.specs.Endpoints.{EndpointsRight, EndpointsRightLate, endpoints_right, endpoints_right_late, endpoint_right, endpoint_right_late}
use Rattle.svc_record.specs.Closes.{ClosesRight, closes_right, close_right, close_once}
use Rattle.svc_record.specs.AskRules.{FailsRight, fails_right, ask_due, ask_known}
use Rattle.svc_record.specs.Offer.{OfferRight, offer_right, offer_due, retry_due, one_ask}
use Rattle.svc_record.specs.Connections.{ConnRight, conn_right, rest_due, live_connections, connection_known}
use Rattle.svc_record.specs.Drain.{Mark, phase, broadcast, Drain, drain_right, PhasesRight, phases_right, phase_number, same_mark, same_marks, told_marks, waits_are_over, moment_right, every_moment_right, ends_right, last_actions, live_numbers, begins_with, is_told, stop_seconds}
use Rattle.svc_base.specs.NumberSets.{ascending}
use Rattle.svc_record.specs.Boot.{BootRight, boot_right, stands_first, fork_first, start_after_boot, try_due, boot_due}
use Rattle.svc_record.specs.Ends.{has_ended, has_ended_early, ends_tested, TestedRight, tested_right, visited_services, is_visited}
use Rattle.svc_record.specs.Fits.{event_fits}
use Rattle.svc_record.specs.Right.{Right, is_right, Served, is_served, ServesRight, serves_right, EndedRight, ended_right, OpenRight, open_right, SettledRight, settled_right, PassedRight, passed_right, close_due, in_service, is_silent, is_test_step, is_served_by_words, Stronger, is_stronger, LastStepRight, last_step_right}
use Rattle.svc_record.proofs.Sound.{tell_onto}

same : (n : ℕ) → (n == n) ≡ true
same n = eq-eqb n n refl

pub and : (a b : Bool) → a ≡ true → b ≡ true → (a && b) ≡ true
and true b e f = f
and false b e f = absurd (false≢true e)

pub or_left : (a b : Bool) → a ≡ true → (a || b) ≡ true
or_left true b e = refl
or_left false b e = absurd (false≢true e)

pub or_right : (a b : Bool) → b ≡ true → (a || b) ≡ true
or_right true b e = refl
or_right false b e = e

pub on_true : (b t : Bool) (P : Type 0) → (P → t ≡ true) → OnTrue b P → (not b || t) ≡ true
on_true true t P f h = f h
on_true false t P f h = refl

pub on_false : (b t : Bool) (P : Type 0) → (P → t ≡ true) → OnFalse b P → (b || t) ≡ true
on_false true t P f h = refl
on_false false t P f h = f h

pub chosen : (b x y : Bool) (P Q : Type 0) → (P → x ≡ true) → (Q → y ≡ true) → MatchBool b P Q → (if b then x else y) ≡ true
chosen true x y P Q f g h = f h
chosen false x y P Q f g h = g h

pub entries : (test : Entry → Record → Bool) (q : Record) → EachEntry (λ e before. test e before ≡ true) q → each_entry test q ≡ true
entries test [] h = refl
entries test (x ∷ before) h = and (test x before) (each_entry test before) h.0 (entries test before h.1)

pub earlier : (test : Record → Bool) (P : Record → Type 0) → ((q : Record) → P q → test q ≡ true) → (q : Record) → EachEarlier P q → each_earlier test q ≡ true
earlier test P f [] h = refl
earlier test P f (Got x ∷ before) h = and (test before) (each_earlier test before) (f before h.0) (earlier test P f before h.1)
earlier test P f (Told a ∷ before) h = earlier test P f before h

pub settled : (test : Record → Bool) (P : Record → Type 0) → ((q : Record) → P q → test q ≡ true) → (q : Record) → EachSettled P q → each_settled test q ≡ true
settled test P f q h = and (test q) (each_earlier test q) (f q h.0) (earlier test P f q h.1)

pub in_range : (test : ℕ → Bool) (n a : ℕ) → ((s : ℕ) → a ≤ s → s < a + n → test s ≡ true) → list_all test (range_with_len a n) ≡ true
in_range test zero a f = refl
in_range test (suc n) a f = and (test a) (list_all test (range_with_len (a + 1) n)) (f a (omega arith) (omega arith))
    (in_range test n (a + 1) (λ s low high. f s (omega arith) (omega arith)))

pub below : (test : ℕ → Bool) (n : ℕ) → ((s : ℕ) → s < n → test s ≡ true) → list_all test (range_with_len 0 n) ≡ true
below test n f = in_range test n 0 (λ s low high. f s (omega arith))

pub each_endpoint : (p : Plan) (test : ℕ → ℕ → Bool) → ((s i : ℕ) → s < service_count p → i < length (endpoints p s) → test s i ≡ true)
    → list_all (λ s. list_all (test s) (endpoint_numbers p s)) (services p) ≡ true
each_endpoint p test f =
    below (λ s. list_all (test s) (endpoint_numbers p s)) (service_count p) (λ s low. below (test s) (length (endpoints p s)) (λ i lower. f s i low lower))

pub each_number : (test : ℕ → Bool) (ds : List Descriptor) → ((fd : ℕ) → list_any (has_number fd) ds ≡ true → test fd ≡ true)
    → list_all (λ (d : Descriptor). test d.number) ds ≡ true
each_number test [] f = refl
each_number test (d ∷ ds) f =
    and (test d.number) (list_all (λ (x : Descriptor). test x.number) ds)
    (f d.number (or_left (d.number == d.number) (list_any (has_number d.number) ds) (same d.number)))
    (each_number test ds (λ fd e. f fd (or_right (d.number == fd) (list_any (has_number fd) ds) e)))

pub starts : (p : Plan) (q : Record) → StartsRight p q → (starts_right p q && each_entry (start_due p) q) ≡ true
starts p q h = and (starts_right p q) (each_entry (start_due p) q)
    (below (start_right p q) (service_count p) (λ s low. eq-eqb _ _ (h.each s low))) (entries (start_due p) q h.in_turn)

pub held_or_wait : (p : Plan) (q : Record) → EndpointsRight p q → endpoints_right p q ≡ true
held_or_wait p q f = each_endpoint p (endpoint_right p q) f

pub held_or_wait_late : (p : Plan) (q : Record) → EndpointsRightLate p q → endpoints_right_late p q ≡ true
held_or_wait_late p q f = each_endpoint p (endpoint_right_late p q) f

pub closes : (p : Plan) (q : Record) → ClosesRight p q → closes_right p q ≡ true
closes p q f = each_number (close_right p q) (opened_descriptors p q) (λ fd o. eq-eqb _ _ (f fd o))

pub fails : (p : Plan) (q : Record) → FailsRight p q → fails_right p q ≡ true
fails p q f = below (λ t. times (is_fail t) q == (if has_failed p q t then 1 else 0)) (service_count p) (λ s low. eq-eqb _ _ (f s low))

same_self : (x : Mark) → same_mark x x ≡ true
same_self (phase x) = same (phase_number x)
same_self broadcast = refl

same_selves : (xs : List Mark) → same_marks xs xs ≡ true
same_selves [] = refl
same_selves (x ∷ xs) = and (same_mark x x) (same_marks xs xs) (same_self x) (same_selves xs)

pub phases : (p : Plan) (q : Record) → PhasesRight p q → phases_right p q ≡ true
phases p q e = subst (λ xs. same_marks (told_marks q) xs ≡ true) e (same_selves (told_marks q))

pub offer : (p : Plan) (q : Record) → OfferRight p q → (offer_right p q && each_entry (offer_due p) q) ≡ true
offer p q h = and _ _ h.goes (entries (offer_due p) q h.in_turn)

pub boot : (p : Plan) (q : Record) → BootRight p q → boot_right p q ≡ true
boot p q h = and _ _ h.entries (and _ _ (and _ _ (entries stands_first q h.first) (entries (fork_first p) q h.fork)) (entries (start_after_boot p) q h.starts))

pub connections : (p : Plan) (q : Record) → ConnRight p q → conn_right p q ≡ true
connections p q h = and _ _ (and _ _ h.each h.rests) (entries rest_due q h.in_turn)

pub ended : (p : Plan) (q : Record) → EndedRight p q → ended_right p q ≡ true
ended p q h = and _ _ (on_true (has_ended_early p q) _ _ (λ e. ap is_silent e) h.early)
    (on_true (ends_tested p q) _ _ (λ (t : (is_test_step (now q) (last_step q) ≡ true) × ClosesRight p q). and _ _ t.0 (closes p q t.1)) h.tested)

pub open_ : (p : Plan) (q : Record) → OpenRight p q → open_right p q ≡ true
open_ p q h = and _ _ (and _ _ (and _ _ (and _ _ (boot p q h.boot) (offer p q h.offer)) (and _ _ (connections p q h.connections) (closes p q h.closes)))
    (and _ _ h.one_live (both_late (from_the_start q) h.starts h.endpoints_late)))
    (and _ _ (on_true (in_service q) _ _ (held_or_wait p q) h.endpoints)
    (and _ _ (and _ _ (phases p q h.phases) (entries moment_right q h.moments)) (not_from_false _ h.no_end)))
  where
    both_late : (b : Bool) → OnTrue b (StartsRight p q) → OnTrue b (EndpointsRightLate p q)
        → (not b || ((starts_right p q && each_entry (start_due p) q) && endpoints_right_late p q)) ≡ true
    both_late true s l = and _ _ (starts p q s) (held_or_wait_late p q l)
    both_late false s l = refl

pub settled_clause : (p : Plan) (q : Record) → SettledRight p q → settled_right p q ≡ true
settled_clause p q h = chosen (has_ended p q) (ended_right p q) (open_right p q) _ _ (ended p q) (open_ p q) h

pub serves : (p : Plan) (q : Record) → ServesRight p q → serves_right p q ≡ true
serves p q h = and _ _ (on_false (has is_signal q) (closes_right p q) _ (closes p q) h.closes) (both_parts (in_service q) h.starts h.endpoints)
  where
    both_parts : (b : Bool) → OnTrue b (StartsRight p q) → OnTrue b (EndpointsRight p q)
        → (not b || ((starts_right p q && each_entry (start_due p) q) && endpoints_right p q)) ≡ true
    both_parts true s l = and _ _ (starts p q s) (held_or_wait p q l)
    both_parts false s l = refl

-- only phases, cuts, closes and `Stop`
abbrev AllLast : Record → Type 0
AllLast [] = Unit {0}
AllLast (Told a ∷ more) = (is_told a (Told a) ≡ true) × AllLast more
AllLast (Got e ∷ more) = ⊥

begins : (told rest : Record) → AllLast told → begins_with told (told ++ rest) ≡ true
begins [] rest h = refl
begins (Told a ∷ more) rest h = and _ _ h.0 (begins more rest h.1)
begins (Got e ∷ more) rest h = absurd h

-- telling these actions adds only phases, cuts, closes and `Stop`
abbrev Stays : List Action → Type 0
Stays actions = (q : Record) → AllLast q → AllLast (tell q actions)

cuts_stay : (cs : List ℕ) (more : List Action) → Stays more → Stays (map Cut cs ++ more)
cuts_stay [] more f q h = f q h
cuts_stay (c ∷ cs) more f q h = cuts_stay cs more f (Told (Cut c) ∷ q) (same c, h)

closes_stay : (fds : List ℕ) (more : List Action) → Stays more → Stays (map Close fds ++ more)
closes_stay [] more f q h = f q h
closes_stay (fd ∷ fds) more f q h = closes_stay fds more f (Told (Close fd) ∷ q) (same fd, h)

pub ends : (p : Plan) (at r : Record) → r ≡ tell at (last_actions p at) → ends_right p at r ≡ true
ends p at r e = subst (λ z. begins_with (tell [] (last_actions p at)) z ≡ true) (sym (e ∙ tell_onto (last_actions p at) [] at))
    (begins (tell [] (last_actions p at)) at all_last)
  where
    all_last : AllLast (tell [] (last_actions p at))
    all_last = cuts_stay (ascending (live_connections at)) _
        (closes_stay (ascending (live_numbers p at)) _ (λ q h. (same (now at), (same (stop_seconds p at), h))))
        (Told (Phase ShutdownRuntimes (now at)) ∷ []) (same (now at), tt)

pub drains : (p : Plan) (r : Record) → Drain p r → drain_right p r ≡ true
drains p r h =
    and _ _ (and _ _
    (and _ _ (and _ _ h.passes
    (earlier (λ q. not (waits_are_over p q)) (λ q. waits_are_over p q ≡ false) (λ q t. not_from_false (waits_are_over p q) t) r h.first))
    (settled (phases_right p) (PhasesRight p) (phases p) r h.phases)) (entries every_moment_right r h.moments))
    (and _ _ (ends p (before_runtimes r) r h.ends) (not_from_false _ h.nowhere_else))

pub each_among : (test : ℕ → Bool) (ns : List ℕ) → ((s : ℕ) → list_any (λ n. n == s) ns ≡ true → test s ≡ true) → list_all test ns ≡ true
each_among test [] f = refl
each_among test (n ∷ ns) f = and (test n) (list_all test ns) (f n (or_left (n == n) (list_any (λ m. m == n) ns) (same n)))
    (each_among test ns (λ s e. f s (or_right (n == s) (list_any (λ m. m == s) ns) e)))

pub tested : (p : Plan) (q : Record) → TestedRight p q → tested_right p q ≡ true
tested p q h = and _ _ (and _ _ (and _ _ h.forked h.begun) (entries (start_after_boot p) q h.in_turn)) (and _ _
    (on_false p.eager _ _
    (λ (f : (s : ℕ) → is_visited p q s ≡ true → times (is_start s) q ≡ (if is_due p q s then 1 else 0)). each_among (start_right p q) (visited_services p q)
    (λ s v. eq-eqb _ _ (f s v))) h.starts)
    (on_false p.eager _ _ (λ (f : (s i : ℕ) → is_visited p q s ≡ true → i < length (endpoints p s) → endpoint_right_late p q s i ≡ true).
    each_among (λ s. list_all (endpoint_right_late p q s) (endpoint_numbers p s)) (visited_services p q)
    (λ s v. below (endpoint_right_late p q s) (length (endpoints p s)) (λ i low. f s i v low))) h.endpoints))

pub last_step_clause : (p : Plan) (at : Record) → LastStepRight p at → last_step_right p at ≡ true
last_step_clause p at h =
    and _ _ (and _ _ (and _ _ (starts p at h.starts) (held_or_wait_late p at h.endpoints)) (and _ _ (closes p at h.closes) (boot p at h.boot)))
    (and _ _ (offer p at h.offer) (connections p at h.connections))

pub stronger : (p : Plan) (r : Record) → Stronger p r → is_stronger p r ≡ true
stronger p r h = and _ _ (and _ _ (and _ _ (and _ _ (and _ _ (entries (boot_due p) r h.boots) (entries try_due r h.tries)) (entries retry_due r h.retries))
    (and _ _ (settled (one_ask p) (λ q. one_ask p q ≡ true) (λ q t. t) r h.one_ask) (on_true (ends_tested p r) _ _ (tested p r) h.tested)))
    (and _ _ (and _ _ (entries (close_once p) r h.closes) (on_true (waits_are_over p r) _ _ (last_step_clause p (before_runtimes r)) h.last_step))
    (entries every_moment_right r h.moments)))
    (and _ _ (and _ _ (entries (start_known p) r h.known_starts) (entries (ask_known p) r h.known_asks)) (entries (connection_known p) r h.known_connections))

served_by_words : (p : Plan) (r : Record) → Served p r → is_served_by_words p r ≡ true
served_by_words p r h =
    and _ _ (and _ _ (and _ _ (entries (event_fits p) r h.fits) (drains p r h.drain)) (settled (serves_right p) (ServesRight p) (serves p) r h.serves))
    (and _ _ (each_number (λ n. times (is_close n) r == 1) (opened_descriptors p r) (λ fd o. eq-eqb _ _ (h.closed_once fd o)))
    (entries (close_due p) r h.closed_after))

-- the record of a run that served passes the test
pub test_from_served : (p : Plan) (r : Record) → Served p r → is_served p r ≡ true
test_from_served p r h = and _ _ (served_by_words p r h) (stronger p r h.stronger)

pub passing : (p : Plan) (r : Record) → PassedRight p r → passed_right p r ≡ true
passing p r h = and _ _ (and _ _ (served_by_words p r h.served) (boot p r h.boot)) (and _ _ (offer p r h.offer) (connections p r h.connections))

-- a right record passes the test
pub test_from_right : (p : Plan) (r : Record) → Right p r → is_right p r ≡ true
test_from_right p r h =
    and _ _ (and _ _
    (and _ _ (and _ _ (entries (event_fits p) r h.fits) (entries (start_due p) r h.starts))
    (settled (settled_right p) (SettledRight p) (settled_clause p) r h.settled))
    (and _ _ (and _ _ (entries (ask_due p) r h.asks.in_turn) (settled (fails_right p) (FailsRight p) (fails p) r h.asks.fails))
    (on_true (waits_are_over p r) _ _ (passing p r) h.passed)))
    (stronger p r h.stronger)
