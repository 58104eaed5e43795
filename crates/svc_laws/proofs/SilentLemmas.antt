-- Where a record alone is right as the run goes on, nothing is told after it.
use Rattle.std.proofs.Common.{ℕ, Bool, true, false, not, ◌&&◌, ◌||◌, ◌==◌, ◌<◌, List, [], ◌∷◌, inl, inr, length, ◌≡◌, ◌∙◌, refl, sym, ap, arith, if◌then◌else◌}
use Rattle.std.specs.List.{list_any, list_all}
use Rattle.std.proofs.lemmas.Bool.{cases_Bool, and_parts, and_from, or_cases, or_left, or_right, or_parts, eq-eqb, eqb-true, ltb-true, false≢true, OnTrue_at}
use Rattle.svc_base.proofs.Logic.{clash, apart_from, not_in}
use Rattle.svc_base.proofs.NumberSetLemmas.{all-grows}
use Rattle.svc_record.specs.declared.plan.Plan.{Plan}
use Rattle.svc_record.specs.declared.action.Action.{Action}
use Rattle.svc_record.specs.declared.action.Action.TheVariants.{Start, Fail, Bind, Adopt, Close, Phase, Stop, Broadcast, NotifyParent, OpenReceiver, TryReceive, Connect, Send, Judged, Refuse, Settings as TellSettings, Handshake, Serve, Drop, Cut, Rest, Daemonize}
use Rattle.svc_record.specs.declared.action.ExecutionPhase.TheVariants.{Bootstrap, BootstrapComplete}
use Rattle.svc_record.specs.declared.entry.Entry.{Entry}
use Rattle.svc_record.specs.declared.entry.Entry.TheVariants.{Got, Told}
use Rattle.svc_record.specs.Record.{Record, has, times, tell, now, has_cut, is_running, is_bootstrap, is_bootstrap_complete, EachEntry}
use Rattle.svc_record.specs.Plans.{service_count, services, endpoint_numbers}
use Rattle.svc_record.specs.Descriptors.{is_close, is_opened, address_of, is_doubled}
use Rattle.svc_record.specs.Asks.{is_daemonize, is_try, is_try_open, is_connect_open, is_send_open, is_settings, is_handshake}
use Rattle.svc_record.specs.AskRules.{has_turn, ask_due, ask_known, FailsRight}
use Rattle.svc_record.specs.Failed.{has_failed, is_fail}
use Rattle.svc_record.specs.Starts.{is_start, is_started, is_due, start_due, start_known}
use Rattle.svc_record.specs.Endpoints.{is_held, is_at_work, EndpointsRightLate}
use Rattle.svc_record.specs.Closes.{is_broadcast, is_adopt_of_open, is_holder, have_loops_ended, is_drained, is_received, is_address_unclaimed, is_address_abandoned, is_gone, close_once}
use Rattle.svc_record.specs.Offer.{is_held_back, goes_on, answer_rests, offer_due, retry_due}
use Rattle.svc_record.specs.Connections.{is_arrival, is_judged, is_refuse, is_serve, is_drop, is_rest, is_full, connection_known}
use Rattle.svc_record.specs.Drain.{Mark, told_marks, is_ending}
use Rattle.svc_record.specs.Boot.{boots, is_notify, is_open_receiver, try_rests, may_try, try_due}
use Rattle.svc_record.specs.Facts.{Settled}
use Rattle.svc_record.specs.Right.{Right}
use Rattle.svc_record.proofs.SettledPrefixes.{settled_at}
use Rattle.svc_laws.proofs.PrefixLemmas.{entries-settled}
use Rattle.svc_laws.proofs.ToldLemmas.{kept, entries_before, has_more, times_more, not_first, has_same}
use Rattle.svc_laws.proofs.WaitLemmas.{held_back-same, due-same}
use Rattle.svc_laws.proofs.StartLemmas.{started_known}
use Rattle.svc_laws.proofs.CalmLemmas.{IsCalm, Around, Known, boot_parts, once_same, complete_times, good-same, started_runs, known-around, running-same}
use Rattle.svc_laws.proofs.AfterLemmas.{bind_waits_not, adopt_waits_not, adopt_of_stays, rest_or_try, is_mark, marks-counted, SameCalls, connection_calls}

-- what holds of each entry holds of the first one that is told
first_due : (P : Entry → Record → Type 0) (p : Plan) (r b : Record) (a : Action) (more : List Action)
    → Around p r b (a ∷ more) → EachEntry P r
    → P (Told a) b
first_due P p r b a more w each = (entries_before P more (Told a ∷ b) (entries-settled P r (tell b (a ∷ more)) each w.settled)).0

marks_same : (p : Plan) (b : Record) (told : List Action) → Known p b (tell b told)
    → times is_mark (tell b told) ≡ times is_mark b
marks_same p b told k =
    let q : Record = tell b told in
    let running : has is_running q ≡ has is_running b = running-same p b told k in
    let uncut = (or_parts (has_cut b) _ k.before.unpassed).0 in
    let same : told_marks q ≡ told_marks b = k.now_open.phases ∙ (due-same p b q k.waits uncut running ∙ sym k.before.open_.phases) in
    marks-counted q ∙ (ap (λ (ms : List Mark). length ms) same ∙ sym (marks-counted b))

is_marked : (e : Entry) → is_broadcast e ≡ true → is_mark e ≡ true
is_marked (Told Broadcast) h = refl
is_marked (Told a) h = absurd (false≢true h)
is_marked (Got e) h = absurd (false≢true h)

-- a worker of the descriptor that is done with it was so before
worker_by : Plan → ℕ → ℕ → ℕ → Bool → Record → Bool
worker_by p fd s i started x = not (is_holder p x fd s i) ||
    (((started && not (has_failed p x s)) && list_all (is_held p x s) (endpoint_numbers p s)) && have_loops_ended p x s i)

drained_back : (p : Plan) (b : Record) (told : List Action) (fd : ℕ) → Known p b (tell b told)
    → EachEntry (λ e before. ask_due p e before ≡ true) (tell b told) → is_drained p (tell b told) fd ≡ true
    → is_drained p b fd ≡ true
unfolding worker_by
drained_back p b told fd k asks h =
    let q : Record = tell b told in
    let all = and_parts _ _ h in
    let first = and_parts _ _ all.0 in
    let told_first = and_parts (has is_broadcast q) (not (is_adopt_of_open p q fd)) first.0 in
    let broadcast : has is_broadcast b ≡ true = sym (has_same is_mark is_broadcast is_marked told b (marks_same p b told k)) ∙ told_first.0 in
    let unasked : not (is_adopt_of_open p b fd) ≡ true = elim (cases_Bool (is_adopt_of_open p b fd)) [
      | inl y ↦ absurd (clash (is_adopt_of_open p q fd) (adopt_of_stays p fd told b asks y) (apart_from _ told_first.1))
      | inr n ↦ not_in _ n
    ] in
    let holder : list_any (λ s. list_any (is_holder p b fd s) (endpoint_numbers p s)) (services p) ≡ true =
    sym (kept (λ (x : Record). list_any (λ s. list_any (is_holder p x fd s) (endpoint_numbers p s)) (services p)) (λ a z. refl) told b) ∙ first.1 in
    let done : (s i : ℕ) → worker_by p fd s i (is_started q s) q ≡ true → worker_by p fd s i (is_started b s) b ≡ true =
    λ s i y. sym (ap (λ x. worker_by p fd s i x q) (k.started s) ∙ kept (λ x. worker_by p fd s i (is_started b s) x) (λ a z. refl) told b) ∙ y in
    and_from _ _ (and_from _ _ (and_from _ _ broadcast unasked) holder)
    (all-grows (λ s. list_all (λ i. worker_by p fd s i (is_started q s) q) (endpoint_numbers p s))
    (λ s. list_all (λ i. worker_by p fd s i (is_started b s) b) (endpoint_numbers p s)) (services p)
    (λ s. all-grows (λ i. worker_by p fd s i (is_started q s) q) (λ i. worker_by p fd s i (is_started b s) b) (endpoint_numbers p s) (done s)) all.1)

-- what is gone was gone before
gone_back : (p : Plan) (b : Record) (told : List Action) (fd : ℕ) → Known p b (tell b told)
    → EachEntry (λ e before. ask_due p e before ≡ true) (tell b told) → is_gone p (tell b told) fd ≡ true → is_gone p b fd ≡ true
gone_back p b told fd k asks h = elim (or_cases _ (is_drained p q fd) h) [
  | inr drained ↦ or_right _ _ (drained_back p b told fd k asks drained)
  | inl rest ↦ elim (or_cases _ _ rest) [
    | inr abandoned ↦ (let parts = and_parts (is_address_abandoned p q (address_of p q fd)) (not (is_held_back p q fd)) abandoned in
        or_left _ _ (or_right _ _ (and_from _ _ (sym (kept (λ x. is_address_abandoned p x (address_of p x fd)) (λ a z. refl) told b) ∙ parts.0)
        (not_in _ (sym (held_back-same p b q fd k.waits) ∙ apart_from _ parts.1)))))
    | inl came ↦ or_left _ _
        (or_left _ _ (sym (kept (λ x. (is_received p x fd && is_address_unclaimed p (address_of p x fd)) || is_doubled p x fd)
        (λ a z. refl) told b) ∙ came))
  ]
]
  where
    q : Record
    q = tell b told

close_not : (p : Plan) (r b : Record) (fd : ℕ) (more : List Action) → Around p r b (Close fd ∷ more)
    → Known p b (tell b (Close fd ∷ more)) → ⊥
close_not p r b fd more w k =
    let told : List Action = Close fd ∷ more in
    let q : Record = tell b told in
    let opened : is_opened p b fd ≡ true =
    (and_parts _ _ (first_due (λ e before. close_once p e before ≡ true) p r b (Close fd) more w w.right.stronger.closes)).0 in
    let now_times = k.now_open.closes fd (kept (λ x. is_opened p x fd) (λ a z. refl) told b ∙ opened) in
    let was_times = k.before.open_.closes fd opened in
    let asks = entries-settled (λ e before. ask_due p e before ≡ true) r q w.right.asks.in_turn w.settled in
    let same : times (is_close fd) q ≡ times (is_close fd) b = elim (cases_Bool (is_gone p q fd)) [
      | inl gone ↦ now_times ∙ (ap (λ x. if x then 1 else 0) (gone ∙ sym (gone_back p b told fd k asks gone)) ∙ sym was_times)
      | inr stays ↦ (let none : times (is_close fd) q ≡ 0 = now_times ∙ ap (λ x. if x then 1 else 0) stays in
          let fewer = times_more (is_close fd) told b in omega (arith, none, fewer))
    ] in
    not_first (is_close fd) (Close fd) more b same (eq-eqb fd fd refl)

silent_offer : (g o r : Bool) → g ≡ true → not o ≡ true → not r ≡ true → (not g || (o || r)) ≡ true → ⊥
silent_offer true false false x y z h = false≢true h
silent_offer true false true x y z h = false≢true z
silent_offer true true r x y z h = false≢true y
silent_offer false o r x y z h = false≢true x

-- an ask of the offer comes too early
offer_not : (p : Plan) (b : Record) → IsCalm p b → goes_on p b ≡ true → not (is_connect_open b || is_send_open b) ≡ true
    → not (answer_rests (now b) b) ≡ true → ⊥
offer_not p b calm goes unasked early =
    silent_offer (goes_on p b) (is_connect_open b || is_send_open b) (answer_rests (now b) b) goes unasked early calm.open_.offer.goes

-- so does a try to receive
try_not : (t : ℕ) (b : Record) (c d : Bool) → d ≡ c → (not (is_try_open b)) ≡ true → may_try t b ≡ true → (tried : Bool) → tried ≡ true
    → (if c then (is_try_open b || try_rests t b) else not (has is_try b)) ≡ true → (open_ rests : Bool)
    → (if d then (open_ || rests) else not tried) ≡ true → ⊥
try_not t b true d same unasked may tried y was open_ rests h = elim (or_cases (is_try_open b) (try_rests t b) was) [
  | inl asked ↦ clash (is_try_open b) asked (apart_from _ unasked)
  | inr resting ↦ rest_or_try t b resting may
]
try_not t b false true same unasked may tried y was open_ rests h = false≢true (sym same)
try_not t b false false same unasked may tried y was open_ rests h = clash tried y (apart_from tried h)

calls_of : (p : Plan) (b : Record) (told : List Action) (c : ℕ) → Known p b (tell b told)
    → has (is_arrival c) b ≡ true → SameCalls b (tell b told) c
calls_of p b told c k came = connection_calls p b told c came k.now_open.connections.each k.before.open_.connections.each

-- an endpoint that has its turn is of a started service
turn_started : (p : Plan) (b : Record) (s i : ℕ) → has_turn p b s i ≡ true → is_started b s ≡ true
turn_started p b s i turn =
    let work = (and_parts _ (is_at_work p b s) (and_parts _ _ (and_parts _ _ turn).0).0).1 in (and_parts (is_started b s) _ work).0

turn_known : (p : Plan) (r b : Record) (told : List Action) (s i : ℕ) → Around p r b told → has_turn p b s i ≡ true → s < service_count p
turn_known p r b told s i w turn =
    let P : Entry → Record → Type 0 = λ e before. start_known p e before ≡ true in
    started_known p b s (entries_before P told b (entries-settled P r (tell b told) w.right.stronger.known_starts w.settled)) (turn_started p b s i turn)

turn_late : (p : Plan) (b : Record) (s i : ℕ) → IsCalm p b → has_turn p b s i ≡ true → EndpointsRightLate p b
turn_late p b s i calm turn = OnTrue_at (started_runs p b s calm.open_ (turn_started p b s i turn)) calm.open_.endpoints_late

silent : (p : Plan) (r b : Record) (a : Action) (more : List Action) → Around p r b (a ∷ more)
    → Known p b (tell b (a ∷ more)) → ⊥
silent p r b (Start s) more w k =
    let turn = and_parts (not (is_started b s)) (is_due p b s)
    (first_due (λ e before. start_due p e before ≡ true) p r b (Start s) more w w.right.starts) in
    let now_started = has_more (is_start s) more (Told (Start s) ∷ b) (or_left (s == s) _ (eq-eqb s s refl)) in
    clash (is_started b s) (sym (k.started s) ∙ now_started) (apart_from _ turn.0)
silent p r b (Fail s) more w k =
    let q : Record = tell b (Fail s ∷ more) in
    let low = ltb-true s (service_count p) (first_due (λ e before. ask_known p e before ≡ true) p r b (Fail s) more w w.right.stronger.known_asks) in
    let now_times = settled_at (FailsRight p) r q w.right.asks.fails w.settled s low in
    let was_times = k.before.fails s low in
    let failed = kept (λ x. has_failed p x s) (λ a z. refl) (Fail s ∷ more) b in
    not_first (is_fail s) (Fail s) more b (now_times ∙ (ap (λ x. if x then 1 else 0) failed ∙ sym was_times)) (eq-eqb s s refl)
silent p r b (Bind s i) more w k =
    let due = first_due (λ e before. ask_due p e before ≡ true) p r b (Bind s i) more w w.right.asks.in_turn in
    let turn = (and_parts (has_turn p b s i) _ (and_parts _ _ due).0).0 in
    bind_waits_not p b s i (turn_late p b s i k.before turn) (turn_known p r b (Bind s i ∷ more) s i w turn) due
silent p r b (Adopt s i fd) more w k =
    let due = first_due (λ e before. ask_due p e before ≡ true) p r b (Adopt s i fd) more w w.right.asks.in_turn in
    let turn = (and_parts (has_turn p b s i) _ due).0 in
    adopt_waits_not p b s i fd (turn_late p b s i k.before turn) (turn_known p r b (Adopt s i fd ∷ more) s i w turn) due
silent p r b (Close fd) more w k = close_not p r b fd more w k
silent p r b (Phase Bootstrap ms) more w k =
    not_first is_bootstrap (Phase Bootstrap ms) more b
    (once_same _ _ _ _ k.begun (boot_parts p _ k.now_open.boot).begins (boot_parts p b k.before.open_.boot).begins) refl
silent p r b (Phase BootstrapComplete ms) more w k = not_first is_bootstrap_complete (Phase BootstrapComplete ms) more b
    (complete_times p b (tell b (Phase BootstrapComplete ms ∷ more)) k.now_open.boot k.before.open_.boot k.begun
    (good-same b (Phase BootstrapComplete ms ∷ more))) refl
silent p r b (Phase x ms) more w k = not_first is_mark (Phase x ms) more b (marks_same p b (Phase x ms ∷ more) k) refl
silent p r b Broadcast more w k = not_first is_mark Broadcast more b (marks_same p b (Broadcast ∷ more) k) refl
silent p r b (Stop n) more w k = clash _ (has_more is_ending more (Told (Stop n) ∷ b) refl) k.now_open.no_end
silent p r b (Cut c) more w k = clash _ (has_more is_ending more (Told (Cut c) ∷ b) refl) k.now_open.no_end
silent p r b NotifyParent more w k = not_first is_notify NotifyParent more b
    (once_same _ _ _ _ (ap (λ x. (x && not p.test) && (p.daemon && p.wait)) k.begun) (boot_parts p _ k.now_open.boot).notify
    (boot_parts p b k.before.open_.boot).notify) refl
silent p r b OpenReceiver more w k = not_first is_open_receiver OpenReceiver more b
    (once_same _ _ _ _ (ap (λ x. (x && not p.test) && p.upgrade) k.begun) (and_parts _ _ (boot_parts p _ k.now_open.boot).receive).0
    (and_parts _ _ (boot_parts p b k.before.open_.boot).receive).0) refl
silent p r b Daemonize more w k = not_first is_daemonize Daemonize more b
    (once_same _ _ _ _ refl (boot_parts p _ k.now_open.boot).fork (boot_parts p b k.before.open_.boot).fork) refl
silent p r b TryReceive more w k =
    let q : Record = tell b (TryReceive ∷ more) in
    let due = and_parts _ (may_try (now b) b) (first_due (λ e before. try_due e before ≡ true) p r b TryReceive more w w.right.stronger.tries) in
    try_not (now b) b (boots p b && p.upgrade) (boots p q && p.upgrade) (ap (λ x. (x && not p.test) && p.upgrade) k.begun) (and_parts _ _ due.0).1 due.1
    (has is_try q) (has_more is_try more (Told TryReceive ∷ b) refl) (and_parts _ _ (boot_parts p b k.before.open_.boot).receive).1
    (is_try_open q) (try_rests (now q) q) (and_parts _ _ (boot_parts p q k.now_open.boot).receive).1
silent p r b Connect more w k =
    let due = (entries_before (λ e before. offer_due p e before ≡ true) more (Told Connect ∷ b) k.now_open.offer.in_turn).0 in
    let goes = and_parts (goes_on p b) _ (and_parts _ _ due).0 in
    offer_not p b k.before goes.0 goes.1 (first_due (λ e before. retry_due e before ≡ true) p r b Connect more w w.right.stronger.retries)
silent p r b (Send bytes fds) more w k =
    let due = (entries_before (λ e before. offer_due p e before ≡ true) more (Told (Send bytes fds) ∷ b) k.now_open.offer.in_turn).0 in
    let goes = and_parts (goes_on p b) _ (and_parts _ _ (and_parts _ _ due).0).0 in
    offer_not p b k.before goes.0 goes.1
    (first_due (λ e before. retry_due e before ≡ true) p r b (Send bytes fds) more w w.right.stronger.retries)
silent p r b (Judged c said) more w k =
    let came = first_due (λ e before. connection_known p e before ≡ true) p r b (Judged c said) more w w.right.stronger.known_connections in
    not_first (is_judged c) (Judged c said) more b (calls_of p b (Judged c said ∷ more) c k came).judged (eq-eqb c c refl)
silent p r b (Refuse c) more w k =
    let came = first_due (λ e before. connection_known p e before ≡ true) p r b (Refuse c) more w w.right.stronger.known_connections in
    not_first (is_refuse c) (Refuse c) more b (calls_of p b (Refuse c ∷ more) c k came).refused (eq-eqb c c refl)
silent p r b (TellSettings c list) more w k =
    let came = first_due (λ e before. connection_known p e before ≡ true) p r b (TellSettings c list) more w w.right.stronger.known_connections in
    not_first (is_settings c) (TellSettings c list) more b (calls_of p b (TellSettings c list ∷ more) c k came).settings (eq-eqb c c refl)
silent p r b (Handshake c) more w k =
    let came = first_due (λ e before. connection_known p e before ≡ true) p r b (Handshake c) more w w.right.stronger.known_connections in
    not_first (is_handshake c) (Handshake c) more b (calls_of p b (Handshake c ∷ more) c k came).handshake (eq-eqb c c refl)
silent p r b (Serve c) more w k =
    let came = first_due (λ e before. connection_known p e before ≡ true) p r b (Serve c) more w w.right.stronger.known_connections in
    not_first (is_serve c) (Serve c) more b (calls_of p b (Serve c ∷ more) c k came).served (eq-eqb c c refl)
silent p r b (Drop c) more w k =
    let came = first_due (λ e before. connection_known p e before ≡ true) p r b (Drop c) more w w.right.stronger.known_connections in
    not_first (is_drop c) (Drop c) more b (calls_of p b (Drop c ∷ more) c k came).dropped (eq-eqb c c refl)
silent p r b (Rest s i) more w k =
    let q : Record = tell b (Rest s i ∷ more) in
    let full = kept (times is_full) (λ a z. refl) (Rest s i ∷ more) b in
    not_first is_rest (Rest s i) more b
    (eqb-true (times is_rest q) (times is_full q) k.now_open.connections.rests
    ∙ (full ∙ sym (eqb-true (times is_rest b) (times is_full b) k.before.open_.connections.rests))) refl

pub silent-alone : (p : Plan) (r b : Record) (told : List Action) → Right p r → IsCalm p b → Settled (tell b told) r → told ≡ []
silent-alone p r b [] right calm settled = refl
silent-alone p r b (a ∷ more) right calm settled =
    let w : Around p r b (a ∷ more) = record { right = right; calm = calm; settled = settled } in
    absurd (silent p r b a more w (known-around p r b (a ∷ more) w))
