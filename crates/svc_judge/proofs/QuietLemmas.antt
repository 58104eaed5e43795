-- Entries of connections leave what is asked of all else.
use Rattle.std.proofs.Common.{ℕ, Bool, true, false, not, ◌&&◌, ◌||◌, inl, inr, [], ◌∷◌, ◌≡◌, refl, sym, ap, ◌∙◌, List}
use Rattle.std.proofs.lemmas.Bool.{false≢true, cases_Bool}
use Rattle.svc_record.specs.declared.plan.Plan.{Plan}
use Rattle.svc_record.specs.declared.entry.Entry.{Entry}
use Rattle.svc_record.specs.declared.entry.Entry.TheVariants.{Got, Told}
use Rattle.svc_record.specs.declared.event.Event.TheVariants.{Arrived, Set, Shaken, Finished}
use Rattle.svc_record.specs.declared.action.Action.TheVariants.{Judged, Refuse, Settings as TellSettings, Handshake, Serve, Drop}
use Rattle.svc_base.specs.declared.settings.Setting.{Setting}
use Rattle.svc_socket.specs.declared.peer.Peer.{Peer}
use Rattle.svc_record.specs.Record.{Record, has, is_signal, from_the_start, each_entry, each_earlier}
use Rattle.svc_record.specs.Endpoints.{endpoints_right, endpoints_right_late}
use Rattle.svc_record.specs.AskRules.{fails_right}
use Rattle.svc_record.specs.Boot.{boot_entries_right, stands_first, start_after_boot}
use Rattle.svc_record.specs.Offer.{one_ask}
use Rattle.svc_record.specs.Closes.{closes_right}
use Rattle.svc_record.specs.Descriptors.{one_live}
use Rattle.svc_record.specs.Connections.{rests_right, rest_due}
use Rattle.svc_record.specs.Drain.{waits_are_over, phases_right, moment_right, is_ending}
use Rattle.svc_record.specs.Ends.{ends_tested, has_ended_early}
use Rattle.svc_record.specs.Right.{serves_right}
use Rattle.svc_judge.specs.declared.settled.SettledRule.{SettledRule}
use Rattle.svc_judge.specs.declared.settled.SettledRule.TheVariants.{Serves, Phases, OneAsk, GoesOn}
use Rattle.svc_judge.specs.Settled.{offer_kept, starts_kept, settled_test}
use Rattle.svc_judge.specs.Anew.{earlier, is_of_connection, only_connections}

-- the value is the same with an entry of a connection as without it
abbrev pub Ignores : (Record → Bool) → Type 0
Ignores test = (e : Entry) (q : Record) → is_of_connection e ≡ true → test (e ∷ q) ≡ test q

-- so it is where it is with each kind of entry of a connection
pub ignores : (test : Record → Bool)
    → ((s i n : ℕ) (peer : Peer) (q : Record) → test (Got (Arrived s i n peer) ∷ q) ≡ test q)
    → ((n : ℕ) (ok : Bool) (q : Record) → test (Got (Set n ok) ∷ q) ≡ test q)
    → ((n : ℕ) (ok : Bool) (q : Record) → test (Got (Shaken n ok) ∷ q) ≡ test q)
    → ((n : ℕ) (q : Record) → test (Got (Finished n) ∷ q) ≡ test q)
    → ((n : ℕ) (said : Bool) (q : Record) → test (Told (Judged n said) ∷ q) ≡ test q)
    → ((n : ℕ) (q : Record) → test (Told (Refuse n) ∷ q) ≡ test q)
    → ((n : ℕ) (list : List Setting) (q : Record) → test (Told (TellSettings n list) ∷ q) ≡ test q)
    → ((n : ℕ) (q : Record) → test (Told (Handshake n) ∷ q) ≡ test q)
    → ((n : ℕ) (q : Record) → test (Told (Serve n) ∷ q) ≡ test q)
    → ((n : ℕ) (q : Record) → test (Told (Drop n) ∷ q) ≡ test q)
    → Ignores test
ignores test a b c d f g i j k l (Got (Arrived s m n peer)) q h = a s m n peer q
ignores test a b c d f g i j k l (Got (Set n ok)) q h = b n ok q
ignores test a b c d f g i j k l (Got (Shaken n ok)) q h = c n ok q
ignores test a b c d f g i j k l (Got (Finished n)) q h = d n q
ignores test a b c d f g i j k l (Told (Judged n said)) q h = f n said q
ignores test a b c d f g i j k l (Told (Refuse n)) q h = g n q
ignores test a b c d f g i j k l (Told (TellSettings n list)) q h = i n list q
ignores test a b c d f g i j k l (Told (Handshake n)) q h = j n q
ignores test a b c d f g i j k l (Told (Serve n)) q h = k n q
ignores test a b c d f g i j k l (Told (Drop n)) q h = l n q
ignores test a b c d f g i j k l _ q h = absurd (false≢true h)

-- what entries of connections leave is the same as before the last event, where only they came since
since : (test : Record → Bool) → Ignores test → (q : Record) → only_connections q ≡ true → test q ≡ test (earlier q)
since test f [] h = absurd (false≢true h)
since test f (Got e ∷ q) h = f (Got e) q h
since test f (Told a ∷ q) h =
    f (Told a) q (first (is_of_connection (Told a)) (only_connections q) h) ∙ since test f q (second (is_of_connection (Told a)) (only_connections q) h)
  where
    first : (b c : Bool) → (b && c) ≡ true → b ≡ true
    first true c g = refl
    first false c g = absurd (false≢true g)

    second : (b c : Bool) → (b && c) ≡ true → c ≡ true
    second true c g = g
    second false c g = absurd (false≢true g)

pub ignores_waits : (p : Plan) → Ignores (waits_are_over p)
ignores_waits p =
    ignores (waits_are_over p) (λ s i n peer q. refl) (λ n ok q. refl) (λ n ok q. refl) (λ n q. refl) (λ n said q. refl) (λ n q. refl) (λ n list q. refl)
    (λ n q. refl) (λ n q. refl) (λ n q. refl)

pub ignores_tested : (p : Plan) → Ignores (ends_tested p)
ignores_tested p =
    ignores (ends_tested p) (λ s i n peer q. refl) (λ n ok q. refl) (λ n ok q. refl) (λ n q. refl) (λ n said q. refl) (λ n q. refl) (λ n list q. refl)
    (λ n q. refl) (λ n q. refl) (λ n q. refl)

pub ignores_early : (p : Plan) → Ignores (has_ended_early p)
ignores_early p =
    ignores (has_ended_early p) (λ s i n peer q. refl) (λ n ok q. refl) (λ n ok q. refl) (λ n q. refl) (λ n said q. refl) (λ n q. refl) (λ n list q. refl)
    (λ n q. refl) (λ n q. refl) (λ n q. refl)

ignores_boots : (p : Plan) → Ignores (boot_entries_right p)
ignores_boots p =
    ignores (boot_entries_right p) (λ s i n peer q. refl) (λ n ok q. refl) (λ n ok q. refl) (λ n q. refl) (λ n said q. refl) (λ n q. refl) (λ n list q. refl)
    (λ n q. refl) (λ n q. refl) (λ n q. refl)

ignores_stands : (p : Plan) → Ignores (each_entry stands_first)
ignores_stands p =
    ignores (each_entry stands_first) (λ s i n peer q. refl) (λ n ok q. refl) (λ n ok q. refl) (λ n q. refl) (λ n said q. refl) (λ n q. refl) (λ n list q. refl)
    (λ n q. refl) (λ n q. refl) (λ n q. refl)

ignores_after_boot : (p : Plan) → Ignores (each_entry (start_after_boot p))
ignores_after_boot p =
    ignores (each_entry (start_after_boot p)) (λ s i n peer q. refl)
    (λ n ok q. refl) (λ n ok q. refl) (λ n q. refl) (λ n said q. refl) (λ n q. refl) (λ n list q. refl)
    (λ n q. refl) (λ n q. refl) (λ n q. refl)

ignores_offer : (p : Plan) → Ignores (offer_kept p)
ignores_offer p =
    ignores (offer_kept p) (λ s i n peer q. refl) (λ n ok q. refl) (λ n ok q. refl) (λ n q. refl) (λ n said q. refl) (λ n q. refl) (λ n list q. refl)
    (λ n q. refl) (λ n q. refl) (λ n q. refl)

ignores_rests : (p : Plan) → Ignores (rests_right)
ignores_rests p =
    ignores (rests_right) (λ s i n peer q. refl) (λ n ok q. refl) (λ n ok q. refl) (λ n q. refl) (λ n said q. refl) (λ n q. refl) (λ n list q. refl)
    (λ n q. refl) (λ n q. refl) (λ n q. refl)

ignores_rest_due : (p : Plan) → Ignores (each_entry rest_due)
ignores_rest_due p =
    ignores (each_entry rest_due) (λ s i n peer q. refl) (λ n ok q. refl) (λ n ok q. refl) (λ n q. refl) (λ n said q. refl) (λ n q. refl) (λ n list q. refl)
    (λ n q. refl) (λ n q. refl) (λ n q. refl)

ignores_closes : (p : Plan) → Ignores (closes_right p)
ignores_closes p =
    ignores (closes_right p) (λ s i n peer q. refl) (λ n ok q. refl) (λ n ok q. refl) (λ n q. refl) (λ n said q. refl) (λ n q. refl) (λ n list q. refl)
    (λ n q. refl) (λ n q. refl) (λ n q. refl)

ignores_one_live : (p : Plan) → Ignores (one_live p)
ignores_one_live p =
    ignores (one_live p) (λ s i n peer q. refl) (λ n ok q. refl) (λ n ok q. refl) (λ n q. refl) (λ n said q. refl) (λ n q. refl) (λ n list q. refl)
    (λ n q. refl) (λ n q. refl) (λ n q. refl)

ignores_runs : (p : Plan) → Ignores (from_the_start)
ignores_runs p =
    ignores (from_the_start) (λ s i n peer q. refl) (λ n ok q. refl) (λ n ok q. refl) (λ n q. refl) (λ n said q. refl) (λ n q. refl) (λ n list q. refl)
    (λ n q. refl) (λ n q. refl) (λ n q. refl)

ignores_starts : (p : Plan) → Ignores (starts_kept p)
ignores_starts p =
    ignores (starts_kept p) (λ s i n peer q. refl) (λ n ok q. refl) (λ n ok q. refl) (λ n q. refl) (λ n said q. refl) (λ n q. refl) (λ n list q. refl)
    (λ n q. refl) (λ n q. refl) (λ n q. refl)

ignores_signal : (p : Plan) → Ignores (has is_signal)
ignores_signal p =
    ignores (has is_signal) (λ s i n peer q. refl) (λ n ok q. refl) (λ n ok q. refl) (λ n q. refl) (λ n said q. refl) (λ n q. refl) (λ n list q. refl)
    (λ n q. refl) (λ n q. refl) (λ n q. refl)

ignores_late : (p : Plan) → Ignores (endpoints_right_late p)
ignores_late p =
    ignores (endpoints_right_late p) (λ s i n peer q. refl) (λ n ok q. refl) (λ n ok q. refl) (λ n q. refl) (λ n said q. refl) (λ n q. refl) (λ n list q. refl)
    (λ n q. refl) (λ n q. refl) (λ n q. refl)

ignores_endpoints : (p : Plan) → Ignores (endpoints_right p)
ignores_endpoints p =
    ignores (endpoints_right p) (λ s i n peer q. refl) (λ n ok q. refl) (λ n ok q. refl) (λ n q. refl) (λ n said q. refl) (λ n q. refl) (λ n list q. refl)
    (λ n q. refl) (λ n q. refl) (λ n q. refl)

ignores_phases : (p : Plan) → Ignores (phases_right p)
ignores_phases p =
    ignores (phases_right p) (λ s i n peer q. refl) (λ n ok q. refl) (λ n ok q. refl) (λ n q. refl) (λ n said q. refl) (λ n q. refl) (λ n list q. refl)
    (λ n q. refl) (λ n q. refl) (λ n q. refl)

ignores_moments : (p : Plan) → Ignores (each_entry moment_right)
ignores_moments p =
    ignores (each_entry moment_right) (λ s i n peer q. refl) (λ n ok q. refl) (λ n ok q. refl) (λ n q. refl) (λ n said q. refl) (λ n q. refl) (λ n list q. refl)
    (λ n q. refl) (λ n q. refl) (λ n q. refl)

ignores_ending : (p : Plan) → Ignores (has is_ending)
ignores_ending p =
    ignores (has is_ending) (λ s i n peer q. refl) (λ n ok q. refl) (λ n ok q. refl) (λ n q. refl) (λ n said q. refl) (λ n q. refl) (λ n list q. refl)
    (λ n q. refl) (λ n q. refl) (λ n q. refl)

ignores_fails : (p : Plan) → Ignores (fails_right p)
ignores_fails p =
    ignores (fails_right p) (λ s i n peer q. refl) (λ n ok q. refl) (λ n ok q. refl) (λ n q. refl) (λ n said q. refl) (λ n q. refl) (λ n list q. refl)
    (λ n q. refl) (λ n q. refl) (λ n q. refl)

ignores_one_ask : (p : Plan) → Ignores (one_ask p)
ignores_one_ask p =
    ignores (one_ask p) (λ s i n peer q. refl) (λ n ok q. refl) (λ n ok q. refl) (λ n q. refl) (λ n said q. refl) (λ n q. refl) (λ n list q. refl)
    (λ n q. refl) (λ n q. refl) (λ n q. refl)

-- what is the same of both
pub record Same (p : Plan) (q r : Record) : Type 0 where
  pub waits : waits_are_over p q ≡ waits_are_over p r
  pub tested : ends_tested p q ≡ ends_tested p r
  pub early : has_ended_early p q ≡ has_ended_early p r
  pub boots : boot_entries_right p q ≡ boot_entries_right p r
  pub stands : each_entry stands_first q ≡ each_entry stands_first r
  pub after_boot : each_entry (start_after_boot p) q ≡ each_entry (start_after_boot p) r
  pub offer : offer_kept p q ≡ offer_kept p r
  pub rests : rests_right q ≡ rests_right r
  pub rest_due : each_entry rest_due q ≡ each_entry rest_due r
  pub closes : closes_right p q ≡ closes_right p r
  pub one_live : one_live p q ≡ one_live p r
  pub runs : from_the_start q ≡ from_the_start r
  pub starts : starts_kept p q ≡ starts_kept p r
  pub signal : has is_signal q ≡ has is_signal r
  pub late : endpoints_right_late p q ≡ endpoints_right_late p r
  pub endpoints : endpoints_right p q ≡ endpoints_right p r
  pub phases : phases_right p q ≡ phases_right p r
  pub moments : each_entry moment_right q ≡ each_entry moment_right r
  pub ending : has is_ending q ≡ has is_ending r
  pub fails : fails_right p q ≡ fails_right p r
  pub one_ask : one_ask p q ≡ one_ask p r

pub same_since : (p : Plan) (q : Record) → only_connections q ≡ true → Same p q (earlier q)
same_since p q h = record {
  waits = since (waits_are_over p) (ignores_waits p) q h;
  tested = since (ends_tested p) (ignores_tested p) q h;
  early = since (has_ended_early p) (ignores_early p) q h;
  boots = since (boot_entries_right p) (ignores_boots p) q h;
  stands = since (each_entry stands_first) (ignores_stands p) q h;
  after_boot = since (each_entry (start_after_boot p)) (ignores_after_boot p) q h;
  offer = since (offer_kept p) (ignores_offer p) q h;
  rests = since (rests_right) (ignores_rests p) q h;
  rest_due = since (each_entry rest_due) (ignores_rest_due p) q h;
  closes = since (closes_right p) (ignores_closes p) q h;
  one_live = since (one_live p) (ignores_one_live p) q h;
  runs = since (from_the_start) (ignores_runs p) q h;
  starts = since (starts_kept p) (ignores_starts p) q h;
  signal = since (has is_signal) (ignores_signal p) q h;
  late = since (endpoints_right_late p) (ignores_late p) q h;
  endpoints = since (endpoints_right p) (ignores_endpoints p) q h;
  phases = since (phases_right p) (ignores_phases p) q h;
  moments = since (each_entry moment_right) (ignores_moments p) q h;
  ending = since (has is_ending) (ignores_ending p) q h;
  fails = since (fails_right p) (ignores_fails p) q h;
  one_ask = since (one_ask p) (ignores_one_ask p) q h;
}

ignores_serves : (p : Plan) → Ignores (serves_right p)
ignores_serves p =
    ignores (serves_right p) (λ s i n peer q. refl) (λ n ok q. refl) (λ n ok q. refl) (λ n q. refl) (λ n said q. refl) (λ n q. refl) (λ n list q. refl)
    (λ n q. refl) (λ n q. refl) (λ n q. refl)

ignores_rule : (rule : SettledRule) (p : Plan) → Ignores (settled_test rule p)
ignores_rule Serves p = ignores_serves p
ignores_rule Phases p = ignores_phases p
ignores_rule OneAsk p = ignores_one_ask p
ignores_rule GoesOn p = λ e q h. ap not (ignores_waits p e q h)

-- where only entries of connections came since the last event, what stands before it is among what stands before events
with_last : (test : Record → Bool) (q : Record) → only_connections q ≡ true → each_earlier test q ≡ (test (earlier q) && each_earlier test (earlier q))
with_last test [] h = absurd (false≢true h)
with_last test (Got e ∷ q) h = refl
with_last test (Told a ∷ q) h = with_last test q (second (is_of_connection (Told a)) (only_connections q) h)
  where
    second : (b c : Bool) → (b && c) ≡ true → c ≡ true
    second true c g = g
    second false c g = absurd (false≢true g)

twice : (a b : Bool) → (a && (a && b)) ≡ (a && b)
twice true b = refl
twice false b = refl

skipped : (test : Record → Bool) → Ignores test → (q : Record) → only_connections q ≡ true → (test q && each_earlier test q) ≡ each_earlier test q
skipped test f q h =
    let last = with_last test q h in
    ap (λ b. b && each_earlier test q) (since test f q h) ∙ ap (λ b. test (earlier q) && b) last
    ∙ twice (test (earlier q)) (each_earlier test (earlier q)) ∙ sym last

second_holds : (a b : Bool) → (a || b) ≡ true → a ≡ false → b ≡ true
second_holds true b h g = absurd (false≢true (sym g))
second_holds false b h g = h

-- a prefix that keeps the rule, or came by entries of connections alone, leaves what is asked of those before it
pub kept_step : (rule : SettledRule) (p : Plan) (q : Record) → (only_connections q || settled_test rule p q) ≡ true
    → (settled_test rule p q && each_earlier (settled_test rule p) q) ≡ each_earlier (settled_test rule p) q
kept_step rule p q h = elim (cases_Bool (only_connections q)) [
  | inl only ↦ skipped (settled_test rule p) (ignores_rule rule p) q only
  | inr off ↦ ap (λ b. b && each_earlier (settled_test rule p) q) (second_holds (only_connections q) (settled_test rule p q) h off)
]

-- and one that does neither breaks it
pub broken_step : (rule : SettledRule) (p : Plan) (q : Record) → (only_connections q || settled_test rule p q) ≡ false
    → (settled_test rule p q && each_earlier (settled_test rule p) q) ≡ false
broken_step rule p q h = ap (λ b. b && each_earlier (settled_test rule p) q) (second_fails (only_connections q) (settled_test rule p q) h)
  where
    second_fails : (a b : Bool) → (a || b) ≡ false → b ≡ false
    second_fails true b g = absurd (false≢true (sym g))
    second_fails false b g = g
