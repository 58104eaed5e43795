-- In a right record that goes on, asks come one after the other.
use Rattle.std.proofs.Common.{ℕ, Bool, true, false, not, ◌||◌, ◌==◌, ◌+◌, ◌≤◌, inl, inr, [], ◌∷◌, ◌++◌, ◌≡◌, refl, sym, subst, arith, append_assoc, MatchBool, if◌then◌else◌}
use Rattle.std.specs.List.{list_all}
use Rattle.std.proofs.lemmas.Bool.{cases_Bool, and_parts, or_cases, or_right, eq-eqb, eqb-true}
use Rattle.svc_base.proofs.Logic.{not_in}
use Rattle.svc_record.specs.declared.plan.Plan.{Plan}
use Rattle.svc_record.specs.declared.entry.Entry.{Entry}
use Rattle.svc_record.specs.declared.entry.Entry.TheVariants.{Got, Told}
use Rattle.svc_record.specs.declared.action.Action.TheVariants.{Bind, Adopt, TryReceive, Connect, Send, Handshake, Settings as TellSettings, Daemonize}
use Rattle.svc_record.specs.declared.event.Event.TheVariants.{Arrived}
use Rattle.svc_record.specs.Record.{Record, has, times, EachEntry}
use Rattle.svc_record.specs.Asks.{is_open, is_bind_open, is_adopt_open, is_connect_open, is_send_open, is_settings, is_set, is_handshake, is_shaken}
use Rattle.svc_record.specs.AskRules.{ask_due}
use Rattle.svc_record.specs.Offer.{offer_due}
use Rattle.svc_record.specs.Boot.{try_due, stands_first}
use Rattle.svc_record.specs.Connections.{Arrival, arrivals, is_arrival, connection_right, connection_known}
use Rattle.svc_record.specs.Ends.{has_ended}
use Rattle.svc_record.specs.Facts.{Settled}
use Rattle.svc_record.specs.Right.{Right, EndedRight, OpenRight, SettledRight}
use Rattle.svc_record.proofs.SettledPrefixes.{settled_at}
use Rattle.svc_laws.specs.Asking.{is_single}
use Rattle.svc_laws.proofs.PrefixLemmas.{entries-settled, has-behind, times-behind}

not_first : (a b : Bool) → not (a || b) ≡ true → not a ≡ true
not_first a b h = grind arith

not_second : (a b : Bool) → not (a || b) ≡ true → not b ≡ true
not_second a b h = grind arith

-- what never was asked isn't open
unasked : (ask answer : Entry → Bool) (q : Record) → times ask q ≡ 0 → is_open ask answer q ≡ false
unasked ask answer [] h = refl
unasked ask answer (e ∷ before) h = elim (cases_Bool (ask e)) [
  | inl y ↦ absurd (let k = rw y at h in omega (arith, k))
  | inr n ↦ (let rest = unasked ask answer before (rw n at h) in
      elim (cases_Bool (answer e)) [ inl a ↦ rw (n, a) refl | inr o ↦ rw (n, o) rest ])
]

at_most_one : (b : Bool) (n : ℕ) → (n == (if b then 1 else 0)) ≡ true → n ≤ 1
at_most_one true n h = let e = eqb-true n 1 h in omega (arith, e)
at_most_one false n h = let e = eqb-true n 0 h in omega (arith, e)

-- a connection that has arrived is asked for its settings and its handshake once at most
bounded : (p : Plan) (q : Record) (c : ℕ) (whole : Record) → has (is_arrival c) q ≡ true → list_all (connection_right p whole) (arrivals q) ≡ true
    → (times (is_settings c) whole ≤ 1) × (times (is_handshake c) whole ≤ 1)
bounded p [] c whole h all = absurd (cc)
bounded p (Got (Arrived s i n peer) ∷ before) c whole h all =
    let x : Arrival = record { service = s; endpoint = i; number = n; peer = peer } in
    let parts = and_parts (connection_right p whole x) (list_all (connection_right p whole) (arrivals before)) all in
    elim (or_cases (n == c) (has (is_arrival c) before) h) [
      | inl here ↦ (let e : n ≡ c = eqb-true n c here in
          let front = and_parts _ _ (and_parts _ _ parts.0).0 in
          let set = at_most_one _ (times (is_settings n) whole) (and_parts _ _ (and_parts _ _ front.0).1).0 in
          let shake = at_most_one _ (times (is_handshake n) whole) (and_parts _ _ front.1).0 in
          subst (λ k. (times (is_settings k) whole ≤ 1) × (times (is_handshake k) whole ≤ 1)) e (set, shake))
      | inr past ↦ bounded p before c whole past parts.1
    ]
bounded p (Got _ ∷ before) c whole h all = bounded p before c whole h all
bounded p (Told a ∷ before) c whole h all = bounded p before c whole h all

-- before an entry that passes, where at most one does in the whole, none does
none_earlier : (test : Entry → Bool) (more before : Record) (e : Entry) → times test (more ++ (e ∷ before)) ≤ 1 → test e ≡ true → times test before ≡ 0
none_earlier test more before e most y =
    let h = times-behind test more (e ∷ before) in
    let here : times test (e ∷ before) ≡ times test before + 1 = rw y refl in
    omega (arith, h, here, most)

-- the numbers that arrived before an entry have arrived in the whole
arrived : (front before : Record) (e : Entry) (c : ℕ) → has (is_arrival c) before ≡ true → has (is_arrival c) (front ++ (e ∷ before)) ≡ true
arrived front before e c h = has-behind (is_arrival c) front (e ∷ before) (or_right (is_arrival c e) (has (is_arrival c) before) h)

-- one entry, by what is due of it
single : (p : Plan) (front before : Record) (e : Entry) → list_all (connection_right p (front ++ (e ∷ before))) (arrivals (front ++ (e ∷ before))) ≡ true
    → ask_due p e before ≡ true → try_due e before ≡ true → offer_due p e before ≡ true → stands_first e before ≡ true → connection_known p e before ≡ true
    → is_single e before ≡ true
single p front before (Told (Bind s i)) each asks tries offers first known =
    let turn = (and_parts _ _ (and_parts _ _ asks).0).0 in
    not_first (is_bind_open before s i) (is_adopt_open before s i) (and_parts _ _ (and_parts _ _ turn).1).1
single p front before (Told (Adopt s i fd)) each asks tries offers first known =
    let turn = (and_parts _ _ asks).0 in
    not_second (is_bind_open before s i) (is_adopt_open before s i) (and_parts _ _ (and_parts _ _ turn).1).1
single p front before (Told TryReceive) each asks tries offers first known = (and_parts _ _ (and_parts _ _ tries).0).1
single p front before (Told Connect) each asks tries offers first known =
    not_first (is_connect_open before) (is_send_open before) (and_parts _ _ (and_parts _ _ offers).0).1
single p front before (Told (Send bytes fds)) each asks tries offers first known =
    not_second (is_connect_open before) (is_send_open before) (and_parts _ _ (and_parts _ _ (and_parts _ _ offers).0).0).1
single p front before (Told Daemonize) each asks tries offers first known = alone before first
  where
    alone : (q : Record) → stands_first (Told Daemonize) q ≡ true → is_single (Told Daemonize) q ≡ true
    alone [] h = refl
    alone (e ∷ q) h = absurd (cc)
single p front before (Told (TellSettings c list)) each asks tries offers first known =
    let e : Entry = Told (TellSettings c list) in
    let whole : Record = front ++ (e ∷ before) in
    let most = (bounded p whole c whole (arrived front before e c known) each).0 in
    not_in _ (unasked (is_settings c) (is_set c) before (none_earlier (is_settings c) front before e most (eq-eqb c c refl)))
single p front before (Told (Handshake c)) each asks tries offers first known =
    let e : Entry = Told (Handshake c) in
    let whole : Record = front ++ (e ∷ before) in
    let most = (bounded p whole c whole (arrived front before e c known) each).1 in
    not_in _ (unasked (is_handshake c) (is_shaken c) before (none_earlier (is_handshake c) front before e most (eq-eqb c c refl)))
single p front before (Told _) each asks tries offers first known = refl
single p front before (Got g) each asks tries offers first known = refl

singles : (p : Plan) (front q : Record) → list_all (connection_right p (front ++ q)) (arrivals (front ++ q)) ≡ true
    → EachEntry (λ e before. ask_due p e before ≡ true) q → EachEntry (λ e before. try_due e before ≡ true) q
    → EachEntry (λ e before. offer_due p e before ≡ true) q
    → EachEntry (λ e before. stands_first e before ≡ true) q → EachEntry (λ e before. connection_known p e before ≡ true) q
    → EachEntry (λ e before. is_single e before ≡ true) q
singles p front [] each a t o f k = tt
singles p front (e ∷ before) each a t o f k = (
  single p front before e each a.0 t.0 o.0 f.0 k.0,
  singles p (front ++ (e ∷ [])) before
      (subst (λ (w : Record). list_all (connection_right p w) (arrivals w) ≡ true) (sym (append_assoc front (e ∷ []) before)) each) a.1 t.1 o.1 f.1 k.1,
)

pub one-ask : (p : Plan) (r q : Record) → Right p r → Settled q r → has_ended p q ≡ false → EachEntry (λ e before. is_single e before ≡ true) q
one-ask p r q right s on =
    let open_ : OpenRight p q = subst (λ b. MatchBool b (EndedRight p q) (OpenRight p q)) on (settled_at (SettledRight p) r q right.settled s) in
    singles p [] q open_.connections.each
    (entries-settled (λ e before. ask_due p e before ≡ true) r q right.asks.in_turn s)
    (entries-settled (λ e before. try_due e before ≡ true) r q right.stronger.tries s)
    open_.offer.in_turn open_.boot.first
    (entries-settled (λ e before. connection_known p e before ≡ true) r q right.stronger.known_connections s)
