-- What is told in a step keeps what holds all through it.
use Rattle.std.proofs.Common.{ℕ, zero, suc, Bool, true, false, ◌&&◌, ◌||◌, ◌==◌, not, inl, inr, List, [], ◌∷◌, ◌≡◌, refl, ap, sym, ◌∙◌, subst, arith, ◌<◌, ◌≤◌, ◌+◌}
use Rattle.std.specs.List.{list_any, range_with_len}
use Rattle.std.proofs.lemmas.Bool.{eqb-true, eq-eqb, or_left, or_right, or_parts, and_parts, and_from, cases_eq, cases_Bool}
use Rattle.svc_graph.specs.declared.plan.Kind.TheVariants.{Bootstrap as BootstrapKind}
use Rattle.svc_record.specs.declared.plan.Plan.{Plan}
use Rattle.svc_record.specs.declared.entry.Entry.TheVariants.{Told}
use Rattle.svc_record.specs.declared.action.Action.{Action}
use Rattle.svc_record.specs.declared.action.Action.TheVariants.{Start, Fail, Bind, Adopt, Close, OpenReceiver, TryReceive, NotifyParent, Daemonize, Connect, Send, Broadcast, Phase, Judged, Refuse, Settings as TellSettings, Handshake, Serve, Drop, Rest}
use Rattle.svc_record.specs.declared.action.ExecutionPhase.TheVariants.{Bootstrap, BootstrapComplete}
use Rattle.svc_record.specs.Plans.{service_count, services, has_kind}
use Rattle.svc_record.specs.Record.{Record, now, tell, has, EachEarlier}
use Rattle.svc_record.specs.Starts.{is_started, is_due, start_due, start_known}
use Rattle.svc_record.specs.AskRules.{FailsRight}
use Rattle.svc_record.specs.Boot.{has_begun, start_after_boot, is_side_child}
use Rattle.svc_record.specs.Drain.{is_ending, every_moment_right}
use Rattle.svc_record.specs.Offer.{one_ask}
use Rattle.svc_record.specs.Right.{SettledRight}
use Rattle.svc_endpoints.specs.EndpointsData.{EndpointsData}
use Rattle.svc_endpoints.specs.EndpointsState.{EndpointsStand}
use Rattle.svc_boot.specs.BootData.{BootData}
use Rattle.svc_boot.specs.BootState.{BootStands}
use Rattle.svc_offer.specs.OfferData.{OfferData}
use Rattle.svc_offer.specs.OfferState.{OfferStands, over_since}
use Rattle.svc_offer.specs.OfferFacts.{is_offer_action}
use Rattle.svc_offer.proofs.Foreign as offers
use Rattle.svc_drain.specs.DrainData.{DrainData}
use Rattle.svc_drain.specs.DrainState.{DrainStands}
use Rattle.svc_drain.specs.DrainFacts.{is_drain_action}
use Rattle.svc_drain.proofs.Foreign as drains
use Rattle.svc_connections.specs.ConnectionsData.{ConnectionsData}
use Rattle.svc_connections.specs.ConnectionsState.{ConnectionsStand}
use Rattle.svc_connections.specs.ConnectionsFacts.{touches_connections}
use Rattle.svc_connections.proofs.Foreign as sockets
use Rattle.svc_core.specs.StartsData.{StartsData}
use Rattle.svc_core.specs.StartsState.{StartsStand}
use Rattle.svc_core.specs.Passes.{EntriesRight, Going, MayEnd, may_start}
use Rattle.svc_core.proofs.StartsLemmas.{is_due-grows}

-- the same without the parts but that on starts
pub record Base (p : Plan) (st : StartsData) (q : Record) : Type 0 where
  pub starts : StartsStand p st q
  pub entries : EntriesRight p q
  pub started_due : (s : ℕ) → s < service_count p → is_started q s ≡ true → is_due p q s ≡ true
  pub no_end : has is_ending q ≡ false
  pub earlier : EachEarlier (SettledRight p) q
  pub fails : EachEarlier (FailsRight p) q
  pub asks : EachEarlier (λ before. one_ask p before ≡ true) q

-- the same without the parts on endpoints and on bootstrapping
pub record Loose (p : Plan) (st : StartsData) (o : OfferData) (dr : DrainData) (cn : ConnectionsData) (q : Record) : Type 0 where
  pub base : Base p st q
  pub drain : DrainStands p dr (over_since o.state) q
  pub offer : OfferStands p o q
  pub connections : ConnectionsStand p cn q

pub base-of : (p : Plan) (st : StartsData) (d : EndpointsData) (b : BootData) (o : OfferData) (dr : DrainData) (cn : ConnectionsData) (q : Record)
    → Going p st d b o dr cn q → Base p st q
base-of p st d b o dr cn q h = record {
  starts = h.starts;
  entries = h.entries;
  started_due = h.started_due;
  no_end = h.no_end;
  earlier = h.earlier;
  fails = h.fails;
  asks = h.asks;
}

pub loose-of : (p : Plan) (st : StartsData) (d : EndpointsData) (b : BootData) (o : OfferData) (dr : DrainData) (cn : ConnectionsData) (q : Record)
    → Going p st d b o dr cn q → Loose p st o dr cn q
loose-of p st d b o dr cn q h = record { base = base-of p st d b o dr cn q h; drain = h.drain; offer = h.offer; connections = h.connections }

pub going-from : (p : Plan) (st : StartsData) (d : EndpointsData) (b : BootData) (o : OfferData) (dr : DrainData) (cn : ConnectionsData) (q : Record)
    → Loose p st o dr cn q → EndpointsStand p d q → BootStands p b q
    → has_begun p q ≡ b.begun → (dr.running ≡ true → may_start p b ≡ true) → Going p st d b o dr cn q
going-from p st d b o dr cn q h ends boot begun runs = record {
  drain = h.drain;
  offer = h.offer;
  connections = h.connections;
  starts = h.base.starts;
  ends = ends;
  boot = boot;
  entries = h.base.entries;
  started_due = h.base.started_due;
  begun_is = begun;
  runs = runs;
  no_end = h.base.no_end;
  earlier = h.base.earlier;
  fails = h.base.fails;
  asks = h.base.asks;
}

-- an action that starts nothing and doesn't belong to the end, with the moment in a phase
abbrev pub may_run : ℕ → Action → Bool
may_run m (Fail s) = true
may_run m (Bind s i) = true
may_run m (Adopt s i fd) = true
may_run m (Close fd) = true
may_run m OpenReceiver = true
may_run m TryReceive = true
may_run m NotifyParent = true
may_run m Daemonize = true
may_run m Connect = true
may_run m (Send bytes fds) = true
may_run m Broadcast = true
may_run m (Phase x ms) = ms == m
may_run m (Judged c said) = true
may_run m (Refuse c) = true
may_run m (TellSettings c list) = true
may_run m (Handshake c) = true
may_run m (Serve c) = true
may_run m (Drop c) = true
may_run m (Rest s i) = true
may_run m _ = false

base-one : (p : Plan) (st : StartsData) (q : Record) (a : Action) → ((s : ℕ) → is_started (Told a ∷ q) s ≡ is_started q s)
    → start_due p (Told a) q ≡ true → start_after_boot p (Told a) q ≡ true → every_moment_right (Told a) q ≡ true → start_known p (Told a) q ≡ true
    → is_ending (Told a) ≡ false → Base p st q → Base p st (Told a ∷ q)
base-one p st q a starts due after moment known ends h = record {
  starts = record { started_is = λ s lt. h.starts.started_is s lt ∙ sym (starts s); ready_is = h.starts.ready_is; ended_is = h.starts.ended_is };
  entries = record {
    fits = (refl, h.entries.fits);
    starts = (due, h.entries.starts);
    after_boot = (after, h.entries.after_boot);
    moments = (moment, h.entries.moments);
    known_starts = (known, h.entries.known_starts);
  };
  started_due = λ s lt here. is_due-grows p q (Told a) s (h.started_due s lt (sym (starts s) ∙ here));
  no_end = ap (λ b. b || has is_ending q) ends ∙ h.no_end;
  earlier = h.earlier;
  fails = h.fails;
  asks = h.asks;
}

pub base-told : (p : Plan) (st : StartsData) (q : Record) (a : Action) → may_run (now q) a ≡ true → Base p st q → Base p st (Told a ∷ q)
base-told p st q (Fail s) k h = base-one p st q (Fail s) (λ t. refl) refl refl refl refl refl h
base-told p st q (Bind s i) k h = base-one p st q (Bind s i) (λ t. refl) refl refl refl refl refl h
base-told p st q (Adopt s i fd) k h = base-one p st q (Adopt s i fd) (λ t. refl) refl refl refl refl refl h
base-told p st q (Close fd) k h = base-one p st q (Close fd) (λ t. refl) refl refl refl refl refl h
base-told p st q OpenReceiver k h = base-one p st q OpenReceiver (λ t. refl) refl refl refl refl refl h
base-told p st q TryReceive k h = base-one p st q TryReceive (λ t. refl) refl refl refl refl refl h
base-told p st q NotifyParent k h = base-one p st q NotifyParent (λ t. refl) refl refl refl refl refl h
base-told p st q Daemonize k h = base-one p st q Daemonize (λ t. refl) refl refl refl refl refl h
base-told p st q Connect k h = base-one p st q Connect (λ t. refl) refl refl refl refl refl h
base-told p st q (Send bytes fds) k h = base-one p st q (Send bytes fds) (λ t. refl) refl refl refl refl refl h
base-told p st q Broadcast k h = base-one p st q Broadcast (λ t. refl) refl refl refl refl refl h
base-told p st q (Phase x ms) k h = base-one p st q (Phase x ms) (λ t. refl) refl refl k refl refl h
base-told p st q (Judged c said) k h = base-one p st q (Judged c said) (λ t. refl) refl refl refl refl refl h
base-told p st q (Refuse c) k h = base-one p st q (Refuse c) (λ t. refl) refl refl refl refl refl h
base-told p st q (TellSettings c list) k h = base-one p st q (TellSettings c list) (λ t. refl) refl refl refl refl refl h
base-told p st q (Handshake c) k h = base-one p st q (Handshake c) (λ t. refl) refl refl refl refl refl h
base-told p st q (Serve c) k h = base-one p st q (Serve c) (λ t. refl) refl refl refl refl refl h
base-told p st q (Drop c) k h = base-one p st q (Drop c) (λ t. refl) refl refl refl refl refl h
base-told p st q (Rest s i) k h = base-one p st q (Rest s i) (λ t. refl) refl refl refl refl refl h
base-told p st q _ k h = absurd (cc)

-- such actions, one after the other
abbrev pub are_free : ℕ → List Action → Bool
are_free m [] = true
are_free m (a ∷ told) = may_run m a && are_free m told

pub base-tell : (p : Plan) (st : StartsData) (q : Record) (told : List Action) → are_free (now q) told ≡ true → Base p st q → Base p st (tell q told)
base-tell p st q [] k h = h
base-tell p st q (a ∷ told) k h =
    let parts = and_parts (may_run (now q) a) (are_free (now q) told) k in
    base-tell p st (Told a ∷ q) told parts.1 (base-told p st q a parts.0 h)

-- one that belongs to no offer and to no shutdown either
abbrev pub is_loose : ℕ → Action → Bool
is_loose m (Fail s) = true
is_loose m (Bind s i) = true
is_loose m (Adopt s i fd) = true
is_loose m (Close fd) = true
is_loose m OpenReceiver = true
is_loose m TryReceive = true
is_loose m NotifyParent = true
is_loose m (Phase Bootstrap ms) = ms == m
is_loose m (Phase BootstrapComplete ms) = ms == m
is_loose m _ = false

-- what such an action is
pub record IsLoose (p : Plan) (m : ℕ) (q : Record) (a : Action) : Type 0 where
  pub free : may_run m a ≡ true
  pub drain : is_drain_action a ≡ false
  pub offer : is_offer_action a ≡ false
  pub connections : touches_connections a ≡ false
  pub may : MayEnd p q → MayEnd p (Told a ∷ q)

pub loose-is : (p : Plan) (m : ℕ) (q : Record) (a : Action) → is_loose m a ≡ true → IsLoose p m q a
loose-is p m q (Fail s) k = record { free = refl; drain = refl; offer = refl; connections = refl; may = λ h. record { unpassed = h.unpassed; asks = h.asks } }
loose-is p m q (Bind s i) k = record { free = refl; drain = refl; offer = refl; connections = refl; may = λ h. record { unpassed = h.unpassed; asks = h.asks } }
loose-is p m q (Adopt s i fd) k =
    record { free = refl; drain = refl; offer = refl; connections = refl; may = λ h. record { unpassed = h.unpassed; asks = h.asks } }
loose-is p m q (Close fd) k = record { free = refl; drain = refl; offer = refl; connections = refl; may = λ h. record { unpassed = h.unpassed; asks = h.asks } }
loose-is p m q OpenReceiver k =
    record { free = refl; drain = refl; offer = refl; connections = refl; may = λ h. record { unpassed = h.unpassed; asks = h.asks } }
loose-is p m q TryReceive k = record { free = refl; drain = refl; offer = refl; connections = refl; may = λ h. record { unpassed = h.unpassed; asks = h.asks } }
loose-is p m q NotifyParent k =
    record { free = refl; drain = refl; offer = refl; connections = refl; may = λ h. record { unpassed = h.unpassed; asks = h.asks } }
loose-is p m q (Phase Bootstrap ms) k =
    record { free = k; drain = refl; offer = refl; connections = refl; may = λ h. record { unpassed = h.unpassed; asks = h.asks } }
loose-is p m q (Phase BootstrapComplete ms) k =
    record { free = k; drain = refl; offer = refl; connections = refl; may = λ h. record { unpassed = h.unpassed; asks = h.asks } }
loose-is p m q _ k = absurd (cc)

pub loose-told : (p : Plan) (st : StartsData) (o : OfferData) (dr : DrainData) (cn : ConnectionsData) (q : Record) (a : Action) → is_loose (now q) a ≡ true
    → Loose p st o dr cn q → Loose p st o dr cn (Told a ∷ q)
loose-told p st o dr cn q a k h = let is = loose-is p (now q) q a k in record {
  base = base-told p st q a is.free h.base;
  drain = drains.stands-told p dr (over_since o.state) q a is.drain h.drain;
  offer = offers.stands-told p o q a is.offer h.offer;
  connections = sockets.stands-told p cn q a is.connections h.connections;
}

-- such actions, one after the other
abbrev pub are_loose : ℕ → List Action → Bool
are_loose m [] = true
are_loose m (a ∷ told) = is_loose m a && are_loose m told

pub loose-tell : (p : Plan) (st : StartsData) (o : OfferData) (dr : DrainData) (cn : ConnectionsData) (q : Record) (told : List Action)
    → are_loose (now q) told ≡ true → Loose p st o dr cn q → Loose p st o dr cn (tell q told)
loose-tell p st o dr cn q [] k h = h
loose-tell p st o dr cn q (a ∷ told) k h =
    let parts = and_parts (is_loose (now q) a) (are_loose (now q) told) k in
    loose-tell p st o dr cn (Told a ∷ q) told parts.1 (loose-told p st o dr cn q a parts.0 h)

pub may-tell : (p : Plan) (m : ℕ) (q : Record) (told : List Action) → are_loose m told ≡ true → MayEnd p q → MayEnd p (tell q told)
may-tell p m q [] k h = h
may-tell p m q (a ∷ told) k h =
    let parts = and_parts (is_loose m a) (are_loose m told) k in
    may-tell p m (Told a ∷ q) told parts.1 ((loose-is p m q a parts.0).may h)

-- bootstrapping has begun
list_any-same : (f g : ℕ → Bool) → ((x : ℕ) → f x ≡ g x) → (xs : List ℕ) → list_any f xs ≡ list_any g xs
list_any-same f g e [] = refl
list_any-same f g e (x ∷ xs) = rw (e x, list_any-same f g e xs) refl

list_any-weaker : (f g : ℕ → Bool) → ((x : ℕ) → f x ≡ true → g x ≡ true) → (xs : List ℕ) → list_any f xs ≡ true → list_any g xs ≡ true
list_any-weaker f g e [] h = h
list_any-weaker f g e (x ∷ xs) h = grow (f x) (g x) (list_any f xs) (list_any g xs) (e x) (list_any-weaker f g e xs) h
  where
    grow : (a b c d : Bool) → (a ≡ true → b ≡ true) → (c ≡ true → d ≡ true) → (a || c) ≡ true → (b || d) ≡ true
    grow a b c d u v k = grind (arith, u, v)

range-any : (f : ℕ → Bool) (n a s : ℕ) → a ≤ s → s < a + n → f s ≡ true → list_any f (range_with_len a n) ≡ true
range-any f zero a s low high h = absurd (omega arith)
range-any f (suc n) a s low high h = elim (cases_eq a s) [
  | inl same ↦ or_left (f a) (list_any f (range_with_len (a + 1) n)) (ap f same ∙ h)
  | inr other ↦ or_right (f a) (list_any f (range_with_len (a + 1) n)) (range-any f n (a + 1) s (omega (arith, other)) (omega arith) h)
]

range-none : (f : ℕ → Bool) (n a s : ℕ) → a ≤ s → s < a + n → list_any f (range_with_len a n) ≡ false → f s ≡ false
range-none f n a s low high h = elim (cases_Bool (f s)) [ inl holds ↦ absurd (let some = range-any f n a s low high holds in cc) | inr fails ↦ fails ]

pub no-boot-service : (p : Plan) (q : Record) (s : ℕ) → has_begun p q ≡ false → s < service_count p → (has_kind p BootstrapKind s && is_started q s) ≡ false
no-boot-service p q s h lt =
    range-none (λ t. has_kind p BootstrapKind t && is_started q t) (service_count p) 0 s (omega arith) (omega arith)
    (or_parts (p.eager && (not p.daemon || has is_side_child q)) (list_any (λ t. has_kind p BootstrapKind t && is_started q t) (services p)) h).1

started_other : (k here was : Bool) → (here ≡ true → k ≡ false) → (k && (here || was)) ≡ (k && was)
started_other k here was f = grind (arith, f)

pub begun-other : (p : Plan) (q : Record) (s : ℕ) → has_kind p BootstrapKind s ≡ false → has_begun p (Told (Start s) ∷ q) ≡ has_begun p q
begun-other p q s h =
    ap (λ b. (p.eager && (not p.daemon || has is_side_child q)) || b)
    (list_any-same (λ t. has_kind p BootstrapKind t && ((s == t) || is_started q t)) (λ t. has_kind p BootstrapKind t && is_started q t)
    (λ t. started_other (has_kind p BootstrapKind t) (s == t) (is_started q t) (λ e. subst (λ u. has_kind p BootstrapKind u ≡ false) (eqb-true s t e) h))
    (services p))

or_and_grows : (k here was : Bool) → (k && was) ≡ true → (k && (here || was)) ≡ true
or_and_grows k here was h = grind arith

or_second_grows : (a b c : Bool) → (b ≡ true → c ≡ true) → (a || b) ≡ true → (a || c) ≡ true
or_second_grows a b c f h = grind (arith, f)

pub begun-start-grows : (p : Plan) (q : Record) (s : ℕ) → has_begun p q ≡ true → has_begun p (Told (Start s) ∷ q) ≡ true
begun-start-grows p q s h =
    or_second_grows (p.eager && (not p.daemon || has is_side_child q)) (list_any (λ t. has_kind p BootstrapKind t && is_started q t) (services p))
    (list_any (λ t. has_kind p BootstrapKind t && ((s == t) || is_started q t)) (services p))
    (list_any-weaker (λ t. has_kind p BootstrapKind t && is_started q t) (λ t. has_kind p BootstrapKind t && ((s == t) || is_started q t))
    (λ t. or_and_grows (has_kind p BootstrapKind t) (s == t) (is_started q t)) (services p)) h

pub begun-boots : (p : Plan) (q : Record) (s : ℕ) → s < service_count p → has_kind p BootstrapKind s ≡ true → has_begun p (Told (Start s) ∷ q) ≡ true
begun-boots p q s lt h =
    or_right (p.eager && (not p.daemon || has is_side_child q)) (list_any (λ t. has_kind p BootstrapKind t && ((s == t) || is_started q t)) (services p))
    (range-any (λ t. has_kind p BootstrapKind t && ((s == t) || is_started q t)) (service_count p) 0 s (omega arith) (omega arith)
    (and_from (has_kind p BootstrapKind s) ((s == s) || is_started q s) h (or_left (s == s) (is_started q s) (eq-eqb s s refl))))

begun-free : (p : Plan) (q : Record) (m : ℕ) (a : Action) → may_run m a ≡ true → has_begun p (Told a ∷ q) ≡ has_begun p q
begun-free p q m (Fail s) k = refl
begun-free p q m (Bind s i) k = refl
begun-free p q m (Adopt s i fd) k = refl
begun-free p q m (Close fd) k = refl
begun-free p q m OpenReceiver k = refl
begun-free p q m TryReceive k = refl
begun-free p q m NotifyParent k = refl
begun-free p q m Daemonize k = refl
begun-free p q m Connect k = refl
begun-free p q m (Send bytes fds) k = refl
begun-free p q m Broadcast k = refl
begun-free p q m (Phase x ms) k = refl
begun-free p q m (Judged c said) k = refl
begun-free p q m (Refuse c) k = refl
begun-free p q m (TellSettings c list) k = refl
begun-free p q m (Handshake c) k = refl
begun-free p q m (Serve c) k = refl
begun-free p q m (Drop c) k = refl
begun-free p q m (Rest s i) k = refl
begun-free p q m _ k = absurd (cc)

pub begun-frees : (p : Plan) (q : Record) (m : ℕ) (told : List Action) → are_free m told ≡ true → has_begun p (tell q told) ≡ has_begun p q
begun-frees p q m [] k = refl
begun-frees p q m (a ∷ told) k =
    let parts = and_parts (may_run m a) (are_free m told) k in begun-frees p (Told a ∷ q) m told parts.1 ∙ begun-free p q m a parts.0

pub begun-tell : (p : Plan) (q : Record) (m : ℕ) (told : List Action) → are_loose m told ≡ true → has_begun p (tell q told) ≡ has_begun p q
begun-tell p q m [] k = refl
begun-tell p q m (a ∷ told) k =
    let parts = and_parts (is_loose m a) (are_loose m told) k in
    begun-tell p (Told a ∷ q) m told parts.1 ∙ begun-free p q m a (loose-is p m q a parts.0).free
