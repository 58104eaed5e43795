-- One visit of the pass.
use Rattle.std.proofs.Common.{ℕ, Bool, true, false, ◌&&◌, ◌||◌, ◌==◌, not, ◌⊎◌, inl, inr, List, [], ◌∷◌, ◌++◌, ◌≡◌, ◌≢◌, refl, ap, sym, ◌∙◌, subst, append_assoc, append-nil, arith, ◌<◌, ◌+◌, length, slice_index, MatchBool}
use Rattle.std.specs.Bool.{OnTrue}
use Rattle.std.specs.List.{list_all, list_any}
use Rattle.std.proofs.lemmas.Bool.{eqb-true, and_parts, and_from, or_cases, or_left, or_right, eq-eqb, ne_eqb, cases_eq, cases_Bool}
use Rattle.std.proofs.lemmas.Bool.Decides.{Decides-ltb}
use Rattle.svc_graph.specs.declared.plan.Kind.TheVariants.{Bootstrap as BootstrapKind, Plain}
use Rattle.svc_record.specs.declared.plan.Plan.{Plan}
use Rattle.svc_record.specs.declared.entry.Entry.TheVariants.{Told}
use Rattle.svc_record.specs.declared.action.Action.{Action}
use Rattle.svc_record.specs.declared.action.Action.TheVariants.{Start, Bind, Adopt, Phase, OpenReceiver, TryReceive, NotifyParent}
use Rattle.svc_record.specs.declared.action.ExecutionPhase.TheVariants.{Bootstrap, BootstrapComplete}
use Rattle.svc_record.specs.Plans.{service_count, endpoints, depends, has_kind}
use Rattle.svc_record.specs.Record.{Record, now, tell, has, last_step, is_bootstrap_complete}
use Rattle.svc_record.specs.Starts.{is_started, is_ready, is_due, is_ready_event, is_ended_event}
use Rattle.svc_record.specs.Failed.{has_failed}
use Rattle.svc_record.specs.Endpoints.{endpoint_right, endpoint_right_late}
use Rattle.svc_record.specs.Closes.{is_broadcast}
use Rattle.svc_record.specs.Right.{is_quiet, is_test_step}
use Rattle.svc_record.specs.Told.{Tells}
use Rattle.svc_record.specs.Validity.{IsValid, IsInOrder, depends_on}
use Rattle.svc_record.proofs.Closing.{tell-append}
use Rattle.svc_graph.proofs.Lists.{All-listed}
use Rattle.svc_endpoints.specs.EndpointsData.{EndpointsData}
use Rattle.svc_endpoints.specs.EndpointsState.{EndpointsStand}
use Rattle.svc_endpoints.specs.Visits.{IsAskOf, Visited}
use Rattle.svc_endpoints.proofs.EventLemmas.{stands-told, stands-start as ends-start}
use Rattle.svc_endpoints.proofs.SharedLemmas.{right-bind, right-adopt, right-start, late-bind, late-adopt, late-start}
use Rattle.svc_boot.specs.BootData.{BootData}
use Rattle.svc_boot.specs.ForkState.{may_run}
use Rattle.svc_boot.specs.BootState.{BootStands, has_come, notifies}
use Rattle.svc_boot.specs.BootEffects.{begin_more, begin_told, begun_by, begun_with, receive_told}
use Rattle.svc_boot.specs.BootFacts.{has_no_boot_action}
use Rattle.svc_boot.proofs.Foreign as foreign
use Rattle.svc_boot.proofs.Settled.{fork-begin}
use Rattle.svc_offer.specs.OfferData.{OfferData}
use Rattle.svc_offer.specs.OfferState.{over_since}
use Rattle.svc_offer.proofs.Foreign as offers
use Rattle.svc_drain.specs.DrainData.{DrainData}
use Rattle.svc_drain.proofs.Foreign as drains
use Rattle.svc_connections.specs.ConnectionsData.{ConnectionsData}
use Rattle.svc_connections.proofs.Foreign as sockets
use Rattle.svc_core.specs.StartsData.{StartsData}
use Rattle.svc_core.specs.StartsState.{IsStartsSized, AreFailed, is_flagged, starts_now, start_if, start_told}
use Rattle.svc_core.specs.Passes.{IsBootRipe, VisitedUpTo, TestedAt, PassedUpTo, Passes, Half, Starting, MayEnd, may_start, is_tested, is_boot_service}
use Rattle.svc_core.proofs.RecordLemmas.{not_true}
use Rattle.svc_core.proofs.StartsLemmas.{is_due-grows, is_due-start, starts-is, stands-start}
use Rattle.svc_core.proofs.GoingLemmas.{Loose, may-tell, loose-of, loose-tell, going-from, are_loose, begun-other, begun-start-grows, begun-boots, begun-tell, no-boot-service}

below_suc : (j k : ℕ) → j < k + 1 → (j < k) ⊎ (j ≡ k)
below_suc j k h = elim (cases_eq j k) [ inl e ↦ inr e | inr ne ↦ inl (omega arith) ]

not_started_due : (here due : Bool) → false ≡ (not here && due) → due ≡ true → here ≡ true
not_started_due here due h e = grind arith

pub are-failed : (p : Plan) (d : EndpointsData) (q : Record) → EndpointsStand p d q → AreFailed p d.failed q
are-failed p d q h s inside = h.states.failed_is s inside

-- a pass that wasn't ended went to its place
pub visited-of : (p : Plan) (order : List ℕ) (k : ℕ) (b : BootData) (q : Record) → is_tested p b ≡ false
    → MatchBool (is_tested p b) ((j : ℕ) × TestedAt p order j q) (VisitedUpTo p order k q) → VisitedUpTo p order k q
visited-of p order k b q e h = pick (is_tested p b) ((j : ℕ) × TestedAt p order j q) (VisitedUpTo p order k q) e h
  where
    pick : (c : Bool) (A B : Type 0) → c ≡ false → MatchBool c A B → B
    pick true A B e h = absurd (cc)
    pick false A B e h = h

as-visited : (c : Bool) (A B : Type 0) → c ≡ false → B → MatchBool c A B
as-visited true A B e h = absurd (cc)
as-visited false A B e h = h

as-tested : (c : Bool) (A B : Type 0) → c ≡ true → A → MatchBool c A B
as-tested true A B e h = h
as-tested false A B e h = absurd (cc)

-- what begins to bootstrap leaves what holds of the endpoints, and of services that aren't concerned
pub begin-loose : (p : Plan) (b : BootData) (m : ℕ) → are_loose m (begin_told p b m) ≡ true
begin-loose p b m = elim (cases_Bool b.begun) [
  | inl begun ↦ rw begun refl
  | inr not_begun ↦ rw not_begun (rw (eq-eqb m m refl) (more p.test (notifies p) p.upgrade))
]
  where
    more : (test notify upgrade : Bool) → are_loose m (begin_more test notify upgrade m) ≡ true
    more true notify upgrade = refl
    more false true true = refl
    more false false true = refl
    more false true false = rw (eq-eqb m m refl) refl
    more false false false = rw (eq-eqb m m refl) refl

-- telling it, by what is told
begin-keeps : (P : Record → Type 0) → ((q : Record) (m : ℕ) → P q → P (Told (Phase Bootstrap m) ∷ q))
    → ((q : Record) (m : ℕ) → P q → P (Told (Phase BootstrapComplete m) ∷ q))
    → ((q : Record) → P q → P (Told OpenReceiver ∷ q)) → ((q : Record) → P q → P (Told TryReceive ∷ q)) → ((q : Record) → P q → P (Told NotifyParent ∷ q))
    → (p : Plan) (b : BootData) (m : ℕ) (q : Record) → P q → P (tell q (begin_told p b m))
begin-keeps P f g h k n p b m q was = elim (cases_Bool b.begun) [
  | inl begun ↦ rw begun was
  | inr not_begun ↦ rw not_begun (more p.test (notifies p) p.upgrade (f q m was))
]
  where
    receives : (upgrade : Bool) (r : Record) → P r → P (tell r (receive_told upgrade m))
    receives true r x = k (Told OpenReceiver ∷ r) (h r x)
    receives false r x = g r m x

    more : (test notify upgrade : Bool) → P (Told (Phase Bootstrap m) ∷ q) → P (tell (Told (Phase Bootstrap m) ∷ q) (begin_more test notify upgrade m))
    more true notify upgrade x = x
    more false true upgrade x = receives upgrade (Told NotifyParent ∷ (Told (Phase Bootstrap m) ∷ q)) (n (Told (Phase Bootstrap m) ∷ q) x)
    more false false upgrade x = receives upgrade (Told (Phase Bootstrap m) ∷ q) x

pub begin-ends : (p : Plan) (d : EndpointsData) (b : BootData) (m : ℕ) (q : Record) → EndpointsStand p d q → EndpointsStand p d (tell q (begin_told p b m))
begin-ends p d b m q h =
    begin-keeps (EndpointsStand p d) (λ r n. stands-told p d r (Phase Bootstrap n) refl) (λ r n. stands-told p d r (Phase BootstrapComplete n) refl)
    (λ r. stands-told p d r OpenReceiver refl) (λ r. stands-told p d r TryReceive refl) (λ r. stands-told p d r NotifyParent refl) p b m q h

begin-right : (p : Plan) (b : BootData) (m : ℕ) (q : Record) (s i : ℕ) → endpoint_right p q s i ≡ true → endpoint_right p (tell q (begin_told p b m)) s i ≡ true
begin-right p b m q s i h =
    begin-keeps (λ r. endpoint_right p r s i ≡ true) (λ r n k. k) (λ r n k. k) (λ r k. k) (λ r k. k) (λ r k. k) p b m q h

begin-late : (p : Plan) (b : BootData) (m : ℕ) (q : Record) (s i : ℕ) → endpoint_right_late p q s i ≡ true
    → endpoint_right_late p (tell q (begin_told p b m)) s i ≡ true
begin-late p b m q s i h =
    begin-keeps (λ r. endpoint_right_late p r s i ≡ true) (λ r n k. k) (λ r n k. k) (λ r k. k) (λ r k. k) (λ r k. k) p b m q h

begin-silent : (p : Plan) (b : BootData) (m : ℕ) (q : Record) → has is_broadcast (tell q (begin_told p b m)) ≡ has is_broadcast q
begin-silent p b m q = begin-keeps (λ r. has is_broadcast r ≡ has is_broadcast q) (λ r n k. k) (λ r n k. k) (λ r k. k) (λ r k. k) (λ r k. k) p b m q refl

begin-started : (p : Plan) (b : BootData) (m : ℕ) (q : Record) (s : ℕ) → is_started (tell q (begin_told p b m)) s ≡ is_started q s
begin-started p b m q s = begin-keeps (λ r. is_started r s ≡ is_started q s) (λ r n k. k) (λ r n k. k) (λ r k. k) (λ r k. k) (λ r k. k) p b m q refl

-- whether a service is ready but for bootstrapping
abbrev ready_apart : Plan → Record → ℕ → Bool
ready_apart p q s = ((has (is_ready_event s) q || has (is_ended_event s) q) || has_failed p q s) || (is_started q s && has_kind p Plain s)

begin-apart : (p : Plan) (b : BootData) (m : ℕ) (q : Record) (s : ℕ) → ready_apart p (tell q (begin_told p b m)) s ≡ ready_apart p q s
begin-apart p b m q s = begin-keeps (λ r. ready_apart p r s ≡ ready_apart p q s) (λ r n k. k) (λ r n k. k) (λ r k. k) (λ r k. k) (λ r k. k) p b m q refl

ready_split : (e f on plain boots complete : Bool) → (boots && on) ≡ false → ((e || f) || (on && (plain || (boots && complete)))) ≡ ((e || f) || (on && plain))
ready_split e f on plain boots complete h = grind arith

ready-apart : (p : Plan) (q : Record) (s : ℕ) → is_boot_service p q s ≡ false → is_ready p q s ≡ ready_apart p q s
ready-apart p q s h =
    ready_split (has (is_ready_event s) q || has (is_ended_event s) q) (has_failed p q s) (is_started q s) (has_kind p Plain s) (has_kind p BootstrapKind s)
    (has is_bootstrap_complete q) h

all-ready : (p : Plan) (q r : Record) (xs : List ℕ) → ((x : ℕ) → list_any (λ y. y == x) xs ≡ true → is_ready p r x ≡ is_ready p q x)
    → list_all (is_ready p r) xs ≡ list_all (is_ready p q) xs
all-ready p q r [] f = refl
all-ready p q r (x ∷ xs) f =
    rw (f x (or_left (x == x) (list_any (λ y. y == x) xs) (eq-eqb x x refl)), all-ready p q r xs (λ y h. f y (or_right (x == y) (list_any (λ z. z == y) xs) h)))
    refl

-- an ask is told that starts nothing
ask-loose : (s m : ℕ) (told : List Action) → IsAskOf s told → are_loose m told ≡ true
ask-loose s m [] h = refl
ask-loose s m (Bind t i ∷ []) h = refl
ask-loose s m (Adopt t i fd ∷ []) h = refl
ask-loose s m (_ ∷ _) h = absurd h

ask-others : (told : List Action) (s : ℕ) → IsAskOf s told → has_no_boot_action told ≡ true
ask-others [] s h = refl
ask-others (Bind t i ∷ []) s h = refl
ask-others (Adopt t i fd ∷ []) s h = refl
ask-others (_ ∷ _) s h = absurd h

ask-quiet : (q : Record) (told : List Action) (s : ℕ) → IsAskOf s told → is_quiet (last_step q) ≡ true → is_quiet (last_step (tell q told)) ≡ true
ask-quiet q [] s a h = h
ask-quiet q (Bind t i ∷ []) s a h = h
ask-quiet q (Adopt t i fd ∷ []) s a h = h
ask-quiet q (_ ∷ _) s a h = absurd a

ask-started : (q : Record) (s t : ℕ) (told : List Action) → IsAskOf s told → is_started (tell q told) t ≡ is_started q t
ask-started q s t [] a = refl
ask-started q s t (Bind u i ∷ []) a = refl
ask-started q s t (Adopt u i fd ∷ []) a = refl
ask-started q s t (_ ∷ _) a = absurd a

ask-due : (p : Plan) (q : Record) (s t : ℕ) (told : List Action) → IsAskOf s told → is_due p (tell q told) t ≡ is_due p q t
ask-due p q s t [] a = refl
ask-due p q s t (Bind u i ∷ []) a = refl
ask-due p q s t (Adopt u i fd ∷ []) a = refl
ask-due p q s t (_ ∷ _) a = absurd a

ask-right : (p : Plan) (q : Record) (s t i : ℕ) (told : List Action) → IsAskOf s told → endpoint_right p q t i ≡ true
    → endpoint_right p (tell q told) t i ≡ true
ask-right p q s t i [] a h = h
ask-right p q s t i (Bind u k ∷ []) a h = right-bind p q u k t i h
ask-right p q s t i (Adopt u k fd ∷ []) a h = right-adopt p q u k fd t i h
ask-right p q s t i (_ ∷ _) a h = absurd a

ask-late : (p : Plan) (q : Record) (s t i : ℕ) (told : List Action) → IsAskOf s told → endpoint_right_late p q t i ≡ true
    → endpoint_right_late p (tell q told) t i ≡ true
ask-late p q s t i [] a h = h
ask-late p q s t i (Bind u k ∷ []) a h = late-bind p q u k t i h
ask-late p q s t i (Adopt u k fd ∷ []) a h = late-adopt p q u k fd t i h
ask-late p q s t i (_ ∷ _) a h = absurd a

ask-silent : (q : Record) (s : ℕ) (told : List Action) → IsAskOf s told → has is_broadcast (tell q told) ≡ has is_broadcast q
ask-silent q s [] a = refl
ask-silent q s (Bind u k ∷ []) a = refl
ask-silent q s (Adopt u k fd ∷ []) a = refl
ask-silent q s (_ ∷ _) a = absurd a

-- the beginning, by the flags
pub begun-now : (p : Plan) (b : BootData) → b.begun ≡ false → (begun_by p b).begun ≡ true
begun-now p b e = rw e (by p.test p.upgrade (record { fork = b.fork; begun = false; complete = b.complete; receiving = b.receiving; retries = b.retries }))
  where
    by : (test upgrade : Bool) (x : BootData) → (begun_with test upgrade x).begun ≡ true
    by true upgrade x = refl
    by false true x = refl
    by false false x = refl

or_grown : (free e c x : Bool) → (c ≡ true → x ≡ true) → (free && (not e || c)) ≡ true → (free && (not e || x)) ≡ true
or_grown free e c x f h = grind (arith, f)

-- where services may start, no fork is awaited
pub may-free : (p : Plan) (b : BootData) → may_start p b ≡ true → may_run p b.fork ≡ true
may-free p b h = (and_parts (may_run p b.fork) (not p.eager || b.complete) h).0

-- and bootstrapping is complete, or needn't be
pub may-complete : (p : Plan) (b : BootData) → may_start p b ≡ true → (not p.eager || b.complete) ≡ true
may-complete p b h = (and_parts (may_run p b.fork) (not p.eager || b.complete) h).1

may-grows : (p : Plan) (b : BootData) → may_start p b ≡ true → may_start p (begun_by p b) ≡ true
may-grows p b h =
    ap (λ f. may_run p f && (not p.eager || (begun_by p b).complete)) (fork-begin p b)
    ∙ or_grown (may_run p b.fork) p.eager b.complete (begun_by p b).complete
    (λ e. (elim (cases_Bool b.begun) [
      | inl begun ↦ rw begun e
      | inr not_begun ↦
          rw not_begun
          (by p.test p.upgrade (record { fork = b.fork; begun = false; complete = b.complete; receiving = b.receiving; retries = b.retries }) e)
    ])) h
  where
    by : (test upgrade : Bool) (x : BootData) → x.complete ≡ true → (begun_with test upgrade x).complete ≡ true
    by true upgrade x e = e
    by false true x e = e
    by false false x e = refl

unripe : (begun t u h c : Bool) → begun ≡ false → c ≡ ((begun && not t) && (not u || h)) → c ≡ false
unripe begun t u h c e k = grind arith

pub ripe-begun : (p : Plan) (b : BootData) → b.begun ≡ false → IsBootRipe p b → IsBootRipe p (begun_by p b)
ripe-begun p b e h =
    let old : b.complete ≡ false = unripe b.begun p.test p.upgrade (has_come b.receiving) b.complete e h.complete_is in
    elim (cases_Bool p.test) [
      | inl tests ↦ record { goes_on = rw (e, tests) h.goes_on; complete_is = rw (e, tests) old }
      | inr live ↦ elim (cases_Bool p.upgrade) [
        | inl takes ↦ record { goes_on = rw (e, live, takes) refl; complete_is = rw (e, live, takes) old }
        | inr alone ↦ record { goes_on = rw (e, live, alone) h.goes_on; complete_is = rw (e, live, alone) refl }
      ]
    ]

pub tested-told : (p : Plan) (b : BootData) (m : ℕ) → b.begun ≡ false → p.test ≡ true → begin_told p b m ≡ Phase Bootstrap m ∷ []
tested-told p b m e t = rw (e, t) refl

tested-tests : (p : Plan) (b : BootData) → is_tested p b ≡ true → p.test ≡ true
tested-tests p b h = (and_parts p.test b.begun h).0

start_not : (here due n : Bool) → n ≡ (not here && due) → n ≡ true → here ≡ false
start_not here due n e h = grind arith

start_yes : (here due n : Bool) → n ≡ (not here && due) → n ≡ true → due ≡ true
start_yes here due n e h = grind arith

no_and : (k b : Bool) → (k && not b) ≡ false → k ≡ true → b ≡ true
no_and k b h e = grind arith

module _ (p : Plan) (valid : IsValid p) (order : List ℕ) (dr : DrainData) (k : ℕ) (place : k < length order) (in_order : IsInOrder p order)
    (st : StartsData) (d : EndpointsData) (b : BootData) (o : OfferData) (cn : ConnectionsData) (q : Record) (sized : IsStartsSized p st)
    (untested : is_tested p b ≡ false) (was : PassedUpTo p order k st d b o dr cn q) where
  abbrev here : ℕ
  here = slice_index order k

  inside : here < service_count p
  inside = in_order.inside k place

  visited : VisitedUpTo p order k q
  visited = visited-of p order k b q untested was.visited

  starts-same : starts_now p st d.failed b.complete here ≡ (not (is_started q here) && is_due p q here)
  starts-same = starts-is p st d.failed b.complete q here valid inside was.going.starts (are-failed p d q was.going.ends) (sym was.going.boot.begin.complete_is)

  pub wait-half : starts_now p st d.failed b.complete here ≡ false → Half p order k st d b o dr cn q
  wait-half e =
      let due : false ≡ (not (is_started q here) && is_due p q here) = sym e ∙ starts-same in
      record {
        going = was.going;
        may = was.may;
        ripe = was.ripe;
        tested = not_true (is_tested p b) (TestedAt p order k q) untested;
        due_started = λ j lt due_now.
            elim (below_suc j k lt) [
              | inl below ↦ visited.due_started j below due_now
              | inr same ↦ subst (λ i. is_started q (slice_index order i) ≡ true) (sym same)
                  (not_started_due (is_started q here) (is_due p q here) due (subst (λ i. is_due p q (slice_index order i) ≡ true) same due_now))
            ];
        right = λ none j lt ne. visited.right none j lt;
        late = λ j lt ne. visited.late j lt;
        quiet = was.quiet;
        calm = was.calm;
      }

  -- the service is started
  module _ (now_due : starts_now p st d.failed b.complete here ≡ true) where
    fresh : is_started q here ≡ false
    fresh = start_not (is_started q here) (is_due p q here) (starts_now p st d.failed b.complete here) starts-same now_due

    due : is_due p q here ≡ true
    due = start_yes (is_started q here) (is_due p q here) (starts_now p st d.failed b.complete here) starts-same now_due

    -- no earlier place has it
    apart : (j : ℕ) → j < k → (here == slice_index order j) ≡ false
    apart j lt = ne_eqb here (slice_index order j)
        (λ e. (let started = visited.due_started j lt (subst (λ s. is_due p q s ≡ true) e due) in let same = subst (λ s. is_started q s ≡ false) e fresh in cc))

    -- so the run may end by it
    may-end : MayEnd p q
    may-end = elim was.calm [
      | inl all ↦ absurd (let on = all here inside due in let off = fresh in cc)
      | inr may ↦ may
    ]

    start-may : MayEnd p (Told (Start here) ∷ q)
    start-may = record { unpassed = may-end.unpassed; asks = may-end.asks }

    start-loose : Loose p (start_if true here st) o dr cn (Told (Start here) ∷ q)
    start-loose = record {
      base = record {
        starts = stands-start p st q here sized inside was.going.starts;
        entries = record {
          fits = (refl, was.going.entries.fits);
          starts = (rw (fresh, due) refl, was.going.entries.starts);
          after_boot = (ap (λ c. not p.eager || c) was.going.boot.begin.complete_is ∙ may-complete p b was.may, was.going.entries.after_boot);
          moments = (refl, was.going.entries.moments);
          known_starts = ((Decides-ltb here (service_count p)).1 inside, was.going.entries.known_starts);
        };
        started_due = λ t lt on.
            elim (or_cases (here == t) (is_started q t) on) [
              | inl e ↦ subst (λ u. is_due p (Told (Start here) ∷ q) u ≡ true) (eqb-true here t e) (is_due-grows p q (Told (Start here)) here due)
              | inr old ↦ is_due-grows p q (Told (Start here)) t (was.going.started_due t lt old)
            ];
        no_end = was.going.no_end;
        earlier = was.going.earlier;
        fails = was.going.fails;
        asks = was.going.asks;
      };
      drain = drains.stands-told p dr (over_since o.state) q (Start here) refl was.going.drain;
      offer = offers.stands-told p o q (Start here) refl was.going.offer;
      connections = sockets.stands-told p cn q (Start here) refl was.going.connections;
    }

    start-ends : EndpointsStand p d (Told (Start here) ∷ q)
    start-ends = ends-start p d q here was.going.ends

    -- a start by which nothing begins
    plain-half : (has_kind p BootstrapKind here && not b.begun) ≡ false → Half p order k (start_if true here st) d b o dr cn (Told (Start here) ∷ q)
    plain-half none = record {
      going = going-from p (start_if true here st) d b o dr cn (Told (Start here) ∷ q) start-loose start-ends
          (foreign.stands-told p b q (Start here) refl (may-free p b was.may) was.going.boot)
          (elim (cases_Bool (has_kind p BootstrapKind here)) [
            | inl boots ↦
                (let begun = no_and (has_kind p BootstrapKind here) b.begun none boots in begun-start-grows p q here (was.going.begun_is ∙ begun) ∙ sym begun)
            | inr other ↦ begun-other p q here other ∙ was.going.begun_is
          ])
          was.going.runs;
      may = was.may;
      ripe = was.ripe;
      tested = not_true (is_tested p b) (TestedAt p order k (Told (Start here) ∷ q)) untested;
      due_started = λ j lt due_now.
          elim (below_suc j k lt) [
            | inl below ↦ or_right (here == slice_index order j) (is_started q (slice_index order j))
                (visited.due_started j below (sym (is_due-start p q here (slice_index order j) (in_order.after j k (omega arith) place)) ∙ due_now))
            | inr e ↦ or_left (here == slice_index order j) (is_started q (slice_index order j))
                (eq-eqb here (slice_index order j) (ap (slice_index order) (sym e)))
          ];
      right = λ silent j lt ne i within. right-start p q here (slice_index order j) i (apart j lt) (visited.right silent j lt i within);
      late = λ j lt ne i within. late-start p q here (slice_index order j) i (apart j lt) (visited.late j lt i within);
      quiet = was.quiet;
      calm = inr start-may;
    }

    -- a start with which bootstrapping begins
    module _ (boots : has_kind p BootstrapKind here ≡ true) (unbegun : b.begun ≡ false)
        (stand : BootStands p (begun_by p b) (tell (Told (Start here) ∷ q) (begin_told p b dr.moment))) where
      abbrev after : Record
      after = tell (Told (Start here) ∷ q) (begin_told p b dr.moment)

      on-after : (s : ℕ) → is_started after s ≡ ((here == s) || is_started q s)
      on-after s = begin-started p b dr.moment (Told (Start here) ∷ q) s

      no-service : (s : ℕ) → s < service_count p → (has_kind p BootstrapKind s && is_started q s) ≡ false
      no-service s lt = no-boot-service p q s (was.going.begun_is ∙ unbegun) lt

      not-here : (s : ℕ) → s < service_count p → (here == s) ≡ false → is_boot_service p after s ≡ false
      not-here s lt other = ap (λ on. has_kind p BootstrapKind s && on) (on-after s ∙ ap (λ same. same || is_started q s) other) ∙ no-service s lt

      ready-other : (s : ℕ) → s < service_count p → (here == s) ≡ false → is_ready p after s ≡ is_ready p q s
      ready-other s lt other =
          ready-apart p after s (not-here s lt other)
          ∙ begin-apart p b dr.moment (Told (Start here) ∷ q) s
          ∙ rw other refl
          ∙ sym (ready-apart p q s (no-service s lt))

      due-other : (t : ℕ) → t < service_count p → depends_on p t here ≡ false → is_due p after t ≡ is_due p q t
      due-other t lt none =
          all-ready p q after (depends p t)
          (λ x there. ready-other x (All-listed (λ s. s < service_count p) (depends p t) x (valid.inside t lt) there)
          (ne_eqb here x (λ e. (let not_there = subst (λ s. list_any (λ y. y == s) (depends p t) ≡ false) e none in cc))))

      on-earlier : (j : ℕ) → j < k → is_due p after (slice_index order j) ≡ true → is_started after (slice_index order j) ≡ true
      on-earlier j lt due_now =
          on-after (slice_index order j)
          ∙ or_right (here == slice_index order j) (is_started q (slice_index order j))
          (visited.due_started j lt
          (sym (due-other (slice_index order j) (in_order.inside j (omega arith)) (in_order.after j k (omega arith) place)) ∙ due_now))

      right-earlier : has is_broadcast after ≡ false → (j : ℕ) → j < k → (i : ℕ) → i < length (endpoints p (slice_index order j))
          → endpoint_right p after (slice_index order j) i ≡ true
      right-earlier silent j lt i within = begin-right p b dr.moment (Told (Start here) ∷ q) (slice_index order j) i
          (right-start p q here (slice_index order j) i (apart j lt)
          (visited.right (sym (begin-silent p b dr.moment (Told (Start here) ∷ q)) ∙ silent) j lt i within))

      late-earlier : (j : ℕ) → j < k → (i : ℕ) → i < length (endpoints p (slice_index order j)) → endpoint_right_late p after (slice_index order j) i ≡ true
      late-earlier j lt i within =
          begin-late p b dr.moment (Told (Start here) ∷ q) (slice_index order j) i
          (late-start p q here (slice_index order j) i (apart j lt) (visited.late j lt i within))

      here-on : is_started after here ≡ true
      here-on = on-after here ∙ or_left (here == here) (is_started q here) (eq-eqb here here refl)

      begun-may : MayEnd p after
      begun-may = may-tell p dr.moment (Told (Start here) ∷ q) (begin_told p b dr.moment) (begin-loose p b dr.moment) start-may

      tested-at : is_tested p (begun_by p b) ≡ true → TestedAt p order k after
      tested-at e = record {
        place = place;
        boots = and_from (has_kind p BootstrapKind here) (is_started after here) boots here-on;
        first = λ j lt. not-here (slice_index order j) (in_order.inside j (omega arith)) (apart j lt);
        visited = record { due_started = on-earlier; right = right-earlier; late = late-earlier };
        last = subst (λ told. is_test_step (now (tell (Told (Start here) ∷ q) told)) (last_step (tell (Told (Start here) ∷ q) told)) ≡ true)
            (sym (tested-told p b dr.moment unbegun (tested-tests p (begun_by p b) e)))
            (and_from (dr.moment == now q) (is_quiet (last_step q)) (eq-eqb dr.moment (now q) was.going.drain.moment_is) (was.quiet unbegun));
        may_end = begun-may;
      }

      boot-half : Half p order k (start_if true here st) d (begun_by p b) o dr cn after
      boot-half = record {
        going = going-from p (start_if true here st) d (begun_by p b) o dr cn after
            (loose-tell p (start_if true here st) o dr cn (Told (Start here) ∷ q) (begin_told p b dr.moment)
            (subst (λ m. are_loose m (begin_told p b dr.moment) ≡ true) was.going.drain.moment_is (begin-loose p b dr.moment)) start-loose)
            (begin-ends p d b dr.moment (Told (Start here) ∷ q) start-ends) stand
            (begun-tell p (Told (Start here) ∷ q) dr.moment (begin_told p b dr.moment) (begin-loose p b dr.moment) ∙ begun-boots p q here inside boots
            ∙ sym (begun-now p b unbegun))
            (λ e. may-grows p b was.may);
        may = may-grows p b was.may;
        ripe = ripe-begun p b unbegun was.ripe;
        tested = when (is_tested p (begun_by p b)) (TestedAt p order k after) tested-at;
        due_started = λ j lt due_now.
            elim (below_suc j k lt) [
              | inl below ↦ on-earlier j below due_now
              | inr e ↦ subst (λ i. is_started after (slice_index order i) ≡ true) (sym e) here-on
            ];
        right = λ silent j lt ne. right-earlier silent j lt;
        late = λ j lt ne. late-earlier j lt;
        quiet = λ e. absurd (let begun = begun-now p b unbegun in cc);
        calm = inr begun-may;
      }
        where
          when : (c : Bool) (A : Type 0) → (c ≡ true → A) → OnTrue c A
          when true A f = f refl
          when false A f = tt

-- the first half of a visit, by what it told
pub starting-none : (p : Plan) → IsValid p → (order : List ℕ) (dr : DrainData) (k : ℕ) → k < length order → IsInOrder p order
    → (st : StartsData) (d : EndpointsData) (b : BootData) (before after : List Action)
    → IsStartsSized p st → is_tested p b ≡ false → false ≡ starts_now p st d.failed b.complete (slice_index order k) → after ≡ before ++ []
    → Starting p order dr k st st d b b before after
starting-none p valid order dr k place in_order st d b before after sized untested e told = record {
  told = [];
  appended = told;
  kept = λ o cn q was. wait-half p valid order dr k place in_order st d b o cn q sized untested was (sym e);
}

pub starting-plain : (p : Plan) → IsValid p → (order : List ℕ) (dr : DrainData) (k : ℕ) → k < length order → IsInOrder p order
    → (st : StartsData) (d : EndpointsData) (b : BootData) (before after : List Action)
    → IsStartsSized p st → is_tested p b ≡ false → true ≡ starts_now p st d.failed b.complete (slice_index order k)
    → (has_kind p BootstrapKind (slice_index order k) && not b.begun) ≡ false
    → after ≡ before ++ Start (slice_index order k) ∷ []
    → Starting p order dr k st (start_if true (slice_index order k) st) d b b before after
starting-plain p valid order dr k place in_order st d b before after sized untested e none told = record {
  told = Start (slice_index order k) ∷ [];
  appended = told;
  kept = λ o cn q was. plain-half p valid order dr k place in_order st d b o cn q sized untested was (sym e) none;
}

pub starting-boot : (p : Plan) → IsValid p → (order : List ℕ) (dr : DrainData) (k : ℕ) → k < length order → IsInOrder p order
    → (st : StartsData) (d : EndpointsData) (b : BootData) (before mid after : List Action)
    → IsStartsSized p st → is_tested p b ≡ false → true ≡ starts_now p st d.failed b.complete (slice_index order k)
    → has_kind p BootstrapKind (slice_index order k) ≡ true → b.begun ≡ false
    → mid ≡ before ++ Start (slice_index order k) ∷ [] → after ≡ mid ++ begin_told p b dr.moment
    → ((q : Record) → may_run p b.fork ≡ true → BootStands p b q → BootStands p (begun_by p b) (tell q (begin_told p b dr.moment)))
    → Starting p order dr k st (start_if true (slice_index order k) st) d b (begun_by p b) before after
starting-boot p valid order dr k place in_order st d b before mid after sized untested e boots unbegun first next stands = record {
  told = Start (slice_index order k) ∷ begin_told p b dr.moment;
  appended = next ∙ ap (λ w. w ++ begin_told p b dr.moment) first ∙ append_assoc before (Start (slice_index order k) ∷ []) (begin_told p b dr.moment);
  kept = λ o cn q was. boot-half p valid order dr k place in_order st d b o cn q sized untested was (sym e) boots unbegun
      (stands (Told (Start (slice_index order k)) ∷ q) (may-free p b was.may)
      (foreign.stands-told p b q (Start (slice_index order k)) refl (may-free p b was.may) was.going.boot));
}

-- by whether the service started, where nothing begins
pub none-begins : (p : Plan) → IsValid p → (order : List ℕ) (dr : DrainData) (k : ℕ) → k < length order → IsInOrder p order
    → (st st' : StartsData) (d : EndpointsData) (b : BootData) (started : Bool) (before after : List Action)
    → IsStartsSized p st → is_tested p b ≡ false → started ≡ starts_now p st d.failed b.complete (slice_index order k)
    → st' ≡ start_if started (slice_index order k) st
    → (started ≡ true → (has_kind p BootstrapKind (slice_index order k) && not b.begun) ≡ false)
    → after ≡ before ++ start_told started (slice_index order k)
    → Starting p order dr k st st' d b b before after
none-begins p valid order dr k place in_order st st' d b true before after sized untested due same none told =
    rw same (starting-plain p valid order dr k place in_order st d b before after sized untested due (none refl) told)
none-begins p valid order dr k place in_order st st' d b false before after sized untested due same none told =
    rw same (starting-none p valid order dr k place in_order st d b before after sized untested due told)

-- the second half: an ask if there is one to make
pub ask-whole : (p : Plan) (order : List ℕ) (k : ℕ) (st : StartsData) (d d' : EndpointsData) (b : BootData) (o : OfferData) (dr : DrainData)
    (cn : ConnectionsData) (q : Record) (told : List Action) → is_tested p b ≡ false
    → IsAskOf (slice_index order k) told → Visited p d' (slice_index order k) q told → Half p order k st d b o dr cn q
    → PassedUpTo p order (k + 1) st d' b o dr cn (tell q told)
ask-whole p order k st d d' b o dr cn q told untested ask visited half = record {
  going = going-from p st d' b o dr cn (tell q told)
      (loose-tell p st o dr cn q told (ask-loose (slice_index order k) (now q) told ask) (loose-of p st d b o dr cn q half.going))
      visited.stands
      (foreign.stands-tell p b q told (ask-others told (slice_index order k) ask) (may-free p b half.may) half.going.boot)
      (begun-tell p q (now q) told (ask-loose (slice_index order k) (now q) told ask) ∙ half.going.begun_is)
      half.going.runs;
  may = half.may;
  ripe = half.ripe;
  visited = as-visited (is_tested p b) ((j : ℕ) × TestedAt p order j (tell q told)) (VisitedUpTo p order (k + 1) (tell q told)) untested (record {
    due_started =
        λ j lt due. ask-started q (slice_index order k) (slice_index order j) told ask
        ∙ half.due_started j lt (sym (ask-due p q (slice_index order k) (slice_index order j) told ask) ∙ due);
    right = λ silent j lt.
        elim (cases_eq (slice_index order j) (slice_index order k)) [
          | inl same ↦ subst (λ u. (i : ℕ) → i < length (endpoints p u) → endpoint_right p (tell q told) u i ≡ true) (sym same) (visited.right (before silent))
          | inr ne ↦ (λ i within. ask-right p q (slice_index order k) (slice_index order j) i told ask
              (half.right (before silent) j (less j lt ne) ne i within))
        ];
    late = λ j lt.
        elim (cases_eq (slice_index order j) (slice_index order k)) [
          | inl same ↦ subst (λ u. (i : ℕ) → i < length (endpoints p u) → endpoint_right_late p (tell q told) u i ≡ true) (sym same) visited.right_late
          | inr ne ↦ (λ i within. ask-late p q (slice_index order k) (slice_index order j) i told ask (half.late j (less j lt ne) ne i within))
        ];
  });
  quiet = λ e. ask-quiet q told (slice_index order k) ask (half.quiet e);
  calm = elim half.calm [
    | inl all ↦ inl (λ s lt due. ask-started q (slice_index order k) s told ask ∙ all s lt (sym (ask-due p q (slice_index order k) s told ask) ∙ due))
    | inr may ↦ inr (may-tell p (now q) q told (ask-loose (slice_index order k) (now q) told ask) may)
  ];
}
  where
    before : has is_broadcast (tell q told) ≡ false → has is_broadcast q ≡ false
    before silent = sym (ask-silent q (slice_index order k) told ask) ∙ silent

    less : (j : ℕ) → j < k + 1 → slice_index order j ≢ slice_index order k → j < k
    less j lt ne = elim (below_suc j k lt) [ inl below ↦ below | inr e ↦ absurd (ne (ap (slice_index order) e)) ]

-- one visit: both halves
pub visit-passes : (p : Plan) (order : List ℕ) (dr : DrainData) (k : ℕ) → k < length order → IsInOrder p order
    → (st st' : StartsData) (d d' : EndpointsData) (b b' : BootData) (before mid after : List Action)
    → is_tested p b' ≡ false → Starting p order dr k st st' d b b' before mid
    → Tells mid after
    (λ told. IsAskOf (slice_index order k) told
    × ((q : Record) → dr.moment ≡ now q → is_flagged st'.started (slice_index order k) ≡ is_started q (slice_index order k)
    → EndpointsStand p d q → Visited p d' (slice_index order k) q told))
    → Passes p order dr k (k + 1) st st' d d' b b' before after
visit-passes p order dr k place in_order st st' d d' b b' before mid after untested first next = record {
  told = first.told ++ next.told;
  appended = next.appended ∙ ap (λ w. w ++ next.told) first.appended ∙ append_assoc before first.told next.told;
  kept = λ o cn q was. (
      let half = first.kept o cn q was in
      let on = half.going.starts.started_is (slice_index order k) (in_order.inside k place) in
      subst (λ r. PassedUpTo p order (k + 1) st' d' b' o dr cn r) (sym (tell-append q first.told next.told))
      (ask-whole p order k st' d d' b' o dr cn (tell q first.told) next.told untested next.kept.0
      (next.kept.1 (tell q first.told) half.going.drain.moment_is on half.going.ends) half));
}

-- a visit with which the pass ends
pub visit-tests : (p : Plan) (order : List ℕ) (dr : DrainData) (k : ℕ) (st st' : StartsData) (d : EndpointsData) (b b' : BootData) (before after : List Action)
    → is_tested p b' ≡ true → Starting p order dr k st st' d b b' before after → Passes p order dr k (k + 1) st st' d d b b' before after
visit-tests p order dr k st st' d b b' before after tested first = record {
  told = first.told;
  appended = first.appended;
  kept = λ o cn q was. (let half = first.kept o cn q was in record {
    going = half.going;
    may = half.may;
    ripe = half.ripe;
    visited = as-tested (is_tested p b') ((j : ℕ) × TestedAt p order j (tell q first.told)) (VisitedUpTo p order (k + 1) (tell q first.told)) tested
        (k, on (is_tested p b') (TestedAt p order k (tell q first.told)) tested half.tested);
    quiet = half.quiet;
    calm = half.calm;
  });
}
  where
    on : (c : Bool) (A : Type 0) → c ≡ true → OnTrue c A → A
    on true A e h = h
    on false A e h = absurd (cc)

-- no visit
pub passes-none : (p : Plan) (order : List ℕ) (dr : DrainData) (k : ℕ) (st : StartsData) (d : EndpointsData) (b : BootData) (before : List Action)
    → before ≡ before ++ [] → Passes p order dr k k st st d d b b before before
passes-none p order dr k st d b before e = record { told = []; appended = e; kept = λ o cn q was. was }

-- a pass that has ended stays where it is
pub passes-ended : (p : Plan) (order : List ℕ) (dr : DrainData) (i k : ℕ) (st st' : StartsData) (d d' : EndpointsData) (b b' : BootData)
    (before after : List Action)
    → is_tested p b' ≡ true → Passes p order dr i k st st' d d' b b' before after → Passes p order dr i (k + 1) st st' d d' b b' before after
passes-ended p order dr i k st st' d d' b b' before after tested done = record {
  told = done.told;
  appended = done.appended;
  kept = λ o cn q was. (let up = done.kept o cn q was in record {
    going = up.going;
    may = up.may;
    ripe = up.ripe;
    visited = stay (is_tested p b') ((j : ℕ) × TestedAt p order j (tell q done.told)) (VisitedUpTo p order k (tell q done.told))
        (VisitedUpTo p order (k + 1) (tell q done.told)) tested up.visited;
    quiet = up.quiet;
    calm = up.calm;
  });
}
  where
    stay : (c : Bool) (A B C : Type 0) → c ≡ true → MatchBool c A B → MatchBool c A C
    stay true A B C e h = h
    stay false A B C e h = absurd (cc)

-- nothing more is visited once the run was tested
pub passes-stay : (p : Plan) (order : List ℕ) (dr : DrainData) (k : ℕ) (st : StartsData) (d : EndpointsData) (b : BootData) (before : List Action)
    → is_tested p b ≡ true → Passes p order dr k (k + 1) st st d d b b before before
passes-stay p order dr k st d b before tested =
    passes-ended p order dr k k st st d d b b before before tested (passes-none p order dr k st d b before (sym (append-nil before)))

-- visits, and then more of them
pub passes-then : (p : Plan) (order : List ℕ) (dr : DrainData) (i j k : ℕ) (st0 st1 st2 : StartsData) (d0 d1 d2 : EndpointsData) (b0 b1 b2 : BootData)
    (a b c : List Action)
    → Passes p order dr i j st0 st1 d0 d1 b0 b1 a b → Passes p order dr j k st1 st2 d1 d2 b1 b2 b c → Passes p order dr i k st0 st2 d0 d2 b0 b2 a c
passes-then p order dr i j k st0 st1 st2 d0 d1 d2 b0 b1 b2 a b c first next = record {
  told = first.told ++ next.told;
  appended = next.appended ∙ ap (λ w. w ++ next.told) first.appended ∙ append_assoc a first.told next.told;
  kept = λ o cn q was. subst (λ r. PassedUpTo p order k st2 d2 b2 o dr cn r) (sym (tell-append q first.told next.told))
      (next.kept o cn (tell q first.told) (first.kept o cn q was));
}
