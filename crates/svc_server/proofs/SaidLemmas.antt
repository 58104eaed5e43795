-- What filters said in a run, step by step.
use Rattle.std.proofs.Common.{ℕ, Bool, true, false, not, ◌≡◌, ◌||◌, ◌<◌, List, [], ◌∷◌, ◌++◌, map, Option, Some, None, refl, ap, sym, subst, ◌∙◌, append_assoc, append-nil, eq-eqb}
use Rattle.std.proofs.Math.Bool.{or-false, or-true}
use Rattle.std.specs.Prelude.{IfSome}
use Rattle.svc_socket.specs.declared.peer.Peer.{Peer}
use Rattle.svc_socket.specs.declared.peer.Peer.TheVariants.{Unknown, Unix, Inet}
use Rattle.svc_socket.specs.declared.peer.PeerAddr.{PeerAddr}
use Rattle.svc_record.specs.declared.plan.Plan.{Plan}
use Rattle.svc_record.specs.declared.event.Event.{Event}
use Rattle.svc_record.specs.declared.event.Event.TheVariants.{Arrived}
use Rattle.svc_record.specs.declared.entry.Entry.TheVariants.{Got, Told}
use Rattle.svc_record.specs.declared.action.Action.{Action}
use Rattle.svc_record.specs.declared.action.Action.TheVariants.{Judged, Cut, Close}
use Rattle.svc_record.specs.Plans.{filter_of}
use Rattle.svc_record.specs.Record.{Record, tell}
use Rattle.svc_record.specs.Connections.{Arrival, Verdict, same_answer, has_filter, asked_peer, arrival_of, peers_asked, said_right, live_connections}
use Rattle.svc_record.specs.Drain.{live_numbers}
use Rattle.svc_base.specs.NumberSets.{ascending}
use Rattle.svc_record.specs.Judging.{asked_filter, judged_at, judgements, TellsJudged}
use Rattle.svc_record.specs.Tail.{closing_actions, new_numbers}
use Rattle.svc_server.specs.Judges.{peer_at, asked_now, Asks, IsSaid, Judges, NamesFilters}

-- ---- what is told without a judgement

pub said-untold : (verdict : Verdict) (p : Plan) (q : Record) (told : List Action) → judgements told ≡ [] → IsSaid verdict p q → IsSaid verdict p (tell q told)
said-untold verdict p q [] none h = h
said-untold verdict p q (Judged c said ∷ more) none h = absurd (cc)
said-untold verdict p q (a ∷ more) none h = said-untold verdict p (Told a ∷ q) more none (refl, h)

asked-untold : (p : Plan) (q : Record) (told : List Action) (f : ℕ) → judgements told ≡ [] → peers_asked p (tell q told) f ≡ peers_asked p q f
asked-untold p q [] f none = refl
asked-untold p q (Judged c said ∷ more) f none = absurd (cc)
asked-untold p q (a ∷ more) f none = asked-untold p (Told a ∷ q) more f none

pub judges-untold : (verdict now : Verdict) (p : Plan) (q : Record) (told : List Action) → judgements told ≡ [] → Judges verdict now p q
    → Judges verdict now p (tell q told)
judges-untold verdict now p q told none h = record {
  said = said-untold verdict p q told none h.said;
  later = λ f asked x. h.later f asked x ∙ ap (λ (xs : List (Option PeerAddr)). verdict f (xs ++ asked) x) (sym (asked-untold p q told f none));
}

-- an event says nothing
pub judges-got : (verdict now : Verdict) (p : Plan) (q : Record) (e : Event) → Judges verdict now p q → Judges verdict now p (Got e ∷ q)
judges-got verdict now p q e h = record { said = (refl, h.said); later = h.later }

-- nothing was asked yet
pub judges-first : (verdict : Verdict) (p : Plan) → Judges verdict verdict p []
judges-first verdict p = record { said = tt; later = λ f asked x. refl }

-- ---- one judgement

same-as : (said answer : Bool) → said ≡ answer → same_answer said answer ≡ true
same-as true answer e = sym e
same-as false answer e = ap not (sym e)

-- the judgement is right where the filter, if there is one, said so
said-one : (verdict : Verdict) (p : Plan) (q : Record) (c : ℕ) (b : Bool) (a : Arrival) (number : Option ℕ) → arrival_of q c ≡ Some a
    → filter_of p a.service a.endpoint ≡ number
    → IfSome number (λ f. b ≡ verdict f (peers_asked p q f) (asked_peer a.peer)) → (number ≡ None → b ≡ true)
    → said_right verdict p (Told (Judged c b)) q ≡ true
said-one verdict p q c b a (Some f) there is says sure = rw there (rw is (same-as b (verdict f (peers_asked p q f) (asked_peer a.peer)) says))
said-one verdict p q c b a None there is says sure = rw there (rw is (sure refl))

-- the filter was asked for the peer of the connection
asked-one : (p : Plan) (q : Record) (c : ℕ) (b : Bool) (a : Arrival) (number : Option ℕ) (f : ℕ) → arrival_of q c ≡ Some a
    → filter_of p a.service a.endpoint ≡ number
    → peers_asked p (Told (Judged c b) ∷ q) f ≡ peers_asked p q f ++ asked_now number (asked_peer a.peer) f
asked-one p q c b a (Some n) f there is = rw there (rw is refl)
asked-one p q c b a None f there is = rw there (rw is refl)

-- what filters answer after one of them was asked
later-one : (verdict before now : Verdict) (p : Plan) (q r : Record) (number : Option ℕ) (peer : Option PeerAddr) (said : Bool)
    → Asks before now number peer said → Judges verdict before p q
    → ((f : ℕ) → peers_asked p r f ≡ peers_asked p q f ++ asked_now number peer f) → (f : ℕ) (asked : List (Option PeerAddr)) (x : Option PeerAddr)
    → now f asked x ≡ verdict f (peers_asked p r f ++ asked) x
later-one verdict before now p q r number peer said asks h more f asked x =
    asks.later f asked x
    ∙ (h.later f (asked_now number peer f ++ asked) x
    ∙ ap (λ (xs : List (Option PeerAddr)). verdict f xs x)
    (sym (append_assoc (peers_asked p q f) (asked_now number peer f) asked) ∙ ap (λ (xs : List (Option PeerAddr)). xs ++ asked) (sym (more f))))

-- what the filter said, where the connection is judged so
says-one : (verdict before now : Verdict) (p : Plan) (q : Record) (number : Option ℕ) (peer : Option PeerAddr) (said : Bool) → Asks before now number peer said
    → Judges verdict before p q
    → IfSome number (λ f. said ≡ verdict f (peers_asked p q f) peer)
says-one verdict before now p q None peer said asks h = tt
says-one verdict before now p q (Some f) peer said asks h =
    asks.answer ∙ (h.later f [] peer ∙ ap (λ (xs : List (Option PeerAddr)). verdict f xs peer) (append-nil (peers_asked p q f)))

-- the connection was judged: as its filter said, or yes where its endpoint has none
abbrev IsJudgedSo : Plan → Arrival → Bool → Bool → Type 0
IsJudgedSo p a said b = b ≡ (said || not (has_filter p a.service a.endpoint))

judged-some : (p : Plan) (a : Arrival) (said b : Bool) (f : ℕ) → filter_of p a.service a.endpoint ≡ Some f → IsJudgedSo p a said b → b ≡ said
judged-some p a said b f is so = so ∙ rw is (or-false said)

judged-none : (p : Plan) (a : Arrival) (said b : Bool) → filter_of p a.service a.endpoint ≡ None → IsJudgedSo p a said b → b ≡ true
judged-none p a said b is so = so ∙ rw is (or-true said)

judged-says : (verdict : Verdict) (p : Plan) (q : Record) (a : Arrival) (number : Option ℕ) (said b : Bool) → filter_of p a.service a.endpoint ≡ number
    → IsJudgedSo p a said b
    → IfSome number (λ f. said ≡ verdict f (peers_asked p q f) (asked_peer a.peer)) → IfSome number (λ f. b ≡ verdict f (peers_asked p q f) (asked_peer a.peer))
judged-says verdict p q a None said b is so says = tt
judged-says verdict p q a (Some f) said b is so says = judged-some p a said b f is so ∙ says

judges-one : (verdict before now : Verdict) (p : Plan) (q : Record) (c : ℕ) (a : Arrival) (number : Option ℕ) (said b : Bool) → arrival_of q c ≡ Some a
    → filter_of p a.service a.endpoint ≡ number
    → IsJudgedSo p a said b → Asks before now number (asked_peer a.peer) said → Judges verdict before p q → Judges verdict now p (Told (Judged c b) ∷ q)
judges-one verdict before now p q c a number said b there is so asks h = record {
  said = (
    said-one verdict p q c b a number there is
        (judged-says verdict p q a number said b is so (says-one verdict before now p q number (asked_peer a.peer) said asks h))
        (λ none. judged-none p a said b (is ∙ none) so),
    h.said,
  );
  later = later-one verdict before now p q (Told (Judged c b) ∷ q) number (asked_peer a.peer) said asks h (λ f. asked-one p q c b a number f there is);
}

-- ---- the step of an event

same-parts : (x y : ℕ × Bool) (xs ys : List (ℕ × Bool)) → x ∷ xs ≡ y ∷ ys → (x ≡ y) × (xs ≡ ys)
same-parts x y xs ys e = (cc, cc)

-- one judgement is told, perhaps after other actions and before others
judges-told : (verdict before now : Verdict) (p : Plan) (q : Record) (told : List Action) (c : ℕ) (a : Arrival) (number : Option ℕ) (said b : Bool)
    → judgements told ≡ (c, b) ∷ []
    → arrival_of q c ≡ Some a → filter_of p a.service a.endpoint ≡ number → IsJudgedSo p a said b → Asks before now number (asked_peer a.peer) said
    → Judges verdict before p q → Judges verdict now p (tell q told)
judges-told verdict before now p q [] c a number said b one there is so asks h = absurd (cc)
judges-told verdict before now p q (Judged n t ∷ more) c a number said b one there is so asks h =
    let both = same-parts (n, t) (c, b) (judgements more) [] one in
    let number_is : n ≡ c = ap (λ (x : ℕ × Bool). x.0) both.0 in
    let said_is : t ≡ b = ap (λ (x : ℕ × Bool). x.1) both.0 in
    judges-untold verdict now p (Told (Judged n t) ∷ q) more both.1
    (judges-one verdict before now p q n a number said t (ap (arrival_of q) number_is ∙ there) is (said_is ∙ so) asks h)
judges-told verdict before now p q (other ∷ more) c a number said b one there is so asks h =
    judges-told verdict before now p (Told other ∷ q) more c a number said b one there is so asks (record { said = (refl, h.said); later = h.later })

-- no filter was asked
unasked : (verdict before now : Verdict) (p : Plan) (q : Record) (told : List Action) (peer : Option PeerAddr) (said : Bool) → judgements told ≡ []
    → Asks before now None peer said → Judges verdict before p q
    → Judges verdict now p (tell q told)
unasked verdict before now p q told peer said none asks h =
    judges-untold verdict now p q told none (record { said = h.said; later = λ f asked x. asks.later f asked x ∙ h.later f asked x })

newest : (q : Record) (s i c : ℕ) (peer : Peer)
    → arrival_of (Got (Arrived s i c peer) ∷ q) c ≡ Some (record { service = s; endpoint = i; number = c; peer = peer })
newest q s i c peer = rw (eq-eqb c c refl) refl

-- the step of an event, at which the filter was asked that is asked there
pub judges-step : (verdict before now : Verdict) (p : Plan) (q : Record) (e : Event) (told : List Action) (said : Bool) → judgements told ≡ judged_at p e said
    → Asks before now (asked_filter p e) (peer_at e) said
    → Judges verdict before p (Got e ∷ q) → Judges verdict now p (tell (Got e ∷ q) told)
judges-step verdict before now p q (Arrived s i c Unknown) told said judged asks h =
    unasked verdict before now p (Got (Arrived s i c Unknown) ∷ q) told None said judged asks h
judges-step verdict before now p q (Arrived s i c Unix) told said judged asks h =
    judges-told verdict before now p (Got (Arrived s i c Unix) ∷ q) told c (record { service = s; endpoint = i; number = c; peer = Unix })
    (filter_of p s i) said (said || not (has_filter p s i)) judged
    (newest q s i c Unix) refl refl asks h
judges-step verdict before now p q (Arrived s i c (Inet x)) told said judged asks h =
    judges-told verdict before now p (Got (Arrived s i c (Inet x)) ∷ q) told c (record { service = s; endpoint = i; number = c; peer = Inet x })
    (filter_of p s i) said (said || not (has_filter p s i)) judged
    (newest q s i c (Inet x)) refl refl asks h
judges-step verdict before now p q e told said judged asks h = unasked verdict before now p (Got e ∷ q) told (peer_at e) said judged asks h

-- the judgements of what a call told, which found an empty list
pub judgements-told : (judged : List (ℕ × Bool)) (before after told : List Action) → TellsJudged judged before after → before ≡ [] → told ≡ after
    → judgements told ≡ judged
judgements-told judged before after told tells empty same = ap judgements (same ∙ (tells.appended ∙ ap (λ xs. xs ++ tells.told) empty)) ∙ tells.kept

-- ---- the closes of all

closes-nothing : (fds : List ℕ) → judgements (map Close fds) ≡ []
closes-nothing [] = refl
closes-nothing (fd ∷ more) = closes-nothing more

closes-then : (fds : List ℕ) (more : List Action) → judgements more ≡ [] → judgements (map Close fds ++ more) ≡ []
closes-then [] more none = none
closes-then (fd ∷ rest) more none = closes-then rest more none

cuts-then : (cs : List ℕ) (more : List Action) → judgements more ≡ [] → judgements (map Cut cs ++ more) ≡ []
cuts-then [] more none = none
cuts-then (c ∷ rest) more none = cuts-then rest more none

-- nothing is judged by them
pub closing-judges : (p : Plan) (q : Record) (also : Option Event) → judgements (closing_actions p q also) ≡ []
closing-judges p q also =
    cuts-then (ascending (live_connections q)) (map Close (ascending (live_numbers p q)) ++ map Close (new_numbers q also))
    (closes-then (ascending (live_numbers p q)) (map Close (new_numbers q also)) (closes-nothing (new_numbers q also)))

-- ---- which filters are there

-- the filter that is asked at an event is one of a server's
pub asks-known : (p : Plan) (n : ℕ) (e : Event) (number : Option ℕ) → NamesFilters p n → number ≡ asked_filter p e → IfSome number (λ f. f < n)
asks-known p n e None names is = tt
asks-known p n e (Some f) names is = at e (sym is)
  where
    at : (e : Event) → asked_filter p e ≡ Some f → f < n
    at (Arrived s i c Unknown) asked = absurd (cc)
    at (Arrived s i c Unix) asked = names s i f asked
    at (Arrived s i c (Inet x)) asked = names s i f asked
    at _ asked = absurd (cc)

pub names-now : (p now : Plan) (n m : ℕ) → now ≡ p → m ≡ n → NamesFilters p n → NamesFilters now m
names-now p now n m same count names = subst (λ (x : Plan). NamesFilters x m) (sym same) (subst (NamesFilters p) (sym count) names)
