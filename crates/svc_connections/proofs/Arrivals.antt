-- What the part stands for after a connection arrived.
use Rattle.std.proofs.Common.{ℕ, Bool, true, false, not, ◌==◌, ◌&&◌, ◌||◌, ◌+◌, ◌++◌, inl, inr, List, [], ◌∷◌, map, ◌≡◌, refl, ap, sym, ◌∙◌, subst, arith, Option, Some, None, if◌then◌else◌}
use Rattle.std.specs.List.{list_all}
use Rattle.std.proofs.lemmas.Bool.{eqb-true, eq-eqb, and_parts, and_from, or_parts, or_from, or_left, cases_Bool, not_from_true, not_from_false}
use Rattle.svc_base.specs.declared.settings.Setting.{Setting as SettingOption}
use Rattle.svc_base.specs.declared.settings.Setting.TheVariants.{NoDelay, KeepAlive, Dscp, SndBuf, RcvBuf}
use Rattle.svc_socket.specs.declared.peer.Peer.{Peer}
use Rattle.svc_record.specs.declared.plan.Plan.{Plan}
use Rattle.svc_record.specs.declared.entry.Entry.TheVariants.{Got, Told}
use Rattle.svc_record.specs.declared.action.Action.TheVariants.{Judged, Refuse, Settings as TellSettings, Phase}
use Rattle.svc_record.specs.declared.action.ExecutionPhase.TheVariants.{ShutdownRuntimes}
use Rattle.svc_record.specs.declared.event.Event.TheVariants.{Arrived}
use Rattle.svc_record.specs.Record.{Record, has, times, tell, is_runtimes, before_runtimes, EachEntry}
use Rattle.svc_record.specs.Asks.{is_set, is_shaken, is_settings, is_handshake}
use Rattle.svc_base.specs.NumberSets.{put_number, ascending, is_in, distinct}
use Rattle.svc_record.specs.Connections.{Arrival, arrivals, arrived_numbers, is_arrival, goes_on, live_connections, is_known, has_filter, settings_list, same_settings, same_setting, is_judged, is_judged_as, is_refuse, is_settings_of, is_serve, is_drop, is_cut, is_finished, is_set_as, is_shaken_as, is_cut_off, connection_right, connection_known, rests_right, rest_due}
use Rattle.svc_record.proofs.Closing.{arrival-in}
use Rattle.svc_connections.specs.declared.stage.Connection.{Connection}
use Rattle.svc_connections.specs.declared.stage.Stage.{Stage}
use Rattle.svc_connections.specs.declared.stage.Stage.TheVariants.{Setting}
use Rattle.svc_connections.specs.ConnectionsData.{ConnectionsData}
use Rattle.svc_connections.specs.ConnectionsState.{ConnectionsStand, NumberStands, numbers, stage_of, is_new}
use Rattle.svc_connections.specs.ConnectionsEffects.{put_connection, taken_in, arrived, arrived_told}
use Rattle.svc_base.proofs.NumberSetLemmas.{any-ascending}
use Rattle.svc_connections.proofs.StageLemmas.{eqb-sym, put-other, put-here, numbers-put, none-is, filter-same}
use Rattle.svc_connections.proofs.Aside.{aside, right-aside}
use Rattle.svc_connections.proofs.Parts.{joined}
use Rattle.svc_connections.proofs.Counts.{none-times, unset-as, unshaken-as}
use Rattle.svc_connections.proofs.Unheard.{Unheard, unheard, untold}

-- what was told once where it is due
once-more : (told due : Bool) (n : ℕ) → told ≡ true → due ≡ true → n ≡ 0 → ((if told then n + 1 else n) == (if due then 1 else 0)) ≡ true
once-more told due n x y z = rw (x, y, z) refl

-- and not at all where it isn't
never : (due : Bool) (n : ℕ) → due ≡ false → n ≡ 0 → (n == (if due then 1 else 0)) ≡ true
never due n x y = rw (x, y) refl

or-true : (b c : Bool) → c ≡ false → (b || not c) ≡ true
or-true true c h = refl
or-true false c h = ap not h

same-option : (x : SettingOption) → same_setting x x ≡ true
same-option NoDelay = refl
same-option (KeepAlive k) =
    and_from _ _ (and_from _ _ (eq-eqb k.idle k.idle refl) (eq-eqb k.interval k.interval refl))
    (and_from _ _ (eq-eqb k.count k.count refl) (eq-eqb k.user_timeout k.user_timeout refl))
same-option (Dscp n) = eq-eqb n n refl
same-option (SndBuf n) = eq-eqb n n refl
same-option (RcvBuf n) = eq-eqb n n refl

pub same-list : (xs : List SettingOption) → same_settings xs xs ≡ true
same-list [] = refl
same-list (x ∷ xs) = and_from (same_setting x x) (same_settings xs xs) (same-option x) (same-list xs)

-- where the runtimes weren't shut down, nothing stands before that
before-none : (q : Record) → has is_runtimes q ≡ false → before_runtimes q ≡ []
before-none [] h = refl
before-none (Told (Phase ShutdownRuntimes ms) ∷ q) h = cc
before-none (_ ∷ q) h = before-none q h

pub not-cut-off : (q : Record) (c : ℕ) → has is_runtimes q ≡ false → is_cut_off q c ≡ false
not-cut-off q c h = ap (λ (r : Record). has (is_arrival c) r && goes_on r c) (before-none q h)

all-apart : (f g : Arrival → Bool) (c : ℕ) (xs : List Arrival) → is_in c (map (λ (x : Arrival). x.number) xs) ≡ false
    → ((x : Arrival) → (c == x.number) ≡ false → f x ≡ true → g x ≡ true) → list_all f xs ≡ true → list_all g xs ≡ true
all-apart f g c [] none grow h = refl
all-apart f g c (x ∷ xs) none grow h =
    let apart = or_parts (x.number == c) (is_in c (map (λ (y : Arrival). y.number) xs)) none in
    let both = and_parts (f x) (list_all f xs) h in
    and_from (g x) (list_all g xs) (grow x (eqb-sym c x.number ∙ apart.0) both.0) (all-apart f g c xs apart.1 grow both.1)

-- the part after entries on a new connection
arrived-from : (p : Plan) (d : ConnectionsData) (q r : Record) (new : Arrival) (live : List Connection) → is_in new.number (arrived_numbers q) ≡ false
    → ConnectionsStand p d q → arrivals r ≡ new ∷ arrivals q
    → numbers live ≡ ascending (live_connections r) → ((n : ℕ) → (new.number == n) ≡ false → NumberStands r n (stage_of live n))
    → NumberStands r new.number (stage_of live new.number)
    → ((x : Arrival) → (new.number == x.number) ≡ false → connection_right p r x ≡ connection_right p q x) → connection_right p r new ≡ true
    → rests_right r ≡ true → EachEntry (λ e before. rest_due e before ≡ true) r → EachEntry (λ e before. connection_known p e before ≡ true) r
    → has is_runtimes r ≡ false
    → ConnectionsStand p (record { live = live; came = put_number new.number d.came }) r
arrived-from p d q r new live fresh w more live_is others here rights right rests turns known on = record {
  came_is = ap (put_number new.number) w.came_is ∙ ap (λ (xs : List Arrival). ascending (map (λ (x : Arrival). x.number) xs)) (sym more);
  came_once = ap (λ (xs : List Arrival). distinct (map (λ (x : Arrival). x.number) xs)) more
      ∙ and_from (not (is_in new.number (arrived_numbers q))) (distinct (arrived_numbers q))
      (not_from_false (is_in new.number (arrived_numbers q)) fresh) w.came_once;
  live_is = live_is;
  stages_are = λ n. elim (cases_Bool (new.number == n)) [
    | inl y ↦ subst (λ (m : ℕ). NumberStands r m (stage_of live m)) (eqb-true new.number n y) here
    | inr differ ↦ others n differ
  ];
  right = record {
    each = ap (list_all (connection_right p r)) more ∙ and_from (connection_right p r new) (list_all (connection_right p r) (arrivals q)) right
        (all-apart (connection_right p q) (connection_right p r) new.number (arrivals q) fresh (λ x differ h. rights x differ ∙ h) w.right.each);
    rests = rests;
    in_turn = turns;
  };
  known = known;
  goes_on = on;
}

-- the facts of a connection that arrives
module _ (p : Plan) (d : ConnectionsData) (q : Record) (s i c : ℕ) (peer : Peer) (list : List SettingOption) (is_list : list ≡ settings_list p s i)
    (new : is_new d c ≡ true) (w : ConnectionsStand p d q) where
  abbrev arrival : Arrival
  arrival = record { service = s; endpoint = i; number = c; peer = peer }

  abbrev base : Record
  base = Got (Arrived s i c peer) ∷ q

  fresh : is_in c (arrived_numbers q) ≡ false
  fresh = sym (any-ascending (λ n. n == c) (arrived_numbers q)) ∙ ap (is_in c) (sym w.came_is) ∙ plain (is_in c d.came) new
    where
      plain : (b : Bool) → not b ≡ true → b ≡ false
      plain b h = grind arith

  not-arrived : has (is_arrival c) q ≡ false
  not-arrived = arrival-in c q ∙ fresh

  silent : Unheard q c
  silent = unheard q c (untold p q c w.known not-arrived)

  gone : stage_of d.live c ≡ None
  gone = let at = w.stages_are c in none-is (stage_of d.live c) (sym at.live_is ∙ ap (λ b. b && goes_on q c) not-arrived)

  old : NumberStands q c None
  old = subst (λ (x : Option Stage). NumberStands q c x) gone (w.stages_are c)

  itself : (c == c) ≡ true
  itself = eq-eqb c c refl

  unset : has (is_set c) q ≡ false
  unset = old.unset (ap not not-arrived)

  unshaken : has (is_shaken c) q ≡ false
  unshaken = old.unshaken (ap not not-arrived)

  unfinished : has (is_finished c) q ≡ false
  unfinished = old.unfinished not-arrived

  goes : goes_on q c ≡ true
  goes = rw (silent.no_refuse, silent.no_drop, unfinished) refl

  uncut : times (is_cut c) q ≡ 0
  uncut = none-times (is_cut c) q old.uncut

  undropped : (has (is_set_as false c) q || has (is_shaken_as false c) q) ≡ false
  undropped = or_from (has (is_set_as false c) q) (has (is_shaken_as false c) q) (unset-as false c q unset) (unshaken-as false c q unshaken)

  same : same_settings list (settings_list p s i) ≡ true
  same = subst (λ (xs : List SettingOption). same_settings list xs ≡ true) is_list (same-list list)

  not-off : is_cut_off q c ≡ false
  not-off = not-cut-off q c w.goes_on

  live-now : numbers (put_connection (record { number = c; stage = Setting }) d.live) ≡ put_number c (ascending (live_connections q))
  live-now = numbers-put (record { number = c; stage = Setting }) d.live gone ∙ ap (put_number c) w.live_is

  stays : (goes_on q c && not (has (is_cut c) q)) ≡ true
  stays = rw (goes, old.uncut) refl

  unknown-right : is_known peer ≡ false → connection_right p (Told (TellSettings c list) ∷ base) arrival ≡ true
  unknown-right known = joined p (Told (TellSettings c list) ∷ base) arrival (record {
    judged = never (is_known peer) (times (is_judged c) q) known silent.judged;
    filtered = or-true (has_filter p s i) (has (is_judged_as false c) q) silent.not_refused;
    refused = never (has (is_judged_as false c) q) (times (is_refuse c) q) silent.not_refused silent.refuses;
    set_up = once-more (c == c) (not (has (is_judged_as false c) q)) (times (is_settings c) q) itself (ap not silent.not_refused) silent.settings;
    set_so = once-more ((c == c) && same_settings list (settings_list p s i)) (not (has (is_judged_as false c) q))
        (times (is_settings_of (settings_list p s i) c) q) (and_from (c == c) (same_settings list (settings_list p s i)) itself same)
        (ap not silent.not_refused) (silent.settings_of (settings_list p s i));
    shakes = never (has (is_set_as true c) q) (times (is_handshake c) q) (unset-as true c q unset) silent.handshakes;
    serves = never (has (is_shaken_as true c) q) (times (is_serve c) q) (unshaken-as true c q unshaken) silent.serves;
    drops = never (has (is_set_as false c) q || has (is_shaken_as false c) q) (times (is_drop c) q) undropped silent.drops;
  }) (never (is_cut_off q c) (times (is_cut c) q) not-off uncut)

  allowed-right : is_known peer ≡ true → connection_right p (Told (TellSettings c list) ∷ Told (Judged c true) ∷ base) arrival ≡ true
  allowed-right known = joined p (Told (TellSettings c list) ∷ Told (Judged c true) ∷ base) arrival (record {
    judged = once-more (c == c) (is_known peer) (times (is_judged c) q) itself known silent.judged;
    filtered = or-true (has_filter p s i) (has (is_judged_as false c) q) silent.not_refused;
    refused = never (has (is_judged_as false c) q) (times (is_refuse c) q) silent.not_refused silent.refuses;
    set_up = once-more (c == c) (not (has (is_judged_as false c) q)) (times (is_settings c) q) itself (ap not silent.not_refused) silent.settings;
    set_so = once-more ((c == c) && same_settings list (settings_list p s i)) (not (has (is_judged_as false c) q))
        (times (is_settings_of (settings_list p s i) c) q) (and_from (c == c) (same_settings list (settings_list p s i)) itself same)
        (ap not silent.not_refused) (silent.settings_of (settings_list p s i));
    shakes = never (has (is_set_as true c) q) (times (is_handshake c) q) (unset-as true c q unset) silent.handshakes;
    serves = never (has (is_shaken_as true c) q) (times (is_serve c) q) (unshaken-as true c q unshaken) silent.serves;
    drops = never (has (is_set_as false c) q || has (is_shaken_as false c) q) (times (is_drop c) q) undropped silent.drops;
  }) (never (is_cut_off q c) (times (is_cut c) q) not-off uncut)

  refused-right : is_known peer ≡ true → has_filter p s i ≡ true → connection_right p (Told (Refuse c) ∷ Told (Judged c false) ∷ base) arrival ≡ true
  refused-right known filters = joined p (Told (Refuse c) ∷ Told (Judged c false) ∷ base) arrival (record {
    judged = once-more (c == c) (is_known peer) (times (is_judged c) q) itself known silent.judged;
    filtered = or_left (has_filter p s i) (not ((c == c) || has (is_judged_as false c) q)) filters;
    refused = once-more (c == c) ((c == c) || has (is_judged_as false c) q) (times (is_refuse c) q) itself
        (or_left (c == c) (has (is_judged_as false c) q) itself) silent.refuses;
    set_up = never (not ((c == c) || has (is_judged_as false c) q)) (times (is_settings c) q) out silent.settings;
    set_so = never (not ((c == c) || has (is_judged_as false c) q)) (times (is_settings_of (settings_list p s i) c) q) out
        (silent.settings_of (settings_list p s i));
    shakes = never (has (is_set_as true c) q) (times (is_handshake c) q) (unset-as true c q unset) silent.handshakes;
    serves = never (has (is_shaken_as true c) q) (times (is_serve c) q) (unshaken-as true c q unshaken) silent.serves;
    drops = never (has (is_set_as false c) q || has (is_shaken_as false c) q) (times (is_drop c) q) undropped silent.drops;
  }) (never (is_cut_off q c) (times (is_cut c) q) not-off uncut)
    where
      out : not ((c == c) || has (is_judged_as false c) q) ≡ false
      out = not_from_true ((c == c) || has (is_judged_as false c) q) (or_left (c == c) (has (is_judged_as false c) q) itself)

  unknown-here : NumberStands (Told (TellSettings c list) ∷ base) c (Some Setting)
  unknown-here = record {
    live_is = rw itself goes;
    setting_is = rw itself refl;
    shaking_is = old.shaking_is;
    serving_is = old.serving_is;
    unset = λ h. unset;
    unshaken = λ h. unshaken;
    unfinished = λ h. unfinished;
    uncut = old.uncut;
  }

  allowed-here : NumberStands (Told (TellSettings c list) ∷ Told (Judged c true) ∷ base) c (Some Setting)
  allowed-here = record {
    live_is = rw itself goes;
    setting_is = rw itself refl;
    shaking_is = old.shaking_is;
    serving_is = old.serving_is;
    unset = λ h. unset;
    unshaken = λ h. unshaken;
    unfinished = λ h. unfinished;
    uncut = old.uncut;
  }

  refused-here : NumberStands (Told (Refuse c) ∷ Told (Judged c false) ∷ base) c None
  refused-here = record {
    live_is = rw itself refl;
    setting_is = old.setting_is;
    shaking_is = old.shaking_is;
    serving_is = rw (itself, silent.no_serve) refl;
    unset = λ h. unset;
    unshaken = λ h. unshaken;
    unfinished = λ h. unfinished;
    uncut = old.uncut;
  }

  abbrev grown : List Connection
  grown = put_connection (record { number = c; stage = Setting }) d.live

  others-base : (live : List Connection) (n : ℕ) → stage_of live n ≡ stage_of d.live n → (c == n) ≡ false → NumberStands base n (stage_of live n)
  others-base live n is differ =
      aside q n (stage_of live n) (Got (Arrived s i c peer)) differ (subst (λ (x : Option Stage). NumberStands q n x) (sym is) (w.stages_are n))

  grown-other : (n : ℕ) → (c == n) ≡ false → stage_of grown n ≡ stage_of d.live n
  grown-other n differ = put-other (record { number = c; stage = Setting }) n d.live differ

  grown-here : stage_of grown c ≡ Some Setting
  grown-here = put-here (record { number = c; stage = Setting }) d.live gone

  has-base : has (is_arrival c) base ≡ true
  has-base = or_left (c == c) (has (is_arrival c) q) itself

  after-unknown : is_known peer ≡ false → ConnectionsStand p (record { live = grown; came = put_number c d.came }) (Told (TellSettings c list) ∷ base)
  after-unknown known = arrived-from p d q (Told (TellSettings c list) ∷ base) arrival grown fresh w refl
      (rw stays live-now)
      (λ n differ. aside base n (stage_of grown n) (Told (TellSettings c list)) differ (others-base grown n (grown-other n differ) differ))
      (subst (λ (x : Option Stage). NumberStands (Told (TellSettings c list) ∷ base) c x) (sym grown-here) unknown-here)
      (λ x differ. right-aside p base x (Told (TellSettings c list)) differ refl ∙ right-aside p q x (Got (Arrived s i c peer)) differ refl)
      (unknown-right known) w.right.rests (refl, (refl, w.right.in_turn)) (has-base, (refl, w.known)) w.goes_on

  after-allowed : is_known peer ≡ true
      → ConnectionsStand p (record { live = grown; came = put_number c d.came }) (Told (TellSettings c list) ∷ Told (Judged c true) ∷ base)
  after-allowed known = arrived-from p d q (Told (TellSettings c list) ∷ Told (Judged c true) ∷ base) arrival grown fresh w refl
      (rw stays live-now)
      (λ n differ. aside (Told (Judged c true) ∷ base) n (stage_of grown n) (Told (TellSettings c list)) differ
      (aside base n (stage_of grown n) (Told (Judged c true)) differ (others-base grown n (grown-other n differ) differ)))
      (subst (λ (x : Option Stage). NumberStands (Told (TellSettings c list) ∷ Told (Judged c true) ∷ base) c x) (sym grown-here) allowed-here)
      (λ x differ. right-aside p (Told (Judged c true) ∷ base) x (Told (TellSettings c list)) differ refl
      ∙ right-aside p base x (Told (Judged c true)) differ refl ∙ right-aside p q x (Got (Arrived s i c peer)) differ refl)
      (allowed-right known) w.right.rests (refl, (refl, (refl, w.right.in_turn))) (has-base, (has-base, (refl, w.known))) w.goes_on

  live-refused : live_connections (Told (Refuse c) ∷ Told (Judged c false) ∷ base) ≡ live_connections q
  live-refused =
      rw itself (filter-same (λ n. goes_on q n && not (has (is_cut n) q))
      (λ n. not ((((c == n) || has (is_refuse n) q) || has (is_drop n) q) || has (is_finished n) q) && not (has (is_cut n) q)) c (arrived_numbers q) fresh
      (λ n differ. rw differ refl))

  after-refused : is_known peer ≡ true → has_filter p s i ≡ true
      → ConnectionsStand p (record { live = d.live; came = put_number c d.came }) (Told (Refuse c) ∷ Told (Judged c false) ∷ base)
  after-refused known filters = arrived-from p d q (Told (Refuse c) ∷ Told (Judged c false) ∷ base) arrival d.live fresh w refl
      (w.live_is ∙ ap ascending (sym live-refused))
      (λ n differ. aside (Told (Judged c false) ∷ base) n (stage_of d.live n) (Told (Refuse c)) differ
      (aside base n (stage_of d.live n) (Told (Judged c false)) differ (others-base d.live n refl differ)))
      (subst (λ (x : Option Stage). NumberStands (Told (Refuse c) ∷ Told (Judged c false) ∷ base) c x) (sym gone) refused-here)
      (λ x differ. right-aside p (Told (Judged c false) ∷ base) x (Told (Refuse c)) differ refl ∙ right-aside p base x (Told (Judged c false)) differ refl
      ∙ right-aside p q x (Got (Arrived s i c peer)) differ refl)
      (refused-right known filters) w.right.rests (refl, (refl, (refl, w.right.in_turn))) (has-base, (has-base, (refl, w.known))) w.goes_on

  arrived-by : (known said : Bool) → is_known peer ≡ known → (has_filter p s i ≡ false → said ≡ true) → ConnectionsStand p (taken_in c (known && not said) d)
      (tell base ((if known then Judged c said ∷ [] else []) ++ (if known && not said then Refuse c ∷ [] else TellSettings c list ∷ [])))
  arrived-by true true known unfiltered = after-allowed known
  arrived-by true false known unfiltered = after-refused known (filtered (has_filter p s i) unfiltered)
    where
      filtered : (b : Bool) → (b ≡ false → false ≡ true) → b ≡ true
      filtered true h = refl
      filtered false h = let k = h refl in cc
  arrived-by false said known unfiltered = after-unknown known

  pub stands-arrived : (said : Bool) → (has_filter p s i ≡ false → said ≡ true)
      → ConnectionsStand p (arrived c peer said d) (tell base (arrived_told c peer said list))
  stands-arrived said unfiltered = arrived-by (is_known peer) said refl unfiltered

-- the same of what it is after the call
pub after-arrived : (p : Plan) (d after : ConnectionsData) (q : Record) (s i c : ℕ) (peer : Peer) (said : Bool) (list : List SettingOption)
    → after ≡ arrived c peer said d → is_new d c ≡ true → list ≡ settings_list p s i → (has_filter p s i ≡ false → said ≡ true) → ConnectionsStand p d q
    → ConnectionsStand p after (tell (Got (Arrived s i c peer) ∷ q) (arrived_told c peer said list))
after-arrived p d after q s i c peer said list is new is_list unfiltered w =
    subst (λ (x : ConnectionsData). ConnectionsStand p x (tell (Got (Arrived s i c peer) ∷ q) (arrived_told c peer said list))) (sym is)
    (stands-arrived p d q s i c peer list is_list new w said unfiltered)
