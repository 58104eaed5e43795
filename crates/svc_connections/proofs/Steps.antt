-- What the part stands for after an answer to a live connection.
use Rattle.std.proofs.Common.{ℕ, Bool, true, false, not, ◌==◌, ◌&&◌, ◌||◌, ◌+◌, inl, inr, List, ◌∷◌, map, filter, ◌≡◌, refl, ap, sym, ◌∙◌, subst, arith, Option, Some, None, if◌then◌else◌}
use Rattle.std.specs.List.{list_all}
use Rattle.std.proofs.lemmas.Bool.{eqb-true, eq-eqb, and_parts, cases_Bool}
use Rattle.svc_record.specs.declared.plan.Plan.{Plan}
use Rattle.svc_record.specs.declared.entry.Entry.{Entry}
use Rattle.svc_record.specs.declared.entry.Entry.TheVariants.{Got, Told}
use Rattle.svc_record.specs.declared.action.Action.TheVariants.{Handshake, Serve, Drop}
use Rattle.svc_record.specs.declared.event.Event.TheVariants.{Set, Shaken, Finished}
use Rattle.svc_record.specs.Record.{Record, has, times, once_if, tell, is_runtimes, EachEntry}
use Rattle.svc_record.specs.Asks.{is_handshake}
use Rattle.svc_base.specs.NumberSets.{ascending, distinct}
use Rattle.svc_record.specs.Connections.{Arrival, arrivals, arrived_numbers, is_arrival, goes_on, live_connections, is_refuse, is_drop, is_finished, is_cut, is_serve, is_set_as, is_shaken_as, connection_right, connection_known, rests_right, rest_due}
use Rattle.svc_connections.specs.declared.stage.Connection.{Connection}
use Rattle.svc_connections.specs.declared.stage.Stage.{Stage}
use Rattle.svc_connections.specs.declared.stage.Stage.TheVariants.{Setting, Shaking, Serving}
use Rattle.svc_connections.specs.ConnectionsData.{ConnectionsData}
use Rattle.svc_connections.specs.ConnectionsState.{ConnectionsStand, NumberStands, numbers, stage_of, is_setting, is_shaking, is_serving, is_live}
use Rattle.svc_connections.specs.ConnectionsEffects.{at_stage, without, gone_on, set_told, shaken_told, finished}
use Rattle.svc_base.proofs.NumberSetLemmas.{filter-ascending}
use Rattle.svc_connections.proofs.LiveLemmas.{numbers-moved, numbers-without}
use Rattle.svc_connections.proofs.StageLemmas.{eqb-sym, moved-other, moved-here, without-other, without-here, setting-is, shaking-is, serving-is, filter-less}
use Rattle.svc_connections.proofs.Aside.{aside, right-aside}
use Rattle.svc_connections.proofs.Parts.{parts, joined, cut-part}
use Rattle.svc_connections.proofs.Counts.{none-times, unset-as, unshaken-as}
use Rattle.svc_connections.proofs.Foreign.{all-grows}

-- what isn't due stands 0 times
undue : (b : Bool) (test : Entry → Bool) (q : Record) → b ≡ false → once_if b test q ≡ true → times test q ≡ 0
undue b test q e h = eqb-true (times test q) 0 (rw e at h)

arrived-no : (a b : Bool) → (a && b) ≡ true → not a ≡ true → ⊥
arrived-no true b h k = cc
arrived-no false b h k = cc

off-by-drop : (a r f : Bool) → (a && not ((r || true) || f)) ≡ false
off-by-drop a r f = grind arith

off-by-finish : (a x : Bool) → (a && not (x || true)) ≡ false
off-by-finish a x = grind arith

none-dropped : (a r d f : Bool) → (a && not ((r || d) || f)) ≡ true → d ≡ false
none-dropped a r d f h = grind arith

less-drop : (r d f u e k : Bool) → e ≡ k → (not ((r || (e || d)) || f) && not u) ≡ ((not ((r || d) || f) && not u) && not k)
less-drop r d f u e k h = grind arith

less-finish : (r d f u e k : Bool) → e ≡ k → (not ((r || d) || (e || f)) && not u) ≡ ((not ((r || d) || f) && not u) && not k)
less-finish r d f u e k h = grind arith

-- the part after entries on one connection
pub stands-from : (p : Plan) (d : ConnectionsData) (q r : Record) (c : ℕ) (live : List Connection) → ConnectionsStand p d q → arrivals r ≡ arrivals q
    → numbers live ≡ ascending (live_connections r)
    → ((n : ℕ) → (c == n) ≡ false → NumberStands r n (stage_of live n)) → NumberStands r c (stage_of live c)
    → ((x : Arrival) → (c == x.number) ≡ false → connection_right p r x ≡ connection_right p q x)
    → ((x : Arrival) → x.number ≡ c → connection_right p q x ≡ true → connection_right p r x ≡ true)
    → rests_right r ≡ true → EachEntry (λ e before. rest_due e before ≡ true) r → EachEntry (λ e before. connection_known p e before ≡ true) r
    → has is_runtimes r ≡ false
    → ConnectionsStand p (record { live = live; came = d.came }) r
stands-from p d q r c live w same live_is others here rights right rests turns known on = record {
  came_is = w.came_is ∙ ap (λ (xs : List Arrival). ascending (map (λ (x : Arrival). x.number) xs)) (sym same);
  came_once = ap (λ (xs : List Arrival). distinct (map (λ (x : Arrival). x.number) xs)) same ∙ w.came_once;
  live_is = live_is;
  stages_are = λ n. elim (cases_Bool (c == n)) [
    | inl y ↦ subst (λ (m : ℕ). NumberStands r m (stage_of live m)) (eqb-true c n y) here
    | inr differ ↦ others n differ
  ];
  right = record {
    each = ap (list_all (connection_right p r)) same
        ∙ all-grows (connection_right p q) (connection_right p r) (arrivals q) (λ x h. elim (cases_Bool (c == x.number)) [
          | inl y ↦ right x (sym (eqb-true c x.number y)) h
          | inr differ ↦ rights x differ ∙ h
        ]) w.right.each;
    rests = rests;
    in_turn = turns;
  };
  known = known;
  goes_on = on;
}

module _ (q : Record) (c : ℕ) where
  itself : (c == c) ≡ true
  itself = eq-eqb c c refl

  set-ok : NumberStands q c (Some Setting) → NumberStands (Told (Handshake c) ∷ Got (Set c true) ∷ q) c (Some Shaking)
  set-ok w = record {
    live_is = w.live_is;
    setting_is = rw itself refl;
    shaking_is = rw itself refl;
    serving_is = w.serving_is;
    unset = λ h. absurd (arrived-no (has (is_arrival c) q) (goes_on q c) w.live_is h);
    unshaken = λ h. w.unshaken refl;
    unfinished = w.unfinished;
    uncut = w.uncut;
  }

  set-no : NumberStands q c (Some Setting) → NumberStands (Told (Drop c) ∷ Got (Set c false) ∷ q) c None
  set-no w = record {
    live_is = rw itself (off-by-drop (has (is_arrival c) q) (has (is_refuse c) q) (has (is_finished c) q));
    setting_is = rw itself refl;
    shaking_is = w.shaking_is;
    serving_is = rw itself (off-by-drop (has (is_serve c) q) (has (is_refuse c) q) (has (is_finished c) q));
    unset = λ h. absurd (arrived-no (has (is_arrival c) q) (goes_on q c) w.live_is h);
    unshaken = λ h. w.unshaken refl;
    unfinished = w.unfinished;
    uncut = w.uncut;
  }

  shaken-ok : NumberStands q c (Some Shaking) → NumberStands (Told (Serve c) ∷ Got (Shaken c true) ∷ q) c (Some Serving)
  shaken-ok w = record {
    live_is = w.live_is;
    setting_is = w.setting_is;
    shaking_is = rw itself refl;
    serving_is = rw itself (and_parts (has (is_arrival c) q) (goes_on q c) w.live_is).1;
    unset = w.unset;
    unshaken = λ h. absurd (arrived-no (has (is_arrival c) q) (goes_on q c) w.live_is h);
    unfinished = w.unfinished;
    uncut = w.uncut;
  }

  shaken-no : NumberStands q c (Some Shaking) → NumberStands (Told (Drop c) ∷ Got (Shaken c false) ∷ q) c None
  shaken-no w = record {
    live_is = rw itself (off-by-drop (has (is_arrival c) q) (has (is_refuse c) q) (has (is_finished c) q));
    setting_is = w.setting_is;
    shaking_is = rw itself refl;
    serving_is = rw itself (off-by-drop (has (is_serve c) q) (has (is_refuse c) q) (has (is_finished c) q));
    unset = w.unset;
    unshaken = λ h. absurd (arrived-no (has (is_arrival c) q) (goes_on q c) w.live_is h);
    unfinished = w.unfinished;
    uncut = w.uncut;
  }

  finish : NumberStands q c (Some Serving) → NumberStands (Got (Finished c) ∷ q) c None
  finish w = record {
    live_is = rw itself (off-by-finish (has (is_arrival c) q) (has (is_refuse c) q || has (is_drop c) q));
    setting_is = w.setting_is;
    shaking_is = w.shaking_is;
    serving_is = rw itself (off-by-finish (has (is_serve c) q) (has (is_refuse c) q || has (is_drop c) q));
    unset = w.unset;
    unshaken = w.unshaken;
    unfinished = λ h. absurd (arrived-not (has (is_arrival c) q) (goes_on q c) w.live_is h);
    uncut = w.uncut;
  }
    where
      arrived-not : (a b : Bool) → (a && b) ≡ true → a ≡ false → ⊥
      arrived-not a b h k = let both = and_parts a b h in let yes = both.0 in cc

-- of a live connection nothing was dropped
undropped : (q : Record) (c : ℕ) (stage : Option Stage) → is_live stage ≡ true → NumberStands q c stage → times (is_drop c) q ≡ 0
undropped q c stage live w =
    none-times (is_drop c) q (none-dropped (has (is_arrival c) q) (has (is_refuse c) q) (has (is_drop c) q) (has (is_finished c) q) (w.live_is ∙ live))

module _ (p : Plan) (q : Record) (x : Arrival) where
  same-number : (x.number == x.number) ≡ true
  same-number = eq-eqb x.number x.number refl

  right-set-ok : NumberStands q x.number (Some Setting) → connection_right p q x ≡ true
      → connection_right p (Told (Handshake x.number) ∷ Got (Set x.number true) ∷ q) x ≡ true
  right-set-ok w h =
      let old = parts p q x h in
      let none : times (is_handshake x.number) q ≡ 0 =
      undue (has (is_set_as true x.number) q) (is_handshake x.number) q (unset-as true x.number q (w.unset refl)) old.shakes in
      joined p (Told (Handshake x.number) ∷ Got (Set x.number true) ∷ q) x (record {
        judged = old.judged;
        filtered = old.filtered;
        refused = old.refused;
        set_up = old.set_up;
        set_so = old.set_so;
        shakes = rw (same-number, none) refl;
        serves = old.serves;
        drops = old.drops;
      }) (cut-part p q x h)

  right-shaken-ok : NumberStands q x.number (Some Shaking) → connection_right p q x ≡ true
      → connection_right p (Told (Serve x.number) ∷ Got (Shaken x.number true) ∷ q) x ≡ true
  right-shaken-ok w h =
      let old = parts p q x h in
      let none : times (is_serve x.number) q ≡ 0 =
      undue (has (is_shaken_as true x.number) q) (is_serve x.number) q (unshaken-as true x.number q (w.unshaken refl)) old.serves in
      joined p (Told (Serve x.number) ∷ Got (Shaken x.number true) ∷ q) x (record {
        judged = old.judged;
        filtered = old.filtered;
        refused = old.refused;
        set_up = old.set_up;
        set_so = old.set_so;
        shakes = old.shakes;
        serves = rw (same-number, none) refl;
        drops = old.drops;
      }) (cut-part p q x h)

  right-set-no : NumberStands q x.number (Some Setting) → connection_right p q x ≡ true
      → connection_right p (Told (Drop x.number) ∷ Got (Set x.number false) ∷ q) x ≡ true
  right-set-no w h =
      let old = parts p q x h in
      let none : times (is_drop x.number) q ≡ 0 = undropped q x.number (Some Setting) refl w in
      joined p (Told (Drop x.number) ∷ Got (Set x.number false) ∷ q) x (record {
        judged = old.judged;
        filtered = old.filtered;
        refused = old.refused;
        set_up = old.set_up;
        set_so = old.set_so;
        shakes = old.shakes;
        serves = old.serves;
        drops = rw (same-number, none) refl;
      }) (cut-part p q x h)

  right-shaken-no : NumberStands q x.number (Some Shaking) → connection_right p q x ≡ true
      → connection_right p (Told (Drop x.number) ∷ Got (Shaken x.number false) ∷ q) x ≡ true
  right-shaken-no w h =
      let old = parts p q x h in
      let none : times (is_drop x.number) q ≡ 0 = undropped q x.number (Some Shaking) refl w in
      joined p (Told (Drop x.number) ∷ Got (Shaken x.number false) ∷ q) x (record {
        judged = old.judged;
        filtered = old.filtered;
        refused = old.refused;
        set_up = old.set_up;
        set_so = old.set_so;
        shakes = old.shakes;
        serves = old.serves;
        drops = rw (same-number, none) (dropped-once (has (is_set_as false x.number) q));
      }) (cut-part p q x h)
    where
      dropped-once : (b : Bool) → ((0 + 1) == (if b || true then 1 else 0)) ≡ true
      dropped-once true = refl
      dropped-once false = refl

-- the live connections without one
ended-live : (d : ConnectionsData) (q r : Record) (c : ℕ) → numbers d.live ≡ ascending (live_connections q)
    → filter (λ n. not (n == c)) (live_connections q) ≡ live_connections r → numbers (without c d.live) ≡ ascending (live_connections r)
ended-live d q r c is less =
    numbers-without c d.live ∙ ap (filter (λ n. not (n == c))) is ∙ filter-ascending (λ n. not (n == c)) (live_connections q) ∙ ap ascending less

-- a connection of the record that arrived
arrived-is : (q : Record) (c : ℕ) (stage : Option Stage) → is_live stage ≡ true → NumberStands q c stage → has (is_arrival c) q ≡ true
arrived-is q c stage live w = (and_parts (has (is_arrival c) q) (goes_on q c) (w.live_is ∙ live)).0

module _ (p : Plan) (d : ConnectionsData) (q : Record) (c : ℕ) (w : ConnectionsStand p d q) where
  at-c : (s : Option Stage) → stage_of d.live c ≡ s → NumberStands q c s
  at-c s is = subst (λ (x : Option Stage). NumberStands q c x) is (w.stages_are c)

  moves : (stage : Stage) (n : ℕ) → (c == n) ≡ false → NumberStands q n (stage_of (at_stage c stage d.live) n)
  moves stage n differ = subst (λ (x : Option Stage). NumberStands q n x) (sym (moved-other c n stage d.live differ)) (w.stages_are n)

  ends : (n : ℕ) → (c == n) ≡ false → NumberStands q n (stage_of (without c d.live) n)
  ends n differ = subst (λ (x : Option Stage). NumberStands q n x) (sym (without-other c n d.live differ)) (w.stages_are n)

  at-x : (s : Option Stage) → stage_of d.live c ≡ s → (x : Arrival) → x.number ≡ c → NumberStands q x.number s
  at-x s is x same = subst (λ (n : ℕ). NumberStands q n s) (sym same) (at-c s is)

  after-set-ok : is_setting (stage_of d.live c) ≡ true
      → ConnectionsStand p (record { live = at_stage c Shaking d.live; came = d.came }) (Told (Handshake c) ∷ Got (Set c true) ∷ q)
  after-set-ok awaited =
      let is = setting-is (stage_of d.live c) awaited in
      let here = at-c (Some Setting) is in
      stands-from p d q (Told (Handshake c) ∷ Got (Set c true) ∷ q) c (at_stage c Shaking d.live) w refl (numbers-moved c Shaking d.live ∙ w.live_is)
      (λ n differ. aside (Got (Set c true) ∷ q) n (stage_of (at_stage c Shaking d.live) n) (Told (Handshake c)) differ
      (aside q n (stage_of (at_stage c Shaking d.live) n) (Got (Set c true)) differ (moves Shaking n differ)))
      (subst (λ (x : Option Stage). NumberStands (Told (Handshake c) ∷ Got (Set c true) ∷ q) c x) (sym (moved-here c Shaking d.live (ap is_live is)))
      (set-ok q c here))
      (λ x differ. right-aside p (Got (Set c true) ∷ q) x (Told (Handshake c)) differ refl ∙ right-aside p q x (Got (Set c true)) differ refl)
      (λ x same h. subst (λ (n : ℕ). connection_right p (Told (Handshake n) ∷ Got (Set n true) ∷ q) x ≡ true) same
      (right-set-ok p q x (at-x (Some Setting) is x same) h))
      w.right.rests (refl, (refl, w.right.in_turn)) (arrived-is q c (Some Setting) refl here, (refl, w.known)) w.goes_on

  after-shaken-ok : is_shaking (stage_of d.live c) ≡ true
      → ConnectionsStand p (record { live = at_stage c Serving d.live; came = d.came }) (Told (Serve c) ∷ Got (Shaken c true) ∷ q)
  after-shaken-ok awaited =
      let is = shaking-is (stage_of d.live c) awaited in
      let here = at-c (Some Shaking) is in
      stands-from p d q (Told (Serve c) ∷ Got (Shaken c true) ∷ q) c (at_stage c Serving d.live) w refl (numbers-moved c Serving d.live ∙ w.live_is)
      (λ n differ. aside (Got (Shaken c true) ∷ q) n (stage_of (at_stage c Serving d.live) n) (Told (Serve c)) differ
      (aside q n (stage_of (at_stage c Serving d.live) n) (Got (Shaken c true)) differ (moves Serving n differ)))
      (subst (λ (x : Option Stage). NumberStands (Told (Serve c) ∷ Got (Shaken c true) ∷ q) c x) (sym (moved-here c Serving d.live (ap is_live is)))
      (shaken-ok q c here))
      (λ x differ. right-aside p (Got (Shaken c true) ∷ q) x (Told (Serve c)) differ refl ∙ right-aside p q x (Got (Shaken c true)) differ refl)
      (λ x same h. subst (λ (n : ℕ). connection_right p (Told (Serve n) ∷ Got (Shaken n true) ∷ q) x ≡ true) same
      (right-shaken-ok p q x (at-x (Some Shaking) is x same) h))
      w.right.rests (refl, (refl, w.right.in_turn)) (arrived-is q c (Some Shaking) refl here, (refl, w.known)) w.goes_on

  after-set-no : is_setting (stage_of d.live c) ≡ true
      → ConnectionsStand p (record { live = without c d.live; came = d.came }) (Told (Drop c) ∷ Got (Set c false) ∷ q)
  after-set-no awaited =
      let is = setting-is (stage_of d.live c) awaited in
      let here = at-c (Some Setting) is in
      stands-from p d q (Told (Drop c) ∷ Got (Set c false) ∷ q) c (without c d.live) w refl
      (ended-live d q (Told (Drop c) ∷ Got (Set c false) ∷ q) c w.live_is
      (filter-less _ _ c (arrived_numbers q)
      (λ n. less-drop (has (is_refuse n) q) (has (is_drop n) q) (has (is_finished n) q) (has (is_cut n) q) (c == n) (n == c) (eqb-sym c n))))
      (λ n differ. aside (Got (Set c false) ∷ q) n (stage_of (without c d.live) n) (Told (Drop c)) differ
      (aside q n (stage_of (without c d.live) n) (Got (Set c false)) differ (ends n differ)))
      (subst (λ (x : Option Stage). NumberStands (Told (Drop c) ∷ Got (Set c false) ∷ q) c x) (sym (without-here c d.live)) (set-no q c here))
      (λ x differ. right-aside p (Got (Set c false) ∷ q) x (Told (Drop c)) differ refl ∙ right-aside p q x (Got (Set c false)) differ refl)
      (λ x same h. subst (λ (n : ℕ). connection_right p (Told (Drop n) ∷ Got (Set n false) ∷ q) x ≡ true) same
      (right-set-no p q x (at-x (Some Setting) is x same) h))
      w.right.rests (refl, (refl, w.right.in_turn)) (arrived-is q c (Some Setting) refl here, (refl, w.known)) w.goes_on

  after-shaken-no : is_shaking (stage_of d.live c) ≡ true
      → ConnectionsStand p (record { live = without c d.live; came = d.came }) (Told (Drop c) ∷ Got (Shaken c false) ∷ q)
  after-shaken-no awaited =
      let is = shaking-is (stage_of d.live c) awaited in
      let here = at-c (Some Shaking) is in
      stands-from p d q (Told (Drop c) ∷ Got (Shaken c false) ∷ q) c (without c d.live) w refl
      (ended-live d q (Told (Drop c) ∷ Got (Shaken c false) ∷ q) c w.live_is
      (filter-less _ _ c (arrived_numbers q)
      (λ n. less-drop (has (is_refuse n) q) (has (is_drop n) q) (has (is_finished n) q) (has (is_cut n) q) (c == n) (n == c) (eqb-sym c n))))
      (λ n differ. aside (Got (Shaken c false) ∷ q) n (stage_of (without c d.live) n) (Told (Drop c)) differ
      (aside q n (stage_of (without c d.live) n) (Got (Shaken c false)) differ (ends n differ)))
      (subst (λ (x : Option Stage). NumberStands (Told (Drop c) ∷ Got (Shaken c false) ∷ q) c x) (sym (without-here c d.live)) (shaken-no q c here))
      (λ x differ. right-aside p (Got (Shaken c false) ∷ q) x (Told (Drop c)) differ refl ∙ right-aside p q x (Got (Shaken c false)) differ refl)
      (λ x same h. subst (λ (n : ℕ). connection_right p (Told (Drop n) ∷ Got (Shaken n false) ∷ q) x ≡ true) same
      (right-shaken-no p q x (at-x (Some Shaking) is x same) h))
      w.right.rests (refl, (refl, w.right.in_turn)) (arrived-is q c (Some Shaking) refl here, (refl, w.known)) w.goes_on

  pub after-finished : is_serving (stage_of d.live c) ≡ true → ConnectionsStand p (finished c d) (Got (Finished c) ∷ q)
  after-finished served =
      let is = serving-is (stage_of d.live c) served in
      let here = at-c (Some Serving) is in
      stands-from p d q (Got (Finished c) ∷ q) c (without c d.live) w refl
      (ended-live d q (Got (Finished c) ∷ q) c w.live_is
      (filter-less _ _ c (arrived_numbers q)
      (λ n. less-finish (has (is_refuse n) q) (has (is_drop n) q) (has (is_finished n) q) (has (is_cut n) q) (c == n) (n == c) (eqb-sym c n))))
      (λ n differ. aside q n (stage_of (without c d.live) n) (Got (Finished c)) differ (ends n differ))
      (subst (λ (x : Option Stage). NumberStands (Got (Finished c) ∷ q) c x) (sym (without-here c d.live)) (finish q c here))
      (λ x differ. right-aside p q x (Got (Finished c)) differ refl)
      (λ x same h. h)
      w.right.rests (refl, w.right.in_turn) (refl, w.known) w.goes_on

-- the answer to the settings
pub stands-set : (p : Plan) (d : ConnectionsData) (q : Record) (c : ℕ) (ok : Bool) → is_setting (stage_of d.live c) ≡ true → ConnectionsStand p d q
    → ConnectionsStand p (gone_on c ok Shaking d) (tell (Got (Set c ok) ∷ q) (set_told c ok))
stands-set p d q c true awaited w = after-set-ok p d q c w awaited
stands-set p d q c false awaited w = after-set-no p d q c w awaited

-- the answer to the handshake
pub stands-shaken : (p : Plan) (d : ConnectionsData) (q : Record) (c : ℕ) (ok : Bool) → is_shaking (stage_of d.live c) ≡ true → ConnectionsStand p d q
    → ConnectionsStand p (gone_on c ok Serving d) (tell (Got (Shaken c ok) ∷ q) (shaken_told c ok))
stands-shaken p d q c true awaited w = after-shaken-ok p d q c w awaited
stands-shaken p d q c false awaited w = after-shaken-no p d q c w awaited

-- the same of what it is after the calls
pub after-set : (p : Plan) (d new : ConnectionsData) (q : Record) (c : ℕ) (ok : Bool) → new ≡ gone_on c ok Shaking d → is_setting (stage_of d.live c) ≡ true
    → ConnectionsStand p d q → ConnectionsStand p new (tell (Got (Set c ok) ∷ q) (set_told c ok))
after-set p d new q c ok after awaited w =
    subst (λ (x : ConnectionsData). ConnectionsStand p x (tell (Got (Set c ok) ∷ q) (set_told c ok))) (sym after) (stands-set p d q c ok awaited w)

pub after-shaken : (p : Plan) (d new : ConnectionsData) (q : Record) (c : ℕ) (ok : Bool) → new ≡ gone_on c ok Serving d → is_shaking (stage_of d.live c) ≡ true
    → ConnectionsStand p d q → ConnectionsStand p new (tell (Got (Shaken c ok) ∷ q) (shaken_told c ok))
after-shaken p d new q c ok after awaited w =
    subst (λ (x : ConnectionsData). ConnectionsStand p x (tell (Got (Shaken c ok) ∷ q) (shaken_told c ok))) (sym after) (stands-shaken p d q c ok awaited w)

pub after-finish : (p : Plan) (d new : ConnectionsData) (q : Record) (c : ℕ) → new ≡ finished c d → is_serving (stage_of d.live c) ≡ true
    → ConnectionsStand p d q → ConnectionsStand p new (Got (Finished c) ∷ q)
after-finish p d new q c after served w =
    subst (λ (x : ConnectionsData). ConnectionsStand p x (Got (Finished c) ∷ q)) (sym after) (after-finished p d q c w served)
