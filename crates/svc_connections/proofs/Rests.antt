-- What the part stands for after accepting failed, and what its tests say of the record.
use Rattle.std.proofs.Common.{ℕ, Bool, true, false, not, ◌==◌, ◌&&◌, ◌+◌, [], ◌∷◌, ◌≡◌, refl, ap, sym, ◌∙◌, arith, if◌then◌else◌}
use Rattle.std.proofs.lemmas.Bool.{eqb-true, eq-eqb, and_from}
use Rattle.svc_record.specs.declared.plan.Plan.{Plan}
use Rattle.svc_record.specs.declared.entry.Entry.TheVariants.{Got, Told}
use Rattle.svc_record.specs.declared.action.Action.TheVariants.{Rest}
use Rattle.svc_record.specs.declared.event.Event.TheVariants.{AcceptFailed}
use Rattle.svc_record.specs.Record.{Record, has, times, tell}
use Rattle.svc_record.specs.Plans.{is_endpoint}
use Rattle.svc_record.specs.Connections.{arrivals, arrived_numbers, is_arrival, is_serve, is_cut, goes_on, is_live_connection, connection_right, is_rest, is_full}
use Rattle.svc_record.proofs.Closing.{arrival-in}
use Rattle.svc_record.proofs.Tallies.{is_in-filter}
use Rattle.svc_connections.specs.ConnectionsData.{ConnectionsData}
use Rattle.svc_connections.specs.ConnectionsState.{ConnectionsStand, is_serving, stage_of}
use Rattle.svc_connections.specs.ConnectionsEffects.{rest_told}
use Rattle.svc_connections.proofs.Aside.{aside}
use Rattle.svc_connections.proofs.Foreign.{all-grows}
use Rattle.svc_connections.proofs.Unheard.{unheard, untold}

one-more : (full : Bool) (a b : ℕ) → full ≡ true → (a == b) ≡ true → ((a + 1) == (if full then b + 1 else b)) ≡ true
one-more full a b f h = rw f (eq-eqb (a + 1) (b + 1) (ap (λ (k : ℕ). k + 1) (eqb-true a b h)))

no-more : (full : Bool) (a b : ℕ) → full ≡ false → (a == b) ≡ true → (a == (if full then b + 1 else b)) ≡ true
no-more full a b f h = rw f h

module _ (p : Plan) (d : ConnectionsData) (q : Record) (s i n : ℕ) (inside : is_endpoint p s i ≡ true) (w : ConnectionsStand p d q) where
  abbrev failed : Record
  failed = Got (AcceptFailed s i n) ∷ q

  rested-by : (full : Bool) → (n == 24) ≡ full → ConnectionsStand p d (tell failed (if full then Rest s i ∷ [] else []))
  rested-by true is = record {
    came_is = w.came_is;
    came_once = w.came_once;
    live_is = w.live_is;
    stages_are =
        λ c. aside failed c (stage_of d.live c) (Told (Rest s i)) refl (aside q c (stage_of d.live c) (Got (AcceptFailed s i n)) refl (w.stages_are c));
    right = record {
      each = all-grows (connection_right p q) (connection_right p (Told (Rest s i) ∷ failed)) (arrivals q) (λ x h. h) w.right.each;
      rests = one-more (n == 24) (times is_rest q) (times is_full q) is w.right.rests;
      in_turn = (and_from (s == s && i == i) (n == 24) (and_from (s == s) (i == i) (eq-eqb s s refl) (eq-eqb i i refl)) is, (refl, w.right.in_turn));
    };
    known = (inside, (refl, w.known));
    goes_on = w.goes_on;
  }
  rested-by false is = record {
    came_is = w.came_is;
    came_once = w.came_once;
    live_is = w.live_is;
    stages_are = λ c. aside q c (stage_of d.live c) (Got (AcceptFailed s i n)) refl (w.stages_are c);
    right = record {
      each = all-grows (connection_right p q) (connection_right p failed) (arrivals q) (λ x h. h) w.right.each;
      rests = no-more (n == 24) (times is_rest q) (times is_full q) is w.right.rests;
      in_turn = (refl, w.right.in_turn);
    };
    known = (refl, w.known);
    goes_on = w.goes_on;
  }

-- accepting failed at an endpoint of the plan
pub stands-failed : (p : Plan) (d : ConnectionsData) (q : Record) (s i n : ℕ) → is_endpoint p s i ≡ true → ConnectionsStand p d q
    → ConnectionsStand p d (tell (Got (AcceptFailed s i n) ∷ q) (rest_told s i n))
stands-failed p d q s i n inside w = rested-by p d q s i n inside w (n == 24) refl

-- a live connection arrived, and goes on
pub live-in : (p : Plan) (d : ConnectionsData) (q : Record) (c : ℕ) → ConnectionsStand p d q → is_live_connection q c ≡ (goes_on q c && has (is_arrival c) q)
live-in p d q c w = let at = w.stages_are c in
    is_in-filter c (λ n. goes_on q n && not (has (is_cut n) q)) (arrived_numbers q)
    ∙ ap (λ b. (goes_on q c && not (has (is_cut c) q)) && b) (sym (arrival-in c q))
    ∙ whole (goes_on q c) (has (is_cut c) q) (has (is_arrival c) q) at.uncut
  where
    whole : (g u a : Bool) → u ≡ false → ((g && not u) && a) ≡ (g && a)
    whole g u a h = grind arith

-- the application is done with what was served and is live: it has just that
pub finished-row : (p : Plan) (d : ConnectionsData) (q : Record) (c : ℕ) → ConnectionsStand p d q
    → (has (is_serve c) q && is_live_connection q c) ≡ is_serving (stage_of d.live c)
finished-row p d q c w = let at = w.stages_are c in
    ap (λ b. has (is_serve c) q && b) (live-in p d q c w)
    ∙ sym (served (has (is_arrival c) q) (λ none. let silent = unheard q c (untold p q c w.known none) in silent.no_serve))
    ∙ at.serving_is
  where
    served-by : (v g a : Bool) → (a ≡ false → v ≡ false) → (v && g) ≡ (v && (g && a))
    served-by v g true h = grind arith
    served-by v g false h = let k = h refl in grind arith

    served : (a : Bool) → (a ≡ false → has (is_serve c) q ≡ false) → (has (is_serve c) q && goes_on q c) ≡ (has (is_serve c) q && (goes_on q c && a))
    served a h = served-by (has (is_serve c) q) (goes_on q c) a h
