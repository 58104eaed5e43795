-- What is nothing of connections, and doesn't end the run, changes nothing of them.
use Rattle.std.proofs.Common.{Bool, true, false, not, List, [], ◌∷◌, ◌≡◌, refl, ◌∙◌}
use Rattle.std.specs.List.{list_all}
use Rattle.std.proofs.lemmas.Bool.{and_parts, and_from}
use Rattle.svc_record.specs.declared.plan.Plan.{Plan}
use Rattle.svc_record.specs.declared.entry.Entry.TheVariants.{Got, Told}
use Rattle.svc_record.specs.declared.action.Action.{Action}
use Rattle.svc_record.specs.declared.action.Action.TheVariants.{Judged, Refuse, Settings as TellSettings, Handshake, Serve, Drop, Cut, Rest, Phase}
use Rattle.svc_record.specs.declared.action.ExecutionPhase.TheVariants.{ShutdownRuntimes}
use Rattle.svc_record.specs.declared.event.Event.{Event}
use Rattle.svc_record.specs.declared.event.Event.TheVariants.{Arrived, AcceptFailed, Set, Shaken, Finished}
use Rattle.svc_record.specs.Record.{Record, tell}
use Rattle.svc_record.specs.Connections.{Arrival, arrivals, connection_right}
use Rattle.svc_connections.specs.ConnectionsData.{ConnectionsData}
use Rattle.svc_connections.specs.ConnectionsState.{ConnectionsStand, stage_of}
use Rattle.svc_connections.specs.ConnectionsFacts.{is_connection_event, touches_connections, has_no_connection_action}
use Rattle.svc_connections.proofs.Aside.{aside, right-aside}
use Rattle.svc_base.proofs.Logic.{apart_from as not_true}

pub all-grows : (f g : Arrival → Bool) (xs : List Arrival) → ((x : Arrival) → f x ≡ true → g x ≡ true) → list_all f xs ≡ true → list_all g xs ≡ true
all-grows f g [] grow h = refl
all-grows f g (x ∷ xs) grow h = let both = and_parts (f x) (list_all f xs) h in and_from (g x) (list_all g xs) (grow x both.0) (all-grows f g xs grow both.1)

-- an action that is none of connections and doesn't end the run
pub stands-told : (p : Plan) (d : ConnectionsData) (q : Record) (a : Action) → touches_connections a ≡ false → ConnectionsStand p d q
    → ConnectionsStand p d (Told a ∷ q)
stands-told p d q (Judged c said) other w = cc
stands-told p d q (Refuse c) other w = cc
stands-told p d q (TellSettings c list) other w = cc
stands-told p d q (Handshake c) other w = cc
stands-told p d q (Serve c) other w = cc
stands-told p d q (Drop c) other w = cc
stands-told p d q (Cut c) other w = cc
stands-told p d q (Rest s i) other w = cc
stands-told p d q (Phase ShutdownRuntimes ms) other w = cc
stands-told p d q a other w = record {
  came_is = w.came_is;
  came_once = w.came_once;
  live_is = w.live_is;
  stages_are = λ c. aside q c (stage_of d.live c) (Told a) refl (w.stages_are c);
  right = record {
    each = all-grows (connection_right p q) (connection_right p (Told a ∷ q)) (arrivals q) (λ x h. right-aside p q x (Told a) refl refl ∙ h) w.right.each;
    rests = w.right.rests;
    in_turn = (refl, w.right.in_turn);
  };
  known = (refl, w.known);
  goes_on = w.goes_on;
}

-- an event that is none of connections
pub stands-got : (p : Plan) (d : ConnectionsData) (q : Record) (e : Event) → is_connection_event e ≡ false → ConnectionsStand p d q
    → ConnectionsStand p d (Got e ∷ q)
stands-got p d q (Arrived s i c peer) other w = cc
stands-got p d q (AcceptFailed s i n) other w = cc
stands-got p d q (Set c ok) other w = cc
stands-got p d q (Shaken c ok) other w = cc
stands-got p d q (Finished c) other w = cc
stands-got p d q e other w = record {
  came_is = w.came_is;
  came_once = w.came_once;
  live_is = w.live_is;
  stages_are = λ c. aside q c (stage_of d.live c) (Got e) refl (w.stages_are c);
  right = record {
    each = all-grows (connection_right p q) (connection_right p (Got e ∷ q)) (arrivals q) (λ x h. right-aside p q x (Got e) refl refl ∙ h) w.right.each;
    rests = w.right.rests;
    in_turn = (refl, w.right.in_turn);
  };
  known = (refl, w.known);
  goes_on = w.goes_on;
}

-- a told list in which nothing is of connections or ends the run
pub stands-tell : (p : Plan) (d : ConnectionsData) (q : Record) (told : List Action) → has_no_connection_action told ≡ true → ConnectionsStand p d q
    → ConnectionsStand p d (tell q told)
stands-tell p d q [] other w = w
stands-tell p d q (a ∷ told) other w =
    let both = and_parts (not (touches_connections a)) (has_no_connection_action told) other in
    stands-tell p d (Told a ∷ q) told both.1 (stands-told p d q a (not_true (touches_connections a) both.0) w)
