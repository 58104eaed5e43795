-- The closes of all, as they are told to a host.
use Rattle.std.proofs.Common.{ℕ, ◌≡◌, ◌≤◌, List, [], ◌∷◌, ◌++◌, map, Option, Some, ap, subst, sym, ◌∙◌, arith}
use Rattle.svc_record.specs.declared.plan.Plan.{Plan}
use Rattle.svc_record.specs.declared.event.Event.{Event}
use Rattle.svc_record.specs.declared.entry.Entry.TheVariants.{Told}
use Rattle.svc_record.specs.declared.action.Action.{Action}
use Rattle.svc_record.specs.declared.action.Action.TheVariants.{Cut, Close}
use Rattle.svc_record.specs.Record.{Record, tell}
use Rattle.svc_record.specs.Connections.{live_connections}
use Rattle.svc_record.specs.Drain.{live_numbers}
use Rattle.svc_base.specs.NumberSets.{ascending}
use Rattle.svc_record.specs.Tail.{with_event, new_numbers, closing_actions}
use Rattle.svc_core.specs.CoreData.{CoreData}
use Rattle.svc_core.specs.Rooms.{close_need, close_room}
use Rattle.svc_core.specs.Stands.{Represents, ClosesAll}
use Rattle.svc_server.specs.Hosts.{Account, BringsFew}
use Rattle.svc_server.specs.Handing.{Hands, DueStarts, MayHandAll}
use Rattle.svc_server.specs.Turns.{CanClose, ClosesTo}

due-closes : (p : Plan) (q : Record) (ns : List ℕ) → DueStarts p q (map Close ns)
due-closes p q [] = tt
due-closes p q (n ∷ ns) = (tt, due-closes p (Told (Close n) ∷ q) ns)

due-closes-then : (p : Plan) (q : Record) (ns : List ℕ) (more : List Action) → ((t : Record) → DueStarts p t more) → DueStarts p q (map Close ns ++ more)
due-closes-then p q [] more due = due q
due-closes-then p q (n ∷ ns) more due = (tt, due-closes-then p (Told (Close n) ∷ q) ns more due)

due-cuts-then : (p : Plan) (q : Record) (cs : List ℕ) (more : List Action) → ((t : Record) → DueStarts p t more) → DueStarts p q (map Cut cs ++ more)
due-cuts-then p q [] more due = due q
due-cuts-then p q (c ∷ cs) more due = (tt, due-cuts-then p (Told (Cut c) ∷ q) cs more due)

-- no service is started by them
due-closing : (p : Plan) (q from : Record) (also : Option Event) → DueStarts p from (closing_actions p q also)
due-closing p q from also =
    due-cuts-then p from (ascending (live_connections q)) (map Close (ascending (live_numbers p q)) ++ map Close (new_numbers q also))
    (λ t. due-closes-then p t (ascending (live_numbers p q)) (map Close (new_numbers q also)) (λ u. due-closes p u (new_numbers q also)))

-- there is room for them, with an event that brings few descriptors
pub need-room : (core : CoreData) (e : Event) → BringsFew e → close_need core (Some e) ≤ close_room core
need-room core e few = omega arith

closing-told : (p : Plan) (q : Record) (also : Option Event) (before after : List Action) → ClosesAll p q also before after → before ≡ []
    → after ≡ closing_actions p q also
closing-told p q also before after h empty = h.told.appended ∙ ap (λ xs. xs ++ h.told.told) empty ∙ h.told.kept

-- they may be told
pub may-close : (core : CoreData) (left : List (Option (List ℕ))) (account : Option Account) (also : Option Event) (before after : List Action)
    → ((q : Record) → Represents core q → ClosesAll core.plan q also before after) → before ≡ [] → CanClose core left account also
    → MayHandAll left account after
may-close core left account also before after closes empty can =
    let q = can.0 in (
      core.plan,
      (
        with_event also q,
        (
          can.1.1,
          subst (DueStarts core.plan (with_event also q)) (sym (closing-told core.plan q also before after (closes q can.1.0) empty))
              (due-closing core.plan q (with_event also q) also),
        ),
      ),
    )

-- and then all is closed
pub closed : (core : CoreData) (left now_left : List (Option (List ℕ))) (account now_account : Option Account) (also : Option Event)
    (before after : List Action)
    → ((q : Record) → Represents core q → ClosesAll core.plan q also before after) → before ≡ []
    → ((p : Plan) (t : Record) → Hands left account p t → DueStarts p t after → Hands now_left now_account p (tell t after))
    → ClosesTo core left now_left account now_account also
closed core left now_left account now_account also before after closes empty step = λ q stands hands.
    let p = core.plan in
    let all : after ≡ closing_actions p q also = closing-told p q also before after (closes q stands) empty in
    subst (λ xs. Hands now_left now_account p (tell (with_event also q) xs)) all
    (step p (with_event also q) hands (subst (DueStarts p (with_event also q)) (sym all) (due-closing p q (with_event also q) also)))
