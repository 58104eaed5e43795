use Rattle.std.proofs.Common.{◌∷◌, ℕ, List, Option, length, refl, ap, sym, subst}
use Rattle.std.specs.Prelude.{IfSome}
use Rattle.svc_base.specs.Items.{list_of}
use Rattle.svc_record.specs.declared.event.Event.{Event}
use Rattle.svc_record.specs.declared.entry.Entry.TheVariants.{Got}
use Rattle.svc_record.specs.Record.{Record}
use Rattle.svc_record.specs.Right.{Right}
use Rattle.svc_streams.specs.Verdicts.{verdict_at}
use Rattle.svc_core.specs.Stands.{Represents, MayCome}
use Rattle.svc_server.specs.Judges.{peer_at, Asks}
use Rattle.svc_server.specs.Handing.{names_left, Hands}
use Rattle.svc_server.specs.Turns.{CanTake, Leaves}
use Rattle.svc_server.proofs.HandLemmas.{hands-same}
use Rattle.svc_server.proofs.SaidLemmas.{asks-known}
use Rattle.svc_server.proofs.StepLemmas.{may-step, step-leaves}
use Rattle.svc_server.proofs.turns.Run.take.Goals as goal

pub ask_filter-said-requires : goal.ask_filter-said-requires
ask_filter-said-requires g c =
    record {
      known = asks-known c.args.self.now.core.plan (length c.args.self.now.filters) c.event-event.result.now c.asks.result c.requires.known c.asks.ensures;
    }

pub step-requires : goal.step-requires
step-requires g c = record { fits = subst (λ (o : Option Event). IfSome o (MayCome c.args.self.now.core)) c.event-event.ensures c.requires.fits }

pub tell_all-requires-clause-may : goal.tell_all-requires-clause-may
tell_all-requires-clause-may g c =
    let named = g.B.ServiceWithDependents.named in
    let left = names_left named c.note_event.new.self in
    let same = ap (names_left named) c.note_event.ensures in
    let can : CanTake c.args.self.now.core left (g.H.Host.account c.args.host.now) (g.H.Host.last c.args.host.now) =
    subst (λ (left : List (Option (List _))). CanTake c.args.self.now.core left (g.H.Host.account c.args.host.now) (g.H.Host.last c.args.host.now))
    (sym same) c.requires.can in
    may-step c.args.self.now.core c.step.new.self left (g.H.Host.account c.args.host.now) c.event-event.result.now (list_of c.empty.new.actions)
    (list_of c.step.new.actions) (list_of c.step.new.actions)
    c.in_ok-end.end c.in_ok-end.ensures.kept c.empty.ensures refl c.in_ok-end.ensures.plan
    (subst (λ (o : Option Event). CanTake c.args.self.now.core left (g.H.Host.account c.args.host.now) o) c.event-event.ensures can)

pub returns-clause-leaves : goal.returns-clause-leaves
returns-clause-leaves g c =
    let named = g.B.ServiceWithDependents.named in
    let account = g.H.Host.account c.args.host.now in
    let core = c.args.self.now.core in
    let left = names_left named c.args.self.now.pending in
    let same = ap (names_left named) c.note_event.ensures in
    let answers = verdict_at g.F.ConnectionFilter.verdict c.args.self.now.filters in
    let now = verdict_at g.F.ConnectionFilter.verdict c.ask_filter-said.new.filters in
    let asks = subst
    (λ (number : Option ℕ). Asks answers now number (peer_at c.event-event.result.now) c.ask_filter-said.result) c.asks.ensures
    c.ask_filter-said.ensures.asks in
    subst (λ (o : Option Event). IfSome o (λ e. (q : Record) → Represents core q → Right core.plan q → Hands left account core.plan (Got e ∷ q)
    → Leaves answers now c.step.new.self (names_left named c.tell_all.new.pending) (g.H.Host.account c.tell_all.new.host) c.in_ok-end.end (Got e ∷ q)))
    (sym c.event-event.ensures)
    (λ q stands right hands. step-leaves answers now c.ask_filter-said.result core c.step.new.self (names_left named c.note_event.new.self)
    (names_left named c.tell_all.new.pending) account (g.H.Host.account c.tell_all.new.host)
    c.event-event.result.now (list_of c.empty.new.actions) (list_of c.step.new.actions)
    (list_of c.step.new.actions) c.in_ok-end.end c.in_ok-end.ensures.kept c.in_ok-end.ensures.judged asks
    c.empty.ensures refl c.in_ok-end.ensures.plan c.tell_all.ensures.hands q stands right
    (hands-same left (names_left named c.note_event.new.self) account account core.plan (Got c.event-event.result.now ∷ q) same refl hands))
