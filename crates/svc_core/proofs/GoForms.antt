-- What the rest of a step keeps, from its parts.
use Rattle.std.proofs.Common.{ℕ, List, [], ◌∷◌, ◌++◌, ◌≡◌, ◌≤◌, ◌+◌, ◌∙◌, refl, ap, subst, arith, length, map, length-append, if◌then◌else◌}
use Rattle.std.specs.Prelude.{Option}
use Rattle.std.proofs.lemmas.List.{length-map}
use Rattle.svc_base.specs.Items.{list_of}
use Rattle.svc_fds.specs.declared.encoding.Message.{Message}
use Rattle.svc_record.specs.declared.action.Action.{Action}
use Rattle.svc_record.specs.declared.action.Action.TheVariants.{Cut, Close, Stop, Phase}
use Rattle.svc_record.specs.declared.action.ExecutionPhase.TheVariants.{Terminated}
use Rattle.svc_record.specs.declared.action.StepEnd.{StepEnd}
use Rattle.svc_record.specs.Record.{Record, tell}
use Rattle.svc_record.specs.Told.{Tells}
use Rattle.svc_connections.specs.ConnectionsData.{ConnectionsData}
use Rattle.svc_connections.specs.ConnectionsState.{numbers}
use Rattle.svc_connections.specs.declared.stage.Connection.{Connection}
use Rattle.svc_drain.specs.DrainEffects.{stop_after, end_told}
use Rattle.svc_endpoints.specs.EndpointsState.{open_numbers}
use Rattle.svc_endpoints.specs.declared.table.Open.{Open}
use Rattle.svc_core.specs.CoreData.{CoreData}
use Rattle.svc_core.specs.Copies.{TellsBare, copy_of}
use Rattle.svc_core.specs.Rooms.{most_open}
use Rattle.svc_core.specs.Stands.{AfterEvent, AfterPass, StepRight}
use Rattle.svc_core.specs.Steps.{Actions, Spends, Goes, Visits, EndsRun, finish_room, go_room}
use Rattle.svc_core.proofs.CopyLemmas.{bare-none, bare-then, bare-first, copied-bare}
use Rattle.svc_core.proofs.RoomLemmas.{few-open}

-- the rest of a step is of the core's value, and its parts are of the fields
pub opened-goes : {old now new : CoreData} {copy : Option Message} {before after : Actions} {end : StepEnd} (IsSo : CoreData → Record → Type 0)
    (most : CoreData → ℕ) → old ≡ now
    → Goes (IsSo old) (most old) old new copy before after end → Goes (IsSo now) (most now) now new copy before after end
opened-goes {new = new} {copy = copy} {before = before} {after = after} {end = end} IsSo most is goes =
    subst (λ (core : CoreData). Goes (IsSo core) (most core) core new copy before after end) is goes

pub opened-visits : {old now new : CoreData} {before after : Actions} → old ≡ now → Visits old new before after → Visits now new before after
opened-visits {new = new} {before = before} {after = after} is visits = subst (λ (core : CoreData). Visits core new before after) is visits

-- a run that ends here
pub stops : {IsSo : Record → Type 0} {most : ℕ} {old new : CoreData} {actions : Actions} {end : StepEnd} (copy : Option Message) → new.plan ≡ old.plan
    → most_open new ≤ most
    → Tells (list_of actions) (list_of actions) (λ told. (q : Record) → IsSo q → StepRight new (tell q told) end)
    → Goes IsSo most old new copy actions actions end
stops {new = new} {actions = actions} copy plan room kept =
    let few = few-open new in
    record {
      plan = plan;
      kept = kept;
      copied = copied-bare (copy_of copy) (list_of actions) (list_of actions) (bare-none (list_of actions));
      spends = record { few = omega (arith, few, room); room = omega (arith, few, room) };
    }

-- a call, and the rest
pub then-goes : {IsSo IsNext : Record → Type 0} {most less : ℕ} {old mid new : CoreData} {copy : Option Message} {before between after : Actions}
    {end : StepEnd} → Goes IsNext less mid new copy between after end
    → mid.plan ≡ old.plan → TellsBare (list_of before) (list_of between) → Spends most less before between
    → Tells (list_of before) (list_of after) (λ told. (q : Record) → IsSo q → StepRight new (tell q told) end)
    → Goes IsSo most old new copy before after end
then-goes {copy = copy} {before = before} {between = between} {after = after} next plan bare spends kept = record {
  plan = next.plan ∙ plan;
  kept = kept;
  copied = bare-first (copy_of copy) (list_of before) (list_of between) (list_of after) bare next.copied;
  spends = record { few = omega (arith, spends.few, next.spends.few); room = omega (arith, spends.room, next.spends.room) };
}

visits-spend : (core : CoreData) {mid new : CoreData} {before between after : Actions} → mid.order ≡ core.order → mid.boot.begun ≡ core.boot.begun
    → most_open mid ≡ most_open core → Spends 1 0 before between → Visits mid new between after
    → Spends (finish_room core) (most_open new + 10) before after
visits-spend core {mid = mid} order begun as_many first visits =
    let same = ap length order in
    let table = ap (λ (table : List Open). length table) visits.table in
    let live = ap (λ (cn : ConnectionsData). length cn.live) visits.connections in
    let begins = ap {B = ℕ} (λ begun. if begun then 0 else 4) begun in
    record {
      few = omega (arith, same, table, live, begins, as_many, first.few, visits.spends.few);
      room = omega (arith, same, table, live, begins, as_many, first.room, visits.spends.room);
    }

-- bootstrapping was completed or not, the services were visited, and the rest
pub visited-goes : {core mid visited new : CoreData} {copy : Option Message} {before given between after : Actions} {end : StepEnd}
    → Goes (AfterPass visited copy) (go_room visited) visited new copy between after end → Visits mid visited given between
    → mid.plan ≡ core.plan → mid.order ≡ core.order → mid.boot.begun ≡ core.boot.begun → most_open mid ≡ most_open core
    → TellsBare (list_of before) (list_of given) → Spends 1 0 before given
    → Tells (list_of before) (list_of after) (λ told. (q : Record) → AfterEvent core copy q → StepRight new (tell q told) end)
    → Goes (AfterEvent core copy) (finish_room core) core new copy before after end
visited-goes {core = core} {before = before} {given = given} {between = between} next visits plan order begun as_many bare spends kept =
    then-goes next (visits.plan ∙ plan) (bare-then (list_of before) (list_of given) (list_of between) bare visits.bare)
    (visits-spend core order begun as_many spends visits) kept

-- the end of a run tells three actions, and closes and cuts what is live
pub ended-few : {mid new : CoreData} {between after : Actions} {end : StepEnd} → EndsRun mid new between after end
    → length (list_of after) ≡ length (list_of between) + (most_open mid + 3)
ended-few {mid = mid} {between = between} ends =
    let told = ap (λ (actions : List Action). length actions) ends.told in
    let all = length-append (list_of between) (end_told mid.plan mid.drain (numbers mid.connections.live) (open_numbers mid.endpoints)) in
    let most = end-length (stop_after mid.plan mid.drain) mid.drain.moment (numbers mid.connections.live) (open_numbers mid.endpoints) in
    let live = length-map mid.connections.live (λ (c : Connection). c.number) in
    let table = length-map mid.endpoints.table (λ (o : Open). o.fd) in
    omega (arith, told, all, most, live, table)
  where
    end-length : (n m : ℕ) (cs fds : List ℕ) → length (map Cut cs ++ (map Close fds ++ Stop n ∷ Phase Terminated m ∷ [])) ≡ length cs + (length fds + 2)
    end-length n m [] [] = refl
    end-length n m [] (fd ∷ fds) = let h = end-length n m [] fds in omega (arith, h)
    end-length n m (c ∷ cs) fds = let h = end-length n m cs fds in omega (arith, h)
