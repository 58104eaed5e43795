-- What an event's step keeps, from what the event leaves and what follows it.
use Rattle.std.proofs.Common.{Bool, true, false, List, [], ◌∷◌, ◌++◌, ◌≡◌, ◌≤◌, ◌+◌, refl, ap, sym, ◌∙◌, subst, arith, length, append-nil, if◌then◌else◌}
use Rattle.std.specs.Prelude.{Option, None, Result, Ok, Err, IfOk, OnOk, is_some}
use Rattle.std.specs.List.{list_all}
use Rattle.svc_base.specs.declared.memory.NoMemory.{NoMemory}
use Rattle.svc_base.specs.Items.{list_of, spare}
use Rattle.svc_fds.specs.declared.encoding.Message.{Message}
use Rattle.svc_record.specs.declared.entry.Entry.TheVariants.{Got}
use Rattle.svc_record.specs.declared.action.StepEnd.{StepEnd}
use Rattle.svc_record.specs.declared.action.Action.{Action}
use Rattle.svc_record.specs.declared.event.Event.{Event}
use Rattle.svc_record.specs.declared.event.Event.TheVariants.{Arrived, Signal, Side}
use Rattle.svc_record.specs.declared.event.ShutdownSignal.{ShutdownSignal}
use Rattle.svc_record.specs.declared.event.Side.TheVariants.{Child}
use Rattle.svc_record.specs.Fits.{fits}
use Rattle.svc_record.specs.Judging.{TellsJudged, judged_at}
use Rattle.svc_record.specs.Record.{Record, tell}
use Rattle.svc_record.specs.Right.{Right}
use Rattle.svc_record.specs.Told.{Tells, IsGivingUp}
use Rattle.svc_record.specs.Validity.{IsInOrder}
use Rattle.svc_boot.specs.BootData.{BootData}
use Rattle.svc_boot.specs.BootEffects.{end_of}
use Rattle.svc_drain.specs.DrainEffects.{cuts}
use Rattle.svc_connections.specs.ConnectionsData.{ConnectionsData}
use Rattle.svc_connections.specs.ConnectionsState.{ConnectionsStand}
use Rattle.svc_connections.specs.ConnectionsFacts.{is_connection_event}
use Rattle.svc_core.specs.CoreData.{CoreData, is_on, with_end}
use Rattle.svc_core.specs.Copies.{TellsBare, TellsCopied, are_copied, copy_of, message_at, copy_at}
use Rattle.svc_core.specs.Passes.{begin_room}
use Rattle.svc_core.specs.Rooms.{TellsWithin, KeepsRoom, tell_room, close_room, open_count, most_open}
use Rattle.svc_core.specs.Signals.{IgnoresLater}
use Rattle.svc_core.specs.Stands.{Represents, AfterEvent, MayBootstrap, BeginKeeps, StepKeeps}
use Rattle.svc_core.specs.Steps.{Actions, Spends, MayStep, Steps, StepsOr, Takes, Ignores, Judges, Goes, Begins, finish_room, bootstrap_room}
use Rattle.svc_core.proofs.StepLemmas.{step-by}
use Rattle.svc_core.proofs.ConnectionLemmas.{is_dealing, deals-with, with_connections}
use Rattle.svc_core.proofs.CopyLemmas.{bare-answer, bare-all, bare-none, copied-bare}
use Rattle.svc_core.proofs.JudgedLemmas.{unjudged-copied}
use Rattle.svc_core.proofs.FinishLemmas.{with_boot}
use Rattle.svc_core.proofs.HeldLemmas.{Held, held-keeps, child-keeps}
use Rattle.svc_core.proofs.SignalLemmas.{later-keeps}
use Rattle.svc_core.proofs.RoomLemmas.{dealt-room, few-open}

-- a step is of the core's value, and its parts are of the fields
pub opened : {old now new : CoreData} {e : Event} {before after : Actions} {end : StepEnd} → old ≡ now → MayStep now e before
    → (MayStep old e before → Steps old new e before after end) → Steps now new e before after end
opened {new = new} {e = e} {before = before} {after = after} {end = end} is may step =
    subst (λ (core : CoreData). Steps core new e before after end) is (step (subst (λ (core : CoreData). MayStep core e before) (sym is) may))

pub opened-same : {old now : CoreData} {e : Event} {before after : Actions} {end : StepEnd} → old ≡ now → MayStep now e before
    → (MayStep old e before → Steps old old e before after end) → Steps now now e before after end
opened-same {e = e} {before = before} {after = after} {end = end} is may step =
    subst (λ (core : CoreData). Steps core core e before after end) is (step (subst (λ (core : CoreData). MayStep core e before) (sym is) may))

pub begin-few : (b : BootData) → begin_room b ≤ 4
begin-few b = by b.begun
  where
    by : (begun : Bool) → (if begun then 0 else 4) ≤ 4
    by true = omega arith
    by false = omega arith

-- what the event tells and what follows are within the room of a step
within : (core mid new : CoreData) (before between after : Actions) → mid.order ≡ core.order → Spends (most_open core + 33) (most_open mid) before between
    → Spends (finish_room mid) (open_count new) between after
    → Spends (tell_room core) (close_room new) before after
within core mid new before between after order first next =
    let begins = begin-few mid.boot in
    let same = ap length order in
    record { few = omega (arith, begins, same); room = omega (arith, begins, same) }

-- an event, and what follows
after-event : {core mid new : CoreData} {e : Event} {copy : Option Message} {before between after : Actions} {end : StepEnd}
    → Goes (AfterEvent mid copy) (finish_room mid) mid new copy between after end
    → mid.plan ≡ core.plan → mid.order ≡ core.order → Spends (most_open core + 33) (most_open mid) before between
    → TellsCopied (copy_at core e) (list_of before) (list_of after)
    → Tells (list_of before) (list_of between) (λ gave. (q : Record) → Right core.plan q → Represents core q → AfterEvent mid copy (tell (Got e ∷ q) gave))
    → Steps core new e before after end
after-event {core = core} {mid = mid} {new = new} {e = e} {copy = copy} {before = before} {between = between} {after = after} {end = end} next plan order spends
    copied struck = record {
      plan = next.plan ∙ plan;
      kept = step-by core mid new e copy (list_of before) (list_of between) (list_of after) end struck next.kept;
      copied = copied;
      spends = within core mid new before between after order spends next.spends;
    }

-- an event by which services are given up
pub gives-up : {core mid new : CoreData} {e : Event} {before between after : Actions} {end : StepEnd}
    → Goes (AfterEvent mid None) (finish_room mid) mid new None between after end
    → mid.plan ≡ core.plan → mid.order ≡ core.order → Spends (most_open core + 33) (most_open mid) before between
    → Tells (list_of before) (list_of between)
    (λ gave. IsGivingUp gave × ((q : Record) → Right core.plan q → Represents core q → AfterEvent mid None (tell (Got e ∷ q) gave)))
    → Steps core new e before after end
gives-up {core = core} {e = e} {before = before} {between = between} {after = after} next plan order spends struck =
    after-event next plan order spends
    (copied-bare (copy_at core e) (list_of before) (list_of after)
    (bare-answer (list_of before) (list_of between) (list_of after) struck.told struck.appended struck.kept.0
    (bare-all (list_of between) (list_of after) next.copied)))
    (record { told = struck.told; appended = struck.appended; kept = struck.kept.1 })

-- an event that tells nothing
silent-event : {core mid new : CoreData} {e : Event} {copy : Option Message} {before after : Actions} {end : StepEnd}
    → Goes (AfterEvent mid copy) (finish_room mid) mid new copy before after end
    → mid.plan ≡ core.plan → mid.order ≡ core.order → most_open mid ≤ most_open core + 33 → TellsCopied (copy_at core e) (list_of before) (list_of after)
    → ((q : Record) → Right core.plan q → Represents core q → AfterEvent mid copy (Got e ∷ q)) → Steps core new e before after end
silent-event {before = before} next plan order fits_in copied struck =
    after-event next plan order (record { few = omega (arith, fits_in); room = omega (arith, fits_in) }) copied
    (record { told = []; appended = sym (append-nil (list_of before)); kept = struck })

pub silently-taken : {core mid new : CoreData} {e : Event} {before after : Actions} {end : StepEnd}
    → Goes (AfterEvent mid None) (finish_room mid) mid new None before after end
    → mid.plan ≡ core.plan → mid.order ≡ core.order → most_open mid ≤ most_open core + 33
    → ((q : Record) → Right core.plan q → Represents core q → AfterEvent mid None (Got e ∷ q)) → Steps core new e before after end
silently-taken {core = core} {e = e} {before = before} {after = after} next plan order fits_in struck =
    silent-event next plan order fits_in
    (copied-bare (copy_at core e) (list_of before) (list_of after) (bare-all (list_of before) (list_of after) next.copied)) struck

-- one by which the copy may be sent
pub copy-taken : {core mid new : CoreData} {e : Event} {copy : Option Message} {before after : Actions} {end : StepEnd}
    → Goes (AfterEvent mid copy) (finish_room mid) mid new copy before after end
    → mid.plan ≡ core.plan → mid.order ≡ core.order → most_open mid ≤ most_open core + 33 → copy_of copy ≡ copy_at core e
    → ((q : Record) → Right core.plan q → Represents core q → AfterEvent mid copy (Got e ∷ q)) → Steps core new e before after end
copy-taken {before = before} {after = after} next plan order fits_in copies struck =
    silent-event next plan order fits_in (subst (λ copy. TellsCopied copy (list_of before) (list_of after)) copies next.copied) struck

-- an event of a connection
pub dealt : {core : CoreData} {e : Event} {before after : Actions} (cn : ConnectionsData) (told : List Action) → is_on core.end ≡ true
    → is_connection_event e ≡ true → list_all is_dealing told ≡ true
    → are_copied (copy_at core e) told ≡ true → list_of after ≡ list_of before ++ told → length cn.live ≤ length core.connections.live + 1
    → Spends 2 0 before after
    → ((q : Record) → Represents core q → fits core.plan q e ≡ true)
    → ((q : Record) → ConnectionsStand core.plan core.connections q → ConnectionsStand core.plan cn (tell (Got e ∷ q) told))
    → Steps core (with_connections cn core) e before after core.end
dealt {core = core} {e = e} {before = before} {after = after} cn told on event deals copied appended few spends fit takes =
    let room = dealt-room core cn few in
    record {
      plan = refl;
      kept = deals-with core cn e (list_of before) (list_of after) told on event deals appended fit takes;
      copied = record { told = told; appended = appended; kept = copied };
      spends = record { few = omega (arith, room); room = omega (arith, room) };
    }

-- an event while the fork is awaited, or to a parent
pub held : {core mid new : CoreData} {e : Event} {before : Actions} {end : StepEnd} → new ≡ with_end (end_of mid.plan mid.boot) mid → end ≡ new.end
    → mid.plan ≡ core.plan → mid.order ≡ core.order → most_open mid ≡ most_open core → IsInOrder mid.plan mid.order
    → ((q : Record) → Right core.plan q → Represents core q → Held mid (Got e ∷ q))
    → Steps core new e before before end
held {core = core} {mid = mid} {new = new} {e = e} {before = before} {end = end} after ends plan order as_many in_order stays =
    let few = few-open (with_end (end_of mid.plan mid.boot) mid) in
    rw (ends, after)
    (record {
      plan = plan;
      kept = held-keeps core mid e (list_of before) in_order stays;
      copied = copied-bare (copy_at core e) (list_of before) (list_of before) (bare-none (list_of before));
      spends = record { few = omega (arith, few, as_many); room = omega (arith, few, as_many) };
    })

-- the process is the child, and begins its run
pub child-begins : {core mid new : CoreData} {before after : Actions} {end : StepEnd}
    → Goes (MayBootstrap mid) (bootstrap_room mid) mid new None before after end
    → mid.plan ≡ core.plan → mid.order ≡ core.order → most_open mid ≡ most_open core
    → ((q : Record) → Right core.plan q → Represents core q → MayBootstrap mid (Got (Side Child) ∷ q))
    → Steps core new (Side Child) before after end
child-begins {core = core} {mid = mid} {new = new} {before = before} {after = after} {end = end} next plan order as_many may =
    let same = ap length order in
    record {
      plan = next.plan ∙ plan;
      kept = child-keeps core mid new (list_of before) (list_of after) end may next.kept;
      copied = copied-bare (copy_at core (Side Child)) (list_of before) (list_of after) (bare-all (list_of before) (list_of after) next.copied);
      spends = record { few = omega (arith, same, as_many); room = omega (arith, same, as_many) };
    }

-- a daemon has asked for its fork
pub forks : {core new : CoreData} {before after : Actions} {end : StepEnd} (b : BootData) → new ≡ with_end (end_of core.plan b) (with_boot b core)
    → end ≡ new.end
    → BeginKeeps (with_end (end_of core.plan b) (with_boot b core)) (list_of before) (list_of after) (end_of core.plan b)
    → TellsBare (list_of before) (list_of after) → Spends 1 0 before after → Begins core new before after end
forks {core = core} {new = new} {end = end} b after ends begins bare spends =
    let few = few-open (with_end (end_of core.plan b) (with_boot b core)) in
    rw (ends, after)
    (record { plan = refl; kept = begins; bare = bare; spends = record { few = omega (arith, few, spends.few); room = omega (arith, few, spends.room) } })

-- a signal after the first that is no cut
pub later-taken : {core : CoreData} {actions : Actions} (kind : ShutdownSignal) → is_on core.end ≡ true → core.drain.running ≡ true
    → is_some core.drain.signal ≡ true → cuts core.drain.signal kind ≡ false → Steps core core (Signal kind) actions actions core.end
later-taken {core = core} {actions = actions} kind on runs came calm =
    let few = few-open core in
    record {
      plan = refl;
      kept = later-keeps core kind on runs came calm (list_of actions);
      copied = copied-bare (copy_at core (Signal kind)) (list_of actions) (list_of actions) (bare-none (list_of actions));
      spends = record { few = omega (arith, few); room = omega (arith, few) };
    }

-- only a connection that arrived is judged
pub judged-so : (core : CoreData) (e : Event) (said : Bool) (before after : Actions) → TellsCopied (copy_at core e) (list_of before) (list_of after)
    → Judges core e said before after → TellsJudged (judged_at core.plan e said) (list_of before) (list_of after)
judged-so core (Arrived s i c peer) said before after copied judges = judges
judged-so core e said before after copied judges = unjudged-copied (message_at core e) (list_of before) (list_of after) copied

pub judged-of : (core new : CoreData) (e : Event) (said : Bool) (before after : Actions) (result : Result StepEnd NoMemory)
    → StepsOr core new e before after result → OnOk result (Judges core e said before after)
    → OnOk result (TellsJudged (judged_at core.plan e said) (list_of before) (list_of after))
judged-of core new e said before after (Ok end) steps judges = judged-so core e said before after steps.copied judges
judged-of core new e said before after (Err none) steps judges = tt

-- neither a signal nor a connection that arrived
abbrev pub is_plain : Event → Bool
is_plain (Arrived s i c peer) = false
is_plain (Signal kind) = false
is_plain _ = true

-- of such an event its step is all
pub taken : {old new : CoreData} {said : Bool} {before after : Actions} {result : Result StepEnd NoMemory} (e : Event) → is_plain e ≡ true
    → StepsOr old new e before after result → Takes old new e said before after result
taken {old = old} {new = new} {said = said} {before = before} {after = after} {result = result} e plain steps =
    record { steps = steps; later = later e plain; judged = judged result e plain }
  where
    later : (x : Event) → is_plain x ≡ true → Ignores old new x before after
    later (Signal kind) h = absurd (cc)
    later _ h = tt

    judged : (r : Result StepEnd NoMemory) (x : Event) → is_plain x ≡ true → OnOk r (Judges old x said before after)
    judged (Ok end) (Arrived s i c peer) h = absurd (cc)
    judged (Ok end) _ h = tt
    judged (Err none) x h = tt

-- what a step says of the list that it was handed, which was given room first
pub kept-of : (core new : CoreData) (e : Event) (before given after : Actions) (result : Result StepEnd NoMemory) → list_of given ≡ list_of before
    → StepsOr core new e given after result
    → IfOk result (λ end. StepKeeps core new e (list_of before) (list_of after) end)
kept-of core new e before given after (Ok end) same steps = subst (λ (list : List Action). StepKeeps core new e list (list_of after) end) same steps.kept
kept-of core new e before given after (Err none) same steps = tt

pub few-of : (core new : CoreData) (e : Event) (before given after : Actions) (result : Result StepEnd NoMemory) → list_of given ≡ list_of before
    → StepsOr core new e given after result
    → OnOk result (TellsWithin core new before after)
few-of core new e before given after (Ok end) same steps = let few = steps.spends.few in let as_long = ap length same in omega (arith, few, as_long)
few-of core new e before given after (Err none) same steps = tt

pub room-of : (core new : CoreData) (e : Event) (before given after : Actions) (result : Result StepEnd NoMemory) → tell_room core ≤ spare given
    → StepsOr core new e given after result → KeepsRoom core new before after
room-of core new e before given after (Ok end) enough steps = λ _. (let room = steps.spends.room in omega (arith, room, enough))
room-of core new e before given after (Err none) enough steps = λ _. (
    let few = few-open core in
    let left : close_room core ≤ spare given = omega (arith, few, enough) in
    rw (steps.same, steps.untold) left)

pub later-of : (core new : CoreData) (e : Event) (before given after : Actions) (result : Result StepEnd NoMemory) → list_of given ≡ list_of before
    → Ignores core new e given after
    → IgnoresLater core new e (list_of before) (list_of after) result
later-of core new e before given after result same ignores kind is came calm =
    let undone = (subst (λ (x : Event). Ignores core new x given after) is ignores) came calm in
    (on_ok result undone.same, on_ok result (ap (λ (a : Actions). list_of a) undone.untold ∙ same))
  where
    on_ok : {P : Type 0} (r : Result StepEnd NoMemory) → P → OnOk r P
    on_ok (Ok end) p = p
    on_ok (Err none) p = tt
