-- What giving one more item of a script keeps.
use Rattle.std.proofs.Common.{◌≡◌, ℕ, suc, ◌+◌, ◌<◌, ◌≤◌, ◌^◌, List, [], ◌∷◌, ◌++◌, length, All, refl, ap, sym, subst, ◌∙◌, arith, length-append}
use Rattle.std.specs.Prelude.{Some}
use Rattle.svc_record.specs.declared.action.ExecutionPhase.{ExecutionPhase}
use Rattle.svc_record.specs.declared.event.Event.{Event}
use Rattle.svc_record.specs.declared.item.Item.{Item}
use Rattle.svc_record.specs.declared.item.Item.TheVariants as items
use Rattle.svc_record.specs.Record.{Record}
use Rattle.svc_server.specs.declared.host.Next.{Next}
use Rattle.svc_server.specs.declared.host.Next.TheVariants as nexts
use Rattle.svc_server.specs.InnerHosts.{record_with, faults_with, idles_with}
use Rattle.svc_server.specs.Runs.{events_of}
use Rattle.svc_server.specs.ScriptHosts.{item_events, item_faults, items_given, event_count, answer_to, GivesFew, KeepsScript}

event_count-append : (xs ys : List Next) → event_count (xs ++ ys) ≡ event_count xs + event_count ys
event_count-append [] ys = omega arith
event_count-append (nexts.Event ∷ xs) ys = omega (arith, event_count-append xs ys)
event_count-append (nexts.Failed ∷ xs) ys = event_count-append xs ys
event_count-append (nexts.None ∷ xs) ys = event_count-append xs ys

-- the events of the items are those that were given
events-given : (answers : List Next) (events : List Event) → event_count answers ≡ length events → item_events (items_given answers events) ≡ events
events-given [] [] count = refl
events-given [] (e ∷ events) count = absurd (omega arith)
events-given (nexts.Event ∷ more) [] count = absurd (omega arith)
events-given (nexts.Event ∷ more) (e ∷ events) count = ap (λ (es : List Event). e ∷ es) (events-given more events (omega arith))
events-given (nexts.Failed ∷ more) events count = events-given more events count
events-given (nexts.None ∷ more) events count = events-given more events count

-- one more event is no fault
faults-event : (answers : List Next) (events : List Event) (e : Event) → event_count answers ≡ length events
    → item_faults (items_given (answers ++ nexts.Event ∷ []) (events ++ e ∷ [])) ≡ item_faults (items_given answers events)
faults-event [] [] e count = refl
faults-event [] (x ∷ events) e count = absurd (omega arith)
faults-event (nexts.Event ∷ more) [] e count = absurd (omega arith)
faults-event (nexts.Event ∷ more) (x ∷ events) e count = faults-event more events e (omega arith)
faults-event (nexts.Failed ∷ more) events e count = ap (λ (n : ℕ). n + 1) (faults-event more events e count)
faults-event (nexts.None ∷ more) events e count = faults-event more events e count

-- one more fault
faults-more : (answers : List Next) (events : List Event)
    → item_faults (items_given (answers ++ nexts.Failed ∷ []) events) ≡ item_faults (items_given answers events) + 1
faults-more [] events = refl
faults-more (nexts.Event ∷ more) [] = faults-more more []
faults-more (nexts.Event ∷ more) (e ∷ events) = faults-more more events
faults-more (nexts.Failed ∷ more) events = ap (λ (n : ℕ). n + 1) (faults-more more events)
faults-more (nexts.None ∷ more) events = faults-more more events

-- there are no more faults than answers
faults-given : (answers : List Next) (events : List Event) → item_faults (items_given answers events) ≤ length answers
faults-given [] events = omega arith
faults-given (nexts.Event ∷ more) [] = omega (arith, faults-given more [])
faults-given (nexts.Event ∷ more) (e ∷ events) = omega (arith, faults-given more events)
faults-given (nexts.Failed ∷ more) events = omega (arith, faults-given more events)
faults-given (nexts.None ∷ more) events = omega (arith, faults-given more events)

pub few-more : (x : Item) (left more : List Item) → left ≡ x ∷ more → All GivesFew left → All GivesFew more
few-more x left more is few k d lt =
    let all : All GivesFew (x ∷ more) = subst (λ (xs : List Item). All GivesFew xs) is few in
    all (suc k) d (omega arith)

-- an item is given
pub keeps_given : (answers : List Next) (left more : List Item) (q : Record) (phases : List ExecutionPhase) (faults idles : ℕ) (x : Item) → left ≡ x ∷ more
    → length answers + 1 < 2 ^ 64 → KeepsScript answers left q phases faults idles
    → KeepsScript (answers ++ answer_to x ∷ []) more (record_with (Some x) q) phases (faults_with (Some x) faults) (idles_with (Some x) idles)
keeps_given answers left more q phases faults idles (items.Event e) is short kept =
    let counted : event_count (answers ++ nexts.Event ∷ []) ≡ length (events_of q ++ e ∷ []) =
    omega (arith, event_count-append answers (nexts.Event ∷ []), kept.counted, length-append (events_of q) (e ∷ [])) in
    record {
      follows = record {
        events = sym (events-given (answers ++ nexts.Event ∷ []) (events_of q ++ e ∷ []) counted);
        faulted = kept.follows.faulted ∙ sym (faults-event answers (events_of q) e kept.counted);
        finished = λ h. absurd (let none : left ≡ [] = kept.follows.finished h in cc);
      };
      counted = counted;
      phases_told = kept.phases_told;
    }
keeps_given answers left more q phases faults idles items.Fault is short kept =
    let counted : event_count (answers ++ nexts.Failed ∷ []) ≡ length (events_of q) =
    omega (arith, event_count-append answers (nexts.Failed ∷ []), kept.counted) in
    record {
      follows = record {
        events = sym (events-given (answers ++ nexts.Failed ∷ []) (events_of q) counted);
        faulted = omega (arith, kept.follows.faulted, faults-given answers (events_of q), faults-more answers (events_of q));
        finished = λ h. absurd (let none : left ≡ [] = kept.follows.finished h in cc);
      };
      counted = counted;
      phases_told = kept.phases_told;
    }
