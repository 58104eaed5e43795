-- What the core closes at the end is what the record says.
use Rattle.std.proofs.Common.{ℕ, Bool, true, false, not, List, [], ◌∷◌, ◌++◌, ◌==◌, ◌≡◌, refl, ap, sym, ◌∙◌, Some, None, map, filter, append_assoc, append-nil}
use Rattle.std.specs.List.{list_any}
use Rattle.svc_record.specs.declared.action.Action.{Action}
use Rattle.svc_record.specs.declared.action.Action.TheVariants.{Cut, Close}
use Rattle.svc_record.specs.declared.event.Event.{Event}
use Rattle.svc_record.specs.declared.entry.Entry.TheVariants.{Got}
use Rattle.svc_record.specs.Record.{Record, has}
use Rattle.svc_record.specs.Descriptors.{brings, numbers_of}
use Rattle.svc_record.specs.Connections.{live_connections}
use Rattle.svc_record.specs.Drain.{live_numbers}
use Rattle.svc_base.specs.NumberSets.{ascending}
use Rattle.svc_record.specs.Tail.{new_numbers, each_once}
use Rattle.svc_record.proofs.Closing.{right_closes}
use Rattle.svc_connections.specs.ConnectionsState.{numbers}
use Rattle.svc_connections.specs.ConnectionsEffects.{cuts}
use Rattle.svc_core.specs.CoreData.{CoreData, is_served}
use Rattle.svc_core.specs.Rooms.{open_numbers, open_connections, left_numbers}
use Rattle.svc_core.specs.Stands.{Represents, ClosesAll}
use Rattle.svc_core.proofs.StepLemmas.{fresh}

open-live : (core : CoreData) (q : Record) → Represents core q → (b : Bool) → is_served core.end ≡ b → open_numbers core ≡ ascending (live_numbers core.plan q)
open-live core q stands true e = rw e (sym (ap ascending (stands.closed e)))
open-live core q stands false e = rw e (stands.endpoints e).open_are

-- the numbers that came
left-kept : (core : CoreData) (q : Record) → Represents core q → (fds : List ℕ)
    → filter (λ n. not (list_any (λ m. m == n) core.endpoints.came)) fds ≡ filter (λ n. not (has (brings n) q)) fds
left-kept core q stands [] = refl
left-kept core q stands (fd ∷ fds) = rw (fresh core q fd stands, left-kept core q stands fds) refl

left-new : (core : CoreData) (q : Record) (e : Event) → Represents core q → left_numbers core e ≡ new_numbers q (Some e)
left-new core q e stands = ap each_once (left-kept core q stands (numbers_of (Got e)))

-- the connections that are live
cut-live : (core : CoreData) (q : Record) → Represents core q → (b : Bool) → is_served core.end ≡ b
    → numbers (open_connections core) ≡ ascending (live_connections q)
cut-live core q stands true e = rw e (sym (ap ascending (stands.uncut e)))
cut-live core q stands false e = rw e (stands.connections e).live_is

-- where no event was left unfinished
pub closes-open : (core : CoreData) (q : Record) (before after : List Action)
    → after ≡ before ++ (cuts (open_connections core) ++ map (λ (fd : ℕ). Close fd) (open_numbers core))
    → Represents core q → ClosesAll core.plan q None before after
closes-open core q before after told stands = record {
  told = record {
    told = cuts (open_connections core) ++ map (λ (fd : ℕ). Close fd) (open_numbers core);
    appended = told;
    kept = ap (λ cs. map (λ (c : ℕ). Cut c) cs ++ map (λ (fd : ℕ). Close fd) (open_numbers core)) (cut-live core q stands (is_served core.end) refl)
        ∙ ap (λ fds. map (λ (c : ℕ). Cut c) (ascending (live_connections q)) ++ map (λ (fd : ℕ). Close fd) fds)
        (open-live core q stands (is_served core.end) refl)
        ∙ ap (λ told. map (λ (c : ℕ). Cut c) (ascending (live_connections q)) ++ told)
        (sym (append-nil (map (λ (fd : ℕ). Close fd) (ascending (live_numbers core.plan q)))));
  };
  closed = λ right. right_closes core.plan q None right;
}

-- where one was
pub closes-brought : (core : CoreData) (q : Record) (e : Event) (before mid after : List Action)
    → mid ≡ before ++ (cuts (open_connections core) ++ map (λ (fd : ℕ). Close fd) (open_numbers core))
    → after ≡ mid ++ map (λ (fd : ℕ). Close fd) (left_numbers core e)
    → Represents core q → ClosesAll core.plan q (Some e) before after
closes-brought core q e before mid after first next stands = record {
  told = record {
    told = (cuts (open_connections core) ++ map (λ (fd : ℕ). Close fd) (open_numbers core)) ++ map (λ (fd : ℕ). Close fd) (left_numbers core e);
    appended = next
        ∙ ap (λ w. w ++ map (λ (fd : ℕ). Close fd) (left_numbers core e)) first
        ∙ append_assoc before (cuts (open_connections core) ++ map (λ (fd : ℕ). Close fd) (open_numbers core))
        (map (λ (fd : ℕ). Close fd) (left_numbers core e));
    kept = append_assoc (cuts (open_connections core)) (map (λ (fd : ℕ). Close fd) (open_numbers core)) (map (λ (fd : ℕ). Close fd) (left_numbers core e))
        ∙ ap (λ cs. map (λ (c : ℕ). Cut c) cs ++ (map (λ (fd : ℕ). Close fd) (open_numbers core) ++ map (λ (fd : ℕ). Close fd) (left_numbers core e)))
        (cut-live core q stands (is_served core.end) refl)
        ∙ ap (λ fds. map (λ (c : ℕ). Cut c) (ascending (live_connections q))
        ++ (map (λ (fd : ℕ). Close fd) fds ++ map (λ (fd : ℕ). Close fd) (left_numbers core e))) (open-live core q stands (is_served core.end) refl)
        ∙ ap (λ fds. map (λ (c : ℕ). Cut c) (ascending (live_connections q))
        ++ (map (λ (fd : ℕ). Close fd) (ascending (live_numbers core.plan q)) ++ map (λ (fd : ℕ). Close fd) fds)) (left-new core q e stands);
  };
  closed = λ right. right_closes core.plan q (Some e) right;
}
