-- The record of a session, the newest entry first.
use Rattle.std.proofs.Common.{ℕ, Bool, List, [], ◌∷◌, ◌++◌, ◌≡◌, ap, sym, ◌∙◌, append_assoc, length, drop}
use Rattle.std.specs.Prelude.{reverse, None}
use Rattle.std.proofs.Math.Seq.{drop-append_seam}
use Rattle.std.proofs.lemmas.List.{append-nil, reverse-append}
use Rattle.svc_record.specs.declared.plan.Plan.{Plan}
use Rattle.svc_record.specs.declared.action.Action.{Action}
use Rattle.svc_record.specs.declared.action.StepEnd.{StepEnd}
use Rattle.svc_record.specs.declared.entry.Entry.{Entry}
use Rattle.svc_record.specs.declared.entry.Entry.TheVariants.{Got, Told}
use Rattle.svc_record.specs.declared.event.Event.{Event}
use Rattle.svc_record.specs.Record.{Record, tell}
use Rattle.svc_record.specs.Tail.{closing_actions}
use Rattle.svc_core.specs.Stands.{Represents}
use Rattle.svc_session.specs.SessionData.{SessionData}
use Rattle.svc_session.specs.Sessions.{Begins, Takes, Closes, told_entries}

-- a list of entries and what was told after it
turned-told : (xs : List Entry) (told : List Action) → reverse (xs ++ told_entries told) ≡ tell (reverse xs) told
turned-told xs [] = ap (λ (ys : List Entry). reverse ys) (append-nil xs)
turned-told xs (a ∷ told) =
    ap (λ (ys : List Entry). reverse ys) (sym (append_assoc xs (Told a ∷ []) (told_entries told)))
    ∙ turned-told (xs ++ Told a ∷ []) told
    ∙ ap (λ (r : Record). tell r told) (reverse-append xs (Told a ∷ []))

-- as it has begun
pub begun-record : (p : Plan) (s : SessionData) (told : List Action) (b : Begins p s told) → reverse s.entries ≡ tell [] b.begun.told
begun-record p s told b = ap (λ (xs : List Entry). reverse xs) b.entries ∙ turned-told [] told ∙ ap (tell []) b.begun.appended

-- after an event
pub taken-record : (old new : SessionData) (e : Event) (said : Bool) (end : StepEnd) (told : List Action) (t : Takes old new e said end told)
    → reverse new.entries ≡ tell (Got e ∷ reverse old.entries) t.keeps.told
taken-record old new e said end told t =
    ap (λ (xs : List Entry). reverse xs) (t.entries ∙ sym (append_assoc old.entries (Got e ∷ []) (told_entries told)))
    ∙ turned-told (old.entries ++ Got e ∷ []) told
    ∙ ap (λ (r : Record). tell r told) (reverse-append old.entries (Got e ∷ []))
    ∙ ap (tell (Got e ∷ reverse old.entries)) t.keeps.appended

pub added-entries : (old new : SessionData) (e : Event) (said : Bool) (end : StepEnd) (told : List Action) → Takes old new e said end told → (n : ℕ)
    → n ≡ length old.entries → drop n new.entries ≡ Got e ∷ told_entries told
added-entries old new e said end told t n same =
    ap (λ k. drop k new.entries) same ∙ ap (drop (length old.entries)) t.entries ∙ drop-append_seam old.entries (Got e ∷ told_entries told)

-- and as all was closed
pub closed-record : (old new : SessionData) (told : List Action) → Closes old new told → Represents old.core (reverse old.entries)
    → reverse new.entries ≡ tell (reverse old.entries) (closing_actions old.core.plan (reverse old.entries) None)
closed-record old new told c stands =
    let all = (c.closes (reverse old.entries) stands).told in
    ap (λ (xs : List Entry). reverse xs) c.entries ∙ turned-told old.entries told ∙ ap (tell (reverse old.entries)) (all.appended ∙ all.kept)
