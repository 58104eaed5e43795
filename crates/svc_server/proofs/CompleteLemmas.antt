-- A run whose events all fit, and whose record has passed, served.
use Rattle.std.proofs.Common.{ℕ, true, false, ◌||◌, List, [], ◌∷◌, ◌≡◌, Some, None, Ok, Err, refl, ap, sym, subst, ◌∙◌}
use Rattle.std.specs.Prelude.{Option, Result, IfSome}
use Rattle.std.proofs.lemmas.Bool.{or_parts}
use Rattle.svc_record.specs.declared.plan.Plan.{Plan}
use Rattle.svc_record.specs.declared.event.Event.{Event}
use Rattle.svc_record.specs.declared.entry.Entry.TheVariants.{Got, Told}
use Rattle.svc_record.specs.declared.action.Action.{Action}
use Rattle.svc_record.specs.declared.action.StepEnd.{StepEnd}
use Rattle.svc_record.specs.declared.action.StepEnd.TheVariants as ends
use Rattle.svc_record.specs.Record.{Record, tell, EachEntry}
use Rattle.svc_record.specs.Connections.{Verdict}
use Rattle.svc_record.specs.Drain.{waits_are_over}
use Rattle.svc_record.specs.Ends.{has_ended, has_ended_early, ends_tested}
use Rattle.svc_record.specs.Fits.{fits, event_fits}
use Rattle.svc_record.specs.Tail.{closing_actions}
use Rattle.svc_drain.proofs.Passing.{passed-tell}
use Rattle.svc_server.specs.declared.run.Outcome.{Outcome}
use Rattle.svc_server.specs.declared.run.Outcome.TheVariants.{Served, TestPassed, Parent}
use Rattle.svc_server.specs.declared.run.RunError.{RunError}
use Rattle.svc_server.specs.declared.run.RunError.TheVariants.{Config, HostFault, Bootstrap, Stray, TurnsSpent, OutOfEvents, NoMemory}
use Rattle.svc_server.specs.Hosts.{Account}
use Rattle.svc_server.specs.Runs.{IsClosed, IsEndedSo, RunEnds, RunTells, GoesWell, GoesThrough}

fits-before : (p : Plan) (q : Record) (told : List Action) → EachEntry (λ e before. event_fits p e before ≡ true) (tell q told)
    → EachEntry (λ e before. event_fits p e before ≡ true) q
fits-before p q [] h = h
fits-before p q (a ∷ told) h = (fits-before p (Told a ∷ q) told h).1

unpassed : (p : Plan) (q : Record) → has_ended p q ≡ false → waits_are_over p q ≡ false
unpassed p q h = (or_parts (waits_are_over p q) (ends_tested p q) (or_parts (waits_are_over p q || ends_tested p q) (has_ended_early p q) h).0).0

-- a record that was closed while the run went on hasn't passed
closed-goes : (p : Plan) (r finished : Record) → IsClosed p r finished None → GoesWell p r → ⊥
closed-goes p r finished closed well =
    let live = unpassed p finished closed.goes_on in
    let here : waits_are_over p finished ≡ true =
    sym (passed-tell p finished (closing_actions p finished None)) ∙ (sym (ap (waits_are_over p) closed.closed) ∙ well.passed) in
    cc

-- nor one that ended otherwise
ended-goes : (p : Plan) (end : StepEnd) (r finished : Record) → IsEndedSo p end r finished → GoesWell p r → end ≡ ends.Served
ended-goes p end r finished so well =
    let here : waits_are_over p finished ≡ true =
    sym (passed-tell p finished (closing_actions p finished None)) ∙ (sym (ap (waits_are_over p) so.closed) ∙ well.passed) in
    so.ended ∙ rw here refl

-- nor one whose last event doesn't fit
stray-goes : (p : Plan) (r finished : Record) (e : Event) → IsClosed p r finished (Some e) → (fits p finished e ≡ true → ⊥) → GoesWell p r → ⊥
stray-goes p r finished e closed misfit well =
    misfit (fits-before p (Got e ∷ finished) (closing_actions p finished (Some e))
    (subst (EachEntry (λ x before. event_fits p x before ≡ true)) closed.closed well.fits)).0

ends-through : (p : Plan) (turns : ℕ) (answer : Result Outcome RunError) (r : Record) → RunEnds p turns answer r → GoesWell p r → GoesThrough answer
ends-through p turns (Ok Served) r h well = tt
ends-through p turns (Ok TestPassed) r h well = absurd (let same = ended-goes p ends.Tested r h.0 h.1 well in cc)
ends-through p turns (Ok (Parent n)) r h well = absurd (let same = ended-goes p (ends.Parent n) r h.0 h.1 well in cc)
ends-through p turns (Err (Bootstrap error)) r h well = absurd (let same = ended-goes p (ends.Ended error) r h.0 h.1 well in cc)
ends-through p turns (Err (Config key)) r h well = absurd (let none = subst (λ (x : Record). waits_are_over p x ≡ true) h well.passed in cc)
ends-through p turns (Err HostFault) r h well = absurd (closed-goes p r h.0 h.1 well)
ends-through p turns (Err (Stray k)) r h well = absurd (stray-goes p r h.0 h.1.0 h.1.1.closed h.1.1.misfit well)
ends-through p turns (Err TurnsSpent) r h well = absurd (closed-goes p r h.0 h.1.closed well)
ends-through p turns (Err OutOfEvents) r h well = absurd (closed-goes p r h.0 h.1 well)
ends-through p turns (Err NoMemory) r h well = tt

goes-through : (verdict : Verdict) (p : Plan) (turns : ℕ) (answer : Result Outcome RunError) (a : Account) → RunTells verdict p turns answer a
    → GoesWell p a.entries → GoesThrough answer
goes-through verdict p turns answer a tells well = ends-through p turns answer a.entries tells.ends well

-- where the host tells its account
pub through-account : (verdict : Verdict) (p q : Plan) (turns : ℕ) (answer : Result Outcome RunError) (account : Option Account) → p ≡ q
    → IfSome account (RunTells verdict p turns answer) → IfSome account (λ a. GoesWell q a.entries → GoesThrough answer)
through-account verdict p q turns answer None same tells = tt
through-account verdict p q turns answer (Some a) same tells =
    λ well. goes-through verdict p turns answer a tells (subst (λ (x : Plan). GoesWell x a.entries) (sym same) well)
