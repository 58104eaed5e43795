-- A generation that has begun, or taken an event, stands for its record.
use Rattle.std.proofs.Common.{Bool, [], ◌∷◌, ◌≡◌, ap, sym, ◌∙◌, subst}
use Rattle.svc_record.specs.declared.plan.Plan.{Plan}
use Rattle.svc_record.specs.declared.action.StepEnd.{StepEnd}
use Rattle.svc_record.specs.declared.entry.Entry.TheVariants.{Got}
use Rattle.svc_record.specs.declared.event.Event.{Event}
use Rattle.svc_record.specs.Record.{tell}
use Rattle.svc_record.specs.Ends.{step_end}
use Rattle.svc_record.specs.Judging.{judgements}
use Rattle.svc_record.specs.Right.{Right}
use Rattle.svc_core.specs.Stands.{Represents}
use Rattle.svc_session.proofs.SessionLemmas.{begun-record, taken-record}
use Rattle.svc_handover.specs.declared.pair.PairStep.{PairStep}
use Rattle.svc_handover.specs.Law.{HasTexts}
use Rattle.svc_supervisor.specs.declared.generation.Generation.{Generation}
use Rattle.svc_supervisor.specs.Chains.{Took, Begun}
use Rattle.svc_supervisor.specs.Generations.{Begins, Takes, Stands, history, data_of}

-- its record is what it told
pub begun-history : (p : Plan) (g : Generation) (b : Begins p g) → history g ≡ tell [] b.begins.begun.told
begun-history p g b = begun-record p g.session b.told b.begins

pub stands-begun : (p : Plan) (g : Generation) → Begins p g → Stands g
stands-begun p g b =
    let told : tell [] b.begins.begun.told ≡ history g = sym (begun-history p g b) in
    record {
      stands = subst (Represents g.session.core) told b.begins.begun.kept.stands;
      right = subst (Right g.session.core.plan) told b.begins.begun.kept.right;
      marks = b.marks;
      texts = subst HasTexts (sym b.begins.plan_is) b.texts;
      unclosed = b.begins.unclosed;
    }

pub begun : (p : Plan) (g : Generation) → Begins p g → Begun p (data_of g)
begun p g b = record { told = b.begins.begun.told; plan = b.begins.plan_is; history = begun-history p g b }

-- the step of a generation as that of one of two servers
abbrev pub step_of : Bool → Event → Bool → PairStep
step_of old e said = record { old = old; event = e; said = said }

-- its record has grown by the event and what was told
pub taken-history : (g next : Generation) (e : Event) (said : Bool) (end : StepEnd) (t : Takes g next e said end)
    → history next ≡ tell (Got e ∷ history g) t.takes.keeps.told
taken-history g next e said end t = taken-record g.session next.session e said end t.told t.takes

pub stands-taken : (g next : Generation) (e : Event) (said : Bool) (end : StepEnd) → Stands g → Takes g next e said end → Stands next
stands-taken g next e said end s t =
    let kept = t.takes.keeps.kept (history g) s.right s.stands in
    let grown : tell (Got e ∷ history g) t.takes.keeps.told ≡ history next = sym (taken-history g next e said end t) in
    record {
      stands = subst (Represents next.session.core) grown kept.stands;
      right = subst (Right next.session.core.plan) grown kept.right;
      marks = t.marks s.marks;
      texts = subst HasTexts (sym t.takes.plan_is) s.texts;
      unclosed = t.takes.closed ∙ s.unclosed;
    }

pub took : (g next : Generation) (e : Event) (said : Bool) (end : StepEnd) → Stands g → Takes g next e said end → Took (data_of g) (data_of next) e said end
took g next e said end s t =
    let kept = t.takes.keeps.kept (history g) s.right s.stands in
    let grown : tell (Got e ∷ history g) t.takes.keeps.told ≡ history next = sym (taken-history g next e said end t) in
    record {
      told = t.takes.keeps.told;
      plan = t.takes.plan_is;
      history = sym grown;
      judged = ap judgements (sym t.takes.keeps.appended) ∙ t.takes.judged;
      end_is = kept.answer ∙ ap (step_end next.session.core.plan) grown;
    }
