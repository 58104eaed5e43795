-- Why the program ends as it does.
use Rattle.std.proofs.Common.{ℕ, List, reverse, ◌≡◌, ◌⊎◌, inl, inr, refl, sym, subst, Option, Some, None, IfSome}
use Rattle.std.specs.Str.Lines.{lines}
use Rattle.svc_record.specs.declared.plan.Plan.{Plan}
use Rattle.svc_record.specs.Record.{Record}
use Rattle.svc_judging.specs.Readings.{AreRecord}
use Rattle.svc_judging.specs.declared.status_lines.RecordEnd.{RecordEnd}
use Rattle.svc_judged.specs.declared.judgement.Judgement.{Judgement}
use Rattle.svc_judged.specs.declared.judgement.Judgement.TheVariants as said
use Rattle.svc_judged.specs.declared.ending.Ending.{Ending}
use Rattle.svc_judged.specs.declared.ending.Ending.TheVariants.{WriteFault}
use Rattle.svc_judged.specs.Judgements.{judgement_by, ending_of, IsSaid, HasCause}

judged_by : (p : Plan) (bytes : List ℕ) (s : Judgement) → IsSaid p bytes s → HasCause p bytes (ending_of s)
judged_by p bytes said.Served h = (said.Served, (h, refl))
judged_by p bytes said.Right h = (said.Right, (h, refl))
judged_by p bytes (said.Wrong b) h = (said.Wrong b, (h, refl))

-- what was said of the record is the cause
pub judgement_is_cause : (p : Plan) (o : Option (List ℕ)) (r : Record) (end : RecordEnd) (s : Judgement) (ending : Ending)
    → IfSome o (λ bytes. AreRecord (lines bytes) (reverse r) end) → s ≡ judgement_by end p r → (ending ≡ WriteFault) ⊎ (ending ≡ ending_of s)
    → IfSome o (λ bytes. HasCause p bytes ending)
judgement_is_cause p None r end s ending are is told = tt
judgement_is_cause p (Some b) r end s ending are is told = elim told [
  | inl e ↦ subst (HasCause p b) (sym e) tt
  | inr e ↦ subst (HasCause p b) (sym e) (judged_by p b s (r, (end, (are, sym is))))
]
