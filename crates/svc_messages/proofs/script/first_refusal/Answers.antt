use Rattle.std.proofs.Common.{◌≡◌, ◌<◌, ◌∙◌, ℕ, List, arith, inr, length, sym, subst}
use Rattle.std.proofs.lemmas.Grind.{get_or_default_zero}
use Rattle.std.specs.Prelude.{slice_index}
use Rattle.std.specs.Str.Lines.{lines}
use Rattle.svc_text.specs.declared.service.ServiceLine.{ServiceLine}
use Rattle.svc_text.specs.Dependencies.{RefusesAt}
use Rattle.svc_text.specs.Outcome.{parts_of}
use Rattle.svc_text.specs.Script.{IsLineOf}
use Rattle.svc_messages.proofs.script.first_refusal.Goals as goal

pub returns-in_ok-refusal_of-in-Ok-Some : goal.returns-in_ok-refusal_of-in-Ok-Some
returns-in_ok-refusal_of-in-Ok-Some c =
    let script = c.in-Ok.script in
    let k = c.in-Ok-Some.k in
    let told = c.in_ok-refusal_of-in-Ok-Some in
    let P : List ServiceLine → Type 0 = λ s. RefusesAt s k in
    let Q : ℕ → Type 0 = λ n. IsLineOf (lines c.args.bytes.now) k n in
    let at : RefusesAt script.services.items k =
    subst P c.deref.ensures.value (rw c.in-Ok-Some.field-0-is at c.in-Ok-Some.ensures.refused) in
    let line : IsLineOf (lines c.args.bytes.now) k (slice_index script.lines.items k) = c.in-Ok.ensures.numbers.each k at.here in
    let within : k < length script.lines.items = omega (arith, at.here, c.in-Ok.ensures.numbers.count_is) in
    let same : told.field-0.number ≡ slice_index script.lines.items k =
    told.ensures.0 ∙ c.index-number.ensures ∙ get_or_default_zero script.lines.items k c.index-number.result.now within in
    (inr (parts_of script, k, c.in-Ok.ensures.parts, at, subst Q (sym same) line), told.ensures.1)
