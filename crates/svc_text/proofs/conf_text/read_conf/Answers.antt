use Rattle.std.proofs.Common.{length, ap, ℕ, List, arith}
use Rattle.std.specs.Str.Lines.{lines}
use Rattle.svc_text.proofs.ConfRefusalLemmas.{error_in}
use Rattle.svc_text.proofs.conf_text.read_conf.Goals as goal

pub overflow_add-result : goal.overflow_add-result
overflow_add-result c =
    let near = error_in c.in-Ok.text.now _ (rw c.in-Err-Line.field-0-is at c.in-Err-Line.ensures) in
    let same = ap (λ (text : List ℕ). length (lines text)) c.in-Ok.ensures.cases.0 in
    omega (arith, near, same, c.requires.room)

pub overflow_add-result-in-Err-Value : goal.overflow_add-result-in-Err-Value
overflow_add-result-in-Err-Value c =
    let near = error_in c.in-Ok.text.now _ (rw c.in-Err-Value.field-0-is at c.in-Err-Value.ensures) in
    let same = ap (λ (text : List ℕ). length (lines text)) c.in-Ok.ensures.cases.0 in
    omega (arith, near, same, c.requires.room)

pub unreachable-requires-in-Err-Invalid : goal.unreachable-requires-in-Err-Invalid
unreachable-requires-in-Err-Invalid c = error_in c.in-Ok.text.now _ (rw c.in-Err-Invalid.field-0-is at c.in-Err-Invalid.ensures)

pub unreachable-requires-in-Err-Fault : goal.unreachable-requires-in-Err-Fault
unreachable-requires-in-Err-Fault c = error_in c.in-Ok.text.now _ (rw c.in-Err-Fault.field-0-is at c.in-Err-Fault.ensures)

pub unreachable-requires-in-Err-NoPath : goal.unreachable-requires-in-Err-NoPath
unreachable-requires-in-Err-NoPath c = error_in c.in-Ok.text.now _ (rw c.in-Err-NoPath.field-0-is at c.in-Err-NoPath.ensures)
