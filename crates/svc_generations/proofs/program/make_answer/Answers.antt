use Rattle.svc_generations.specs.Inputs.{input_parts_of}
use Rattle.svc_main.proofs.ScriptAnswerLemmas.{if_ok, no_words}
use Rattle.svc_generations.proofs.AnswerLemmas.{input_answer, input_ends, input_faults}
use Rattle.svc_generations.proofs.InputLemmas.{input_count}
use Rattle.std.proofs.Common.{arith}
use Rattle.std.proofs.lemmas.List.{length-map}
use Rattle.svc_generations.specs.Inputs.{block_parts_of}
use Rattle.svc_generations.proofs.program.make_answer.Goals as goal

pub returns-in-Ok-read_input-clause-answer : goal.returns-in-Ok-read_input-clause-answer
returns-in-Ok-read_input-clause-answer g c =
    let none = no_words _ c.args.words.now c.is_empty.result c.is_empty.ensures c.if-not-is_empty.false in
    if_ok _ _ c.answer_input.result c.answer_input.ensures (λ a h.
    input_answer _ (g.S.Source.left c.args.source.now) c.in-Ok.bytes.items (input_parts_of c.in-Ok-read_input.input) a.line _ none
    c.in-Ok.ensures.whole c.in-Ok.ensures.short (rw c.deref.ensures.value at c.in-Ok-read_input.ensures.read) h)

pub returns-in-Ok-read_input-clause-ended : goal.returns-in-Ok-read_input-clause-ended
returns-in-Ok-read_input-clause-ended g c =
    if_ok _ _ c.answer_input.result c.answer_input.ensures (λ a h. input_ends (input_parts_of c.in-Ok-read_input.input) a.line _ _ h c.in-Ok.ensures.ended)

pub returns-in-Ok-read_input-clause-fault : goal.returns-in-Ok-read_input-clause-fault
returns-in-Ok-read_input-clause-fault g c =
    if_ok _ _ c.answer_input.result c.answer_input.ensures (λ a h. input_faults (input_parts_of c.in-Ok-read_input.input) a.line _ _ _ h)

pub answer_input-requires-clause-some : goal.answer_input-requires-clause-some
answer_input-requires-clause-some g c =
    (let n = input_count _ (input_parts_of c.in-Ok-read_input.input) c.in-Ok-read_input.ensures.read in
    omega (arith, n.0, length-map c.in-Ok-read_input.input.blocks block_parts_of))

pub answer_input-requires-clause-few : goal.answer_input-requires-clause-few
answer_input-requires-clause-few g c =
    (let n = input_count _ (input_parts_of c.in-Ok-read_input.input) c.in-Ok-read_input.ensures.read in
    omega (arith, n.1, length-map c.in-Ok-read_input.input.blocks block_parts_of))
