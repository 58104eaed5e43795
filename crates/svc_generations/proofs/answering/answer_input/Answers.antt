use Rattle.svc_main.proofs.ScriptAnswerLemmas.{if_ok}
use Rattle.svc_generations.specs.Inputs.{input_parts_of}
use Rattle.svc_generations.proofs.AnswerLemmas.{edge_answer}
use Rattle.svc_generations.proofs.answering.answer_input.Goals as goal

pub returns-in-Err-Line : goal.returns-in-Err-Line
returns-in-Err-Line c =
    if_ok _ _ c.said-in-Err-Line.result c.said-in-Err-Line.ensures
    (λ a h. edge_answer (input_parts_of c.args.input) c.in-Err-Line.n a.line _ (rw c.in-Err-Line.field-0-is at c.in-Err-Line.ensures.refused) h)
