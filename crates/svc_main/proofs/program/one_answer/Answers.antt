use Rattle.svc_main.proofs.AnswerLemmas.{same_answer}
use Rattle.svc_main.proofs.program.one_answer.Goals as goal

pub returns : goal.returns
returns c = same_answer
