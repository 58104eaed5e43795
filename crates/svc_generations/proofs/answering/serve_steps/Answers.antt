use Rattle.svc_generations.proofs.answering.serve_steps.Goals as goal

pub returns : goal.returns
returns c = λ blocks has. c.finished-answer.ensures blocks (c.in_ok-serving.ensures.serving blocks has)
