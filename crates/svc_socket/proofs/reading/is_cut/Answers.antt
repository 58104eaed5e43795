use Rattle.std.proofs.Common.{◌==◌}
use Rattle.svc_socket.proofs.CutLemmas.{several_words}
use Rattle.svc_socket.proofs.reading.is_cut.Goals as goal

pub returns-in-Some-clause-several : goal.returns-in-Some-clause-several
returns-in-Some-clause-several c = λ _. several_words (λ b. b == c.args.separator) c.args.text.now _ _ c.in-Some.ensures
