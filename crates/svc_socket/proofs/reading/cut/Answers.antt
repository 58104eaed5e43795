use Rattle.std.proofs.Common.{◌==◌, sym, refl}
use Rattle.svc_socket.proofs.CutLemmas.{no_cut, first_cut}
use Rattle.svc_socket.proofs.reading.cut.Goals as goal

pub returns-in_default : goal.returns-in_default
returns-in_default c = no_cut (λ b. b == c.args.separator) c.args.text.now (sym c.in_default.ensures)

pub returns : goal.returns
returns c = first_cut (λ b. b == c.args.separator) c.args.text.now c.in-Some.end _ _ (sym c.in-Some.ensures) refl refl
