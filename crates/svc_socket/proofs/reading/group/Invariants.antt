use Rattle.svc_socket.proofs.GroupLemmas.{HasDigits}
use Rattle.svc_socket.proofs.reading.group.Given as goal

abbrev pub invariant-loop-b : goal.invariant-loop-b
invariant-loop-b l = HasDigits l.word l.b-index l.group
