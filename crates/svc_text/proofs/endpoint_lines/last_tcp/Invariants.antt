use Rattle.svc_text.proofs.OptionLemmas.{IsLast}
use Rattle.svc_text.proofs.endpoint_lines.last_tcp.Given as goal

abbrev pub invariant-loop-k : goal.invariant-loop-k
invariant-loop-k l = IsLast l.lines l.k l.last
