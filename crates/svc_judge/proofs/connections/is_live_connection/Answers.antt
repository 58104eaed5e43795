use Rattle.std.proofs.Common.{sym, ◌∙◌}
use Rattle.svc_judge.proofs.ConnectionLemmas.{live_by_arrival}
use Rattle.svc_judge.proofs.connections.is_live_connection.Goals as goal

pub returns : goal.returns
returns c = c.has_come.ensures ∙ sym (live_by_arrival c.args.entries.now c.args.c)
