use Rattle.svc_text.proofs.RecordLineLemmas.{two_pieces}
use Rattle.svc_text.proofs.record_lines.push_arrived.Goals as goal

pub returns : goal.returns
returns c = two_pieces c.push_from.result _ _ _ _ _ _ c.in_ok-push_str.ensures.bytes c.push_from.ensures c.write_arrived-start.ensures.written
