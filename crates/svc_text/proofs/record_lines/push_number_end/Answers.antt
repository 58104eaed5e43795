use Rattle.std.proofs.lemmas.Str.Ascii.{IsAscii-nil}
use Rattle.svc_text.proofs.record_lines.push_number_end.Goals as goal

pub push_from-requires-clause-ascii : goal.push_from-requires-clause-ascii
push_from-requires-clause-ascii c = c.write_behind_space-start.ensures.ascii IsAscii-nil
