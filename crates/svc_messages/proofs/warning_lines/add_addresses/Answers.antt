use Rattle.svc_messages.proofs.warning_lines.add_addresses.Goals as goal

pub loop-line-preserved : goal.loop-line-preserved
loop-line-preserved c = λ first. c.in_ok-add_note.ensures (c.loop-line.invariant first)
