use Rattle.svc_messages.proofs.warning_lines.add_flags.Goals as goal

pub returns : goal.returns
returns c = λ first. c.in_ok-add_flag-3.ensures (c.in_ok-add_flag-2.ensures (c.in_ok-add_flag.ensures first))
