use Rattle.svc_messages.proofs.warning_lines.add_warnings.Goals as goal

pub returns : goal.returns
returns c = λ first. c.in_ok-add_addresses.ensures (c.in_ok-add_flags.ensures first)
