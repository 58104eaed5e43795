use Rattle.std.proofs.Common.{◌∙◌, length, sym, ap, arith}
use Rattle.svc_fds.proofs.VersionLemmas.{sayable-joined, written-joined, sayable-framed, written-framed}
use Rattle.svc_fds.proofs.encoding.said.Goals as goal

pub returns-in-Some-clause-said : goal.returns-in-Some-clause-said
returns-in-Some-clause-said c = let found = rw c.in-Some.is at c.in_ok-text.ensures in sayable-joined c.args.entries.now found.0

pub returns-in-Some-clause-text : goal.returns-in-Some-clause-text
returns-in-Some-clause-text c = let found = rw c.in-Some.is at c.in_ok-text.ensures in found.1 ∙ sym (written-joined c.args.entries.now found.0)

pub returns-clause-said : goal.returns-clause-said
returns-clause-said c =
    let size = c.len.ensures in
    sayable-framed c.args.entries.now c.requires (omega (arith, ap length c.in_ok-text-2.ensures.text))

pub returns-clause-text : goal.returns-clause-text
returns-clause-text c = let off = rw c.in_default.is at c.in_ok-text.ensures in c.in_ok-text-2.ensures.text ∙ sym (written-framed c.args.entries.now off)
