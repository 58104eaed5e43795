use Rattle.std.proofs.Common.{arith}
use Rattle.svc_text.proofs.RecordLineLemmas.{number_short}
use Rattle.svc_text.proofs.record_lines.write_before.Goals as goal

pub write_digits-requires : goal.write_digits-requires
write_digits-requires c =
    let short = number_short c.args.n c.ranges.n.fits in (omega (arith, short, c.requires), omega (arith, c.requires, c.told-line))

pub returns-clause-start : goal.returns-clause-start
returns-clause-start c =
    (omega (arith, c.write_digits.ensures.start), omega (arith, c.write_digits.ensures.start, number_short c.args.n c.ranges.n.fits, c.requires))
