use Rattle.std.proofs.Common.{arith, subst, sym}
use Rattle.std.specs.Str.{IsAscii}
use Rattle.svc_text.proofs.RecordLineLemmas.{number_short, one_before, space_ascii}
use Rattle.svc_text.proofs.record_lines.write_behind_space.Goals as goal

pub write_digits-at-requires : goal.write_digits-at-requires
write_digits-at-requires c = let short = number_short c.args.n c.ranges.n.fits in (omega (arith, short, c.requires), omega (arith, c.requires, c.told-line))

pub overflow_sub-line : goal.overflow_sub-line
overflow_sub-line c = omega (arith, c.write_digits-at.ensures.start, number_short c.args.n c.ranges.n.fits, c.requires)

pub overflow_sub-result : goal.overflow_sub-result
overflow_sub-result c = omega (arith, c.write_digits-at.ensures.start, number_short c.args.n c.ranges.n.fits, c.requires)

pub returns-clause-start : goal.returns-clause-start
returns-clause-start c =
    (omega (arith, c.write_digits-at.ensures.start), omega (arith, c.write_digits-at.ensures.start, number_short c.args.n c.ranges.n.fits, c.requires))

pub returns-clause-written : goal.returns-clause-written
returns-clause-written c =
    one_before _ _ _ _ c.args.end 32 c.write_digits-at.ensures.start (number_short c.args.n c.ranges.n.fits) c.requires.0
    (omega (arith, c.requires, c.told-line, c.write_digits-at.auto.buf)) c.write_digits-at.ensures.written

pub returns-clause-ascii : goal.returns-clause-ascii
returns-clause-ascii c behind = subst IsAscii (sym (returns-clause-written c)) (space_ascii c.args.n _ c.ranges.n.fits behind)
