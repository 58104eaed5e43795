use Rattle.std.proofs.Common.{refl}
use Rattle.svc_text.proofs.RecordLineLemmas.{last_byte, last_ascii, two_numbers, three_numbers}
use Rattle.svc_text.proofs.record_lines.write_numbers.Goals as goal

pub returns-in-One-clause-written : goal.returns-in-One-clause-written
returns-in-One-clause-written c = rw (c.in-One.is, c.write_behind_space.ensures.written, last_byte _ c.told-line) refl

pub returns-in-One-clause-ascii : goal.returns-in-One-clause-ascii
returns-in-One-clause-ascii c = c.write_behind_space.ensures.ascii (last_ascii _ c.told-line)

pub returns-in-Two-clause-written : goal.returns-in-Two-clause-written
returns-in-Two-clause-written c =
    rw (c.in-Two.is, c.write_behind_space-in-Two.ensures.written, c.write_behind_space-at.ensures.written, last_byte _ c.told-line) (two_numbers _ _)

pub returns-in-Two-clause-ascii : goal.returns-in-Two-clause-ascii
returns-in-Two-clause-ascii c = c.write_behind_space-in-Two.ensures.ascii (c.write_behind_space-at.ensures.ascii (last_ascii _ c.told-line))

pub returns-in-Three-clause-written : goal.returns-in-Three-clause-written
returns-in-Three-clause-written c =
    rw (
      c.in-Three.is,
      c.write_behind_space-in-Three.ensures.written,
      c.write_behind_space-at-in-Three-2.ensures.written,
      c.write_behind_space-at-in-Three.ensures.written,
      last_byte _ c.told-line,
    )
    (three_numbers _ _ _)

pub returns-in-Three-clause-ascii : goal.returns-in-Three-clause-ascii
returns-in-Three-clause-ascii c =
    c.write_behind_space-in-Three.ensures.ascii
    (c.write_behind_space-at-in-Three-2.ensures.ascii (c.write_behind_space-at-in-Three.ensures.ascii (last_ascii _ c.told-line)))
