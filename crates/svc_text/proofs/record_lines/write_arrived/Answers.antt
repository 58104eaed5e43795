use Rattle.std.proofs.Common.{arith, ◌≡◌, ◌≤◌, [], length, drop}
use Rattle.std.proofs.lemmas.Str.Ascii.{IsAscii-nil}
use Rattle.std.proofs.Math.ListN.{drop_of_length-le}
use Rattle.svc_text.proofs.RecordLineLemmas.{one_text, number_ascii}
use Rattle.svc_text.proofs.record_lines.write_arrived.Goals as goal

pub returns-clause-written : goal.returns-clause-written
returns-clause-written c =
    let long : length c.args.line.now ≤ 168 = omega (arith, c.told-line) in
    let none : drop 168 c.args.line.now ≡ [] = drop_of_length-le c.args.line.now long in
    rw (
      c.write_before.ensures.written,
      c.write_before-at-7.ensures.written,
      c.write_before-at-6.ensures.written,
      c.write_before-at-5.ensures.written,
      c.write_before-at-4.ensures.written,
      c.write_before-at-3.ensures.written,
      c.write_before-at-2.ensures.written,
      c.write_before-at.ensures.written,
      none,
    )
    (one_text _ _ _ _ _ _ _ _)

pub returns-clause-ascii : goal.returns-clause-ascii
returns-clause-ascii c =
    let long : length c.args.line.now ≤ 168 = omega (arith, c.told-line) in
    let none : drop 168 c.args.line.now ≡ [] = drop_of_length-le c.args.line.now long in
    let ip = c.ranges.ip.fits in
    rw (
      c.write_before.ensures.written,
      c.write_before-at-7.ensures.written,
      c.write_before-at-6.ensures.written,
      c.write_before-at-5.ensures.written,
      c.write_before-at-4.ensures.written,
      c.write_before-at-3.ensures.written,
      c.write_before-at-2.ensures.written,
      c.write_before-at.ensures.written,
      none,
    )
    (number_ascii _ 32 _ (omega (arith, c.ranges.s.fits)) (omega arith)
    (number_ascii _ 32 _ (omega (arith, c.ranges.i.fits)) (omega arith) (number_ascii _ 32 _ (omega (arith, c.ranges.c.fits)) (omega arith)
    (number_ascii _ 46 _ (omega (arith, ip)) (omega arith)
    (number_ascii _ 46 _ (omega (arith, ip)) (omega arith)
    (number_ascii _ 46 _ (omega (arith, ip)) (omega arith) (number_ascii _ 58 _ (omega (arith, ip)) (omega arith)
    (number_ascii _ 10 _ (omega (arith, c.ranges.port.fits)) (omega arith) IsAscii-nil))))))))
