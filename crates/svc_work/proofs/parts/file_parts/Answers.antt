use Rattle.std.proofs.Common.{arith}
use Rattle.svc_work.proofs.PartLemmas.{passed_none, passed_more, header_found, header_missing}
use Rattle.svc_work.proofs.parts.file_parts.Goals as goal

pub loop-line-init : goal.loop-line-init
loop-line-init c = record {
  passed = passed_none c.args.bytes.now;
  short = omega arith;
  shorter = omega arith;
}

pub returns-then-is_header-clause-parts : goal.returns-then-is_header-clause-parts
returns-then-is_header-clause-parts c =
    header_found c.args.bytes.now _ c.in-Some.line.now _ _ c.loop-line.invariant.passed c.in-Some.ensures.first (search c.if-is_header.ensures)

pub loop-line-preserved : goal.loop-line-preserved
loop-line-preserved c = record {
  passed = passed_more c.args.bytes.now _ c.in-Some.line.now _ _ c.loop-line.invariant.passed c.in-Some.ensures.cut c.in-Some.ensures.first
      (search c.if-is_header.ensures);
  short = omega (arith, c.in-Some.ensures.shorter);
  shorter = omega (arith, c.in-Some.ensures.shorter);
}

pub returns-clause-parts : goal.returns-clause-parts
returns-clause-parts c = header_missing c.args.bytes.now _ _ c.loop-line.invariant.passed c.in_default.ensures.first
