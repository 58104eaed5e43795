use Rattle.std.proofs.Common.{◌∙◌, arith}
use Rattle.svc_base.proofs.Pieces.{put_more}
use Rattle.svc_base.proofs.sink.write_all.Goals as goal

pub loop-at-preserved : goal.loop-at-preserved
loop-at-preserved g c = (
  omega (arith, c.in-Wrote.ensures.fits),
  put_more c.loop-at.at c.in-Wrote.count c.args.bytes.now _ _ _ c.loop-at.invariant.1 c.in-Wrote.ensures.bytes,
  c.in-Wrote.ensures.cause ∙ c.loop-at.invariant.2,
)
