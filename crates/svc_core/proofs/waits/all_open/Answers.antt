use Rattle.std.proofs.Common.{inl, inr, ◌&&◌, ◌==◌, ◌∙◌, arith}
use Rattle.std.proofs.lemmas.Bool.{cases_eq, eq-eqb, or_left, or_right}
use Rattle.svc_graph.specs.Bits.{is_set}
use Rattle.svc_core.proofs.waits.all_open.Goals as goal

pub loop-k-preserved : goal.loop-k-preserved
loop-k-preserved c = record {
  rows = (let room = c.loop-k.invariant.rows in let same = c.set.ensures.len in omega arith);
  are_set = λ j lt. c.set.ensures.bits 0 j ∙ elim (cases_eq j c.loop-k.k) [
    | inl here ↦ or_right (is_set c.loop-k.bits 0 j) (0 == 0 && j == c.loop-k.k) (eq-eqb j c.loop-k.k here)
    | inr ne ↦ or_left (is_set c.loop-k.bits 0 j) (0 == 0 && j == c.loop-k.k) (c.loop-k.invariant.are_set j (omega arith))
  ];
}
