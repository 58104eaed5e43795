use Rattle.std.proofs.Common.{List, [], take}
use Rattle.std.specs.Prelude.{reverse}
use Rattle.svc_generations.specs.Inputs.{BlockParts}
use Rattle.svc_generations.specs.Servings.{IsServing, IsOpen}
use Rattle.svc_generations.proofs.serving.Serving.take_all.Given as goal

abbrev pub invariant-loop-k : goal.invariant-loop-k
invariant-loop-k l = record {
  serving : (blocks : List BlockParts) → IsServing blocks [] l.fn.self → IsServing blocks (reverse (take l.k l.steps)) l.self;
  going : IsOpen l.self;
}
