use Rattle.svc_generations.specs.Inputs.{block_parts_of}
use Rattle.std.proofs.Common.{◌≡◌, ◌∷◌, Bool, None, not, map, ap, subst, refl, arith, All}
use Rattle.svc_generations.specs.PlanReadings.{HasPlan}
use Rattle.std.proofs.lemmas.List.Elements.{All-rest}
use Rattle.svc_generations.specs.BlockReadings.{IsBlock}
use Rattle.svc_generations.proofs.PlanLemmas.{plans_begin, plans_more, plans_all, may_all, sound_all, edge_here}
use Rattle.std.proofs.lemmas.List.{length-map}
use Rattle.svc_supervisor.specs.Chains.{MayBegin}
use Rattle.svc_generations.proofs.plans.plans_of.Goals as goal

pub loop-block-init : goal.loop-block-init
loop-block-init c =
    record {
      plans = plans_begin
          (map block_parts_of c.args.blocks) c.new-plans.result c.new-plans.ensures.plans c.new-plans.ensures.services c.new-plans.ensures.refused;
      blocks = c.requires.blocks;
    }

pub plan_block-requires : goal.plan_block-requires
plan_block-requires c =
    (let all : All IsBlock (c.in-Some.block ∷ c.pop_first.new.self) = subst (All IsBlock) c.in-Some.ensures.items c.loop-block.invariant.blocks in
    all 0 c.in-Some.block (omega arith))

pub loop-block-preserved : goal.loop-block-preserved
loop-block-preserved c = record {
  plans =
      plans_more (block_parts_of c.in-Some.block)
      (map block_parts_of c.pop_first.new.self) _ _ c.loop-block.plans _ c.in-Ok.planned c.loop-block.invariant.plans
      (ap (map block_parts_of) c.in-Some.ensures.items)
      (subst (λ (e : Bool). HasPlan (not e) (block_parts_of c.in-Some.block) c.in-Ok.planned) c.is_empty-later.ensures c.in-Ok.ensures.plan)
      c.in-Ok.ensures.edges
      (subst (λ (e : Bool). c.in-Ok.planned.refused ≡ None → MayBegin (not e) c.in-Ok.planned.plan) c.is_empty-later.ensures c.in-Ok.ensures.may)
      c.in-Ok-add.ensures.plans c.in-Ok-add.ensures.services c.in-Ok-add.ensures.refused;
  blocks = All-rest IsBlock c.in-Some.block c.pop_first.new.self c.loop-block.blocks c.in-Some.ensures.items c.loop-block.invariant.blocks;
}

pub returns-in-Err : goal.returns-in-Err
returns-in-Err c = record {
  plans = tt;
  may = tt;
  edges = tt;
  refused = edge_here (block_parts_of c.in-Some.block)
      (map block_parts_of c.pop_first.new.self) _ _ c.loop-block.plans c.in-Err.error c.loop-block.invariant.plans
      (ap (map block_parts_of) c.in-Some.ensures.items) c.in-Err.ensures.refused;
}

pub returns-clause-plans : goal.returns-clause-plans
returns-clause-plans c = plans_all _ _ c.loop-block.plans c.loop-block.invariant.plans (ap (map block_parts_of) (c.in_default.ensures.none refl))

pub returns-clause-edges : goal.returns-clause-edges
returns-clause-edges c = sound_all _ _ c.loop-block.plans c.loop-block.invariant.plans (ap (map block_parts_of) (c.in_default.ensures.none refl))

pub returns-clause-may : goal.returns-clause-may
returns-clause-may c =
    may_all _ _ c.loop-block.plans c.loop-block.invariant.plans (ap (map block_parts_of) (c.in_default.ensures.none refl))
    (omega (arith, length-map c.args.blocks block_parts_of)) (omega (arith, length-map c.args.blocks block_parts_of))
