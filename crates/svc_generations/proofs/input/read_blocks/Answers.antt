use Rattle.std.proofs.Common.{◌+◌, ◌-◌, map, arith, ap, sym, subst, ◌∙◌, ◌∷◌, [], All}
use Rattle.std.proofs.lemmas.List.Elements.{All-nil, All-push}
use Rattle.svc_generations.specs.BlockReadings.{IsBlock}
use Rattle.std.proofs.lemmas.List.{map-append}
use Rattle.svc_generations.specs.Inputs.{block_parts_of}
use Rattle.svc_generations.proofs.InputLemmas.{blocks_none, block_taken, blocks_full, blocks_all}
use Rattle.svc_generations.proofs.input.read_blocks.Goals as goal

pub loop-after-init : goal.loop-after-init
loop-after-init c = record { said = rw c.new-blocks.ensures (blocks_none _); room = omega arith; blocks = rw c.new-blocks.ensures (All-nil IsBlock) }

pub returns-then-left-eq0-clause-read : goal.returns-then-left-eq0-clause-read
returns-then-left-eq0-clause-read c =
    blocks_full (map block_parts_of c.loop-after.blocks) _ c.loop-after.left c.loop-after.passed c.loop-after.rest.now c.in-Some.after.now c.if-left-eq0.true
    c.in-Some.ensures.first c.loop-after.invariant.said

pub loop-after-preserved : goal.loop-after-preserved
loop-after-preserved c =
    let read = c.in-Ok.ensures in
    let pushed = c.in-Ok-push.ensures.ok in
    record {
      said = block_taken (map block_parts_of c.loop-after.blocks) (map block_parts_of c.push.new.self) (block_parts_of c.in-Ok.read.0) _ c.loop-after.left
          (c.loop-after.left - 1) c.loop-after.passed
          (c.loop-after.passed + (1 + c.in-Ok.read.1)) c.in-Ok.read.1 c.loop-after.rest.now c.in-Some.after.now c.in-Ok.read.2.now
          (let some = c.if-left-eq0.false in omega arith) c.in-Some.ensures.first read.says read.before read.own read.count read.rest (omega arith)
          (ap (map block_parts_of) pushed ∙ map-append block_parts_of c.loop-after.blocks (c.in-Ok.read.0 ∷ [])) c.loop-after.invariant.said;
      room = let room = c.loop-after.invariant.room in omega (arith, read.short, c.in-Some.ensures.shorter);
      blocks = subst (All IsBlock) (sym pushed) (All-push IsBlock c.loop-after.blocks c.in-Ok.read.0 c.loop-after.invariant.blocks read.is_block);
    }

pub returns-in-Ok-steps_behind-clause-read : goal.returns-in-Ok-steps_behind-clause-read
returns-in-Ok-steps_behind-clause-read c =
    blocks_all (map block_parts_of c.loop-after.blocks) _ c.in-Ok-steps_behind.steps.items c.loop-after.left c.loop-after.passed c.loop-after.rest.now
    c.in_default.ensures.first c.in-Ok-steps_behind.ensures c.loop-after.invariant.said
