use Rattle.std.proofs.Common.{arith}
use Rattle.svc_base.specs.Items.{list_of}
use Rattle.svc_base.specs.NumberSets.{is_in}
use Rattle.svc_endpoints.specs.declared.uses.UseCount.{UseCount}
use Rattle.svc_endpoints.specs.EndpointsState.{numbers_of_table}
use Rattle.svc_endpoints.proofs.BlockFilters.{filtered-next, filtered-end}
use Rattle.svc_endpoints.proofs.uses.keep_blocks.Goals as goal

pub loop-at-preserved : goal.loop-at-preserved
loop-at-preserved c =
    filtered-next (λ (u : UseCount). is_in u.fd (numbers_of_table (list_of c.args.table.now))) c.args.blocks.now.items c.loop-at.blocks.items c.loop-at.at
    c.index_mut.result.now (omega arith) c.index_mut.ensures.value c.loop-at.invariant c.keep_live.new.block c.keep_live.ensures

pub returns : goal.returns
returns c =
    filtered-end (λ (u : UseCount). is_in u.fd (numbers_of_table (list_of c.args.table.now))) c.args.blocks.now.items c.loop-at.blocks.items c.loop-at.at
    c.loop-at.invariant (omega arith)
