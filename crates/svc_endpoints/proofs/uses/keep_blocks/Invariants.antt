use Rattle.svc_base.specs.Items.{list_of}
use Rattle.svc_base.specs.NumberSets.{is_in}
use Rattle.svc_endpoints.specs.declared.uses.UseCount.{UseCount}
use Rattle.svc_endpoints.specs.EndpointsState.{numbers_of_table}
use Rattle.svc_endpoints.proofs.BlockFilters.{FilteredBlocks}
use Rattle.svc_endpoints.proofs.uses.keep_blocks.Given as goal

abbrev pub invariant-loop-at : goal.invariant-loop-at
invariant-loop-at l = FilteredBlocks (λ (u : UseCount). is_in u.fd (numbers_of_table (list_of l.table))) l.initial.blocks.items l.blocks.items l.at
