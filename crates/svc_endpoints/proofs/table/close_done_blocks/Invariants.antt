use Rattle.svc_base.specs.Items.{list_of}
use Rattle.svc_endpoints.specs.Counts.{goes_by}
use Rattle.svc_endpoints.proofs.FirstLemmas.{KeptBlocks}
use Rattle.svc_endpoints.proofs.TableLemmas.{ClearedBlocks}
use Rattle.svc_endpoints.proofs.table.close_done_blocks.Given as goal

abbrev pub invariant-loop-at : goal.invariant-loop-at
invariant-loop-at l = record {
  cleared : ClearedBlocks (goes_by l.plan l.failed l.kept (list_of l.uses)) l.initial.blocks.items l.blocks.items l.initial.actions l.actions l.at;
  firsts : KeptBlocks (goes_by l.plan l.failed l.kept (list_of l.uses)) l.initial.blocks.items (list_of l.initial.firsts) (list_of l.firsts) l.at;
}
