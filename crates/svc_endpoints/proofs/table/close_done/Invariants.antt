use Rattle.svc_base.specs.Items.{list_of}
use Rattle.svc_endpoints.specs.Counts.{goes_by}
use Rattle.svc_endpoints.proofs.FirstLemmas.{KeptUpTo}
use Rattle.svc_endpoints.proofs.TableLemmas.{ClearedUpTo}
use Rattle.svc_endpoints.proofs.table.close_done.Given as goal

abbrev pub invariant-loop-i : goal.invariant-loop-i
invariant-loop-i l = record {
  cleared : ClearedUpTo (goes_by l.plan l.failed l.kept (list_of l.uses)) l.initial.table.items l.table.items l.initial.actions l.actions l.left l.i;
  firsts : KeptUpTo (goes_by l.plan l.failed l.kept (list_of l.uses)) l.initial.table.items (list_of l.initial.firsts) (list_of l.firsts) l.i;
}
