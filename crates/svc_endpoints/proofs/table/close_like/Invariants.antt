use Rattle.std.proofs.Common.{length}
use Rattle.svc_base.specs.Items.{list_of}
use Rattle.svc_endpoints.specs.Firsts.{Follows}
use Rattle.svc_endpoints.proofs.TableLemmas.{ClosingLike}
use Rattle.svc_endpoints.proofs.table.close_like.Given as goal

-- those that are still there, and what is told of the others
abbrev pub invariant-loop-closed : goal.invariant-loop-closed
invariant-loop-closed l = record {
  closing : ClosingLike l.fd (list_of l.initial.table) (list_of l.table) l.initial.actions l.actions;
  firsts : Follows (list_of l.initial.table) (list_of l.table) (list_of l.initial.firsts) (list_of l.firsts);
}

abbrev pub decreases-loop-closed : goal.decreases-loop-closed
decreases-loop-closed l = length (list_of l.table)
