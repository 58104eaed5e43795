use Rattle.std.proofs.Common.{◌≡◌, true}
use Rattle.svc_base.specs.Items.{list_of}
use Rattle.svc_endpoints.specs.Counts.{changed_to, row_share}
use Rattle.svc_endpoints.proofs.endpoints.fail_shares.Given as goal

-- so many endpoints hold nothing any more
abbrev pub invariant-loop-i : goal.invariant-loop-i
invariant-loop-i l = list_of l.uses
    ≡ changed_to (row_share l.failed (list_of l.loops) l.tasks l.s l.row) (row_share true (list_of l.loops) l.tasks l.s l.row) l.i (list_of l.initial.uses)
