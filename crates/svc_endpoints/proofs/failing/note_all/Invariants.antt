use Rattle.std.proofs.Common.{◌≡◌, length, slice_index_or}
use Rattle.svc_base.specs.Items.{list_of}
use Rattle.svc_endpoints.specs.Failing.{AreListed}
use Rattle.svc_endpoints.proofs.failing.note_all.Given as goal

abbrev pub invariant-loop-i : goal.invariant-loop-i
invariant-loop-i l = record {
  len : length l.numbers ≡ 129;
  noted : AreListed l.plan l.row (list_of l.table) l.s l.i l.numbers;
  first : slice_index_or l.numbers 0 0 ≡ slice_index_or l.initial.numbers 0 0;
}
