use Rattle.std.proofs.Common.{◌≡◌, map, take}
use Rattle.svc_text.specs.Filters.{blocked_lists}
use Rattle.svc_services.specs.BlockedLists.{blocked_by}
use Rattle.svc_services.proofs.script_filter.filters_of.Given as goal

abbrev pub invariant-loop-line : goal.invariant-loop-line
invariant-loop-line l = map blocked_by l.filters ≡ blocked_lists (take l.line-index l.lines)
