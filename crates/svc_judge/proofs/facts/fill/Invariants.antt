use Rattle.std.proofs.Common.{◌≡◌, ◌≤◌, [], filter, length}
use Rattle.std.specs.List.{filter_map}
use Rattle.svc_fds.specs.Tables.{put_all}
use Rattle.svc_record.specs.Descriptors.{as_entry}
use Rattle.svc_judge.specs.Facts.{is_unclosed}
use Rattle.svc_judge.proofs.facts.fill.Given as goal

abbrev pub invariant-opened : goal.invariant-opened
invariant-opened l =
    (length l.rest ≤ l.table.spare)
    × (put_all (filter_map as_entry (filter (is_unclosed l.entries) l.opened)) []
    ≡ put_all (filter_map as_entry (filter (is_unclosed l.entries) l.rest)) l.table.entries)

abbrev pub decreases-opened : goal.decreases-opened
decreases-opened l = length l.rest
