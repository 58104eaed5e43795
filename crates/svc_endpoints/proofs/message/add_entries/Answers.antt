use Rattle.std.proofs.Common.{arith, ap, ◌∙◌}
use Rattle.std.specs.Option.{option_to_list}
use Rattle.svc_fds.specs.Tables.{put_all}
use Rattle.svc_endpoints.specs.Offered.{open_entry}
use Rattle.svc_endpoints.proofs.MessageLemmas.{put_all-next}
use Rattle.svc_endpoints.proofs.message.add_entries.Goals as goal

pub loop-entry-preserved : goal.loop-entry-preserved
loop-entry-preserved c =
    let kept = c.loop-entry.invariant in
    let left = c.in_ok-add_entry.ensures.room in
    record {
      room = omega (arith, kept.room, left);
      added = c.in_ok-add_entry.ensures.entries ∙ ap (λ es. put_all (option_to_list (open_entry c.entry-item.result)) es) kept.added
          ∙ put_all-next c.args.entries.now c.loop-entry.entry-index c.entry-item.result c.args.fds.now.entries (omega arith) c.entry-item.is;
    }
