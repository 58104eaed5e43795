use Rattle.std.proofs.Common.{◌≡◌, true, subst, sym, arith}
use Rattle.svc_record.specs.declared.item.Item.{Item}
use Rattle.svc_job_host.specs.JobHosts.{is_job_item}
use Rattle.svc_job_host.proofs.RangeLemmas.{all_at}
use Rattle.svc_job_host.proofs.upcoming.upcoming.Goals as goal

pub read_item-requires : goal.read_item-requires
read_item-requires c =
    subst (λ (x : Item). is_job_item x ≡ true) (sym c.index-items-index.is)
    (all_at is_job_item c.args.items.now c.args.index c.index-items-index.result c.requires (omega arith))
