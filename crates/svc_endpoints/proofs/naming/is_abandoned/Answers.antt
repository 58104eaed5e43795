use Rattle.std.proofs.Common.{sym, ◌∙◌, ap, ◌&&◌, ◌||◌, not, false, slice_index_or}
use Rattle.std.specs.List.{list_all}
use Rattle.svc_record.specs.Plans.{services, names}
use Rattle.svc_endpoints.proofs.AbandonedLemmas.{any-failed}
use Rattle.svc_endpoints.proofs.naming.is_abandoned.Goals as goal

pub returns-then-is_named_by_failed : goal.returns-then-is_named_by_failed
returns-then-is_named_by_failed c =
    c.all_failed.ensures
    ∙ ap (λ b. b && list_all (λ s. not (names c.args.plan.now s c.args.address.now) || slice_index_or c.args.failed.now s false) (services c.args.plan.now))
    (sym c.if-is_named_by_failed.true ∙ c.is_named_by_failed.ensures)
    ∙ any-failed (λ s. names c.args.plan.now s c.args.address.now) (λ s. slice_index_or c.args.failed.now s false) (services c.args.plan.now)

pub returns-else-is_named_by_failed : goal.returns-else-is_named_by_failed
returns-else-is_named_by_failed c =
    c.if-is_named_by_failed.false
    ∙ ap (λ b. b && list_all (λ s. not (names c.args.plan.now s c.args.address.now) || slice_index_or c.args.failed.now s false) (services c.args.plan.now))
    (sym c.if-is_named_by_failed.false ∙ c.is_named_by_failed.ensures)
    ∙ any-failed (λ s. names c.args.plan.now s c.args.address.now) (λ s. slice_index_or c.args.failed.now s false) (services c.args.plan.now)
