use Rattle.std.proofs.Common.{ap, ◌∙◌, ◌++◌, sym, map}
use Rattle.std.specs.Option.{option_to_list}
use Rattle.std.proofs.lemmas.List.{append-nil}
use Rattle.svc_base.specs.Items.{list_of}
use Rattle.svc_record.specs.declared.action.Action.TheVariants.{Close}
use Rattle.svc_endpoints.specs.Effects.{closed_out, numbers_among}
use Rattle.svc_endpoints.proofs.DrainedLemmas.{none-among, none-out, one-among, one-out}
use Rattle.svc_endpoints.proofs.endpoints.Endpoints.close_drained.Goals as goal

pub returns-in-Some-clause-after : goal.returns-in-Some-clause-after
returns-in-Some-clause-after c =
    c.close_number.ensures.after ∙ one-out c.in-Some.fd c.args.self.now.parts
    ∙ ap (λ n. closed_out (option_to_list n) c.args.self.now.parts) (sym c.in-Some.is)

pub returns-in-Some-clause-told : goal.returns-in-Some-clause-told
returns-in-Some-clause-told c =
    c.close_number.ensures.told ∙ ap (λ ns. list_of c.args.actions.now ++ map Close ns)
    (one-among c.in-Some.fd c.args.self.now.parts.table ∙ ap (λ n. numbers_among (option_to_list n) c.args.self.now.parts.table) (sym c.in-Some.is))

pub returns-in_default-clause-after : goal.returns-in_default-clause-after
returns-in_default-clause-after c =
    none-out c.args.self.now.parts ∙ ap (λ n. closed_out (option_to_list n) c.args.self.now.parts) (sym c.in_default.is)

pub returns-in_default-clause-told : goal.returns-in_default-clause-told
returns-in_default-clause-told c =
    sym (append-nil (list_of c.args.actions.now)) ∙ ap (λ ns. list_of c.args.actions.now ++ map Close ns)
    (none-among c.args.self.now.parts.table ∙ ap (λ n. numbers_among (option_to_list n) c.args.self.now.parts.table) (sym c.in_default.is))
