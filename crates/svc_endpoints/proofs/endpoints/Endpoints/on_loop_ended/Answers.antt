use Rattle.std.proofs.Common.{ap, not, ◌∙◌}
use Rattle.std.specs.Option.{option_to_list}
use Rattle.svc_base.specs.Items.{list_of}
use Rattle.svc_base.specs.NumberSets.{is_in}
use Rattle.svc_endpoints.proofs.EndedLemmas.{tells-ended, few-ended}
use Rattle.svc_endpoints.proofs.StaysLemmas.{held-same, gains-filter}
use Rattle.svc_endpoints.specs.EndpointsData.{EndpointsData}
use Rattle.svc_endpoints.specs.declared.table.Open.{Open}
use Rattle.svc_endpoints.specs.Effects.{has_open}
use Rattle.svc_endpoints.proofs.endpoints.Endpoints.on_loop_ended.Goals as goal

pub returns-clause-stands : goal.returns-clause-stands
returns-clause-stands c =
    tells-ended c.args.plan.now c.args.self.now.parts c.end_loop.new.self.parts c.close_drained.new.self.parts c.args.s c.args.i c.args.j c.args.kept.now
    (option_to_list c.drained_at-drained.result) (list_of c.args.actions.now) (list_of c.close_drained.new.actions)
    c.end_loop.ensures c.close_drained.ensures.after c.close_drained.ensures.told c.requires.sized c.drained_at-drained.ensures

pub returns-clause-few : goal.returns-clause-few
returns-clause-few c =
    few-ended c.args.plan.now c.args.self.now.parts c.end_loop.new.self.parts c.close_drained.new.self.parts c.args.s c.args.i c.args.j c.args.kept.now
    (option_to_list c.drained_at-drained.result) (list_of c.args.actions.now) (list_of c.close_drained.new.actions)
    c.end_loop.ensures c.close_drained.ensures.after c.close_drained.ensures.told

pub returns-clause-held : goal.returns-clause-held
returns-clause-held c =
    held-same c.args.self.now.parts c.close_drained.new.self.parts
    (ap (λ (m : EndpointsData). m.rows) c.close_drained.ensures.after ∙ ap (λ (m : EndpointsData). m.rows) c.end_loop.ensures)

pub returns-clause-gains : goal.returns-clause-gains
returns-clause-gains c =
    λ a none. gains-filter c.end_loop.new.self.parts c.close_drained.new.self.parts
    (λ (o : Open). not (is_in o.fd (option_to_list c.drained_at-drained.result)))
    (ap (λ (m : EndpointsData). m.table) c.close_drained.ensures.after) a (ap (λ (m : EndpointsData). has_open m.table a) c.end_loop.ensures ∙ none)
