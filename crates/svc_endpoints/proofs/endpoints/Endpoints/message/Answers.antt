use Rattle.std.proofs.Common.{ap, ◌∙◌, ◌≡◌}
use Rattle.std.proofs.lemmas.Result.{IfOk-weaker}
use Rattle.svc_base.specs.Items.{list_of}
use Rattle.svc_record.specs.declared.plan.Plan.{Plan}
use Rattle.svc_record.specs.Record.{Record}
use Rattle.svc_record.specs.Descriptors.{live_table}
use Rattle.svc_record.specs.Message.{encode}
use Rattle.svc_endpoints.specs.EndpointsState.{EndpointsStand}
use Rattle.svc_endpoints.specs.Offered.{offer_table}
use Rattle.svc_endpoints.proofs.MessageLemmas.{offer-is}
use Rattle.svc_endpoints.proofs.endpoints.Endpoints.message.Goals as goal

pub returns : goal.returns
returns c =
    IfOk-weaker c.filled-message.result (λ m. m ≡ encode (offer_table (list_of c.table.result.now)))
    (λ m. (p : Plan) (q : Record) → EndpointsStand p c.args.self.now.parts q → m ≡ encode (live_table p q))
    (λ m told p q h. told ∙ ap (λ t. encode (offer_table t)) c.table.ensures ∙ ap encode (offer-is p c.args.self.now.parts q h)) c.filled-message.ensures
