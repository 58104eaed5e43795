use Rattle.std.proofs.Common.{ap, ◌∙◌, ◌++◌, ◌∷◌, [], arith, map}
use Rattle.std.proofs.lemmas.List.{append_assoc}
use Rattle.svc_base.specs.Items.{list_of}
use Rattle.svc_record.specs.declared.action.Action.TheVariants.{Fail, Close}
use Rattle.svc_endpoints.specs.Failing.{gone_among}
use Rattle.svc_endpoints.proofs.endpoints.Endpoints.give_up.Goals as goal

pub returns : goal.returns
returns c =
    let closes = c.close_own.ensures in
    let gone = map Close (gone_among c.args.plan.now c.args.kept.now closes.own c.args.self.now.parts) in
    record {
      own = closes.own;
      has = closes.has;
      left = closes.left;
      told = closes.told ∙ ap (λ l. l ++ gone) c.put.ensures.items ∙ append_assoc (list_of c.args.actions.now) (Fail c.args.s ∷ []) gone;
      room = (let room = closes.room in let put = c.put.ensures.room in omega (arith, room, put));
    }
