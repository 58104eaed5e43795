use Rattle.std.proofs.Common.{List, ap, subst, ◌∙◌, ◌++◌, arith, map, length}
use Rattle.svc_base.specs.Items.{list_of}
use Rattle.svc_record.specs.declared.action.Action.TheVariants.{Close}
use Rattle.svc_endpoints.specs.EndpointsState.{open_numbers}
use Rattle.svc_endpoints.specs.declared.table.Open.{Open}
use Rattle.svc_endpoints.specs.Failing.{HasOwn}
use Rattle.svc_endpoints.proofs.OwnLemmas.{all-live, own-live, live-left, live-gone}
use Rattle.svc_endpoints.proofs.endpoints.Endpoints.close_own.Goals as goal

pub returns-then-not-claims_none : goal.returns-then-not-claims_none
returns-then-not-claims_none c =
    let d = c.args.self.now.parts in
    record {
      own = open_numbers d;
      has = all-live c.args.plan.now d c.args.s c.args.offered;
      left = c.clear.ensures.after ∙ live-left c.args.plan.now c.args.kept.now d;
      told = c.clear.ensures.told ∙ ap (λ ns. list_of c.args.actions.now ++ map Close ns) (live-gone c.args.plan.now c.args.kept.now d);
      room = (let room = c.clear.ensures.room in omega (arith, room));
    }

pub returns : goal.returns
returns c =
    let d = c.args.self.now.parts in
    record {
      own = c.own_numbers-own.result;
      has = own-live c.args.plan.now d c.args.s c.args.offered c.row-row.result.now c.own_numbers-own.result c.row-row.ensures
          (ap length c.row-row.ensures ∙ c.requires.sized.each c.args.s c.requires.service) (c.claims_none.ensures c.if-not-claims_none.false)
          (subst (λ (t : List Open). HasOwn c.args.plan.now c.row-row.result.now t c.args.s c.args.offered c.own_numbers-own.result) c.table.ensures
          c.own_numbers-own.ensures.own);
      left = c.close_among.ensures.left;
      told = c.close_among.ensures.told;
      room = (let room = c.close_among.ensures.room in omega (arith, room));
    }
