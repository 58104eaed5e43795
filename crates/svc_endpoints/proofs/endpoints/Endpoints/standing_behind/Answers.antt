use Rattle.std.proofs.Common.{arith, subst, ◌≡◌, true, Option, List, ℕ}
use Rattle.svc_record.specs.Plans.{address, same_address}
use Rattle.svc_endpoints.proofs.endpoints.Endpoints.standing_behind.Goals as goal

pub returns-then-asks_with : goal.returns-then-asks_with
returns-then-asks_with c = λ moment.
    let with = c.asks_with.ensures c.if-asks_with.true in
    let n = c.service_count.ensures in
    record {
      inside = omega (arith, n);
      shares = record {
        at = c.args.j;
        first = c.requires.first;
        none = c.requires.none;
        other = c.last_asked-t.result.1;
        other_first = with.first;
        same = subst
            (λ (a : Option (List ℕ)). same_address (address c.args.plan.now c.last_asked-t.result.0 c.last_asked-t.result.1) a ≡ true) c.address_of-text.ensures
            with.same;
      };
      asks = with.asks;
    }
