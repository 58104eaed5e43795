use Rattle.std.proofs.Common.{◌≡◌, ◌≤◌, ◌+◌, ◌++◌, map, drop, length}
use Rattle.svc_base.specs.Items.{list_of, spare}
use Rattle.svc_record.specs.declared.action.Action.TheVariants.{Close}
use Rattle.svc_endpoints.specs.EndpointsState.{IsEndpointsSized}
use Rattle.svc_endpoints.specs.Failing.{left_among, gone_among}
use Rattle.svc_endpoints.proofs.endpoints.Endpoints.close_among.Given as goal

abbrev pub invariant-loop-fd : goal.invariant-loop-fd
invariant-loop-fd l = record {
  sized : IsEndpointsSized l.plan l.self.parts;
  left : left_among l.plan l.kept (drop l.fd-index l.own) l.self.parts ≡ left_among l.plan l.kept l.own l.initial.self.parts;
  told : list_of l.actions ++ map Close (gone_among l.plan l.kept (drop l.fd-index l.own) l.self.parts)
      ≡ list_of l.initial.actions ++ map Close (gone_among l.plan l.kept l.own l.initial.self.parts);
  room : spare l.initial.actions + length l.self.parts.table ≤ spare l.actions + length l.initial.self.parts.table;
}
