use Rattle.std.proofs.Common.{◌≡◌, ◌≤◌, ◌+◌, ◌*◌, length, reverse}
use Rattle.svc_base.specs.Items.{list_of}
use Rattle.svc_record.specs.declared.plan.Plan.{Plan}
use Rattle.svc_record.specs.Record.{Record, tell}
use Rattle.svc_server.specs.Handing.{names_left, Hands, DueStarts}
use Rattle.svc_server.proofs.HandLemmas.{Leads}
use Rattle.svc_server.proofs.handing.tell_all.Given as goal

abbrev pub invariant-loop-action : goal.invariant-loop-action
invariant-loop-action g l = record {
  hands : (p : Plan) (q : Record) → Hands (names_left g.B.ServiceWithDependents.named l.initial.pending) (g.H.Host.account l.initial.host) p q
      → DueStarts p q (reverse (list_of l.initial.actions))
      → Leads (names_left g.B.ServiceWithDependents.named l.pending) (g.H.Host.account l.host) p (reverse (list_of l.actions))
      (tell q (reverse (list_of l.initial.actions)));
  room : g.H.Host.spare l.initial.host + 2 * length (reverse (list_of l.actions)) ≤ g.H.Host.spare l.host + 2 * length (reverse (list_of l.initial.actions));
  counts : g.H.Host.counts l.host ≡ g.H.Host.counts l.initial.host;
  ahead : g.H.Host.ahead l.host ≡ g.H.Host.ahead l.initial.host;
  made : g.H.Host.made_of l.host ≡ g.H.Host.made_of l.initial.host;
}

abbrev pub decreases-loop-action : goal.decreases-loop-action
decreases-loop-action g l = length (reverse (list_of l.actions))
