use Rattle.std.proofs.Common.{◌≡◌, List, length, Option}
use Rattle.svc_record.specs.declared.item.Item.{Item}
use Rattle.svc_record.specs.declared.action.StepEnd.TheVariants as ends
use Rattle.svc_record.specs.Record.{Record}
use Rattle.svc_record.specs.Connections.{Verdict}
use Rattle.svc_streams.specs.Verdicts.{verdict_at}
use Rattle.svc_server.specs.Judges.{Judges}
use Rattle.svc_server.specs.Runs.{IsUnfailed}
use Rattle.svc_server.specs.Handing.{names_left}
use Rattle.svc_server.specs.Turns.{IsAt, IsAhead, HasRoom, HasNotFallen}
use Rattle.svc_server.proofs.turns.Run.take_turns.Given as goal

abbrev pub invariant-loop-k : goal.invariant-loop-k
invariant-loop-k g l = record {
  at : (verdict : Verdict) (before : Option (List Item)) (q : Record)
      → IsAt l.initial.self.core (names_left g.B.ServiceWithDependents.named l.initial.self.pending) (g.H.Host.account l.initial.host) 0 ends.On q
      → IsAhead before (g.H.Host.ahead l.initial.host) q
      → Judges verdict (verdict_at g.F.ConnectionFilter.verdict l.initial.self.filters) l.initial.self.core.plan q
      → (t : Record)
      × (IsAt l.self.core (names_left g.B.ServiceWithDependents.named l.self.pending) (g.H.Host.account l.host) l.k ends.On t
      × (IsAhead before (g.H.Host.ahead l.host) t × Judges verdict (verdict_at g.F.ConnectionFilter.verdict l.self.filters) l.self.core.plan t));
  room : HasRoom l.self.core l.self.closing (g.H.Host.spare l.host);
  filters : length l.self.filters ≡ length l.initial.self.filters;
  plan : l.self.core.plan ≡ l.initial.self.core.plan;
  unfailed : IsUnfailed (g.H.Host.counts l.initial.host) (g.H.Host.counts l.host);
  made : g.H.Host.made_of l.host ≡ g.H.Host.made_of l.initial.host;
  failures : HasNotFallen (g.H.Host.counts l.initial.host).failures (g.H.Host.counts l.host).failures;
}
