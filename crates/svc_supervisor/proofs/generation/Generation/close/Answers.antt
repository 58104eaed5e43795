use Rattle.std.proofs.Common.{ap, ◌∙◌}
use Rattle.std.specs.Prelude.{reverse}
use Rattle.svc_record.specs.Record.{Record}
use Rattle.svc_core.specs.CoreData.{CoreData}
use Rattle.svc_session.proofs.SessionLemmas.{closed-record}
use Rattle.svc_supervisor.specs.ChainData.{GenerationData}
use Rattle.svc_supervisor.proofs.generation.Generation.close.Goals as goal

pub returns : goal.returns
returns c =
    let was = c.args.self.now.session in
    let now = c.close.new.self in
    let s = c.requires.stands in
    let all = c.close.ensures.closes in
    record {
      closed = record {
        closed = ap (λ (k : CoreData). let d : GenerationData = record { plan = k.plan; history = reverse now.entries } in d) all.1.core
            ∙ ap (λ (q : Record). let d : GenerationData = record { plan = was.core.plan; history = q } in d) (closed-record was now all.0 all.1 s.stands);
        whole = (all.1.closes (reverse was.entries) s.stands).closed s.right;
      };
    }
