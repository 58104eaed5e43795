use Rattle.std.proofs.Common.{◌≡◌, ℕ, List, sym, ap, ◌∙◌}
use Rattle.svc_base.specs.NumberSets.{ascending}
use Rattle.svc_record.specs.Record.{Record}
use Rattle.svc_record.specs.Connections.{live_connections}
use Rattle.svc_record.specs.Descriptors.{Descriptor}
use Rattle.svc_record.specs.Drain.{live_numbers}
use Rattle.svc_judge.specs.Numbers.{unclosed_in}
use Rattle.svc_judge.specs.Endings.{before_ends, is_there}
use Rattle.svc_judge.specs.Pasts.{plan_of, record_of}
use Rattle.svc_judge.proofs.EndingLemmas.{ends_by_strips}
use Rattle.svc_judge.proofs.ending.ends_right.Goals as goal

pub returns : goal.returns
returns c =
    let p = plan_of c.args.at.now in
    let q : Record = record_of c.args.at.now in
    let r = c.args.entries.now in
    let cs : c.deref.result.now ≡ ascending (live_connections q) = c.deref.ensures.value ∙ c.in_ok-connections.ensures in
    let fds : c.deref-2.result.now ≡ ascending (live_numbers p q) =
    c.deref-2.ensures.value ∙ c.in_ok-descriptors.ensures ∙ ap (λ (ds : List Descriptor). ascending (unclosed_in q ds)) c.requires.opened in
    c.ends_with.ensures
    ∙ ap (λ (ns : List ℕ). is_there (before_ends p q ns c.deref-2.result.now r)) cs
    ∙ ap (λ (ns : List ℕ). is_there (before_ends p q (ascending (live_connections q)) ns r)) fds
    ∙ sym (ends_by_strips p q r)
