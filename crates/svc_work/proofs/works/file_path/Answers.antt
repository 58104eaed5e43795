use Rattle.std.proofs.Common.{ℕ, List, Option, None, take, ap, ◌∙◌}
use Rattle.std.specs.Option.{option_or}
use Rattle.svc_work.specs.Works.{path_after}
use Rattle.svc_work.proofs.FileLemmas.{path_more}
use Rattle.svc_work.proofs.works.file_path.Goals as goal
use Rattle.svc_work.proofs.works.file_path.Goals.{in-Some, in_default}

pub loop-line-preserved : goal.loop-line-preserved
loop-line-preserved c =
    let more = path_more c.args.file c.args.service None c.args.works.now c.line-item.result c.loop-line.line-index c.loop-line-test.true c.line-item.is in
    let old : Option (List ℕ) = path_after c.args.file c.args.service None (take c.loop-line.line-index c.args.works.now) in
    elim c.match-path_in.branch [
      | in-Some w ↦ rw (w.found-is, more) (ap (λ (path : Option (List ℕ)). option_or path old) w.in-Some.ensures)
      | in_default w ↦ rw (w.found-is, more) (c.loop-line.invariant ∙ ap (λ (path : Option (List ℕ)). option_or path old) w.in_default.ensures)
    ]
