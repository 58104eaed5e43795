use Rattle.std.proofs.Common.{◌≡◌, take, None}
use Rattle.std.specs.Option.{option_map}
use Rattle.svc_work.specs.Works.{path_after}
use Rattle.svc_work.proofs.works.file_path.Given as goal

abbrev pub invariant-loop-line : goal.invariant-loop-line
invariant-loop-line l = option_map (λ path. path.now) l.found ≡ path_after l.file l.service None (take l.line-index l.works)
