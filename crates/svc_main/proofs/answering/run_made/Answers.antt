use Rattle.std.proofs.Common.{sym}
use Rattle.svc_main.specs.Generator.{made_parts, no_flags}
use Rattle.svc_main.proofs.MadeRuns.{ran_made, made_fit}
use Rattle.svc_main.proofs.answering.run_made.Goals as goal

pub counted-requires : goal.counted-requires
counted-requires c =
    made_fit c.args.n c.in_ok-left.left.end _ c.requires.size
    (c.in_ok-left.ensures no_flags (made_parts c.args.n) c.requires.server (sym c.requires.items))

pub returns : goal.returns
returns c =
    ran_made c.args.n c.in_ok-left.left.end _ c.counted.result c.requires.size c.counted.ensures
    (c.in_ok-left.ensures no_flags (made_parts c.args.n) c.requires.server (sym c.requires.items))
