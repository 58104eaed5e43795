use Rattle.std.proofs.Common.{◌≡◌, ◌++◌, take, drop, true}
use Rattle.svc_conf.specs.TextLines.{before_comment}
use Rattle.svc_conf.proofs.server.configuration.cuts.before_comment.Given as goal

abbrev pub invariant-loop-i : goal.invariant-loop-i
invariant-loop-i l = take l.i l.value ++ before_comment l.free (drop l.i l.value) ≡ before_comment true l.value
