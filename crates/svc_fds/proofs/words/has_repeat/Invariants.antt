use Rattle.std.proofs.Common.{◌≡◌, drop}
use Rattle.svc_fds.specs.Lists.{has_repeat}
use Rattle.svc_fds.proofs.words.has_repeat.Given as goal

-- what is left tells
abbrev pub invariant-loop-index : goal.invariant-loop-index
invariant-loop-index l = has_repeat (drop l.index l.texts) ≡ has_repeat l.texts
