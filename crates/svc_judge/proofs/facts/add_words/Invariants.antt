use Rattle.std.proofs.Common.{◌≡◌, ◌++◌, length}
use Rattle.svc_record.specs.Descriptors.{with_words}
use Rattle.svc_judge.proofs.facts.add_words.Given as goal

abbrev pub invariant-numbers : goal.invariant-numbers
invariant-numbers l = l.initial.opened.items ++ with_words l.fds l.texts ≡ l.opened.items ++ with_words l.rest l.left

abbrev pub decreases-numbers : goal.decreases-numbers
decreases-numbers l = length l.rest
