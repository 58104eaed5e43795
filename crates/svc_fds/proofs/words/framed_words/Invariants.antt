use Rattle.std.proofs.Common.{◌≡◌, ◌++◌, List, ℕ, length}
use Rattle.std.specs.Option.{option_map}
use Rattle.svc_fds.specs.Messages.{framed_words}
use Rattle.svc_fds.proofs.words.framed_words.Given as goal

-- the words so far, and those of what is left
abbrev pub invariant-loop-rest : goal.invariant-loop-rest
invariant-loop-rest l = option_map (λ (words : List (List ℕ)). l.found.items ++ words) (framed_words l.rest) ≡ framed_words l.bytes

abbrev pub decreases-loop-rest : goal.decreases-loop-rest
decreases-loop-rest l = length l.rest
