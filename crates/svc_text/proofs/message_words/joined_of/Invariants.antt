use Rattle.std.proofs.Common.{◌≡◌, Some, length, take, ◌^◌, ◌==◌}
use Rattle.std.specs.List.{slice_split}
use Rattle.svc_base.specs.Words.{number_of}
use Rattle.svc_text.proofs.PieceLemmas.{read_by}
use Rattle.svc_text.proofs.message_words.joined_of.Given as goal

abbrev pub invariant-loop-piece : goal.invariant-loop-piece
invariant-loop-piece l =
    (goal.iterator-loop-piece).can_next l.piece-iterator
    × (goal.iterator-loop-piece).is_finite l.piece-iterator
    × (read_by (number_of (2 ^ 64)) (take (length l.yielded) (slice_split (λ b. b == 44) l.word)) ≡ Some l.numbers)
