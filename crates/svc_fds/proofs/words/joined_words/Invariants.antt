use Rattle.std.proofs.Common.{◌≡◌, ◌++◌}
use Rattle.std.specs.Str.Iter.{split_ascii_whitespace_text}
use Rattle.svc_fds.specs.Messages.{joined_words}
use Rattle.svc_fds.proofs.words.joined_words.Given as goal

-- the words so far, and those of what is left
abbrev pub invariant-loop-word : goal.invariant-loop-word
invariant-loop-word l = l.found.items ++ joined_words (split_ascii_whitespace_text l.word-iterator) ≡ joined_words l.text
