use Rattle.std.proofs.Common.{◌≡◌, ◌++◌, map, string_bytes}
use Rattle.std.specs.Rc.{rc_str_bytes}
use Rattle.std.specs.Vec.Iter.{into_iter_items, into_iter_len}
use Rattle.svc_words.proofs.push_all.Given as goal

abbrev pub invariant-loop-word : goal.invariant-loop-word
invariant-loop-word l = map rc_str_bytes l.words.items ++ map string_bytes (into_iter_items l.args)
    ≡ map rc_str_bytes l.initial.words.items ++ map string_bytes (into_iter_items l.initial.args)

abbrev pub decreases-loop-word : goal.decreases-loop-word
decreases-loop-word l = into_iter_len l.args
