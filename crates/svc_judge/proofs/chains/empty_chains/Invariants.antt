use Rattle.std.proofs.Common.{ℕ, ◌≡◌, ◌<◌, [], length, slice_index_or}
use Rattle.svc_judge.proofs.chains.empty_chains.Given as goal

abbrev pub invariant-loop-n : goal.invariant-loop-n
invariant-loop-n l = record { count : length l.parts.items ≡ l.n; empty : (k : ℕ) → k < l.n → slice_index_or l.parts.items k [] ≡ [] }
