use Rattle.std.proofs.Common.{◌≡◌, ℕ}
use Rattle.svc_endpoints.specs.Loops.{untold, tally_at}
use Rattle.svc_endpoints.proofs.tallies.new_tallies.Given as goal

abbrev pub invariant-loop-s : goal.invariant-loop-s
invariant-loop-s l = (s i : ℕ) → tally_at l.rows.items s i ≡ untold
