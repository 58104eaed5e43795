use Rattle.std.proofs.Common.{ℕ, ◌≡◌, ◌<◌, true, false, [], get_or}
use Rattle.svc_base.specs.Items.{list_of}
use Rattle.svc_base.specs.NumberSets.{is_in}
use Rattle.svc_endpoints.specs.Sums.{sum_of, is_listed, Grows}
use Rattle.svc_endpoints.proofs.sums.note_texts.Given as goal

abbrev pub invariant-loop-k : goal.invariant-loop-k
invariant-loop-k l = record {
  noted : (j : ℕ) → j < l.k → is_listed l.list (get_or l.texts j []) ≡ false → is_in (sum_of (get_or l.texts j [])) (list_of l.shared) ≡ true;
  grows : Grows (list_of l.initial.shared) (list_of l.shared);
}
