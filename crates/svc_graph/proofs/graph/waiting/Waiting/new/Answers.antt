use Rattle.std.proofs.Common.{arith, ℕ, List, ◌≡◌, ◌∙◌, false, ap, sym, subst, length, slice_index_or, map}
use Rattle.std.proofs.lemmas.List.{length-map}
use Rattle.svc_graph.specs.GraphData.{GraphData}
use Rattle.svc_graph.specs.Graphs.{is_in_row, is_edge}
use Rattle.svc_graph.specs.Marks.{is_marked}
use Rattle.svc_graph.specs.Waitings.{AreRows, IsCounted, is_dependent, rows_of_test}
use Rattle.svc_graph.proofs.Counts.{lengths}
use Rattle.svc_graph.proofs.Waits.{counted-none, new-edges, replicate-free}
use Rattle.svc_graph.proofs.graph.waiting.Waiting.new.Goals as goal
use Rattle.svc_graph.proofs.graph.waiting.Waiting.new.Goals.{In_ok-marks}

nodes_are : (c : In_ok-marks) → c.len.result ≡ length c.graph.inside.names
nodes_are c = let sized = c.graph.invariant.sized in omega (arith, c.len.ensures, c.graph.inside.rows.ok.0)

are : (c : In_ok-marks) → AreRows c.graph.inside.needed (length c.graph.inside.names) c.push_rows.new.rows.items c.push_rows.new.starts.items
are c = subst (λ n. AreRows c.graph.inside.needed n c.push_rows.new.rows.items c.push_rows.new.starts.items) (nodes_are c) c.in_ok-push_rows.ensures

marks_len : (c : In_ok-marks) → length c.in_ok-marks.marks.items ≡ length c.graph.inside.names
marks_len c = let sized = c.graph.invariant.sized in
    omega (arith, c.in_ok-marks.ensures.len, c.len-2.ensures, c.in_ok-marks.marks.ok.0, c.graph.inside.rows.ok.0, sized)

counted : (c : In_ok-marks) → IsCounted c.in_ok-counts.counts.items c.push_rows.new.rows.items c.push_rows.new.starts.items c.in_ok-marks.marks.items
counted c =
    let rows = c.graph.inside.rows.items in
    let free : (a : ℕ) → is_marked c.in_ok-marks.marks.items a ≡ false =
    (λ a. subst (λ ms. is_marked ms a ≡ false) (sym (c.in_ok-marks.ensures.items_if_clones_equal (λ y e. e))) (replicate-free c.len-2.result a)) in
    let counts : c.in_ok-counts.counts.items ≡ map (λ (row : List ℕ). length row) rows =
    subst (λ rs. c.in_ok-counts.counts.items ≡ map (λ (row : List ℕ). length row) rs) c.deref.ensures.value c.in_ok-counts.ensures in
    let size = ap (λ (xs : List ℕ). length xs) counts ∙ length-map rows (λ (row : List ℕ). length row) in
    let sized = c.graph.invariant.sized in
    counted-none rows c.in_ok-counts.counts.items c.graph.inside.needed c.push_rows.new.rows.items c.push_rows.new.starts.items c.in_ok-marks.marks.items
    (length c.graph.inside.names) c.graph.invariant.few (marks_len c) (are c) c.graph.invariant.direct sized c.graph.invariant.inside (omega arith)
    (λ a. ap (λ (xs : List ℕ). slice_index_or xs a 0) counts ∙ lengths rows a) c.graph.invariant.unique free

pub invariant_of-result : goal.invariant_of-result
invariant_of-result c = counted ((goal.at.invariant_of-result c).In_ok-marks)

pub returns-clause-edges : goal.returns-clause-edges
returns-clause-edges c = λ a b.
    let here = (goal.at.returns-clause-edges c).In_ok-marks in
    ap (λ n. is_in_row (rows_of_test (is_dependent c.push_rows.new.rows.items c.push_rows.new.starts.items) n n) a b) (marks_len here)
    ∙ new-edges c.graph.inside.rows.items c.in_ok-counts.counts.items c.graph.inside.needed c.push_rows.new.rows.items c.push_rows.new.starts.items
    c.in_ok-marks.marks.items
    (length c.graph.inside.names) c.graph.invariant.few (marks_len here) (are here) c.graph.invariant.direct c.graph.invariant.sized
    c.graph.invariant.inside a b
    ∙ ap (λ (g : GraphData). is_edge g a b) c.graph.view_is
