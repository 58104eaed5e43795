-- A graph whose nodes are marked.
use Rattle.std.specs.Prelude.{Bool, List, [], ◌∷◌}
use Rattle.svc_graph.specs.WaitingData.{WaitingData}

-- node 2 depends on 0 and on 1, with these marks
abbrev pub two_for_one : List Bool → WaitingData
two_for_one marks = record { depends = [] ∷ [] ∷ (0 ∷ 1 ∷ []) ∷ []; marks = marks }
