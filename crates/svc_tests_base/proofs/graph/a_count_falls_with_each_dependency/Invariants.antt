use Rattle.svc_tests_base.proofs.graph.a_count_falls_with_each_dependency.Given as goal

abbrev pub ghosts-mark : goal.ghosts-mark
ghosts-mark g a = record { name = a.blank.name; parts = a.blank.parts }
