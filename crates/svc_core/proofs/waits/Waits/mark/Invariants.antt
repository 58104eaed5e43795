use Rattle.svc_core.proofs.waits.Waits.mark.Given as goal

abbrev pub ghosts-count : goal.ghosts-count
ghosts-count a = record { name = a.blank.name; parts = a.blank.parts }
