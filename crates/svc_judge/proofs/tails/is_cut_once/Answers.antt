use Rattle.std.proofs.Common.{ℕ, List, filter, ap, ◌∙◌}
use Rattle.std.specs.List.{list_all}
use Rattle.svc_judge.specs.Endings.{is_uncut}
use Rattle.svc_judge.specs.Tails.{is_cut_once}
use Rattle.svc_judge.proofs.tails.is_cut_once.Goals as goal

pub returns-in-Some : goal.returns-in-Some
returns-in-Some c =
    c.is_number_cut_once.ensures
    ∙ ap (λ (ns : List ℕ). list_all (is_cut_once c.args.tail.now) (filter (is_uncut c.args.finished.now) ns)) c.in-Some.ensures

pub returns-in-None : goal.returns-in-None
returns-in-None c = ap (λ (ns : List ℕ). list_all (is_cut_once c.args.tail.now) (filter (is_uncut c.args.finished.now) ns)) c.in-None.ensures
