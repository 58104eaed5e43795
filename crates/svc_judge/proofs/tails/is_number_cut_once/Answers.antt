use Rattle.std.proofs.Common.{not, ◌==◌, ◌||◌, ap, ◌∙◌}
use Rattle.svc_judge.specs.Endings.{is_uncut}
use Rattle.svc_judge.specs.Tails.{is_cut_once}
use Rattle.svc_judge.proofs.TailLemmas.{arrival_asked}
use Rattle.svc_judge.proofs.tails.is_number_cut_once.Goals as goal

pub returns : goal.returns
returns c =
    let q = c.args.finished.now in
    c.where_live.ensures
    ∙ ap (λ b. not b || (c.times.result == 1)) (c.is_uncut_in.ensures q c.requires)
    ∙ ap (λ n. not (is_uncut q c.args.c) || (n == 1)) c.times.ensures
    ∙ arrival_asked q (is_cut_once c.args.tail.now) c.args.c
