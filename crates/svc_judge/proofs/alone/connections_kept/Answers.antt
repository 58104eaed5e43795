use Rattle.std.proofs.Common.{sym, ◌∙◌, eqb-true}
use Rattle.svc_judge.specs.Chains.{is_number_right}
use Rattle.svc_judge.specs.Pasts.{plan_of, record_of}
use Rattle.svc_judge.proofs.ChainLemmas.{kept_by_numbers}
use Rattle.svc_judge.proofs.alone.connections_kept.Goals as goal

pub returns-then-goes_on : goal.returns-then-goes_on
unfolding is_number_right
returns-then-goes_on c =
    let p = plan_of c.args.past.now in
    let q = record_of c.args.past.now in
    let none = sym c.requires.chains.ends ∙ eqb-true c.args.chains.now.ends 0 (sym c.if-goes_on.ensures) in
    c.are_touched_right.ensures ∙ sym (kept_by_numbers p q none)
