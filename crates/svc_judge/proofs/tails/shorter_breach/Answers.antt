use Rattle.std.proofs.Common.{ℕ, ◌≡◌, sym, ◌∙◌, subst, arith, Option, Some, IfOk}
use Rattle.std.specs.List.{find, range_with_len}
use Rattle.svc_judge.specs.Tails.{is_right_before, shorter_breach}
use Rattle.svc_judge.proofs.TailLemmas.{find_below}
use Rattle.svc_judge.proofs.tails.shorter_breach.Goals as goal

pub tail_breach-requires : goal.tail_breach-requires
tail_breach-requires c =
    let is_found : find (is_right_before c.args.plan.now c.args.entries.now) (range_with_len 0 c.args.most) ≡ Some c.in-Some.count =
    sym c.in_ok-shortest.ensures ∙ c.in-Some.is in
    omega (arith, find_below (is_right_before c.args.plan.now c.args.entries.now) 0 c.args.most c.in-Some.count is_found)

pub returns-in-Some : goal.returns-in-Some
returns-in-Some c =
    let is_found : find (is_right_before c.args.plan.now c.args.entries.now) (range_with_len 0 c.args.most) ≡ Some c.in-Some.count =
    sym c.in_ok-shortest.ensures ∙ c.in-Some.is in
    subst (λ (o : Option ℕ). IfOk c.tail_breach.result (λ found. found ≡ shorter_breach c.args.entries.now c.args.breach o)) (sym is_found)
    c.tail_breach.ensures
