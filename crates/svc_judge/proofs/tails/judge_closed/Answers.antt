use Rattle.std.proofs.Common.{ℕ, drop, ◌≡◌, ap, ◌∙◌, Option, Result, Ok, Err, IfOk}
use Rattle.svc_record.specs.declared.plan.Plan.{Plan}
use Rattle.svc_record.specs.Record.{Record}
use Rattle.svc_judge.specs.declared.judging.Breach.{Breach}
use Rattle.svc_judge.specs.Verdicts.{breach_of}
use Rattle.svc_judge.specs.Tails.{tail_len, closed_by, closed_breach}
use Rattle.svc_judge.proofs.tails.judge_closed.Goals as goal

-- the tail is all that lets go, and the breach that of what stands before it
closed_from : {E : Type 0} (p : Plan) (r : Record) (most : ℕ) (found : Option Breach) (result : Result (Option Breach) E) → most ≡ tail_len r
    → found ≡ breach_of p (drop most r) → IfOk result (λ b. b ≡ closed_by p r most found) → IfOk result (λ b. b ≡ closed_breach p r)
closed_from p r most found (Ok b) is was h = h ∙ ap (closed_by p r most) was ∙ ap (λ n. closed_by p r n (breach_of p (drop n r))) is
closed_from p r most found (Err e) is was h = tt

pub returns : goal.returns
returns c =
    closed_from c.args.plan.now c.args.entries.now c.tail_len-most.result c.in_ok-found.found c.closed_by.result c.tail_len-most.ensures.is
    c.in_ok-found.ensures c.closed_by.ensures
