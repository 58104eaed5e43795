use Rattle.std.proofs.Common.{ℕ, List, sym, subst, ◌∙◌}
use Rattle.std.specs.Str.Parse.{ParsesUnsigned}
use Rattle.svc_base.proofs.DecimalLemmas.{number_spare, number_not_text, number_parsed}
use Rattle.svc_base.proofs.decimals.parsed_number.Goals as goal

pub returns-then-has_spare_front : goal.returns-then-has_spare_front
returns-then-has_spare_front c = sym (number_spare c.args.word.now (sym c.if-has_spare_front.ensures))

pub returns-in-Ok : goal.returns-in-Ok
returns-in-Ok c =
    c.ok.ensures.value
    ∙ number_parsed c.args.word.now c.parse.result (sym c.has_spare_front.ensures ∙ c.if-has_spare_front.false)
    (subst (λ (bs : List ℕ). ParsesUnsigned 64 10 bs c.parse.result) c.in-Ok.ensures.cases.0 c.parse.ensures.value.0)

pub returns-in-Err : goal.returns-in-Err
returns-in-Err c = sym (number_not_text c.args.word.now c.in-Err.ensures.cases.0)
