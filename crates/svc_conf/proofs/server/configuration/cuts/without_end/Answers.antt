use Rattle.std.proofs.Common.{◌∙◌, sym, arith}
use Rattle.svc_conf.proofs.ValueLemmas.{without_blank, without_none}
use Rattle.svc_conf.proofs.server.configuration.cuts.without_end.Goals as goal

pub loop-front-preserved : goal.loop-front-preserved
loop-front-preserved c =
    let here = without_blank c.loop-front.front.now (omega (arith, c.in-len1-up.len_at_least)) (sym c.is_blank.ensures ∙ c.if-not-is_blank.false) in
    here ∙ c.loop-front.invariant

pub returns-then-not-is_blank : goal.returns-then-not-is_blank
returns-then-not-is_blank c =
    without_none c.loop-front.front.now (omega (arith, c.in-len1-up.len_at_least)) (sym c.is_blank.ensures ∙ c.if-not-is_blank.true) ∙ c.loop-front.invariant
