use Rattle.std.proofs.Common.{sym, refl, arith}
use Rattle.std.proofs.lemmas.Bool.Decides.{nat_tests}
use Rattle.svc_base.proofs.LineLemmas.{one_line, line_cut, cut_last, cut_line}
use Rattle.svc_base.proofs.words.split_line.Goals as goal

pub returns-in-None-clause-first : goal.returns-in-None-clause-first
returns-in-None-clause-first c =
    one_line c.args.text.now (grind (arith, nat_tests)) (sym c.in-None.ensures)

pub returns-in-Some-clause-first : goal.returns-in-Some-clause-first
returns-in-Some-clause-first c =
    line_cut c.args.text.now c.in-Some.end c.without_return.result.now _ (sym c.in-Some.ensures) c.without_return.ensures refl

pub returns-in-None-clause-cut : goal.returns-in-None-clause-cut
returns-in-None-clause-cut c =
    cut_last c.args.text.now (grind (arith, nat_tests)) (sym c.in-None.ensures)

pub returns-in-Some-clause-cut : goal.returns-in-Some-clause-cut
returns-in-Some-clause-cut c =
    cut_line c.args.text.now c.in-Some.end c.without_return.result.now _ (sym c.in-Some.ensures) c.without_return.ensures refl
