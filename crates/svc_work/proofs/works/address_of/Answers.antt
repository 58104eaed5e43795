use Rattle.std.proofs.Common.{◌<◌, Some, ap, length, ◌∙◌, arith}
use Rattle.std.proofs.lemmas.Bool.Decides.{nat_tests}
use Rattle.svc_work.proofs.AddressLemmas.{address_here, address_missing}
use Rattle.svc_work.proofs.works.address_of.Goals as goal

pub returns-in_default : goal.returns-in_default
returns-in_default c = address_missing c.args.word.now c.in_default.ensures.cases.0

pub returns : goal.returns
returns c =
    let some : 0 < length c.args.word.now = grind (arith, nat_tests, c.if-is_empty.ensures, c.if-is_empty.false) in
    ap Some (c.in_ok-new.ensures ∙ c.in-Ok.ensures.cases.0) ∙ address_here c.args.word.now c.in-Ok.ensures.cases.1 some (omega arith)
