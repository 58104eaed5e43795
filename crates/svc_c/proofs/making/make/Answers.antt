use Rattle.std.proofs.Common.{rules, ◌≡◌, ◌<◌, length, sym, subst, inr, arith}
use Rattle.std.proofs.lemmas.List.{get_or_read}
use Rattle.std.specs.Prelude.{Ok}
use Rattle.std.specs.Str.Lines.{lines}
use Rattle.svc_text.specs.Dependencies.{RefusesAt}
use Rattle.svc_text.specs.Outcome.{parts_of}
use Rattle.svc_text.specs.Script.{script, IsLineOf}
use Rattle.svc_c.proofs.making.make.Goals as goal

pub returns-in-Ok-Some : goal.returns-in-Ok-Some
returns-in-Ok-Some c =
    let parts : script c.args.bytes.now ≡ Ok (parts_of c.in-Ok.script) = search rules in
    let refuses : RefusesAt c.in-Ok.script.services.items c.in-Ok-Some.k = search rules in
    let within : c.in-Ok-Some.k < length c.in-Ok.script.lines.items = omega (arith, c.in-Ok.ensures.numbers.count_is, refuses.here) in
    let number = get_or_read c.in-Ok.script.lines.items c.in-Ok-Some.k c.index.result.now within c.index.ensures 0 in
    let line = subst (IsLineOf (lines c.args.bytes.now) c.in-Ok-Some.k) (sym number) (c.in-Ok.ensures.numbers.each c.in-Ok-Some.k refuses.here) in
    inr (parts_of c.in-Ok.script, (parts, (c.in-Ok-Some.k, (refuses, line))))
