use Rattle.std.proofs.Common.{◌≡◌, ◌∙◌, ap, sym, ◌+◌, ◌^◌, arith}
use Rattle.svc_base.specs.Items.{list_of}
use Rattle.svc_base.proofs.RangeLemmas.{next-absent, next-most, next-found}
use Rattle.svc_base.proofs.number_ranges.take_next.Goals as goal

pub returns-then-number-eq18446744073709551615-clause-last : goal.returns-then-number-eq18446744073709551615-clause-last
returns-then-number-eq18446744073709551615-clause-last c =
    let e : c.args.number + 1 ≡ 2 ^ 64 = omega arith in
    sym (next-absent c.args.number (list_of c.args.ranges.now) (next-most (list_of c.args.ranges.now) c.args.number e c.requires.short)).0

pub returns-then-number-eq18446744073709551615-clause-rest : goal.returns-then-number-eq18446744073709551615-clause-rest
returns-then-number-eq18446744073709551615-clause-rest c =
    let e : c.args.number + 1 ≡ 2 ^ 64 = omega arith in
    sym (next-absent c.args.number (list_of c.args.ranges.now) (next-most (list_of c.args.ranges.now) c.args.number e c.requires.short)).1

pub returns-in-Some-clause-last : goal.returns-in-Some-clause-last
returns-in-Some-clause-last c =
    sym (next-found c.args.number (list_of c.args.ranges.now) c.in-Some.next c.requires.apart c.in-Some.ensures.removed.0).0

pub returns-in-Some-clause-rest : goal.returns-in-Some-clause-rest
returns-in-Some-clause-rest c =
    c.in-Some.ensures.removed.1 ∙ sym (next-found c.args.number (list_of c.args.ranges.now) c.in-Some.next c.requires.apart c.in-Some.ensures.removed.0).1

pub returns-in-None-clause-last : goal.returns-in-None-clause-last
returns-in-None-clause-last c = sym (next-absent c.args.number (list_of c.args.ranges.now) c.in-None.ensures.absent).0

pub returns-in-None-clause-rest : goal.returns-in-None-clause-rest
returns-in-None-clause-rest c =
    ap list_of c.in-None.ensures.same ∙ sym (next-absent c.args.number (list_of c.args.ranges.now) c.in-None.ensures.absent).1
