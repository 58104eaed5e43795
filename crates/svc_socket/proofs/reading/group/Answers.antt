use Rattle.std.proofs.Common.{sym, arith}
use Rattle.svc_socket.proofs.GroupLemmas.{room, room_for_digit, one_more, no_digit, whole_group, not_short}
use Rattle.svc_socket.proofs.reading.group.Goals as goal

pub returns-then-not-is_short : goal.returns-then-not-is_short
returns-then-not-is_short c = sym (not_short c.args.word.now (search (sym c.if-not-is_short.ensures)))

pub returns-in_default : goal.returns-in_default
returns-in_default c = sym (no_digit c.args.word.now c.loop-b.b-index c.loop-b.group c.loop-b.invariant c.loop-b-test.true c.in_default.ensures)

pub overflow_mul-group : goal.overflow_mul-group
overflow_mul-group c = omega (arith, room c.args.word.now c.loop-b.b-index c.loop-b.group c.loop-b.invariant c.loop-b-test.true)

pub overflow_add-group : goal.overflow_add-group
overflow_add-group c =
    omega (arith, room_for_digit c.args.word.now c.loop-b.b-index c.loop-b.group c.in-Some.digit c.loop-b.invariant c.loop-b-test.true c.in-Some.ensures)

pub loop-b-preserved : goal.loop-b-preserved
loop-b-preserved c = one_more c.args.word.now c.loop-b.b-index c.loop-b.group c.in-Some.digit c.loop-b.invariant c.loop-b-test.true c.in-Some.ensures

pub returns : goal.returns
returns c = sym (whole_group c.args.word.now c.loop-b.b-index c.loop-b.group c.loop-b.invariant c.loop-b-test.false)
