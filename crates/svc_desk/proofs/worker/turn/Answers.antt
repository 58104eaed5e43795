use Rattle.std.proofs.Common.{◌≤◌, None, refl, arith}
use Rattle.svc_desk.specs.declared.desk.DeskAnswer.TheVariants as answers
use Rattle.svc_desk.specs.declared.worker.WorkEnd.TheVariants as ends
use Rattle.svc_desk.proofs.TurnLemmas.{turned_none, turned_idle, turned_stopped, turned_event}
use Rattle.svc_desk.proofs.worker.turn.Goals as goal

pub returns-then-is_err-clause-turned : goal.returns-then-is_err-clause-turned
returns-then-is_err-clause-turned g c =
    turned_none c.args.shared.now c.args.pass (g.D.Desk.seen c.args.desk.now) c.args.tally.now
    (record { strays = c.reserve.new.self; taken = c.args.tally.now.taken; answered = c.args.tally.now.answered }) c.stopped.result.pass
    c.stopped.result.end c.requires.of c.reserve.ensures.items refl c.stopped.ensures.pass c.stopped.ensures.end

pub returns-in-Nothing-clause-turned : goal.returns-in-Nothing-clause-turned
returns-in-Nothing-clause-turned g c =
    let x = c.in-Nothing.ensures in
    turned_idle c.args.shared.now c.args.pass (g.D.Desk.seen c.args.desk.now) (g.D.Desk.seen c.take.new.self) answers.Nothing c.args.tally.now
    (record { strays = c.reserve.new.self; taken = c.args.tally.now.taken; answered = c.args.tally.now.answered }) None c.requires.of refl x
    c.reserve.ensures.items refl (refl, tt, x.takes)

pub returns-in-Closed-clause-turned : goal.returns-in-Closed-clause-turned
returns-in-Closed-clause-turned g c =
    let x = c.in-Closed.ensures in
    turned_stopped c.args.shared.now c.args.pass (g.D.Desk.seen c.args.desk.now) (g.D.Desk.seen c.take.new.self) answers.Closed c.args.tally.now
    (record { strays = c.reserve.new.self; taken = c.args.tally.now.taken; answered = c.args.tally.now.answered }) ends.Closed
    c.stopped-in-Closed.result.pass c.stopped-in-Closed.result.end c.requires.of refl x c.reserve.ensures.items refl
    ((refl, tt, x.closed), (λ e. cc), (1, (let y : 1 ≤ 1 = omega arith in y), x.takes)) c.stopped-in-Closed.ensures.pass c.stopped-in-Closed.ensures.end

pub returns-in-Failed-clause-turned : goal.returns-in-Failed-clause-turned
returns-in-Failed-clause-turned g c =
    let x = c.in-Failed.ensures in
    turned_stopped c.args.shared.now c.args.pass (g.D.Desk.seen c.args.desk.now) (g.D.Desk.seen c.take.new.self) answers.Failed c.args.tally.now
    (record { strays = c.reserve.new.self; taken = c.args.tally.now.taken; answered = c.args.tally.now.answered }) ends.Fault
    c.stopped-in-Failed.result.pass c.stopped-in-Failed.result.end c.requires.of refl x c.reserve.ensures.items refl
    ((refl, tt, x.failed), (λ e. cc), (1, (let y : 1 ≤ 1 = omega arith in y), x.takes)) c.stopped-in-Failed.ensures.pass c.stopped-in-Failed.ensures.end

pub returns-in-NoMemory-clause-turned : goal.returns-in-NoMemory-clause-turned
returns-in-NoMemory-clause-turned g c =
    let x = c.in-NoMemory.ensures in
    turned_stopped c.args.shared.now c.args.pass (g.D.Desk.seen c.args.desk.now) (g.D.Desk.seen c.take.new.self) answers.NoMemory c.args.tally.now
    (record { strays = c.reserve.new.self; taken = c.args.tally.now.taken; answered = c.args.tally.now.answered }) ends.NoMemory
    c.stopped-in-NoMemory.result.pass c.stopped-in-NoMemory.result.end c.requires.of refl x c.reserve.ensures.items refl
    (((let y : 0 ≤ 1 = omega arith in y), tt), (λ e. cc), (1, (let y : 1 ≤ 1 = omega arith in y), x.takes)) c.stopped-in-NoMemory.ensures.pass
    c.stopped-in-NoMemory.ensures.end

pub returns-after-handled-clause-turned : goal.returns-after-handled-clause-turned
returns-after-handled-clause-turned g c =
    turned_event c.args.shared.now c.args.pass (g.D.Desk.seen c.args.desk.now) (g.D.Desk.seen c.take.new.self) (g.D.Desk.seen c.handle-handled.new.desk)
    c.in-Event.event c.handle-handled.result.fate c.args.tally.now
    (record { strays = c.reserve.new.self; taken = c.args.tally.now.taken; answered = c.args.tally.now.answered }) c.settle-end.new.tally
    c.handle-handled.result.pass c.settle-end.result c.reserve.ensures.items refl c.settle-end.ensures.taken c.in-Event.ensures
    c.handle-handled.ensures.handled c.settle-end.ensures.settled
