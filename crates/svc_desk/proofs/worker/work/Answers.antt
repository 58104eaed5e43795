use Rattle.std.proofs.Common.{◌≡◌, ℕ, ◌+◌, ◌≤◌, List, [], ◌++◌, length, Option, refl, ap, subst, arith, length-append}
use Rattle.svc_base.specs.Items.{list_of}
use Rattle.svc_record.specs.declared.event.Event.{Event}
use Rattle.svc_shared.specs.Posting.{seen_of, origin_of}
use Rattle.svc_desk.specs.declared.worker.WorkEnd.{WorkEnd}
use Rattle.svc_desk.specs.Desks.{Grew}
use Rattle.svc_desk.specs.Deeds.{call_count}
use Rattle.svc_desk.specs.Working.{IsAtDesk, TurnEnds}
use Rattle.svc_desk.proofs.DeedLemmas.{done-none, done-then, at_desk-none, at_desk-then, place-then, on-then, grew-none, grew-then, takes-then, ends-then, strays-joined}
use Rattle.svc_desk.proofs.worker.work.Goals as goal

pub loop-init : goal.loop-init
loop-init g c = record {
  log = [];
  done = done-none c.args.shared.now c.args.pass c.requires;
  at_desk = at_desk-none (g.D.Desk.seen c.args.desk.now);
  place = omega arith;
  on = tt;
  strays = c.new.ensures;
  count = refl;
  few = omega arith;
  fewer = omega arith;
  takes = grew-none (g.D.Desk.seen c.args.desk.now).takes;
}

pub returns-in-Some : goal.returns-in-Some
returns-in-Some g c =
    let i = c.loop.invariant in
    let t = c.turn-turned.ensures.turned in
    let s = c.args.shared.now in
    let q = c.turn-turned.result.pass in
    let a = g.D.Desk.seen c.args.desk.now in
    let b = g.D.Desk.seen c.loop.desk in
    let d = g.D.Desk.seen c.turn-turned.new.desk in
    let e = subst (λ (w : Option WorkEnd). TurnEnds s b d t.log t.hand q w) c.in-Some.is t.ends in
    let done = done-then s c.args.pass c.loop.pass q i.log t.log i.done t.done in
    let at_desk = at_desk-then a b d i.log t.log t.hand i.at_desk t.at_desk in record {
      worked = record {
        log = i.log ++ t.log;
        hand = t.hand;
        done = done;
        shows = record {
          taken = at_desk.taken;
          said = at_desk.said;
          performed = at_desk.performed;
          refused = at_desk.refused;
          takes = takes-then a b d c.loop.counter c.args.turns (omega arith) i.takes e.2;
          stays = at_desk.stays;
          place = (let room = place-then a.room b.room d.room c.loop.counter c.args.turns i.log t.log t.hand (omega arith) i.place t.place in
              omega (arith, room));
          faults = at_desk.faults;
          idles = at_desk.idles;
          strays_are = strays-joined c.loop.tally.taken (list_of c.loop.tally.strays) (list_of c.turn-turned.new.tally.strays) i.log t.log i.strays i.count
              t.strays;
          follows = done.follows;
          ends = ends-then s c.args.turns a b d i.log t.log t.hand c.loop.pass q c.in-Some.end t.done.front i.at_desk i.on e;
        };
      };
    }

pub loop-preserved : goal.loop-preserved
loop-preserved g c =
    let i = c.loop.invariant in
    let t = c.turn-turned.ensures.turned in
    let s = c.args.shared.now in
    let q = c.turn-turned.result.pass in
    let a = g.D.Desk.seen c.args.desk.now in
    let b = g.D.Desk.seen c.loop.desk in
    let d = g.D.Desk.seen c.turn-turned.new.desk in
    let went = subst (λ (w : Option WorkEnd). TurnEnds s b d t.log t.hand q w) c.in-None.is t.ends in record {
      log = i.log ++ t.log;
      done = done-then s c.args.pass c.loop.pass q i.log t.log i.done t.done;
      at_desk = at_desk-then a b d i.log t.log [] i.at_desk (subst (λ (h : List Event). IsAtDesk b d t.log h) went.0 t.at_desk);
      place = place-then a.room b.room d.room c.loop.counter (c.loop.counter + 1) i.log t.log [] (omega arith) i.place
          (subst (λ (h : List Event). b.room ≤ d.room + (1 + call_count t.log h)) went.0 t.place);
      on = on-then (origin_of s) (seen_of c.loop.pass) (seen_of q) i.log t.log t.done.front i.on went.1;
      strays = strays-joined c.loop.tally.taken (list_of c.loop.tally.strays) (list_of c.turn-turned.new.tally.strays) i.log t.log i.strays i.count t.strays;
      count = (let n = t.count in let h = ap length went.0 in let k = i.count in let l = length-append i.log t.log in omega (arith, n, h, k, l));
      few = (let n = c.turn-turned.ensures.few in let k = i.few in omega (arith, n, k));
      fewer = c.turn-turned.ensures.fewer;
      takes = grew-then a.takes b.takes d.takes c.loop.counter 1 i.takes went.2;
    }

pub returns : goal.returns
returns g c =
    let i = c.loop.invariant in
    let a = g.D.Desk.seen c.args.desk.now in
    let b = g.D.Desk.seen c.loop.desk in
    let spent : c.loop.counter ≡ c.args.turns = omega arith in
    let grew = subst (λ (k : ℕ). Grew a.takes b.takes k) spent i.takes in record {
      worked = record {
        log = i.log;
        hand = [];
        done = i.done;
        shows = record {
          taken = i.at_desk.taken;
          said = i.at_desk.said;
          performed = i.at_desk.performed;
          refused = i.at_desk.refused;
          takes = (c.args.turns, (let le : c.args.turns ≤ c.args.turns = omega arith in le), grew);
          stays = i.at_desk.stays;
          place = (let room = i.place in omega (arith, room, spent));
          faults = i.at_desk.faults;
          idles = i.at_desk.idles;
          strays_are = i.strays;
          follows = i.done.follows;
          ends = (refl, i.on, grew);
        };
      };
    }
