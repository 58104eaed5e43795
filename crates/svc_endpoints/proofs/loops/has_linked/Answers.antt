use Rattle.std.proofs.Common.{arith, ap, sym, ◌∙◌, ◌-◌, length, take}
use Rattle.svc_endpoints.specs.Loops.{has_loop, last_end}
use Rattle.svc_endpoints.proofs.TallyLemmas.{last-le, last-last, has-all, linked-of, linked-past}
use Rattle.svc_endpoints.proofs.loops.has_linked.Goals as goal

pub loop-at-init : goal.loop-at-init
loop-at-init c =
    let loops = c.args.loops.now in
    record {
      within = (let le = last-le loops c.args.s c.args.i (length loops) in let is = c.requires.last in omega (arith, le, is));
      linked = c.requires.last ∙ sym (last-last loops c.args.s c.args.i (length loops)) ∙ ap (last_end loops c.args.s c.args.i) (sym c.requires.last);
      left = has-all loops c.args.s c.args.i c.args.j ∙ ap (λ n. has_loop (take n loops) c.args.s c.args.i c.args.j) (sym c.requires.last);
    }

pub loop-at-smaller : goal.loop-at-smaller
loop-at-smaller c =
    let i = c.loop-at.invariant in
    let next = c.requires.links (c.loop-at.at - 1) (omega (arith, i.within, c.loop-at-test.true))
    (linked-of c.args.loops.now c.args.before.now c.args.s c.args.i c.args.j c.loop-at.at c.loop-at-test.true i.linked) in
    let le = last-le c.args.loops.now c.args.s c.args.i (c.loop-at.at - 1) in
    omega (arith, next, le, c.loop-at-test.true)

pub loop-at-preserved : goal.loop-at-preserved
loop-at-preserved c =
    let i = c.loop-at.invariant in
    let loops = c.args.loops.now in
    let next = c.requires.links (c.loop-at.at - 1) (omega (arith, i.within, c.loop-at-test.true))
    (linked-of loops c.args.before.now c.args.s c.args.i c.args.j c.loop-at.at c.loop-at-test.true i.linked) in
    let le = last-le loops c.args.s c.args.i (c.loop-at.at - 1) in
    record {
      within = omega (arith, next, le, i.within);
      linked = next ∙ sym (last-last loops c.args.s c.args.i (c.loop-at.at - 1)) ∙ ap (last_end loops c.args.s c.args.i) (sym next);
      left = i.left
          ∙ linked-past loops c.args.before.now c.args.s c.args.i c.args.j c.loop-at.at c.loop-at-test.true i.within
          (sym c.is_loop.ensures ∙ c.if-is_loop.false)
          ∙ ap (λ n. has_loop (take n loops) c.args.s c.args.i c.args.j) (sym next);
    }
