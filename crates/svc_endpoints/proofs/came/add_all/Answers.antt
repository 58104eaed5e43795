use Rattle.std.proofs.Common.{arith, sym, ap, ◌∙◌, ◌≡◌, true, drop, get_or, ◌∷◌, ◌+◌}
use Rattle.std.proofs.lemmas.List.{drop_more}
use Rattle.svc_base.specs.Items.{list_of}
use Rattle.svc_endpoints.specs.EndpointsState.{all_new}
use Rattle.svc_endpoints.specs.Effects.{put_numbers}
use Rattle.svc_endpoints.proofs.GatherLemmas.{new-more}
use Rattle.svc_endpoints.proofs.came.add_all.Goals as goal

pub loop-fd-preserved : goal.loop-fd-preserved
loop-fd-preserved c =
    let k = c.loop-fd.fd-index in
    let front = drop_more c.args.fds.now k 0 (omega (arith, c.loop-fd-test.true)) in
    let here : all_new (list_of c.loop-fd.numbers) (get_or c.args.fds.now k 0 ∷ drop (k + 1) c.args.fds.now) ≡ true =
    ap (all_new (list_of c.loop-fd.numbers)) (sym front) ∙ c.loop-fd.invariant.new in
    record {
      new = ap (λ w. all_new w (drop (k + 1) c.args.fds.now)) c.add.ensures.numbers
          ∙ new-more (list_of c.loop-fd.numbers) (get_or c.args.fds.now k 0) (drop (k + 1) c.args.fds.now) here;
      room = omega (arith, c.loop-fd.invariant.room, c.add.ensures.room);
      numbers = ap (put_numbers (drop (k + 1) c.args.fds.now)) c.add.ensures.numbers ∙ ap (λ w. put_numbers w (list_of c.loop-fd.numbers)) (sym front)
          ∙ c.loop-fd.invariant.numbers;
    }
