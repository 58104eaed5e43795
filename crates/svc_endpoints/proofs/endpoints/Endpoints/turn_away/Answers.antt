use Rattle.std.proofs.Common.{arith, sym, ap, ◌∙◌, ◌≡◌, true, false, drop, get_or, ◌∷◌, ◌+◌, slice_get, if◌then◌else◌}
use Rattle.std.proofs.lemmas.List.{drop_more}
use Rattle.svc_base.specs.Items.{list_of}
use Rattle.svc_base.specs.NumberSets.{put_number}
use Rattle.svc_endpoints.specs.EndpointsState.{all_new}
use Rattle.svc_endpoints.specs.Effects.{passes, turns_away, numbers_out, opens_of, put_numbers}
use Rattle.svc_endpoints.proofs.GatherLemmas.{new-more, new-rest, out-next}
use Rattle.svc_endpoints.proofs.endpoints.Endpoints.turn_away.Goals as goal
use Rattle.svc_endpoints.proofs.endpoints.Endpoints.turn_away.Goals.{then-is_word_away, else-is_word_away}

pub loop-k-preserved : goal.loop-k-preserved
loop-k-preserved c =
    let k = c.loop-k.k in
    let fds = c.args.fds.now in
    let out = list_of c.loop-k.out in
    let lt = c.loop-k-test.true in
    let gone = turns_away c.args.plan.now c.args.self.now.parts in
    let later = numbers_out gone (opens_of (drop (k + 1) fds) (drop (k + 1) c.args.words.now)) in
    let here : all_new out (get_or fds k 0 ∷ drop (k + 1) fds) ≡ true =
    ap (all_new out) (sym (drop_more fds k 0 (omega (arith, lt)))) ∙ c.loop-k.invariant.new in
    let next = out-next gone fds out c.args.words.now k (omega (arith, lt)) in
    elim c.if-is_word_away.branch [
      | then-is_word_away w ↦
          (let yes : passes gone (slice_get c.args.words.now k) ≡ true = sym c.is_word_away.ensures ∙ w.if-is_word_away.true in rw w.out-is (record {
            new = ap (λ x. all_new x (drop (k + 1) fds)) w.add.ensures.numbers ∙ new-more out (get_or fds k 0) (drop (k + 1) fds) here;
            room = omega (arith, c.loop-k.invariant.room, w.add.ensures.room);
            numbers = ap (put_numbers later) w.add.ensures.numbers ∙ ap (λ b. put_numbers later (if b then put_number (get_or fds k 0) out else out)) (sym yes)
                ∙ next ∙ c.loop-k.invariant.numbers;
          }))
      | else-is_word_away w ↦
          (let no : passes gone (slice_get c.args.words.now k) ≡ false = sym c.is_word_away.ensures ∙ w.if-is_word_away.false in rw w.out-is (record {
            new = new-rest out (get_or fds k 0) (drop (k + 1) fds) here;
            room = omega (arith, c.loop-k.invariant.room);
            numbers = ap (λ b. put_numbers later (if b then put_number (get_or fds k 0) out else out)) (sym no) ∙ next ∙ c.loop-k.invariant.numbers;
          }))
    ]
