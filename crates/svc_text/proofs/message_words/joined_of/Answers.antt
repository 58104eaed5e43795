use Rattle.std.proofs.Common.{◌^◌, ◌==◌, length, sym, rules, tests}
use Rattle.std.specs.List.{slice_split}
use Rattle.std.proofs.lemmas.List.{length_push}
use Rattle.std.proofs.lemmas.Iterator.Consumers.{YieldsList-turn, YieldsList-end}
use Rattle.std.proofs.lemmas.Iterator.Splits.{YieldsList-from_slice_split}
use Rattle.svc_base.specs.Words.{number_of}
use Rattle.svc_text.specs.NumberLists.{joined_of}
use Rattle.svc_text.proofs.PieceLemmas.{read_by-more, read_by-stops, read_by-all}
use Rattle.svc_text.proofs.message_words.joined_of.Goals as goal

pub returns-in_default : goal.returns-in_default
unfolding joined_of
returns-in_default c =
    let y = YieldsList-from_slice_split _ (λ b. b == 44) c.args.word.now (search rules) (search rules) (search rules) (λ x b q k. search (rules, tests)) in
    let t = YieldsList-turn y c.loop-piece.yielded _ c.loop-piece.yielded_by _ _ c.in-Some.piece c.in-Some.is c.next.ensures.steps in
    sym (read_by-stops (number_of (2 ^ 64)) (slice_split (λ b. b == 44) c.args.word.now)
    (length c.loop-piece.yielded) c.in-Some.piece.now t c.in_default.ensures)

pub loop-piece-preserved : goal.loop-piece-preserved
unfolding joined_of
loop-piece-preserved c = (
  search rules,
  search rules,
  let y = YieldsList-from_slice_split _ (λ b. b == 44) c.args.word.now (search rules) (search rules) (search rules) (λ x b q k. search (rules, tests)) in
      let t = YieldsList-turn y c.loop-piece.yielded _ c.loop-piece.yielded_by _ _ c.in-Some.piece c.in-Some.is c.next.ensures.steps in
      read_by-more (number_of (2 ^ 64)) (slice_split (λ b. b == 44) c.args.word.now)
      (length c.loop-piece.yielded) _ c.in-Some-number.n c.in-Some.piece.now c.loop-piece.numbers _ t c.in-Some-number.ensures
      (length_push c.loop-piece.yielded c.in-Some.piece) c.in_ok-push_item.ensures.ok c.loop-piece.invariant.2,
)

pub returns : goal.returns
unfolding joined_of
returns c =
    let y = YieldsList-from_slice_split _ (λ b. b == 44) c.args.word.now (search rules) (search rules) (search rules) (λ x b q k. search (rules, tests)) in
    let t = YieldsList-end y c.loop-piece.yielded _ c.loop-piece.yielded_by _ _ c.in-None.is c.next.ensures.steps in
    sym (read_by-all (number_of (2 ^ 64)) (slice_split (λ b. b == 44) c.args.word.now)
    (length c.loop-piece.yielded) c.loop-piece.numbers t.1 c.loop-piece.invariant.2)
