use Rattle.std.proofs.Common.{◌==◌, length, sym, rules, tests}
use Rattle.std.specs.List.{slice_split}
use Rattle.std.proofs.lemmas.List.{length_push}
use Rattle.std.proofs.lemmas.Iterator.Consumers.{YieldsList-turn, YieldsList-end}
use Rattle.std.proofs.lemmas.Iterator.Splits.{YieldsList-from_slice_split}
use Rattle.svc_text.specs.ServiceLines.{numbers_of}
use Rattle.svc_text.proofs.ListLemmas.{read_more, read_stops, read_all}
use Rattle.svc_text.proofs.service.numbers_of.Goals as goal

pub returns-in_default : goal.returns-in_default
unfolding numbers_of
returns-in_default c =
    let y = YieldsList-from_slice_split _ (λ b. b == 44) c.args.word.now (search rules) (search rules) (search rules) (λ x b q k. search (rules, tests)) in
    let t = YieldsList-turn y c.loop-piece.yielded _ c.loop-piece.yielded_by _ _ c.in-Some.piece c.in-Some.is c.next.ensures.steps in
    sym (read_stops (slice_split (λ b. b == 44) c.args.word.now) (length c.loop-piece.yielded) c.in-Some.piece.now t c.in_default.ensures)

pub loop-piece-preserved : goal.loop-piece-preserved
unfolding numbers_of
loop-piece-preserved c = (
  search rules,
  search rules,
  let y = YieldsList-from_slice_split _ (λ b. b == 44) c.args.word.now (search rules) (search rules) (search rules) (λ x b q k. search (rules, tests)) in
      let t = YieldsList-turn y c.loop-piece.yielded _ c.loop-piece.yielded_by _ _ c.in-Some.piece c.in-Some.is c.next.ensures.steps in
      read_more (slice_split (λ b. b == 44) c.args.word.now)
      (length c.loop-piece.yielded) _ c.in-Some-number32.n c.in-Some.piece.now c.loop-piece.numbers _ t c.in-Some-number32.ensures
      (length_push c.loop-piece.yielded c.in-Some.piece) c.in-Ok.ensures.ok c.loop-piece.invariant.2,
)

pub returns : goal.returns
unfolding numbers_of
returns c =
    let y = YieldsList-from_slice_split _ (λ b. b == 44) c.args.word.now (search rules) (search rules) (search rules) (λ x b q k. search (rules, tests)) in
    let t = YieldsList-end y c.loop-piece.yielded _ c.loop-piece.yielded_by _ _ c.in-None.is c.next.ensures.steps in
    sym (read_all (slice_split (λ b. b == 44) c.args.word.now) (length c.loop-piece.yielded) c.loop-piece.numbers t.1 c.loop-piece.invariant.2)
