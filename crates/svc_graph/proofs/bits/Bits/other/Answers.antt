use Rattle.std.proofs.Common.{arith, ℕ, List, ◌==◌, ◌∙◌, ap, length}
use Rattle.svc_graph.proofs.BitRows.{word_bit, words_within, bits_apart}
use Rattle.svc_graph.proofs.bits.Bits.other.Goals as goal

pub loop-k-preserved : goal.loop-k-preserved
loop-k-preserved c =
    let own_size = ap (λ (ws : List ℕ). length ws) c.self.view_is in
    let size = ap (λ (ws : List ℕ). length ws) c.others.view_is in
    words_within c.args.others.now c.args.self.now c.args.y c.args.x c.loop-k.k c.index-word.result.now c.index-own.result.now (omega arith)
    (word_bit c.others.inside.words.items c.args.others.now c.args.y c.loop-k.k c.index-word.result.now c.others.view_is c.loop-k-test.true (omega arith)
    c.index-word.ensures)
    (word_bit c.self.inside.words.items c.args.self.now c.args.x c.loop-k.k c.index-own.result.now c.self.view_is c.loop-k-test.true (omega arith)
    c.index-own.ensures)
    (λ i. c.in_default.ensures.none i (omega arith)) c.loop-k.invariant

pub returns-in-Some-clause-found : goal.returns-in-Some-clause-found
returns-in-Some-clause-found c =
    let own_size = ap (λ (ws : List ℕ). length ws) c.self.view_is in
    let size = ap (λ (ws : List ℕ). length ws) c.others.view_is in
    let found = c.in-Some.ensures.found in
    let apart = bits_apart c.index-word.result.now c.index-own.result.now c.in-Some.bit (omega arith) found.1 found.2 in
    let small = c.loop-k-test.true in (
      omega arith,
      word_bit c.others.inside.words.items c.args.others.now c.args.y c.loop-k.k c.index-word.result.now c.others.view_is small (omega arith)
          c.index-word.ensures c.in-Some.bit found.1 ∙ ap (λ w. w == 1) apart.0,
      word_bit c.self.inside.words.items c.args.self.now c.args.x c.loop-k.k c.index-own.result.now c.self.view_is small (omega arith)
          c.index-own.ensures c.in-Some.bit found.1 ∙ ap (λ w. w == 1) apart.1,
    )
