use Rattle.std.proofs.Common.{◌≡◌, ◌<◌, ◌++◌, ◌∷◌, [], length, get_or, ap, sym, ◌∙◌, arith, List, ℕ, Vec, Global}
use Rattle.std.proofs.lemmas.List.{length_push}
use Rattle.svc_base.specs.Blocks.{first_key, is_index}
use Rattle.svc_base.proofs.IndexLemmas.{index-next}
use Rattle.svc_base.proofs.block_memory.note_rest.Goals as goal

pub loop-at-preserved : goal.loop-at-preserved
loop-at-preserved g c =
    let key = g.T.Keyed.key_of in
    let notes = c.loop-at.firsts.items in
    let at = c.loop-at.at in
    let here : length notes ≡ at = c.loop-at.invariant.here in
    let lt : at < length c.args.blocks.now = omega arith in
    let read : c.first_key.result ≡ first_key key (get_or c.args.blocks.now at c.index-blocks-at.result).items =
    c.first_key.ensures ∙ ap (first_key key) c.deref.ensures.value ∙ ap (λ (v : Vec g.row.T.Denot Global). first_key key v.items) c.index-blocks-at.is in
    let pushed : c.push.new.self.items ≡ notes ++ c.first_key.result ∷ [] = c.in_ok-push.ensures.items in
    record {
      here = omega (arith, ap length pushed, length_push notes c.first_key.result);
      index = λ h. ap (λ (ns : List ℕ). is_index key ns c.args.blocks.now) (pushed ∙ ap (λ (n : ℕ). notes ++ n ∷ []) read)
          ∙ index-next key notes c.args.blocks.now at c.index-blocks-at.result (sym here) lt (c.loop-at.invariant.index h);
    }
