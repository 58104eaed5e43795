use Rattle.std.proofs.Common.{rules, ◌≡◌, ◌<◌, ◌++◌, suc, length, take, drop, set, insert, get_or, refl, ap, sym, ◌∙◌, subst, arith, add-one, List, ℕ, Vec, Global, vec_len}
use Rattle.std.proofs.lemmas.List.{take-append-drop, get_or_read}
use Rattle.svc_base.specs.Blocks.{first_key, is_index, put_note, KeepsEntries}
use Rattle.svc_base.proofs.BlockLemmas.{keeps-cut}
use Rattle.svc_base.proofs.IndexLemmas.{first-front, index-put}
use Rattle.svc_base.proofs.block_memory.cut.Goals as goal

pub returns : goal.returns
returns g c =
    let key = g.T.Keyed.key_of in
    let same : c.reserve.new.self.items ≡ c.args.blocks.now.items = c.reserve.ensures.items in
    let lt : c.args.at < length c.args.blocks.now.items = search rules in
    let within : c.args.at < length c.reserve.new.self.items = rw same lt in
    let block : c.index_mut.result.now ≡ c.index.result.now =
    c.index_mut.ensures.value ∙ ap (λ (bs : List (Vec g.row.T.Denot Global)). get_or bs c.args.at c.index_mut.result.now) same
    ∙ sym (get_or_read c.args.blocks.now.items c.args.at c.index.result.now lt c.index.ensures c.index_mut.result.now) in
    let lower : c.split_off.new.self.items ≡ take c.cut_place-place.result c.index_mut.result.now.items = c.in_ok-upper.ensures.items in
    let upper : c.in_ok-upper.upper.items ≡ drop c.cut_place-place.result c.index_mut.result.now.items = c.in_ok-upper.ensures.tail in
    let parts : c.split_off.new.self.items ++ c.in_ok-upper.upper.items ≡ (get_or c.reserve.new.self.items c.args.at c.index_mut.result.now).items =
    rw (lower, upper)
    (take-append-drop c.cut_place-place.result c.index_mut.result.now.items ∙ ap (λ (v : Vec g.row.T.Denot Global). v.items) c.index_mut.ensures.value) in
    let some : 0 < length c.split_off.new.self.items = omega (arith, c.split_off.new.self.ok.0, c.in_ok-upper.ensures.len) in
    let more : 0 < length c.in_ok-upper.upper.items =
    omega (arith, c.in_ok-upper.upper.ok.0, c.in_ok-upper.ensures.tail_len, c.len-len.ensures, ap (λ (v : Vec g.row.T.Denot Global). vec_len v) block) in
    let put : c.insert.new.self.items ≡ insert (set c.reserve.new.self.items c.args.at c.split_off.new.self) (suc c.args.at) c.in_ok-upper.upper =
    search rules in
    let start =
    first-front key c.split_off.new.self.items c.in_ok-upper.upper.items (get_or c.reserve.new.self.items c.args.at c.index_mut.result.now).items parts some in
    let noted : c.note_new.new.firsts.items ≡ put_note (suc c.args.at) (first_key key c.in_ok-upper.upper.items) c.args.firsts.now.items =
    ◌∙◌ {A = List ℕ} c.note_new.ensures (rw (add-one c.args.at, c.deref.ensures.value, c.reserve-2.ensures.items) refl) in
    record {
      kept = rw put (subst
          (λ (bs : List (Vec g.row.T.Denot Global)). KeepsEntries bs
          (insert (set c.reserve.new.self.items c.args.at c.split_off.new.self) (suc c.args.at) c.in_ok-upper.upper)) same
          (keeps-cut c.reserve.new.self.items c.args.at c.split_off.new.self c.in_ok-upper.upper c.index_mut.result.now within parts some more));
      index = λ h. rw (noted, put)
          (index-put key c.args.firsts.now.items c.reserve.new.self.items c.args.at c.split_off.new.self c.in_ok-upper.upper c.index_mut.result.now within
          start (ap (is_index key c.args.firsts.now.items) same ∙ h));
    }
