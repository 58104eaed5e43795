use Rattle.std.proofs.Common.{sym, ap, ◌∙◌, fold, List, ℕ, ◌∷◌, []}
use Rattle.std.proofs.lemmas.List.{map-id}
use Rattle.std.proofs.lemmas.List.Sums.{fold-append}
use Rattle.std.proofs.lemmas.Iterator.Adapters.{YieldsList-from_vec}
use Rattle.std.proofs.lemmas.Iterator.Consumers.{YieldsList-end}
use Rattle.svc_server.specs.Addresses.{with_missing}
use Rattle.svc_server.proofs.server.addresses.add_all_missing.Goals as goal

pub returns : goal.returns
returns c =
    let t = YieldsList-end
    (YieldsList-from_vec {s = c.into_iter-text-iterator.result} c.args.more.items (cc) (cc)) c.loop-text.yielded c.loop-text.text-iterator
    c.loop-text.yielded_by c.next.result c.next.new.self c.in-None.is c.next.ensures.steps in
    c.loop-text.invariant ∙ ap (λ (ys : List (List ℕ)). fold with_missing c.args.texts.now.items ys) (sym (map-id c.loop-text.yielded) ∙ t.0)

pub loop-text-preserved : goal.loop-text-preserved
loop-text-preserved c =
    c.in_ok-add_missing.ensures
    ∙ ap (λ (ys : List (List ℕ)). with_missing ys c.in-Some.text) c.loop-text.invariant
    ∙ sym (fold-append with_missing c.args.texts.now.items c.loop-text.yielded (c.in-Some.text ∷ []))
