use Rattle.std.proofs.Common.{◌≡◌, true, false, arith}
use Rattle.svc_base.specs.Items.{list_of}
use Rattle.svc_base.specs.NumberSets.{is_in}
use Rattle.svc_endpoints.specs.Sums.{sum_of, is_listed}
use Rattle.svc_endpoints.proofs.SumLemmas.{each-text}
use Rattle.svc_endpoints.proofs.sums.note_texts.Goals as goal

pub returns-clause-claimed : goal.returns-clause-claimed
returns-clause-claimed c = λ a h off.
    each-text c.args.texts.now (λ b. is_listed c.args.list.now b ≡ false → is_in (sum_of b) (list_of c.loop-k.shared) ≡ true)
    (λ k lt. c.loop-k.invariant.noted k (omega arith)) a h off
