use Rattle.std.proofs.Common.{ℕ, List, length, ◌==◌, sym, ap, ◌∙◌}
use Rattle.svc_record.specs.Offer.{table}
use Rattle.svc_judge.specs.Pasts.{plan_of, record_of}
use Rattle.svc_judge.proofs.OfferLemmas.{offers_by_numbers}
use Rattle.svc_judge.proofs.offer.is_nothing_offered.Goals as goal

pub returns : goal.returns
returns c =
    c.is_none.ensures
    ∙ ap (λ (ns : List ℕ). length ns == 0) (c.deref.ensures.value ∙ c.requires.past.numbers c.requires.signalled)
    ∙ sym (offers_by_numbers (table (plan_of c.args.past.now) (record_of c.args.past.now)))
