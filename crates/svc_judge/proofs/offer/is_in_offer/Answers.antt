use Rattle.std.proofs.Common.{ℕ, List, ◌==◌, sym, ap, ◌∙◌}
use Rattle.std.specs.List.{list_any}
use Rattle.svc_record.specs.Offer.{table}
use Rattle.svc_judge.specs.Pasts.{plan_of, record_of}
use Rattle.svc_judge.proofs.OfferLemmas.{offered_by_numbers}
use Rattle.svc_judge.proofs.offer.is_in_offer.Goals as goal

pub returns : goal.returns
returns c =
    c.is_in.ensures
    ∙ ap (λ (ns : List ℕ). list_any (λ n. n == c.args.fd) ns) (c.deref.ensures.value ∙ c.requires.past.numbers c.requires.signalled)
    ∙ sym (offered_by_numbers c.args.fd (table (plan_of c.args.past.now) (record_of c.args.past.now)))
