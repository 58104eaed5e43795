use Rattle.std.proofs.Common.{◌≡◌, [], List, filter, subst, ◌∙◌, IfOk}
use Rattle.std.specs.List.{filter_map}
use Rattle.svc_fds.specs.Tables.{put_all}
use Rattle.svc_record.specs.Message.{encode}
use Rattle.svc_record.specs.Descriptors.{Descriptor, as_entry}
use Rattle.svc_judge.specs.Facts.{is_unclosed}
use Rattle.svc_judge.specs.declared.past.Offer.{Offer}
use Rattle.svc_judge.proofs.facts.offer_at.Goals as goal

pub returns-clause-message : goal.returns-clause-message
returns-clause-message c =
    subst
    (λ (ds : List Descriptor). IfOk c.offer_in-offer.result
    (λ (o : Offer). o.message ≡ encode (put_all (filter_map as_entry (filter (is_unclosed c.args.entries.now) ds)) [])))
    (c.deref.ensures.value ∙ c.in_ok-opened.ensures.opened) c.offer_in-offer.ensures.message
