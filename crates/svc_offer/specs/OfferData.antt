-- What contracts see of the part on the offer.
use Rattle.std.specs.Prelude.{Option}
use Rattle.svc_fds.specs.declared.encoding.Message.{Message}
use Rattle.svc_fds.specs.RetriesLeft.{RetriesLeft}
use Rattle.svc_offer.specs.declared.offering.Offering.{Offering}

-- how far the offer has come, its message while it goes on, and how many more absences and delays are borne
pub record OfferData : Type 0 where
  pub state : Offering
  pub message : Option Message
  pub retries : RetriesLeft
