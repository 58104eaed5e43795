-- When something is due of the offer.
use Rattle.std.specs.Prelude.{ℕ, Bool, ◌||◌}
use Rattle.svc_offer.specs.declared.offering.Offering.{Offering}
use Rattle.svc_offer.specs.OfferState.{is_connect_due, is_send_due}

-- a connect or a send is due at the moment t
abbrev pub is_due_at : Offering → ℕ → Bool
is_due_at x t = is_connect_due x t || is_send_due x t
