-- Which entries leave whether an offer is over.
use Rattle.std.proofs.Common.{false, ◌∷◌, ◌≡◌, refl, sym}
use Rattle.std.proofs.lemmas.Bool.{false≢true}
use Rattle.svc_record.specs.declared.plan.Plan.{Plan}
use Rattle.svc_record.specs.declared.entry.Entry.{Entry}
use Rattle.svc_record.specs.declared.entry.Entry.TheVariants.{Got}
use Rattle.svc_record.specs.declared.event.Event.TheVariants.{Signal, Sent, ConnectFailed, SendFailed, NotThere, StillConnecting, SendBusy}
use Rattle.svc_record.specs.Record.{Record}
use Rattle.svc_record.specs.Offer.{is_over}
use Rattle.svc_judge.specs.Steps.{may_end_offer}

-- it is over before an entry by which it can't be where it is with it
pub over_same : (p : Plan) (e : Entry) (q : Record) → may_end_offer e ≡ false → is_over p (e ∷ q) ≡ is_over p q
over_same p (Got (Signal kind)) q h = absurd (false≢true (sym h))
over_same p (Got Sent) q h = absurd (false≢true (sym h))
over_same p (Got ConnectFailed) q h = absurd (false≢true (sym h))
over_same p (Got SendFailed) q h = absurd (false≢true (sym h))
over_same p (Got NotThere) q h = absurd (false≢true (sym h))
over_same p (Got StillConnecting) q h = absurd (false≢true (sym h))
over_same p (Got SendBusy) q h = absurd (false≢true (sym h))
over_same p _ q h = refl
