use Rattle.std.proofs.Common.{◌≡◌, true}
use Rattle.svc_record.specs.Record.{Record}
use Rattle.svc_record.specs.Descriptors.{one_live}
use Rattle.svc_record.proofs.OneLive.{one-live}
use Rattle.svc_record.proofs.SettledPrefixes.{settled_at}
use Rattle.svc_laws.proofs.records.one_live_descriptor.Goals as goal

pub returns : goal.returns
returns c = λ p r q right s. settled_at (λ (at : Record). one_live p at ≡ true) r q (one-live p r right) s
