use Rattle.std.proofs.Common.{◌≡◌, true}
use Rattle.svc_record.specs.Record.{Record}
use Rattle.svc_record.proofs.SettledPrefixes.{settled_at, settled_from}
use Rattle.svc_laws.proofs.agreement.settled_prefixes.Goals as goal

pub returns-clause-each : goal.returns-clause-each
returns-clause-each c = λ test r q each s. settled_at (λ (at : Record). test at ≡ true) r q each s

pub returns-clause-from_each : goal.returns-clause-from_each
returns-clause-from_each c = λ test r each. settled_from (λ (at : Record). test at ≡ true) r each
