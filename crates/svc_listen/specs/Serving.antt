-- Endpoints that a service gets.
use Rattle.svc_listen.specs.EndpointData.{ConfigData}
use Rattle.svc_listen.specs.ServiceData.{ServiceData}
use Rattle.svc_listen.specs.Endpoints.{added}

-- one endpoint more, the last
abbrev pub with_endpoint : {A : Type 0} → ServiceData A → ConfigData → ServiceData A
with_endpoint service config = record service { listeners = added service.listeners config }
