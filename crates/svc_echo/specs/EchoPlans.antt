-- The plan of the echo server.
use Rattle.std.specs.Prelude.{ℕ, false, List, [], ◌∷◌, codes, Some, None}
use Rattle.svc_base.specs.declared.settings.Setting.TheVariants.{NoDelay}
use Rattle.svc_graph.specs.declared.plan.EndpointPlan.{EndpointPlan}
use Rattle.svc_graph.specs.declared.plan.Kind.TheVariants.{Plain}
use Rattle.svc_record.specs.declared.plan.ServicePlan.{ServicePlan}
use Rattle.svc_record.specs.declared.plan.Plan.{Plan}

-- a TCP endpoint of this address, without a filter
abbrev pub endpoint_at : List ℕ → EndpointPlan
endpoint_at address = record { address = address; unix = false; options = NoDelay ∷ []; filter = None }

-- the service `echo`, which is plain: it echoes at its first endpoint, and takes signals at its second one
abbrev pub echo_service : List ℕ → List ℕ → ServicePlan
echo_service address control = record {
  name = codes "echo";
  kind = Plain;
  depends = [];
  declared = Some (address ∷ control ∷ []);
  endpoints = endpoint_at address ∷ endpoint_at control ∷ [];
}

-- that service alone, without a grace period
abbrev pub echo_plan : List ℕ → List ℕ → Plan
echo_plan address control = record {
  services = echo_service address control ∷ [];
  grace = 0;
  stop = 5;
  tasks = 1;
  limit = 5;
  upgrade = false;
  test = false;
  eager = false;
  daemon = false;
  wait = false;
  ready_timeout = 600;
}

-- the plan of the words: their first two are the addresses
abbrev pub plan_of : List (List ℕ) → Plan
plan_of (address ∷ control ∷ more) = echo_plan address control
plan_of _ = echo_plan [] []
