-- What the server is run by.
use Rattle.std.specs.Prelude.{[], ◌∷◌, Some, false, codes}
use Rattle.svc_graph.specs.declared.plan.Kind.TheVariants.{Plain, Notifying}
use Rattle.svc_record.specs.declared.plan.Plan.{Plan}
use Rattle.svc_record.specs.declared.plan.ServicePlan.{ServicePlan}
use Rattle.svc_hello.specs.Services.{endpoint_at}

-- the cache says itself when it is ready, and listens nowhere
abbrev pub cache_plan : ServicePlan
cache_plan = record { name = codes "cache"; kind = Notifying; depends = []; declared = Some []; endpoints = [] }

-- the web service waits for the cache, and listens on one address
abbrev pub web_plan : ServicePlan
web_plan = record {
  name = codes "web";
  kind = Plain;
  depends = 0
      ∷ [];
  declared = Some (codes "127.0.0.1:8080" ∷ []);
  endpoints = endpoint_at (codes "127.0.0.1:8080") ∷ [];
}

-- the two services, one second of grace, and the defaults
abbrev pub hello_plan : Plan
hello_plan = record {
  services = cache_plan ∷ web_plan ∷ [];
  grace = 1;
  stop = 5;
  tasks = 1;
  limit = 5;
  upgrade = false;
  test = false;
  eager = false;
  daemon = false;
  wait = false;
  ready_timeout = 600;
}
