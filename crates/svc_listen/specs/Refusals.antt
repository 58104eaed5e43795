-- What comes back with a refusal.
use Rattle.std.specs.Prelude.{None}
use Rattle.svc_base.specs.declared.memory.NoMemory.{NoMemory}
use Rattle.svc_listen.specs.declared.listeners.EndpointRefused.{EndpointRefused}

-- nothing was moved into the call
abbrev pub nothing_back : NoMemory → EndpointRefused
nothing_back reason = record { reason = reason; addr = None; sock_opt = None; perm = None; settings = None; endpoint = None; l4 = None; tls = None }
