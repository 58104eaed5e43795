-- The services that the host was handed.
use Rattle.svc_server.specs.Hosts.{Handed}
use Rattle.svc_hello.specs.declared.hosted.Hosted.{Hosted}

-- a service that was handed over: its number, and the name that it answers
abbrev pub handed_over : Hosted → Handed
handed_over h = record { service = h.number; name = h.service.name }
