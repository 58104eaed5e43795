-- What a script's filters block.
use Rattle.std.specs.Prelude.{List}
use Rattle.svc_socket.specs.declared.reading.IpNumber.{IpNumber}
use Rattle.svc_services.specs.declared.script_filter.ScriptFilter.{ScriptFilter}

-- the addresses that the filter blocks
abbrev pub blocked_by : ScriptFilter → List IpNumber
blocked_by f = f.blocked
