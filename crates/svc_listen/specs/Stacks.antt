-- What the connections of an endpoint get.
use Rattle.std.specs.Prelude.{is_some}
use Rattle.svc_listen.specs.StackData.{StackData}
use Rattle.svc_listen.specs.declared.listeners.l4.arrivals.Given.{Given}

abbrev pub given_by : StackData → Given
given_by stack = record { tls = is_some stack.tls; buffer = stack.buffer; callback = stack.callback }
