-- What may be said of an item of a service.
use Rattle.std.specs.Prelude.{⊤}
use Rattle.svc_messages.specs.declared.services.ItemFault.{ItemFault}
use Rattle.svc_messages.specs.declared.services.ItemFault.TheVariants.{Value, Twice, Bootstraps, TooManyEndpoints, NoEndpoint}
use Rattle.svc_messages.specs.Messages.{IsPlain}

-- what the value has to be is said in one line
abbrev pub IsPlainFault : ItemFault → Type 0
IsPlainFault (Value wanted) = IsPlain wanted.now
IsPlainFault Twice = ⊤
IsPlainFault Bootstraps = ⊤
IsPlainFault TooManyEndpoints = ⊤
IsPlainFault NoEndpoint = ⊤
