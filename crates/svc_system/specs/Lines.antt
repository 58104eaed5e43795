-- What a line of an operator says so far.
use Rattle.std.specs.Prelude.{ℕ, ◌-◌, List, [], Option, Some, None, take, drop, nat_lt, if◌then◌else◌}
use Rattle.svc_system.specs.Orders.{order_of}
use Rattle.svc_system.specs.declared.orders.LineStep.{LineStep}
use Rattle.svc_system.specs.declared.orders.LineStep.TheVariants as steps
use Rattle.svc_system.specs.declared.orders.Order.{Order}
use Rattle.svc_system.specs.declared.orders.OrderLine.{OrderLine}

-- what the line asks for, if it is whole now
abbrev pub known : OrderLine → Option Order
known line = if line.is_long then None else order_of (take line.count line.bytes)

-- what a line feed makes of a line that asks for this
abbrev pub step_of : Option Order → LineStep
step_of (Some order) = steps.Order order
step_of None = steps.Unknown

-- what stands behind the word `upgrade` and a space in the last whole line
abbrev pub path_in : OrderLine → List ℕ
path_in line = if nat_lt line.said 8 then [] else take (line.said - 8) (drop 8 line.bytes)
