-- What an operator's line asks for.
use Rattle.std.specs.Prelude.{ℕ, Bool, List, Option, Some, None, ◌&&◌, codes, if◌then◌else◌, length, nat_lt, take}
use Rattle.std.specs.Str.{bytes_eq}
use Rattle.svc_system.specs.declared.orders.Order.{Order}
use Rattle.svc_system.specs.declared.orders.Order.TheVariants.{Status, Fast, Terminate, Upgrade}

-- the line is the word `upgrade`, one space, and at least one byte of a path
abbrev pub asks_upgrade : List ℕ → Bool
asks_upgrade line = nat_lt 8 (length line) && bytes_eq (take 8 line) (codes "upgrade ")

-- the order whose word the line is, or an upgrade with its path
unfoldable pub order_of : List ℕ → Option Order
order_of line =
    if bytes_eq line (codes "status") then Some Status
    else (if bytes_eq line (codes "fast") then Some Fast
    else (if bytes_eq line (codes "terminate") then Some Terminate
    else (if asks_upgrade line then Some Upgrade else None)))
