-- When bootstrapping has begun, as services start.
use Rattle.std.proofs.Common.{Bool, true, not, ◌||◌, ◌&&◌, ◌∷◌, ◌≡◌, ap, arith}
use Rattle.std.specs.List.{list_any}
use Rattle.svc_graph.specs.declared.plan.Kind.TheVariants.{Bootstrap}
use Rattle.svc_record.specs.declared.plan.Plan.{Plan}
use Rattle.svc_record.specs.declared.entry.Entry.TheVariants.{Got}
use Rattle.svc_record.specs.declared.event.Event.TheVariants.{Side}
use Rattle.svc_record.specs.declared.event.Side.TheVariants.{Child}
use Rattle.svc_record.specs.Record.{Record, has}
use Rattle.svc_record.specs.Plans.{services, has_kind}
use Rattle.svc_record.specs.Starts.{is_started}
use Rattle.svc_record.specs.Boot.{has_begun, may_begin, is_side_child}
use Rattle.svc_boot.specs.BootData.{BootData}
use Rattle.svc_boot.specs.ForkState.{may_run}
use Rattle.svc_boot.specs.BootState.{BootStands}

-- bootstrapping may begin where the server goes on
pub may_begin-is : (p : Plan) (d : BootData) (q : Record) → BootStands p d q → may_begin p q ≡ may_run p d.fork
may_begin-is p d q stand = ap (λ b. not p.daemon || b) stand.fork.child_is

as_child : (eager daemon child started : Bool) → ((eager && (not daemon || true)) || started) ≡ (eager || ((eager && (not daemon || child)) || started))
as_child eager daemon child started = grind arith

-- the child of a daemon begins at once with `eager`
pub begun-child : (p : Plan) (q : Record) → has_begun p (Got (Side Child) ∷ q) ≡ (p.eager || has_begun p q)
begun-child p q = as_child p.eager p.daemon (has is_side_child q) (list_any (λ s. has_kind p Bootstrap s && is_started q s) (services p))
