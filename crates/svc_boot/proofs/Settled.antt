-- That all is told which is due, from what the calls of a step make of the part.
use Rattle.std.proofs.Common.{ℕ, Bool, true, false, not, ◌||◌, ◌-◌, ◌/◌, ◌≡◌, refl, sym, arith, if◌then◌else◌}
use Rattle.std.specs.Prelude.{nat_le}
use Rattle.std.proofs.lemmas.Bool.{or_parts}
use Rattle.svc_record.specs.declared.plan.Plan.{Plan}
use Rattle.svc_record.specs.Record.{Record}
use Rattle.svc_boot.specs.declared.fork.Fork.{Fork}
use Rattle.svc_boot.specs.declared.fork.Fork.TheVariants.{Unforked, Asked, Child, Waiting, Over}
use Rattle.svc_boot.specs.declared.receiving.Receiving.{Receiving}
use Rattle.svc_boot.specs.BootData.{BootData}
use Rattle.svc_boot.specs.ForkState.{is_forked, is_child, is_waiting, is_parent, is_parent_over, may_run}
use Rattle.svc_boot.specs.BootState.{BootStands}
use Rattle.svc_boot.specs.BootEffects.{waited, begun_by, begun_with, refusal_of, early_end}

-- a beginning leaves the fork as it is
pub fork-begin : (p : Plan) (d : BootData) → (begun_by p d).fork ≡ d.fork
fork-begin p d = either d.begun p.test p.upgrade
  where
    either : (begun test upgrade : Bool) → (if begun then d else begun_with test upgrade d).fork ≡ d.fork
    either true test upgrade = refl
    either false true upgrade = refl
    either false false true = refl
    either false false false = refl

-- a moment forks nothing, and lets no server go on
pub forked-waited : (limit m : ℕ) (f : Fork) → is_forked (waited limit m f) ≡ is_forked f
forked-waited limit m Unforked = refl
forked-waited limit m Asked = refl
forked-waited limit m Child = refl
forked-waited limit m (Waiting at) = either (nat_le limit ((m - at) / 1000))
  where
    either : (late : Bool) → is_forked (if late then Over 1 else Waiting at) ≡ true
    either true = refl
    either false = refl
forked-waited limit m (Over status) = refl

-- a server that goes on is no parent
pub free-no_parent : (p : Plan) (d : BootData) (q : Record) → BootStands p d q → may_run p d.fork ≡ true → is_parent d.fork ≡ false
free-no_parent p d q stand free = of d.fork p.daemon stand.fork.daemon_is free
  where
    of : (f : Fork) (daemon : Bool) → (is_forked f ≡ true → daemon ≡ true) → (not daemon || is_child f) ≡ true → is_parent f ≡ false
    of Unforked daemon is free = refl
    of Asked daemon is free = refl
    of Child daemon is free = refl
    of (Waiting at) daemon is free = let e = is refl in grind arith
    of (Over status) daemon is free = let e = is refl in grind arith

-- and it has forked where it is a daemon
pub free-forked : (p : Plan) (d : BootData) (q : Record) → BootStands p d q → may_run p d.fork ≡ true → is_forked d.fork ≡ p.daemon
free-forked p d q stand free = of d.fork p.daemon stand.fork.daemon_is free
  where
    of : (f : Fork) (daemon : Bool) → (is_forked f ≡ true → daemon ≡ true) → (not daemon || is_child f) ≡ true → is_forked f ≡ daemon
    of Unforked true is free = cc
    of Unforked false is free = refl
    of Asked daemon is free = sym (is refl)
    of Child daemon is free = sym (is refl)
    of (Waiting at) daemon is free = sym (is refl)
    of (Over status) daemon is free = sym (is refl)

-- no parent ends it
pub free-on : (p : Plan) (d : BootData) (q : Record) → BootStands p d q → may_run p d.fork ≡ true → is_parent_over d.fork ≡ false
free-on p d q stand free = (or_parts (is_waiting d.fork) (is_parent_over d.fork) (free-no_parent p d q stand free)).1

-- so the run ends by the receiving alone
pub free-end : (f : Fork) (x : Receiving) → is_parent_over f ≡ false → early_end f x ≡ refusal_of x
free-end Unforked x on = refl
free-end Asked x on = refl
free-end Child x on = refl
free-end (Waiting at) x on = refl
free-end (Over status) x on = cc
