-- What the state of a fork stands for after each entry.
use Rattle.std.proofs.Common.{ℕ, Bool, true, false, not, ◌||◌, ◌&&◌, ◌-◌, ◌/◌, [], ◌∷◌, ◌≡◌, refl, ap, sym, ◌∙◌, arith, if◌then◌else◌}
use Rattle.std.specs.Prelude.{nat_le}
use Rattle.std.proofs.lemmas.Bool.{or_parts, or_right}
use Rattle.svc_record.specs.declared.plan.Plan.{Plan}
use Rattle.svc_record.specs.declared.entry.Entry.TheVariants.{Got, Told}
use Rattle.svc_record.specs.declared.action.Action.{Action}
use Rattle.svc_record.specs.declared.action.Action.TheVariants.{Daemonize}
use Rattle.svc_record.specs.declared.event.Event.{Event}
use Rattle.svc_record.specs.declared.event.Event.TheVariants.{Moment, Side as Forked, ChildReady, ChildGone, DropFailed}
use Rattle.svc_record.specs.declared.event.Side.{Side}
use Rattle.svc_record.specs.declared.event.Side.TheVariants as sides
use Rattle.svc_record.specs.Record.{Record, has, now}
use Rattle.svc_record.specs.Asks.{is_daemonize}
use Rattle.svc_record.specs.Boot.{is_side_parent}
use Rattle.svc_record.specs.Ends.{is_child_ready, is_parent_failure, parent_moment, parent_waited}
use Rattle.svc_boot.specs.declared.fork.Fork.{Fork}
use Rattle.svc_boot.specs.declared.fork.Fork.TheVariants.{Unforked, Asked, Child, Waiting, Over}
use Rattle.svc_boot.specs.ForkState.{ForkStands, is_asked, is_child, is_waiting, is_parent, is_parent_over, may_run}
use Rattle.svc_boot.specs.BootEffects.{side_taken, waited}
use Rattle.svc_boot.specs.BootFacts.{is_fork_event}

goes_on : (daemon child came : Bool) → came ≡ child → (not daemon || child) ≡ true → ((not daemon || false) || came) ≡ true
goes_on daemon child came is free = grind arith

not_both : {A : Type 0} → (b : Bool) → b ≡ true → b ≡ false → A
not_both b holds fails = cc

no_parent : (wait parent more : Bool) → parent ≡ false → ((wait && parent) && more) ≡ false
no_parent wait parent more none = grind arith

-- before the first entry
pub fork-new : (p : Plan) → ForkStands p Unforked []
fork-new p = record {
  forked_times = refl;
  asked_is = refl;
  child_is = refl;
  parent_is = refl;
  since_is = λ h. cc;
  well_is = refl;
  badly_is = no_parent p.wait false (false || false) refl;
  status_is = omega arith;
  unready = λ h. refl;
  unfailed = λ h. refl;
  daemon_is = λ h. cc;
  held = λ h. refl;
  first = tt;
  fork_first = tt;
}

-- the fork is asked for, before all else
pub fork-asked : (p : Plan) → p.daemon ≡ true → ForkStands p Asked (Told Daemonize ∷ [])
fork-asked p daemon = record {
  forked_times = refl;
  asked_is = refl;
  child_is = refl;
  parent_is = refl;
  since_is = λ h. cc;
  well_is = refl;
  badly_is = no_parent p.wait false (false || false) refl;
  status_is = omega arith;
  unready = λ h. refl;
  unfailed = λ h. refl;
  daemon_is = λ h. daemon;
  held = λ h. refl;
  first = (refl, tt);
  fork_first = (asks p.daemon, tt);
}
  where
    asks : (b : Bool) → ((not b || true) || false) ≡ true
    asks true = refl
    asks false = refl

-- something else is told, where the server goes on
pub fork-told : (p : Plan) (f : Fork) (q : Record) (a : Action) → is_daemonize (Told a) ≡ false → may_run p f ≡ true → ForkStands p f q
    → ForkStands p f (Told a ∷ q)
fork-told p f q Daemonize other free s = cc
fork-told p f q a other free s = record {
  forked_times = s.forked_times;
  asked_is = s.asked_is;
  child_is = s.child_is;
  parent_is = s.parent_is;
  since_is = s.since_is;
  well_is = s.well_is;
  badly_is = s.badly_is;
  status_is = s.status_is;
  unready = s.unready;
  unfailed = s.unfailed;
  daemon_is = s.daemon_is;
  held = λ h. not_both (may_run p f) free h;
  first = (refl, s.first);
  fork_first = (goes_on p.daemon (is_child f) _ s.child_is free, s.fork_first);
}

-- an event that changes nothing of a fork
pub fork-got : (p : Plan) (f : Fork) (q : Record) (e : Event) → is_fork_event e ≡ false → ForkStands p f q → ForkStands p f (Got e ∷ q)
fork-got p f q (Moment ms) other s = cc
fork-got p f q (Forked side) other s = cc
fork-got p f q ChildReady other s = cc
fork-got p f q ChildGone other s = cc
fork-got p f q DropFailed other s = cc
fork-got p f q e other s = record {
  forked_times = s.forked_times;
  asked_is = s.asked_is;
  child_is = s.child_is;
  parent_is = s.parent_is;
  since_is = s.since_is;
  well_is = s.well_is;
  badly_is = s.badly_is;
  status_is = s.status_is;
  unready = s.unready;
  unfailed = s.unfailed;
  daemon_is = s.daemon_is;
  held = s.held;
  first = (refl, s.first);
  fork_first = (refl, s.fork_first);
}

-- where nobody became the parent, nobody has waited
unwaited : (p : Plan) (q : Record) → has is_side_parent q ≡ false → parent_waited p q ≡ false
unwaited p [] none = refl
unwaited p (Got (Moment ms) ∷ q) none = rw none (unwaited p q none)
unwaited p (e ∷ q) none = unwaited p q (or_parts (is_side_parent e) (has is_side_parent q) none).1

waits-needed : (wait ready : Bool) → wait ≡ true → ready ≡ false → (not wait || ready) ≡ false
waits-needed wait ready w r = grind arith

not_yet : (wait failure waited : Bool) → failure ≡ false → waited ≡ false → ((wait && true) && (failure || waited)) ≡ false
not_yet wait failure waited f w = grind arith

ends_well : (wait ready : Bool) → wait ≡ false → (not wait || ready) ≡ true
ends_well wait ready w = grind arith

ends_not : (wait more : Bool) → wait ≡ false → ((wait && true) && more) ≡ false
ends_not wait more w = grind arith

-- the process is the child
child-taken : (p : Plan) (q : Record) → ForkStands p Asked q → ForkStands p Child (Got (Forked sides.Child) ∷ q)
child-taken p q s = record {
  forked_times = s.forked_times;
  asked_is = refl;
  child_is = refl;
  parent_is = s.parent_is;
  since_is = λ h. cc;
  well_is = s.well_is;
  badly_is = s.badly_is;
  status_is = s.status_is;
  unready = s.unready;
  unfailed = s.unfailed;
  daemon_is = s.daemon_is;
  held = λ h. not_both (not p.daemon || true) (or_right (not p.daemon) true refl) h;
  first = (refl, s.first);
  fork_first = (refl, s.fork_first);
}

first_parent : (q : Record) (m : ℕ) → has is_side_parent q ≡ false → m ≡ now q → (if not (has is_side_parent q) then now q else parent_moment q) ≡ m
first_parent q m none at = rw none (sym at)

-- the process is the parent
parent-taken : (p : Plan) (q : Record) (m : ℕ) (wait : Bool) → p.wait ≡ wait → m ≡ now q → ForkStands p Asked q
    → ForkStands p (if wait then Waiting m else Over 0) (Got (Forked sides.Parent) ∷ q)
parent-taken p q m true waits at s = record {
  forked_times = s.forked_times;
  asked_is = refl;
  child_is = s.child_is;
  parent_is = refl;
  since_is = λ h. first_parent q m s.parent_is at;
  well_is = waits-needed p.wait (has is_child_ready q) waits (s.unready refl);
  badly_is = not_yet p.wait (has is_parent_failure q) (parent_waited p q) (s.unfailed refl) (unwaited p q s.parent_is);
  status_is = omega arith;
  unready = λ h. cc;
  unfailed = λ h. cc;
  daemon_is = s.daemon_is;
  held = s.held;
  first = (refl, s.first);
  fork_first = (refl, s.fork_first);
}
parent-taken p q m false waits at s = record {
  forked_times = s.forked_times;
  asked_is = refl;
  child_is = s.child_is;
  parent_is = refl;
  since_is = λ h. cc;
  well_is = ends_well p.wait (has is_child_ready q) waits;
  badly_is = ends_not p.wait (has is_parent_failure q || parent_waited p q) waits;
  status_is = omega arith;
  unready = λ h. cc;
  unfailed = λ h. cc;
  daemon_is = s.daemon_is;
  held = s.held;
  first = (refl, s.first);
  fork_first = (refl, s.fork_first);
}

-- the fork came that was awaited
pub fork-side : (p : Plan) (f : Fork) (q : Record) (side : Side) (m : ℕ) → is_asked f ≡ true → m ≡ now q → ForkStands p f q
    → ForkStands p (side_taken p.wait side m) (Got (Forked side) ∷ q)
fork-side p Unforked q side m asked at s = cc
fork-side p Child q side m asked at s = cc
fork-side p (Waiting since) q side m asked at s = cc
fork-side p (Over status) q side m asked at s = cc
fork-side p Asked q sides.Child m asked at s = child-taken p q s
fork-side p Asked q sides.Parent m asked at s = parent-taken p q m p.wait refl at s

well_now : (parent wait ready : Bool) → parent ≡ true → (parent && (not wait || true)) ≡ true
well_now parent wait ready is = grind arith

-- the child is ready for which the parent waits
pub fork-ready : (p : Plan) (f : Fork) (q : Record) → is_waiting f ≡ true → ForkStands p f q → ForkStands p (Over 0) (Got ChildReady ∷ q)
fork-ready p Unforked q waits s = cc
fork-ready p Asked q waits s = cc
fork-ready p Child q waits s = cc
fork-ready p (Over status) q waits s = cc
fork-ready p (Waiting at) q waits s = record {
  forked_times = s.forked_times;
  asked_is = s.asked_is;
  child_is = s.child_is;
  parent_is = s.parent_is;
  since_is = λ h. cc;
  well_is = well_now (has is_side_parent q) p.wait true s.parent_is;
  badly_is = s.badly_is;
  status_is = omega arith;
  unready = λ h. cc;
  unfailed = λ h. cc;
  daemon_is = s.daemon_is;
  held = s.held;
  first = (refl, s.first);
  fork_first = (refl, s.fork_first);
}

badly_now : (wait parent ready : Bool) → parent ≡ true → (parent && (not wait || ready)) ≡ false → ((wait && parent) && true) ≡ true
badly_now wait parent ready is well = grind arith

-- it is gone, or the parent couldn't drop its rights
pub fork-failure : (p : Plan) (f : Fork) (q : Record) (e : Event) → is_waiting f ≡ true → is_parent_failure (Got e) ≡ true → ForkStands p f q
    → ForkStands p (Over 1) (Got e ∷ q)
fork-failure p Unforked q e waits fails s = cc
fork-failure p Asked q e waits fails s = cc
fork-failure p Child q e waits fails s = cc
fork-failure p (Over status) q e waits fails s = cc
fork-failure p (Waiting at) q ChildGone waits fails s = record {
  forked_times = s.forked_times;
  asked_is = s.asked_is;
  child_is = s.child_is;
  parent_is = s.parent_is;
  since_is = λ h. cc;
  well_is = s.well_is;
  badly_is = badly_now p.wait (has is_side_parent q) (has is_child_ready q) s.parent_is s.well_is;
  status_is = omega arith;
  unready = λ h. cc;
  unfailed = λ h. cc;
  daemon_is = s.daemon_is;
  held = s.held;
  first = (refl, s.first);
  fork_first = (refl, s.fork_first);
}
fork-failure p (Waiting at) q DropFailed waits fails s = record {
  forked_times = s.forked_times;
  asked_is = s.asked_is;
  child_is = s.child_is;
  parent_is = s.parent_is;
  since_is = λ h. cc;
  well_is = s.well_is;
  badly_is = badly_now p.wait (has is_side_parent q) (has is_child_ready q) s.parent_is s.well_is;
  status_is = omega arith;
  unready = λ h. cc;
  unfailed = λ h. cc;
  daemon_is = s.daemon_is;
  held = s.held;
  first = (refl, s.first);
  fork_first = (refl, s.fork_first);
}
fork-failure p (Waiting at) q e waits fails s = cc

nobody-waits : (wait parent failure late waited over : Bool) → parent ≡ false → ((wait && parent) && (failure || waited)) ≡ over
    → ((wait && parent) && (failure || ((parent && late) || waited))) ≡ over
nobody-waits wait parent failure late waited over none was = grind arith

-- a moment, where the process is no parent
pub fork-moment : (p : Plan) (f : Fork) (q : Record) (m : ℕ) → is_parent f ≡ false → ForkStands p f q → ForkStands p f (Got (Moment m) ∷ q)
fork-moment p f q m none s = record {
  forked_times = s.forked_times;
  asked_is = s.asked_is;
  child_is = s.child_is;
  parent_is = s.parent_is;
  since_is = s.since_is;
  well_is = s.well_is;
  badly_is = nobody-waits p.wait (has is_side_parent q) (has is_parent_failure q) _ (parent_waited p q) _ (s.parent_is ∙ none) s.badly_is;
  status_is = s.status_is;
  unready = s.unready;
  unfailed = s.unfailed;
  daemon_is = s.daemon_is;
  held = s.held;
  first = (refl, s.first);
  fork_first = (refl, s.fork_first);
}

waits-till : (wait parent failure ready late waited : Bool) → parent ≡ true → (parent && (not wait || ready)) ≡ false
    → ((wait && parent) && (failure || waited)) ≡ false
    → ((wait && parent) && (failure || ((parent && late) || waited))) ≡ late
waits-till wait parent failure ready late waited is well badly = grind arith

-- it has waited long enough by what the state says exactly where it has by the record
late-is : (p : Plan) (q : Record) (m at : ℕ) → ForkStands p (Waiting at) q
    → nat_le p.ready_timeout ((m - parent_moment q) / 1000) ≡ nat_le p.ready_timeout ((m - at) / 1000)
late-is p q m at s = ap (λ (n : ℕ). nat_le p.ready_timeout ((m - n) / 1000)) (s.since_is refl)

parent-moment : (p : Plan) (q : Record) (m at : ℕ) (late : Bool) → nat_le p.ready_timeout ((m - parent_moment q) / 1000) ≡ late → ForkStands p (Waiting at) q
    → ForkStands p (if late then Over 1 else Waiting at) (Got (Moment m) ∷ q)
parent-moment p q m at true late s = record {
  forked_times = s.forked_times;
  asked_is = s.asked_is;
  child_is = s.child_is;
  parent_is = s.parent_is;
  since_is = λ h. cc;
  well_is = s.well_is;
  badly_is = waits-till p.wait (has is_side_parent q) (has is_parent_failure q) (has is_child_ready q) _ (parent_waited p q) s.parent_is s.well_is s.badly_is
      ∙ late;
  status_is = omega arith;
  unready = λ h. cc;
  unfailed = λ h. cc;
  daemon_is = s.daemon_is;
  held = s.held;
  first = (refl, s.first);
  fork_first = (refl, s.fork_first);
}
parent-moment p q m at false late s = record {
  forked_times = s.forked_times;
  asked_is = s.asked_is;
  child_is = s.child_is;
  parent_is = s.parent_is;
  since_is = s.since_is;
  well_is = s.well_is;
  badly_is = waits-till p.wait (has is_side_parent q) (has is_parent_failure q) (has is_child_ready q) _ (parent_waited p q) s.parent_is s.well_is s.badly_is
      ∙ late;
  status_is = s.status_is;
  unready = s.unready;
  unfailed = s.unfailed;
  daemon_is = s.daemon_is;
  held = s.held;
  first = (refl, s.first);
  fork_first = (refl, s.fork_first);
}

-- a moment, where no parent has ended
pub fork-waited : (p : Plan) (f : Fork) (q : Record) (m : ℕ) → is_parent_over f ≡ false → ForkStands p f q
    → ForkStands p (waited p.ready_timeout m f) (Got (Moment m) ∷ q)
fork-waited p Unforked q m on s = fork-moment p Unforked q m refl s
fork-waited p Asked q m on s = fork-moment p Asked q m refl s
fork-waited p Child q m on s = fork-moment p Child q m refl s
fork-waited p (Waiting at) q m on s = parent-moment p q m at (nat_le p.ready_timeout ((m - at) / 1000)) (late-is p q m at s) s
fork-waited p (Over status) q m on s = cc
