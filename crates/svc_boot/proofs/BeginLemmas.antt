-- What the part on bootstrapping stands for after a beginning.
use Rattle.std.proofs.Common.{ℕ, Bool, true, false, not, ◌||◌, ◌&&◌, ◌+◌, ◌-◌, [], ◌∷◌, ◌≡◌, refl, ap, sym, ◌∙◌, subst, arith, if◌then◌else◌}
use Rattle.std.proofs.lemmas.Bool.{and_from}
use Rattle.svc_record.specs.declared.plan.Plan.{Plan}
use Rattle.svc_record.specs.declared.entry.Entry.TheVariants.{Told}
use Rattle.svc_record.specs.declared.action.Action.TheVariants.{Phase, NotifyParent, OpenReceiver, TryReceive}
use Rattle.svc_record.specs.declared.action.ExecutionPhase.TheVariants.{Bootstrap, BootstrapComplete}
use Rattle.svc_record.specs.Record.{Record, has, now, tell, times, is_bootstrap, is_bootstrap_complete, EachEntry}
use Rattle.svc_record.specs.Asks.{is_try_open}
use Rattle.svc_record.specs.Boot.{is_notify, may_try, boot_due, try_due}
use Rattle.svc_record.specs.Ends.{is_no_sender, ends_no_sender}
use Rattle.svc_boot.specs.declared.fork.Fork.{Fork}
use Rattle.svc_boot.specs.declared.receiving.Receiving.{Receiving}
use Rattle.svc_boot.specs.declared.receiving.Receiving.TheVariants.{Unasked, Trying, Missed, Came, Refused}
use Rattle.svc_boot.specs.BootData.{BootData}
use Rattle.svc_boot.specs.ForkState.{ForkStands, may_run}
use Rattle.svc_boot.specs.BootState.{BootStands, BootKept, ReceivingStands, count_of, is_tried, has_come, notifies}
use Rattle.svc_boot.specs.BootEffects.{notify_told, receive_told, begin_more, begun_with, begun_by, begin_told}
use Rattle.svc_boot.proofs.ForkLemmas.{fork-told}

-- a part with these fields
abbrev pub part : Fork → ℕ → Bool → Bool → Receiving → BootData
part f n begun complete x = record { fork = f; begun = begun; complete = complete; receiving = x; retries = n }

-- one that hasn't begun
abbrev pub fresh : Fork → ℕ → BootData
fresh f n = part f n false false Unasked

-- between the phase `Bootstrap` and what follows it; the parent was notified or not
record Midway (p : Plan) (f : Fork) (n : ℕ) (notified : Bool) (q : Record) : Type 0 where
  free : may_run p f ≡ true
  begun_is : has is_bootstrap q ≡ true
  begun_times : times is_bootstrap q ≡ 1
  complete_is : has is_bootstrap_complete q ≡ false
  complete_times : times is_bootstrap_complete q ≡ 0
  receiving : ReceivingStands Unasked q
  missing_is : ends_no_sender p q ≡ false
  retries_is : n ≡ p.limit - times is_no_sender q
  notified_times : times is_notify q ≡ count_of notified
  fork : ForkStands p f q
  boots_due : EachEntry (λ e before. boot_due p e before ≡ true) q
  tries_due : EachEntry (λ e before. try_due e before ≡ true) q

untold-receiving : (q : Record) (m : ℕ) → ReceivingStands Unasked q → ReceivingStands Unasked (Told (Phase Bootstrap m) ∷ q)
untold-receiving q m x = record {
  opened_is = x.opened_is;
  opened_times = x.opened_times;
  tried_is = x.tried_is;
  trying_is = x.trying_is;
  may_is = x.may_is;
  rests_is = x.rests_is;
  good_is = x.good_is;
  bad_is = x.bad_is;
  failed_is = x.failed_is;
}

-- the phase is told
phase-told : (p : Plan) (f : Fork) (n : ℕ) (q : Record) (m : ℕ) → may_run p f ≡ true → BootStands p (fresh f n) q
    → Midway p f n false (Told (Phase Bootstrap m) ∷ q)
phase-told p f n q m free stand = let b = stand.begin in record {
  free = free;
  begun_is = refl;
  begun_times = ap (λ (k : ℕ). k + 1) b.begun_times;
  complete_is = b.complete_is;
  complete_times = b.complete_times;
  receiving = untold-receiving q m stand.receiving;
  missing_is = stand.missing_is;
  retries_is = stand.retries_is;
  notified_times = stand.notified_times;
  fork = fork-told p f q (Phase Bootstrap m) refl free stand.fork;
  boots_due = (refl, stand.boots_due);
  tries_due = (refl, stand.tries_due);
}

-- the parent is notified, or not
notify-told : (p : Plan) (f : Fork) (n : ℕ) (q : Record) (notify : Bool) → Midway p f n false q → Midway p f n notify (tell q (notify_told notify))
notify-told p f n q false mid = mid
notify-told p f n q true mid = let x = mid.receiving in record {
  free = mid.free;
  begun_is = mid.begun_is;
  begun_times = mid.begun_times;
  complete_is = mid.complete_is;
  complete_times = mid.complete_times;
  receiving = record {
    opened_is = x.opened_is;
    opened_times = x.opened_times;
    tried_is = x.tried_is;
    trying_is = x.trying_is;
    may_is = x.may_is;
    rests_is = x.rests_is;
    good_is = x.good_is;
    bad_is = x.bad_is;
    failed_is = x.failed_is;
  };
  missing_is = mid.missing_is;
  retries_is = mid.retries_is;
  notified_times = ap (λ (k : ℕ). k + 1) mid.notified_times;
  fork = fork-told p f q NotifyParent refl mid.free mid.fork;
  boots_due = (mid.begun_is, mid.boots_due);
  tries_due = (refl, mid.tries_due);
}

-- how often the parent was notified, by the plan
notified-is : (p : Plan) (notify : Bool) (k : ℕ) → p.test ≡ false → notifies p ≡ notify → k ≡ count_of notify → k ≡ count_of (not p.test && notifies p)
notified-is p notify k goes is told = told ∙ ap count_of (sym (ap (λ b. not b && notifies p) goes ∙ is))

received-opens : (test upgrade : Bool) → test ≡ false → upgrade ≡ true → true ≡ (not test && upgrade)
received-opens test upgrade t u = grind arith

alone-not : (test upgrade : Bool) → upgrade ≡ true → (not test && not upgrade) ≡ true → false ≡ true
alone-not test upgrade u h = grind arith

-- what an older server sent is received
opened-stands : (p : Plan) (f : Fork) (n : ℕ) (q : Record) (notify : Bool) (m : ℕ) → p.test ≡ false → notifies p ≡ notify → p.upgrade ≡ true
    → Midway p f n notify q
    → BootStands p (begun_with false true (fresh f n)) (tell q (receive_told true m))
opened-stands p f n q notify m goes is upgrade mid = let x = mid.receiving in record {
  kept = record {
    tried_is = received-opens p.test p.upgrade goes upgrade;
    through = λ h. cc;
    alone = λ h. alone-not p.test p.upgrade upgrade h;
  };
  begin = record { begun_is = mid.begun_is; begun_times = mid.begun_times; complete_is = mid.complete_is; complete_times = mid.complete_times };
  receiving = record {
    opened_is = refl;
    opened_times = ap (λ (k : ℕ). k + 1) x.opened_times;
    tried_is = refl;
    trying_is = refl;
    may_is = λ h t. cc;
    rests_is = λ h t. cc;
    good_is = x.good_is;
    bad_is = x.bad_is;
    failed_is = x.failed_is;
  };
  missing_is = mid.missing_is;
  retries_is = mid.retries_is;
  notified_times = notified-is p notify (times is_notify q) goes is mid.notified_times;
  fork = fork-told p f (Told OpenReceiver ∷ q) TryReceive refl mid.free (fork-told p f q OpenReceiver refl mid.free mid.fork);
  boots_due = (mid.begun_is, (mid.begun_is, mid.boots_due));
  tries_due = (and_from (not (is_try_open q)) (may_try (now q) q) (ap not x.trying_is) (x.may_is refl (now q)), (refl, mid.tries_due));
}

received-not : (test upgrade : Bool) → upgrade ≡ false → false ≡ (not test && upgrade)
received-not test upgrade u = grind arith

all-through : (test upgrade : Bool) → test ≡ false → upgrade ≡ false → (not test && (not upgrade || false)) ≡ true
all-through test upgrade t u = grind arith

-- there is nothing to receive
alone-stands : (p : Plan) (f : Fork) (n : ℕ) (q : Record) (notify : Bool) (m : ℕ) → p.test ≡ false → notifies p ≡ notify → p.upgrade ≡ false
    → Midway p f n notify q
    → BootStands p (begun_with false false (fresh f n)) (tell q (receive_told false m))
alone-stands p f n q notify m goes is upgrade mid = let x = mid.receiving in record {
  kept = record {
    tried_is = received-not p.test p.upgrade upgrade;
    through = λ h. all-through p.test p.upgrade goes upgrade;
    alone = λ h. refl;
  };
  begin = record { begun_is = mid.begun_is; begun_times = mid.begun_times; complete_is = refl; complete_times = ap (λ (k : ℕ). k + 1) mid.complete_times };
  receiving = record {
    opened_is = x.opened_is;
    opened_times = x.opened_times;
    tried_is = x.tried_is;
    trying_is = x.trying_is;
    may_is = x.may_is;
    rests_is = x.rests_is;
    good_is = x.good_is;
    bad_is = x.bad_is;
    failed_is = x.failed_is;
  };
  missing_is = mid.missing_is;
  retries_is = mid.retries_is;
  notified_times = notified-is p notify (times is_notify q) goes is mid.notified_times;
  fork = fork-told p f q (Phase BootstrapComplete m) refl mid.free mid.fork;
  boots_due = (mid.begun_is, mid.boots_due);
  tries_due = (refl, mid.tries_due);
}

tests-only : (test upgrade : Bool) → test ≡ true → false ≡ (not test && upgrade)
tests-only test upgrade t = grind arith

not-alone : (test upgrade : Bool) → test ≡ true → (not test && not upgrade) ≡ true → false ≡ true
not-alone test upgrade t h = grind arith

unnotified : (test notify : Bool) (k : ℕ) → test ≡ true → k ≡ 0 → k ≡ count_of (not test && notify)
unnotified test notify k t is = rw t is

-- the run tests, and no more is told
tested-stands : (p : Plan) (f : Fork) (n : ℕ) (q : Record) (upgrade : Bool) → p.test ≡ true → Midway p f n false q
    → BootStands p (begun_with true upgrade (fresh f n)) q
tested-stands p f n q upgrade tests mid = let x = mid.receiving in record {
  kept = record {
    tried_is = tests-only p.test p.upgrade tests;
    through = λ h. cc;
    alone = λ h. not-alone p.test p.upgrade tests h;
  };
  begin = record { begun_is = mid.begun_is; begun_times = mid.begun_times; complete_is = mid.complete_is; complete_times = mid.complete_times };
  receiving = mid.receiving;
  missing_is = mid.missing_is;
  retries_is = mid.retries_is;
  notified_times = unnotified p.test (notifies p) (times is_notify q) tests mid.notified_times;
  fork = mid.fork;
  boots_due = mid.boots_due;
  tries_due = mid.tries_due;
}

-- what follows the phase is told, by what the plan says
more-told : (p : Plan) (f : Fork) (n : ℕ) (q : Record) (m : ℕ) (test notify upgrade : Bool) → p.test ≡ test → notifies p ≡ notify → p.upgrade ≡ upgrade
    → Midway p f n false q
    → BootStands p (begun_with test upgrade (fresh f n)) (tell q (begin_more test notify upgrade m))
more-told p f n q m true notify upgrade t is u mid = tested-stands p f n q upgrade t mid
more-told p f n q m false true true t is u mid = opened-stands p f n (Told NotifyParent ∷ q) true m t is u (notify-told p f n q true mid)
more-told p f n q m false true false t is u mid = alone-stands p f n (Told NotifyParent ∷ q) true m t is u (notify-told p f n q true mid)
more-told p f n q m false false true t is u mid = opened-stands p f n q false m t is u mid
more-told p f n q m false false false t is u mid = alone-stands p f n q false m t is u mid

-- what hasn't begun is neither complete nor tried
untouched : (begun test more complete : Bool) → begun ≡ false → (complete ≡ true → ((begun && not test) && more) ≡ true) → complete ≡ false
untouched begun test more false not_begun through = refl
untouched begun test more true not_begun through = sym (rw not_begun at (through refl))

untried-yet : (begun test upgrade : Bool) (x : Receiving) → begun ≡ false → is_tried x ≡ ((begun && not test) && upgrade) → x ≡ Unasked
untried-yet begun test upgrade Unasked not_begun is = refl
untried-yet begun test upgrade Trying not_begun is = let h = rw not_begun at is in cc
untried-yet begun test upgrade (Missed at) not_begun is = let h = rw not_begun at is in cc
untried-yet begun test upgrade Came not_begun is = let h = rw not_begun at is in cc
untried-yet begun test upgrade (Refused reason) not_begun is = let h = rw not_begun at is in cc

as-part : (f : Fork) (n : ℕ) (begun complete : Bool) (x : Receiving) → begun ≡ false → complete ≡ false → x ≡ Unasked
    → part f n begun complete x ≡ fresh f n
as-part f n begun complete x b c r = ap (λ v. part f n v complete x) b ∙ ap (λ v. part f n false v x) c ∙ ap (λ v. part f n false false v) r

pub as-fresh : (p : Plan) (d : BootData) → BootKept p d → d.begun ≡ false → d ≡ fresh d.fork d.retries
as-fresh p d kept not_begun = as-part d.fork d.retries d.begun d.complete d.receiving not_begun
    (untouched d.begun p.test (not p.upgrade || has_come d.receiving) d.complete not_begun kept.through)
    (untried-yet d.begun p.test p.upgrade d.receiving not_begun kept.tried_is)

first-stands : (p : Plan) (d : BootData) (q : Record) (m : ℕ) → d ≡ fresh d.fork d.retries → may_run p d.fork ≡ true → BootStands p d q
    → BootStands p (begun_with p.test p.upgrade d) (tell q (Phase Bootstrap m ∷ begin_more p.test (notifies p) p.upgrade m))
first-stands p d q m is free stand =
    subst (λ (x : BootData). BootStands p (begun_with p.test p.upgrade x) (tell q (Phase Bootstrap m ∷ begin_more p.test (notifies p) p.upgrade m))) (sym is)
    (more-told p d.fork d.retries (Told (Phase Bootstrap m) ∷ q) m p.test (notifies p) p.upgrade refl refl refl
    (phase-told p d.fork d.retries q m free (subst (λ (x : BootData). BootStands p x q) is stand)))

begin-either : (p : Plan) (d : BootData) (q : Record) (m : ℕ) (begun : Bool) → d.begun ≡ begun → may_run p d.fork ≡ true → BootStands p d q
    → BootStands p (if begun then d else begun_with p.test p.upgrade d)
    (tell q (if begun then [] else Phase Bootstrap m ∷ begin_more p.test (notifies p) p.upgrade m))
begin-either p d q m true was free stand = stand
begin-either p d q m false was free stand = first-stands p d q m (as-fresh p d stand.kept was) free stand

-- a beginning, where the server goes on
pub stands-begin : (p : Plan) (d : BootData) (q : Record) (m : ℕ) → may_run p d.fork ≡ true → BootStands p d q
    → BootStands p (begun_by p d) (tell q (begin_told p d m))
stands-begin p d q m free stand = begin-either p d q m d.begun refl free stand
