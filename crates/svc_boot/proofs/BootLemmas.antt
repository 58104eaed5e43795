-- What the part on bootstrapping stands for after each of its calls.
use Rattle.std.proofs.Common.{ℕ, Bool, true, false, not, ◌||◌, ◌&&◌, ◌+◌, ◌-◌, List, [], ◌∷◌, length, ◌≡◌, refl, ap, sym, ◌∙◌, subst, arith, if◌then◌else◌}
use Rattle.std.specs.Prelude.{nat_le, nat_lt}
use Rattle.std.proofs.lemmas.Bool.Decides.{nat_tests}
use Rattle.svc_record.specs.declared.plan.Plan.{Plan}
use Rattle.svc_record.specs.declared.entry.Entry.TheVariants.{Got, Told}
use Rattle.svc_record.specs.declared.action.Action.TheVariants.{Daemonize}
use Rattle.svc_record.specs.declared.action.BootstrapError.TheVariants.{Transfer, NoSender, BadMessage}
use Rattle.svc_record.specs.declared.event.Event.{Event}
use Rattle.svc_record.specs.declared.event.Event.TheVariants.{Moment, Received, NoSenderYet, ReceiveFailed, Side as Forked, ChildReady, ChildGone, DropFailed}
use Rattle.svc_record.specs.declared.event.Side.{Side}
use Rattle.svc_record.specs.Record.{Record, now, times}
use Rattle.svc_record.specs.Message.{decode}
use Rattle.svc_record.specs.Boot.{is_read}
use Rattle.svc_record.specs.Ends.{is_no_sender, is_parent_failure}
use Rattle.svc_boot.specs.declared.fork.Fork.{Fork}
use Rattle.svc_boot.specs.declared.fork.Fork.TheVariants.{Asked, Over}
use Rattle.svc_boot.specs.declared.receiving.Receiving.{Receiving}
use Rattle.svc_boot.specs.declared.receiving.Receiving.TheVariants.{Unasked, Trying, Missed, Came, Refused}
use Rattle.svc_boot.specs.BootData.{BootData}
use Rattle.svc_boot.specs.ForkState.{ForkStands, is_asked, is_waiting, is_parent_over}
use Rattle.svc_boot.specs.BootState.{BootStands, BootKept, ReceivingStands, is_tried, is_trying, has_come, is_missing}
use Rattle.svc_boot.specs.BootFacts.{is_fork_event}
use Rattle.svc_boot.specs.BootEffects.{unbegun, forked, side_taken, waited, missed, failed, received}
use Rattle.svc_boot.proofs.ForkLemmas.{fork-new, fork-asked, fork-got, fork-side, fork-ready, fork-failure, fork-waited}

-- the same part, as it is after a call
pub same-stands : (p : Plan) (d new : BootData) (q : Record) → new ≡ d → BootStands p d q → BootStands p new q
same-stands p d new q is stand = subst (λ (x : BootData). BootStands p x q) (sym is) stand

-- the answers to an open try
missed-stands : (x : Receiving) (q : Record) (moment : ℕ) (last : Bool) → is_trying x ≡ true → moment ≡ now q
    → ReceivingStands x q → ReceivingStands (if last then Refused NoSender else Missed moment) (Got NoSenderYet ∷ q)
missed-stands Unasked q moment last trying at x = cc
missed-stands (Missed before) q moment last trying at x = cc
missed-stands Came q moment last trying at x = cc
missed-stands (Refused reason) q moment last trying at x = cc
missed-stands Trying q moment true trying at x = record {
  opened_is = x.opened_is;
  opened_times = x.opened_times;
  tried_is = x.tried_is;
  trying_is = refl;
  may_is = λ h t. cc;
  rests_is = λ h t. cc;
  good_is = x.good_is;
  bad_is = x.bad_is;
  failed_is = x.failed_is;
}
missed-stands Trying q moment false trying at x = record {
  opened_is = x.opened_is;
  opened_times = x.opened_times;
  tried_is = x.tried_is;
  trying_is = refl;
  may_is = λ h t. ap (λ (n : ℕ). nat_le 1000 (t - n)) (sym at);
  rests_is = λ h t. ap (λ (n : ℕ). nat_lt (t - n) 1000) (sym at);
  good_is = x.good_is;
  bad_is = x.bad_is;
  failed_is = x.failed_is;
}

-- one miss too many, by what was borne
one_too_many : (limit n retries : ℕ) → nat_lt limit n ≡ false → retries ≡ limit - n → nat_lt limit (n + 1) ≡ nat_lt retries 1
one_too_many limit n retries few is = grind (arith, nat_tests)

missing-if : (last : Bool) (moment : ℕ) → is_missing (if last then Refused NoSender else Missed moment) ≡ last
missing-if true moment = refl
missing-if false moment = refl

not_missing : (x : Receiving) → is_trying x ≡ true → is_missing x ≡ false
not_missing Unasked trying = refl
not_missing Trying trying = refl
not_missing (Missed at) trying = refl
not_missing Came trying = refl
not_missing (Refused reason) trying = cc

tried-trying : (x : Receiving) → is_trying x ≡ true → is_tried x ≡ true
tried-trying Unasked trying = cc
tried-trying Trying trying = refl
tried-trying (Missed at) trying = refl
tried-trying Came trying = refl
tried-trying (Refused reason) trying = refl

not_come : (x : Receiving) → is_trying x ≡ true → has_come x ≡ false
not_come Unasked trying = refl
not_come Trying trying = refl
not_come (Missed at) trying = refl
not_come Came trying = cc
not_come (Refused reason) trying = refl

-- what is complete is complete whatever comes
through-grows : (begun test upgrade come later : Bool) → ((begun && not test) && (not upgrade || come)) ≡ true → come ≡ false
    → ((begun && not test) && (not upgrade || later)) ≡ true
through-grows begun test upgrade come later h e = grind arith

-- a try that was open was answered
kept-answered : (p : Plan) (f : Fork) (begun complete : Bool) (retries retries2 : ℕ) (x y : Receiving) → is_trying x ≡ true → is_tried y ≡ true
    → BootKept p (record { fork = f; begun = begun; complete = complete; receiving = x; retries = retries })
    → BootKept p (record { fork = f; begun = begun; complete = complete; receiving = y; retries = retries2 })
kept-answered p f begun complete retries retries2 x y trying tried kept = record {
  tried_is = tried ∙ sym (tried-trying x trying) ∙ kept.tried_is;
  through = λ h. through-grows begun p.test p.upgrade (has_come x) (has_come y) (kept.through h) (not_come x trying);
  alone = kept.alone;
}

tried-missed : (last : Bool) (moment : ℕ) → is_tried (if last then Refused NoSender else Missed moment) ≡ true
tried-missed true moment = refl
tried-missed false moment = refl

-- an open try met no sender
pub stands-no_sender : (p : Plan) (d : BootData) (q : Record) (moment : ℕ) → is_trying d.receiving ≡ true → moment ≡ now q → BootStands p d q
    → BootStands p (missed moment d) (Got NoSenderYet ∷ q)
stands-no_sender p d q moment trying at stand = let b = stand.begin in let last : Bool = nat_lt d.retries 1 in record {
  kept = kept-answered p d.fork d.begun d.complete d.retries (d.retries - 1) d.receiving (if last then Refused NoSender else Missed moment) trying
      (tried-missed last moment) stand.kept;
  begin = record { begun_is = b.begun_is; begun_times = b.begun_times; complete_is = b.complete_is; complete_times = b.complete_times };
  receiving = missed-stands d.receiving q moment last trying at stand.receiving;
  missing_is =
      one_too_many p.limit (times is_no_sender q) d.retries (stand.missing_is ∙ not_missing d.receiving trying) stand.retries_is
      ∙ sym (missing-if last moment);
  retries_is = let e = stand.retries_is in omega arith;
  notified_times = stand.notified_times;
  fork = fork-got p d.fork q NoSenderYet refl stand.fork;
  boots_due = (refl, stand.boots_due);
  tries_due = (refl, stand.tries_due);
}

or_with : (a b c : Bool) → a ≡ c → b ≡ false → (a || b) ≡ c
or_with a b c e f = grind arith

received-stands : (x : Receiving) (q : Record) (bytes fds : List ℕ) (good : Bool) → good ≡ is_read (decode bytes (length fds)) → is_trying x ≡ true
    → ReceivingStands x q → ReceivingStands (if good then Came else Refused BadMessage) (Got (Received bytes fds) ∷ q)
received-stands Unasked q bytes fds good reads trying x = cc
received-stands (Missed before) q bytes fds good reads trying x = cc
received-stands Came q bytes fds good reads trying x = cc
received-stands (Refused reason) q bytes fds good reads trying x = cc
received-stands Trying q bytes fds true reads trying x = record {
  opened_is = x.opened_is;
  opened_times = x.opened_times;
  tried_is = x.tried_is;
  trying_is = refl;
  may_is = λ h t. refl;
  rests_is = λ h t. refl;
  good_is = or_with (is_read (decode bytes (length fds))) _ true (sym reads) x.good_is;
  bad_is = or_with (not (is_read (decode bytes (length fds)))) _ false (ap not (sym reads)) x.bad_is;
  failed_is = x.failed_is;
}
received-stands Trying q bytes fds false reads trying x = record {
  opened_is = x.opened_is;
  opened_times = x.opened_times;
  tried_is = x.tried_is;
  trying_is = refl;
  may_is = λ h t. cc;
  rests_is = λ h t. cc;
  good_is = or_with (is_read (decode bytes (length fds))) _ false (sym reads) x.good_is;
  bad_is = or_with (not (is_read (decode bytes (length fds)))) _ true (ap not (sym reads)) x.bad_is;
  failed_is = x.failed_is;
}

tried-received : (good : Bool) → is_tried (if good then Came else Refused BadMessage) ≡ true
tried-received true = refl
tried-received false = refl

missing-received : (good : Bool) → is_missing (if good then Came else Refused BadMessage) ≡ false
missing-received true = refl
missing-received false = refl

-- it brought a message
pub stands-received : (p : Plan) (d : BootData) (q : Record) (bytes fds : List ℕ) (good : Bool) → good ≡ is_read (decode bytes (length fds))
    → is_trying d.receiving ≡ true
    → BootStands p d q → BootStands p (received good d) (Got (Received bytes fds) ∷ q)
stands-received p d q bytes fds good reads trying stand = let b = stand.begin in record {
  kept = kept-answered p d.fork d.begun d.complete d.retries d.retries d.receiving (if good then Came else Refused BadMessage) trying
      (tried-received good) stand.kept;
  begin = record { begun_is = b.begun_is; begun_times = b.begun_times; complete_is = b.complete_is; complete_times = b.complete_times };
  receiving = received-stands d.receiving q bytes fds good reads trying stand.receiving;
  missing_is = stand.missing_is ∙ not_missing d.receiving trying ∙ sym (missing-received good);
  retries_is = stand.retries_is;
  notified_times = stand.notified_times;
  fork = fork-got p d.fork q (Received bytes fds) refl stand.fork;
  boots_due = (refl, stand.boots_due);
  tries_due = (refl, stand.tries_due);
}

-- the same of what it is after the call
pub after-received : (p : Plan) (d new : BootData) (q : Record) (bytes fds : List ℕ) (good : Bool) → new ≡ received good d
    → good ≡ is_read (decode bytes (length fds)) → is_trying d.receiving ≡ true
    → BootStands p d q → BootStands p new (Got (Received bytes fds) ∷ q)
after-received p d new q bytes fds good after reads trying stand =
    subst (λ (x : BootData). BootStands p x (Got (Received bytes fds) ∷ q)) (sym after) (stands-received p d q bytes fds good reads trying stand)

pub after-no_sender : (p : Plan) (d new : BootData) (q : Record) (moment : ℕ) → new ≡ missed moment d → is_trying d.receiving ≡ true → moment ≡ now q
    → BootStands p d q → BootStands p new (Got NoSenderYet ∷ q)
after-no_sender p d new q moment after trying at stand =
    subst (λ (x : BootData). BootStands p x (Got NoSenderYet ∷ q)) (sym after) (stands-no_sender p d q moment trying at stand)

failed-stands : (x : Receiving) (q : Record) → is_trying x ≡ true → ReceivingStands x q → ReceivingStands (Refused Transfer) (Got ReceiveFailed ∷ q)
failed-stands Unasked q trying x = cc
failed-stands (Missed before) q trying x = cc
failed-stands Came q trying x = cc
failed-stands (Refused reason) q trying x = cc
failed-stands Trying q trying x = record {
  opened_is = x.opened_is;
  opened_times = x.opened_times;
  tried_is = x.tried_is;
  trying_is = refl;
  may_is = λ h t. cc;
  rests_is = λ h t. cc;
  good_is = x.good_is;
  bad_is = x.bad_is;
  failed_is = refl;
}

-- it failed
pub stands-failed : (p : Plan) (d : BootData) (q : Record) → is_trying d.receiving ≡ true → BootStands p d q → BootStands p (failed d) (Got ReceiveFailed ∷ q)
stands-failed p d q trying stand = let b = stand.begin in record {
  kept = kept-answered p d.fork d.begun d.complete d.retries d.retries d.receiving (Refused Transfer) trying refl stand.kept;
  begin = record { begun_is = b.begun_is; begun_times = b.begun_times; complete_is = b.complete_is; complete_times = b.complete_times };
  receiving = failed-stands d.receiving q trying stand.receiving;
  missing_is = stand.missing_is ∙ not_missing d.receiving trying;
  retries_is = stand.retries_is;
  notified_times = stand.notified_times;
  fork = fork-got p d.fork q ReceiveFailed refl stand.fork;
  boots_due = (refl, stand.boots_due);
  tries_due = (refl, stand.tries_due);
}

-- nothing has happened
pub stands-new : (p : Plan) (limit : ℕ) → p.limit ≡ limit → BootStands p (unbegun limit) []
stands-new p limit is = record {
  kept = record { tried_is = refl; through = λ h. cc; alone = λ h. cc };
  begin = record { begun_is = refl; begun_times = refl; complete_is = refl; complete_times = refl };
  receiving = record {
    opened_is = refl;
    opened_times = refl;
    tried_is = refl;
    trying_is = refl;
    may_is = λ h t. refl;
    rests_is = λ h t. refl;
    good_is = refl;
    bad_is = refl;
    failed_is = refl;
  };
  missing_is = none_below p.limit;
  retries_is = omega arith;
  notified_times = refl;
  fork = fork-new p;
  boots_due = tt;
  tries_due = tt;
}
  where
    none_below : (n : ℕ) → nat_lt n 0 ≡ false
    none_below n = grind (arith, nat_tests)

-- the fork is asked for, before all else
pub stands-asked : (p : Plan) (d : BootData) → p.daemon ≡ true → BootStands p d [] → BootStands p (forked Asked d) (Told Daemonize ∷ [])
stands-asked p d daemon stand = let k = stand.kept in let b = stand.begin in let x = stand.receiving in record {
  kept = record { tried_is = k.tried_is; through = k.through; alone = k.alone };
  begin = record { begun_is = b.begun_is; begun_times = b.begun_times; complete_is = b.complete_is; complete_times = b.complete_times };
  receiving = record {
    opened_is = x.opened_is;
    opened_times = x.opened_times;
    tried_is = x.tried_is;
    trying_is = x.trying_is;
    may_is = x.may_is;
    rests_is = x.rests_is;
    good_is = x.good_is;
    bad_is = x.bad_is;
    failed_is = x.failed_is;
  };
  missing_is = stand.missing_is;
  retries_is = stand.retries_is;
  notified_times = stand.notified_times;
  fork = fork-asked p daemon;
  boots_due = (refl, tt);
  tries_due = (refl, tt);
}

-- an event changed the fork alone, or nothing
stands-forked : (p : Plan) (d : BootData) (f : Fork) (q : Record) (e : Event) → is_fork_event e ≡ true → ForkStands p f (Got e ∷ q) → BootStands p d q
    → BootStands p (forked f d) (Got e ∷ q)
stands-forked p d f q (Received bytes fds) is fork stand = cc
stands-forked p d f q NoSenderYet is fork stand = cc
stands-forked p d f q ReceiveFailed is fork stand = cc
stands-forked p d f q e is fork stand = let k = stand.kept in let b = stand.begin in let x = stand.receiving in record {
  kept = record { tried_is = k.tried_is; through = k.through; alone = k.alone };
  begin = record { begun_is = b.begun_is; begun_times = b.begun_times; complete_is = b.complete_is; complete_times = b.complete_times };
  receiving = record {
    opened_is = x.opened_is;
    opened_times = x.opened_times;
    tried_is = x.tried_is;
    trying_is = x.trying_is;
    may_is = x.may_is;
    rests_is = x.rests_is;
    good_is = x.good_is;
    bad_is = x.bad_is;
    failed_is = x.failed_is;
  };
  missing_is = stand.missing_is;
  retries_is = stand.retries_is;
  notified_times = stand.notified_times;
  fork = fork;
  boots_due = (refl, stand.boots_due);
  tries_due = (refl, stand.tries_due);
}

-- the fork came
pub stands-side : (p : Plan) (d : BootData) (q : Record) (side : Side) (m : ℕ) → is_asked d.fork ≡ true → m ≡ now q → BootStands p d q
    → BootStands p (forked (side_taken p.wait side m) d) (Got (Forked side) ∷ q)
stands-side p d q side m asked at stand =
    stands-forked p d (side_taken p.wait side m) q (Forked side) refl (fork-side p d.fork q side m asked at stand.fork) stand

-- the child is ready for which the parent waits
pub stands-ready : (p : Plan) (d : BootData) (q : Record) → is_waiting d.fork ≡ true → BootStands p d q → BootStands p (forked (Over 0) d) (Got ChildReady ∷ q)
stands-ready p d q waits stand = stands-forked p d (Over 0) q ChildReady refl (fork-ready p d.fork q waits stand.fork) stand

fails-fork : (e : Event) → is_parent_failure (Got e) ≡ true → is_fork_event e ≡ true
fails-fork ChildGone fails = refl
fails-fork DropFailed fails = refl
fails-fork e fails = cc

-- it is gone, or the parent couldn't drop its rights
pub stands-failure : (p : Plan) (d : BootData) (q : Record) (e : Event) → is_waiting d.fork ≡ true → is_parent_failure (Got e) ≡ true → BootStands p d q
    → BootStands p (forked (Over 1) d) (Got e ∷ q)
stands-failure p d q e waits fails stand = stands-forked p d (Over 1) q e (fails-fork e fails) (fork-failure p d.fork q e waits fails stand.fork) stand

-- a moment came
pub stands-waited : (p : Plan) (d : BootData) (q : Record) (m : ℕ) → is_parent_over d.fork ≡ false → BootStands p d q
    → BootStands p (forked (waited p.ready_timeout m d.fork) d) (Got (Moment m) ∷ q)
stands-waited p d q m on stand = stands-forked p d (waited p.ready_timeout m d.fork) q (Moment m) refl (fork-waited p d.fork q m on stand.fork) stand
