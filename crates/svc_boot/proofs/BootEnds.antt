-- What the state of bootstrapping says of a settled record, and of how the run has ended.
use Rattle.std.proofs.Common.{ℕ, zero, suc, Bool, true, false, not, ◌||◌, ◌&&◌, ◌-◌, ◌≤◌, [], ◌∷◌, ◌≡◌, refl, ap, sym, ◌∙◌, arith, if◌then◌else◌}
use Rattle.std.specs.Prelude.{nat_le, nat_lt}
use Rattle.std.proofs.lemmas.Bool.{eq-eqb, and_from, or_from, or_parts}
use Rattle.std.proofs.lemmas.Bool.Decides.{nat_tests}
use Rattle.svc_record.specs.declared.plan.Plan.{Plan}
use Rattle.svc_record.specs.declared.entry.Entry.{Entry}
use Rattle.svc_record.specs.declared.entry.Entry.TheVariants.{Told}
use Rattle.svc_record.specs.declared.action.Action.TheVariants.{Phase}
use Rattle.svc_record.specs.declared.action.ExecutionPhase.TheVariants.{Bootstrap}
use Rattle.svc_record.specs.declared.action.StepEnd.TheVariants.{On, Served, Tested, Parent, Ended}
use Rattle.svc_record.specs.declared.action.BootstrapError.TheVariants.{Transfer, NoSender, BadMessage}
use Rattle.svc_record.specs.Record.{Record, has, times, once_if, now, is_running, is_bootstrap, is_bootstrap_complete, EachEntry}
use Rattle.svc_record.specs.Asks.{is_daemonize, is_try, is_try_open}
use Rattle.svc_record.specs.Boot.{BootRight, boots, has_begun, is_notify, is_open_receiver, is_good_message, is_side_parent, runs, receive_right, complete_right, boot_entries_right, start_after_boot, try_rests}
use Rattle.svc_record.specs.Drain.{waits_are_over}
use Rattle.svc_record.specs.Ends.{step_end, has_ended, has_ended_early, is_child_ready, ends_tested, ends_parent_well, ends_parent_badly, ends_transfer, ends_no_sender, ends_bad_message}
use Rattle.svc_record.specs.Fits.{parent_waits}
use Rattle.svc_boot.specs.declared.fork.Fork.{Fork}
use Rattle.svc_boot.specs.declared.fork.Fork.TheVariants.{Unforked, Asked, Child, Waiting, Over}
use Rattle.svc_boot.specs.declared.receiving.Receiving.{Receiving}
use Rattle.svc_boot.specs.declared.receiving.Receiving.TheVariants.{Unasked, Trying, Missed, Came, Refused}
use Rattle.svc_boot.specs.BootData.{BootData}
use Rattle.svc_boot.specs.ForkState.{is_forked, is_waiting, is_parent, is_parent_over, is_over_well, is_over_badly, status_of, may_run, is_other_told}
use Rattle.svc_boot.specs.BootState.{BootStands, count_of, is_tried, is_trying, is_refused, is_transfer, is_missing, is_spoiled, tells_rest, rests_in, is_due_in, is_through, has_notified}
use Rattle.svc_boot.specs.BootEffects.{end_of, early_end, is_early, is_over}
use Rattle.svc_boot.specs.BootFacts.{IsBootSettled}

-- what stands there as often as it is due
once-given : (holds b : Bool) (test : Entry → Bool) (q : Record) → holds ≡ b → times test q ≡ count_of b → once_if holds test q ≡ true
once-given holds b test q e n = eq-eqb (times test q) (count_of holds) (n ∙ ap count_of (sym e))

-- a rest that isn't over
rests_on : (n : ℕ) → nat_le 1000 n ≡ false → nat_lt n 1000 ≡ true
rests_on n h = grind (arith, nat_tests)

or_right : (a b : Bool) → b ≡ true → (a || b) ≡ true
or_right a b h = grind arith

-- a try is open, or it rests or was answered, where a message is received
receiving-right : (x : Receiving) (t : ℕ) (asks rest tried : Bool) → asks ≡ is_trying x → (tells_rest x ≡ true → rest ≡ rests_in x t) → tried ≡ is_tried x
    → is_refused x ≡ false → is_due_in x t ≡ false → (if is_tried x then (asks || rest) else not tried) ≡ true
receiving-right Unasked t asks rest tried is rests was goes due = ap not was
receiving-right Trying t asks rest tried is rests was goes due = ap (λ b. b || rest) is
receiving-right (Missed at) t asks rest tried is rests was goes due = or_right asks rest (rests refl ∙ rests_on (t - at) due)
receiving-right Came t asks rest tried is rests was goes due = or_right asks rest (rests refl)
receiving-right (Refused reason) t asks rest tried is rests was goes due = cc

-- the facts of a part that stands, and of its plan
module _ (p : Plan) (d : BootData) (q : Record) (stand : BootStands p d q) (begins : has_begun p q ≡ d.begun) where
  receives-is : (boots p q && p.upgrade) ≡ is_tried d.receiving
  receives-is = ap (λ b. (b && not p.test) && p.upgrade) begins ∙ sym stand.kept.tried_is

  receive-right : IsBootSettled p d (now q) → receive_right p q ≡ true
  receive-right settled = let x = stand.receiving in
      and_from (once_if (boots p q && p.upgrade) is_open_receiver q)
      (if boots p q && p.upgrade then (is_try_open q || try_rests (now q) q) else not (has is_try q))
      (once-given (boots p q && p.upgrade) (is_tried d.receiving) is_open_receiver q receives-is x.opened_times)
      (ap (λ b. if b then (is_try_open q || try_rests (now q) q) else not (has is_try q)) receives-is
      ∙ receiving-right d.receiving (now q) (is_try_open q) (try_rests (now q) q) (has is_try q) x.trying_is
      (λ h. x.rests_is h (now q)) x.tried_is settled.goes_on settled.no_try_due)

  through-is : (boots p q && (not p.upgrade || has is_good_message q)) ≡ is_through p d
  through-is = ap (λ b. (b && not p.test) && (not p.upgrade || has is_good_message q)) begins
      ∙ ap (λ b. (d.begun && not p.test) && (not p.upgrade || b)) stand.receiving.good_is

  complete-right : IsBootSettled p d (now q) → complete_right p q ≡ true
  complete-right settled =
      once-given (boots p q && (not p.upgrade || has is_good_message q)) d.complete is_bootstrap_complete q
      (through-is ∙ sym settled.complete_is) stand.begin.complete_times

  -- each entry of the beginning stands where it is due
  entries-right : IsBootSettled p d (now q) → times is_running q ≡ (if runs p q then 1 else 0) → boot_entries_right p q ≡ true
  entries-right settled running =
      and_from ((once_if p.daemon is_daemonize q && once_if (has_begun p q) is_bootstrap q)
      && (once_if (boots p q && (p.daemon && p.wait)) is_notify q && receive_right p q)) (complete_right p q && once_if (runs p q) is_running q)
      (and_from (once_if p.daemon is_daemonize q && once_if (has_begun p q) is_bootstrap q)
      (once_if (boots p q && (p.daemon && p.wait)) is_notify q && receive_right p q)
      (and_from (once_if p.daemon is_daemonize q) (once_if (has_begun p q) is_bootstrap q)
      (once-given p.daemon (is_forked d.fork) is_daemonize q (sym settled.forked_is) stand.fork.forked_times)
      (once-given (has_begun p q) d.begun is_bootstrap q begins stand.begin.begun_times))
      (and_from (once_if (boots p q && (p.daemon && p.wait)) is_notify q) (receive_right p q)
      (once-given (boots p q && (p.daemon && p.wait)) (has_notified p d) is_notify q
      (ap (λ b. (b && not p.test) && (p.daemon && p.wait)) begins) stand.notified_times)
      (receive-right settled)))
      (and_from (complete_right p q) (once_if (runs p q) is_running q) (complete-right settled) (once-given (runs p q) (runs p q) is_running q refl running))

  -- what bootstrapping is right by
  pub boot-right : IsBootSettled p d (now q) → times is_running q ≡ (if runs p q then 1 else 0)
      → EachEntry (λ e before. start_after_boot p e before ≡ true) q → BootRight p q
  boot-right settled running starts = record {
    entries = entries-right settled running;
    first = stand.fork.first;
    fork = stand.fork.fork_first;
    starts = starts;
  }

-- the end by what came is that of the state
early-end : (f : Fork) (x : Receiving) → status_of f ≤ 1
    → (if is_over_well f then Parent 0 else
    (if is_over_badly f then Parent 1 else
    (if is_transfer x then Ended Transfer else (if is_missing x then Ended NoSender else (if is_spoiled x then Ended BadMessage else On))))) ≡ early_end f x
early-end (Over zero) x status = refl
early-end (Over (suc n)) x status = let e : 1 ≡ suc n = omega arith in ap Parent e
early-end f Unasked status = refl
early-end f Trying status = refl
early-end f (Missed at) status = refl
early-end f Came status = refl
early-end f (Refused Transfer) status = refl
early-end f (Refused NoSender) status = refl
early-end f (Refused BadMessage) status = refl

early-either : (f : Fork) (x : Receiving)
    → (((is_over_well f || is_over_badly f) || is_transfer x) || (is_missing x || is_spoiled x)) ≡ (is_parent_over f || is_refused x)
early-either (Over zero) x = refl
early-either (Over (suc n)) x = refl
early-either f Unasked = refl
early-either f Trying = refl
early-either f (Missed at) = refl
early-either f Came = refl
early-either f (Refused Transfer) = refl
early-either f (Refused NoSender) = refl
early-either f (Refused BadMessage) = refl

needed : (wait parent ready : Bool) → parent ≡ true → (parent && (not wait || ready)) ≡ false → (parent && wait) ≡ true
needed wait parent ready is well = grind arith

nobody : (wait parent : Bool) → parent ≡ false → (parent && wait) ≡ false
nobody wait parent none = grind arith

waits-by : (wait : Bool) (f : Fork) (parent ready : Bool) → is_parent_over f ≡ false → parent ≡ is_parent f → (parent && (not wait || ready)) ≡ is_over_well f
    → (parent && wait) ≡ is_waiting f
waits-by wait Unforked parent ready on is well = nobody wait parent is
waits-by wait Asked parent ready on is well = nobody wait parent is
waits-by wait Child parent ready on is well = nobody wait parent is
waits-by wait (Waiting at) parent ready on is well = needed wait parent ready is well
waits-by wait (Over status) parent ready on is well = cc

-- what is none of one kind is none of a narrower one
none-here : (here wider rest : Bool) → (here ≡ true → wider ≡ true) → (wider || rest) ≡ false → here ≡ false
none-here false wider rest narrower none = refl
none-here true wider rest narrower none = let h = narrower refl in grind arith

none-of : (test wider : Entry → Bool) → ((e : Entry) → test e ≡ true → wider e ≡ true) → (q : Record) → has wider q ≡ false → has test q ≡ false
none-of test wider narrower [] none = refl
none-of test wider narrower (e ∷ q) none =
    or_from (test e) (has test q) (none-here (test e) (wider e) (has wider q) (narrower e) none)
    (none-of test wider narrower q (or_parts (wider e) (has wider q) none).1)

bootstrap-other : (e : Entry) → is_bootstrap e ≡ true → is_other_told e ≡ true
bootstrap-other (Told (Phase Bootstrap ms)) h = refl
bootstrap-other e h = cc

-- how the run has ended, by the state
module _ (p : Plan) (d : BootData) (q : Record) (stand : BootStands p d q) where
  pub tested-is : ends_tested p q ≡ (p.test && d.begun)
  tested-is = ap (λ b. p.test && b) stand.begin.begun_is

  pub parent_well-is : ends_parent_well p q ≡ is_over_well d.fork
  parent_well-is = stand.fork.well_is

  pub parent_badly-is : ends_parent_badly p q ≡ is_over_badly d.fork
  parent_badly-is = stand.fork.badly_is

  pub transfer-is : ends_transfer q ≡ is_transfer d.receiving
  transfer-is = stand.receiving.failed_is

  pub no_sender-is : ends_no_sender p q ≡ is_missing d.receiving
  no_sender-is = stand.missing_is

  pub bad_message-is : ends_bad_message q ≡ is_spoiled d.receiving
  bad_message-is = stand.receiving.bad_is

  -- the run's end, unless it has passed
  pub end-is : step_end p q ≡ (if waits_are_over p q then Served else end_of p d)
  end-is = rw (tested-is, parent_well-is, parent_badly-is, transfer-is, no_sender-is, bad_message-is)
      (ap (λ x. if waits_are_over p q then Served else (if p.test && d.begun then Tested else x)) (early-end d.fork d.receiving stand.fork.status_is))

  -- whether it has ended otherwise than served or tested
  pub early-is : has_ended_early p q ≡ is_early d
  early-is = rw (parent_well-is, parent_badly-is, transfer-is, no_sender-is, bad_message-is) (early-either d.fork d.receiving)

  -- whether it has ended
  pub ended-is : has_ended p q ≡ (waits_are_over p q || is_over p d)
  ended-is = rw (tested-is, early-is) (or_three (waits_are_over p q) (p.test && d.begun) (is_early d))
    where
      or_three : (a b c : Bool) → ((a || b) || c) ≡ (a || (b || c))
      or_three a b c = grind arith

  -- a parent waits by what came exactly where the state says so, unless it has ended
  pub waits-is : is_parent_over d.fork ≡ false → parent_waits p q ≡ is_waiting d.fork
  waits-is on = waits-by p.wait d.fork (has is_side_parent q) (has is_child_ready q) on stand.fork.parent_is stand.fork.well_is

  -- a server that awaits its fork, or a parent, told nothing but that
  pub held-is : (test : Entry → Bool) → ((e : Entry) → test e ≡ true → is_other_told e ≡ true) → may_run p d.fork ≡ false → has test q ≡ false
  held-is test other awaits = none-of test is_other_told other q (stand.fork.held awaits)

  -- so it hasn't begun
  pub unbegun-is : may_run p d.fork ≡ false → d.begun ≡ false
  unbegun-is awaits = sym stand.begin.begun_is ∙ held-is is_bootstrap bootstrap-other awaits

-- what is settled goes on
pub settled-on : (p : Plan) (d : BootData) (t : ℕ) → IsBootSettled p d t → is_early d ≡ false
settled-on p d t settled = or_from (is_parent_over d.fork) (is_refused d.receiving) settled.no_parent_over settled.goes_on
