-- The records that the part on bootstrapping stands for.
use Rattle.std.specs.Prelude.{ℕ, Bool, true, false, ◌≡◌, ◌-◌, not, ◌&&◌, ◌||◌, nat_le, nat_lt, if◌then◌else◌}
use Rattle.svc_record.specs.declared.plan.Plan.{Plan}
use Rattle.svc_record.specs.declared.action.BootstrapError.TheVariants.{Transfer, NoSender, BadMessage}
use Rattle.svc_record.specs.Record.{Record, has, times, is_bootstrap, is_bootstrap_complete, EachEntry}
use Rattle.svc_record.specs.Asks.{is_try, is_try_open}
use Rattle.svc_record.specs.Boot.{is_notify, is_open_receiver, is_good_message, is_bad_message, may_try, try_rests, boot_due, try_due}
use Rattle.svc_record.specs.Ends.{is_no_sender, is_receive_failure, ends_no_sender}
use Rattle.svc_boot.specs.declared.receiving.Receiving.{Receiving}
use Rattle.svc_boot.specs.declared.receiving.Receiving.TheVariants.{Unasked, Trying, Missed, Came, Refused}
use Rattle.svc_boot.specs.BootData.{BootData}
use Rattle.svc_boot.specs.ForkState.{ForkStands}

-- once where it holds, else not at all
abbrev pub count_of : Bool → ℕ
count_of b = if b then 1 else 0

-- there was a try
abbrev pub is_tried : Receiving → Bool
is_tried Unasked = false
is_tried _ = true

-- a try is open
abbrev pub is_trying : Receiving → Bool
is_trying Trying = true
is_trying _ = false

-- a message came that can be read
abbrev pub has_come : Receiving → Bool
has_come Came = true
has_come _ = false

-- the run ends by the receiving
abbrev pub is_refused : Receiving → Bool
is_refused (Refused reason) = true
is_refused _ = false

-- receiving failed
abbrev pub is_transfer : Receiving → Bool
is_transfer (Refused Transfer) = true
is_transfer _ = false

-- no sender was there too often
abbrev pub is_missing : Receiving → Bool
is_missing (Refused NoSender) = true
is_missing _ = false

-- a message came that can't be read
abbrev pub is_spoiled : Receiving → Bool
is_spoiled (Refused BadMessage) = true
is_spoiled _ = false

-- it says whether there may be a try
abbrev pub tells_rest : Receiving → Bool
tells_rest Unasked = true
tells_rest (Missed at) = true
tells_rest Came = true
tells_rest _ = false

-- there may be a try at the moment t: none was answered yet, or nobody sent at a moment 1,000 ms or more before
abbrev pub may_try_in : Receiving → ℕ → Bool
may_try_in Unasked t = true
may_try_in (Missed at) t = nat_le 1000 (t - at)
may_try_in _ t = false

-- it rests at the moment t, or a message has come
abbrev pub rests_in : Receiving → ℕ → Bool
rests_in (Missed at) t = nat_lt (t - at) 1000
rests_in Came t = true
rests_in _ t = false

-- it is tried again at the moment t: nobody sent at a moment 1,000 ms or more before
abbrev pub is_due_in : Receiving → ℕ → Bool
is_due_in (Missed at) t = nat_le 1000 (t - at)
is_due_in _ t = false

-- an older server's message is received
abbrev pub receives : Plan → BootData → Bool
receives p d = (d.begun && not p.test) && p.upgrade

-- nothing is left to receive
abbrev pub is_through : Plan → BootData → Bool
is_through p d = (d.begun && not p.test) && (not p.upgrade || has_come d.receiving)

-- there was nothing to receive
abbrev pub is_alone : Plan → BootData → Bool
is_alone p d = (d.begun && not p.test) && not p.upgrade

-- a daemon's child notifies its parent, which waits for it
abbrev pub notifies : Plan → Bool
notifies p = p.daemon && p.wait

-- the parent was notified
abbrev pub has_notified : Plan → BootData → Bool
has_notified p d = (d.begun && not p.test) && notifies p

-- what the part keeps by itself: it was tried exactly where a message is received, what is complete has nothing left to receive, and what had nothing
-- to receive is complete
pub record BootKept (p : Plan) (d : BootData) : Type 0 where
  pub tried_is : is_tried d.receiving ≡ receives p d
  pub through : d.complete ≡ true → is_through p d ≡ true
  pub alone : is_alone p d ≡ true → d.complete ≡ true

-- what was told of the beginning
pub record BeginStands (d : BootData) (q : Record) : Type 0 where
  pub begun_is : has is_bootstrap q ≡ d.begun
  pub begun_times : times is_bootstrap q ≡ count_of d.begun
  pub complete_is : has is_bootstrap_complete q ≡ d.complete
  pub complete_times : times is_bootstrap_complete q ≡ count_of d.complete

-- what was told and got of the receiving
pub record ReceivingStands (x : Receiving) (q : Record) : Type 0 where
  pub opened_is : has is_open_receiver q ≡ is_tried x
  pub opened_times : times is_open_receiver q ≡ count_of (is_tried x)
  pub tried_is : has is_try q ≡ is_tried x
  pub trying_is : is_try_open q ≡ is_trying x
  pub may_is : tells_rest x ≡ true → (t : ℕ) → may_try t q ≡ may_try_in x t
  pub rests_is : tells_rest x ≡ true → (t : ℕ) → try_rests t q ≡ rests_in x t
  pub good_is : has is_good_message q ≡ has_come x
  pub bad_is : has is_bad_message q ≡ is_spoiled x
  pub failed_is : has is_receive_failure q ≡ is_transfer x

-- the part says what the record says, the parent was notified where it is to be, and each entry of bootstrapping stands where it is due
pub record BootStands (p : Plan) (d : BootData) (q : Record) : Type 0 where
  pub kept : BootKept p d
  pub begin : BeginStands d q
  pub receiving : ReceivingStands d.receiving q
  pub missing_is : ends_no_sender p q ≡ is_missing d.receiving
  pub retries_is : d.retries ≡ p.limit - times is_no_sender q
  pub notified_times : times is_notify q ≡ count_of (has_notified p d)
  pub fork : ForkStands p d.fork q
  pub boots_due : EachEntry (λ e before. boot_due p e before ≡ true) q
  pub tries_due : EachEntry (λ e before. try_due e before ≡ true) q
