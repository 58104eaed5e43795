-- The records that the state of a fork stands for.
use Rattle.std.specs.Prelude.{ℕ, zero, suc, Bool, true, false, ◌≡◌, ◌≤◌, not, ◌||◌, if◌then◌else◌}
use Rattle.svc_record.specs.declared.plan.Plan.{Plan}
use Rattle.svc_record.specs.declared.entry.Entry.{Entry}
use Rattle.svc_record.specs.declared.entry.Entry.TheVariants.{Told}
use Rattle.svc_record.specs.declared.action.Action.TheVariants.{Daemonize}
use Rattle.svc_record.specs.Record.{Record, has, times, EachEntry}
use Rattle.svc_record.specs.Asks.{is_daemonize, is_daemonize_open}
use Rattle.svc_record.specs.Boot.{is_side_child, is_side_parent, stands_first, fork_first}
use Rattle.svc_record.specs.Ends.{is_child_ready, is_parent_failure, parent_moment, ends_parent_well, ends_parent_badly}
use Rattle.svc_boot.specs.declared.fork.Fork.{Fork}
use Rattle.svc_boot.specs.declared.fork.Fork.TheVariants.{Unforked, Asked, Child, Waiting, Over}

-- the fork was asked for
abbrev pub is_forked : Fork → Bool
is_forked Unforked = false
is_forked _ = true

-- the fork is awaited
abbrev pub is_asked : Fork → Bool
is_asked Asked = true
is_asked _ = false

-- the process is the child
abbrev pub is_child : Fork → Bool
is_child Child = true
is_child _ = false

-- the parent waits for its child
abbrev pub is_waiting : Fork → Bool
is_waiting (Waiting at) = true
is_waiting _ = false

-- the parent ends
abbrev pub is_parent_over : Fork → Bool
is_parent_over (Over status) = true
is_parent_over _ = false

-- the process is the parent
abbrev pub is_parent : Fork → Bool
is_parent f = is_waiting f || is_parent_over f

-- since when the parent waits
abbrev pub since_of : Fork → ℕ
since_of (Waiting at) = at
since_of _ = 0

-- the status with which the parent ends
abbrev pub status_of : Fork → ℕ
status_of (Over status) = status
status_of _ = 0

-- the parent ends well
abbrev pub is_over_well : Fork → Bool
is_over_well (Over zero) = true
is_over_well (Over (suc n)) = false
is_over_well _ = false

-- the parent ends badly
abbrev pub is_over_badly : Fork → Bool
is_over_badly (Over zero) = false
is_over_badly (Over (suc n)) = true
is_over_badly _ = false

-- the server goes on: it is no daemon, or the process is the child
abbrev pub may_run : Plan → Fork → Bool
may_run p f = not p.daemon || is_child f

-- the entry tells something else than the fork
abbrev pub is_other_told : Entry → Bool
is_other_told (Told Daemonize) = false
is_other_told (Told a) = true
is_other_told _ = false

-- what was told and got of the fork: it stands first, once, and only in the run of a daemon; while the server isn't free nothing else was told; and a
-- parent that waits does so since it became one, and ends by what the record says
pub record ForkStands (p : Plan) (f : Fork) (q : Record) : Type 0 where
  pub forked_times : times is_daemonize q ≡ (if is_forked f then 1 else 0)
  pub asked_is : is_daemonize_open q ≡ is_asked f
  pub child_is : has is_side_child q ≡ is_child f
  pub parent_is : has is_side_parent q ≡ is_parent f
  pub since_is : is_waiting f ≡ true → parent_moment q ≡ since_of f
  pub well_is : ends_parent_well p q ≡ is_over_well f
  pub badly_is : ends_parent_badly p q ≡ is_over_badly f
  pub status_is : status_of f ≤ 1
  pub unready : is_parent f ≡ false → has is_child_ready q ≡ false
  pub unfailed : is_parent f ≡ false → has is_parent_failure q ≡ false
  pub daemon_is : is_forked f ≡ true → p.daemon ≡ true
  pub held : may_run p f ≡ false → has is_other_told q ≡ false
  pub first : EachEntry (λ e before. stands_first e before ≡ true) q
  pub fork_first : EachEntry (λ e before. fork_first p e before ≡ true) q
