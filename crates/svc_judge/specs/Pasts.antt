-- A record with what is looked up in it often.
use Rattle.std.specs.Prelude.{Bool, true, ◌≡◌, List, [], ◌∷◌, length, Option, Some, None}
use Rattle.svc_record.specs.declared.plan.Plan.{Plan}
use Rattle.svc_record.specs.declared.entry.Entry.{Entry}
use Rattle.svc_record.specs.Record.{Record, has, is_signal, before_signal}
use Rattle.svc_record.specs.declared.entry.Entry.TheVariants.{Got}
use Rattle.svc_record.specs.declared.event.Event.TheVariants.{Received}
use Rattle.svc_record.specs.Message.{encode, decode}
use Rattle.svc_record.specs.Boot.{is_read}
use Rattle.svc_record.specs.Starts.{startup_order}
use Rattle.svc_record.specs.Descriptors.{descriptors_of, opened_descriptors, live_table}
use Rattle.svc_fds.specs.Tables.{numbers}
use Rattle.svc_judge.specs.declared.past.Past.{Past}
use Rattle.svc_judge.specs.declared.past.Split.{Split}

-- the plan, and the record
abbrev pub plan_of : Past → Plan
plan_of s = s.plan.now

abbrev pub record_of : Past → Record
record_of s = s.entries.now

-- whether each message could be read, the newest first
abbrev pub reads_of : Record → List Bool
reads_of [] = []
reads_of (Got (Received bytes fds) ∷ before) = is_read (decode bytes (length fds)) ∷ reads_of before
reads_of (e ∷ before) = reads_of before

-- what of it is left before this entry
abbrev pub reads_behind : Entry → List Bool → List Bool
reads_behind (Got (Received bytes fds)) [] = []
reads_behind (Got (Received bytes fds)) (r ∷ before) = before
reads_behind _ reads = reads

-- it has what the record opened; and where a signal came, what was live before the first one, and its message
pub record IsPast (s : Past) : Type 0 where
  pub opened : s.opened.now ≡ opened_descriptors s.plan.now s.entries.now
  pub reads : s.reads.now ≡ reads_of s.entries.now
  pub order : s.order.now ≡ startup_order s.plan.now
  pub numbers : has is_signal s.entries.now ≡ true → s.offer.now.numbers.items ≡ numbers (live_table s.plan.now (before_signal s.entries.now))
  pub message : has is_signal s.entries.now ≡ true → s.offer.now.message ≡ encode (live_table s.plan.now (before_signal s.entries.now))

-- it is a past, under the plan of the other
pub record IsRestOf (s rest : Past) : Type 0 where
  pub past : IsPast rest
  pub plan : rest.plan.now ≡ s.plan.now

-- these are the newest entry, what it opened, and what stands before it
pub record IsSplitInto (s : Past) (t : Split) : Type 0 where
  pub rest : IsRestOf s t.before
  pub entries : s.entries.now ≡ t.entry.now ∷ t.before.entries.now
  pub news : t.news.now ≡ descriptors_of s.plan.now t.entry.now

-- the same, or there is no entry
abbrev pub IsSplit : Past → Option Split → Type 0
IsSplit s None = s.entries.now ≡ []
IsSplit s (Some t) = IsSplitInto s t
