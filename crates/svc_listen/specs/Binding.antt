-- How an address comes to a descriptor that listens on it: what a binder is asked, by its answers.
use Rattle.std.specs.Prelude.{◌≡◌, ℕ, zero, suc, true, false, ◌+◌, ◌-◌, ◌^◌, ◌≤◌, min, List, [], ◌∷◌, ◌++◌, Option, Some, None, Result, Ok, Err, if◌then◌else◌}
use Rattle.std.specs.Option.{option_map}
use Rattle.svc_base.specs.Calls.{Adds, Stays}
use Rattle.svc_fds.specs.Tables.{Entry, lookup, put}
use Rattle.svc_listen.specs.Addresses.{text_of, is_unix}
use Rattle.svc_listen.specs.BinderData.{BinderData, BindFaults, IsAdopted}
use Rattle.svc_listen.specs.declared.listeners.l4.ServerAddress.{ServerAddress}
use Rattle.svc_listen.specs.declared.binder.BindOutcome.{BindOutcome}
use Rattle.svc_listen.specs.declared.binder.BindOutcome.TheVariants.{Bound, InUse}
use Rattle.svc_listen.specs.declared.binder.BindOutcome.TheVariants as outcomes
use Rattle.svc_listen.specs.declared.binder.BinderCall.{BinderCall}
use Rattle.svc_listen.specs.declared.binder.BinderCall.TheVariants.{Bind, Rest}
use Rattle.svc_listen.specs.declared.listeners.l4.binding.BindErrorKind.{BindErrorKind}
use Rattle.svc_listen.specs.declared.listeners.l4.binding.BindErrorKind.TheVariants.{AdoptFailed, Failed, StillInUse}
use Rattle.svc_listen.specs.declared.listeners.l4.binding.ListenError.{ListenError}
use Rattle.svc_listen.specs.declared.listeners.l4.binding.ListenError.TheVariants.{BindError, NoMemory}

-- how often an address is tried
abbrev pub most_tries : ServerAddress → ℕ
most_tries address = if is_unix address then 1 else 30

-- so many tries that found the address in use, with a rest of 1,000 milliseconds after each
abbrev pub busy_tries : ServerAddress → ℕ → List BinderCall
busy_tries address zero = []
busy_tries address (suc k) = busy_tries address k ++ Bind address InUse ∷ Rest 1000 ∷ []

-- a count of 64 bits rose so often, or stands at its greatest value; it stays where that is never
abbrev pub RoseBy : ℕ → ℕ → ℕ → Type 0
RoseBy zero before now = now ≡ before
RoseBy (suc k) before now = min (before + suc k) (2 ^ 64 - 1) ≤ now

-- how often an answer finds the address in use
abbrev pub in_use : BindOutcome → ℕ
in_use (Bound fd) = 0
in_use InUse = 1
in_use outcomes.Failed = 0

-- the address was tried: some tries found it in use, and then came the last, with this answer. It finds
-- the address in use only where no further try is left. What was told stays told as long as there is room
pub record Tries (before now : BinderData) (address : ServerAddress) (last : BindOutcome) : Type 0 where
  pub busy : ℕ
  pub called : Adds before.called now.called (busy_tries address busy ++ Bind address last ∷ [])
  pub stays : Stays before.called now.called before.room now.room
  pub few : busy + 1 ≤ most_tries address
  pub spent : last ≡ InUse → busy + 1 ≡ most_tries address
  pub faults : BindFaults last before.faults now.faults
  pub waits : RoseBy (busy + in_use last) before.waits now.waits

-- what the tries gave
abbrev pub Tried : BinderData → BinderData → ServerAddress → Result ℕ BindErrorKind → Type 0
Tried before now address (Ok fd) = Tries before now address (Bound fd)
Tried before now address (Err AdoptFailed) = ⊥
Tried before now address (Err Failed) = Tries before now address outcomes.Failed
Tried before now address (Err StillInUse) = Tries before now address InUse

-- what a table, if there is one, has at an address
abbrev pub held : ServerAddress → Option (List Entry) → Option ℕ
held address None = None
held address (Some entries) = lookup (text_of address) entries

-- a table, if there is one, with the descriptor of an address
abbrev pub recorded : ServerAddress → ℕ → Option (List Entry) → Option (List Entry)
recorded address fd table = option_map (put (text_of address) fd) table

-- a held address is adopted and not bound; another is bound, and the table has its descriptor from then
-- on. Where that isn't so the table is as before, and where memory was refused nothing was asked
pub data Reaches {S : Type 0} (seen : S → BinderData) (address : ServerAddress) (table : Option (List Entry)) (before now : S) : Option (List Entry)
    → Result ℕ ListenError → Type 0 where
  adopted : (fd : ℕ) → held address table ≡ Some fd → IsAdopted (seen before) (seen now) address fd true → Reaches seen address table before now table (Ok fd)
  not_adopted : (fd : ℕ) → held address table ≡ Some fd → IsAdopted (seen before) (seen now) address fd false
      → Reaches seen address table before now table (Err (BindError AdoptFailed))
  bound : (fd : ℕ) → held address table ≡ None → Tried (seen before) (seen now) address (Ok fd)
      → Reaches seen address table before now (recorded address fd table) (Ok fd)
  not_bound : (kind : BindErrorKind) → held address table ≡ None → Tried (seen before) (seen now) address (Err kind)
      → Reaches seen address table before now table (Err (BindError kind))
  no_memory : (entries : List Entry) → table ≡ Some entries → held address table ≡ None → now ≡ before
      → Reaches seen address table before now table (Err NoMemory)
