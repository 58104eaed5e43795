-- What contracts see of what accepts connections, and what its calls change.
use Rattle.std.specs.Prelude.{◌≡◌, ℕ, ◌+◌, ◌≤◌, Bool, List, [], ◌∷◌, Option}
use Rattle.svc_base.specs.Streams.{Rose}
use Rattle.svc_base.specs.declared.settings.Setting.{Setting}
use Rattle.svc_base.specs.Calls.{Adds, Stays}
use Rattle.svc_listen.specs.declared.accepting.Arrival.{Arrival}
use Rattle.svc_listen.specs.declared.accepting.Arrival.TheVariants.{Came, NotYet, Failed}
use Rattle.svc_listen.specs.declared.accepting.AcceptingCall.{AcceptingCall}
use Rattle.svc_listen.specs.declared.accepting.AcceptingCall.TheVariants.{Accept, Refuse, Set}
use Rattle.svc_socket.specs.OptionsData.{SetFaults}

-- the calls that it was asked, the oldest first, where it tells them; for how many more calls it is sure to tell them; how often it
-- failed, and how often no connection was there yet
pub record AcceptingData : Type 0 where
  pub called : Option (List AcceptingCall)
  pub room : ℕ
  pub faults : ℕ
  pub waits : ℕ

-- the count of faults rises where an accept failed, and stays at every other answer
abbrev pub AcceptFaults : Arrival → ℕ → ℕ → Type 0
AcceptFaults (Came c peer) before now = now ≡ before
AcceptFaults NotYet before now = now ≡ before
AcceptFaults (Failed n) before now = Rose before now

-- the count of waits rises where no connection was there yet, and stays at every other answer
abbrev pub AcceptWaits : Arrival → ℕ → ℕ → Type 0
AcceptWaits (Came c peer) before now = now ≡ before
AcceptWaits NotYet before now = Rose before now
AcceptWaits (Failed n) before now = now ≡ before

-- it was asked once to accept a connection, with this answer; what was told stays told as long as there is room, and the call takes
-- the place of one
pub record IsAccepted (before now : AcceptingData) (arrival : Arrival) : Type 0 where
  pub called : Adds before.called now.called (Accept arrival ∷ [])
  pub stays : Stays before.called now.called before.room now.room
  pub place : before.room ≤ now.room + 1
  pub faults : AcceptFaults arrival before.faults now.faults
  pub waits : AcceptWaits arrival before.waits now.waits

-- it was told to refuse a connection; what was told stays told as long as there is room, and the call takes the place of one
pub record IsRefused (before now : AcceptingData) (c : ℕ) : Type 0 where
  pub called : Adds before.called now.called (Refuse c ∷ [])
  pub stays : Stays before.called now.called before.room now.room
  pub place : before.room ≤ now.room + 1
  pub faults : now.faults ≡ before.faults
  pub waits : now.waits ≡ before.waits

-- it was asked to set an option of a connection, with this answer; what was told stays told as long as there is room, and the call
-- takes the place of one
pub record IsSet (before now : AcceptingData) (c : ℕ) (setting : Setting) (set : Bool) : Type 0 where
  pub called : Adds before.called now.called (Set c setting set ∷ [])
  pub stays : Stays before.called now.called before.room now.room
  pub place : before.room ≤ now.room + 1
  pub faults : SetFaults set before.faults now.faults
  pub waits : now.waits ≡ before.waits
