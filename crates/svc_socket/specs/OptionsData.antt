-- What contracts see of a socket whose options are set.
use Rattle.std.specs.Prelude.{◌≡◌, ℕ, ◌+◌, ◌≤◌, Bool, true, false, List, [], ◌∷◌, Option}
use Rattle.svc_base.specs.Streams.{Rose}
use Rattle.svc_base.specs.Calls.{Adds, Stays}
use Rattle.svc_socket.specs.declared.options.Family.{Family}
use Rattle.svc_socket.specs.declared.options.SockOption.{SockOption}
use Rattle.svc_socket.specs.declared.options.OptionCall.{OptionCall}

-- the calls that it was asked, the oldest first, where it tells them; for how many more calls it is sure to tell them; the family of
-- its addresses; how often it failed
pub record OptionsData : Type 0 where
  pub called : Option (List OptionCall)
  pub room : ℕ
  pub family : Family
  pub faults : ℕ

-- the count of faults rises where an option wasn't set, and stays where it was
abbrev pub SetFaults : Bool → ℕ → ℕ → Type 0
SetFaults true before now = now ≡ before
SetFaults false before now = Rose before now

-- it was asked to set the option, with this answer; what was told stays told as long as there is room, and the call takes the place
-- of one
pub record IsAsked (before now : OptionsData) (option : SockOption) (answer : Bool) : Type 0 where
  pub called : Adds before.called now.called (record { option = option; set = answer } ∷ [])
  pub stays : Stays before.called now.called before.room now.room
  pub place : before.room ≤ now.room + 1
  pub family : now.family ≡ before.family
  pub faults : SetFaults answer before.faults now.faults
