-- Options that are set in order, up to the first failure.
use Rattle.std.specs.Prelude.{◌≡◌, ℕ, ◌+◌, ◌≤◌, Bool, true, false, nat_lt, List, [], ◌∷◌, ◌++◌, map, length, Option, Result, Ok, Err, ◌⊎◌}
use Rattle.std.specs.List.{filter_map}
use Rattle.std.specs.Bool.{MatchBool}
use Rattle.svc_base.specs.Streams.{Rose}
use Rattle.svc_base.specs.Calls.{Adds, Stays}
use Rattle.svc_socket.specs.OptionsData.{OptionsData}
use Rattle.svc_socket.specs.declared.options.SockOption.{SockOption}
use Rattle.svc_socket.specs.declared.options.OptionCall.{OptionCall}
use Rattle.svc_socket.specs.declared.protocols.l4.ext.OptionError.{OptionError}
use Rattle.svc_socket.specs.declared.protocols.l4.ext.OptionError.TheVariants.{TooLarge, ConnectError, SocketError, BindError}

-- options, each with the error that is answered where it can't be set
abbrev pub Steps : Type 0
Steps = List (SockOption × OptionError)

-- those that are given
abbrev pub given : List (Option (SockOption × OptionError)) → Steps
given steps = filter_map (λ step. step) steps

-- the calls by which these were set
abbrev pub set_calls : Steps → List OptionCall
set_calls steps = map (λ step. record { option = step.0; set = true }) steps

-- all of them were set, and then this was answered
pub record AllSet (steps : Steps) (last : Result (Unit {0}) OptionError) (before now : OptionsData) (answer : Result (Unit {0}) OptionError) : Type 0 where
  pub called : Adds before.called now.called (set_calls steps)
  pub stays : Stays before.called now.called before.room now.room
  pub place : before.room ≤ now.room + length steps
  pub family : now.family ≡ before.family
  pub faults : now.faults ≡ before.faults
  pub answer_is : answer ≡ last

-- those before one of them were set; that one failed, no later one was tried, and its error was answered
pub record Fails (steps : Steps) (before now : OptionsData) (answer : Result (Unit {0}) OptionError) : Type 0 where
  pub front : Steps
  pub failed : SockOption × OptionError
  pub back : Steps
  pub all : steps ≡ front ++ failed ∷ back
  pub called : Adds before.called now.called (set_calls front ++ record { option = failed.0; set = false } ∷ [])
  pub stays : Stays before.called now.called before.room now.room
  pub place : before.room ≤ now.room + length steps
  pub family : now.family ≡ before.family
  pub faults : Rose before.faults now.faults
  pub answer_is : answer ≡ Err failed.1

-- they were set in order, up to the first failure
abbrev pub Sets : Steps → Result (Unit {0}) OptionError → OptionsData → OptionsData → Result (Unit {0}) OptionError → Type 0
Sets steps last before now answer = AllSet steps last before now answer ⊎ Fails steps before now answer

-- the value is over the greatest that an option takes
abbrev pub is_large : ℕ → Bool
is_large value = nat_lt 2147483647 value

-- where a value is too large that is answered, else they were set in order
abbrev pub Tries : Bool → Steps → Result (Unit {0}) OptionError → OptionsData → OptionsData → Result (Unit {0}) OptionError → Type 0
Tries large steps last before now answer = MatchBool large (answer ≡ Err TooLarge) (Sets steps last before now answer)

-- why an answer came: too large exactly where a value is too large, and another error only where the count of faults
-- rose, or where nothing failed and this fact holds
abbrev pub Causes : Bool → Type 0 → ℕ → ℕ → Result (Unit {0}) OptionError → Type 0
Causes large other before now (Ok u) = large ≡ false
Causes large other before now (Err TooLarge) = large ≡ true
Causes large other before now (Err ConnectError) = (large ≡ false) × (Rose before now ⊎ other)
Causes large other before now (Err SocketError) = (large ≡ false) × (Rose before now ⊎ other)
Causes large other before now (Err BindError) = (large ≡ false) × (Rose before now ⊎ other)
