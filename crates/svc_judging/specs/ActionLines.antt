-- What a line of words says, where it is an action.
use Rattle.std.specs.Prelude.{ℕ, Bool, true, false, ◌^◌, if◌then◌else◌, List, [], ◌∷◌, codes, Option, Some, None}
use Rattle.std.specs.Str.{bytes_eq}
use Rattle.svc_base.specs.Options.{◌>>=◌}
use Rattle.svc_base.specs.Words.{number_of}
use Rattle.svc_record.specs.declared.action.ExecutionPhase.{ExecutionPhase}
use Rattle.svc_record.specs.declared.action.ExecutionPhase.TheVariants as phases
use Rattle.svc_record.specs.declared.action.Action.{Action}
use Rattle.svc_record.specs.declared.action.Action.TheVariants as actions
use Rattle.svc_record.specs.declared.event.Event.{Event}
use Rattle.svc_record.specs.declared.event.Event.TheVariants as events
use Rattle.svc_text.specs.EventLines.{event_of}
use Rattle.svc_judging.specs.SettingWords.{settings_of}

-- what a word says that a filter said
unfoldable pub yes_of : List ℕ → Option Bool
yes_of word = if bytes_eq word (codes "yes") then Some true else (if bytes_eq word (codes "no") then Some false else None)

-- the phase that a word names, of those before the signal
unfoldable pub early_phase : List ℕ → Option ExecutionPhase
early_phase word =
    if bytes_eq word (codes "Setup") then Some phases.Setup
    else (if bytes_eq word (codes "Bootstrap") then Some phases.Bootstrap
    else (if bytes_eq word (codes "BootstrapComplete") then Some phases.BootstrapComplete
    else (if bytes_eq word (codes "Running") then Some phases.Running else None)))

-- the phase that a word names
unfoldable pub phase_of : List ℕ → Option ExecutionPhase
phase_of word =
    if bytes_eq word (codes "GracefulUpgradeTransferringFds") then Some phases.GracefulUpgradeTransferringFds
    else (if bytes_eq word (codes "GracefulUpgradeCloseTimeout") then Some phases.GracefulUpgradeCloseTimeout
    else (if bytes_eq word (codes "GracefulTerminate") then Some phases.GracefulTerminate
    else (if bytes_eq word (codes "ShutdownStarted") then Some phases.ShutdownStarted
    else (if bytes_eq word (codes "ShutdownGracePeriod") then Some phases.ShutdownGracePeriod
    else (if bytes_eq word (codes "ShutdownRuntimes") then Some phases.ShutdownRuntimes
    else (if bytes_eq word (codes "Terminated") then Some phases.Terminated else early_phase word))))))

-- the action of a key alone
unfoldable pub bare_action : List ℕ → Option Action
bare_action key =
    if bytes_eq key (codes "openreceiver") then Some actions.OpenReceiver
    else (if bytes_eq key (codes "tryreceive") then Some actions.TryReceive
    else (if bytes_eq key (codes "notifyparent") then Some actions.NotifyParent
    else (if bytes_eq key (codes "connect") then Some actions.Connect
    else (if bytes_eq key (codes "broadcast") then Some actions.Broadcast
    else (if bytes_eq key (codes "daemonize") then Some actions.Daemonize else None)))))

-- the action of a key and the number of a service
unfoldable pub service_action : List ℕ → List ℕ → Option Action
service_action key first =
    if bytes_eq key (codes "start") then (number_of (2 ^ 32) first >>= λ service. Some (actions.Start service))
    else (if bytes_eq key (codes "fail") then (number_of (2 ^ 32) first >>= λ service. Some (actions.Fail service)) else None)

-- the action of a key and a word
unfoldable pub action_of_one : List ℕ → List ℕ → Option Action
action_of_one key first =
    if bytes_eq key (codes "close") then (number_of (2 ^ 64) first >>= λ descriptor. Some (actions.Close descriptor))
    else (if bytes_eq key (codes "refuse") then (number_of (2 ^ 64) first >>= λ connection. Some (actions.Refuse connection))
    else (if bytes_eq key (codes "handshake") then (number_of (2 ^ 64) first >>= λ connection. Some (actions.Handshake connection))
    else (if bytes_eq key (codes "serve") then (number_of (2 ^ 64) first >>= λ connection. Some (actions.Serve connection))
    else (if bytes_eq key (codes "drop") then (number_of (2 ^ 64) first >>= λ connection. Some (actions.Drop connection))
    else (if bytes_eq key (codes "cut") then (number_of (2 ^ 64) first >>= λ connection. Some (actions.Cut connection))
    else (if bytes_eq key (codes "stop") then (number_of (2 ^ 64) first >>= λ seconds. Some (actions.Stop seconds))
    else service_action key first))))))

-- of a key and two words
unfoldable pub action_of_two : List ℕ → List ℕ → List ℕ → Option Action
action_of_two key first second =
    if bytes_eq key (codes "bind") then
    (number_of (2 ^ 32) first >>= λ service. number_of (2 ^ 32) second >>= λ endpoint. Some (actions.Bind service endpoint))
    else (if bytes_eq key (codes "phase") then (phase_of first >>= λ phase. number_of (2 ^ 64) second >>= λ ms. Some (actions.Phase phase ms))
    else (if bytes_eq key (codes "judged") then (number_of (2 ^ 64) first >>= λ connection. yes_of second >>= λ said. Some (actions.Judged connection said))
    else (if bytes_eq key (codes "rest") then
    (number_of (2 ^ 32) first >>= λ service. number_of (2 ^ 32) second >>= λ endpoint. Some (actions.Rest service endpoint)) else None)))

-- of a key and three words
unfoldable pub action_of_three : List ℕ → List ℕ → List ℕ → List ℕ → Option Action
action_of_three key first second third =
    if bytes_eq key (codes "adopt") then
    (number_of (2 ^ 32) first >>= λ service. number_of (2 ^ 32) second >>= λ endpoint. number_of (2 ^ 64) third >>= λ descriptor. Some
    (actions.Adopt service endpoint descriptor)) else None

-- the action of a key with so few words
unfoldable pub plain_action : List (List ℕ) → Option Action
plain_action [] = None
plain_action (key ∷ []) = bare_action key
plain_action (key ∷ first ∷ []) = action_of_one key first
plain_action (key ∷ first ∷ second ∷ []) = action_of_two key first second
plain_action (key ∷ first ∷ second ∷ third ∷ []) = action_of_three key first second third
plain_action (key ∷ first ∷ second ∷ third ∷ fourth ∷ more) = None

-- the message of an event, as the action that sends it
unfoldable pub sent_of : Event → Option Action
sent_of (events.Received bytes descriptors) = Some (actions.Send bytes descriptors)
sent_of _ = None

-- a message, whose words are those of one that is received
unfoldable pub message_of : List (List ℕ) → Option Action
message_of ws = event_of (codes "received" ∷ ws) >>= sent_of

-- the settings of a connection
unfoldable pub settings_action : List (List ℕ) → Option Action
settings_action [] = None
settings_action (first ∷ more) = number_of (2 ^ 64) first >>= λ connection. settings_of more >>= λ settings. Some (actions.Settings connection settings)

-- the action that the words of a line say
unfoldable pub action_of : List (List ℕ) → Option Action
action_of [] = None
action_of (key ∷ more) =
    if bytes_eq key (codes "settings") then settings_action more
    else (if bytes_eq key (codes "send") then message_of more else plain_action (key ∷ more))
