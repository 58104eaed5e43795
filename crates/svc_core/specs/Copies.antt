-- Actions that can be told twice.
use Rattle.std.specs.Prelude.{Bool, true, false, ◌≡◌, ◌&&◌, List, [], ◌∷◌, ℕ, Option, Some, None, if◌then◌else◌}
use Rattle.std.specs.List.{list_all}
use Rattle.svc_base.specs.declared.settings.Setting.{Setting}
use Rattle.svc_fds.specs.declared.encoding.Message.{Message}
use Rattle.svc_record.specs.declared.action.Action.{Action}
use Rattle.svc_record.specs.declared.action.Action.TheVariants.{Send, Judged, Settings as TellSettings}
use Rattle.svc_record.specs.declared.event.Event.{Event}
use Rattle.svc_record.specs.declared.event.Event.TheVariants.{Arrived}
use Rattle.svc_record.specs.Connections.{same_settings, settings_list}
use Rattle.svc_record.specs.Offer.{is_message}
use Rattle.svc_record.specs.Told.{Tells}
use Rattle.svc_offer.specs.OfferEffects.{sends_at}
use Rattle.svc_core.specs.declared.copies.OwnedPayload.{OwnedPayload}
use Rattle.svc_core.specs.declared.copies.OwnedPayload.TheVariants.{Nothing, OfMessage, OfSettings}
use Rattle.svc_core.specs.CoreData.{CoreData}

-- the action owns no memory, and judges no connection
abbrev pub is_bare : Action → Bool
is_bare (Send bytes fds) = false
is_bare (TellSettings c list) = false
is_bare (Judged c said) = false
is_bare _ = true

-- each of these actions is bare
abbrev pub are_bare : List Action → Bool
are_bare told = list_all is_bare told

-- a call appended such actions
abbrev pub TellsBare : List Action → List Action → Type 0
TellsBare before after = Tells before after (λ told. are_bare told ≡ true)

-- the copy is of this message
abbrev pub is_sent : OwnedPayload → List ℕ → List ℕ → Bool
is_sent (OfMessage w) bytes fds = is_message bytes fds (Some w)
is_sent _ bytes fds = false

-- the copy is of these settings
abbrev pub is_applied : OwnedPayload → List Setting → Bool
is_applied (OfSettings list) told = same_settings told list
is_applied _ told = false

-- the copy is of settings, so a connection has arrived and may be judged
abbrev pub is_of_settings : OwnedPayload → Bool
is_of_settings (OfSettings list) = true
is_of_settings _ = false

-- the action is bare, or sends the message of the copy, or applies its settings, or judges a connection
abbrev pub is_copied : OwnedPayload → Action → Bool
is_copied copy (Send bytes fds) = is_sent copy bytes fds
is_copied copy (TellSettings c list) = is_applied copy list
is_copied copy (Judged c said) = is_of_settings copy
is_copied copy a = is_bare a

-- what is left of a copy once the action was told
abbrev pub left_of : OwnedPayload → Action → OwnedPayload
left_of copy (Send bytes fds) = Nothing
left_of copy (TellSettings c list) = Nothing
left_of copy a = copy

-- these actions are so, and the copy is told once at most
abbrev pub are_copied : OwnedPayload → List Action → Bool
are_copied copy [] = true
are_copied copy (a ∷ more) = is_copied copy a && are_copied (left_of copy a) more

-- a call appended such actions
abbrev pub TellsCopied : OwnedPayload → List Action → List Action → Type 0
TellsCopied copy before after = Tells before after (λ told. are_copied copy told ≡ true)

-- the message, if there is one, as a copy
abbrev pub copy_of : Option Message → OwnedPayload
copy_of (Some w) = OfMessage w
copy_of None = Nothing

-- the message, where the event lets its send fall due
abbrev pub message_at : CoreData → Event → Option Message
message_at core e = if sends_at core.offer.state e then core.offer.message else None

-- what the event's step may tell that owns memory: an endpoint's settings where a connection arrived, else the message
abbrev pub copy_at : CoreData → Event → OwnedPayload
copy_at core (Arrived s i c peer) = OfSettings (settings_list core.plan s i)
copy_at core e = copy_of (message_at core e)
