-- What an operator of an upgrade in place relies on: an address that the old server holds is always open.
use Rattle.std.specs.Prelude.{◌≡◌, ℕ, Bool, true, false, not, ◌&&◌, ◌||◌, List, [], ◌∷◌, Option, Some, None, if◌then◌else◌}
use Rattle.std.specs.List.{list_any, list_all}
use Rattle.svc_record.specs.declared.plan.Plan.{Plan}
use Rattle.svc_record.specs.declared.entry.Entry.TheVariants.{Got, Told}
use Rattle.svc_record.specs.declared.event.ShutdownSignal.{ShutdownSignal}
use Rattle.svc_record.specs.Record.{Record, has, is_signal, signal_of, before_signal}
use Rattle.svc_record.specs.Plans.{services, names}
use Rattle.svc_record.specs.Descriptors.{has_live}
use Rattle.svc_record.specs.Failed.{has_failed}
use Rattle.svc_record.specs.Offer.{is_upgrade, is_over}
use Rattle.svc_record.specs.Drain.{waits_are_over}
use Rattle.svc_record.specs.Ends.{has_ended}
use Rattle.svc_handover.specs.Channel.{is_in_flight, is_sent, sent_message, names_address}
use Rattle.svc_handover.specs.Pair.{World}

-- the run has ended otherwise than served, so that all that it had open is closed
abbrev pub is_down : Plan → Record → Bool
is_down p q = has_ended p q && not (waits_are_over p q)

-- a side has an open descriptor of the address
abbrev pub is_up_with : Plan → Record → List ℕ → Bool
is_up_with p q a = not (is_down p q) && has_live p q (Some a)

-- a connection to the address finds an open listener: one of the two sides has it, or it is on its way to a new side that goes on
abbrev pub is_reachable : Plan → Plan → World → List ℕ → Bool
is_reachable p n w a =
    (is_up_with p w.old a || is_up_with n w.new a) || ((is_in_flight w.channel && names_address a (sent_message w.old)) && not (has_ended n w.new))

-- what stands before the first signal; the whole where none came
abbrev pub unsignalled : Record → Record
unsignalled q = if has is_signal q then before_signal q else q

-- a descriptor of the address was live before some event
abbrev pub was_live : Plan → Record → List ℕ → Bool
was_live p [] a = false
was_live p (Got e ∷ before) a = has_live p before (Some a) || was_live p before a
was_live p (Told x ∷ before) a = was_live p before a

-- the old server has held the address since some moment before any signal
abbrev pub was_held : Plan → Record → List ℕ → Bool
was_held p q a = has_live p (unsignalled q) (Some a) || was_live p (unsignalled q) a

-- some service of the plan names the address
abbrev pub is_named : Plan → List ℕ → Bool
is_named p a = list_any (λ s. names p s a) (services p)

-- a service of each of the two plans names the address
abbrev pub is_named_by_both : Plan → Plan → List ℕ → Bool
is_named_by_both p n a = is_named p a && is_named n a

-- none of the services that name the address has failed
abbrev pub is_sound_for : Plan → Record → List ℕ → Bool
is_sound_for p q a = list_all (λ s. not (names p s a) || not (has_failed p q s)) (services p)

-- no signal came, or the first one was an upgrade
abbrev pub is_upgrade_or_none : Option ShutdownSignal → Bool
is_upgrade_or_none None = true
is_upgrade_or_none (Some kind) = is_upgrade (Some kind)

-- the offer isn't over, or it ended by the message being sent
abbrev pub ends_sent : Plan → Record → Bool
ends_sent p q = not (is_over p q) || has is_sent q

-- the premises of the operator's law, in a world
pub record Premises (p n : Plan) (w : World) (a : List ℕ) : Type 0 where
  pub held_before_a_signal : was_held p w.old a ≡ true
  pub named_by_both : is_named_by_both p n a ≡ true
  pub first_signal_upgrades : is_upgrade_or_none (signal_of w.old) ≡ true
  pub offer_ends_sent : ends_sent p w.old ≡ true
  pub old_services_sound : is_sound_for p w.old a ≡ true
  pub new_services_sound : is_sound_for n w.new a ≡ true
  pub old_not_down : is_down p w.old ≡ false
  pub new_not_down : is_down n w.new ≡ false
  pub new_unsignalled : has is_signal w.new ≡ false

-- the law, in a world: each address for which the premises hold is reachable
abbrev pub KeepsReachable : Plan → Plan → World → Type 0
KeepsReachable p n w = (a : List ℕ) → Premises p n w a → is_reachable p n w a ≡ true
