-- What a close that gives an address up is.
use Rattle.std.specs.Prelude.{ℕ, Bool, true, not, ◌&&◌, ◌||◌, if◌then◌else◌}
use Rattle.svc_record.specs.declared.plan.Plan.{Plan}
use Rattle.svc_record.specs.declared.entry.Entry.{Entry}
use Rattle.svc_record.specs.declared.entry.Entry.TheVariants.{Told}
use Rattle.svc_record.specs.declared.action.Action.TheVariants.{Close}
use Rattle.svc_record.specs.Record.{Record, before_runtimes, each_entry, each_earlier}
use Rattle.svc_record.specs.Descriptors.{address_of, is_doubled}
use Rattle.svc_record.specs.Closes.{is_received, is_address_unclaimed, is_address_abandoned, is_drained}
use Rattle.svc_record.specs.Offer.{is_held_back}
use Rattle.svc_record.specs.Drain.{waits_are_over}

-- what stands before `ShutdownRuntimes`, where the run went through its shutdown; else the whole
abbrev pub before_end : Plan → Record → Record
before_end p q = if waits_are_over p q then before_runtimes q else q

-- it was received, and no service claims its address
abbrev pub is_received_unclaimed : Plan → Record → ℕ → Bool
is_received_unclaimed p q fd = is_received p q fd && is_address_unclaimed p (address_of p q fd)

-- all services that name its address have failed, and it isn't on offer
abbrev pub is_abandoned_off_offer : Plan → Record → ℕ → Bool
is_abandoned_off_offer p q fd = is_address_abandoned p q (address_of p q fd) && not (is_held_back p q fd)

-- why a descriptor that isn't doubled is given up: it is unclaimed, or abandoned, or drained
abbrev pub has_cause : Plan → Record → ℕ → Bool
has_cause p q fd = (is_received_unclaimed p q fd || is_abandoned_off_offer p q fd) || is_drained p q fd

-- a close is of a descriptor that is doubled or has such a cause, as q says
abbrev pub is_caused : Plan → Record → Entry → Bool
is_caused p q (Told (Close fd)) = is_doubled p q fd || has_cause p q fd
is_caused p q _ = true

-- each close that q tells is so
abbrev pub are_caused : Plan → Record → Bool
are_caused p q = each_entry (λ e before. is_caused p q e) q

-- each close before the end has its cause at the end of the step that tells it, and from then on
abbrev pub gives_up_rightly : Plan → Record → Bool
gives_up_rightly p q = each_earlier (are_caused p) q && are_caused p (before_end p q)
