-- The law of a handover: which addresses are covered, what the new server closes, and how often each side tries.
use Rattle.std.specs.Prelude.{ℕ, Bool, true, false, ◌==◌, ◌≡◌, ◌≤◌, ◌<◌, ◌+◌, not, ◌&&◌, ◌||◌, List, [], ◌∷◌, length, Some, nat_le, if◌then◌else◌}
use Rattle.std.specs.List.{list_all}
use Rattle.svc_fds.specs.Tables.{Entry as TableEntry}
use Rattle.svc_record.specs.declared.entry.Entry.TheVariants.{Told}
use Rattle.svc_record.specs.declared.action.Action.TheVariants.{Close}
use Rattle.svc_record.specs.declared.plan.Plan.{Plan}
use Rattle.svc_record.specs.Record.{Record, has, times, signal_of}
use Rattle.svc_record.specs.Plans.{service_count, services, endpoints, endpoint_numbers, is_unix, same_address}
use Rattle.svc_record.specs.Descriptors.{Descriptor, opened_descriptors, is_close, has_live, address_of, is_doubled}
use Rattle.svc_record.specs.Asks.{is_bind}
use Rattle.svc_record.specs.Offer.{is_upgrade, table, is_over, is_not_there, is_busy_answer}
use Rattle.svc_record.specs.Closes.{is_address_unclaimed}
use Rattle.svc_record.specs.Boot.{is_bad_message}
use Rattle.svc_record.specs.Ends.{is_no_sender}
use Rattle.svc_handover.specs.Channel.{is_in_flight, is_taken, is_sent, is_receipt, sent_message, names_address}
use Rattle.svc_handover.specs.Pair.{World}
use Rattle.svc_handover.specs.GivingUp.{gives_up_rightly}

-- a descriptor of the address is live on one of the two sides, or a message that names it is on its way
abbrev pub is_covered : Plan → Plan → World → List ℕ → Bool
is_covered p n w a = (has_live p w.old (Some a) || has_live n w.new (Some a)) || (is_in_flight w.channel && names_address a (sent_message w.old))

-- the entry closes a descriptor of the address that isn't doubled, after the receipt; the descriptors are those of the whole record q
abbrev pub gives_up : Plan → Record → List ℕ → Record → Bool
gives_up n q a [] = false
gives_up n q a (Told (Close fd) ∷ before) =
    (has is_receipt before && (same_address (address_of n q fd) (Some a) && not (is_doubled n q fd))) || gives_up n q a before
gives_up n q a (e ∷ before) = gives_up n q a before

-- since the receipt the new side has closed a descriptor of the address that isn't doubled
abbrev pub has_given_up : Plan → Record → List ℕ → Bool
has_given_up n q a = gives_up n q a q

-- the old side's record binds the pair: an upgrade came, and its offer isn't over or was sent
abbrev pub is_promised : Plan → Record → Bool
is_promised p q = is_upgrade (signal_of q) && (not (is_over p q) || has is_sent q)

-- an offered address is covered, unless the new side has it and gave it up
abbrev pub address_right : Plan → Plan → World → List ℕ → Bool
address_right p n w a = (is_taken w.channel && has_given_up n w.new a) || is_covered p n w a

-- while the offer isn't over, and once it was sent, each offered address is so: as a test
abbrev pub coverage_right : Plan → Plan → World → Bool
coverage_right p n w = not (is_promised p w.old) || list_all (λ (x : TableEntry). address_right p n w x.0) (table p w.old)

-- a received descriptor that is unclaimed or doubled
abbrev pub is_refused : Plan → Record → Descriptor → Bool
is_refused p q d = d.received && (is_address_unclaimed p d.address || is_doubled p q d.number)

-- each received descriptor that is unclaimed or doubled has exactly one close
abbrev pub receipts_right : Plan → Record → Bool
receipts_right p q = list_all (λ (d : Descriptor). not (is_refused p q d) || times (is_close d.number) q == 1) (opened_descriptors p q)

-- the most binds of an endpoint
abbrev pub bind_limit : Plan → ℕ → ℕ → ℕ
bind_limit p s i = if is_unix p s i then 1 else 30

-- each endpoint is bound at most so often
abbrev pub binds_right : Plan → Record → Bool
binds_right p q = list_all (λ s. list_all (λ i. nat_le (times (is_bind s i) q) (bind_limit p s i)) (endpoint_numbers p s)) (services p)

-- how often a side may try
abbrev pub tries_right : Plan → Record → Bool
tries_right p q =
    ((nat_le (times is_not_there q) (p.limit + 1) && nat_le (times is_busy_answer q) 20) && nat_le (times is_no_sender q) (p.limit + 1)) && binds_right p q

-- what holds of each side's record
pub record SideKept (p : Plan) (q : Record) : Type 0 where
  pub receipts : receipts_right p q ≡ true
  pub not_there : times is_not_there q ≤ p.limit + 1
  pub busy : times is_busy_answer q ≤ 20
  pub no_sender : times is_no_sender q ≤ p.limit + 1
  pub binds : (s i : ℕ) → s < service_count p → i < length (endpoints p s) → times (is_bind s i) q ≤ bind_limit p s i
  pub giving_up : gives_up_rightly p q ≡ true

-- the law, in a world
pub record IsKept (p n : Plan) (w : World) : Type 0 where
  pub covered : coverage_right p n w ≡ true
  pub read : has is_bad_message w.new ≡ false
  pub old_side : SideKept p w.old
  pub new_side : SideKept n w.new

-- the same as a test
abbrev pub is_kept : Plan → Plan → World → Bool
is_kept p n w =
    (coverage_right p n w && not (has is_bad_message w.new))
    && ((receipts_right p w.old && receipts_right n w.new)
    && ((tries_right p w.old && tries_right n w.new) && (gives_up_rightly p w.old && gives_up_rightly n w.new)))
