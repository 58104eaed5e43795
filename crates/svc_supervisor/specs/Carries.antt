-- Which generation carries an address, and when the chain is good for it.
use Rattle.std.specs.Prelude.{ℕ, Bool, true, false, not, ◌&&◌, ◌||◌, ◌≡◌, List, [], ◌∷◌, Option, Some, None}
use Rattle.std.specs.List.{list_all}
use Rattle.svc_fds.specs.Tables.{addresses}
use Rattle.svc_record.specs.Record.{has, is_signal, signal_of}
use Rattle.svc_record.specs.Plans.{is_among}
use Rattle.svc_record.specs.Descriptors.{has_live}
use Rattle.svc_record.specs.Offer.{is_upgrade, is_over, table}
use Rattle.svc_handover.specs.Channel.{is_in_flight, sent_message, names_address}
use Rattle.svc_handover.specs.Operator.{is_down, is_named, is_sound_for, is_upgrade_or_none, ends_sent, was_held}
use Rattle.svc_supervisor.specs.ChainData.{GenerationData}
use Rattle.svc_supervisor.specs.Chains.{channel_to}

-- the address is on offer: an upgrade came, its offer isn't over, and the offered table has the address
abbrev pub is_on_offer : GenerationData → List ℕ → Bool
is_on_offer g a = is_upgrade (signal_of g.history) && (not (is_over g.plan g.history) && is_among a (addresses (table g.plan g.history)))

-- a message that names the address is on its way from the generation to the next
abbrev pub is_on_its_way : GenerationData → Option GenerationData → List ℕ → Bool
is_on_its_way g next a = is_in_flight (channel_to g next) && names_address a (sent_message g.history)

-- the generation carries the address: it has a live descriptor of it, and no signal came or the address is on offer; or the message is on its way
abbrev pub carries : GenerationData → Option GenerationData → List ℕ → Bool
carries g next a = (has_live g.plan g.history (Some a) && (not (has is_signal g.history) || is_on_offer g a)) || is_on_its_way g next a

-- the address is covered by it: it has a live descriptor of it, or the message is on its way
abbrev pub covers : GenerationData → Option GenerationData → List ℕ → Bool
covers g next a = has_live g.plan g.history (Some a) || is_on_its_way g next a

-- some generation passes the test, with the one after it
abbrev pub any_with_next : (GenerationData → Option GenerationData → Bool) → List GenerationData → Bool
any_with_next test [] = false
any_with_next test (g ∷ []) = test g None
any_with_next test (g ∷ h ∷ more) = test g (Some h) || any_with_next test (h ∷ more)

-- some generation carries the address
abbrev pub is_carried : List GenerationData → List ℕ → Bool
is_carried gs a = any_with_next (λ g next. carries g next a) gs

-- the address is covered: a descriptor of it is live in some generation, or a message that names it is on its way
abbrev pub is_covered : List GenerationData → List ℕ → Bool
is_covered gs a = any_with_next (λ g next. covers g next a) gs

-- the generation is good for the address: a service names it, none that names it has failed, the first signal is an upgrade, the offer, once over,
-- was sent, and if it has ended, then as served
abbrev pub is_good : GenerationData → List ℕ → Bool
is_good g a =
    (is_named g.plan a && is_sound_for g.plan g.history a)
    && (is_upgrade_or_none (signal_of g.history) && (ends_sent g.plan g.history && not (is_down g.plan g.history)))

-- the chain is good for the address: each generation is
abbrev pub is_good_chain : List GenerationData → List ℕ → Bool
is_good_chain gs a = list_all (λ g. is_good g a) gs

-- since some moment before any signal to the first generation it has had a live descriptor of the address
abbrev pub was_held_first : List GenerationData → List ℕ → Bool
was_held_first [] a = false
was_held_first (g ∷ more) a = was_held g.plan g.history a

-- what a chain promises of an address
pub record IsCarried (gs : List GenerationData) (a : List ℕ) : Type 0 where
  pub carried : is_carried gs a ≡ true
  pub covered : is_covered gs a ≡ true

-- the law of a chain: once the first generation has held an address before any signal, and while the chain is good for it, some generation carries
-- it, so it is covered
abbrev pub KeepsCarried : List GenerationData → Type 0
KeepsCarried gs = (a : List ℕ) → was_held_first gs a ≡ true → is_good_chain gs a ≡ true → IsCarried gs a
