-- The records that the part on the offer stands for.
use Rattle.std.specs.Prelude.{ℕ, Bool, true, false, ◌≡◌, ◌-◌, not, ◌&&◌, ◌||◌, List, [], Option, Some, None, nat_lt, nat_le, if◌then◌else◌, is_some}
use Rattle.svc_fds.specs.declared.encoding.Message.{Message}
use Rattle.svc_record.specs.declared.plan.Plan.{Plan}
use Rattle.svc_record.specs.declared.entry.Entry.{Entry}
use Rattle.svc_record.specs.declared.entry.Entry.TheVariants.{Got}
use Rattle.svc_record.specs.declared.event.Event.TheVariants.{Moment}
use Rattle.svc_record.specs.Record.{Record, now, has, times, has_cut, each_entry, EachEntry}
use Rattle.svc_record.specs.Asks.{is_connect, is_connect_answer, is_connect_open, is_send, is_send_answer, is_send_open}
use Rattle.svc_record.specs.Message.{encode}
use Rattle.svc_record.specs.Offer.{table, has_offer, is_over, over_moment, is_not_there, is_busy_answer, answer_rests, sends_next, offer_due, retry_due}
use Rattle.svc_offer.specs.declared.offering.Offering.{Offering}
use Rattle.svc_offer.specs.declared.offering.Offering.TheVariants.{Nothing, Unasked, Connecting, Connected, Sending, Absent, Delayed, Stalled, Over}
use Rattle.svc_offer.specs.OfferData.{OfferData}

-- something is offered, or was
abbrev pub is_offering : Offering → Bool
is_offering Nothing = false
is_offering _ = true

-- a connect is open
abbrev pub is_connecting : Offering → Bool
is_connecting Connecting = true
is_connecting _ = false

-- a send is open
abbrev pub is_sending : Offering → Bool
is_sending Sending = true
is_sending _ = false

-- since when the offer is over, if it is
abbrev pub over_since : Offering → Option ℕ
over_since (Over at) = Some at
over_since _ = None

-- the offer goes on
abbrev pub is_going : Offering → Bool
is_going x = is_offering x && not (is_some (over_since x))

-- the last answer leaves a rest that isn't over at the moment t
abbrev pub rests_in : Offering → ℕ → Bool
rests_in (Absent at) t = nat_lt (t - at) 1000
rests_in (Delayed at) t = nat_lt (t - at) 500
rests_in (Stalled at) t = nat_lt (t - at) 500
rests_in _ t = false

-- the next ask is a send
abbrev pub sends_in : Offering → Bool
sends_in Connected = true
sends_in (Stalled at) = true
sends_in _ = false

-- no ask is open, so the state says what the last answer leaves
abbrev pub tells_next : Offering → Bool
tells_next x = is_going x && not (is_connecting x || is_sending x)

-- a connect is due at the moment t
abbrev pub is_connect_due : Offering → ℕ → Bool
is_connect_due Unasked t = true
is_connect_due (Absent at) t = nat_le 1000 (t - at)
is_connect_due (Delayed at) t = nat_le 500 (t - at)
is_connect_due _ t = false

-- a send is due then
abbrev pub is_send_due : Offering → ℕ → Bool
is_send_due Connected t = true
is_send_due (Stalled at) t = nat_le 500 (t - at)
is_send_due _ t = false

-- the message couldn't be taken 500 ms or more before the moment t
abbrev pub is_stall_over : Offering → ℕ → Bool
is_stall_over (Stalled at) t = nat_le 500 (t - at)
is_stall_over _ t = false

-- one of its asks is open
abbrev pub is_asking : Offering → Bool
is_asking x = is_connecting x || is_sending x

-- the entry is no moment before the last one
abbrev pub is_forward : Entry → Record → Bool
is_forward (Got (Moment ms)) before = nat_le (now before) ms
is_forward _ before = true

-- no moment is before the one that came last
abbrev pub goes_forward : Record → Bool
goes_forward q = each_entry is_forward q

-- all is asked that is due at the moment t
pub record IsOfferSettled (d : OfferData) (t : ℕ) : Type 0 where
  pub no_connect : is_connect_due d.state t ≡ false
  pub no_send : is_send_due d.state t ≡ false

-- the numbers of a message
abbrev pub message_numbers : Option Message → List ℕ
message_numbers (Some w) = w.fds
message_numbers None = []

-- the numbers of the descriptors that are on offer
abbrev pub numbers_on_offer : OfferData → List ℕ
numbers_on_offer d = if is_going d.state then message_numbers d.message else []

-- the entry answers a connect or a send
abbrev pub is_offer_answer : Entry → Bool
is_offer_answer e = is_connect_answer e || is_send_answer e

-- the entry asks for a connect or a send
abbrev pub is_offer_ask : Entry → Bool
is_offer_ask e = is_connect e || is_send e

-- the part says what the record says, and each ask was due as it was told; where nothing is offered, nothing was asked or answered. An ask that is
-- open at a cut stays unanswered, and the part knows nothing more of it.
pub record OfferStands (p : Plan) (d : OfferData) (q : Record) : Type 0 where
  pub offers_is : has_offer p q ≡ is_offering d.state
  pub over_is : is_over p q ≡ is_some (over_since d.state)
  pub since_is : (at : ℕ) → over_since d.state ≡ Some at → over_moment p q ≡ at
  pub connecting_is : has_cut q ≡ false → is_connect_open q ≡ is_connecting d.state
  pub sending_is : has_cut q ≡ false → is_send_open q ≡ is_sending d.state
  pub rests_is : tells_next d.state ≡ true → (t : ℕ) → answer_rests t q ≡ rests_in d.state t
  pub rested : is_asking d.state ≡ true → goes_forward q ≡ true → (t : ℕ) → nat_le (now q) t ≡ true → answer_rests t q ≡ false
  pub next_is : tells_next d.state ≡ true → sends_next q ≡ sends_in d.state
  pub message_is : is_going d.state ≡ true → d.message ≡ encode (table p q)
  pub written : is_going d.state ≡ true → (d.message ≡ None → ⊥)
  pub absences_are : d.retries.absences ≡ p.limit - times is_not_there q
  pub absences_few : is_going d.state ≡ true → nat_lt p.limit (times is_not_there q) ≡ false
  pub delays_are : d.retries.delays ≡ 19 - times is_busy_answer q
  pub delays_few : is_going d.state ≡ true → nat_lt (times is_busy_answer q) 20 ≡ true
  pub unasked : is_offering d.state ≡ false → (has is_offer_ask q ≡ false) × (has is_offer_answer q ≡ false)
  pub asks_due : EachEntry (λ e before. offer_due p e before ≡ true) q
  pub retries_due : EachEntry (λ e before. retry_due e before ≡ true) q
