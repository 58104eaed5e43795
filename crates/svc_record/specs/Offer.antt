-- What is offered to a successor after an upgrade signal, and how the offer goes.
use Rattle.std.specs.Prelude.{ℕ, Bool, true, false, ◌==◌, ◌≡◌, ◌-◌, not, ◌&&◌, ◌||◌, List, [], ◌∷◌, Option, Some, None, nat_lt, nat_le, if◌then◌else◌, bytes_eq}
use Rattle.std.specs.List.{list_any}
use Rattle.svc_record.specs.declared.plan.Plan.{Plan}
use Rattle.svc_record.specs.declared.entry.Entry.{Entry}
use Rattle.svc_record.specs.declared.entry.Entry.TheVariants.{Got, Told}
use Rattle.svc_record.specs.declared.action.Action.TheVariants.{Connect, Send}
use Rattle.svc_record.specs.declared.event.Event.TheVariants.{Connected, NotThere, StillConnecting, ConnectFailed, Sent, SendBusy, SendFailed}
use Rattle.svc_record.specs.declared.event.ShutdownSignal.{ShutdownSignal}
use Rattle.svc_record.specs.declared.event.ShutdownSignal.TheVariants.{GracefulUpgrade}
use Rattle.svc_record.specs.Record.{Record, has, times, now, signal_of, before_signal, has_cut, EachEntry}
use Rattle.svc_fds.specs.declared.encoding.Message.{Message}
use Rattle.svc_fds.specs.Tables.{Entry as TableEntry}
use Rattle.svc_record.specs.Message.{encode}
use Rattle.svc_record.specs.Descriptors.{live_table}
use Rattle.svc_record.specs.Asks.{is_connect_open, is_send_open}

-- the signal asks for an upgrade
abbrev pub is_upgrade : Option ShutdownSignal → Bool
is_upgrade (Some GracefulUpgrade) = true
is_upgrade _ = false

-- what is offered: what was live before the signal
abbrev pub table : Plan → Record → List TableEntry
table p q = live_table p (before_signal q)

-- nothing is in the table
abbrev pub is_empty_table : List TableEntry → Bool
is_empty_table [] = true
is_empty_table (x ∷ more) = false

-- the table can be written
abbrev pub is_written : Option Message → Bool
is_written (Some w) = true
is_written None = false

-- the first signal is an upgrade, and something is offered
abbrev pub has_offer : Plan → Record → Bool
has_offer p q = is_upgrade (signal_of q) && not (is_empty_table (table p q))

-- the descriptor is among what is offered
abbrev pub is_offered : Plan → Record → ℕ → Bool
is_offered p q fd = is_upgrade (signal_of q) && list_any (λ (x : TableEntry). x.1 == fd) (table p q)

-- the event is `Sent` or `ConnectFailed` or `SendFailed`
abbrev pub is_last_answer : Entry → Bool
is_last_answer (Got Sent) = true
is_last_answer (Got ConnectFailed) = true
is_last_answer (Got SendFailed) = true
is_last_answer _ = false

-- the event is `NotThere`
abbrev pub is_not_there : Entry → Bool
is_not_there (Got NotThere) = true
is_not_there _ = false

-- the event is `StillConnecting` or `SendBusy`
abbrev pub is_busy_answer : Entry → Bool
is_busy_answer (Got StillConnecting) = true
is_busy_answer (Got SendBusy) = true
is_busy_answer _ = false

-- it was sent or failed, nobody was there too often, or somebody was busy too often
abbrev pub is_answered : Plan → Record → Bool
is_answered p q = (has is_last_answer q || nat_lt p.limit (times is_not_there q)) || nat_le 20 (times is_busy_answer q)

-- the offer is over: it can't be written, a cut came, or it was answered
abbrev pub is_over : Plan → Record → Bool
is_over p q = is_upgrade (signal_of q) && ((not (is_empty_table (table p q)) && (not (is_written (encode (table p q))) || has_cut q)) || is_answered p q)

-- the descriptor is on offer: it is among what is offered, and the offer isn't over
abbrev pub is_held_back : Plan → Record → ℕ → Bool
is_held_back p q fd = is_offered p q fd && not (is_over p q)

-- the moment of the first entry since which the offer is over
abbrev pub over_moment : Plan → Record → ℕ
over_moment p [] = 0
over_moment p (Told a ∷ before) = over_moment p before
over_moment p (Got e ∷ before) = if is_over p before then over_moment p before else now (Got e ∷ before)

-- there is an offer, and it can be written
abbrev pub is_sendable : Plan → Record → Bool
is_sendable p q = has_offer p q && is_written (encode (table p q))

-- there is such an offer, and it isn't over
abbrev pub goes_on : Plan → Record → Bool
goes_on p q = is_sendable p q && not (is_over p q)

-- the last answer leaves a rest that isn't over at the moment t
abbrev pub answer_rests : ℕ → Record → Bool
answer_rests t [] = false
answer_rests t (Got NotThere ∷ before) = nat_lt (t - now before) 1000
answer_rests t (Got StillConnecting ∷ before) = nat_lt (t - now before) 500
answer_rests t (Got SendBusy ∷ before) = nat_lt (t - now before) 500
answer_rests t (Got Connected ∷ before) = false
answer_rests t (Got ConnectFailed ∷ before) = false
answer_rests t (Got Sent ∷ before) = false
answer_rests t (Got SendFailed ∷ before) = false
answer_rests t (e ∷ before) = answer_rests t before

-- the last answer is one after which the message is sent
abbrev pub sends_next : Record → Bool
sends_next [] = false
sends_next (Got Connected ∷ before) = true
sends_next (Got SendBusy ∷ before) = true
sends_next (Got NotThere ∷ before) = false
sends_next (Got StillConnecting ∷ before) = false
sends_next (Got ConnectFailed ∷ before) = false
sends_next (Got Sent ∷ before) = false
sends_next (Got SendFailed ∷ before) = false
sends_next (e ∷ before) = sends_next before

-- the message is these bytes and descriptors
abbrev pub is_message : List ℕ → List ℕ → Option Message → Bool
is_message bytes fds (Some w) = bytes_eq bytes w.bytes && bytes_eq fds w.fds
is_message bytes fds None = false

-- an ask of the offer comes while it goes on, after an answer to the one before, and is the one that this answer calls for
abbrev pub offer_due : Plan → Entry → Record → Bool
offer_due p (Told Connect) before = (goes_on p before && not (is_connect_open before || is_send_open before)) && not (sends_next before)
offer_due p (Told (Send bytes fds)) before =
    ((goes_on p before && not (is_connect_open before || is_send_open before)) && sends_next before) && is_message bytes fds (encode (table p before))
offer_due p _ before = true

-- while the offer goes on, one of its asks is open, or the last answer rests
abbrev pub offer_right : Plan → Record → Bool
offer_right p q = not (goes_on p q) || ((is_connect_open q || is_send_open q) || answer_rests (now q) q)

-- the same as a fact, with each ask in its turn
pub record OfferRight (p : Plan) (q : Record) : Type 0 where
  pub goes : offer_right p q ≡ true
  pub in_turn : EachEntry (λ e before. offer_due p e before ≡ true) q

-- stronger: a retry comes only when the rest after the last answer is over
abbrev pub retry_due : Entry → Record → Bool
retry_due (Told Connect) before = not (answer_rests (now before) before)
retry_due (Told (Send bytes fds)) before = not (answer_rests (now before) before)
retry_due _ before = true

-- exactly one of the three holds
abbrev pub one_holds : Bool → Bool → Bool → Bool
one_holds true b c = not (b || c)
one_holds false true c = not c
one_holds false false c = c

-- stronger: while the offer goes on, exactly one holds: a connect is open, a send is open, or the last answer rests
abbrev pub one_ask : Plan → Record → Bool
one_ask p q = not (goes_on p q) || one_holds (is_connect_open q) (is_send_open q) (answer_rests (now q) q)
