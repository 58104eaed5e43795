-- What the state of the offer says of a settled record, and of the descriptors that are on offer.
use Rattle.std.proofs.Common.{ℕ, Bool, true, false, not, ◌||◌, ◌&&◌, ◌==◌, ◌-◌, List, [], ◌∷◌, ◌≡◌, refl, ap, sym, ◌∙◌, Some, None, arith, if◌then◌else◌, is_some}
use Rattle.std.specs.Prelude.{nat_le, nat_lt}
use Rattle.std.specs.List.{list_any}
use Rattle.std.proofs.lemmas.Bool.{and_parts, and_from}
use Rattle.std.proofs.lemmas.Bool.Decides.{nat_tests}
use Rattle.svc_fds.specs.declared.retry.SendAnswer.{SendAnswer}
use Rattle.svc_fds.specs.declared.retry.SendAnswer.TheVariants as answers
use Rattle.svc_fds.specs.Tables.{Entry as TableEntry, numbers}
use Rattle.svc_fds.specs.Messages.{written}
use Rattle.svc_record.specs.declared.plan.Plan.{Plan}
use Rattle.svc_record.specs.declared.entry.Entry.{Entry}
use Rattle.svc_record.specs.declared.entry.Entry.TheVariants.{Got}
use Rattle.svc_record.specs.declared.event.Event.{Event}
use Rattle.svc_record.specs.declared.event.Event.TheVariants.{Moment, Connected, NotThere, StillConnecting, ConnectFailed, Sent, SendBusy, SendFailed, Signal}
use Rattle.svc_record.specs.Record.{Record, now, signal_of, EachEntry}
use Rattle.svc_record.specs.Asks.{is_connect_open, is_send_open}
use Rattle.svc_record.specs.Ends.{has_ended}
use Rattle.svc_record.specs.Fits.{event_fits}
use Rattle.svc_record.specs.Message.{is_encodable}
use Rattle.svc_record.specs.Offer.{OfferRight, table, is_empty_table, is_upgrade, is_offered, is_over, is_held_back, answer_rests, one_ask, one_holds}
use Rattle.svc_offer.specs.declared.offering.Offering.{Offering}
use Rattle.svc_offer.specs.declared.offering.Offering.TheVariants.{Nothing, Unasked, Connecting, Connected, Sending, Absent, Delayed, Stalled, Over}
use Rattle.svc_offer.specs.OfferData.{OfferData}
use Rattle.svc_offer.specs.OfferState.{OfferStands, IsOfferSettled, is_offering, is_connecting, is_sending, is_asking, is_going, over_since, rests_in, tells_next, is_connect_due, is_send_due, message_numbers, numbers_on_offer, goes_forward, is_forward}
use Rattle.svc_offer.specs.OfferEffects.{event_of}
use Rattle.svc_offer.specs.OfferFacts.{is_offer_event}
use Rattle.svc_offer.proofs.Cuts.{uncut}
use Rattle.svc_offer.proofs.AskLemmas.{goes_on-is}

-- a rest that isn't over
rests_on : (limit n : ℕ) → nat_le limit n ≡ false → nat_lt n limit ≡ true
rests_on limit n h = grind (arith, nat_tests)

rests-all : (t : ℕ) → nat_le t t ≡ true
rests-all t = grind (arith, nat_tests)

or-right : (a b : Bool) → b ≡ true → (a || b) ≡ true
or-right a b h = grind arith

holds-first : (a b c : Bool) → a ≡ true → b ≡ false → c ≡ false → one_holds a b c ≡ true
holds-first true false false x y z = refl
holds-first true true c x y z = cc
holds-first true false true x y z = cc
holds-first false b c x y z = cc

holds-second : (a b c : Bool) → a ≡ false → b ≡ true → c ≡ false → one_holds a b c ≡ true
holds-second false true false x y z = refl
holds-second true b c x y z = cc
holds-second false false c x y z = cc
holds-second false true true x y z = cc

holds-third : (a b c : Bool) → a ≡ false → b ≡ false → c ≡ true → one_holds a b c ≡ true
holds-third false false c x y z = z
holds-third true b c x y z = cc
holds-third false true c x y z = cc

-- exactly one holds of what the state says
one-of : (x : Offering) (t : ℕ) (connects sends rest : Bool) → is_connect_due x t ≡ false → is_send_due x t ≡ false
    → (is_going x ≡ true → connects ≡ is_connecting x) → (is_going x ≡ true → sends ≡ is_sending x)
    → (tells_next x ≡ true → rest ≡ rests_in x t) → (is_asking x ≡ true → rest ≡ false) → (not (is_going x) || one_holds connects sends rest) ≡ true
one-of Nothing t connects sends rest c n a b r o = refl
one-of Unasked t connects sends rest c n a b r o = cc
one-of Connecting t connects sends rest c n a b r o = holds-first connects sends rest (a refl) (b refl) (o refl)
one-of Connected t connects sends rest c n a b r o = cc
one-of Sending t connects sends rest c n a b r o = holds-second connects sends rest (a refl) (b refl) (o refl)
one-of (Absent at) t connects sends rest c n a b r o = holds-third connects sends rest (a refl) (b refl) (r refl ∙ rests_on 1000 (t - at) c)
one-of (Delayed at) t connects sends rest c n a b r o = holds-third connects sends rest (a refl) (b refl) (r refl ∙ rests_on 500 (t - at) c)
one-of (Stalled at) t connects sends rest c n a b r o = holds-third connects sends rest (a refl) (b refl) (r refl ∙ rests_on 500 (t - at) n)
one-of (Over at) t connects sends rest c n a b r o = refl

-- at least one does
some-of : (x : Offering) (t : ℕ) (connects sends rest : Bool) → is_connect_due x t ≡ false → is_send_due x t ≡ false
    → (is_going x ≡ true → connects ≡ is_connecting x) → (is_going x ≡ true → sends ≡ is_sending x)
    → (tells_next x ≡ true → rest ≡ rests_in x t) → (not (is_going x) || ((connects || sends) || rest)) ≡ true
some-of Nothing t connects sends rest c n a b r = refl
some-of Unasked t connects sends rest c n a b r = cc
some-of Connecting t connects sends rest c n a b r = ap (λ k. (k || sends) || rest) (a refl)
some-of Connected t connects sends rest c n a b r = cc
some-of Sending t connects sends rest c n a b r = second connects sends rest (b refl)
  where
    second : (a b c : Bool) → b ≡ true → ((a || b) || c) ≡ true
    second a b c h = grind arith
some-of (Absent at) t connects sends rest c n a b r = or-right (connects || sends) rest (r refl ∙ rests_on 1000 (t - at) c)
some-of (Delayed at) t connects sends rest c n a b r = or-right (connects || sends) rest (r refl ∙ rests_on 500 (t - at) c)
some-of (Stalled at) t connects sends rest c n a b r = or-right (connects || sends) rest (r refl ∙ rests_on 500 (t - at) n)
some-of (Over at) t connects sends rest c n a b r = refl

-- the offer is right where all is asked that is due
pub offer-right : (p : Plan) (d : OfferData) (q : Record) → OfferStands p d q → IsOfferSettled d (now q) → OfferRight p q
offer-right p d q s settled = record {
  goes = ap (λ b. not b || ((is_connect_open q || is_send_open q) || answer_rests (now q) q)) (goes_on-is p d q s)
      ∙ some-of d.state (now q) (is_connect_open q) (is_send_open q) (answer_rests (now q) q) settled.no_connect settled.no_send
      (λ going. s.connecting_is (uncut p d q s going)) (λ going. s.sending_is (uncut p d q s going))
      (λ h. s.rests_is h (now q));
  in_turn = s.asks_due;
}

-- and where no moment went back, exactly one of the three holds
pub one-ask : (p : Plan) (d : OfferData) (q : Record) → OfferStands p d q → IsOfferSettled d (now q) → goes_forward q ≡ true → one_ask p q ≡ true
one-ask p d q s settled forward =
    ap (λ b. not b || one_holds (is_connect_open q) (is_send_open q) (answer_rests (now q) q)) (goes_on-is p d q s)
    ∙ one-of d.state (now q) (is_connect_open q) (is_send_open q) (answer_rests (now q) q) settled.no_connect settled.no_send
    (λ going. s.connecting_is (uncut p d q s going)) (λ going. s.sending_is (uncut p d q s going))
    (λ h. s.rests_is h (now q))
    (λ h. s.rested h forward (now q) (rests-all (now q)))

fits-forward : (p : Plan) (e : Entry) (q : Record) → event_fits p e q ≡ true → is_forward e q ≡ true
fits-forward p (Got (Moment ms)) q h = (and_parts (not (has_ended p q)) (nat_le (now q) ms) h).1
fits-forward p _ q h = refl

-- where each event fits, no moment goes back
pub forward-fits : (p : Plan) (q : Record) → EachEntry (λ e before. event_fits p e before ≡ true) q → goes_forward q ≡ true
forward-fits p [] fit = refl
forward-fits p (e ∷ q) fit = and_from (is_forward e q) (goes_forward q) (fits-forward p e q fit.0) (forward-fits p q fit.1)

-- the numbers of a table's message are the table's
any-numbers : (fd : ℕ) (t : List TableEntry) → list_any (λ n. n == fd) (numbers t) ≡ list_any (λ (x : TableEntry). x.1 == fd) t
any-numbers fd [] = refl
any-numbers fd (x ∷ t) = ap (λ b. (x.1 == fd) || b) (any-numbers fd t)

numbers-by : (can : Bool) (fd : ℕ) (t : List TableEntry) → ((if can then Some (written t) else None) ≡ None → ⊥)
    → list_any (λ n. n == fd) (message_numbers (if can then Some (written t) else None)) ≡ list_any (λ (x : TableEntry). x.1 == fd) t
numbers-by true fd t h = any-numbers fd t
numbers-by false fd t h = absurd (h refl)

none-in : (t : List TableEntry) (fd : ℕ) → is_empty_table t ≡ true → list_any (λ (x : TableEntry). x.1 == fd) t ≡ false
none-in [] fd h = refl
none-in (x ∷ t) fd h = cc

held-none : (up empty among over : Bool) → (empty ≡ true → among ≡ false) → (up && not empty) ≡ false → ((up && among) && not over) ≡ false
held-none false empty among over none offers = refl
held-none true true among over none offers = let e = none refl in grind arith
held-none true false among over none offers = cc

held-over : (up among over : Bool) → over ≡ true → ((up && among) && not over) ≡ false
held-over up among over h = grind arith

held-on : (up more among over : Bool) → (up && more) ≡ true → over ≡ false → among ≡ ((up && among) && not over)
held-on up more among over h k = grind arith

-- once the offer is over nothing is on offer
pub released : (p : Plan) (d : OfferData) (q : Record) → OfferStands p d q → is_some (over_since d.state) ≡ true → (fd : ℕ) → is_held_back p q fd ≡ false
released p d q s over fd = held-over (is_upgrade (signal_of q)) (list_any (λ (x : TableEntry). x.1 == fd) (table p q)) (is_over p q) (s.over_is ∙ over)

-- nor where nothing was offered
unoffered : (p : Plan) (d : OfferData) (q : Record) → OfferStands p d q → is_offering d.state ≡ false → (fd : ℕ) → is_held_back p q fd ≡ false
unoffered p d q s none fd =
    held-none (is_upgrade (signal_of q)) (is_empty_table (table p q)) (list_any (λ (x : TableEntry). x.1 == fd) (table p q)) (is_over p q)
    (none-in (table p q) fd) (s.offers_is ∙ none)

offered-by : (p : Plan) (d : OfferData) (q : Record) → OfferStands p d q → (x : Offering) → x ≡ d.state → (fd : ℕ)
    → list_any (λ n. n == fd) (if is_going x then message_numbers d.message else []) ≡ is_held_back p q fd
offered-by p d q s Nothing is fd = sym (unoffered p d q s (ap is_offering (sym is)) fd)
offered-by p d q s (Over at) is fd = sym (released p d q s (ap (λ x. is_some (over_since x)) (sym is)) fd)
offered-by p d q s x is fd = let going : is_going d.state ≡ true = ap is_going (sym is) in
    ap (λ m. list_any (λ n. n == fd) (message_numbers m)) (s.message_is going)
    ∙ numbers-by (is_encodable (table p q)) fd (table p q) (λ e. s.written going (s.message_is going ∙ e))
    ∙ held-on (is_upgrade (signal_of q)) (not (is_empty_table (table p q))) (list_any (λ (x : TableEntry). x.1 == fd) (table p q)) (is_over p q)
    (s.offers_is ∙ ap is_offering (sym is)) (s.over_is ∙ ap (λ x. is_some (over_since x)) (sym is))

-- the numbers on offer are those that the record says are
pub on-offer : (p : Plan) (d : OfferData) (q : Record) → OfferStands p d q → (fd : ℕ) → list_any (λ n. n == fd) (numbers_on_offer d) ≡ is_held_back p q fd
on-offer p d q s fd = offered-by p d q s d.state refl fd

-- what is no answer and no signal leaves on offer what was
pub held-back-got : (p : Plan) (q : Record) (e : Event) (fd : ℕ) → is_offer_event e ≡ false → is_held_back p (Got e ∷ q) fd ≡ is_held_back p q fd
held-back-got p q Connected fd other = cc
held-back-got p q NotThere fd other = cc
held-back-got p q StillConnecting fd other = cc
held-back-got p q ConnectFailed fd other = cc
held-back-got p q Sent fd other = cc
held-back-got p q SendBusy fd other = cc
held-back-got p q SendFailed fd other = cc
held-back-got p q (Signal kind) fd other = cc
held-back-got p q _ fd other = refl

offered-answer : (p : Plan) (q : Record) (answer : SendAnswer) (fd : ℕ) → is_offered p (Got (event_of answer) ∷ q) fd ≡ is_offered p q fd
offered-answer p q answers.Connected fd = refl
offered-answer p q answers.NotThere fd = refl
offered-answer p q answers.StillConnecting fd = refl
offered-answer p q answers.ConnectFailed fd = refl
offered-answer p q answers.Sent fd = refl
offered-answer p q answers.SendBusy fd = refl
offered-answer p q answers.SendFailed fd = refl

-- and an answer after which the offer is as far as before
pub held-back-answer : (p : Plan) (d d2 : OfferData) (q : Record) (answer : SendAnswer) (fd : ℕ) → OfferStands p d q
    → OfferStands p d2 (Got (event_of answer) ∷ q)
    → is_some (over_since d.state) ≡ is_some (over_since d2.state) → is_held_back p (Got (event_of answer) ∷ q) fd ≡ is_held_back p q fd
held-back-answer p d d2 q answer fd s s2 same =
    ap (λ b. b && not (is_over p (Got (event_of answer) ∷ q))) (offered-answer p q answer fd)
    ∙ ap (λ b. is_offered p q fd && not b) (s2.over_is ∙ sym same ∙ sym s.over_is)
