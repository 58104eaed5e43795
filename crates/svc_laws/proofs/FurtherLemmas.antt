-- After a signal that isn't the first one, and cuts nothing short, the run goes on as before it: the record with it is right as it is.
use Rattle.std.proofs.Common.{Bool, true, false, not, ◌&&◌, ◌||◌, ◌++◌, List, [], ◌∷◌, Option, Some, None, inl, inr, ◌≡◌, ◌∙◌, refl, sym, ap, append_assoc, if◌then◌else◌}
use Rattle.std.specs.Bool.{OnTrue}
use Rattle.std.proofs.lemmas.Bool.{and_parts, or_parts, false≢true}
use Rattle.svc_base.proofs.Logic.{apart_from}
use Rattle.svc_record.specs.declared.plan.Plan.{Plan}
use Rattle.svc_record.specs.declared.action.Action.{Action}
use Rattle.svc_record.specs.declared.entry.Entry.{Entry}
use Rattle.svc_record.specs.declared.entry.Entry.TheVariants.{Got, Told}
use Rattle.svc_record.specs.declared.event.Event.TheVariants.{Signal}
use Rattle.svc_record.specs.declared.event.ShutdownSignal.{ShutdownSignal}
use Rattle.svc_record.specs.Record.{Record, has, tell, now, is_signal, signal_of, first_or, has_cut, from_the_start}
use Rattle.svc_record.specs.Descriptors.{address_of, is_doubled}
use Rattle.svc_record.specs.Asks.{is_connect_open, is_send_open}
use Rattle.svc_record.specs.AskRules.{FailsRight}
use Rattle.svc_record.specs.Closes.{is_received, is_address_unclaimed, is_address_abandoned, is_drained, ClosesRight}
use Rattle.svc_record.specs.Drain.{waits_are_over}
use Rattle.svc_record.specs.Ends.{has_ended, has_ended_early, ends_tested}
use Rattle.svc_record.specs.Fits.{event_fits}
use Rattle.svc_record.specs.Facts.{Settled}
use Rattle.svc_record.specs.Offer.{answer_rests}
use Rattle.svc_record.specs.Right.{Right, OpenRight}
use Rattle.svc_record.specs.Starts.{StartsRight}
use Rattle.svc_record.proofs.SettledPrefixes.{settled_at}
use Rattle.svc_laws.specs.Signals.{is_further}
use Rattle.svc_laws.proofs.PrefixLemmas.{entries-settled}
use Rattle.svc_laws.proofs.ToldLemmas.{tell_front, entries_before}
use Rattle.svc_laws.proofs.WaitLemmas.{SameWaits, passed-same, going-same, held_back-same, due-same}
use Rattle.svc_laws.proofs.CalmLemmas.{IsCalm, open_at}
use Rattle.svc_laws.proofs.SilentLemmas.{silent-alone}

-- the record with the signal
abbrev after : ShutdownSignal → Record → Record
after kind b = Got (Signal kind) ∷ b

first_twice : (s : Option ShutdownSignal) (k kind : ShutdownSignal) → first_or (first_or s k) kind ≡ first_or s k
first_twice (Some earlier) k kind = refl
first_twice None k kind = refl

signal_stays : (q : Record) (kind : ShutdownSignal) → has is_signal q ≡ true → first_or (signal_of q) kind ≡ signal_of q
signal_stays [] kind h = absurd (false≢true h)
signal_stays (Got (Signal k) ∷ q) kind h = first_twice (signal_of q) k kind
signal_stays (Got e ∷ q) kind h = signal_stays q kind h
signal_stays (Told a ∷ q) kind h = signal_stays q kind h

-- the waits and the offer stand as before it
further-waits : (p : Plan) (b : Record) (kind : ShutdownSignal) → is_further kind b ≡ true → SameWaits p b (after kind b)
further-waits p b kind further = let parts = and_parts _ _ further in record {
  signal = signal_stays b kind parts.0;
  cut = ap (λ x. x || has_cut b) (apart_from _ parts.1);
  before = rw parts.0 refl;
  time = refl;
  rest = refl;
  answered = refl;
}

-- what stands before the signal is settled too
settled_before : (r b : Record) (kind : ShutdownSignal) (told : List Action) → Settled (tell (after kind b) told) r → Settled b r
settled_before r b kind told (inl same) = let t = tell_front told (after kind b) in inr (Signal kind, (t.0, sym same ∙ t.1))
settled_before r b kind told (inr s) = let t = tell_front told (after kind b) in
    inr (
      Signal kind,
      (
        s.1.0 ++ (Got s.0 ∷ t.0),
        s.1.1
            ∙ (ap (λ (z : Record). s.1.0 ++ (Got s.0 ∷ z)) t.1 ∙ sym (append_assoc s.1.0 (Got s.0 ∷ t.0) (after kind b))),
      ),
    )

on_true : (b : Bool) (P Q : Type 0) → (P → Q) → OnTrue b P → OnTrue b Q
on_true true P Q f h = f h
on_true false P Q f h = h

served_not : (b : Bool) (P : Type 0) → OnTrue (b && false) P
served_not true P = tt
served_not false P = tt

closes_after : (p : Plan) (b : Record) (kind : ShutdownSignal) → SameWaits p b (after kind b) → ClosesRight p b → ClosesRight p (after kind b)
closes_after p b kind w closes fd opened = closes fd opened
    ∙ ap (λ h. if ((((is_received p b fd && is_address_unclaimed p (address_of p b fd)) || is_doubled p b fd)
    || (is_address_abandoned p b (address_of p b fd) && not h)) || is_drained p b fd) then 1 else 0) (sym (held_back-same p b (after kind b) fd w))

open_after : (p : Plan) (b : Record) (kind : ShutdownSignal) → SameWaits p b (after kind b) → has_cut b ≡ false → OpenRight p b → OpenRight p (after kind b)
open_after p b kind w uncut o = record {
  boot = record { entries = o.boot.entries; first = (refl, o.boot.first); fork = (refl, o.boot.fork); starts = (refl, o.boot.starts) };
  offer = record {
    goes = ap (λ g. not g || ((is_connect_open b || is_send_open b) || answer_rests (now b) b)) (going-same p b (after kind b) w) ∙ o.offer.goes;
    in_turn = (refl, o.offer.in_turn);
  };
  connections = record { each = o.connections.each; rests = o.connections.rests; in_turn = (refl, o.connections.in_turn) };
  closes = closes_after p b kind w o.closes;
  one_live = o.one_live;
  starts = on_true (from_the_start b) (StartsRight p b) (StartsRight p (after kind b))
      (λ s. record { each = s.each; in_turn = (refl, s.in_turn) }) o.starts;
  endpoints = served_not (from_the_start b) _;
  endpoints_late = o.endpoints_late;
  phases = o.phases ∙ sym (due-same p b (after kind b) w uncut refl);
  moments = (refl, o.moments);
  no_end = o.no_end;
}

-- so nothing is due with it
calm-further : (p : Plan) (r b : Record) (kind : ShutdownSignal) (told : List Action) → Right p r → is_further kind b ≡ true
    → Settled (tell (after kind b) told) r → IsCalm p (after kind b)
calm-further p r b kind told right further settled =
    let P : Entry → Record → Type 0 = λ e before. event_fits p e before ≡ true in
    let fit = and_parts (not (has_ended p b)) (from_the_start b)
    (entries_before P told (after kind b) (entries-settled P r (tell (after kind b) told) right.fits settled)).0 in
    let on = apart_from (has_ended p b) fit.0 in
    let parts = or_parts (waits_are_over p b || ends_tested p b) (has_ended_early p b) on in
    let first = or_parts (waits_are_over p b) (ends_tested p b) parts.0 in
    let before = settled_before r b kind told settled in
    let w = further-waits p b kind further in
    record {
      unpassed = passed-same p b (after kind b) w ∙ first.0;
      untested = first.1;
      early = parts.1;
      open_ = open_after p b kind w (or_parts (has_cut b) _ first.0).0 (open_at p r b right before on);
      fails = settled_at (FailsRight p) r b right.asks.fails before;
    }

pub further-silent : (p : Plan) (r b : Record) (kind : ShutdownSignal) (told : List Action) → Right p r → is_further kind b ≡ true
    → Settled (tell (after kind b) told) r → told ≡ []
further-silent p r b kind told right further settled =
    silent-alone p r (after kind b) told right (calm-further p r b kind told right further settled) settled
