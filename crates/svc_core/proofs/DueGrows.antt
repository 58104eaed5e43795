-- What is due at a moment is due at each later one.
use Rattle.std.proofs.Common.{ℕ, Bool, true, false, not, ◌||◌, ◌-◌, ◌/◌, inl, inr, ◌≡◌, refl, sym, ◌∙◌, arith, ◌≤◌, slice_index, Option, Some, None, if◌then◌else◌, nat_le}
use Rattle.std.specs.Prelude.{is_some}
use Rattle.std.proofs.lemmas.Bool.{or_right}
use Rattle.std.proofs.lemmas.Bool.Decides.{nat_tests}
use Rattle.svc_record.specs.declared.plan.Plan.{Plan}
use Rattle.svc_record.specs.declared.event.ShutdownSignal.{ShutdownSignal}
use Rattle.svc_endpoints.proofs.DueStands.{asked-grows}
use Rattle.svc_boot.specs.declared.receiving.Receiving.{Receiving}
use Rattle.svc_boot.specs.declared.receiving.Receiving.TheVariants.{Unasked, Trying, Missed, Came, Refused}
use Rattle.svc_boot.specs.declared.fork.Fork.{Fork}
use Rattle.svc_boot.specs.declared.fork.Fork.TheVariants.{Unforked, Asked, Child, Waiting, Over}
use Rattle.svc_boot.specs.BootState.{is_due_in}
use Rattle.svc_boot.specs.BootEffects.{waited}
use Rattle.svc_boot.specs.ForkState.{is_parent_over}
use Rattle.svc_offer.specs.declared.offering.Offering.{Offering}
use Rattle.svc_offer.specs.declared.offering.Offering.TheVariants as offering
use Rattle.svc_offer.specs.OfferState.{over_since}
use Rattle.svc_offer.specs.OfferDues as offers
use Rattle.svc_drain.specs.declared.stage.Stage.{Stage}
use Rattle.svc_drain.specs.declared.stage.Stage.TheVariants as stages
use Rattle.svc_drain.specs.DrainState.{is_told_far, passes_at, rest_from}
use Rattle.svc_core.specs.CoreData.{CoreData}
use Rattle.svc_core.specs.Dues.{IsDueAt, EndsWaitAt}

later : (limit at m n : ℕ) → m ≤ n → nat_le limit (m - at) ≡ true → nat_le limit (n - at) ≡ true
later limit at m n le h = grind (arith, nat_tests)

later_seconds : (limit at m n : ℕ) → m ≤ n → nat_le limit ((m - at) / 1000) ≡ true → nat_le limit ((n - at) / 1000) ≡ true
later_seconds limit at m n le h = grind (arith, nat_tests)

pub or_none : (b : Bool) → (b || false) ≡ b
or_none b = grind arith

try_grows : (x : Receiving) (m n : ℕ) → m ≤ n → is_due_in x m ≡ true → is_due_in x n ≡ true
try_grows (Missed at) m n le h = later 1000 at m n le h
try_grows Unasked m n le h = absurd (cc)
try_grows Trying m n le h = absurd (cc)
try_grows Came m n le h = absurd (cc)
try_grows (Refused reason) m n le h = absurd (cc)

ask_grows : (x : Offering) (m n : ℕ) → m ≤ n → offers.is_due_at x m ≡ true → offers.is_due_at x n ≡ true
ask_grows offering.Unasked m n le h = refl
ask_grows offering.Connected m n le h = refl
ask_grows (offering.Absent at) m n le h = or_none (nat_le 1000 (n - at)) ∙ later 1000 at m n le (sym (or_none (nat_le 1000 (m - at))) ∙ h)
ask_grows (offering.Delayed at) m n le h = or_none (nat_le 500 (n - at)) ∙ later 500 at m n le (sym (or_none (nat_le 500 (m - at))) ∙ h)
ask_grows (offering.Stalled at) m n le h = later 500 at m n le h
ask_grows offering.Nothing m n le h = absurd (cc)
ask_grows offering.Connecting m n le h = absurd (cc)
ask_grows offering.Sending m n le h = absurd (cc)
ask_grows (offering.Over at) m n le h = absurd (cc)

rest_grows : (over : Option ℕ) (m n : ℕ) → m ≤ n → (not (not (is_some (rest_from over m))) || false) ≡ true
    → (not (not (is_some (rest_from over n))) || false) ≡ true
rest_grows None m n le h = absurd (cc)
rest_grows (Some at) m n le h = by (nat_le 5000 (m - at)) (nat_le 5000 (n - at)) (later 5000 at m n le) h
  where
    by : (a b : Bool) → (a ≡ true → b ≡ true) → (not (not (is_some (if a then Some m else None))) || false) ≡ true
        → (not (not (is_some (if b then Some n else None))) || false) ≡ true
    by true b f h = rw (f refl) refl
    by false b f h = absurd (cc)

end_grows : (p : Plan) (g : Stage) (s : Option ShutdownSignal) (over : Option ℕ) (m n : ℕ) → m ≤ n
    → (not (is_told_far g s over m) || passes_at p g m) ≡ true → (not (is_told_far g s over n) || passes_at p g n) ≡ true
end_grows p stages.Running None over m n le h = absurd (cc)
end_grows p stages.Running (Some kind) over m n le h = refl
end_grows p stages.Offering s over m n le h = h
end_grows p stages.CloseTimeout s over m n le h = rest_grows over m n le h
end_grows p (stages.Grace at) s over m n le h = later_seconds p.grace at m n le h
end_grows p stages.Terminating s over m n le h = refl
end_grows p (stages.CutShort started) s over m n le h = or_right (not started) true refl

wait_grows : (limit : ℕ) (f : Fork) (m n : ℕ) → m ≤ n → is_parent_over (waited limit m f) ≡ true → is_parent_over (waited limit n f) ≡ true
wait_grows limit (Waiting at) m n le h = by (nat_le limit ((m - at) / 1000)) (nat_le limit ((n - at) / 1000)) (later_seconds limit at m n le) h
  where
    by : (a b : Bool) → (a ≡ true → b ≡ true) → is_parent_over (if a then Over 1 else Waiting at) ≡ true
        → is_parent_over (if b then Over 1 else Waiting at) ≡ true
    by true b f h = rw (f refl) refl
    by false b f h = absurd (cc)
wait_grows limit (Over status) m n le h = refl
wait_grows limit Unforked m n le h = absurd (cc)
wait_grows limit Asked m n le h = absurd (cc)
wait_grows limit Child m n le h = absurd (cc)

pub due-grows : (core : CoreData) (m n : ℕ) → m ≤ n → IsDueAt core m → IsDueAt core n
due-grows core m n le due = elim due [
  | inl first ↦ elim first [
    | inl tries ↦ inl (inl (try_grows core.boot.receiving m n le tries))
    | inr asks ↦ inl (inr (ask_grows core.offer.state m n le asks))
  ]
  | inr second ↦ elim second [
    | inl ends ↦ inr (inl (end_grows core.plan core.drain.stage core.drain.signal (over_since core.offer.state) m n le ends))
    | inr asks ↦ inr (inr (record {
      runs = asks.runs;
      asks = record {
        place = asks.asks.place;
        inside = asks.asks.inside;
        there = record {
          started = asks.asks.there.started;
          asks = asked-grows core.plan core.endpoints (slice_index core.order asks.asks.place) m n le asks.asks.there.asks;
        };
      };
    }))
  ]
]

pub wait-grows : (core : CoreData) (m n : ℕ) → m ≤ n → EndsWaitAt core m → EndsWaitAt core n
wait-grows core m n le over = wait_grows core.plan.ready_timeout core.boot.fork m n le over
