-- What stands before a generation's first signal, as that is added to.
use Rattle.std.proofs.Common.{Bool, true, false, ◌||◌, List, [], ◌∷◌, ◌≡◌, refl, ap, sym, ◌∙◌, inl, inr, if◌then◌else◌}
use Rattle.std.proofs.lemmas.Bool.{cases_Bool, or_right}
use Rattle.svc_record.specs.declared.action.Action.{Action}
use Rattle.svc_record.specs.declared.entry.Entry.TheVariants.{Got, Told}
use Rattle.svc_record.specs.declared.event.Event.{Event}
use Rattle.svc_record.specs.declared.event.Event.TheVariants.{Signal}
use Rattle.svc_record.specs.Record.{Record, has, tell, is_signal, before_signal}
use Rattle.svc_handover.specs.Channel.{is_receipt}
use Rattle.svc_handover.specs.Operator.{unsignalled}
use Rattle.svc_core.proofs.RecordLemmas.{has-tell}

-- no signal came: it is the whole
pub unsignalled-whole : (q : Record) → has is_signal q ≡ false → unsignalled q ≡ q
unsignalled-whole q h = ap (λ b. if b then before_signal q else q) h

pub unsignalled-before : (q : Record) → has is_signal q ≡ true → unsignalled q ≡ before_signal q
unsignalled-before q h = ap (λ b. if b then before_signal q else q) h

-- what is told leaves it, once a signal came
before-tell : (q : Record) (told : List Action) → before_signal (tell q told) ≡ before_signal q
before-tell q [] = refl
before-tell q (a ∷ told) = before-tell (Told a ∷ q) told

pub signal-tell : (q : Record) (told : List Action) → has is_signal (tell q told) ≡ has is_signal q
signal-tell q told = has-tell is_signal (λ a. refl) q told

-- one more event, once a signal came
before-got : (q : Record) (e : Event) → has is_signal q ≡ true → before_signal (Got e ∷ q) ≡ before_signal q
before-got q (Signal kind) h = ap (λ b. if b then before_signal q else q) h
before-got q _ h = refl

-- the first signal
before-first : (q : Record) (e : Event) → has is_signal q ≡ false → is_signal (Got e) ≡ true → before_signal (Got e ∷ q) ≡ q
before-first q (Signal kind) h s = ap (λ b. if b then before_signal q else q) h
before-first q _ h s = absurd (cc)

-- so a step at or after the first signal leaves what stands before it
pub unsignalled-step : (q : Record) (e : Event) (told : List Action) → (has is_signal q || is_signal (Got e)) ≡ true
    → unsignalled (tell (Got e ∷ q) told) ≡ unsignalled q
unsignalled-step q e told h =
    let came : has is_signal (tell (Got e ∷ q) told) ≡ true = signal-tell (Got e ∷ q) told ∙ turned (is_signal (Got e)) (has is_signal q) h in
    unsignalled-before (tell (Got e ∷ q) told) came ∙ before-tell (Got e ∷ q) told ∙ elim (cases_Bool (has is_signal q)) [
      | inl was ↦ before-got q e was ∙ sym (unsignalled-before q was)
      | inr none ↦ before-first q e none (by (has is_signal q) (is_signal (Got e)) none h) ∙ sym (unsignalled-whole q none)
    ]
  where
    turned : (x y : Bool) → (y || x) ≡ true → (x || y) ≡ true
    turned true y k = refl
    turned false true k = refl
    turned false false k = k

    by : (x y : Bool) → x ≡ false → (x || y) ≡ true → y ≡ true
    by true y n k = absurd (cc)
    by false y n k = k

-- what was received before the first signal was received
receipt-before : (q : Record) → has is_receipt (before_signal q) ≡ true → has is_receipt q ≡ true
receipt-before [] h = h
receipt-before (Got (Signal kind) ∷ q) h = by (has is_signal q) (receipt-before q) h
  where
    by : (b : Bool) → (has is_receipt (before_signal q) ≡ true → has is_receipt q ≡ true) → has is_receipt (if b then before_signal q else q) ≡ true
        → has is_receipt q ≡ true
    by true f k = f k
    by false f k = k
receipt-before (e ∷ q) h = or_right (is_receipt e) (has is_receipt q) (receipt-before q h)

pub receipt-unsignalled : (q : Record) → has is_receipt (unsignalled q) ≡ true → has is_receipt q ≡ true
receipt-unsignalled q h = by (has is_signal q) h
  where
    by : (b : Bool) → has is_receipt (if b then before_signal q else q) ≡ true → has is_receipt q ≡ true
    by true k = receipt-before q k
    by false k = k
