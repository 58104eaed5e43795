-- Calls of an application, one after another.
use Rattle.std.proofs.Common.{◌≡◌, ℕ, ◌+◌, ◌≤◌, ◌<◌, Bool, List, [], ◌∷◌, ◌++◌, length, map, Option, Some, None, MatchOption, refl, sym, subst, append_assoc, length-append, arith}
use Rattle.std.proofs.lemmas.List.{map-append}
use Rattle.svc_streams.specs.Events.{Processing, AppCall, Processed, AreCalled, IsCalled, HandsOn, Handling}

-- what holds after some calls that all gave a stream back: this one is left
pub record Turns {A : Type 0} {S : Type 0} (may : A → List (AppCall S) → Type 0) (old now : A) (event : S) (shutdown : Bool) (left : S)
    (calls : List (Processing S)) : Type 0 where
  pub hands_on : HandsOn event shutdown calls (Some left)
  pub come : 1 ≤ length calls → may old (map Processed calls)
  pub go_on : (later : List (AppCall S)) → may now later → may old (map Processed calls ++ later)

-- the call with what was left
abbrev pub next_call : {S : Type 0} → S → Bool → Option S → Processing S
next_call left shutdown back = record { event = left; shutdown = shutdown; back = back }

pub first_call : {S : Type 0} (event left : S) (shutdown : Bool) (back : Option S) → left ≡ event
    → HandsOn event shutdown (next_call left shutdown back ∷ []) back
first_call event left shutdown None e = (e, refl, (refl, refl))
first_call event left shutdown (Some back) e = (e, refl, refl)

-- one call more
pub hands_on-more : {S : Type 0} (calls : List (Processing S)) (event left : S) (shutdown : Bool) (back : Option S)
    → HandsOn event shutdown calls (Some left) → HandsOn event shutdown (calls ++ next_call left shutdown back ∷ []) back
hands_on-more [] event left shutdown back h = first_call event left shutdown back (cc)
hands_on-more {S} (call ∷ calls) event left shutdown back h =
    let more = next_call left shutdown back in
    let now : Option S → Type 0 = λ b. MatchOption b ((calls ≡ []) × (Some left ≡ None)) (λ e. HandsOn e shutdown calls (Some left)) in
    let next : Option S → Type 0 = λ b. MatchOption b ((calls ++ more ∷ [] ≡ []) × (back ≡ None)) (λ e. HandsOn e shutdown (calls ++ more ∷ []) back) in
    (h.0, h.1, (elim call.back as (λ b. now b → next b) [ None ↦ λ p. absurd (cc) | Some e ↦ λ p. hands_on-more calls e left shutdown back p ]) h.2)

pub processed-more : {A : Type 0} {S : Type 0} (may : A → List (AppCall S) → Type 0) (old now new : A) (event left : S) (shutdown : Bool) (back : Option S)
    (calls : List (Processing S))
    → Turns may old now event shutdown left calls → IsCalled may now new (Processed (next_call left shutdown back))
    → AreCalled may old new (map Processed (calls ++ next_call left shutdown back ∷ []))
processed-more may old now new event left shutdown back calls t p =
    let call = next_call left shutdown back in
    let split : map Processed (calls ++ call ∷ []) ≡ map Processed calls ++ Processed call ∷ [] = map-append Processed calls (call ∷ []) in
    record {
      come = rw split (t.go_on (Processed call ∷ []) p.come);
      go_on = λ later h. rw split
          (subst (may old) (sym (append_assoc (map Processed calls) (Processed call ∷ []) later)) (t.go_on (Processed call ∷ later) (p.go_on later h)));
    }

-- the call gave a stream back
pub turns-more : {A : Type 0} {S : Type 0} (may : A → List (AppCall S) → Type 0) (old now new : A) (event left back : S) (shutdown : Bool)
    (calls : List (Processing S))
    → Turns may old now event shutdown left calls → IsCalled may now new (Processed (next_call left shutdown (Some back)))
    → Turns may old new event shutdown back (calls ++ next_call left shutdown (Some back) ∷ [])
turns-more may old now new event left back shutdown calls t p =
    let q = processed-more may old now new event left shutdown (Some back) calls t p in
    record { hands_on = hands_on-more calls event left shutdown (Some back) t.hands_on; come = λ _. q.come; go_on = q.go_on }

-- the call gave nothing back
pub turns-end : {A : Type 0} {S : Type 0} (may : A → List (AppCall S) → Type 0) (old now new : A) (event left : S) (shutdown : Bool)
    (calls : List (Processing S)) (turns : ℕ)
    → Turns may old now event shutdown left calls → IsCalled may now new (Processed (next_call left shutdown None)) → length calls < turns
    → Handling may old new event shutdown turns None (calls ++ next_call left shutdown None ∷ [])
turns-end may old now new event left shutdown calls turns t p lt =
    let q = processed-more may old now new event left shutdown None calls t p in
    let many : length (calls ++ next_call left shutdown None ∷ []) ≡ length calls + 1 = length-append calls (next_call left shutdown None ∷ []) in
    record {
      hands_on = hands_on-more calls event left shutdown None t.hands_on;
      called = omega (arith, many);
      within = omega (arith, many);
      spent = λ none. absurd (cc);
      processed = q;
    }

-- all turns are spent
pub turns-spent : {A : Type 0} {S : Type 0} (may : A → List (AppCall S) → Type 0) (old now : A) (event left : S) (shutdown : Bool) (calls : List (Processing S))
    (turns : ℕ)
    → Turns may old now event shutdown left calls → length calls ≡ turns → 1 ≤ turns
    → Handling may old now event shutdown turns (Some left) calls
turns-spent may old now event left shutdown calls turns t e one =
    let many : 1 ≤ length calls = omega arith in
    record {
      hands_on = t.hands_on;
      called = many;
      within = omega arith;
      spent = λ _. e;
      processed = record { come = t.come many; go_on = t.go_on };
    }
