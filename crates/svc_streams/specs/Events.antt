-- What an application does with one stream, and when it is cleaned up.
use Rattle.std.specs.Prelude.{◌≡◌, ◌≤◌, ℕ, Bool, List, [], ◌∷◌, ◌++◌, length, map, Option, Some, None, IsSome, MatchOption}
use Rattle.svc_streams.specs.declared.apps.Handled.{Handled}
use Rattle.svc_streams.specs.declared.apps.Handled.TheVariants.{Done, TurnsSpent}

-- a call: the stream that it was given, whether the server shuts down, and the stream that it gave back
pub record Processing (S : Type 0) : Type 0 where
  pub event : S
  pub shutdown : Bool
  pub back : Option S

-- a call of an application: with a stream, or to clean up
pub data AppCall (S : Type 0) : Type 0 where
  Processed : Processing S → AppCall S
  CleanedUp : AppCall S

-- the application was called so, one call after another, by its meaning: these calls may come at first, and what may come after them, may come of the
-- application that they leave
pub record AreCalled {A : Type 0} {S : Type 0} (may : A → List (AppCall S) → Type 0) (old new : A) (calls : List (AppCall S)) : Type 0 where
  pub come : may old calls
  pub go_on : (later : List (AppCall S)) → may new later → may old (calls ++ later)

-- it was called once
abbrev pub IsCalled : {A : Type 0} → {S : Type 0} → (A → List (AppCall S) → Type 0) → A → A → AppCall S → Type 0
IsCalled may old new call = AreCalled may old new (call ∷ [])

-- the calls hand one stream on: each is given what the one before it gave back, none comes after one that kept it, and this is left in the end
abbrev pub HandsOn : {S : Type 0} → S → Bool → List (Processing S) → Option S → Type 0
HandsOn event shutdown [] left = left ≡ Some event
HandsOn event shutdown (call ∷ calls) left =
    (call.event ≡ event) × (call.shutdown ≡ shutdown)
    × MatchOption call.back ((calls ≡ []) × (left ≡ None)) (λ back. HandsOn back shutdown calls left)

-- the stream that is left when the turns are spent
abbrev pub left_over : {S : Type 0} → Handled S → Option S
left_over Done = None
left_over (TurnsSpent s) = Some s

-- the application was called with these calls, at least once and at most so many times; a stream is left only where it was called so many times
pub record Handling {A : Type 0} {S : Type 0} (may : A → List (AppCall S) → Type 0) (old new : A) (event : S) (shutdown : Bool) (turns : ℕ) (left : Option S)
    (calls : List (Processing S)) : Type 0 where
  pub hands_on : HandsOn event shutdown calls left
  pub called : 1 ≤ length calls
  pub within : length calls ≤ turns
  pub spent : IsSome left → length calls ≡ turns
  pub processed : AreCalled may old new (map Processed calls)

-- some calls were such
abbrev pub IsHandled : {A : Type 0} → {S : Type 0} → (A → List (AppCall S) → Type 0) → A → A → S → Bool → ℕ → Handled S → Type 0
IsHandled {A} {S} may old new event shutdown turns result =
    (calls : List (Processing S)) × Handling may old new event shutdown turns (left_over result) calls
