-- What the calls over a handle mean, by its session before and after, and the number that is answered.
use Rattle.std.specs.Prelude.{ℕ, ◌≡◌, Bool, List, length, Option, Some, None, unwrap_or, Result, Ok, Err}
use Rattle.svc_conf.specs.Keys.{key_name}
use Rattle.svc_record.specs.declared.action.StepEnd.{StepEnd}
use Rattle.svc_core.specs.Dues.{TellsNothingBefore, TellsAt}
use Rattle.svc_c.specs.declared.making.MakeError.{MakeError}
use Rattle.svc_c.specs.declared.making.MakeError.TheVariants as making
use Rattle.svc_c.specs.declared.session.Asked.{Asked}
use Rattle.svc_c.specs.declared.session.StepError.{StepError}
use Rattle.svc_c.specs.declared.session.ToldError.{ToldError}
use Rattle.svc_c.specs.declared.session.ToldError.TheVariants as told
use Rattle.svc_c.specs.SessionData.{SessionData}
use Rattle.svc_c.specs.Making.{flags_of, IsMade}
use Rattle.svc_c.specs.Sessions.{put_in, IsBegun, IsAsked, IsStepped, IsClosed, IsToldIn}
use Rattle.svc_c.specs.Numbers.{end_number, make_number, step_number, fits_number, close_number, told_number, reason}
use Rattle.std.specs.Global.{Box}

-- where something was refused: the line's number, or the length of the key's name, which stands at the front of the buffer
abbrev pub Places : MakeError → ℕ → List ℕ → List ℕ → Type 0
Places (making.Line n) place before after = (place ≡ n) × (after ≡ before)
Places (making.Config key) place before after = (place ≡ length (key_name key)) × (after ≡ put_in (key_name key) before)
Places making.NoMemory place before after = (place ≡ 0) × (after ≡ before)

-- the handle has the session that was made, or none, and the number says why
abbrev pub Makes : Bool → Bool → Bool → List ℕ → Option SessionData → ℕ → List ℕ → List ℕ → ℕ → Type 0
Makes upgrade daemon test bytes (Some s) place before after n =
    (n ≡ 0) × ((b : Box SessionData) × ((b.value ≡ s) × IsMade (flags_of upgrade daemon test) bytes (Ok b)))
Makes upgrade daemon test bytes None place before after n =
    (error : MakeError) × ((n ≡ make_number error) × (IsMade (flags_of upgrade daemon test) bytes (Err error) × Places error place before after))

-- a fact of the sessions that two handles have
abbrev pub Both : Option SessionData → Option SessionData → (SessionData → SessionData → Type 0) → Type 0
Both (Some old) (Some new) P = P old new
Both _ _ P = ⊥

-- the first step
abbrev pub Begins : Option SessionData → Option SessionData → ℕ → Type 0
Begins old new n = Both old new (λ s t. (answer : Result StepEnd StepError) × ((n ≡ step_number answer) × IsBegun s t answer))

-- the filter that is asked, and what the blocked addresses say
abbrev pub Reports : Result Asked StepError → ℕ → Bool → Type 0
Reports (Ok asked) filter said = (filter ≡ unwrap_or asked.filter 0) × (said ≡ asked.said)
Reports (Err error) filter said = Unit {0}

-- whether the event of a line may come
abbrev pub Tests : List ℕ → Option SessionData → Option SessionData → ℕ → Bool → ℕ → Type 0
Tests line old new filter said n =
    Both old new (λ s t. (t ≡ s) × ((answer : Result Asked StepError) × ((n ≡ fits_number answer) × (IsAsked line s answer × Reports answer filter said))))

-- the step of a line's event
abbrev pub Steps : List ℕ → Bool → Option SessionData → Option SessionData → ℕ → Type 0
Steps line said old new n = Both old new (λ s t. (answer : Result StepEnd StepError) × ((n ≡ step_number answer) × IsStepped line said s t answer))

-- how many bytes the lines are
abbrev pub Measures : Result ℕ ToldError → ℕ → Type 0
Measures (Ok n) size = size ≡ n
Measures (Err (told.TooShort n)) size = size ≡ n
Measures (Err told.NoMemory) size = size ≡ 0

-- the lines of what the last call got and told
abbrev pub Tells : Option SessionData → Option SessionData → List ℕ → List ℕ → ℕ → ℕ → Type 0
Tells old new before after size n =
    Both old new (λ s t. (t ≡ s) × ((answer : Result ℕ ToldError) × ((n ≡ told_number answer)
    × (IsToldIn s.entries before after answer × Measures answer size))))

-- how the run has ended so far
abbrev pub Ends : Option SessionData → Option SessionData → ℕ → Type 0
Ends old new n = Both old new (λ s t. (t ≡ s) × (n ≡ end_number s.end))

-- from which moment on a moment tells something
abbrev pub Waits : Option SessionData → Option SessionData → ℕ → Type 0
Waits old new n = Both old new (λ s t. (t ≡ s) × ((at : Option ℕ) × ((n ≡ unwrap_or at 18446744073709551615)
    × (TellsNothingBefore s.core at × TellsAt s.core at))))

-- all is closed
abbrev pub Closes : List ℕ → Option SessionData → Option SessionData → ℕ → Type 0
Closes line old new n = Both old new (λ s t. (answer : Result (Unit {0}) StepError) × ((n ≡ close_number answer) × IsClosed line s t answer))

-- the text of a number stands at the front of the buffer, as far as it fits
abbrev pub Gives : ℕ → List ℕ → List ℕ → ℕ → Type 0
Gives number before after n = (n ≡ length (reason number)) × (after ≡ put_in (reason number) before)
