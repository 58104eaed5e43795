-- Which loops ended.
use Rattle.std.specs.Prelude.{ℕ, zero, suc, Bool, true, ◌≡◌, ◌+◌, ◌<◌, ◌==◌, ◌&&◌, List, [], filter, length, slice_index_or, slice_set, if◌then◌else◌}
use Rattle.std.specs.List.{list_any}
use Rattle.svc_endpoints.specs.declared.loops.LoopEnd.{LoopEnd}
use Rattle.svc_endpoints.specs.declared.tallies.Tally.{Tally}

-- it is a loop of endpoint i of s
abbrev pub is_loop_of : ℕ → ℕ → LoopEnd → Bool
is_loop_of s i x = x.service == s && x.endpoint == i

-- it is loop j of endpoint i of s
abbrev pub is_loop : ℕ → ℕ → ℕ → LoopEnd → Bool
is_loop s i j x = is_loop_of s i x && x.number == j

-- loop j of the endpoint ended
abbrev pub has_loop : List LoopEnd → ℕ → ℕ → ℕ → Bool
has_loop loops s i j = list_any (is_loop s i j) loops

-- how many loops of the endpoint ended
abbrev pub loop_count : List LoopEnd → ℕ → ℕ → ℕ
loop_count loops s i = length (filter (is_loop_of s i) loops)

-- the loop at this place, where there is one
abbrev pub loop_at : List LoopEnd → ℕ → LoopEnd
loop_at loops k = slice_index_or loops k (record { service = 0; endpoint = 0; number = 0 })

-- of the first so many loops how many end with the last one of the endpoint, 0 where none is the endpoint's
abbrev pub last_end : List LoopEnd → ℕ → ℕ → ℕ → ℕ
last_end loops s i zero = 0
last_end loops s i (suc n) = if is_loop_of s i (loop_at loops n) then suc n else last_end loops s i n

-- beside each loop of the endpoint stands how many end with the one before it
abbrev pub AreLinked : List LoopEnd → List ℕ → ℕ → ℕ → Type 0
AreLinked loops before s i = (k : ℕ) → k < length loops → is_loop_of s i (loop_at loops k) ≡ true → slice_index_or before k 0 ≡ last_end loops s i k

-- what is known of an endpoint none of whose loops ended
abbrev pub untold : Tally
untold = record { count = 0; last = 0 }

-- what is known of the endpoint
abbrev pub tally_at : List (List Tally) → ℕ → ℕ → Tally
tally_at rows s i = slice_index_or (slice_index_or rows s []) i untold

-- something is known of the endpoint
abbrev pub HasTally : List (List Tally) → ℕ → ℕ → Type 0
HasTally rows s i = (s < length rows) × (i < length (slice_index_or rows s []))

-- one more loop of the service's endpoint ended, so many in all with it
abbrev pub counted : List Tally → ℕ → ℕ → List Tally
counted row i n = slice_set row i (record { count = (slice_index_or row i untold).count + 1; last = n })

-- the same for endpoint i of s
abbrev pub counted_in : List (List Tally) → ℕ → ℕ → ℕ → List (List Tally)
counted_in rows s i n = slice_set rows s (counted (slice_index_or rows s []) i n)

-- the tally is right, and the loops of the endpoint are linked
pub record IsTallied (loops : List LoopEnd) (before : List ℕ) (s i : ℕ) (t : Tally) : Type 0 where
  pub count : t.count ≡ loop_count loops s i
  pub last : t.last ≡ last_end loops s i (length loops)
  pub links : AreLinked loops before s i

-- so it is for each endpoint of which something is known
pub record AreTallied (loops : List LoopEnd) (before : List ℕ) (rows : List (List Tally)) : Type 0 where
  pub long : length before ≡ length loops
  pub each : (s i : ℕ) → HasTally rows s i → IsTallied loops before s i (tally_at rows s i)
