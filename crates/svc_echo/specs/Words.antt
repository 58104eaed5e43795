-- Which words the echo server takes.
use Rattle.std.specs.Prelude.{ℕ, ◌^◌, Bool, ◌&&◌, not, nat_le, if◌then◌else◌, List, [], ◌∷◌, length, Option, Some, None}
use Rattle.std.specs.Str.{bytes_eq}
use Rattle.svc_base.specs.Options.{◌>>=◌}
use Rattle.svc_base.specs.Words.{number_of}

-- a word that an address may be: of 1 to 4,096 bytes
abbrev pub is_address : List ℕ → Bool
is_address word = nat_le 1 (length word) && nat_le (length word) 4096

-- how many turns a word says: from 1 to 1,000,000,000
unfoldable pub turns_by : List ℕ → Option ℕ
turns_by word = number_of (2 ^ 64) word >>= λ n. if nat_le 1 n && nat_le n 1000000000 then Some n else None

-- how many turns each worker has, where the words are two different addresses and that number; none for other words
abbrev pub turns_of : List (List ℕ) → Option ℕ
turns_of (address ∷ control ∷ turns ∷ []) = if (is_address address && is_address control) && not (bytes_eq address control) then turns_by turns else None
turns_of _ = None
