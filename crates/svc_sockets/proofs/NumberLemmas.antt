-- The numbers of what is kept in a list.
use Rattle.std.proofs.Common.{◌≡◌, ℕ, Bool, true, false, cond, List, [], ◌∷◌, ◌++◌, refl, ap}
use Rattle.std.specs.Prelude.{map, filter}
use Rattle.svc_sockets.specs.OpenSockets.{without}
use Rattle.svc_sockets.specs.SocketsData.{without_all}

-- the number in front of the numbers of the rest, where it is kept
front_kept : {X : Type 0} (number : X → ℕ) (x : X) (rest : List X) (numbers : List ℕ) (kept : Bool)
    → map number rest ≡ numbers → map number (cond kept (x ∷ rest) rest) ≡ cond kept (number x ∷ numbers) numbers
front_kept number x rest numbers true e = ap (λ all. number x ∷ all) e
front_kept number x rest numbers false e = e

-- what is kept by its number has the numbers that are kept
pub map-filter_by : {X : Type 0} (number : X → ℕ) (keep : ℕ → Bool) (xs : List X)
    → map number (filter (λ x. keep (number x)) xs) ≡ filter keep (map number xs)
map-filter_by number keep [] = refl
map-filter_by number keep (x ∷ xs) =
    front_kept number x (filter (λ y. keep (number y)) xs) (filter keep (map number xs)) (keep (number x)) (map-filter_by number keep xs)

-- the last of the numbers goes last
pub without_all-last : (gone : List ℕ) (last : ℕ) (numbers : List ℕ) → without_all (gone ++ last ∷ []) numbers ≡ without last (without_all gone numbers)
without_all-last [] last numbers = refl
without_all-last (first ∷ gone) last numbers = without_all-last gone last (without first numbers)
