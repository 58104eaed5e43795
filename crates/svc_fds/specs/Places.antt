-- Where an address stands in a table.
use Rattle.std.specs.Prelude.{ℕ, ◌≡◌, ◌+◌, ◌<◌, ◌≤◌, List, [], ◌∷◌, length, take, drop, ⊤}
use Rattle.svc_fds.specs.declared.place.Place.{Place}
use Rattle.svc_fds.specs.declared.place.Place.TheVariants.{Held, Free}
use Rattle.svc_fds.specs.Tables.{Entry, Precedes, PrecedesAll}

-- each address of the table stands before a
abbrev pub AllPrecede : List ℕ → List Entry → Type 0
AllPrecede a [] = ⊤
AllPrecede a (e ∷ es) = Precedes e.0 a × AllPrecede a es

-- a stands at the index, and all before it are lesser
pub record IsHeldAt (a : List ℕ) (es : List Entry) (at : ℕ) : Type 0 where
  pub inside : at < length es
  pub before : AllPrecede a (take at es)
  pub fd : ℕ
  pub here : drop at es ≡ (a, fd) ∷ drop (at + 1) es

-- a is missing: all before the index are lesser, all from there on are greater
pub record IsFreeAt (a : List ℕ) (es : List Entry) (at : ℕ) : Type 0 where
  pub inside : at ≤ length es
  pub before : AllPrecede a (take at es)
  pub after : PrecedesAll a (drop at es)

-- the place is that of a
abbrev pub PlaceFits : List ℕ → List Entry → Place → Type 0
PlaceFits a es (Held at) = IsHeldAt a es at
PlaceFits a es (Free at) = IsFreeAt a es at
