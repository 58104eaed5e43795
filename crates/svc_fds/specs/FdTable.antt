-- What contracts see of a table of descriptors.
use Rattle.std.specs.Prelude.{ℕ, List}

-- each address with the number of its descriptor, and for how many more entries there is memory
pub record FdTable : Type 0 where
  pub entries : List (List ℕ × ℕ)
  pub spare : ℕ
