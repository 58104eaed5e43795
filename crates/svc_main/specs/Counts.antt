-- What the generator's command counts in a record.
use Rattle.std.specs.Prelude.{ℕ, Bool, true, false, ◌≡◌, ◌<◌, ◌^◌, List, [], ◌∷◌, ◌++◌, codes}
use Rattle.std.specs.Fmt.{decimal}
use Rattle.svc_record.specs.declared.entry.Entry.{Entry}
use Rattle.svc_record.specs.declared.entry.Entry.TheVariants.{Told}
use Rattle.svc_record.specs.declared.action.Action.TheVariants.{Start, Bind, Close}
use Rattle.svc_record.specs.Record.{Record, times}

-- the entry tells `Start`
abbrev pub is_any_start : Entry → Bool
is_any_start (Told (Start s)) = true
is_any_start _ = false

-- the entry tells `Bind`
abbrev pub is_any_bind : Entry → Bool
is_any_bind (Told (Bind s i)) = true
is_any_bind _ = false

-- the entry tells `Close`
abbrev pub is_any_close : Entry → Bool
is_any_close (Told (Close fd)) = true
is_any_close _ = false

-- a word and a count, as a line
abbrev pub count_line : List ℕ → ℕ → List ℕ
count_line word count = word ++ (decimal count ++ 10 ∷ [])

-- the three counts, a line each
abbrev pub count_lines : ℕ → ℕ → ℕ → List ℕ
count_lines starts binds closes = count_line (codes "starts ") starts ++ (count_line (codes "binds ") binds ++ count_line (codes "closes ") closes)

-- how many services were started, how often an endpoint was bound, and how many descriptors were closed
abbrev pub summary : Record → List ℕ
summary r = count_lines (times is_any_start r) (times is_any_bind r) (times is_any_close r)

-- these are the counts of the record
pub record HasCounts (starts binds closes : ℕ) (r : Record) : Type 0 where
  pub starts_are : starts ≡ times is_any_start r
  pub binds_are : binds ≡ times is_any_bind r
  pub closes_are : closes ≡ times is_any_close r

-- each count of the record is below 2^64
pub record FitCounts (r : Record) : Type 0 where
  pub starts_fit : times is_any_start r < 2 ^ 64
  pub binds_fit : times is_any_bind r < 2 ^ 64
  pub closes_fit : times is_any_close r < 2 ^ 64
