-- What the lines of a record's text say.
use Rattle.std.specs.Prelude.{ℕ, ◌≡◌, ◌≢◌, ◌+◌, ◌⊎◌, List, [], ◌∷◌, ◌++◌, length, map, Some, None}
use Rattle.svc_record.specs.declared.entry.Entry.{Entry}
use Rattle.svc_judging.specs.EntryLines.{entry_text, IsNoEntry}
use Rattle.svc_judging.specs.StatusLines.{end_of}
use Rattle.svc_judging.specs.declared.status_lines.RecordEnd.{RecordEnd}
use Rattle.svc_judging.specs.declared.status_lines.RecordEnd.TheVariants.{Open}

-- the line, behind which no other stands, says so how the run ended
abbrev pub IsEndLine : List ℕ → List (List ℕ) → RecordEnd → Type 0
IsEndLine line [] end = end_of line ≡ Some end
IsEndLine line (next ∷ more) end = ⊥

-- what stands behind the entries' lines says so how the run ended
abbrev pub IsEnd : RecordEnd → List (List ℕ) → Type 0
IsEnd end [] = end ≡ Open
IsEnd end (line ∷ more) = IsEndLine line more end

-- the lines are those of the entries, the oldest first, and then at most a status line
pub record AreRecord (ls : List (List ℕ)) (entries : List Entry) (end : RecordEnd) : Type 0 where
  pub behind : List (List ℕ)
  pub lines : ls ≡ map entry_text entries ++ behind
  pub ended : IsEnd end behind

-- the line can't stand before these: it is no entry's, and no status line that is the last one
abbrev pub IsOdd : List ℕ → List (List ℕ) → Type 0
IsOdd line more = IsNoEntry line × ((end_of line ≡ None) ⊎ (more ≢ []))

-- the n-th line is the first that is no entry's, and no status line that is the last one
pub record RefusesLine (ls : List (List ℕ)) (n : ℕ) : Type 0 where
  pub entries : List Entry
  pub line : List ℕ
  pub more : List (List ℕ)
  pub lines : ls ≡ map entry_text entries ++ line ∷ more
  pub number : n ≡ length entries + 1
  pub odd : IsOdd line more
