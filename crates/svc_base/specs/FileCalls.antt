-- What contracts see of files, and what a read of one changes.
use Rattle.std.specs.Prelude.{◌≡◌, ℕ, Bool, List, [], ◌∷◌, if◌then◌else◌, Option, Some, None, is_some, Result, Ok, Err}
use Rattle.svc_base.specs.Streams.{Rose}
use Rattle.svc_base.specs.declared.files.FileCall.{FileCall}
use Rattle.svc_base.specs.declared.files.FileError.{FileError}
use Rattle.svc_base.specs.declared.files.FileError.TheVariants.{Failed, NoMemory}
use Rattle.svc_base.specs.Calls.{Adds}

-- the reads that they were asked, the oldest first, where they tell them; how often one failed
pub record FilesData : Type 0 where
  pub called : Option (List FileCall)
  pub faults : ℕ

-- the calls, where they are told
abbrev pub told : Bool → List FileCall → Option (List FileCall)
told whole calls = if whole then Some calls else None

-- the count of faults rises where the read fails, and stays at every other answer
abbrev pub FileFaults : Result (List ℕ) FileError → ℕ → ℕ → Type 0
FileFaults (Ok text) before now = now ≡ before
FileFaults (Err Failed) before now = Rose before now
FileFaults (Err NoMemory) before now = now ≡ before

-- what was told stays told, unless the answer is that memory ran out
abbrev pub StaysTold : Result (List ℕ) FileError → Option (List FileCall) → Option (List FileCall) → Type 0
StaysTold (Ok text) before now = is_some now ≡ is_some before
StaysTold (Err Failed) before now = is_some now ≡ is_some before
StaysTold (Err NoMemory) before now = Unit {0}

-- they were asked to read this path, and answered so
pub record IsRead (before now : FilesData) (path : List ℕ) (answer : Result (List ℕ) FileError) : Type 0 where
  pub called : Adds before.called now.called (record { path = path; answer = answer } ∷ [])
  pub faults : FileFaults answer before.faults now.faults
  pub stays : StaysTold answer before.called now.called
