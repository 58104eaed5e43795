-- What a file that is served says.
use Rattle.std.specs.Prelude.{◌≡◌, ℕ, List, ◌++◌, length, Ok, codes}
use Rattle.svc_text.specs.Accepted.{AreAccepted}
use Rattle.svc_text.specs.Outcome.{parts_of}
use Rattle.svc_text.specs.Script.{script}
use Rattle.svc_text.specs.declared.parsing.Script.{Script}

-- the file's text, with no events behind it, is that of the script
abbrev pub SaysScript : List ℕ → Script → Type 0
SaysScript bytes s = script (bytes ++ codes "\n%events\n") ≡ Ok (parts_of s)

-- the script's services are accepted, and each has a line
pub record IsTaken (s : Script) : Type 0 where
  pub accepted : AreAccepted s.services.items
  pub lines : length s.lines.items ≡ length s.services.items
