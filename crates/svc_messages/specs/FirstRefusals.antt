-- What is said of a refused line.
use Rattle.std.specs.Prelude.{ℕ, ◌≡◌, List, string_bytes}
use Rattle.svc_messages.specs.declared.script.Refusal.{Refusal}
use Rattle.svc_messages.specs.Messages.{IsMessage}
use Rattle.svc_messages.specs.Refusals.{line_text}

-- it is one line that begins with the line's number
pub record IsRefusal (refusal : Refusal) : Type 0 where
  pub cause : List ℕ
  pub text : string_bytes refusal.text ≡ line_text refusal.number cause
  pub message : IsMessage (string_bytes refusal.text)
