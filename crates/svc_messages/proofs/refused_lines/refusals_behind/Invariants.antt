use Rattle.std.specs.Prelude.{◌≤◌, All, length, string_bytes}
use Rattle.svc_messages.specs.Messages.{IsMessage}
use Rattle.svc_messages.specs.Refusals.{TellsOfSome}
use Rattle.svc_messages.proofs.refused_lines.refusals_behind.Given as goal

abbrev pub invariant-loop : goal.invariant-loop
invariant-loop l = record {
  messages : All (λ note. IsMessage (string_bytes note)) l.notes.items;
  told : All (λ note. TellsOfSome (string_bytes note)) l.notes.items;
  few : length l.notes.items ≤ l.counter;
}
