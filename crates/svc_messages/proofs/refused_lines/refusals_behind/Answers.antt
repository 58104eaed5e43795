use Rattle.std.proofs.Common.{arith, string_bytes}
use Rattle.std.proofs.lemmas.List.Elements.{All-push}
use Rattle.svc_messages.specs.Messages.{IsMessage}
use Rattle.svc_messages.specs.Refusals.{TellsOfSome}
use Rattle.svc_messages.proofs.refused_lines.refusals_behind.Goals as goal

pub loop-preserved : goal.loop-preserved
loop-preserved c =
    let notes = c.loop.notes.items in
    let refusal = c.in-Some-2.refusal in
    let told = (rw c.in-Some-2.is at c.in_ok-refusal.ensures).1 in
    record {
      messages = rw c.in_ok-push.ensures.items (All-push (λ note. IsMessage (string_bytes note)) notes refusal.text c.loop.invariant.messages told.message);
      told = rw c.in_ok-push.ensures.items
          (All-push (λ note. TellsOfSome (string_bytes note)) notes refusal.text c.loop.invariant.told (refusal.number, (told.cause, told.text)));
      few = omega (arith, c.in_ok-push.ensures.len, c.loop.invariant.few);
    }
