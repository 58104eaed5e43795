use Rattle.std.proofs.Common.{◌≤◌, ap, length, arith, string_bytes}
use Rattle.std.proofs.lemmas.List.Elements.{All-push}
use Rattle.std.specs.Str.Lines.{lines}
use Rattle.svc_messages.specs.Messages.{IsMessage}
use Rattle.svc_messages.specs.Refusals.{TellsOfLine}
use Rattle.svc_messages.proofs.configuration.key_notes.Goals.{then-eq-2+in_ok-note+in-Some-2+in_ok-push, else-eq-2}
use Rattle.svc_messages.proofs.configuration.key_notes.Goals as goal

pub loop-line-preserved : goal.loop-line-preserved
loop-line-preserved c =
    let notes = c.loop-line.notes.items in
    let within : c.loop-line.number ≤ length (lines c.args.bytes.now) =
    omega (arith, c.loop-line.invariant.left, c.loop-line.invariant.begun, ap length c.in-Some.ensures.first) in
    record {
      messages = elim c.if-eq-2.branch [
        | then-eq-2+in_ok-note+in-Some-2+in_ok-push w ↦ rw (w.notes-is, w.in_ok-push.ensures.items)
            (All-push (λ note. IsMessage (string_bytes note)) notes w.in-Some-2.note c.loop-line.invariant.messages
            (rw w.in-Some-2.is at w.in_ok-note.ensures.message))
        | else-eq-2 w ↦ rw w.notes-is c.loop-line.invariant.messages
      ];
      told = elim c.if-eq-2.branch [
        | then-eq-2+in_ok-note+in-Some-2+in_ok-push w ↦
            rw (w.notes-is, w.in_ok-push.ensures.items)
            (All-push (λ note. TellsOfLine (lines c.args.bytes.now) (string_bytes note)) notes w.in-Some-2.note c.loop-line.invariant.told
            (c.loop-line.number, c.loop-line.invariant.begun, within, rw w.in-Some-2.is at w.in_ok-note.ensures.line))
        | else-eq-2 w ↦ rw w.notes-is c.loop-line.invariant.told
      ];
      begun = omega (arith, c.saturating_add-number.ensures);
      left = omega (arith, c.saturating_add-number.ensures, c.loop-line.invariant.left, c.loop-line.invariant.begun, ap length c.in-Some.ensures.first);
    }
