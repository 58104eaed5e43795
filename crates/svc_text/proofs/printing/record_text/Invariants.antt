use Rattle.std.proofs.Common.{◌≡◌, All, string_bytes, take}
use Rattle.svc_record.specs.Text.{text_of, EntryFits}
use Rattle.svc_text.proofs.printing.record_text.Given as goal

abbrev pub invariant-loop-entry : goal.invariant-loop-entry
invariant-loop-entry l =
    (string_bytes l.text ≡ text_of (take l.entry-index l.entries))
    × All EntryFits (take l.entry-index l.entries)
