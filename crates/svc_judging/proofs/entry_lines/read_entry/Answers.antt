use Rattle.std.proofs.Common.{◌≡◌, false, Option, Some, None}
use Rattle.std.specs.Str.{bytes_eq}
use Rattle.svc_base.specs.Words.{words}
use Rattle.svc_record.specs.declared.entry.Entry.{Entry}
use Rattle.svc_judging.specs.EntryLines.{entry_of, entry_text}
use Rattle.svc_judging.proofs.EntryLemmas.{unread, unprinted}
use Rattle.svc_judging.proofs.entry_lines.read_entry.Goals as goal

pub returns-in_default : goal.returns-in_default
returns-in_default c =
    let is = c.in_default.is in
    let says = c.in_ok-entry.ensures in
    let none : Option Entry = None in
    let read : none ≡ entry_of (words c.args.line.now) = cc in
    unread c.args.line.now read

pub returns-in-Ok-false : goal.returns-in-Ok-false
returns-in-Ok-false c =
    let is = c.in-Some.is in
    let says = c.in_ok-entry.ensures in
    let read : Some c.in-Some.entry ≡ entry_of (words c.args.line.now) = cc in
    let test = c.in-Ok-false.field-0-test in
    let compared = c.in-Ok-false.ensures in
    let differs : bytes_eq (entry_text c.in-Some.entry) c.args.line.now ≡ false = cc in
    unprinted c.args.line.now c.in-Some.entry read differs
