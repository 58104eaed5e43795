-- The record of a book's journal, and which journals are legal in it.
use Rattle.std.specs.Prelude.{List}
use Rattle.svc_record.specs.declared.event.Event.{Event}
use Rattle.svc_record.specs.declared.action.StepEnd.{StepEnd}
use Rattle.svc_record.specs.Record.{Record}
use Rattle.svc_record.specs.Fits.{Fits}
use Rattle.svc_record.specs.Ends.{step_end}
use Rattle.svc_record.specs.Journal.{PostData, Legal, journal_record}
use Rattle.svc_shared.specs.BookData.{BookData}

-- the record that these posts make after the book's opening
abbrev pub record_of : BookData → List PostData → Record
record_of b journal = journal_record b.opening journal

-- the journal is legal for the book's plan and opening
abbrev pub IsLegal : BookData → List PostData → Type 0
IsLegal b journal = Legal b.plan b.opening journal

-- the event may come after these posts
abbrev pub FitsAfter : BookData → List PostData → Event → Type 0
FitsAfter b journal event = Fits b.plan (record_of b journal) event

-- how the run has ended after these posts, if it has
abbrev pub end_after : BookData → List PostData → StepEnd
end_after b journal = step_end b.plan (record_of b journal)
