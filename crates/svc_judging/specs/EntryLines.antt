-- What a record's line says, and which line is whose.
use Rattle.std.specs.Prelude.{ℕ, ◌≡◌, ◌≤◌, if◌then◌else◌, List, [], ◌∷◌, length, codes, Option, None}
use Rattle.std.specs.Option.{option_map}
use Rattle.std.specs.Str.{bytes_eq}
use Rattle.svc_record.specs.declared.event.Event.TheVariants.{Received}
use Rattle.svc_record.specs.declared.action.Action.TheVariants.{Send}
use Rattle.svc_record.specs.declared.entry.Entry.{Entry}
use Rattle.svc_record.specs.declared.entry.Entry.TheVariants.{Got, Told}
use Rattle.svc_record.specs.Text.{entry_words, spaced, EntryFits}
use Rattle.svc_text.specs.EventLines.{event_of}
use Rattle.svc_judging.specs.ActionLines.{action_of}

-- the entry that the words of a line say
unfoldable pub entry_of : List (List ℕ) → Option Entry
entry_of [] = None
entry_of (key ∷ more) = if bytes_eq key (codes "got") then option_map Got (event_of more) else option_map Told (action_of (key ∷ more))

-- the text of an entry's line, without its line feed
abbrev pub entry_text : Entry → List ℕ
entry_text e = spaced (entry_words e)

-- a message that the entry tells has at most 32 descriptors
abbrev pub IsShort : Entry → Type 0
IsShort (Got (Received bytes descriptors)) = length descriptors ≤ 32
IsShort (Got e) = Unit {0}
IsShort (Told (Send bytes descriptors)) = length descriptors ≤ 32
IsShort (Told a) = Unit {0}

-- the line is no entry's, of those whose numbers fit their types and whose messages are short
abbrev pub IsNoEntry : List ℕ → Type 0
IsNoEntry line = (e : Entry) → EntryFits e → IsShort e → line ≡ entry_text e → ⊥
