-- What a record opened, with which address, and what of it is live.
use Rattle.std.specs.Prelude.{ℕ, Bool, true, false, ◌==◌, not, ◌&&◌, ◌||◌, List, [], ◌∷◌, ◌++◌, length, map, filter, Option, Some, None, if◌then◌else◌}
use Rattle.std.specs.List.{list_any, filter_map}
use Rattle.svc_record.specs.declared.plan.Plan.{Plan}
use Rattle.svc_record.specs.declared.entry.Entry.{Entry}
use Rattle.svc_record.specs.declared.entry.Entry.TheVariants.{Got, Told}
use Rattle.svc_record.specs.declared.action.Action.TheVariants.{Close}
use Rattle.svc_record.specs.declared.event.Event.TheVariants.{Bound, Received}
use Rattle.svc_fds.specs.Tables.{Entry as TableEntry, put_all}
use Rattle.svc_record.specs.Record.{Record, has}
use Rattle.svc_record.specs.Plans.{address, same_address}
use Rattle.svc_record.specs.Message.{decode}

-- an opened descriptor: its number, its address if it has one, and whether an older server sent it
pub record Descriptor : Type 0 where
  pub number : ℕ
  pub address : Option (List ℕ)
  pub received : Bool

-- each number with the word at its place, and without an address where there is none
abbrev pub with_words : List ℕ → List (List ℕ) → List Descriptor
with_words [] words = []
with_words (fd ∷ fds) [] = record { number = fd; address = None; received = true } ∷ with_words fds []
with_words (fd ∷ fds) (w ∷ words) = record { number = fd; address = Some w; received = true } ∷ with_words fds words

-- the words of a message, none where it isn't one
abbrev pub words_or_none : Option (List (List ℕ)) → List (List ℕ)
words_or_none (Some words) = words
words_or_none None = []

-- what an entry opens
abbrev pub descriptors_of : Plan → Entry → List Descriptor
descriptors_of p (Got (Bound s i fd)) = record { number = fd; address = address p s i; received = false } ∷ []
descriptors_of p (Got (Received bytes fds)) = with_words fds (words_or_none (decode bytes (length fds)))
descriptors_of p _ = []

-- the descriptors that the record opened, those of the newest event first
abbrev pub opened_descriptors : Plan → Record → List Descriptor
opened_descriptors p [] = []
opened_descriptors p (e ∷ before) = descriptors_of p e ++ opened_descriptors p before

-- the entry tells `Close` with this number
abbrev pub is_close : ℕ → Entry → Bool
is_close fd (Told (Close n)) = n == fd
is_close fd _ = false

-- the descriptor has this number
abbrev pub has_number : ℕ → Descriptor → Bool
has_number fd d = d.number == fd

-- the descriptor was opened
abbrev pub is_opened : Plan → Record → ℕ → Bool
is_opened p q fd = list_any (has_number fd) (opened_descriptors p q)

-- the numbers that an entry brings
abbrev pub numbers_of : Entry → List ℕ
numbers_of (Got (Bound s i fd)) = fd ∷ []
numbers_of (Got (Received bytes fds)) = fds
numbers_of _ = []

-- the entry brings the number
abbrev pub brings : ℕ → Entry → Bool
brings fd e = list_any (λ n. n == fd) (numbers_of e)

-- opened, and not closed
abbrev pub live_descriptors : Plan → Record → List Descriptor
live_descriptors p q = filter (λ (d : Descriptor). not (has (is_close d.number) q)) (opened_descriptors p q)

-- the numbers of the live descriptors with this address
abbrev pub live_numbers_with : Plan → Record → Option (List ℕ) → List ℕ
live_numbers_with p q a = map (λ (d : Descriptor). d.number) (filter (λ (d : Descriptor). same_address d.address a) (live_descriptors p q))

-- a live descriptor has the address
abbrev pub has_live : Plan → Record → Option (List ℕ) → Bool
has_live p q a = list_any (λ (d : Descriptor). same_address d.address a) (live_descriptors p q)

-- the address with which the descriptor was opened
abbrev pub address_of : Plan → Record → ℕ → Option (List ℕ)
address_of p q fd = first (opened_descriptors p q)
  where
    first : List Descriptor → Option (List ℕ)
    first [] = None
    first (d ∷ more) = if d.number == fd then d.address else first more

-- before the event that opened the descriptor, a live one had its address
abbrev pub is_doubled : Plan → Record → ℕ → Bool
is_doubled p [] fd = false
is_doubled p (e ∷ before) fd = list_any (λ (d : Descriptor). d.number == fd && has_live p before d.address) (descriptors_of p e) || is_doubled p before fd

-- no two of the descriptors have one address
abbrev pub apart : List Descriptor → Bool
apart [] = true
apart (d ∷ more) = not (list_any (λ (x : Descriptor). same_address x.address d.address) more) && apart more

-- no address has two live descriptors
abbrev pub one_live : Plan → Record → Bool
one_live p q = apart (live_descriptors p q)

-- the descriptor with its address, where it has one
abbrev pub as_entry : Descriptor → Option TableEntry
as_entry d = with_number d.number d.address
  where
    with_number : ℕ → Option (List ℕ) → Option TableEntry
    with_number n (Some a) = Some (a, n)
    with_number n None = None

-- the live descriptors that have an address, in byte order of the addresses
abbrev pub live_table : Plan → Record → List TableEntry
live_table p q = put_all (filter_map as_entry (live_descriptors p q)) []
