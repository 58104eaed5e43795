-- What each atomic step tells: `found` is the word as it was, m the seat before, w the seat after.
use Rattle.std.specs.Prelude.{◌≡◌, ◌≢◌, ℕ, ◌*◌, ◌%◌, List, [], ◌∷◌, length, Some, None}
use Rattle.atomic_table.specs.Table.{Step}
use Rattle.svc_record.specs.Journal.{PostData, own_posts}
use Rattle.svc_shared.specs.BookData.{BookData}
use Rattle.svc_shared.specs.declared.view.View.{View}
use Rattle.svc_shared.specs.Views.{Slot, Mine, Begins, book_of, noted, took, left, IsWhole, drew, longer, settled}
use Rattle.svc_shared.specs.Rule.{IsSeatOf}

-- nobody posted under this number, and it isn't the number of the pass or of one of its ended seats
abbrev pub IsUnused : View → ℕ → Type 0
IsUnused v k = (own_posts v.sight.seen k ≡ []) × (IsSeatOf v.hand k → ⊥)

-- the turn's word was read. A drawn number is unused. A pass with the whole share finds the turn free
abbrev pub looked : Step Slot → Mine → ℕ → Mine → Type 0
looked st m found w = (w ≡ (noted m.0 0 found (Some found), m.1)) × (IsWhole m.0.hand → found % 2 ≡ 0) × ((k : ℕ) → m.0.hand.drawn ≡ Some k → IsUnused m.0 k)

-- the turn was taken with the book, or lost. A pass with the whole share that read the word last doesn't lose it
abbrev pub taken : Step Slot → Mine → ℕ → Mine → Type 0
taken st m found w =
    (found ≡ st.first → (b : BookData) → m.0.hand.origin ≡ Some b
    → (journal : List PostData) × (w ≡ (took m.0 found journal, (0, Some (book_of b journal)) ∷ m.1)) × Begins journal m.0.sight.seen
    × (2 * length journal ≡ found) × (m.0.sight.own ≡ own_posts journal m.0.hand.number))
    × (found ≢ st.first → w ≡ (noted m.0 0 found (Some found), m.1))
    × (IsWhole m.0.hand → m.0.sight.last ≡ Some st.first → found ≡ st.first)

-- the turn was left, with the book that was given back
abbrev pub left_turn : Step Slot → Mine → ℕ → Mine → Type 0
left_turn st m found w = (book : BookData) → m.1 ≡ (0, Some book) ∷ [] → w ≡ (left m.0 book.posts, [])

-- the number's word was read
abbrev pub counted : Step Slot → Mine → ℕ → Mine → Type 0
counted st m found w = w ≡ (noted m.0 1 found None, m.1)

-- a number was drawn, or the number's word was read
abbrev pub drew_one : Step Slot → Mine → ℕ → Mine → Type 0
drew_one st m found w = (found ≡ st.first → w ≡ (drew m.0 found, m.1)) × (found ≢ st.first → w ≡ (noted m.0 1 found None, m.1))

-- the turn's word was read, and of the pass's two fronts the longer one begins with both
abbrev pub settled_down : Step Slot → Mine → ℕ → Mine → Type 0
settled_down st m found w = (w ≡ (settled m.0 found, m.1)) × Begins (longer m.0.sight.seen m.0.sight.told) m.0.sight.seen
    × Begins (longer m.0.sight.seen m.0.sight.told) m.0.sight.told
