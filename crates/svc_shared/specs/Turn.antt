-- What a seat knows before it takes the turn, while it holds it, and after it left it.
use Rattle.std.specs.Prelude.{◌≡◌, ◌≢◌, ◌⊎◌, ℕ, ◌+◌, ◌*◌, ◌%◌, ◌≤◌, true, false, [], ◌∷◌, ◌++◌, length, Some, None}
use Rattle.svc_record.specs.declared.event.Event.{Event}
use Rattle.svc_record.specs.declared.action.StepEnd.{StepEnd}
use Rattle.svc_shared.specs.declared.book.Refusal.{Refusal}
use Rattle.svc_record.specs.Journal.{PostData, own_posts}
use Rattle.svc_shared.specs.BookData.{BookData}
use Rattle.svc_shared.specs.Journals.{IsLegal, end_after}
use Rattle.svc_shared.specs.Refusals.{IsDue}
use Rattle.svc_shared.specs.Views.{Mine, Begins, book_of, noted, took, left, IsWhole}

-- the pass has neither the turn nor the book
pub record IsIdle (m : Mine) : Type 0 where
  pub bare : m.1 ≡ []
  pub live : m.0.hand.spent ≡ false
  pub free : m.0.sight.holding ≡ false

-- the turn is held, and with it the book, whose journal is the base
pub record HasTurn (b : BookData) (word : ℕ) (m : Mine) : Type 0 where
  pub carries : m.1 ≡ (0, Some (book_of b m.0.sight.base)) ∷ []
  pub live : m.0.hand.spent ≡ false
  pub holding : m.0.sight.holding ≡ true
  pub word_is : word ≡ 2 * length m.0.sight.base
  pub own_is : m.0.sight.own ≡ own_posts m.0.sight.base m.0.hand.number

-- the book that is given back is the one that was lifted, or it has one post of this seat more
abbrev pub GivesBack : BookData → BookData → ℕ → ℕ → Mine → Type 0
GivesBack b book word next m =
    ((book ≡ book_of b m.0.sight.base) × (next ≡ word))
    ⊎ ((p : PostData) × (book ≡ book_of b (m.0.sight.base ++ p ∷ [])) × (p.seat ≡ m.0.hand.number) × (next ≡ word + 2))

-- the turn is held, and the book was lifted out of its slot
pub record Lifted (word : ℕ) (m : Mine) : Type 0 where
  pub carries : m.1 ≡ (0, None) ∷ []
  pub live : m.0.hand.spent ≡ false
  pub holding : m.0.sight.holding ≡ true
  pub word_is : word ≡ 2 * length m.0.sight.base

-- the turn was taken, by a read and a compare and exchange
pub record Took (b : BookData) (word : ℕ) (m w : Mine) : Type 0 where
  pub turn : HasTurn b word w
  pub view_is : w.0 ≡ took (noted m.0 0 word (Some word)) word w.0.sight.base
  pub front : Begins w.0.sight.base m.0.sight.seen

-- the word that was seen is odd, or differs from the one that this call read before
abbrev pub Lost : ℕ → Mine → Mine → Type 0
Lost word m w = (IsWhole m.0.hand → ⊥)
    × (((w ≡ (noted m.0 0 word (Some word), m.1)) × (word % 2 ≡ 1))
    ⊎ ((first : ℕ) × (first ≢ word) × (w ≡ (noted (noted m.0 0 first (Some first)) 0 word (Some word), m.1))))

-- what reads of the turn's word leave as it was; the notes go on
pub record Waited (m w : Mine) : Type 0 where
  pub hand_is : w.0.hand ≡ m.0.hand
  pub seen_is : w.0.sight.seen ≡ m.0.sight.seen
  pub own_is : w.0.sight.own ≡ m.0.sight.own
  pub notes : Begins w.0.sight.notes m.0.sight.notes

-- after some reads the turn was taken
abbrev pub TookLater : BookData → ℕ → Mine → Mine → Type 0
TookLater b word m w = (mid : Mine) × Waited m mid × Took b word mid w

-- the turn was left, with this post more
pub record LeftWith (b : BookData) (p : PostData) (place : ℕ) (end : StepEnd) (m w : Mine) : Type 0 where
  pub view_is : w ≡ (left m.0 (m.0.sight.base ++ p ∷ []), [])
  pub place_is : place ≡ length (m.0.sight.base ++ p ∷ [])
  pub end_is : end ≡ end_after b (m.0.sight.base ++ p ∷ [])
  pub legal : IsLegal b (m.0.sight.base ++ p ∷ [])
  pub within : length (m.0.sight.base ++ p ∷ []) ≤ b.limit

-- the turn was left, with the journal as it was
pub record LeftWithout (b : BookData) (event : Event) (why : Refusal) (m w : Mine) : Type 0 where
  pub view_is : w ≡ (left m.0 m.0.sight.base, [])
  pub due : IsDue (book_of b m.0.sight.base) event why
