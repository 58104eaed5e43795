-- The rule of the shared table: what its words, the value at home and the views say of one journal.
use Rattle.std.specs.Prelude.{◌≡◌, ◌⊎◌, ℕ, ◌+◌, ◌*◌, ◌≤◌, Bool, true, false, List, [], ◌∷◌, map, length, ◌==◌, Some}
use mathlib.Core.Option as maybe
use lib.ListN.{get_elem?}
use Rattle.atomic_table.specs.Table.{State}
use Rattle.svc_record.specs.Journal.{PostData, own_posts}
use Rattle.svc_shared.specs.BookData.{BookData}
use Rattle.svc_shared.specs.declared.view.SeatView.{SeatView}
use Rattle.svc_shared.specs.declared.view.Ended.{Ended}
use Rattle.svc_shared.specs.declared.view.View.{View}
use Rattle.svc_shared.specs.Views.{Slot, Begins, book_of, hand_of, IsWhole, most}

-- what a number is: not drawn yet, drawn by a seat, the number of a seat, or that of an ended seat which a seat keeps
pub data Role : Type 0 where
  fresh : Role
  drawn : ℕ → Role
  seated : ℕ → Role
  kept : ℕ → Role

-- posts may be of such a number
abbrev pub may_post : Role → Bool
may_post fresh = false
may_post (drawn id) = false
may_post (seated id) = true
may_post (kept id) = true

-- which seat knows the posts of such a number
abbrev pub owner_of : Role → maybe.Option ℕ
owner_of fresh = maybe.none
owner_of (drawn id) = maybe.none
owner_of (seated id) = maybe.some id
owner_of (kept id) = maybe.some id

-- the number of the pass, or of one of its ended seats
abbrev pub IsSeatOf : SeatView → ℕ → Type 0
IsSeatOf h n = (n ≡ h.number) ⊎ ((k : ℕ) × (e : Ended) × (get_elem? h.ended k ≡ maybe.some e) × (e.number ≡ n))

-- the turn's word: twice the number of posts, and one more while a seat holds the turn
abbrev pub turn_word : List PostData → maybe.Option ℕ → ℕ
turn_word journal maybe.none = 2 * length journal
turn_word journal (maybe.some id) = 2 * length journal + 1

-- the book is at home while no seat holds the turn
abbrev pub home : BookData → List PostData → maybe.Option ℕ → maybe.Option Slot
home b journal maybe.none = maybe.some (Some (book_of b journal))
home b journal (maybe.some id) = maybe.none

-- this seat holds the turn
abbrev pub is_holder : maybe.Option ℕ → ℕ → Bool
is_holder maybe.none id = false
is_holder (maybe.some h) id = h == id

-- THE TURN'S PART

-- what a view knows of the turn and the journal
pub record Knows (journal : List PostData) (holder : maybe.Option ℕ) (id : ℕ) (v : View) : Type 0 where
  pub front : Begins journal v.sight.seen
  pub told_is : Begins journal v.sight.told
  pub own_is : v.sight.own ≡ own_posts journal v.hand.number
  pub holding_is : v.sight.holding ≡ is_holder holder id
  pub base_is : v.sight.holding ≡ true → v.sight.base ≡ journal
  pub ended_are : (k : ℕ) (e : Ended) → get_elem? v.hand.ended k ≡ maybe.some e → e.own ≡ own_posts journal e.number

-- every view that isn't spent knows so; and who holds the turn has such a view
pub record TurnPart (journal : List PostData) (holder : maybe.Option ℕ) (views : List View) : Type 0 where
  pub each : (id : ℕ) (v : View) → get_elem? views id ≡ maybe.some v → v.hand.spent ≡ false → Knows journal holder id v
  pub held : (id : ℕ) → holder ≡ maybe.some id → (v : View) × (get_elem? views id ≡ maybe.some v) × (v.hand.spent ≡ false)

-- THE PASSES' PART, which reads the hands alone

-- the roles of a hand's numbers, and the keeper of its share, are this seat
pub record SeatFits (b : BookData) (role : ℕ → Role) (keeper : ℕ → ℕ) (id : ℕ) (h : SeatView) : Type 0 where
  pub origin_is : h.origin ≡ Some b
  pub number_is : role h.number ≡ seated id
  pub drawn_is : (n : ℕ) → h.drawn ≡ Some n → role n ≡ drawn id
  pub ended_are : (k : ℕ) (e : Ended) → get_elem? h.ended k ≡ maybe.some e → role e.number ≡ kept id
  pub some_share : h.low ≤ h.high
  pub within : h.high ≤ most
  pub share : (x : ℕ) → h.low ≤ x → x ≤ h.high → keeper x ≡ id

-- numbers from the next one on are fresh; every hand that isn't spent fits
pub record PassesPart (b : BookData) (next : ℕ) (role : ℕ → Role) (keeper : ℕ → ℕ) (hands : List SeatView) : Type 0 where
  pub undrawn : (n : ℕ) → next ≤ n → role n ≡ fresh
  pub each : (id : ℕ) (h : SeatView) → get_elem? hands id ≡ maybe.some h → h.spent ≡ false → SeatFits b role keeper id h
  -- whose number a seated one or a kept one is
  pub owner : (n id : ℕ) → owner_of (role n) ≡ maybe.some id → (h : SeatView) × (get_elem? hands id ≡ maybe.some h) × (h.spent ≡ false) × IsSeatOf h n

-- WHAT JOINS THEM

-- each post is of the number of a seat or of an ended seat
abbrev pub Posted : (ℕ → Role) → List PostData → Type 0
Posted role [] = Unit {0}
Posted role (p ∷ ps) = (may_post (role p.seat) ≡ true) × Posted role ps

-- what a seat with the whole share read last, if its last step read the turn's word, is what the word still is
abbrev pub WholeReads : List PostData → List View → Type 0
WholeReads journal views =
    (id : ℕ) (v : View) → get_elem? views id ≡ maybe.some v → v.hand.spent ≡ false → IsWhole v.hand → v.sight.holding ≡ false
    → (n : ℕ) → v.sight.last ≡ Some n → n ≡ 2 * length journal

-- both parts, and the two sentences that join them
pub record Parts (b : BookData) (journal : List PostData) (holder : maybe.Option ℕ) (next : ℕ) (role : ℕ → Role) (keeper : ℕ → ℕ)
    (views : List View) : Type 0 where
  pub turn : TurnPart journal holder views
  pub passes : PassesPart b next role keeper (map hand_of views)
  pub posted : Posted role journal
  pub whole : WholeReads journal views

-- the rule
pub record Kept (b : BookData) (s : State Slot View) : Type 0 where
  pub journal : List PostData
  pub holder : maybe.Option ℕ
  pub next : ℕ
  pub role : ℕ → Role
  pub keeper : ℕ → ℕ
  pub words_are : s.words ≡ turn_word journal holder ∷ next ∷ []
  pub homes_are : s.homes ≡ home b journal holder ∷ []
  pub parts : Parts b journal holder next role keeper s.views
