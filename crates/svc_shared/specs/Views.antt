-- A view as plain data, and how the steps change it.
use Rattle.std.specs.Prelude.{◌≡◌, ℕ, ◌+◌, ◌-◌, ◌/◌, ltb, true, false, List, [], ◌∷◌, ◌++◌, length, if◌then◌else◌, Option, Some, None}
use Rattle.atomic_table.specs.Table.{Me}
use Rattle.svc_record.specs.Journal.{PostData, own_posts}
use Rattle.svc_shared.specs.BookData.{BookData}
use Rattle.svc_shared.specs.declared.view.Note.{Note}
use Rattle.svc_shared.specs.declared.view.Ended.{Ended}
use Rattle.svc_shared.specs.declared.view.SeatView.{SeatView}
use Rattle.svc_shared.specs.declared.view.View.{View}

-- what a slot holds: the book, or nothing while it is out of it
abbrev pub Slot : Type 0
Slot = Option BookData

-- a seat's view, with the slots that it holds
abbrev pub Mine : Type 0
Mine = Me Slot View

-- the list begins with the front
abbrev pub Begins : {A : Type 0} → List A → List A → Type 0
Begins {A} journal front = (rest : List A) × (journal ≡ front ++ rest)

-- the book with this journal
abbrev pub book_of : BookData → List PostData → BookData
book_of b journal = record { plan = b.plan; opening = b.opening; limit = b.limit; posts = journal }

-- the word i was read as n
abbrev pub note : ℕ → ℕ → Note
note i n = record { word = i; found = n }

-- the hand of a view
abbrev pub hand_of : View → SeatView
hand_of v = v.hand

-- the greatest number
abbrev pub most : ℕ
most = 18446744073709551615

-- the share has every number
abbrev pub IsWhole : SeatView → Type 0
IsWhole h = (h.low ≡ 0) × (h.high ≡ most)

-- the hand of the first pass: number 0, the whole share, and 1 drawn
abbrev pub first_hand : BookData → SeatView
first_hand b = record { spent = false; origin = Some b; number = 0; drawn = Some 1; low = 0; high = most; ended = [] }

-- the view of the first pass, which has seen nothing
abbrev pub first_view : BookData → View
first_view b = record {
  hand = first_hand b;
  sight = record { seen = []; own = []; notes = []; last = None; holding = false; base = []; told = [] };
}

-- the word i was read
abbrev pub noted : View → ℕ → ℕ → Option ℕ → View
noted v i n last = record {
  hand = v.hand;
  sight = record {
    seen = v.sight.seen;
    own = v.sight.own;
    notes = v.sight.notes ++ note i n
        ∷ [];
    last = last;
    holding = v.sight.holding;
    base = v.sight.base;
    told = v.sight.told;
  };
}

-- the turn was taken, where the journal was the base
abbrev pub took : View → ℕ → List PostData → View
took v n base = record {
  hand = v.hand;
  sight = record {
    seen = v.sight.seen;
    own = v.sight.own;
    notes = v.sight.notes ++ note 0 n
        ∷ [];
    last = None;
    holding = true;
    base = base;
    told = v.sight.told;
  };
}

-- the turn was left, with this journal
abbrev pub left : View → List PostData → View
left v journal = record {
  hand = v.hand;
  sight = record { seen = journal; own = own_posts journal v.hand.number; notes = v.sight.notes; last = None; holding = false; base = []; told = [] };
}

-- the hand with a drawn number
abbrev pub with_drawn : SeatView → ℕ → SeatView
with_drawn h k = record { spent = h.spent; origin = h.origin; number = h.number; drawn = Some k; low = h.low; high = h.high; ended = h.ended }

-- a number was drawn
abbrev pub drew : View → ℕ → View
drew v k = record {
  hand = with_drawn v.hand k;
  sight = record {
    seen = v.sight.seen;
    own = v.sight.own;
    notes = v.sight.notes;
    last = None;
    holding = v.sight.holding;
    base = v.sight.base;
    told = v.sight.told;
  };
}

-- the last number of the lower half of a share. Of an odd share the lower half has one number more
abbrev pub middle : SeatView → ℕ
middle h = h.low + (h.high - h.low) / 2

-- the drawn number, else this one
abbrev pub drawn_or : Option ℕ → ℕ → ℕ
drawn_or (Some k) d = k
drawn_or None d = d

-- the hand after a split
abbrev pub lower_hand : SeatView → SeatView
lower_hand h = record { spent = h.spent; origin = h.origin; number = h.number; drawn = None; low = h.low; high = middle h; ended = h.ended }

-- the hand of the second pass
abbrev pub upper_hand : SeatView → ℕ → SeatView
upper_hand h k = record { spent = h.spent; origin = h.origin; number = k; drawn = None; low = middle h + 1; high = h.high; ended = [] }

-- the view after a split
abbrev pub lower : View → View
lower v = record {
  hand = lower_hand v.hand;
  sight = record {
    seen = v.sight.seen;
    own = v.sight.own;
    notes = v.sight.notes;
    last = None;
    holding = v.sight.holding;
    base = v.sight.base;
    told = v.sight.told;
  };
}

-- the view of the second pass
abbrev pub upper : View → View
upper v = record {
  hand = upper_hand v.hand (drawn_or v.hand.drawn 0);
  sight = record { seen = v.sight.seen; own = []; notes = []; last = None; holding = false; base = []; told = [] };
}

-- a view's number with its posts
abbrev pub ended_seat : View → Ended
ended_seat w = record { number = w.hand.number; own = w.sight.own }

-- the left hand, with the right one's share, and its number as that of an ended seat with these posts
abbrev pub glued_hand : SeatView → SeatView → List (ℕ × PostData) → SeatView
glued_hand h g posts =
    record {
      spent = h.spent;
      origin = h.origin;
      number = h.number;
      drawn = h.drawn;
      low = h.low;
      high = g.high;
      ended = (h.ended ++ g.ended)
          ++ record { number = g.number; own = posts } ∷ [];
    }

-- the right pass ends in the left one
abbrev pub glued : View → View → View
glued v w = record {
  hand = glued_hand v.hand w.hand w.sight.own;
  sight = record {
    seen = v.sight.seen;
    own = v.sight.own;
    notes = v.sight.notes;
    last = None;
    holding = v.sight.holding;
    base = v.sight.base;
    told = w.sight.seen;
  };
}

-- what is left of a pass that was joined
abbrev pub spent_view : View
spent_view = record {
  hand = record { spent = true; origin = None; number = 0; drawn = None; low = 0; high = 0; ended = [] };
  sight = record { seen = []; own = []; notes = []; last = None; holding = false; base = []; told = [] };
}

-- the longer of two fronts
abbrev pub longer : List PostData → List PostData → List PostData
longer xs ys = if ltb (length xs) (length ys) then ys else xs

-- the turn's word was read, and of the two fronts the longer one stays
abbrev pub settled : View → ℕ → View
settled v n = record {
  hand = v.hand;
  sight = record {
    seen = longer v.sight.seen v.sight.told;
    own = v.sight.own;
    notes = v.sight.notes ++ note 0 n
        ∷ [];
    last = Some n;
    holding = v.sight.holding;
    base = v.sight.base;
    told = [];
  };
}
