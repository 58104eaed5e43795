-- KINDS 5 to 7, and the reads that go with them, as the table asks for them.
use Rattle.std.proofs.Common.{◌≡◌, ◌≢◌, inr, ⊎_elim, ℕ, ◌+◌, ◌*◌, ◌≤◌, ◌<◌, Bool, false, List, [], ◌∷◌, length, ◌==◌, if◌then◌else◌, refl, sym, ap, ◌∙◌, subst, arith, set, Some, None}
use mathlib.Core.Option as maybe
use lib.ListN.{get_elem?}
use prog.Atomic.{either}
use Rattle.std.proofs.lemmas.Bool.{cases_lt, lt-ltb, le-ltb}
use Rattle.atomic_table.specs.Table.{Step, step, Act, keeps, Valid, stepped, carried_after, Allows, Splits, Joins}
use Rattle.atomic_table.proofs.Lists.{exchanged, set_else}
use Rattle.svc_record.specs.Journal.{PostData}
use Rattle.svc_shared.specs.BookData.{BookData}
use Rattle.svc_shared.specs.declared.view.View.{View}
use Rattle.svc_shared.specs.Views.{Slot, Begins, IsWhole, noted, drew, lower, upper, glued, spent_view, longer, settled}
use Rattle.svc_shared.specs.Rule.{Role, turn_word, home, Parts, Kept}
use Rattle.svc_shared.specs.Steps.{counted, drew_one, settled_down}
use Rattle.svc_shared.proofs.OwnLemmas.{begins-whole, begins-shorter}
use Rattle.svc_shared.proofs.PartsLemmas.{whole_free, moved}
use Rattle.svc_shared.proofs.StepLemmas.{allowed}
use Rattle.svc_shared.proofs.HandLemmas.{drawn_role, draws}
use Rattle.svc_shared.proofs.SplitLemmas.{split_role, split_keeper, splits}
use Rattle.svc_shared.proofs.JoinLemmas.{rejoin, joins}
use Rattle.svc_base.proofs.Logic.{some-inj, none-some}

module _ (b : BookData) (id : ℕ) (v : View) (live : v.hand.spent ≡ false) where
  -- the number's word was read: the parts stay
  reads : (journal : List PostData) (holder : maybe.Option ℕ) (next : ℕ) (role : ℕ → Role) (keeper : ℕ → ℕ) (views : List View)
      → Parts b journal holder next role keeper views → get_elem? views id ≡ maybe.some v
      → (n : ℕ) → Parts b journal holder next role keeper (set views id (noted v 1 n None))
  reads journal holder next role keeper views parts at n =
      let was = parts.turn.each id v at live in
      moved b next role keeper journal holder views parts id v at live journal holder (noted v 1 n None) refl
      record { front = was.front; told_is = was.told_is; own_is = was.own_is; holding_is = was.holding_is; base_is = was.base_is; ended_are = was.ended_are }
      (λ j u ne e u_live k. k) (λ j is. inr is) parts.posted (λ whole _ m is. absurd (none-some m is))

  -- KIND 1: a load of the number's word
  pub counts : (slots : ℕ) (cs : List (ℕ × Slot)) (st : Step Slot) → Allows (Kept b) slots id (v, cs) 1 (λ n. n) (counted st (v, cs))
  counts slots cs st = allowed b slots id v cs 1 (λ n. n) (counted st (v, cs)) (λ journal holder next role keeper views parts at small. (
    noted v 1 next None,
    keeps,
    tt,
    record {
      journal = journal;
      holder = holder;
      next = next;
      role = role;
      keeper = keeper;
      words_are = refl;
      homes_are = refl;
      parts = reads journal holder next role keeper views parts at next;
    },
    refl,
  ))

  -- KIND 5: a draw
  module _ (slots old new : ℕ) (cs : List (ℕ × Slot)) (next_is : new ≡ old + 1) where
    abbrev drawing : Step Slot
    drawing = step slots 1 old new maybe.none

    abbrev Goes : List PostData → maybe.Option ℕ → ℕ → List View → ℕ → Type 0
    Goes journal holder next views x =
        (w : View) × (a : Act Slot) × Valid (home b journal holder ∷ []) cs a
        × Kept b (stepped record { words = turn_word journal holder ∷ next ∷ []; homes = home b journal holder ∷ []; views = views } 1 x id cs w a)
        × drew_one drawing (v, cs) next (w, carried_after cs a)

    pub draws_one : Allows (Kept b) slots id (v, cs) 1 (λ n. either (n == old) new n) (drew_one drawing (v, cs))
    draws_one = allowed b slots id v cs 1 (λ n. either (n == old) new n) (drew_one drawing (v, cs)) (λ journal holder next role keeper views parts at small.
        exchanged next old new (Goes journal holder next views)
        (λ (hit : next ≡ old). (
          drew v next,
          keeps,
          tt,
          record {
            journal = journal;
            holder = holder;
            next = next + 1;
            role = drawn_role role id next;
            keeper = keeper;
            words_are = ap (λ (x : ℕ). turn_word journal holder ∷ x ∷ []) (next_is ∙ ap (λ (x : ℕ). x + 1) (sym hit));
            homes_are = refl;
            parts = draws b next role keeper journal holder views parts id v at live;
          },
          ((λ _. refl), λ ne. absurd (ne hit)),
        ))
        (λ (ne : next ≢ old). (
          noted v 1 next None,
          keeps,
          tt,
          record {
            journal = journal;
            holder = holder;
            next = next;
            role = role;
            keeper = keeper;
            words_are = refl;
            homes_are = refl;
            parts = reads journal holder next role keeper views parts at next;
          },
          ((λ hit. absurd (ne hit)), λ _. refl),
        )))

  -- KIND 6: a split
  pub cuts : (k : ℕ) → v.hand.drawn ≡ Some k → v.hand.low < v.hand.high → Splits (Kept b) id v (lower v) (upper v)
  cuts k has two s rule at = record {
    journal = rule.journal;
    holder = rule.holder;
    next = rule.next;
    role = split_role rule.role (length s.views) k;
    keeper = split_keeper rule.keeper id (length s.views) (Rattle.svc_shared.specs.Views.middle v.hand);
    words_are = rule.words_are;
    homes_are = rule.homes_are;
    parts = splits b rule.next rule.role rule.keeper rule.journal rule.holder s.views rule.parts id v at live k has two;
  }

  -- KIND 7: a join
  pub glues : (other : ℕ) (w : View) → w.hand.spent ≡ false → w.sight.holding ≡ false → w.hand.low ≡ v.hand.high + 1
      → Joins (Kept b) id v other w (glued v w) spent_view
  glues other w w-live w-free after s rule at ne w-at = record {
    journal = rule.journal;
    holder = rule.holder;
    next = rule.next;
    role = λ n. rejoin id other (rule.role n);
    keeper = λ x. if rule.keeper x == other then id else rule.keeper x;
    words_are = rule.words_are;
    homes_are = rule.homes_are;
    parts = joins b rule.next rule.role rule.keeper rule.journal rule.holder s.views rule.parts id v at live other w
        (sym (set_else s.views id other (glued v w) ne) ∙ w-at) w-live ne w-free after;
  }

-- of two fronts of one journal the longer one begins with both
longer_begins : (journal xs ys : List PostData) → Begins journal xs → Begins journal ys
    → Begins (longer xs ys) xs × Begins (longer xs ys) ys × Begins journal (longer xs ys)
longer_begins journal xs ys b c = ⊎_elim
    (λ (lt : length xs < length ys). let is : ys ≡ longer xs ys = ap (λ (t : Bool). if t then ys else xs) (sym (lt-ltb (length xs) (length ys) lt)) in
    subst (λ (zs : List PostData). Begins zs xs × Begins zs ys × Begins journal zs) is (begins-shorter journal xs ys b c (omega arith), begins-whole ys, c))
    (λ (le : length ys ≤ length xs). let is : xs ≡ longer xs ys = ap (λ (t : Bool). if t then ys else xs) (sym (le-ltb (length xs) (length ys) le)) in
    subst (λ (zs : List PostData). Begins zs xs × Begins zs ys × Begins journal zs) is (begins-whole xs, begins-shorter journal ys xs c b le, b))
    (cases_lt (length xs) (length ys))

-- KIND 1: a load of the turn's word, after which a joined pass has one front
pub settles : (b : BookData) (slots id : ℕ) (v : View) (cs : List (ℕ × Slot)) (st : Step Slot) → v.hand.spent ≡ false → v.sight.holding ≡ false
    → Allows (Kept b) slots id (v, cs) 0 (λ n. n) (settled_down st (v, cs))
settles b slots id v cs st live free = allowed b slots id v cs 0 (λ n. n) (settled_down st (v, cs)) (λ journal holder next role keeper views parts at small.
    let n : ℕ = turn_word journal holder in
    let w : View = settled v n in
    let was = parts.turn.each id v at live in
    let front = longer_begins journal v.sight.seen v.sight.told was.front was.told_is in
    let word : IsWhole v.hand
    → n ≡ 2 * length journal = λ whole. ap (turn_word journal) (whole_free b next role keeper journal holder views parts id v at live whole free) in (
      w,
      keeps,
      tt,
      record {
        journal = journal;
        holder = holder;
        next = next;
        role = role;
        keeper = keeper;
        words_are = refl;
        homes_are = refl;
        parts = moved b next role keeper journal holder views parts id v at live journal holder w refl
            record {
              front = front.2;
              told_is = (journal, refl);
              own_is = was.own_is;
              holding_is = was.holding_is;
              base_is = was.base_is;
              ended_are = was.ended_are;
            }
            (λ j u ne e u_live k. k) (λ j is. inr is) parts.posted (λ whole _ m is. sym (some-inj n m is) ∙ word whole);
      },
      (refl, front.0, front.1),
    ))
