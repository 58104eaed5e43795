-- Each kind of step keeps the rule.
use Rattle.std.proofs.Common.{◌≡◌, ◌≢◌, ◌⊎◌, inl, inr, ⊎_elim, ℕ, ◌+◌, ◌*◌, ◌%◌, ◌<◌, Bool, true, false, List, [], ◌∷◌, ◌++◌, length, get_or, slice_set, ◌==◌, refl, sym, ap, ◌∙◌, subst, arith, eq-eqb, ne_eqb, eqb-true, length-append, Some, None, Option}
use mathlib.Core.Option as maybe
use lib.ListN.{get_elem?}
use prog.Atomic.{either}
use Rattle.atomic_table.specs.Table.{Step, step, Act, keeps, takes, gives, Valid, stepped, carried_after, rest, Allows}
use Rattle.atomic_table.proofs.Lists.{exchanged}
use Rattle.svc_record.specs.Journal.{PostData, own_posts}
use Rattle.svc_shared.specs.BookData.{BookData}
use Rattle.svc_shared.specs.declared.view.View.{View}
use Rattle.svc_shared.specs.Views.{Slot, Mine, Begins, book_of, IsWhole, noted, took, left}
use Rattle.svc_shared.specs.Rule.{Role, drawn, seated, kept, may_post, turn_word, home, is_holder, Posted, Parts, Kept}
use Rattle.svc_shared.specs.Turn.{Lifted, GivesBack}
use Rattle.svc_shared.specs.Steps.{IsUnused, looked, taken, left_turn}
use Rattle.svc_shared.proofs.OwnLemmas.{own-other, own-none, posted-front, posted-more, begins-whole, begins-trans}
use Rattle.svc_shared.proofs.PartsLemmas.{hand_at, whole_free, moved}
use Rattle.svc_base.proofs.Logic.{some-inj}

-- what a step owes, with the words and the homes written out
abbrev pub Here : BookData → ℕ → View → List (ℕ × Slot) → ℕ → (ℕ → ℕ) → (ℕ → Mine → Type 0) → List ℕ → List (maybe.Option Slot) → List View → Type 0
Here b id v cs i f then ws hs views =
    get_or ws i 0 < 18446744073709551616
    → (w : View) × (a : Act Slot) × Valid hs cs a × Kept b (stepped record { words = ws; homes = hs; views = views } i (f (get_or ws i 0)) id cs w a)
    × then (get_or ws i 0) (w, carried_after cs a)

pub allowed : (b : BookData) (slots id : ℕ) (v : View) (cs : List (ℕ × Slot)) (i : ℕ) (f : ℕ → ℕ) (then : ℕ → Mine → Type 0)
    → ((journal : List PostData) (holder : maybe.Option ℕ) (next : ℕ) (role : ℕ → Role) (keeper : ℕ → ℕ) (views : List View)
    → Parts b journal holder next role keeper views → get_elem? views id ≡ maybe.some v
    → Here b id v cs i f then (turn_word journal holder ∷ next ∷ []) (home b journal holder ∷ []) views)
    → Allows (Kept b) slots id (v, cs) i f then
allowed b slots id v cs i f then go s rule long at small =
    subst (λ (ws : List ℕ). Here b id v cs i f then ws s.homes s.views) (sym rule.words_are)
    (subst (λ (hs : List (maybe.Option Slot)). Here b id v cs i f then (turn_word rule.journal rule.holder ∷ rule.next ∷ []) hs s.views) (sym rule.homes_are)
    (go rule.journal rule.holder rule.next rule.role rule.keeper s.views rule.parts at)) small

same-some : (x y : BookData) → ◌≡◌ {A = Option BookData} (Some x) (Some y) → x ≡ y
same-some x y e = cc

even_of : (n : ℕ) → (2 * n) % 2 ≡ 0
even_of n = omega arith

odd_of : (n : ℕ) → (2 * n + 1) % 2 ≡ 1
odd_of n = omega arith

drawn-not : (i j : ℕ) (r : Role) → r ≡ drawn i → (r ≡ seated j) ⊎ (r ≡ kept j) → ⊥
drawn-not i j r e f = ⊎_elim (λ s. drawn-seated i j (sym e ∙ s)) (λ s. drawn-kept i j (sym e ∙ s)) f
  where
    drawn-seated : (i j : ℕ) → drawn i ≡ seated j → ⊥
    drawn-seated i j e = cc

    drawn-kept : (i j : ℕ) → drawn i ≡ kept j → ⊥
    drawn-kept i j e = cc

-- a drawn number has no post yet, and is nobody's
unused : (b : BookData) (next : ℕ) (role : ℕ → Role) (keeper : ℕ → ℕ) (journal : List PostData) (holder : maybe.Option ℕ) (views : List View)
    → Parts b journal holder next role keeper views
    → (id : ℕ) (v : View) → get_elem? views id ≡ maybe.some v → v.hand.spent ≡ false → (k : ℕ) → v.hand.drawn ≡ Some k → IsUnused v k
unused b next role keeper journal holder views parts id v at live k is =
    let hand = parts.passes.each id v.hand (hand_at b next role keeper journal holder views parts id v at live id v at) live in
    let mine = hand.drawn_is k is in
    let front = (parts.turn.each id v at live).front in
    let posted = posted-front role v.sight.seen front.0 (subst (Posted role) front.1 parts.posted) in (
      own-none role k v.sight.seen (ap may_post mine) posted,
      λ seat. ⊎_elim (λ same. drawn-not id id (role k) mine (inl (ap role same ∙ hand.number_is)))
          (λ e. drawn-not id id (role k) mine (inr (ap role (sym e.3) ∙ hand.ended_are e.0 e.1 e.2))) seat,
    )

-- KIND 1: a load of the turn's word
pub looks : (b : BookData) (slots id : ℕ) (v : View) (cs : List (ℕ × Slot)) (st : Step Slot) → v.hand.spent ≡ false → v.sight.holding ≡ false
    → Allows (Kept b) slots id (v, cs) 0 (λ n. n) (looked st (v, cs))
looks b slots id v cs st live free = allowed b slots id v cs 0 (λ n. n) (looked st (v, cs)) (λ journal holder next role keeper views parts at small.
    let n : ℕ = turn_word journal holder in
    let w : View = noted v 0 n (Some n) in
    let was = parts.turn.each id v at live in
    let word : IsWhole v.hand
    → n ≡ 2 * length journal = λ whole. ap (turn_word journal) (whole_free b next role keeper journal holder views parts id v at live whole free) in (
      w,
      keeps,
      tt,
      record {
        journal = journal;
        holder = holder;
        next = next;
        role = role;
        keeper = keeper;
        words_are = refl;
        homes_are = refl;
        parts = moved b next role keeper journal holder views parts id v at live journal holder w refl
            record {
              front = was.front;
              told_is = was.told_is;
              own_is = was.own_is;
              holding_is = was.holding_is;
              base_is = was.base_is;
              ended_are = was.ended_are;
            }
            (λ j u ne e u_live k. k) (λ j is. inr is) parts.posted (λ whole _ m is. sym (some-inj n m is) ∙ word whole);
      },
      (
        refl,
        (λ whole. ap (λ (x : ℕ). x % 2) (word whole) ∙ even_of (length journal)),
        λ k is. unused b next role keeper journal holder views parts id v at live
            k is,
      ),
    ))

-- KIND 2: a compare and exchange that takes the turn, or is lost, which is kind 1
module _ (b : BookData) (slots id old new : ℕ) (v : View) (cs : List (ℕ × Slot)) where
  abbrev taking : Step Slot
  taking = step slots 0 old new maybe.none

  -- the step, where the word becomes x
  abbrev Goes : List PostData → maybe.Option ℕ → ℕ → List View → ℕ → Type 0
  Goes journal holder next views x =
      (w : View) × (a : Act Slot) × Valid (home b journal holder ∷ []) cs a
      × Kept b (stepped record { words = turn_word journal holder ∷ next ∷ []; homes = home b journal holder ∷ []; views = views } 0 x id cs w a)
      × taken taking (v, cs) (turn_word journal holder) (w, carried_after cs a)

  module _ (live : v.hand.spent ≡ false) (free : v.sight.holding ≡ false) (even : old % 2 ≡ 0) (next_is : new ≡ old + 1) where
    hits : (journal : List PostData) (holder : maybe.Option ℕ) (next : ℕ) (role : ℕ → Role) (keeper : ℕ → ℕ) (views : List View)
        → Parts b journal holder next role keeper views → get_elem? views id ≡ maybe.some v
        → turn_word journal holder ≡ old → Goes journal holder next views new
    hits journal maybe.none next role keeper views parts at is =
        let n : ℕ = 2 * length journal in
        let w : View = took v n journal in
        let was = parts.turn.each id v at live in
        let hand = parts.passes.each id v.hand (hand_at b next role keeper journal maybe.none views parts id v at live id v at) live in
        let word : new ≡ 2 * length journal + 1 = omega arith in
        let me : (id == id) ≡ true = eq-eqb id id refl in (
          w,
          takes 0 (Some (book_of b journal)),
          refl,
          record {
            journal = journal;
            holder = maybe.some id;
            next = next;
            role = role;
            keeper = keeper;
            words_are = ap (λ (x : ℕ). x ∷ next ∷ []) word;
            homes_are = refl;
            parts = moved b next role keeper journal maybe.none views parts id v at live journal (maybe.some id) w refl
                record { front = was.front; told_is = was.told_is; own_is = was.own_is; holding_is = sym me; base_is = λ _. refl; ended_are = was.ended_are }
                (λ j u ne e u_live k. let other : (id == j) ≡ false = ne_eqb id j (λ s. ne (sym s)) in
                record {
                  front = k.front;
                  told_is = k.told_is;
                  own_is = k.own_is;
                  holding_is = k.holding_is
                      ∙ sym other;
                  base_is = k.base_is;
                  ended_are = k.ended_are;
                })
                (λ j is. inl (sym (maybe.some-injective id j is))) parts.posted (λ whole f. absurd (cc));
          },
          (
            (λ _ b' ours. (
              journal,
              ap (λ (z : BookData). (w, (0, Some (book_of z journal)) ∷ cs))
                  (same-some b b' (sym hand.origin_is ∙ ours)),
              was.front,
              refl,
              was.own_is,
            )),
            (λ ne. absurd (ne is)),
            (λ _ _. is),
          ),
        )
    hits journal (maybe.some h) next role keeper views parts at is =
        let odd = odd_of (length journal) in let bad : old % 2 ≡ 1 = sym (ap (λ (x : ℕ). x % 2) is) ∙ odd in absurd (omega arith)

    misses : (journal : List PostData) (holder : maybe.Option ℕ) (next : ℕ) (role : ℕ → Role) (keeper : ℕ → ℕ) (views : List View)
        → Parts b journal holder next role keeper views → get_elem? views id ≡ maybe.some v
        → turn_word journal holder ≢ old → Goes journal holder next views (turn_word journal holder)
    misses journal holder next role keeper views parts at ne =
        let n : ℕ = turn_word journal holder in
        let w : View = noted v 0 n (Some n) in
        let was = parts.turn.each id v at live in
        let word : IsWhole v.hand
        → n ≡ 2 * length journal = λ whole. ap (turn_word journal) (whole_free b next role keeper journal holder views parts id v at live whole free) in (
          w,
          keeps,
          tt,
          record {
            journal = journal;
            holder = holder;
            next = next;
            role = role;
            keeper = keeper;
            words_are = refl;
            homes_are = refl;
            parts = moved b next role keeper journal holder views parts id v at live journal holder w refl
                record {
                  front = was.front;
                  told_is = was.told_is;
                  own_is = was.own_is;
                  holding_is = was.holding_is;
                  base_is = was.base_is;
                  ended_are = was.ended_are;
                }
                (λ j u ne e u_live k. k) (λ j is. inr is) parts.posted (λ whole _ m is. sym (some-inj n m is) ∙ word whole);
          },
          (
            (λ hit. absurd (ne hit)),
            (λ _. refl),
            (λ whole read. word whole ∙ sym (parts.whole id v at live whole free old read)),
          ),
        )

    pub takes_turn : Allows (Kept b) slots id (v, cs) 0 (λ n. either (n == old) new n) (taken taking (v, cs))
    takes_turn = allowed b slots id v cs 0 (λ n. either (n == old) new n) (taken taking (v, cs)) (λ journal holder next role keeper views parts at small.
        exchanged (turn_word journal holder) old new (Goes journal holder next views) (hits journal holder next role keeper views parts at)
        (misses journal holder next role keeper views parts at))

kept-not-seated : (i j : ℕ) → kept i ≡ seated j → ⊥
kept-not-seated i j e = cc

seated-inj : (i j : ℕ) → seated i ≡ seated j → i ≡ j
seated-inj i j e = cc

not-both : (f : Bool) → f ≡ true → f ≡ false → ⊥
not-both f t e = cc

first_book : BookData → List (ℕ × Slot) → BookData
first_book d [] = d
first_book d (x ∷ xs) = in_slot x.1
  where
    in_slot : Slot → BookData
    in_slot (Some y) = y
    in_slot None = d

out-inj : (x y : BookData) → ◌≡◌ {A = List (ℕ × Slot)} ((0, Some x) ∷ []) ((0, Some y) ∷ []) → x ≡ y
unfolding first_book
out-inj x y e = ap (first_book x) e

-- who holds the turn is the holder
holder_is : (holder : maybe.Option ℕ) (id : ℕ) → is_holder holder id ≡ true → holder ≡ maybe.some id
holder_is maybe.none id is = absurd (cc)
holder_is (maybe.some h) id is = ap maybe.some (eqb-true h id is)

-- KINDS 3 and 4: the turn is left. The book that is given back has the journal as it was, or with posts of this seat more
module _ (b : BookData) (slots id old new : ℕ) (v : View) (after : List PostData) where
  abbrev Lasts : Type 0
  Lasts = (journal : List PostData) (role : ℕ → Role) → v.sight.base ≡ journal → role v.hand.number ≡ seated id → Posted role journal
      → Begins after journal × Posted role after × ((n : ℕ) → role n ≢ seated id → own_posts after n ≡ own_posts journal n)

  abbrev out : List (ℕ × Slot)
  out = (0, Some (book_of b after)) ∷ []

  module _ (live : v.hand.spent ≡ false) (holds : v.sight.holding ≡ true) (old_is : old ≡ 2 * length v.sight.base + 1) (new_is : new ≡ 2 * length after) where
    leaves : Lasts → (st : Step Slot) → Allows (Kept b) slots id (v, out) 0 (λ n. either (n == old) new n) (left_turn st (v, out))
    leaves lasts st = allowed b slots id v out 0 (λ n. either (n == old) new n) (left_turn st (v, out)) (λ journal holder next role keeper views parts at small.
        let was = parts.turn.each id v at live in
        let is : holder ≡ maybe.some id = holder_is holder id (sym was.holding_is ∙ holds) in
        let base : v.sight.base ≡ journal = was.base_is holds in
        let w : View = left v after in
        let hand = parts.passes.each id v.hand (hand_at b next role keeper journal holder views parts id v at live id v at) live in
        let last = lasts journal role base hand.number_is parts.posted in
        let word : turn_word journal holder ≡ old = ap (turn_word journal) is ∙ (ap (λ (js : List PostData). 2 * length js + 1) (sym base) ∙ sym old_is) in
        let becomes : either (turn_word journal holder == old) new (turn_word journal holder) ≡ 2 * length after =
        ap (λ (t : Bool). either t new (turn_word journal holder)) (eq-eqb (turn_word journal holder) old word) ∙ new_is in
        let others : (j : ℕ) → j ≢ id → is_holder holder j ≡ false = λ j ne. ap (λ (h : maybe.Option ℕ). is_holder h j) is ∙ ne_eqb id j (λ s. ne (sym s)) in
        let homes : slice_set (home b journal holder ∷ []) 0 (maybe.some (Some (book_of b after))) ≡ maybe.some (Some (book_of b after)) ∷ [] = refl in (
          w,
          gives,
          tt,
          record {
            journal = after;
            holder = maybe.none;
            next = next;
            role = role;
            keeper = keeper;
            words_are = ap (λ (x : ℕ). x ∷ next ∷ []) becomes;
            homes_are = homes;
            parts = moved b next role keeper journal holder views parts id v at live after maybe.none w refl
                record {
                  front = begins-whole after;
                  told_is = (after, refl);
                  own_is = refl;
                  holding_is = refl;
                  base_is = λ f. absurd (cc);
                  ended_are = λ k e there. was.ended_are k e there ∙ sym (last.2 e.number (λ s. kept-not-seated id id (sym (hand.ended_are k e there) ∙ s)));
                }
                (λ j u ne e u_live k. let g = parts.passes.each j u.hand (hand_at b next role keeper journal holder views parts id v at live j u e) u_live in
                record {
                  front = begins-trans after journal u.sight.seen last.0 k.front;
                  told_is = begins-trans after journal u.sight.told last.0 k.told_is;
                  own_is = k.own_is ∙ sym (last.2 u.hand.number (λ s. ne (seated-inj j id (sym g.number_is ∙ s))));
                  holding_is = k.holding_is ∙ others j ne;
                  base_is = λ f. absurd (not-both u.sight.holding f (k.holding_is ∙ others j ne));
                  ended_are = λ i x there. k.ended_are i x there ∙ sym (last.2 x.number (λ s. kept-not-seated j id (sym (g.ended_are i x there) ∙ s)));
                })
                (λ j none. absurd (maybe.some-ne-none j (sym none))) last.1 (λ whole f n none. absurd (cc));
          },
          (λ book is. let same : book_of b after ≡ book = out-inj (book_of b after) book is in ap (λ (z : BookData). (left v z.posts, [])) same),
        ))

  -- KIND 4
  pub leaves_without : v.hand.spent ≡ false → v.sight.holding ≡ true → old ≡ 2 * length v.sight.base + 1 → new ≡ 2 * length after → after ≡ v.sight.base
      → (st : Step Slot) → Allows (Kept b) slots id (v, out) 0 (λ n. either (n == old) new n) (left_turn st (v, out))
  leaves_without live holds old_is new_is same st = leaves live holds old_is new_is (λ journal role base mine posted.
      let is : journal ≡ after = sym (same ∙ base) in
      subst (λ (js : List PostData). Begins js journal × Posted role js × ((n : ℕ) → role n ≢ seated id → own_posts js n ≡ own_posts journal n)) is
      (begins-whole journal, posted, λ n ne. refl)) st

  -- KIND 3
  pub leaves_with : (p : PostData) → v.hand.spent ≡ false → v.sight.holding ≡ true → old ≡ 2 * length v.sight.base + 1 → new ≡ 2 * length after
      → after ≡ v.sight.base ++ p ∷ [] → p.seat ≡ v.hand.number
      → (st : Step Slot) → Allows (Kept b) slots id (v, out) 0 (λ n. either (n == old) new n) (left_turn st (v, out))
  leaves_with p live holds old_is new_is more by st = leaves live holds old_is new_is (λ journal role base mine posted.
      let is : journal ++ p ∷ [] ≡ after = sym (more ∙ ap (λ (js : List PostData). js ++ p ∷ []) base) in
      let seat : role p.seat ≡ seated id = ap role by ∙ mine in
      subst (λ (js : List PostData). Begins js journal × Posted role js × ((n : ℕ) → role n ≢ seated id → own_posts js n ≡ own_posts journal n)) is
      ((p ∷ [], refl), posted-more role journal p posted (ap may_post seat), λ n ne. own-other n journal p (λ s. ne (ap role (sym s) ∙ seat)))) st

-- the two kinds as a caller has them: the seat m gives the book back
abbrev pub Leaves : BookData → ℕ → ℕ → ℕ → ℕ → Mine → Type 0
Leaves b slots id old new m = (st : Step Slot) → Allows (Kept b) slots id m 0 (λ n. either (n == old) new n) (left_turn st m)

leaves_by : (b : BookData) (slots id old new : ℕ) (m : Mine) (book : BookData) (after : List PostData) → m.1 ≡ (0, Some book) ∷ [] → book ≡ book_of b after
    → Leaves b slots id old new (m.0, (0, Some (book_of b after)) ∷ []) → Leaves b slots id old new m
leaves_by b slots id old new m book after carries is law =
    let same : m.1 ≡ (0, Some (book_of b after)) ∷ [] = carries ∙ ap (λ (x : BookData). (0, Some x) ∷ []) is in
    subst (λ (cs : List (ℕ × Slot)). Leaves b slots id old new (m.0, cs)) (sym same) law

pub leave_without : (b : BookData) (slots id old new : ℕ) (m : Mine) (book : BookData) → m.0.hand.spent ≡ false → m.0.sight.holding ≡ true
    → m.1 ≡ (0, Some book) ∷ [] → book ≡ book_of b m.0.sight.base
    → old ≡ 2 * length m.0.sight.base + 1 → new ≡ 2 * length m.0.sight.base → Leaves b slots id old new m
leave_without b slots id old new m book live holds carries is old_is new_is =
    leaves_by b slots id old new m book m.0.sight.base carries is (λ st. leaves_without b slots id old new m.0 m.0.sight.base live holds old_is new_is refl st)

pub leave_with : (b : BookData) (slots id old new : ℕ) (m : Mine) (book : BookData) (p : PostData) → m.0.hand.spent ≡ false → m.0.sight.holding ≡ true
    → m.1 ≡ (0, Some book) ∷ [] → book ≡ book_of b (m.0.sight.base ++ p ∷ [])
    → p.seat ≡ m.0.hand.number → old ≡ 2 * length m.0.sight.base + 1 → new ≡ 2 * length (m.0.sight.base ++ p ∷ []) → Leaves b slots id old new m
leave_with b slots id old new m book p live holds carries is by old_is new_is =
    leaves_by b slots id old new m book (m.0.sight.base ++ p ∷ []) carries is
    (λ st. leaves_with b slots id old new m.0 (m.0.sight.base ++ p ∷ []) p live holds old_is new_is refl by st)

-- what a seat has that holds one slot
pub holds_one : (cs : List (ℕ × Slot)) (x : Slot) → cs ≡ (0, x) ∷ [] → cs ≡ (0, x) ∷ rest cs
holds_one cs x e = e ∙ ap (λ (ds : List (ℕ × Slot)). (0, x) ∷ rest ds) (sym e)

-- the step that leaves the turn, for a seat that lifted the book and put one back
pub leaves_back : (b : BookData) (slots id word next : ℕ) (m m' : Mine) (book : BookData) → Lifted word m → GivesBack b book word next m
    → m' ≡ (m.0, (0, Some book) ∷ rest m.1) → Leaves b slots id (word + 1) next m'
leaves_back b slots id word next m m' book lifted back is =
    let now : m' ≡ (m.0, (0, Some book) ∷ []) = is ∙ ap (λ (cs : List (ℕ × Slot)). (m.0, (0, Some book) ∷ rest cs)) lifted.carries in
    let one : Mine = (m.0, (0, Some book) ∷ []) in
    let len : word ≡ 2 * length m.0.sight.base = lifted.word_is in
    subst (λ (x : Mine). Leaves b slots id (word + 1) next x) (sym now) (⊎_elim
    (λ (same : (book ≡ book_of b m.0.sight.base) × (next ≡ word)).
    leave_without b slots id (word + 1) next one book lifted.live lifted.holding refl same.0 (ap (λ (k : ℕ). k + 1) len) (same.1 ∙ len))
    (λ (more : (p : PostData) × (book ≡ book_of b (m.0.sight.base ++ p ∷ [])) × (p.seat ≡ m.0.hand.number) × (next ≡ word + 2)).
    let count = length-append m.0.sight.base (more.0 ∷ []) in
    let word_is : next ≡ 2 * length (m.0.sight.base ++ more.0 ∷ []) = let n = more.3 in omega arith in
    leave_with b slots id (word + 1) next one book more.0 lifted.live lifted.holding refl more.1 more.2 (ap (λ (k : ℕ). k + 1) len) word_is)
    back)

-- and what it leaves
pub left_back : (word : ℕ) (m m' after : Mine) (book : BookData) → Lifted word m → m' ≡ (m.0, (0, Some book) ∷ rest m.1)
    → ((b : BookData) → m'.1 ≡ (0, Some b) ∷ [] → after ≡ (left m'.0 b.posts, [])) → after ≡ (left m.0 book.posts, [])
left_back word m m' after book lifted is told =
    let now : m' ≡ (m.0, (0, Some book) ∷ []) = is ∙ ap (λ (cs : List (ℕ × Slot)). (m.0, (0, Some book) ∷ rest cs)) lifted.carries in
    told book (ap (λ (x : Mine). x.1) now) ∙ ap (λ (x : Mine). (left x.0 book.posts, [])) now
