-- A worker's deeds one after the other.
use Rattle.std.proofs.Common.{◌≡◌, ◌≢◌, ℕ, ◌+◌, ◌<◌, ◌≤◌, Bool, List, [], ◌∷◌, ◌++◌, length, Option, Some, None, refl, sym, ap, ◌∙◌, subst, arith, append_assoc, append-nil, length-append}
use Rattle.svc_base.specs.Streams.{Rose}
use Rattle.svc_base.specs.Calls.{Adds}
use Rattle.svc_base.proofs.CallLemmas.{Adds-nil, Adds-then, Stays-same, Stays-then}
use Rattle.svc_record.specs.declared.event.Event.{Event}
use Rattle.svc_record.specs.declared.action.Action.{Action}
use Rattle.svc_record.specs.declared.action.StepEnd.TheVariants.{On}
use Rattle.svc_record.specs.Journal.{PostData}
use Rattle.svc_shared.specs.BookData.{BookData}
use Rattle.svc_shared.specs.Journals.{FitsAfter, end_after}
use Rattle.svc_shared.specs.declared.pass.Pass.{Pass}
use Rattle.svc_shared.specs.declared.pass.SharedServer.{SharedServer}
use Rattle.svc_shared.specs.Views.{Begins}
use Rattle.svc_shared.specs.Posting.{IsOf, seen_of, own_of, origin_of}
use Rattle.svc_shared.proofs.OwnLemmas.{begins-whole, begins-trans}
use Rattle.svc_desk.specs.declared.stray.Strayed.{Strayed}
use Rattle.svc_desk.specs.declared.worker.WorkEnd.{WorkEnd}
use Rattle.svc_desk.specs.declared.worker.WorkEnd.TheVariants as ends
use Rattle.svc_desk.specs.Desks.{DeskData, DeskStays, IsPerformed, Grew}
use Rattle.svc_desk.specs.Deeds.{Deed, posted, strayed, events_of, posts_of, actions_of, stray_events, stray, strays_from, SaidBy, OfFront, Follows, LeavesOn, EndsRun, EndsBy, GrewUpTo, call_count}
use Rattle.svc_desk.specs.Working.{IsDone, IsAtDesk, TurnEnds}

pub stays-same : (d : DeskData) → DeskStays d d
stays-same d = record {
  met = refl;
  says = refl;
  taken = Stays-same d.taken d.room;
  performed = Stays-same d.performed d.room;
  refused = Stays-same d.refused d.room;
  takes = λ some. refl;
}

pub stays-then : (a b c : DeskData) → DeskStays a b → DeskStays b c → DeskStays a c
stays-then a b c p q = record {
  met = q.met ∙ p.met;
  says = q.says ∙ p.says;
  taken = Stays-then p.taken q.taken;
  performed = Stays-then p.performed q.performed;
  refused = Stays-then p.refused q.refused;
  takes = λ some. q.takes some ∙ p.takes (omega (arith, some, q.taken.falls));
}

pub performed-none : (d : DeskData) → IsPerformed d d []
performed-none d = record {
  performed = Adds-nil d.performed;
  taken = refl;
  refused = refl;
  takes = refl;
  stays = stays-same d;
  place = omega arith;
  faults = refl;
  idles = refl;
}

pub performed-then : (a b c : DeskData) (xs ys : List Action) → IsPerformed a b xs → IsPerformed b c ys → IsPerformed a c (xs ++ ys)
performed-then a b c xs ys p q = record {
  performed = Adds-then a.performed b.performed c.performed xs ys p.performed q.performed;
  taken = q.taken ∙ p.taken;
  refused = q.refused ∙ p.refused;
  takes = q.takes ∙ p.takes;
  stays = stays-then a b c p.stays q.stays;
  place = (let n = length-append xs ys in omega (arith, p.place, q.place, n));
  faults = q.faults ∙ p.faults;
  idles = q.idles ∙ p.idles;
}

events-append : (xs ys : List Deed) → events_of (xs ++ ys) ≡ events_of xs ++ events_of ys
events-append [] ys = refl
events-append (posted own ∷ xs) ys = ap (λ (l : List Event). own.1.event ∷ l) (events-append xs ys)
events-append (strayed e seen ∷ xs) ys = ap (λ (l : List Event). e ∷ l) (events-append xs ys)

pub events-length : (ds : List Deed) → length (events_of ds) ≡ length ds
events-length [] = refl
events-length (posted own ∷ ds) = let e = events-length ds in omega (arith, e)
events-length (strayed e seen ∷ ds) = let f = events-length ds in omega (arith, f)

posts-append : (xs ys : List Deed) → posts_of (xs ++ ys) ≡ posts_of xs ++ posts_of ys
posts-append [] ys = refl
posts-append (posted own ∷ xs) ys = ap (λ (l : List (ℕ × PostData)). own ∷ l) (posts-append xs ys)
posts-append (strayed e seen ∷ xs) ys = posts-append xs ys

actions-append : (xs ys : List Deed) → actions_of (xs ++ ys) ≡ actions_of xs ++ actions_of ys
actions-append [] ys = refl
actions-append (posted own ∷ xs) ys = ap (λ (l : List Action). own.1.actions ++ l) (actions-append xs ys) ∙ sym
    (append_assoc own.1.actions (actions_of xs) (actions_of ys))
actions-append (strayed e seen ∷ xs) ys = actions-append xs ys

stray_events-append : (xs ys : List Deed) → stray_events (xs ++ ys) ≡ stray_events xs ++ stray_events ys
stray_events-append [] ys = refl
stray_events-append (posted own ∷ xs) ys = stray_events-append xs ys
stray_events-append (strayed e seen ∷ xs) ys = ap (λ (l : List Event). e ∷ l) (stray_events-append xs ys)

said-append : (says : Event → Bool) (xs ys : List Deed) → SaidBy says xs → SaidBy says ys → SaidBy says (xs ++ ys)
said-append says [] ys f g = g
said-append says (posted own ∷ xs) ys f g = (f.0, said-append says xs ys f.1 g)
said-append says (strayed e seen ∷ xs) ys f g = said-append says xs ys f g

-- what a desk says later it says from the start
pub said-from : (a b : DeskData) (xs : List Deed) → DeskStays a b → SaidBy b.says xs → SaidBy a.says xs
said-from a b xs same f = subst (λ (says : Event → Bool). SaidBy says xs) same.says f

strays-append : (k : ℕ) (xs ys : List Deed) → strays_from k (xs ++ ys) ≡ strays_from k xs ++ strays_from (k + length xs) ys
strays-append k [] ys = ap (λ (j : ℕ). strays_from j ys) (omega arith)
strays-append k (posted own ∷ xs) ys =
    let same : (k + 1) + length xs ≡ k + length (posted own ∷ xs) = omega arith in
    strays-append (k + 1) xs ys ∙ ap (λ (j : ℕ). strays_from (k + 1) xs ++ strays_from j ys) same
strays-append k (strayed e seen ∷ xs) ys =
    let same : (k + 1) + length xs ≡ k + length (strayed e seen ∷ xs) = omega arith in
    ap (λ (l : List Strayed). stray k seen ∷ l) (strays-append (k + 1) xs ys ∙ ap (λ (j : ℕ). strays_from (k + 1) xs ++ strays_from j ys) same)

pub strays-joined : (taken : ℕ) (before now : List Strayed) (xs ys : List Deed) → before ≡ strays_from 1 xs → taken ≡ length xs
    → now ≡ before ++ strays_from (taken + 1) ys → now ≡ strays_from 1 (xs ++ ys)
strays-joined taken before now xs ys p n q =
    let same : taken + 1 ≡ 1 + length xs = omega (arith, n) in
    q ∙ (ap (λ (l : List Strayed). l ++ strays_from (taken + 1) ys) p
    ∙ (ap (λ (k : ℕ). strays_from 1 xs ++ strays_from k ys) same ∙ sym (strays-append 1 xs ys)))

-- FRONTS OF A JOURNAL THAT GREW

of_front-later : (a b : List PostData) (k : ℕ) (P : List PostData → Type 0) → Begins b a → OfFront a k P → OfFront b k P
of_front-later a b k P more f = (f.0, f.1, begins-trans b a f.0 more f.2, f.3)

pub of_front-whole : (a : List PostData) (k : ℕ) (P : List PostData → Type 0) → k ≡ length a → P a → OfFront a k P
of_front-whole a k P long holds = (a, sym long, begins-whole a, holds)

-- what a longer list has at least
pub begins-length : {A : Type 0} (b a : List A) → Begins b a → length a ≤ length b
begins-length b a x = let l = ap length x.1 in let n = length-append a x.0 in omega (arith, l, n)

follows-less : (o : BookData) (journal : List PostData) (n m : ℕ) (ds : List Deed) → n ≤ m → Follows o journal m ds → Follows o journal n ds
follows-less o journal n m [] le f = omega (arith, le, f)
follows-less o journal n m (posted own ∷ ds) le f = ((let a = f.0 in omega (arith, le, a)), f.1)
follows-less o journal n m (strayed e seen ∷ ds) le f = ((let a = f.0 in omega (arith, le, a)), f.1, f.2)

follows-then : (o : BookData) (a b : List PostData) (n : ℕ) (xs ys : List Deed) → Begins b a → Follows o a n xs → Follows o b (length a) ys
    → Follows o b n (xs ++ ys)
follows-then o a b n [] ys more f h = follows-less o b n (length a) ys f h
follows-then o a b n (posted own ∷ xs) ys more f h = (f.0, follows-then o a b own.0 xs ys more f.1 h)
follows-then o a b n (strayed e seen ∷ xs) ys more f h =
    (f.0, of_front-later a b seen (λ front. FitsAfter o front e → ⊥) more f.1, follows-then o a b seen xs ys more f.2 h)

-- the same deeds against a journal that went on
pub follows-later : (o : BookData) (a b : List PostData) (n : ℕ) (xs : List Deed) → Begins b a → Follows o a n xs → Follows o b n xs
follows-later o a b n [] more f = (let l = begins-length b a more in omega (arith, f, l))
follows-later o a b n (posted own ∷ xs) more f = (f.0, follows-later o a b own.0 xs more f.1)
follows-later o a b n (strayed e seen ∷ xs) more f =
    (f.0, of_front-later a b seen (λ front. FitsAfter o front e → ⊥) more f.1, follows-later o a b seen xs more f.2)

pub on-later : (o : BookData) (a b : List PostData) (xs : List Deed) → Begins b a → LeavesOn o a xs → LeavesOn o b xs
on-later o a b [] more f = tt
on-later o a b (posted own ∷ xs) more f = (of_front-later a b own.0 (λ front. end_after o front ≡ On) more f.0, on-later o a b xs more f.1)
on-later o a b (strayed e seen ∷ xs) more f = on-later o a b xs more f

on-append : (o : BookData) (journal : List PostData) (xs ys : List Deed) → LeavesOn o journal xs → LeavesOn o journal ys → LeavesOn o journal (xs ++ ys)
on-append o journal [] ys f g = g
on-append o journal (posted own ∷ xs) ys f g = (f.0, on-append o journal xs ys f.1 g)
on-append o journal (strayed e seen ∷ xs) ys f g = on-append o journal xs ys f g

-- deeds that left the run on, and then these, against a journal that went on
pub on-then : (o : BookData) (a b : List PostData) (xs ys : List Deed) → Begins b a → LeavesOn o a xs → LeavesOn o b ys → LeavesOn o b (xs ++ ys)
on-then o a b xs ys more f g = on-append o b xs ys (on-later o a b xs more f) g

ends_run-later : (o : BookData) (a b : List PostData) (log : List Deed) → Begins b a → EndsRun o a log → EndsRun o b log
ends_run-later o a b log more f = (f.0, f.1, f.2, on-later o a b f.0 more f.3, of_front-later a b f.1.0 (λ front. end_after o front ≢ On) more f.4)

pub ends-later : (o : BookData) (a b : List PostData) (turns : ℕ) (before now : DeskData) (log : List Deed) (hand : List Event) (end : WorkEnd) → Begins b a
    → EndsBy o a turns before now log hand end → EndsBy o b turns before now log hand end
ends-later o a b turns before now log hand ends.Over more e = (e.0, ends_run-later o a b log more e.1)
ends-later o a b turns before now log hand ends.Closed more e = (e.0, on-later o a b log more e.1, e.2)
ends-later o a b turns before now log hand ends.Full more e = (e.0, on-later o a b log more e.1, of_front-later a b o.limit (λ front. Unit {0}) more e.2)
ends-later o a b turns before now log hand ends.TurnsSpent more e = (e.0, on-later o a b log more e.1, e.2)
ends-later o a b turns before now log hand ends.Fault more e = (e.0, on-later o a b log more e.1, e.2)
ends-later o a b turns before now log hand ends.NoMemory more e = (e.0, on-later o a b log more e.1)

-- ONE PART OF THE WORK AFTER THE OTHER

pub done-then : (s : SharedServer) (p m q : Pass) (xs ys : List Deed) → IsDone s p xs m → IsDone s m ys q → IsDone s p (xs ++ ys) q
done-then s p m q xs ys f g = record {
  of = g.of;
  hand_is = g.hand_is ∙ f.hand_is;
  front = begins-trans (seen_of q) (seen_of m) (seen_of p) g.front f.front;
  own_is = g.own_is
      ∙ (ap (λ (l : List (ℕ × PostData)). l ++ posts_of ys) f.own_is
      ∙ (append_assoc (own_of p) (posts_of xs) (posts_of ys) ∙ ap (λ (l : List (ℕ × PostData)). own_of p ++ l) (sym (posts-append xs ys))));
  follows = follows-then (origin_of s) (seen_of m) (seen_of q) (length (seen_of p)) xs ys g.front f.follows g.follows;
}

pub done-none : (s : SharedServer) (p : Pass) → IsOf s p → IsDone s p [] p
done-none s p of = record {
  of = of;
  hand_is = refl;
  front = begins-whole (seen_of p);
  own_is = sym (append-nil (own_of p));
  follows = (let x : length (seen_of p) ≤ length (seen_of p) = omega arith in x);
}

pub at_desk-then : (a b c : DeskData) (xs ys : List Deed) (hand : List Event) → IsAtDesk a b xs [] → IsAtDesk b c ys hand → IsAtDesk a c (xs ++ ys) hand
at_desk-then a b c xs ys hand f g = record {
  taken = subst (λ (l : List Event). Adds a.taken c.taken l) (joined (events_of xs) (events_of ys) (events_of (xs ++ ys)) (events-append xs ys))
      (Adds-then a.taken b.taken c.taken (events_of xs ++ []) (events_of ys ++ hand) f.taken g.taken);
  said = said-append a.says xs ys f.said (said-from a b ys f.stays g.said);
  performed = subst (λ (l : List Action). Adds a.performed c.performed l) (sym (actions-append xs ys))
      (Adds-then a.performed b.performed c.performed (actions_of xs) (actions_of ys) f.performed g.performed);
  refused = subst (λ (l : List Event). Adds a.refused c.refused l)
      (joined (stray_events xs) (stray_events ys) (stray_events (xs ++ ys)) (stray_events-append xs ys))
      (Adds-then a.refused b.refused c.refused (stray_events xs ++ []) (stray_events ys ++ hand) f.refused g.refused);
  stays = stays-then a b c f.stays g.stays;
  faults = (let x = f.faults in let y = g.faults in omega (arith, x, y));
  idles = (let x = f.idles in let y = g.idles in omega (arith, x, y));
}
  where
    joined : (u v w : List Event) → w ≡ u ++ v → (u ++ []) ++ (v ++ hand) ≡ w ++ hand
    joined u v w is = ap (λ (l : List Event). l ++ (v ++ hand)) (append-nil u) ∙ (sym (append_assoc u v hand) ∙ ap (λ (l : List Event). l ++ hand) (sym is))

call_count-append : (xs ys : List Deed) (hand : List Event) → call_count (xs ++ ys) hand ≡ call_count xs [] + call_count ys hand
call_count-append xs ys hand =
    let actions = ap length (actions-append xs ys) in
    let each_action = length-append (actions_of xs) (actions_of ys) in
    let strays = ap length (stray_events-append xs ys) in
    let each_stray = length-append (stray_events xs) (stray_events ys) in
    let whole = length-append (stray_events (xs ++ ys)) hand in
    let none = length-append (stray_events xs) [] in
    let last = length-append (stray_events ys) hand in
    omega (arith, actions, each_action, strays, each_stray, whole, none, last)

-- the room that turns took, and then one more turn
pub place-then : (a b c counter turns : ℕ) (xs ys : List Deed) (hand : List Event) → counter < turns → a ≤ b + (counter + call_count xs [])
    → b ≤ c + (1 + call_count ys hand) → a ≤ c + (turns + call_count (xs ++ ys) hand)
place-then a b c counter turns xs ys hand lt f g = let both = call_count-append xs ys hand in omega (arith, lt, f, g, both)

pub at_desk-none : (a : DeskData) → IsAtDesk a a [] []
at_desk-none a = record {
  taken = Adds-nil a.taken;
  said = tt;
  performed = Adds-nil a.performed;
  refused = Adds-nil a.refused;
  stays = stays-same a;
  faults = (let x : a.faults ≤ a.faults = omega arith in x);
  idles = (let x : a.idles ≤ a.idles = omega arith in x);
}

pub grew-then : (a b c : Option ℕ) (j k : ℕ) → Grew a b j → Grew b c k → Grew a c (j + k)
grew-then None None None j k p q = tt
grew-then None None (Some z) j k p q = absurd q
grew-then None (Some y) c j k p q = absurd p
grew-then (Some x) None None j k p q = tt
grew-then (Some x) None (Some z) j k p q = absurd q
grew-then (Some x) (Some y) None j k p q = tt
grew-then (Some x) (Some y) (Some z) j k p q = omega (arith, p, q)

pub grew-none : (a : Option ℕ) → Grew a a 0
grew-none None = tt
grew-none (Some x) = (let y : x ≡ x + 0 = omega arith in y)

rose-later : (a b c : ℕ) → a ≤ b → Rose b c → Rose a c
rose-later a b c le rose = omega (arith, le, rose)

-- turns that left the run on, and then the last one
pub ends-then : (s : SharedServer) (turns : ℕ) (a b c : DeskData) (xs ys : List Deed) (hand : List Event) (m q : Pass) (end : WorkEnd)
    → Begins (seen_of q) (seen_of m) → IsAtDesk a b xs [] → LeavesOn (origin_of s) (seen_of m) xs
    → TurnEnds s b c ys hand q (Some end) → EndsBy (origin_of s) (seen_of q) turns a c (xs ++ ys) hand end
ends-then s turns a b c xs ys hand m q ends.Over more f on e =
    let r = e.0.1 in (
      e.0.0,
      (
        xs ++ r.0,
        r.1,
        ap (λ (l : List Deed). xs ++ l) r.2 ∙ sym (append_assoc xs r.0 (posted r.1 ∷ [])),
        on-then (origin_of s) (seen_of m) (seen_of q) xs r.0
            more on r.3,
        r.4,
      ),
    )
ends-then s turns a b c xs ys hand m q ends.Closed more f on e =
    (e.0.0, on-then (origin_of s) (seen_of m) (seen_of q) xs ys more on e.0.1, rose-later a.idles b.idles c.idles f.idles e.0.2)
ends-then s turns a b c xs ys hand m q ends.Full more f on e = (e.0.0, on-then (origin_of s) (seen_of m) (seen_of q) xs ys more on e.0.1, e.0.2)
ends-then s turns a b c xs ys hand m q ends.TurnsSpent more f on e = absurd (e.1 refl)
ends-then s turns a b c xs ys hand m q ends.Fault more f on e =
    (e.0.0, on-then (origin_of s) (seen_of m) (seen_of q) xs ys more on e.0.1, rose-later a.faults b.faults c.faults f.faults e.0.2)
ends-then s turns a b c xs ys hand m q ends.NoMemory more f on e = (e.0.0, on-then (origin_of s) (seen_of m) (seen_of q) xs ys more on e.0.1)

-- so many takes, and then at most one more
pub takes-then : (a b c : DeskData) (counter turns : ℕ) → counter < turns → Grew a.takes b.takes counter → GrewUpTo b c 1 → GrewUpTo a c turns
takes-then a b c counter turns lt f g = (counter + g.0, (let le = g.1 in omega (arith, lt, le)), grew-then a.takes b.takes c.takes counter g.0 f g.2)
