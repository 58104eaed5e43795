-- What stands behind the last finished step, one entry after the other; and what it says that no rule is broken there.
use Rattle.std.proofs.Common.{ℕ, zero, suc, Bool, true, false, not, ◌==◌, ◌&&◌, ◌||◌, ◌+◌, ◌-◌, ◌<◌, ◌≤◌, List, [], ◌∷◌, ◌++◌, take, drop, length, filter, is_none, nat_lt, inl, inr, ◌≡◌, refl, sym, ap, ◌∙◌, arith, Option, None, Some, if◌then◌else◌}
use Rattle.std.proofs.Math.Bool.{and-true}
use Rattle.std.specs.List.{list_any, list_all, find, range_with_len}
use Rattle.std.proofs.lemmas.Bool.{false≢true, cases_Bool, lt-ltb, le-ltb}
use Rattle.std.proofs.lemmas.List.{take-append-drop}
use Rattle.std.proofs.lemmas.List.Folds.{list_any-append}
use Rattle.svc_record.specs.declared.plan.Plan.{Plan}
use Rattle.svc_record.specs.declared.entry.Entry.TheVariants.{Got, Told}
use Rattle.svc_record.specs.declared.event.Event.{Event}
use Rattle.svc_record.specs.declared.action.Action.{Action}
use Rattle.svc_record.specs.declared.action.Action.TheVariants.{Cut, Close}
use Rattle.svc_record.specs.Record.{Record, has, tell}
use Rattle.svc_record.specs.Descriptors.{brings, numbers_of}
use Rattle.svc_record.specs.Connections.{live_connections}
use Rattle.svc_record.specs.Tail.{numbers_in, with_event, is_of}
use Rattle.svc_record.proofs.Sound.{both}
use Rattle.svc_judge.specs.Endings.{is_uncut}
use Rattle.svc_judge.specs.declared.judging.Rule.TheVariants as rules
use Rattle.svc_judge.specs.declared.judging.Breach.{Breach}
use Rattle.svc_judge.specs.Verdicts.{breach_of}
use Rattle.svc_judge.specs.Tails.{tail_len, has_cause, is_cut_once, is_closed_in, tail_rule, tail_breach, is_right_before, shorter_breach, closed_by, closed_breach, IsClosedRight}
use Rattle.svc_judge.proofs.VerdictLemmas.{and, kept, no_rule, right_from_none}

-- an event brought the number where it is among those that came
pub brought_is : (fd : ℕ) (q : Record) → has (brings fd) q ≡ list_any (λ n. n == fd) (numbers_in q)
brought_is fd [] = refl
brought_is fd (e ∷ q) =
    ap (λ b. brings fd e || b) (brought_is fd q) ∙ sym (list_any-append (λ n. n == fd) (numbers_of e) (numbers_in q))

-- what is asked of a connection that the entry brings, where that is live
pub arrival_asked : (whole : Record) (f : ℕ → Bool) (c : ℕ) → (not (is_uncut whole c) || f c) ≡ list_all f (filter (is_uncut whole) (c ∷ []))
arrival_asked whole f c = elim (cases_Bool (is_uncut whole c)) [ inl h ↦ rw (h) (sym (and-true (f c))) | inr h ↦ rw (h) refl ]

-- what the entries tell, the oldest first
told_by : Record → List Action
told_by [] = []
told_by (Told a ∷ q) = told_by q ++ a ∷ []
told_by (Got e ∷ q) = told_by q

tell_append : (q : Record) (xs ys : List Action) → tell q (xs ++ ys) ≡ tell (tell q xs) ys
tell_append q [] ys = refl
tell_append q (x ∷ xs) ys = tell_append (Told x ∷ q) xs ys

-- what has a cause is told
tell_by : (finished before tail q : Record) → list_all (has_cause finished before) tail ≡ true → tell q (told_by tail) ≡ tail ++ q
unfolding told_by
tell_by finished before [] q h = refl
tell_by finished before (Told a ∷ t) q h =
    tell_append q (told_by t) (a ∷ [])
    ∙ ap (λ r. Told a ∷ r) (tell_by finished before t q ((both (has_cause finished before (Told a)) (list_all (has_cause finished before) t) h).1))
tell_by finished before (Got e ∷ t) q h = absurd (false≢true h)

is_of_append : (cs fds : List ℕ) (xs ys : List Action) → is_of cs fds xs ≡ true → is_of cs fds ys ≡ true → is_of cs fds (xs ++ ys) ≡ true
is_of_append cs fds [] ys h g = g
is_of_append cs fds (Cut c ∷ xs) ys h g =
    let parts = both (list_any (λ n. n == c) cs) (is_of cs fds xs) h in
    and (list_any (λ n. n == c) cs) (is_of cs fds (xs ++ ys)) parts.0 (is_of_append cs fds xs ys parts.1 g)
is_of_append cs fds (Close fd ∷ xs) ys h g =
    let parts = both (list_any (λ n. n == fd) fds) (is_of cs fds xs) h in
    and (list_any (λ n. n == fd) fds) (is_of cs fds (xs ++ ys)) parts.0 (is_of_append cs fds xs ys parts.1 g)
is_of_append cs fds (_ ∷ xs) ys h g = absurd (false≢true h)

is_of_one : (finished before : Record) (a : Action) → has_cause finished before (Told a) ≡ true
    → is_of (live_connections finished) (numbers_in before) (a ∷ []) ≡ true
is_of_one finished before (Cut c) h = and (list_any (λ n. n == c) (live_connections finished)) true h refl
is_of_one finished before (Close fd) h = and (list_any (λ n. n == fd) (numbers_in before)) true h refl
is_of_one finished before _ h = absurd (false≢true h)

is_of_told : (finished before tail : Record) → list_all (has_cause finished before) tail ≡ true
    → is_of (live_connections finished) (numbers_in before) (told_by tail) ≡ true
unfolding told_by
is_of_told finished before [] h = refl
is_of_told finished before (Told a ∷ t) h =
    let parts = both (has_cause finished before (Told a)) (list_all (has_cause finished before) t) h in
    is_of_append (live_connections finished) (numbers_in before) (told_by t) (a ∷ []) (is_of_told finished before t parts.1)
    (is_of_one finished before a parts.0)
is_of_told finished before (Got e ∷ t) h = absurd (false≢true h)

append-none : (q : Record) → q ++ [] ≡ q
append-none [] = refl
append-none (e ∷ q) = ap (λ r. e ∷ r) (append-none q)

-- where the tail behind a right record, and perhaps an event that wasn't taken, breaks no rule, the whole is right as one that is closed
pub tail_is : (p : Plan) (whole finished tail : Record) (also : Option Event) → whole ≡ tail ++ with_event also finished → breach_of p finished ≡ None
    → tail_rule finished (with_event also finished) tail whole ≡ None → (told : List Action) × IsClosedRight p whole finished also told
tail_is p whole finished tail also is right h =
    let before : Record = with_event also finished in
    let cause = kept (list_all (has_cause finished before) tail) rules.CloseOnce _ h in
    let close = kept (list_all (is_cut_once tail) (live_connections finished) && list_all (is_closed_in whole) (numbers_in before)) rules.Closes None cause.1 in
    let once = both (list_all (is_cut_once tail) (live_connections finished)) (list_all (is_closed_in whole) (numbers_in before)) close.0 in
    let alone : tell [] (told_by tail) ≡ tail = tell_by finished before tail [] cause.0 ∙ append-none tail in
    let all : whole ≡ tell before (told_by tail) = is ∙ sym (tell_by finished before tail before cause.0) in
    let cuts : list_all (is_cut_once (tell [] (told_by tail))) (live_connections finished) ≡ true =
    ap (λ (t : Record). list_all (is_cut_once t) (live_connections finished)) alone ∙ once.0 in
    let closes : list_all (is_closed_in (tell before (told_by tail))) (numbers_in before) ≡ true =
    ap (λ (w : Record). list_all (is_closed_in w) (numbers_in before)) (sym all) ∙ once.1 in (
      told_by tail,
      record {
        is = all;
        right = right_from_none p finished right;
        closed_once = and _ _ (and _ _ (is_of_told finished before tail cause.0) cuts) closes;
      },
    )

find_holds : (f : ℕ → Bool) (ns : List ℕ) (n : ℕ) → find f ns ≡ Some n → f n ≡ true
find_holds f [] n h = cc
find_holds f (m ∷ ns) n h = elim (cases_Bool (f m)) [
  | inl y ↦ (let k : Some m ≡ Some n = rw (y) at h in let e : m ≡ n = cc in ap f (sym e) ∙ y)
  | inr x ↦ (let k : find f ns ≡ Some n = rw (x) at h in find_holds f ns n k)
]

none_is : (o : Option Breach) → is_none o ≡ true → o ≡ None
none_is None h = refl
none_is (Some b) h = absurd (false≢true h)

-- behind so many entries stands a right record, and the tail lets go
Closed : Plan → Record → Type 0
Closed p r = (finished : Record) × ((told : List Action) × IsClosedRight p r finished None told)

behind_right : (p : Plan) (r : Record) (n : ℕ) → breach_of p (drop n r) ≡ None → tail_breach r n 0 ≡ None → Closed p r
unfolding Closed
behind_right p r n right h =
    (drop n r, tail_is p r (drop n r) (take n r) None (sym (take-append-drop n r)) right (no_rule (length r) _ h))

behind_shorter : (p : Plan) (r : Record) (b : Breach) (ns : List ℕ) (o : Option ℕ) → find (is_right_before p r) ns ≡ o
    → shorter_breach r b o ≡ None → Closed p r
behind_shorter p r b ns None f h = cc
behind_shorter p r b ns (Some n) f h = behind_right p r n (none_is (breach_of p (drop n r)) (find_holds (is_right_before p r) ns n f)) h

pick_else : (c : Bool) (b : Breach) (x : Option Breach) → (if c then Some b else x) ≡ None → x ≡ None
pick_else true b x h = cc
pick_else false b x h = h

closed_at : (p : Plan) (r : Record) (o : Option Breach) → breach_of p (drop (tail_len r) r) ≡ o → closed_by p r (tail_len r) o ≡ None → Closed p r
closed_at p r None e h = behind_right p r (tail_len r) e h
closed_at p r (Some b) e h =
    behind_shorter p r b (range_with_len 0 (tail_len r)) (find (is_right_before p r) (range_with_len 0 (tail_len r))) refl
    (pick_else (nat_lt b.entry (length (drop (tail_len r) r))) b _ h)

-- where the record of a run that ended otherwise breaks no rule, it is a right one, and a tail that lets go of all that is open
pub closed_is : (p : Plan) (r : Record) → closed_breach p r ≡ None → (finished : Record) × ((told : List Action) × IsClosedRight p r finished None told)
unfolding Closed
closed_is p r h = closed_at p r (breach_of p (drop (tail_len r) r)) refl h

range_step : (n most : ℕ) → n < most → range_with_len n (most - n) ≡ n ∷ range_with_len (n + 1) (most - (n + 1))
range_step n most h = let fewer : most - n ≡ suc (most - (n + 1)) = omega arith in ap (range_with_len n) fewer

-- the first number that passes the test is the next one, or is found behind it
pub find_here : (f : ℕ → Bool) (n most : ℕ) → n < most → f n ≡ true → Some n ≡ find f (range_with_len n (most - n))
find_here f n most h holds = rw (range_step n most h, holds)

pub find_next : (f : ℕ → Bool) (n most : ℕ) → n < most → f n ≡ false
    → find f (range_with_len n (most - n)) ≡ find f (range_with_len (n + 1) (most - (n + 1)))
find_next f n most h fails = rw (range_step n most h, fails)

pub find_below : (f : ℕ → Bool) (a n k : ℕ) → find f (range_with_len a n) ≡ Some k → k < a + n
find_below f a zero k h = cc
find_below f a (suc n) k h = elim (cases_Bool (f a)) [
  | inl y ↦ (let e : Some a ≡ Some k = rw (y) at h in let g : a ≡ k = cc in omega (arith, g))
  | inr x ↦ (let e : find f (range_with_len (a + 1) n) ≡ Some k = rw (x) at h in omega (arith, find_below f (a + 1) n k e))
]

-- what stands before the tail breaks a rule before its last entry, or there
pub earlier_is : (p : Plan) (r : Record) (most : ℕ) (b : Breach) → b.entry < length (drop most r) → Some b ≡ closed_by p r most (Some b)
earlier_is p r most b h = rw (lt-ltb b.entry (length (drop most r)) h)

pub later_is : (p : Plan) (r : Record) (most : ℕ) (b : Breach) → length (drop most r) ≤ b.entry
    → shorter_breach r b (find (is_right_before p r) (range_with_len 0 most)) ≡ closed_by p r most (Some b)
later_is p r most b h = rw (le-ltb b.entry (length (drop most r)) h)
