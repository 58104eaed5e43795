-- What is told to close a run that didn't serve closes each number that an event brought, once.
use Rattle.std.proofs.Common.{ℕ, Bool, true, false, not, ◌==◌, ◌||◌, ◌&&◌, ◌+◌, ◌++◌, ◌≡◌, List, [], ◌∷◌, Option, Some, None, length, map, filter, cond, nat_le, if◌then◌else◌, refl, sym, ap, ap₂, subst, ◌∙◌, append-nil, eqb-true, eq-eqb, zero-add, arith}
use Rattle.std.proofs.lemmas.Bool.{false≢true, not-true}
use Rattle.std.proofs.lemmas.List.Folds.{list_any-append}
use Rattle.std.specs.List.{list_any, list_all}
use Rattle.svc_record.specs.declared.plan.Plan.{Plan}
use Rattle.svc_record.specs.declared.entry.Entry.{Entry}
use Rattle.svc_record.specs.declared.entry.Entry.TheVariants.{Got, Told}
use Rattle.svc_record.specs.declared.event.Event.{Event}
use Rattle.svc_record.specs.declared.event.Event.TheVariants.{Bound, Received, Arrived}
use Rattle.svc_record.specs.declared.action.Action.{Action}
use Rattle.svc_record.specs.declared.action.Action.TheVariants.{Cut, Close}
use Rattle.svc_record.specs.Record.{Record, has, times, tell, EachEntry}
use Rattle.svc_record.specs.Message.{decode}
use Rattle.svc_record.specs.Descriptors.{Descriptor, descriptors_of, opened_descriptors, with_words, words_or_none, is_opened, has_number, is_close, numbers_of, brings}
use Rattle.svc_record.specs.Connections.{arrived_numbers, live_connections, goes_on, is_arrival, is_cut}
use Rattle.svc_record.specs.Closes.{close_once}
use Rattle.svc_record.specs.Drain.{live_numbers}
use Rattle.svc_base.specs.NumberSets.{ascending}
use Rattle.svc_record.specs.Fits.{event_fits, fits, is_new, are_new, accepts}
use Rattle.svc_record.specs.Asks.{is_bind_open, is_try_open}
use Rattle.svc_record.specs.Ends.{has_ended}
use Rattle.svc_record.specs.Right.{Right}
use Rattle.svc_record.specs.Tail.{numbers_in, with_event, each_once, new_numbers, closing_actions, is_of, tail_right}
use Rattle.svc_record.proofs.Sound.{both}
use Rattle.svc_record.proofs.Complete.{and, or_left, or_right}
use Rattle.svc_record.proofs.ClosesOnce.{closed_once, closed_was_opened}
use Rattle.svc_record.proofs.Tallies.{one_if, if_kept, tally, is_in, tally-ascending, tally-filter, tally-each_once, is_in-same, is_in-filter, is_in-each_once, each_in}

numbers-with_words : (fds : List ℕ) (words : List (List ℕ)) (more : List Descriptor)
    → map (λ (d : Descriptor). d.number) (with_words fds words ++ more) ≡ fds ++ map (λ (d : Descriptor). d.number) more
numbers-with_words [] words more = refl
numbers-with_words (fd ∷ fds) [] more = ap (λ ns. fd ∷ ns) (numbers-with_words fds [] more)
numbers-with_words (fd ∷ fds) (w ∷ words) more = ap (λ ns. fd ∷ ns) (numbers-with_words fds words more)

numbers-descriptors : (p : Plan) (e : Entry) (more : List Descriptor)
    → map (λ (d : Descriptor). d.number) (descriptors_of p e ++ more) ≡ numbers_of e ++ map (λ (d : Descriptor). d.number) more
numbers-descriptors p (Got (Bound s i fd)) more = refl
numbers-descriptors p (Got (Received bytes fds)) more = numbers-with_words fds (words_or_none (decode bytes (length fds))) more
numbers-descriptors p (Got _) more = refl
numbers-descriptors p (Told a) more = refl

-- the numbers that were opened are those that the events brought
pub numbers-opened : (p : Plan) (q : Record) → map (λ (d : Descriptor). d.number) (opened_descriptors p q) ≡ numbers_in q
numbers-opened p [] = refl
numbers-opened p (e ∷ before) = numbers-descriptors p e (opened_descriptors p before) ∙ ap (λ ns. numbers_of e ++ ns) (numbers-opened p before)

any-number : (fd : ℕ) (ds : List Descriptor) → list_any (has_number fd) ds ≡ is_in fd (map (λ (d : Descriptor). d.number) ds)
any-number fd [] = refl
any-number fd (d ∷ ds) = ap (λ b. (d.number == fd) || b) (any-number fd ds)

pub is_opened-in : (p : Plan) (q : Record) (fd : ℕ) → is_opened p q fd ≡ is_in fd (numbers_in q)
is_opened-in p q fd = any-number fd (opened_descriptors p q) ∙ ap (is_in fd) (numbers-opened p q)

pub brings-in : (q : Record) (fd : ℕ) → has (brings fd) q ≡ is_in fd (numbers_in q)
brings-in [] fd = refl
brings-in (e ∷ before) fd = ap (λ b. brings fd e || b) (brings-in before fd) ∙ sym (list_any-append (λ n. n == fd) (numbers_of e) (numbers_in before))

fresh : (s i : Bool) (k : ℕ) → (s ≡ true → i ≡ false) → k ≡ one_if i → one_if s + k ≡ one_if (s || i)
fresh true i k f e = ap (λ x. 1 + x) (e ∙ ap one_if (f refl))
fresh false i k f e = zero-add k ∙ e

none : (a b : Bool) → a ≡ false → b ≡ false → (a || b) ≡ false
none a b e f = rw (e, f) refl

-- numbers that are new, and no two of them equal, come once more
came_more : (before : Record) (fd : ℕ) (fds : List ℕ) → are_new before fds ≡ true → tally fd (numbers_in before) ≡ one_if (is_in fd (numbers_in before))
    → tally fd (fds ++ numbers_in before) ≡ one_if (is_in fd (fds ++ numbers_in before))
came_more before fd [] new once = once
came_more before fd (n ∷ fds) new once =
    let h = both (is_new before n && not (is_in n fds)) (are_new before fds) new in
    let k = both (is_new before n) (not (is_in n fds)) h.0 in
    fresh (n == fd) (is_in fd (fds ++ numbers_in before)) (tally fd (fds ++ numbers_in before))
    (λ same. subst (λ m. is_in m (fds ++ numbers_in before) ≡ false) (eqb-true n fd same)
    (list_any-append (λ m. m == n) fds (numbers_in before)
    ∙ none (is_in n fds) (is_in n (numbers_in before)) (not-true (is_in n fds) k.1) (sym (brings-in before n) ∙ not-true (has (brings n) before) k.0)))
    (came_more before fd fds h.1 once)

one_new : (before : Record) (n : ℕ) → is_new before n ≡ true → are_new before (n ∷ []) ≡ true
one_new before n h = rw h refl

-- what an event that fits brings is new
brought_new : (p : Plan) (before : Record) (e : Event) → fits p before e ≡ true → are_new before (numbers_of (Got e)) ≡ true
brought_new p before (Bound s i n) e =
    one_new before n (both (is_bind_open before s i) (is_new before n) (both (not (has_ended p before)) (is_bind_open before s i && is_new before n) e).1).1
brought_new p before (Received bytes fds) e =
    (both (is_try_open before && nat_le (length fds) 32) (are_new before fds)
    (both (not (has_ended p before)) ((is_try_open before && nat_le (length fds) 32) && are_new before fds) e).1).1
brought_new p before _ e = refl

-- where events fit, each number came once
pub came_once : (p : Plan) (q : Record) (fd : ℕ) → EachEntry (λ e before. event_fits p e before ≡ true) q
    → tally fd (numbers_in q) ≡ one_if (is_in fd (numbers_in q))
came_once p [] fd h = refl
came_once p (Got e ∷ before) fd h = came_more before fd (numbers_of (Got e)) (brought_new p before e h.0) (came_once p before fd h.1)
came_once p (Told a ∷ before) fd h = came_once p before fd h.1

-- the record knows each number that arrived
pub arrival-in : (c : ℕ) (q : Record) → has (is_arrival c) q ≡ is_in c (arrived_numbers q)
arrival-in c [] = refl
arrival-in c (Got (Arrived s i n peer) ∷ q) = ap (λ b. (n == c) || b) (arrival-in c q)
arrival-in c (_ ∷ q) = arrival-in c q

-- where events fit, each connection arrived once
pub arrived_once : (p : Plan) (q : Record) (c : ℕ) → EachEntry (λ e before. event_fits p e before ≡ true) q
    → tally c (arrived_numbers q) ≡ one_if (is_in c (arrived_numbers q))
arrived_once p [] c h = refl
arrived_once p (Got (Arrived s i n peer) ∷ before) c h = fresh (n == c) (is_in c (arrived_numbers before)) (tally c (arrived_numbers before))
    (λ same. subst (λ m. is_in m (arrived_numbers before) ≡ false) (eqb-true n c same) (sym (arrival-in n before) ∙ not-true (has (is_arrival n) before) new))
    (arrived_once p before c h.1)
  where
    new : not (has (is_arrival n) before) ≡ true
    new = (both (accepts p before s i) (not (has (is_arrival n) before))
        (both (not (has_ended p before)) (accepts p before s i && not (has (is_arrival n) before)) h.0).1).1
arrived_once p (_ ∷ before) c h = arrived_once p before c h.1

filter-numbers : (test : ℕ → Bool) (ds : List Descriptor)
    → map (λ (d : Descriptor). d.number) (filter (λ (d : Descriptor). test d.number) ds) ≡ filter test (map (λ (d : Descriptor). d.number) ds)
filter-numbers test [] = refl
filter-numbers test (d ∷ ds) = by_test (test d.number) (filter-numbers test ds)
  where
    by_test : (b : Bool)
        → map (λ (x : Descriptor). x.number) (filter (λ (x : Descriptor). test x.number) ds) ≡ filter test (map (λ (x : Descriptor). x.number) ds) →
        map (λ (x : Descriptor). x.number) (cond b (d ∷ filter (λ (x : Descriptor). test x.number) ds) (filter (λ (x : Descriptor). test x.number) ds))
        ≡ cond b (d.number ∷ filter test (map (λ (x : Descriptor). x.number) ds)) (filter test (map (λ (x : Descriptor). x.number) ds))
    by_test true e = ap (λ ns. d.number ∷ ns) e
    by_test false e = e

-- the live ones are those that came and have no close
pub live-numbers : (p : Plan) (q : Record) → live_numbers p q ≡ filter (λ n. not (has (is_close n) q)) (numbers_in q)
live-numbers p q = filter-numbers (λ n. not (has (is_close n) q)) (opened_descriptors p q) ∙ ap (filter (λ n. not (has (is_close n) q))) (numbers-opened p q)

pub tell-append : (q : Record) (xs ys : List Action) → tell q (xs ++ ys) ≡ tell (tell q xs) ys
tell-append q [] ys = refl
tell-append q (a ∷ xs) ys = tell-append (Told a ∷ q) xs ys

one_more : (s : Bool) (k t r : ℕ) → k ≡ t + (if s then r + 1 else r) → k ≡ (one_if s + t) + r
one_more true k t r e = omega (arith, e)
one_more false k t r e = omega (arith, e)

pub times-closes : (fd : ℕ) (ns : List ℕ) (q : Record) → times (is_close fd) (tell q (map Close ns)) ≡ tally fd ns + times (is_close fd) q
times-closes fd [] q = sym (zero-add (times (is_close fd) q))
times-closes fd (n ∷ more) q = one_more (n == fd) _ (tally fd more) (times (is_close fd) q) (times-closes fd more (Told (Close n) ∷ q))

-- cuts close nothing
pub times-cuts : (fd : ℕ) (cs : List ℕ) (q : Record) → times (is_close fd) (tell q (map Cut cs)) ≡ times (is_close fd) q
times-cuts fd [] q = refl
times-cuts fd (c ∷ more) q = times-cuts fd more (Told (Cut c) ∷ q)

closes_of : (cs among ns : List ℕ) (more : List Action) → ((fd : ℕ) → is_in fd ns ≡ true → is_in fd among ≡ true) → is_of cs among more ≡ true
    → is_of cs among (map Close ns ++ more) ≡ true
closes_of cs among [] more f e = e
closes_of cs among (n ∷ ns) more f e = and (is_in n among) (is_of cs among (map Close ns ++ more)) (f n (or_left (n == n) (is_in n ns) (eq-eqb n n refl)))
    (closes_of cs among ns more (λ fd h. f fd (or_right (n == fd) (is_in fd ns) h)) e)

cuts_of : (cs among ns : List ℕ) (more : List Action) → ((c : ℕ) → is_in c ns ≡ true → is_in c cs ≡ true) → is_of cs among more ≡ true
    → is_of cs among (map Cut ns ++ more) ≡ true
cuts_of cs among [] more f e = e
cuts_of cs among (c ∷ ns) more f e = and (is_in c cs) (is_of cs among (map Cut ns ++ more)) (f c (or_left (c == c) (is_in c ns) (eq-eqb c c refl)))
    (cuts_of cs among ns more (λ n h. f n (or_right (c == n) (is_in n ns) h)) e)

-- the numbers that the unfinished event brought
abbrev event_numbers : Option Event → List ℕ
event_numbers (Some e) = numbers_of (Got e)
event_numbers None = []

sum : (b c m : Bool) → (c ≡ true → b ≡ true) → (m || b) ≡ true → one_if (not b && m) + (if_kept (not c) (one_if b) + one_if c) ≡ 1
sum true true m f e = refl
sum true false m f e = refl
sum false true m f e = absurd (false≢true (f refl))
sum false false true f e = refl
sum false false false f e = absurd (false≢true e)

new-numbers : (q : Record) (also : Option Event) → new_numbers q also ≡ each_once (filter (λ n. not (has (brings n) q)) (event_numbers also))
new-numbers q (Some e) = refl
new-numbers q None = refl

numbers-with : (q : Record) (also : Option Event) → numbers_in (with_event also q) ≡ event_numbers also ++ numbers_in q
numbers-with q (Some e) = refl
numbers-with q None = refl

times-with : (fd : ℕ) (q : Record) (also : Option Event) → times (is_close fd) (with_event also q) ≡ times (is_close fd) q
times-with fd q (Some e) = refl
times-with fd q None = refl

-- a number that came is among those of the event, or came before
in_either : (q : Record) (also : Option Event) (fd : ℕ) → is_in fd (numbers_in (with_event also q)) ≡ (is_in fd (event_numbers also) || is_in fd (numbers_in q))
in_either q also fd = ap (is_in fd) (numbers-with q also) ∙ list_any-append (λ n. n == fd) (event_numbers also) (numbers_in q)

in_new : (q : Record) (also : Option Event) (fd : ℕ) → is_in fd (new_numbers q also) ≡ (not (has (brings fd) q) && is_in fd (event_numbers also))
in_new q also fd = ap (is_in fd) (new-numbers q also)
    ∙ (is_in-each_once fd (filter (λ n. not (has (brings n) q)) (event_numbers also)) ∙ is_in-filter fd (λ n. not (has (brings n) q)) (event_numbers also))

pub in_live : (p : Plan) (q : Record) (fd : ℕ) → is_in fd (ascending (live_numbers p q)) ≡ (not (has (is_close fd) q) && is_in fd (numbers_in q))
in_live p q fd = is_in-same fd (ascending (live_numbers p q)) (live_numbers p q) (tally-ascending fd (live_numbers p q))
    ∙ (ap (is_in fd) (live-numbers p q) ∙ is_in-filter fd (λ n. not (has (is_close n) q)) (numbers_in q))

tally_new : (q : Record) (also : Option Event) (fd : ℕ)
    → tally fd (new_numbers q also) ≡ one_if (not (is_in fd (numbers_in q)) && is_in fd (event_numbers also))
tally_new q also fd = ap (tally fd) (new-numbers q also) ∙ (tally-each_once fd (filter (λ n. not (has (brings n) q)) (event_numbers also))
    ∙ (ap one_if (is_in-filter fd (λ n. not (has (brings n) q)) (event_numbers also))
    ∙ ap (λ b. one_if (not b && is_in fd (event_numbers also))) (brings-in q fd)))

pub tally_live : (p : Plan) (q : Record) (fd : ℕ) → EachEntry (λ e before. event_fits p e before ≡ true) q
    → tally fd (ascending (live_numbers p q)) ≡ if_kept (not (has (is_close fd) q)) (one_if (is_in fd (numbers_in q)))
tally_live p q fd fit = tally-ascending fd (live_numbers p q) ∙ (ap (tally fd) (live-numbers p q)
    ∙ (tally-filter fd (λ n. not (has (is_close n) q)) (numbers_in q) ∙ ap (if_kept (not (has (is_close fd) q))) (came_once p q fd fit)))

times_told : (p : Plan) (q : Record) (also : Option Event) (fd : ℕ) → times (is_close fd) (tell (with_event also q) (closing_actions p q also))
    ≡ tally fd (new_numbers q also) + (tally fd (ascending (live_numbers p q)) + times (is_close fd) q)
times_told p q also fd = let live = ascending (live_numbers p q) in let cut = tell (with_event also q) (map Cut (ascending (live_connections q))) in
    ap (times (is_close fd)) (tell-append (with_event also q) (map Cut (ascending (live_connections q))) (map Close live ++ map Close (new_numbers q also)))
    ∙ (ap (times (is_close fd)) (tell-append cut (map Close live) (map Close (new_numbers q also)))
    ∙ (times-closes fd (new_numbers q also) (tell cut (map Close live))
    ∙ ap (λ k. tally fd (new_numbers q also) + k)
    (times-closes fd live cut ∙ ap (λ k. tally fd live + k) (times-cuts fd (ascending (live_connections q)) (with_event also q) ∙ times-with fd q also))))

-- each number that came then has one close
pub all_closed : (p : Plan) (q : Record) (also : Option Event) (fd : ℕ) → EachEntry (λ e before. event_fits p e before ≡ true) q
    → EachEntry (λ e before. close_once p e before ≡ true) q →
    is_in fd (numbers_in (with_event also q)) ≡ true → times (is_close fd) (tell (with_event also q) (closing_actions p q also)) ≡ 1
all_closed p q also fd fit close came = times_told p q also fd ∙ (added (tally_new q also fd) (tally_live p q fd fit) (closed_once p q fd close)
    ∙ sum (is_in fd (numbers_in q)) (has (is_close fd) q) (is_in fd (event_numbers also)) (λ c. sym (is_opened-in p q fd) ∙ closed_was_opened p q fd close c)
    (sym (in_either q also fd) ∙ came))
  where
    added : {a b c x y z : ℕ} → a ≡ x → b ≡ y → c ≡ z → a + (b + c) ≡ x + (y + z)
    added e f g = ap₂ (λ m n. m + n) e (ap₂ (λ m n. m + n) f g)

-- only such numbers are closed, and live connections cut
only_of : (p : Plan) (q : Record) (also : Option Event) → is_of (live_connections q) (numbers_in (with_event also q)) (closing_actions p q also) ≡ true
only_of p q also =
    cuts_of (live_connections q) _ (ascending (live_connections q)) _
    (λ c h. sym (is_in-same c (ascending (live_connections q)) (live_connections q) (tally-ascending c (live_connections q))) ∙ h)
    (closes_of (live_connections q) _ (ascending (live_numbers p q)) _ live_came
    (subst (λ xs. is_of (live_connections q) (numbers_in (with_event also q)) xs ≡ true) (append-nil (map Close (new_numbers q also)))
    (closes_of (live_connections q) _ (new_numbers q also) [] new_came refl)))
  where
    live_came : (fd : ℕ) → is_in fd (ascending (live_numbers p q)) ≡ true → is_in fd (numbers_in (with_event also q)) ≡ true
    live_came fd h =
        in_either q also fd
        ∙ or_right (is_in fd (event_numbers also)) (is_in fd (numbers_in q))
        (both (not (has (is_close fd) q)) (is_in fd (numbers_in q)) (sym (in_live p q fd) ∙ h)).1

    new_came : (fd : ℕ) → is_in fd (new_numbers q also) ≡ true → is_in fd (numbers_in (with_event also q)) ≡ true
    new_came fd h =
        in_either q also fd
        ∙ or_left (is_in fd (event_numbers also)) (is_in fd (numbers_in q))
        (both (not (has (brings fd) q)) (is_in fd (event_numbers also)) (sym (in_new q also fd) ∙ h)).1

times-closing : (c : ℕ) (cs fds more : List ℕ) (r : Record)
    → times (is_cut c) (tell r (map Cut cs ++ (map Close fds ++ map Close more))) ≡ tally c cs + times (is_cut c) r
times-closing c [] [] [] r = sym (zero-add (times (is_cut c) r))
times-closing c [] [] (fd ∷ more) r = times-closing c [] [] more (Told (Close fd) ∷ r)
times-closing c [] (fd ∷ fds) more r = times-closing c [] fds more (Told (Close fd) ∷ r)
times-closing c (m ∷ cs) fds more r = one_more (m == c) _ (tally c cs) (times (is_cut c) r) (times-closing c cs fds more (Told (Cut m) ∷ r))

one-kept : (g a : Bool) → g ≡ true → a ≡ true → if_kept g (one_if a) + 0 ≡ 1
one-kept g a x y = rw (x, y) refl

-- each live connection then has one cut
all_cut : (p : Plan) (q : Record) (also : Option Event) → EachEntry (λ e before. event_fits p e before ≡ true) q
    → list_all (λ c. times (is_cut c) (tell [] (closing_actions p q also)) == 1) (live_connections q) ≡ true
all_cut p q also fit = each_in (λ c. times (is_cut c) (tell [] (closing_actions p q also)) == 1) (live_connections q) (λ c h.
    let kept = both (goes_on q c && not (has (is_cut c) q)) (is_in c (arrived_numbers q))
    (sym (is_in-filter c (λ n. goes_on q n && not (has (is_cut n) q)) (arrived_numbers q)) ∙ h) in
    eq-eqb (times (is_cut c) (tell [] (closing_actions p q also))) 1 (
    times-closing c (ascending (live_connections q)) (ascending (live_numbers p q)) (new_numbers q also) []
    ∙ ap (λ (k : ℕ). k + 0) (tally-ascending c (live_connections q) ∙ tally-filter c (λ n. goes_on q n && not (has (is_cut n) q)) (arrived_numbers q)
    ∙ ap (if_kept (goes_on q c && not (has (is_cut c) q))) (arrived_once p q c fit))
    ∙ one-kept (goes_on q c && not (has (is_cut c) q)) (is_in c (arrived_numbers q)) kept.0 kept.1))

pub closing_right : (p : Plan) (q : Record) (also : Option Event) → EachEntry (λ e before. event_fits p e before ≡ true) q
    → EachEntry (λ e before. close_once p e before ≡ true) q →
    tail_right q also (closing_actions p q also) ≡ true
closing_right p q also fit close = and _ _
    (and _ _ (only_of p q also) (all_cut p q also fit))
    (each_in (λ fd. times (is_close fd) (tell (with_event also q) (closing_actions p q also)) == 1) (numbers_in (with_event also q))
    (λ fd came. eq-eqb _ _ (all_closed p q also fd fit close came)))

-- after a right record the closing actions cut each live connection and close each number that came, once
pub right_closes : (p : Plan) (q : Record) (also : Option Event) → Right p q → tail_right q also (closing_actions p q also) ≡ true
right_closes p q also right = closing_right p q also right.fits right.stronger.closes
