-- What told cuts and closes leave of a record.
use Rattle.std.proofs.Common.{ℕ, Bool, true, false, ◌||◌, not, ◌==◌, inl, inr, List, [], ◌∷◌, ◌≡◌, refl, ap, sym, ◌∙◌, subst, arith, ◌+◌, ◌≤◌, if◌then◌else◌, map}
use Rattle.std.proofs.lemmas.Bool.{eq-eqb, ne_eqb, and_from, or_parts, or_left, or_right, cases_Bool, not_from_false}
use Rattle.svc_record.specs.declared.plan.Plan.{Plan}
use Rattle.svc_record.specs.declared.entry.Entry.{Entry}
use Rattle.svc_record.specs.declared.entry.Entry.TheVariants.{Told}
use Rattle.svc_record.specs.declared.action.Action.TheVariants.{Cut, Close}
use Rattle.svc_record.specs.Record.{Record, has, times, tell, before_runtimes, EachEntry}
use Rattle.svc_record.specs.Closes.{close_once}
use Rattle.svc_record.specs.Descriptors.{is_opened, is_close}
use Rattle.svc_record.specs.Failed.{has_failed}
use Rattle.svc_record.proofs.Tallies.{is_in, tally, one_if, is_in-tally}

pub has-closes : (test : Entry → Bool) → ((f : ℕ) → test (Told (Close f)) ≡ false) → (q : Record) (fds : List ℕ)
    → has test (tell q (map Close fds)) ≡ has test q
has-closes test f q [] = refl
has-closes test f q (fd ∷ fds) = has-closes test f (Told (Close fd) ∷ q) fds ∙ ap (λ b. b || has test q) (f fd)

pub times-other : (test : Entry → Bool) → ((f : ℕ) → test (Told (Close f)) ≡ false) → (q : Record) (fds : List ℕ)
    → times test (tell q (map Close fds)) ≡ times test q
times-other test f q [] = refl
times-other test f q (fd ∷ fds) = times-other test f (Told (Close fd) ∷ q) fds ∙ ap (λ b. if b then times test q + 1 else times test q) (f fd)

pub has-cuts : (test : Entry → Bool) → ((c : ℕ) → test (Told (Cut c)) ≡ false) → (q : Record) (cs : List ℕ) → has test (tell q (map Cut cs)) ≡ has test q
has-cuts test f q [] = refl
has-cuts test f q (c ∷ cs) = has-cuts test f (Told (Cut c) ∷ q) cs ∙ ap (λ b. b || has test q) (f c)

pub times-cuts : (test : Entry → Bool) → ((c : ℕ) → test (Told (Cut c)) ≡ false) → (q : Record) (cs : List ℕ) → times test (tell q (map Cut cs)) ≡ times test q
times-cuts test f q [] = refl
times-cuts test f q (c ∷ cs) = times-cuts test f (Told (Cut c) ∷ q) cs ∙ ap (λ b. if b then times test q + 1 else times test q) (f c)

pub runtimes-cuts : (q : Record) (cs : List ℕ) → before_runtimes (tell q (map Cut cs)) ≡ before_runtimes q
runtimes-cuts q [] = refl
runtimes-cuts q (c ∷ cs) = runtimes-cuts (Told (Cut c) ∷ q) cs

pub failed-cuts : (p : Plan) (q : Record) (cs : List ℕ) (s : ℕ) → has_failed p (tell q (map Cut cs)) s ≡ has_failed p q s
failed-cuts p q [] s = refl
failed-cuts p q (c ∷ cs) s = failed-cuts p (Told (Cut c) ∷ q) cs s

pub each-cuts : (test : Entry → Record → Bool) → ((c : ℕ) (b : Record) → test (Told (Cut c)) b ≡ true) → (q : Record) (cs : List ℕ)
    → EachEntry (λ e before. test e before ≡ true) q → EachEntry (λ e before. test e before ≡ true) (tell q (map Cut cs))
each-cuts test k q [] h = h
each-cuts test k q (c ∷ cs) h = each-cuts test k (Told (Cut c) ∷ q) cs (k c q, h)

pub runtimes-closes : (q : Record) (fds : List ℕ) → before_runtimes (tell q (map Close fds)) ≡ before_runtimes q
runtimes-closes q [] = refl
runtimes-closes q (f ∷ fds) = runtimes-closes (Told (Close f) ∷ q) fds

pub failed-closes : (p : Plan) (q : Record) (fds : List ℕ) (s : ℕ) → has_failed p (tell q (map Close fds)) s ≡ has_failed p q s
failed-closes p q [] s = refl
failed-closes p q (f ∷ fds) s = failed-closes p (Told (Close f) ∷ q) fds s

pub each-closes : (test : Entry → Record → Bool) → ((f : ℕ) (b : Record) → test (Told (Close f)) b ≡ true) → (q : Record) (fds : List ℕ)
    → EachEntry (λ e before. test e before ≡ true) q → EachEntry (λ e before. test e before ≡ true) (tell q (map Close fds))
each-closes test c q [] h = h
each-closes test c q (f ∷ fds) h = each-closes test c (Told (Close f) ∷ q) fds (c f q, h)

pub times-none : (test : Entry → Bool) (q : Record) → has test q ≡ false → times test q ≡ 0
times-none test [] h = refl
times-none test (e ∷ q) h = let parts = or_parts (test e) (has test q) h in rw (parts.0, times-none test q parts.1) refl

pub has-times : (test : Entry → Bool) (q : Record) → times test q ≡ 1 → has test q ≡ true
has-times test q h = elim (cases_Bool (has test q)) [
  | inl found ↦ found
  | inr none ↦ (let zero_times = times-none test q none in absurd (omega arith))
]

few-later : (b : Bool) (n : ℕ) → one_if b + n ≤ 1 → n ≤ 1
few-later true n h = omega arith
few-later false n h = omega arith

none-later : (b : Bool) (n : ℕ) → b ≡ true → one_if b + n ≤ 1 → n ≡ 0
none-later true n e h = omega arith
none-later false n e h = absurd (cc)

apart-head : (f : ℕ) (fds : List ℕ) → ((g : ℕ) → tally g (f ∷ fds) ≤ 1) → is_in f fds ≡ false
apart-head f fds few = is_in-tally f fds ∙ ap (λ n. not (n == 0)) (none-later (f == f) (tally f fds) (eq-eqb f f refl) (few f))

-- each of these descriptors, which stand there once, is open as it is closed
pub closes-once : (p : Plan) (q : Record) (fds : List ℕ) → ((g : ℕ) → tally g fds ≤ 1)
    → ((g : ℕ) → is_in g fds ≡ true → is_opened p q g ≡ true) → ((g : ℕ) → is_in g fds ≡ true → has (is_close g) q ≡ false)
    → EachEntry (λ e before. close_once p e before ≡ true) q → EachEntry (λ e before. close_once p e before ≡ true) (tell q (map Close fds))
closes-once p q [] few opened lives h = h
closes-once p q (f ∷ fds) few opened lives h =
    let here : is_in f (f ∷ fds) ≡ true = or_left (f == f) (is_in f fds) (eq-eqb f f refl) in
    closes-once p (Told (Close f) ∷ q) fds (λ g. few-later (f == g) (tally g fds) (few g))
    (λ g there. opened g (or_right (f == g) (is_in g fds) there))
    (λ g there. (
    let ne : (f == g) ≡ false =
    ne_eqb f g (λ e. let other = apart-head f fds few in let same : is_in f fds ≡ true = subst (λ x. is_in x fds ≡ true) (sym e) there in cc) in
    rw ne (lives g (or_right (f == g) (is_in g fds) there))))
    (and_from (is_opened p q f) (not (has (is_close f) q)) (opened f here) (not_from_false (has (is_close f) q) (lives f here)), h)
