-- An answer to a bind that an arrival overtook: in use, or bound, while a live descriptor had the address. It changes nothing of what is gone, so that
-- descriptor stays open in the step.
use Rattle.std.proofs.Common.{ℕ, Bool, true, false, ◌||◌, ◌&&◌, not, ◌==◌, List, [], ◌∷◌, ◌++◌, ◌≡◌, refl, ap, sym, ◌∙◌, subst, arith, inl, inr, length, nat_lt, nat_le, if◌then◌else◌, MatchBool}
use Rattle.std.specs.List.{list_any, list_all}
use Rattle.std.proofs.lemmas.Bool.{and_parts, and_from, or_parts, or_left, or_right, cases_Bool, eqb-true, false_from_ne_true, lt-ltb}
use Rattle.std.proofs.lemmas.List.Folds.{list_any-append}
use Rattle.svc_record.specs.declared.plan.Plan.{Plan}
use Rattle.svc_record.specs.declared.action.Action.{Action}
use Rattle.svc_record.specs.declared.action.Action.TheVariants.{Start, Fail, Bind, Adopt, Close, Phase}
use Rattle.svc_record.specs.declared.action.ExecutionPhase.TheVariants.{Bootstrap, Running, ShutdownRuntimes, Terminated}
use Rattle.svc_record.specs.declared.entry.Entry.{Entry}
use Rattle.svc_record.specs.declared.entry.Entry.TheVariants.{Got, Told}
use Rattle.svc_record.specs.declared.event.Event.{Event}
use Rattle.svc_record.specs.declared.event.Event.TheVariants.{Bound, InUse}
use Rattle.svc_record.specs.Record.{Record, has, now, tell, last_step, is_running, EachEntry}
use Rattle.svc_record.specs.Plans.{services, endpoints, endpoint_numbers, address, each_endpoint}
use Rattle.svc_record.specs.Descriptors.{Descriptor, descriptors_of, opened_descriptors, is_opened, is_close, brings, has_live, address_of}
use Rattle.svc_record.specs.Asks.{is_adopt_open, is_bind_open, last_adopt}
use Rattle.svc_record.specs.AskRules.{ask_due}
use Rattle.svc_record.specs.Failed.{has_failed, is_failure, in_use_count, in_use_limit}
use Rattle.svc_record.specs.Starts.{is_started}
use Rattle.svc_record.specs.Endpoints.{held_numbers, is_held, is_at_work, serves}
use Rattle.svc_record.specs.Offer.{is_held_back}
use Rattle.svc_record.specs.Closes.{ClosesRight, is_gone, is_drained, is_broadcast, is_holder, is_adopt_of_open, ended_loops, have_loops_ended, close_once}
use Rattle.svc_record.specs.Drain.{Mark, phase, marks_if, wait_row, waits_are_over, PhasesRight}
use Rattle.svc_record.specs.Ends.{has_ended, has_ended_early, ends_tested}
use Rattle.svc_record.specs.Fits.{event_fits}
use Rattle.svc_record.specs.Right.{SettledRight, EndedRight, OpenRight, is_quiet, is_test_step}
use Rattle.svc_core.proofs.RecordLemmas.{on_true}
use Rattle.svc_base.specs.NumberSets.{is_in}
use Rattle.svc_endpoints.proofs.RangeLemmas.{any-grows, same0}
use Rattle.svc_base.proofs.NumberSetLemmas.{all-grows}
use Rattle.svc_endpoints.proofs.GrowLemmas.{gone-grows}
use Rattle.svc_endpoints.proofs.OpenedLemmas.{opened-in, brings-in, opens-later, first_address}
use Rattle.svc_endpoints.proofs.GoneLemmas.{is_turned, closed-is}
use Rattle.svc_handover.proofs.OfferedLemmas.{fresh-entry, opens-none, turned-later}
use Rattle.svc_drain.proofs.Broadcasts.{is_the_broadcast, marked-is}
use Rattle.svc_handover.proofs.TurnLemmas.{adopt-turn, held-started}

-- the event answers a bind of the endpoint, which a live descriptor's arrival overtook
abbrev pub is_overtaken : Plan → ℕ → ℕ → Event → Record → Bool
is_overtaken p s i (InUse t j) before = (t == s && j == i) && has_live p before (address p s i)
is_overtaken p s i (Bound t j fd) before = (t == s && j == i) && has_live p before (address p t j)
is_overtaken p s i _ before = false

-- the last event is such an answer
abbrev pub follows_overtaken : Plan → Record → ℕ → ℕ → Bool
follows_overtaken p [] s i = false
follows_overtaken p (Got e ∷ before) s i = is_overtaken p s i e before
follows_overtaken p (Told a ∷ before) s i = follows_overtaken p before s i

-- the endpoint's address was live
pub overtaken-live : (p : Plan) (s i : ℕ) (e : Event) (b : Record) → is_overtaken p s i e b ≡ true → has_live p b (address p s i) ≡ true
overtaken-live p s i (InUse t j) b h = (and_parts (t == s && j == i) (has_live p b (address p s i)) h).1
overtaken-live p s i (Bound t j fd) b h =
    let parts = and_parts (t == s && j == i) (has_live p b (address p t j)) h in
    let both = and_parts (t == s) (j == i) parts.0 in
    subst (λ u. has_live p b (address p u i) ≡ true) (eqb-true t s both.0) (subst (λ k. has_live p b (address p t k) ≡ true) (eqb-true j i both.1) parts.1)
overtaken-live p s i _ b h = absurd (cc)

-- what y leaves of what b said
pub record Leaves (p : Plan) (b y : Record) : Type 0 where
  pub failed : (t : ℕ) → has_failed p y t ≡ has_failed p b t
  pub held : (t k : ℕ) → held_numbers p y t k ≡ held_numbers p b t k
  pub back : (fd : ℕ) → is_held_back p y fd ≡ is_held_back p b fd
  pub loops : (t k : ℕ) → ended_loops p y t k ≡ ended_loops p b t k
  pub passed : waits_are_over p y ≡ waits_are_over p b
  pub early : has_ended_early p y ≡ has_ended_early p b
  pub row : wait_row p y ≡ wait_row p b

-- the answer leaves all of it
module _ (p : Plan) (b : Record) (t j : ℕ) (live : has_live p b (address p t j) ≡ true) where
  in_use-uncounted : (u k : ℕ) → in_use_count p (Got (InUse t j) ∷ b) u k ≡ in_use_count p b u k
  in_use-uncounted u k = elim (cases_Bool (t == u && j == k)) [
    | inl here ↦ (let both = and_parts (t == u) (j == k) here in
        let same : has_live p b (address p u k) ≡ true = subst (λ v. has_live p b (address p v k) ≡ true) (eqb-true t u both.0)
        (subst (λ v. has_live p b (address p t v) ≡ true) (eqb-true j k both.1) live) in
        rw (here, same) refl)
    | inr off ↦ rw off refl
  ]

  in_use-fails : (u : ℕ) → has_failed p (Got (InUse t j) ∷ b) u ≡ has_failed p b u
  in_use-fails u = same0 (λ k. has (is_failure u k) b || nat_le (in_use_limit p u k) (in_use_count p b u k))
      (λ k. has (is_failure u k) b || nat_le (in_use_limit p u k) (in_use_count p (Got (InUse t j) ∷ b) u k))
      (length (endpoints p u)) (λ k lt. ap (λ n. has (is_failure u k) b || nat_le (in_use_limit p u k) n) (in_use-uncounted u k))

  bound-holds : (fd u k : ℕ) → held_numbers p (Got (Bound t j fd) ∷ b) u k ≡ held_numbers p b u k
  bound-holds fd u k = ap (λ c. (if c then fd ∷ [] else []) ++ held_numbers p b u k) (off (t == u && j == k) (has_live p b (address p t j)) live)
    where
      off : (x y : Bool) → y ≡ true → (x && not y) ≡ false
      off x y h = grind arith

answer-leaves : (p : Plan) (s i : ℕ) (b : Record) (e : Event) → is_overtaken p s i e b ≡ true → Leaves p b (Got e ∷ b)
answer-leaves p s i b (InUse t j) over =
    let parts = and_parts (t == s && j == i) (has_live p b (address p s i)) over in
    let both = and_parts (t == s) (j == i) parts.0 in
    let live : has_live p b (address p t j) ≡ true =
    subst (λ u. has_live p b (address p u j) ≡ true) (sym (eqb-true t s both.0))
    (subst (λ k. has_live p b (address p s k) ≡ true) (sym (eqb-true j i both.1)) parts.1) in
    record { failed = in_use-fails p b t j live; held = λ u k. refl; back = λ fd. refl; loops = λ u k. refl; passed = refl; early = refl; row = refl }
answer-leaves p s i b (Bound t j fd) over =
    let live = (and_parts (t == s && j == i) (has_live p b (address p t j)) over).1 in
    record { failed = λ u. refl; held = bound-holds p b t j live fd; back = λ n. refl; loops = λ u k. refl; passed = refl; early = refl; row = refl }
answer-leaves p s i b _ over = absurd (cc)

-- and so does what is told
told-leaves : (p : Plan) (b x : Record) (told : List Action) → Leaves p b x → Leaves p b (tell x told)
told-leaves p b x [] l = l
told-leaves p b x (a ∷ told) l = told-leaves p b (Told a ∷ x) told
    (record { failed = l.failed; held = l.held; back = l.back; loops = l.loops; passed = l.passed; early = l.early; row = l.row })

-- what was opened is what it was
turned-tell : (p : Plan) (x : Record) (told : List Action) (fd : ℕ) → is_turned p (tell x told) fd ≡ is_turned p x fd
turned-tell p x [] fd = refl
turned-tell p x (a ∷ told) fd = turned-tell p (Told a ∷ x) told fd

address-tell : (p : Plan) (x : Record) (told : List Action) (fd : ℕ) → address_of p (tell x told) fd ≡ address_of p x fd
address-tell p x [] fd = refl
address-tell p x (a ∷ told) fd = address-tell p (Told a ∷ x) told fd

opened-tell : (p : Plan) (x : Record) (told : List Action) (fd : ℕ) → is_opened p (tell x told) fd ≡ is_opened p x fd
opened-tell p x [] fd = refl
opened-tell p x (a ∷ told) fd = opened-tell p (Told a ∷ x) told fd

address-later : (p : Plan) (b : Record) (fd : ℕ) (e : Entry) → brings fd e ≡ false → address_of p (e ∷ b) fd ≡ address_of p b fd
address-later p b fd e fresh = skip (descriptors_of p e) (opens-none p fd e fresh)
  where
    skip : (ds : List Descriptor) → list_any (λ (d : Descriptor). d.number == fd) ds ≡ false
        → first_address fd (ds ++ opened_descriptors p b) ≡ first_address fd (opened_descriptors p b)
    skip [] h = refl
    skip (d ∷ ds) h = let parts = or_parts (d.number == fd) (list_any (λ (x : Descriptor). x.number == fd) ds) h in rw parts.0 (skip ds parts.1)

-- each entry of the part behind what was told
pub each-part : (P : Entry → Record → Type 0) (x : Record) (told : List Action) → EachEntry P (tell x told) → EachEntry P x
each-part P x [] h = h
each-part P x (a ∷ told) h = (each-part P (Told a ∷ x) told h).1

-- an open adoption keeps its descriptor
adopt-told : (p : Plan) (x : Record) (told : List Action) (t j fd : ℕ) → EachEntry (λ e before. ask_due p e before ≡ true) (tell x told)
    → (is_adopt_open x t j && is_in fd (last_adopt x t j)) ≡ true → (is_adopt_open (tell x told) t j && is_in fd (last_adopt (tell x told) t j)) ≡ true
adopt-told p x [] t j fd due h = h
adopt-told p x (a ∷ told) t j fd due h = adopt-told p (Told a ∷ x) told t j fd due
    (one a (each-part (λ e before. ask_due p e before ≡ true) (Told a ∷ x) told due).0)
  where
    one : (a : Action) → ask_due p (Told a) x ≡ true → (is_adopt_open (Told a ∷ x) t j && is_in fd (last_adopt (Told a ∷ x) t j)) ≡ true
    one (Adopt u k n) due = elim (cases_Bool (u == t && k == j)) [
      | inl here ↦ absurd (let turn = adopt-turn p (Told (Adopt u k n)) x t j here due in
          clash (is_adopt_open x t j) (and_parts (is_adopt_open x t j) (is_in fd (last_adopt x t j)) h).0
          (or_parts (is_bind_open x t j) (is_adopt_open x t j) turn.unasked).1)
      | inr past ↦ rw past h
    ]
      where
        clash : (c : Bool) → c ≡ true → c ≡ false → ⊥
        clash c y z = cc
    one _ due = h

-- a step that begins with such an answer: in y, what stands before it is b, in which the run goes on
module _ (p : Plan) (s i : ℕ) (b : Record) (e : Event) (told : List Action) (over : is_overtaken p s i e b ≡ true)
    (fits : EachEntry (λ x before. event_fits p x before ≡ true) (Got e ∷ b))
    (due : EachEntry (λ x before. ask_due p x before ≡ true) (tell (Got e ∷ b) told)) where
  leaves : Leaves p b (tell (Got e ∷ b) told)
  leaves = told-leaves p b (Got e ∷ b) told (answer-leaves p s i b e over)

  due-before : EachEntry (λ x before. ask_due p x before ≡ true) b
  due-before = (each-part (λ x before. ask_due p x before ≡ true) (Got e ∷ b) told due).1

  adopt-later : (fd t j : ℕ) → (is_adopt_open b t j && is_in fd (last_adopt b t j)) ≡ true
      → (is_adopt_open (tell (Got e ∷ b) told) t j && is_in fd (last_adopt (tell (Got e ∷ b) told) t j)) ≡ true
  adopt-later fd t j h = adopt-told p (Got e ∷ b) told t j fd due (got e over h)
    where
      got : (e : Event) → is_overtaken p s i e b ≡ true → (is_adopt_open b t j && is_in fd (last_adopt b t j)) ≡ true
          → (is_adopt_open (Got e ∷ b) t j && is_in fd (last_adopt (Got e ∷ b) t j)) ≡ true
      got (InUse u k) over h = h
      got (Bound u k n) over h = h
      got _ over h = absurd (cc)

  adopt-of-later : (fd : ℕ) → is_adopt_of_open p b fd ≡ true → is_adopt_of_open p (tell (Got e ∷ b) told) fd ≡ true
  adopt-of-later fd = any-grows _ _ (services p) (λ t. any-grows _ _ (endpoint_numbers p t) (λ j. adopt-later fd t j))

  holder-same : (fd t j : ℕ) → is_holder p (tell (Got e ∷ b) told) fd t j ≡ is_holder p b fd t j
  holder-same fd t j = ap (λ f. not f && is_in fd (held_numbers p (tell (Got e ∷ b) told) t j)) (leaves.failed t)
      ∙ ap (λ xs. not (has_failed p b t) && is_in fd xs) (leaves.held t j)

  -- a holder that is done with its descriptor was done before
  done-earlier : (fd t j : ℕ)
      → (not (is_holder p (tell (Got e ∷ b) told) fd t j) || (serves p (tell (Got e ∷ b) told) t && have_loops_ended p (tell (Got e ∷ b) told) t j)) ≡ true
      → (not (is_holder p b fd t j) || (serves p b t && have_loops_ended p b t j)) ≡ true
  done-earlier fd t j h = elim (cases_Bool (is_holder p b fd t j)) [
    | inr off ↦ or_left (not (is_holder p b fd t j)) (serves p b t && have_loops_ended p b t j) (ap not off)
    | inl hit ↦ (let both = holds (is_holder p (tell (Got e ∷ b) told) fd t j) (serves p (tell (Got e ∷ b) told) t)
        (have_loops_ended p (tell (Got e ∷ b) told) t j) (holder-same fd t j ∙ hit) h in
        let holder = and_parts (not (has_failed p b t)) (is_in fd (held_numbers p b t j)) hit in
        let works = and_parts (is_at_work p (tell (Got e ∷ b) told) t) (list_all (is_held p (tell (Got e ∷ b) told) t) (endpoint_numbers p t)) both.0 in
        let started = held-started p b t j fits.1 due-before (some-in fd (held_numbers p b t j) holder.1) in
        or_right (not (is_holder p b fd t j)) (serves p b t && have_loops_ended p b t j)
        (and_from (serves p b t) (have_loops_ended p b t j)
        (and_from (is_at_work p b t) (list_all (is_held p b t) (endpoint_numbers p t)) (and_from (is_started b t) (not (has_failed p b t)) started holder.0)
        (all-grows (is_held p (tell (Got e ∷ b) told) t) (is_held p b t) (endpoint_numbers p t)
        (λ k x. sym (ap (λ xs. nat_lt 0 (length xs)) (leaves.held t k)) ∙ x) works.1))
        (sym (ap (λ n. n == p.tasks) (leaves.loops t j)) ∙ both.1)))
  ]
    where
      holds : (x y z : Bool) → x ≡ true → (not x || (y && z)) ≡ true → (y ≡ true) × (z ≡ true)
      holds x y z e k = and_parts y z (second x (y && z) e k)
        where
          second : (x w : Bool) → x ≡ true → (not x || w) ≡ true → w ≡ true
          second x w e k = grind arith

      some-in : (fd : ℕ) (xs : List ℕ) → is_in fd xs ≡ true → nat_lt 0 (length xs) ≡ true
      some-in fd [] k = absurd (cc)
      some-in fd (x ∷ xs) k = lt-ltb 0 (length (x ∷ xs)) (omega arith)

  module _ (quiet : has is_broadcast (tell (Got e ∷ b) told) ≡ has is_broadcast b) where
    drained-earlier : (fd : ℕ) → is_drained p (tell (Got e ∷ b) told) fd ≡ true → is_drained p b fd ≡ true
    drained-earlier fd h =
        let y : Record = tell (Got e ∷ b) told in
        let outer = and_parts
        ((has is_broadcast y && not (is_adopt_of_open p y fd)) && list_any (λ t. list_any (is_holder p y fd t) (endpoint_numbers p t)) (services p))
        (each_endpoint p (λ t j. not (is_holder p y fd t j) || (serves p y t && have_loops_ended p y t j))) h in
        let inner = and_parts (has is_broadcast y && not (is_adopt_of_open p y fd))
        (list_any (λ t. list_any (is_holder p y fd t) (endpoint_numbers p t)) (services p)) outer.0 in
        let first = and_parts (has is_broadcast y) (not (is_adopt_of_open p y fd)) inner.0 in
        and_from ((has is_broadcast b && not (is_adopt_of_open p b fd)) && list_any (λ t. list_any (is_holder p b fd t) (endpoint_numbers p t)) (services p))
        (each_endpoint p (λ t j. not (is_holder p b fd t j) || (serves p b t && have_loops_ended p b t j)))
        (and_from (has is_broadcast b && not (is_adopt_of_open p b fd)) (list_any (λ t. list_any (is_holder p b fd t) (endpoint_numbers p t)) (services p))
        (and_from (has is_broadcast b) (not (is_adopt_of_open p b fd)) (sym quiet ∙ first.0)
        (still-not (is_adopt_of_open p b fd) (is_adopt_of_open p y fd) (adopt-of-later fd) first.1))
        (any-grows _ _ (services p) (λ t. any-grows _ _ (endpoint_numbers p t) (λ j x. sym (holder-same fd t j) ∙ x)) inner.1))
        (all-grows _ _ (services p) (λ t. all-grows _ _ (endpoint_numbers p t) (done-earlier fd t)) outer.1)
      where
        still-not : (x y : Bool) → (x ≡ true → y ≡ true) → not y ≡ true → not x ≡ true
        still-not true y f k = rw (f refl) at k
        still-not false y f k = refl

    -- what was open before it stays open
    pub stays-open : (fd : ℕ) → EachEntry (λ x before. close_once p x before ≡ true) (tell (Got e ∷ b) told) → ClosesRight p b
        → ClosesRight p (tell (Got e ∷ b) told)
        → is_opened p b fd ≡ true → has (is_close fd) b ≡ false → has (is_close fd) (tell (Got e ∷ b) told) ≡ false
    stays-open fd once closes_before closes opened unclosed =
        let y : Record = tell (Got e ∷ b) told in
        let came : has (brings fd) b ≡ true = brings-in b fd ∙ sym (opened-in p b fd) ∙ opened in
        let fresh = fresh-entry p b fd (Got e) fits.0 came in
        let once_before = (each-part (λ x before. close_once p x before ≡ true) (Got e ∷ b) told once).1 in
        let opened_now : is_opened p y fd ≡ true = opened-tell p (Got e ∷ b) told fd
        ∙ opens-later fd (descriptors_of p (Got e)) (opened_descriptors p b) opened in
        let gone_before : is_gone p b fd ≡ false = sym (closed-is p b fd once_before (closes_before fd opened)) ∙ unclosed in
        false_from_ne_true (has (is_close fd) y) (λ closed.
        let gone : is_gone p y fd ≡ true = sym (closed-is p y fd once (closes fd opened_now)) ∙ closed in
        let gone_too : is_gone p b fd ≡ true = gone-grows p y b (λ t h. sym (leaves.failed t) ∙ h) fd
        (sym (turned-tell p (Got e ∷ b) told fd ∙ turned-later p b fd (Got e) fresh))
        (sym (address-tell p (Got e ∷ b) told fd ∙ address-later p b fd (Got e) fresh)) (λ h. leaves.back fd ∙ h) (drained-earlier fd) gone in
        clash (is_gone p b fd) gone_too gone_before)
      where
        clash : (c : Bool) → c ≡ true → c ≡ false → ⊥
        clash c x y = cc

-- what stands before the last event
abbrev before_step : Record → Record
before_step [] = []
before_step (Got e ∷ b) = b
before_step (Told a ∷ x) = before_step x

before-tell : (x : Record) (told : List Action) → before_step (tell x told) ≡ before_step x
before-tell x [] = refl
before-tell x (a ∷ told) = before-tell (Told a ∷ x) told

-- a step of a run that was tested in it told no broadcast
quiet-silent : (x : Record) → is_quiet (last_step x) ≡ true → has is_broadcast x ≡ has is_broadcast (before_step x)
quiet-silent [] h = refl
quiet-silent (Got e ∷ x) h = refl
quiet-silent (Told (Start t) ∷ x) h = quiet-silent x h
quiet-silent (Told (Fail t) ∷ x) h = quiet-silent x h
quiet-silent (Told (Bind t j) ∷ x) h = quiet-silent x h
quiet-silent (Told (Adopt t j fd) ∷ x) h = quiet-silent x h
quiet-silent (Told (Close fd) ∷ x) h = quiet-silent x h
quiet-silent (Told _ ∷ x) h = absurd (cc)

test-silent : (x : Record) (ms : ℕ) → is_test_step ms (last_step x) ≡ true → has is_broadcast x ≡ has is_broadcast (before_step x)
test-silent [] ms h = refl
test-silent (Got e ∷ x) ms h = refl
test-silent (Told (Phase Bootstrap at) ∷ x) ms h = quiet-silent x (and_parts (at == ms) (is_quiet (last_step x)) h).1
test-silent (Told _ ∷ x) ms h = absurd (cc)

-- whether the broadcast was told, by the row of phases that are due
or-none : (x : Bool) → (x || false) ≡ x
or-none x = grind arith

row-only : (r : Bool) (row : List Mark) → list_any is_the_broadcast (row ++ marks_if r (phase Running ∷ [])) ≡ list_any is_the_broadcast row
row-only true row = list_any-append is_the_broadcast row (phase Running ∷ []) ∙ or-none (list_any is_the_broadcast row)
row-only false row = list_any-append is_the_broadcast row [] ∙ or-none (list_any is_the_broadcast row)

marks-row : (a r : Bool) (row : List Mark) → list_any is_the_broadcast
    ((marks_if a (phase Terminated ∷ phase ShutdownRuntimes ∷ []) ++ row) ++ marks_if r (phase Running ∷ [])) ≡ list_any is_the_broadcast row
marks-row true r row = row-only r row
marks-row false r row = row-only r row

broadcast-by : (p : Plan) (x : Record) → PhasesRight p x → has is_broadcast x ≡ list_any is_the_broadcast (wait_row p x)
broadcast-by p x phases = marked-is x ∙ ap (list_any is_the_broadcast) phases ∙ marks-row (waits_are_over p x) (has is_running x) (wait_row p x)

only-tested : (a t c : Bool) → ((a || t) || c) ≡ true → a ≡ false → c ≡ false → t ≡ true
only-tested a t c h x z = grind arith

-- at the end of the step exactly what is gone is closed, and no broadcast was told in it, also where the run was tested in it
pub step-closes : (p : Plan) (s i : ℕ) (b : Record) (e : Event) (told : List Action) → is_overtaken p s i e b ≡ true → has_ended p b ≡ false → OpenRight p b
    → SettledRight p (tell (Got e ∷ b) told)
    → ClosesRight p (tell (Got e ∷ b) told) × (has is_broadcast (tell (Got e ∷ b) told) ≡ has is_broadcast b)
step-closes p s i b e told over going before settled = by (tell (Got e ∷ b) told) (told-leaves p b (Got e ∷ b) told (answer-leaves p s i b e over))
    (before-tell (Got e ∷ b) told) (has_ended p (tell (Got e ∷ b) told)) refl settled
  where
    by : (y : Record) → Leaves p b y → before_step y ≡ b → (c : Bool) → has_ended p y ≡ c → MatchBool c (EndedRight p y) (OpenRight p y)
        → ClosesRight p y × (has is_broadcast y ≡ has is_broadcast b)
    by y leaves at false on goes = (
      goes.closes,
      broadcast-by p y goes.phases ∙ ap (list_any is_the_broadcast) leaves.row
          ∙ sym (broadcast-by p b before.phases),
    )
    by y leaves at true off ended =
        let parts = or_parts (waits_are_over p b || ends_tested p b) (has_ended_early p b) going in
        let tested = only-tested (waits_are_over p y) (ends_tested p y) (has_ended_early p y) off
        (leaves.passed ∙ (or_parts (waits_are_over p b) (ends_tested p b) parts.0).0) (leaves.early ∙ parts.1) in
        let right = on_true (ends_tested p y) ((is_test_step (now y) (last_step y) ≡ true) × ClosesRight p y) tested ended.tested in
        (right.1, test-silent y (now y) right.0 ∙ ap (has is_broadcast) at)
