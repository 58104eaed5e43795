-- What jobs were told.
use Rattle.std.proofs.Common.{ℕ, zero, suc, true, false, ◌≡◌, ◌<◌, ◌≤◌, ◌+◌, ◌-◌, ◌∷◌, ◌++◌, ◌==◌, List, [], length, map, drop, set, get_or, Option, refl, sym, ap, subst, ◌∙◌, inl, inr, arith, length-append}
use Rattle.std.specs.Prelude.{slice_get, filter, Some, None, if◌then◌else◌}
use Rattle.std.specs.List.{flat_map, range_with_len}
use Rattle.std.specs.Option.{option_map}
use Rattle.std.proofs.lemmas.Bool.{cases_eq, eq-eqb, ne_eqb}
use Rattle.std.proofs.lemmas.List.{map-set, map-append, append-nil, set-get_or, length-map}
use Rattle.std.proofs.lemmas.List.Elements.{filter-append}
use Rattle.std.proofs.lemmas.Option.{slice_get-map, slice_get-get_or, get_or_from_slice_get, slice_get_within}
use Rattle.svc_record.specs.declared.entry.Entry.TheVariants.{Got}
use Rattle.svc_record.specs.declared.event.Event.TheVariants.{Moment}
use Rattle.svc_record.specs.Record.{Record}
use Rattle.svc_job_host.specs.declared.plan.JobRun.{JobRun}
use Rattle.svc_job_host.specs.Dues.{due_at, run_of, runs_at, due_runs}
use Rattle.svc_job_host.specs.JobHosts.{dues_of, AreHeard}
use Rattle.svc_job_host.specs.Rows.{told_after}

-- where the job at the place ran
pub heard : {J : Type 0} (told : J → Option (List ℕ)) (jobs : List J) (s due : ℕ) (new d : J) (o : Option (List ℕ)) → slice_get (map told jobs) s ≡ Some o
    → (due ≡ 0 → ⊥)
    → told new ≡ option_map (λ numbers. numbers ++ due ∷ []) (told (get_or jobs s d)) → map told (set jobs s new) ≡ set (map told jobs) s (told_after o due)
heard {J} told jobs s due new d o at some says =
    let within : s < length jobs =
    (let short : s < length (map told jobs) = slice_get_within (map told jobs) s o at in subst (λ n. s < n) (length-map jobs told) short) in
    let there : slice_get (map told jobs) s ≡ Some (told (get_or jobs s d)) =
    slice_get-map told jobs s ∙ ap (option_map told) (slice_get-get_or jobs s d within) in
    let same : told (get_or jobs s d) ≡ o = (let both : Some (told (get_or jobs s d)) ≡ Some o = sym there ∙ at in cc) in
    map-set told jobs s new ∙ ap (λ x. set (map told jobs) s x)
    (says ∙ ap (option_map (λ numbers. numbers ++ due ∷ [])) same ∙ (let ran : (due == 0) ≡ false = ne_eqb due 0 some in rw ran refl))

-- where it didn't
pub unheard : (told : List (Option (List ℕ))) (s due : ℕ) (o : Option (List ℕ)) → slice_get told s ≡ Some o → due ≡ 0 → told ≡ set told s (told_after o due)
unheard told s due o at none =
    let same : get_or told s None ≡ o = get_or_from_slice_get told s o None at in
    rw none (sym (ap (λ x. set told s x) (sym same) ∙ set-get_or told s None))

-- the due number of a run, if it is one
abbrev pub due_list : ℕ → List ℕ
due_list due = if due == 0 then [] else due ∷ []

dues-append : (s : ℕ) (xs ys : List JobRun) → dues_of s (xs ++ ys) ≡ dues_of s xs ++ dues_of s ys
dues-append s xs ys =
    rw (filter-append (λ (run : JobRun). run.job == s) xs ys)
    (map-append (λ (run : JobRun). run.due) (filter (λ (run : JobRun). run.job == s) xs) (filter (λ (run : JobRun). run.job == s) ys))

dues-own : (s due m : ℕ) → dues_of s (run_of s due m) ≡ due_list due
dues-own s due m =
    elim (due == 0) as
    (λ b. dues_of s (if b then [] else record { job = s; due = due; moment = m } ∷ []) ≡ (if b then [] else due ∷ []))
    [ true ↦ refl | false ↦ rw (eq-eqb s s refl) refl ]

dues-other : (s k due m : ℕ) → (k ≡ s → ⊥) → dues_of s (run_of k due m) ≡ []
dues-other s k due m ne =
    elim (due == 0) as
    (λ b. dues_of s (if b then [] else record { job = k; due = due; moment = m } ∷ []) ≡ []) [ true ↦ refl | false ↦ rw (ne_eqb k s ne) refl ]

dues-before : (f : ℕ → ℕ) (m s n a : ℕ) → s < a → dues_of s (flat_map (λ k. run_of k (f k) m) (range_with_len a n)) ≡ []
dues-before f m s zero a low = refl
dues-before f m s (suc n) a low =
    dues-append s (run_of a (f a) m) (flat_map (λ k. run_of k (f k) m) (range_with_len (a + 1) n))
    ∙ (let here : dues_of s (run_of a (f a) m) ≡ [] = dues-other s a (f a) m (λ same. omega arith) in rw here (dues-before f m s n (a + 1) (omega arith)))

dues-at : (f : ℕ → ℕ) (m s n a : ℕ) → a ≤ s → s < a + n → dues_of s (flat_map (λ k. run_of k (f k) m) (range_with_len a n)) ≡ due_list (f s)
dues-at f m s zero a low high = absurd (omega arith)
dues-at f m s (suc n) a low high =
    dues-append s (run_of a (f a) m) (flat_map (λ k. run_of k (f k) m) (range_with_len (a + 1) n))
    ∙ elim (cases_eq a s) [
      | inl e ↦ (
          let own : dues_of s (run_of a (f a) m) ≡ due_list (f s) = subst (λ k. dues_of s (run_of k (f k) m) ≡ due_list (f s)) (sym e) (dues-own s (f s) m) in
          rw (own, dues-before f m s n (a + 1) (omega arith)) (append-nil (due_list (f s))))
      | inr ne ↦ (
          let other : dues_of s (run_of a (f a) m) ≡ [] = dues-other s a (f a) m ne in
          rw other (dues-at f m s n (a + 1) (let apart : a ≡ s → ⊥ = ne in omega arith) (omega arith)))
    ]

-- one more number, at the end of both
tail-more : (before dues : List ℕ) (due : ℕ) → drop (length before - length dues) before ≡ dues
    → drop (length (before ++ due ∷ []) - length (dues ++ due ∷ [])) (before ++ due ∷ []) ≡ dues ++ due ∷ []
tail-more before dues due h =
    let longer : length (before ++ due ∷ []) - length (dues ++ due ∷ []) ≡ length before - length dues = simp length-append (omega arith) in
    rw longer (drop-short (length before - length dues) before (due ∷ []) (omega arith) ∙ ap (λ xs. xs ++ due ∷ []) h)
  where
    drop-short : (k : ℕ) (xs ys : List ℕ) → k ≤ length xs → drop k (xs ++ ys) ≡ drop k xs ++ ys
    drop-short zero xs ys le = refl
    drop-short (suc k) [] ys le = absurd (omega arith)
    drop-short (suc k) (x ∷ xs) ys le = drop-short k xs ys (omega arith)

told-tail : (o : Option (List ℕ)) (due : ℕ) (numbers dues : List ℕ) → ((before : List ℕ) → o ≡ Some before → drop (length before - length dues) before ≡ dues)
    → told_after o due ≡ Some numbers
    → drop (length numbers - length (dues ++ due_list due)) numbers ≡ dues ++ due_list due
told-tail o due numbers dues h =
    elim (due == 0) as
    (λ b. (if b then o else option_map (λ xs. xs ++ due ∷ []) o) ≡ Some numbers
    → drop (length numbers - length (dues ++ (if b then [] else due ∷ []))) numbers ≡ dues ++ (if b then [] else due ∷ [])) [
      | true ↦ (λ told. rw (append-nil dues) (h numbers told))
      | false ↦ more o h
    ]
  where
    more : (o : Option (List ℕ)) → ((before : List ℕ) → o ≡ Some before → drop (length before - length dues) before ≡ dues)
        → option_map (λ xs. xs ++ due ∷ []) o ≡ Some numbers
        → drop (length numbers - length (dues ++ due ∷ [])) numbers ≡ dues ++ due ∷ []
    more None h told = absurd (cc)
    more (Some before) h told =
        let same : before ++ due ∷ [] ≡ numbers = cc in
        subst (λ xs. drop (length xs - length (dues ++ due ∷ [])) xs ≡ dues ++ due ∷ []) same (tail-more before dues due (h before refl))

-- the due numbers of the runs of job s, with a moment
pub dues_moment : (periods : List ℕ) (q : Record) (m s : ℕ) (old new : List JobRun) → old ≡ due_runs periods q → new ≡ due_runs periods (Got (Moment m) ∷ q)
    → s < length periods → dues_of s new ≡ dues_of s old ++ due_list (due_at periods q m s)
dues_moment periods q m s old new old_is new_is within =
    ap (dues_of s) new_is ∙ dues-append s (due_runs periods q) (runs_at periods q m)
    ∙ ap (λ xs. xs ++ dues_of s (runs_at periods q m)) (ap (dues_of s) (sym old_is))
    ∙ ap (λ xs. dues_of s old ++ xs) (dues-at (due_at periods q m) m s (length periods) 0 (omega arith) (omega arith))

-- after a moment
pub heard_moment : (periods : List ℕ) (q : Record) (m : ℕ) (first told : List (Option (List ℕ))) (old new : List JobRun) → AreHeard first old
    → old ≡ due_runs periods q → new ≡ due_runs periods (Got (Moment m) ∷ q)
    → length first ≡ length periods → length told ≡ length first
    → ((s : ℕ) (o : Option (List ℕ)) → slice_get first s ≡ Some o → slice_get told s ≡ Some (told_after o (due_at periods q m s))) → AreHeard told new
heard_moment periods q m first told old new heard old_is new_is sized same_size says s numbers at =
    let within : s < length first = (let short : s < length told = slice_get_within told s (Some numbers) at in omega arith) in
    let o : Option (List ℕ) = get_or first s None in
    let there : slice_get first s ≡ Some o = slice_get-get_or first s None within in
    let now_told : told_after o (due_at periods q m s) ≡ Some numbers =
    (let both : Some (told_after o (due_at periods q m s)) ≡ Some (Some numbers) = sym (says s o there) ∙ at in cc) in
    let dues : dues_of s new ≡ dues_of s old ++ due_list (due_at periods q m s) = dues_moment periods q m s old new old_is new_is (omega arith) in
    rw dues (told-tail o (due_at periods q m s) numbers (dues_of s old) (λ before is. heard s before (there ∙ ap (λ x. Some x) is)) now_told)

-- nothing ran yet
pub heard_none : (told : List (Option (List ℕ))) (runs : List JobRun) → runs ≡ [] → AreHeard told runs
heard_none told runs none s numbers at = rw none (let whole : length numbers - 0 ≡ length numbers = omega arith in rw whole (all-gone numbers))
  where
    all-gone : (xs : List ℕ) → drop (length xs) xs ≡ []
    all-gone [] = refl
    all-gone (x ∷ xs) = all-gone xs
