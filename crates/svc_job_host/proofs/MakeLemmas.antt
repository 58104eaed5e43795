-- What a host of jobs was made of, as its record grows.
use Rattle.std.proofs.Common.{ℕ, zero, suc, ◌≡◌, ◌<◌, ◌≤◌, ◌+◌, ◌-◌, ◌∷◌, ◌++◌, ◌==◌, true, false, List, [], length, take, drop, Option, refl, sym, ap, subst, ◌∙◌, arith, length-append, take-append-drop, add-zero, zero-add}
use Rattle.std.specs.Prelude.{slice_get, Some, None, if◌then◌else◌}
use Rattle.std.specs.Option.{option_map}
use Rattle.std.proofs.lemmas.List.{append-nil, take_all}
use Rattle.svc_record.specs.declared.entry.Entry.TheVariants.{Got}
use Rattle.svc_record.specs.declared.event.Event.TheVariants.{Moment}
use Rattle.svc_record.specs.Record.{Record}
use Rattle.svc_server.specs.Hosts.{Account, Handed, HostMake, no_account}
use Rattle.svc_job_host.specs.declared.plan.JobRun.{JobRun}
use Rattle.svc_job_host.specs.Dues.{due_at, due_runs}
use Rattle.svc_job_host.specs.JobHosts.{dues_of, AreHeard}
use Rattle.svc_job_host.specs.JobMakes.{told_before, heard_before, heard_after}
use Rattle.svc_job_host.specs.Rows.{told_after}
use Rattle.svc_job_host.proofs.HeardLemmas.{due_list, dues_moment}

-- ---- a moment leaves what each job had been told before the runs

-- one more number, at the end of both
before-list : (numbers dues : List ℕ) (due : ℕ)
    → take (length (numbers ++ due ∷ []) - length (dues ++ due ∷ [])) (numbers ++ due ∷ []) ≡ take (length numbers - length dues) numbers
before-list numbers dues due =
    let longer : length (numbers ++ due ∷ []) - length (dues ++ due ∷ []) ≡ length numbers - length dues = simp length-append (omega arith) in
    rw longer (take-short (length numbers - length dues) numbers (due ∷ []) (omega arith))
  where
    take-short : (k : ℕ) (xs ys : List ℕ) → k ≤ length xs → take k (xs ++ ys) ≡ take k xs
    take-short zero xs ys le = refl
    take-short (suc k) [] ys le = absurd (omega arith)
    take-short (suc k) (x ∷ xs) ys le = ap (λ zs. x ∷ zs) (take-short k xs ys (omega arith))

before-job : (s : ℕ) (o : Option (List ℕ)) (due : ℕ) (old new : List JobRun) → dues_of s new ≡ dues_of s old ++ due_list due
    → told_before s new (told_after o due) ≡ told_before s old o
before-job s o due old new dues =
    rw dues
    (elim (due == 0) as
    (λ b. option_map (λ (numbers : List ℕ). take (length numbers - length (dues_of s old ++ (if b then [] else due ∷ []))) numbers)
    (if b then o else option_map (λ (numbers : List ℕ). numbers ++ due ∷ []) o)
    ≡ option_map (λ (numbers : List ℕ). take (length numbers - length (dues_of s old)) numbers) o) [
      | true ↦ rw (append-nil (dues_of s old)) refl
      | false ↦ more o
    ])
  where
    more : (o : Option (List ℕ))
        → option_map (λ (numbers : List ℕ). take (length numbers - length (dues_of s old ++ due ∷ [])) numbers)
        (option_map (λ (numbers : List ℕ). numbers ++ due ∷ []) o)
        ≡ option_map (λ (numbers : List ℕ). take (length numbers - length (dues_of s old)) numbers) o
    more None = refl
    more (Some numbers) = ap (λ xs. Some xs) (before-list numbers (dues_of s old) due)

before-all : (old new : List JobRun) (f : ℕ → ℕ) (k : ℕ) (first told : List (Option (List ℕ))) → length told ≡ length first
    → ((s : ℕ) (o : Option (List ℕ)) → slice_get first s ≡ Some o → slice_get told s ≡ Some (told_after o (f (k + s))))
    → ((s : ℕ) → s < length first → dues_of (k + s) new ≡ dues_of (k + s) old ++ due_list (f (k + s)))
    → heard_before k new told ≡ heard_before k old first
before-all old new f k [] [] sized says dues = refl
before-all old new f k [] (y ∷ told) sized says dues = absurd (omega (arith, sized))
before-all old new f k (x ∷ first) [] sized says dues = absurd (omega (arith, sized))
before-all old new f k (x ∷ first) (y ∷ told) sized says dues =
    let at : Some y ≡ Some (told_after x (f k)) = subst (λ (n : ℕ). Some y ≡ Some (told_after x (f n))) (add-zero k) (says 0 x refl) in
    let same : y ≡ told_after x (f k) = cc in
    let due : dues_of k new ≡ dues_of k old ++ due_list (f k) =
    subst (λ (n : ℕ). dues_of n new ≡ dues_of n old ++ due_list (f n)) (add-zero k) (dues 0 (omega arith)) in
    let here : told_before k new y ≡ told_before k old x = ap (told_before k new) same ∙ before-job k x (f k) old new due in
    let rest : heard_before (k + 1) new told ≡ heard_before (k + 1) old first =
    before-all old new f (k + 1) first told (omega (arith, sized))
    (λ s o there. subst (λ (n : ℕ). slice_get told s ≡ Some (told_after o (f n))) (next k s) (says (suc s) o there))
    (λ s lt. subst (λ (n : ℕ). dues_of n new ≡ dues_of n old ++ due_list (f n)) (next k s) (dues (suc s) (omega arith))) in
    ap (λ (z : Option (List ℕ)). z ∷ heard_before (k + 1) new told) here
    ∙ ap (λ (zs : List (Option (List ℕ))). told_before k old x ∷ zs) rest
  where
    next : (k s : ℕ) → k + suc s ≡ (k + 1) + s
    next k s = omega arith

pub made_moment : (periods : List ℕ) (q : Record) (m : ℕ) (first told : List (Option (List ℕ))) (old new : List JobRun) → old ≡ due_runs periods q
    → new ≡ due_runs periods (Got (Moment m) ∷ q) → length first ≡ length periods → length told ≡ length first
    → ((s : ℕ) (o : Option (List ℕ)) → slice_get first s ≡ Some o → slice_get told s ≡ Some (told_after o (due_at periods q m s)))
    → heard_before 0 new told ≡ heard_before 0 old first
made_moment periods q m first told old new old_is new_is sized same_size says =
    before-all old new (due_at periods q m) 0 first told same_size
    (λ s o at. subst (λ (n : ℕ). slice_get told s ≡ Some (told_after o (due_at periods q m n))) (sym (zero-add s)) (says s o at))
    (λ s lt. subst (λ (n : ℕ). dues_of n new ≡ dues_of n old ++ due_list (due_at periods q m n)) (sym (zero-add s))
    (dues_moment periods q m s old new old_is new_is (omega arith)))

-- ---- what jobs were told in a whole run

told-both : (s : ℕ) (runs : List JobRun) (o : Option (List ℕ))
    → ((numbers : List ℕ) → o ≡ Some numbers → drop (length numbers - length (dues_of s runs)) numbers ≡ dues_of s runs)
    → o ≡ option_map (λ (numbers : List ℕ). numbers ++ dues_of s runs) (told_before s runs o)
told-both s runs None h = refl
told-both s runs (Some numbers) h =
    ap (λ (xs : List ℕ). Some xs)
    (sym (take-append-drop (length numbers - length (dues_of s runs)) numbers)
    ∙ ap (λ (xs : List ℕ). take (length numbers - length (dues_of s runs)) numbers ++ xs) (h numbers refl))

told-again : (k : ℕ) (runs : List JobRun) (told : List (Option (List ℕ)))
    → ((s : ℕ) (numbers : List ℕ) → slice_get told s ≡ Some (Some numbers)
    → drop (length numbers - length (dues_of (k + s) runs)) numbers ≡ dues_of (k + s) runs)
    → told ≡ heard_after k runs (heard_before k runs told)
told-again k runs [] h = refl
told-again k runs (o ∷ told) h =
    let here : o ≡ option_map (λ (numbers : List ℕ). numbers ++ dues_of k runs) (told_before k runs o) =
    told-both k runs o
    (λ numbers is. subst (λ (n : ℕ). drop (length numbers - length (dues_of n runs)) numbers ≡ dues_of n runs) (add-zero k)
    (h 0 numbers (ap (λ (x : Option (List ℕ)). Some x) is))) in
    let rest : told ≡ heard_after (k + 1) runs (heard_before (k + 1) runs told) =
    told-again (k + 1) runs told
    (λ s numbers at. subst (λ (n : ℕ). drop (length numbers - length (dues_of n runs)) numbers ≡ dues_of n runs) (next k s)
    (h (suc s) numbers at)) in
    ap (λ (x : Option (List ℕ)). x ∷ told) here
    ∙ ap (λ (xs : List (Option (List ℕ))). option_map (λ (numbers : List ℕ). numbers ++ dues_of k runs) (told_before k runs o) ∷ xs) rest
  where
    next : (k s : ℕ) → k + suc s ≡ (k + 1) + s
    next k s = omega arith

-- where nothing ran yet
untold : (k : ℕ) (told : List (Option (List ℕ))) → heard_before k [] told ≡ told
untold k [] = refl
untold k (None ∷ told) = ap (λ (xs : List (Option (List ℕ))). None ∷ xs) (untold (k + 1) told)
untold k (Some numbers ∷ told) =
    let whole : length numbers - 0 ≡ length numbers = omega arith in
    ap (λ (xs : List ℕ). Some xs ∷ heard_before (k + 1) [] told)
    (ap (λ (n : ℕ). take n numbers) whole ∙ take_all (length numbers) numbers (omega arith))
    ∙ ap (λ (xs : List (Option (List ℕ))). Some numbers ∷ xs) (untold (k + 1) told)

-- jobs that had been told the same before the runs, of which there were none, were told the due numbers of the runs since
pub heard_since : (first told : List (Option (List ℕ))) (old new : List JobRun) → old ≡ [] → AreHeard told new
    → heard_before 0 new told ≡ heard_before 0 old first → told ≡ heard_after 0 new first
heard_since first told old new none heard same =
    told-again 0 new told
    (λ s numbers at. subst (λ (n : ℕ). drop (length numbers - length (dues_of n new)) numbers ≡ dues_of n new) (sym (zero-add s)) (heard s numbers at))
    ∙ ap (heard_after 0 new)
    (same ∙ ap (λ (runs : List JobRun). heard_before 0 runs first) none ∙ untold 0 first)

-- a host that tells the account of a run that hasn't begun has no entries
pub none_yet : (q : Record) (handed : List Handed) → Some (record { entries = q; handed = handed }) ≡ Some no_account → q ≡ []
none_yet q handed e = ap entries_in e
  where
    entries_in : Option Account → Record
    entries_in None = []
    entries_in (Some a) = a.entries

-- what a host that tells it was made of
pub make_is : (new old : HostMake) → Some new ≡ Some old → new ≡ old
make_is new old e = cc
