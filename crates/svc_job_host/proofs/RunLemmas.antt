-- The runs of all jobs at one moment, one after the other.
use Rattle.std.proofs.Common.{ℕ, true, false, ◌≡◌, ◌<◌, ◌≤◌, ◌+◌, ◌==◌, ◌||◌, not, List, ◌++◌, length, set, get_or, Option, refl, sym, ap, subst, ◌∙◌, inl, inr, arith, append_assoc, length-set}
use Rattle.std.specs.Prelude.{slice_get, slice_set, Some, None, if◌then◌else◌}
use Rattle.std.proofs.lemmas.Bool.{cases_eq}
use Rattle.std.proofs.lemmas.List.{append-nil}
use Rattle.std.proofs.lemmas.Option.{slice_get-get_or, get_or_from_slice_get, slice_get_within}
use Rattle.svc_base.specs.Items.{list_of, spare}
use Rattle.svc_job_host.specs.declared.plan.JobRun.{JobRun}
use Rattle.svc_job_host.specs.declared.row.JobRow.{JobRow}
use Rattle.svc_job_host.specs.Dues.{run_of}
use Rattle.svc_job_host.specs.Rows.{ArePaced, row_due, ran_row, due_in, runs_in, told_after}
use Rattle.svc_job_host.proofs.RangeLemmas.{flat_map-next, get-set_here, get-set_other}

-- a job without due moments doesn't run
pub no_run : (rows : List JobRow) (s : ℕ) (row d : JobRow) (last m due : ℕ) (runs : List JobRun) → slice_get rows s ≡ Some row
    → due ≡ row_due (get_or rows s d) last m → due ≡ 0
    → runs ≡ runs ++ run_of s (row_due row last m) m
no_run rows s row d last m due runs at is none =
    let same : get_or rows s d ≡ row = get_or_from_slice_get rows s row d at in
    let zero_due : row_due row last m ≡ 0 = subst (λ (x : JobRow). row_due x last m ≡ 0) same (sym is ∙ none) in
    rw zero_due (sym (append-nil runs))

-- the first s jobs ran, and the others are as they were
pub record RowsRan (init rows : List JobRow) (last m s : ℕ) : Type 0 where
  pub passed : (k : ℕ) (row : JobRow) → k < s → slice_get init k ≡ Some row → slice_get rows k ≡ Some (ran_row row (row_due row last m))
  pub others : (k : ℕ) → s ≤ k → slice_get rows k ≡ slice_get init k
  pub sized : length rows ≡ length init
  pub paced : ArePaced rows

-- and so did what was told of them
pub record RanUpTo (init rows : List JobRow) (first told : List (Option (List ℕ))) (before now : List JobRun × ℕ) (last m s : ℕ) : Type 0 where
  pub rows_ran : RowsRan init rows last m s
  pub ran : list_of now ≡ list_of before ++ runs_in init last m s
  pub tells : (k : ℕ) (o : Option (List ℕ)) → k < s → slice_get first k ≡ Some o → slice_get told k ≡ Some (told_after o (due_in (slice_get init k) last m))
  pub untold : (k : ℕ) → s ≤ k → slice_get told k ≡ slice_get first k
  pub heard : length told ≡ length first
  pub room : spare before ≤ spare now + s

-- a run doesn't change the period
every-ran : (row : JobRow) (due : ℕ) → (ran_row row due).every ≡ row.every
every-ran row due =
    elim (due == 0) as (λ b. (if b then row else record row { ran = true; owes = row.owes || not row.ran }).every ≡ row.every) [ true ↦ refl | false ↦ refl ]

-- one more row
pub rows_more : (init rows new : List JobRow) (last m s : ℕ) → RowsRan init rows last m s → s < length init
    → ((row : JobRow) → slice_get rows s ≡ Some row → new ≡ slice_set rows s (ran_row row (row_due row last m)))
    → RowsRan init new last m (s + 1)
rows_more init rows new last m s up lt set_row =
    let d : JobRow = record { every = 0; started = None; ran = false; owes = false } in
    let row : JobRow = get_or init s d in
    let there : slice_get init s ≡ Some row = slice_get-get_or init s d lt in
    let here : slice_get rows s ≡ Some row = up.others s (omega arith) ∙ there in
    let ran : JobRow = ran_row row (row_due row last m) in
    let changed : new ≡ set rows s ran = set_row row here in
    let within : s < length rows = slice_get_within rows s row here in
    let at_s : slice_get new s ≡ Some ran = subst (λ (xs : List JobRow). slice_get xs s ≡ Some ran) (sym changed) (get-set_here rows s ran within) in
    let elsewhere = λ (k : ℕ) (ne : k ≡ s → ⊥). ap (λ (xs : List JobRow). slice_get xs k) changed ∙ get-set_other rows s k ran ne in
    record {
      passed = λ k r below at. elim (cases_eq k s) [
        | inl e ↦ (
            let at' : slice_get rows s ≡ Some r = up.others s (omega arith) ∙ subst (λ n. slice_get init n ≡ Some r) e at in
            let changed' : new ≡ set rows s (ran_row r (row_due r last m)) = set_row r at' in
            subst (λ n. slice_get new n ≡ Some (ran_row r (row_due r last m))) (sym e)
            (subst (λ (xs : List JobRow). slice_get xs s ≡ Some (ran_row r (row_due r last m))) (sym changed')
            (get-set_here rows s (ran_row r (row_due r last m)) within)))
        | inr ne ↦ elsewhere k ne ∙ up.passed k r (let apart : k ≡ s → ⊥ = ne in omega arith) at
      ];
      others = λ k above. elsewhere k (λ same. omega arith) ∙ up.others k (omega arith);
      sized = ap (λ (xs : List JobRow). length xs) changed ∙ length-set rows s ran ∙ up.sized;
      paced = λ k r at. elim (cases_eq k s) [
        | inl e ↦ (
            let at' : slice_get new s ≡ Some r = subst (λ n. slice_get new n ≡ Some r) e at in
            let same : ran ≡ r = (let both : Some ran ≡ Some r = sym at_s ∙ at' in cc) in
            let old : 0 < row.every = up.paced s row here in
            subst (λ (x : JobRow). 0 < x.every) same (subst (λ n. 0 < n) (sym (every-ran row (row_due row last m))) old))
        | inr ne ↦ up.paced k r (sym (elsewhere k ne) ∙ at)
      ];
    }

pub ran_more : (init rows new : List JobRow) (first told spoken : List (Option (List ℕ))) (before now later : List JobRun × ℕ) (last m s : ℕ)
    → RanUpTo init rows first told before now last m s → s < length init
    → s < length first
    → ((row : JobRow) → slice_get rows s ≡ Some row → new ≡ slice_set rows s (ran_row row (row_due row last m)))
    → ((row : JobRow) → slice_get rows s ≡ Some row → list_of later ≡ list_of now ++ run_of s (row_due row last m) m)
    → ((row : JobRow) (o : Option (List ℕ)) → slice_get rows s ≡ Some row → slice_get told s ≡ Some o
    → spoken ≡ slice_set told s (told_after o (row_due row last m)))
    → spare now ≤ spare later + 1 → RanUpTo init new first spoken before later last m (s + 1)
ran_more init rows new first told spoken before now later last m s up lt heard set_row run say more_room =
    let d : JobRow = record { every = 0; started = None; ran = false; owes = false } in
    let row : JobRow = get_or init s d in
    let there : slice_get init s ≡ Some row = slice_get-get_or init s d lt in
    let here : slice_get rows s ≡ Some row = up.rows_ran.others s (omega arith) ∙ there in
    let o : Option (List ℕ) = get_or first s None in
    let said : slice_get first s ≡ Some o = slice_get-get_or first s None heard in
    let due_here : due_in (slice_get init s) last m ≡ row_due row last m = ap (λ (x : Option JobRow). due_in x last m) there in
    let now_said : slice_get told s ≡ Some o = up.untold s (omega arith) ∙ said in
    let spoke : spoken ≡ set told s (told_after o (row_due row last m)) = say row o here now_said in
    let silent =
    λ (k : ℕ) (ne : k ≡ s → ⊥). ap (λ (xs : List (Option (List ℕ))). slice_get xs k) spoke
    ∙ get-set_other told s k (told_after o (row_due row last m)) ne in
    record {
      rows_ran = rows_more init rows new last m s up.rows_ran lt set_row;
      ran = (
          run row here ∙ ap (λ (xs : List JobRun). xs ++ run_of s (row_due row last m) m) up.ran
          ∙ append_assoc (list_of before) (runs_in init last m s) (run_of s (row_due row last m) m)
          ∙ ap (λ (xs : List JobRun). list_of before ++ xs)
          (ap (λ n. runs_in init last m s ++ run_of s n m) (sym due_here) ∙ sym (flat_map-next (λ k. run_of k (due_in (slice_get init k) last m) m) s)));
      tells = λ k x below at. elim (cases_eq k s) [
        | inl e ↦ (
            let at' : slice_get told s ≡ Some x = up.untold s (omega arith) ∙ subst (λ n. slice_get first n ≡ Some x) e at in
            let spoke' : spoken ≡ set told s (told_after x (row_due row last m)) = say row x here at' in
            subst (λ n. slice_get spoken n ≡ Some (told_after x (due_in (slice_get init n) last m))) (sym e)
            (ap (λ (xs : List (Option (List ℕ))). slice_get xs s) spoke'
            ∙ get-set_here told s (told_after x (row_due row last m)) (let there : length told ≡ length first = up.heard in omega arith)
            ∙ ap (λ n. Some (told_after x n)) (sym due_here)))
        | inr ne ↦ silent k ne ∙ up.tells k x (let apart : k ≡ s → ⊥ = ne in omega arith) at
      ];
      untold = λ k above. silent k (λ same. omega arith) ∙ up.untold k (omega arith);
      heard = ap (λ (xs : List (Option (List ℕ))). length xs) spoke ∙ length-set told s (told_after o (row_due row last m)) ∙ up.heard;
      room = (let old : spare before ≤ spare now + s = up.room in omega arith);
    }

-- nothing ran yet
pub rows_none : (rows : List JobRow) (last m : ℕ) → ArePaced rows → RowsRan rows rows last m 0
rows_none rows last m paced = record {
  passed = λ k row below at. absurd (omega arith);
  others = λ k above. refl;
  sized = refl;
  paced = paced;
}

pub ran_none : (rows : List JobRow) (told : List (Option (List ℕ))) (runs : List JobRun × ℕ) (last m : ℕ) → ArePaced rows
    → RanUpTo rows rows told told runs runs last m 0
ran_none rows told runs last m paced = record {
  rows_ran = rows_none rows last m paced;
  ran = sym (append-nil (list_of runs));
  tells = λ k o below at. absurd (omega arith);
  untold = λ k above. refl;
  heard = refl;
  room = omega arith;
}
