-- What a timetable keeps of a record as the record grows.
use Rattle.std.proofs.Common.{ℕ, zero, suc, Bool, true, false, ◌≡◌, ◌<◌, ◌≤◌, ◌^◌, ◌+◌, ◌==◌, ◌||◌, ◌&&◌, not, List, [], ◌∷◌, ◌++◌, length, map, set, get_or, Option, refl, sym, ap, subst, ◌∙◌, inl, inr, arith, length-set}
use Rattle.std.specs.Prelude.{slice_get, Some, None, MatchOption, nat_lt, position, if◌then◌else◌}
use Rattle.std.proofs.lemmas.Bool.{cases_eq, eq-eqb, ne_eqb}
use Rattle.std.proofs.lemmas.List.Quantifiers.{position-Some}
use Rattle.std.proofs.lemmas.Option.{get_or_from_slice_get, slice_get_within}
use Rattle.std.proofs.lemmas.List.{append-nil, length-map}
use Rattle.svc_record.specs.declared.entry.Entry.TheVariants.{Got, Told}
use Rattle.svc_record.specs.declared.event.Event.TheVariants.{Moment, Ready, Signal}
use Rattle.svc_record.specs.declared.event.ShutdownSignal.{ShutdownSignal}
use Rattle.svc_record.specs.Record.{Record, has, now}
use Rattle.svc_job_host.specs.declared.plan.JobPlan.{JobPlan}
use Rattle.svc_job_host.specs.declared.plan.JobRun.{JobRun}
use Rattle.svc_job_host.specs.declared.row.JobRow.{JobRow}
use Rattle.svc_job_host.specs.Dues.{is_shutdown, period, start_moment, due_since, due_at, run_of, due_runs, has_run}
use Rattle.svc_job_host.specs.Rows.{ArePaced, HavePeriods, row_of, row_due, ran_row, due_in, runs_in, owes, owing}
use Rattle.svc_job_host.specs.JobRefusals.{is_idle}
use Rattle.svc_job_host.specs.TimetableData.{TimetableData}
use Rattle.svc_job_host.specs.Timetables.{IsTimetableOf, periods_of, with_row, started_row, told_row, noted, readied}
use Rattle.svc_record.specs.declared.action.Action.{Action}
use Rattle.svc_record.specs.declared.action.Action.TheVariants.{Start, Broadcast, Phase}
use Rattle.svc_record.specs.declared.action.ExecutionPhase.TheVariants.{ShutdownRuntimes}
use Rattle.svc_job_host.proofs.RangeLemmas.{flat_map-same, flat_map-none, filter-first, filter-none, get-set_here, get-set_other, none_before}

-- a run for so many due moments, as the record's definitions say it
ran-is : (every : ℕ) (started : Option ℕ) (ran owed : Bool) (due : ℕ)
    → ran_row (record { every = every; started = started; ran = ran; owes = owed }) due
    ≡ record { every = every; started = started; ran = ran || not (due == 0); owes = owed || (not (due == 0) && not ran) }
ran-is every started ran owed due =
    elim (due == 0) as (λ b. (if b then row ran owed else row true (owed || not ran)) ≡ row (ran || not b) (owed || (not b && not ran))) [
      | true ↦ elim ran as
          (λ r. row r owed ≡ row (r || false) (owed || (false && not r)))
          [ true ↦ ap (λ (o : Bool). row true o) (or_none owed) | false ↦ ap (λ (o : Bool). row false o) (or_none owed) ]
      | false ↦ elim ran as (λ r. row true (owed || not r) ≡ row (r || true) (owed || (true && not r))) [ true ↦ refl | false ↦ refl ]
    ]
  where
    row : Bool → Bool → JobRow
    row r o = record { every = every; started = started; ran = r; owes = o }

    or_none : (b : Bool) → b ≡ (b || false)
    or_none true = refl
    or_none false = refl

-- before the shutdown, and where time doesn't go back, the due moments are those since the last moment
due-on : (periods : List ℕ) (q : Record) (m s : ℕ) → has is_shutdown q ≡ false → nat_lt m (now q) ≡ false
    → due_at periods q m s ≡ due_since (period periods s) (start_moment q s) (now q) m
due-on periods q m s on forward = rw (on, forward) refl

pub due-off : (periods : List ℕ) (q : Record) (m s : ℕ) → (has is_shutdown q || nat_lt m (now q)) ≡ true → due_at periods q m s ≡ 0
due-off periods q m s off = rw off refl

row-ran : (periods : List ℕ) (q : Record) (m s : ℕ) → has is_shutdown q ≡ false → nat_lt m (now q) ≡ false
    → ran_row (row_of periods q s) (row_due (row_of periods q s) (now q) m) ≡ row_of periods (Got (Moment m) ∷ q) s
row-ran periods q m s on forward =
    rw (due-on periods q m s on forward)
    (ran-is (period periods s) (start_moment q s) (has_run periods q s) (owes periods q s) (due_since (period periods s) (start_moment q s) (now q) m))

row-late : (periods : List ℕ) (q : Record) (m s : ℕ) → (has is_shutdown q || nat_lt m (now q)) ≡ true
    → row_of periods q s ≡ row_of periods (Got (Moment m) ∷ q) s
row-late periods q m s off = rw (due-off periods q m s off) (ran-is (period periods s) (start_moment q s) (has_run periods q s) (owes periods q s) 0)

-- a moment at which jobs run
pub table_ran : (periods : List ℕ) (t : TimetableData) (q : Record) (m : ℕ) (rows : List JobRow) (runs : List JobRun) (room : ℕ) → IsTimetableOf periods t q
    → t.shut ≡ false → nat_lt m t.last ≡ false
    → ((s : ℕ) (row : JobRow) → slice_get t.rows s ≡ Some row → slice_get rows s ≡ Some (ran_row row (row_due row t.last m)))
    → length rows ≡ length t.rows → runs ≡ t.runs ++ runs_in t.rows t.last m (length t.rows)
    → IsTimetableOf periods (record { rows = rows; last = m; shut = t.shut; runs = runs; spare = room }) (Got (Moment m) ∷ q)
table_ran periods t q m rows runs room table on forward ran sized run =
    let on' : has is_shutdown q ≡ false = sym table.shut_is ∙ on in
    let forward' : nat_lt m (now q) ≡ false = subst (λ n. nat_lt m n ≡ false) table.last_is forward in
    let due = λ (s : ℕ) (low : 0 ≤ s) (high : s < 0 + length periods).
    ap (λ (o : Option JobRow). due_in o t.last m) (table.rows_are s (omega arith)) ∙ ap (λ n. row_due (row_of periods q s) n m) table.last_is
    ∙ sym (due-on periods q m s on' forward') in
    record {
      rows_are = λ s lt. ran s (row_of periods q s) (table.rows_are s lt)
          ∙ ap (λ n. Some (ran_row (row_of periods q s) (row_due (row_of periods q s) n m))) table.last_is
          ∙ ap (λ (r : JobRow). Some r) (row-ran periods q m s on' forward');
      sized = sized ∙ table.sized;
      last_is = refl;
      shut_is = table.shut_is;
      runs_are = run ∙ ap (λ (xs : List JobRun). xs ++ runs_in t.rows t.last m (length t.rows)) table.runs_are
          ∙ ap (λ (xs : List JobRun). due_runs periods q ++ xs)
          (ap (λ n. runs_in t.rows t.last m n) table.sized
          ∙ flat_map-same (λ s. run_of s (due_in (slice_get t.rows s) t.last m) m) (λ s. run_of s (due_at periods q m s) m) (length periods) 0
          (λ s low high. ap (λ n. run_of s n m) (due s low high)));
    }

-- a moment at which nothing runs
pub table_late : (periods : List ℕ) (t : TimetableData) (q : Record) (m : ℕ) → IsTimetableOf periods t q → (t.shut || nat_lt m t.last) ≡ true
    → IsTimetableOf periods (record { rows = t.rows; last = m; shut = t.shut; runs = t.runs; spare = t.spare }) (Got (Moment m) ∷ q)
table_late periods t q m table off =
    let off' : (has is_shutdown q || nat_lt m (now q)) ≡ true = rw (← table.shut_is, ← table.last_is) off in
    record {
      rows_are = λ s lt. table.rows_are s lt ∙ ap (λ (r : JobRow). Some r) (row-late periods q m s off');
      sized = table.sized;
      last_is = refl;
      shut_is = table.shut_is;
      runs_are = table.runs_are ∙ sym (append-nil (due_runs periods q))
          ∙ ap (λ (xs : List JobRun). due_runs periods q ++ xs)
          (sym (flat_map-none (λ s. run_of s (due_at periods q m s) m) (length periods) 0 (λ s. ap (λ n. run_of s n m) (due-off periods q m s off'))));
    }

new-at : (plans : List JobPlan) (s : ℕ) → s < length (periods_of plans)
    → slice_get (map (λ (plan : JobPlan). record { every = plan.every; started = None; ran = false; owes = false }) plans) s
    ≡ Some (row_of (periods_of plans) [] s)
new-at [] s lt = absurd (omega arith)
new-at (p ∷ plans) zero lt = refl
new-at (p ∷ plans) (suc s) lt = new-at plans s (omega arith)

sizes : (plans : List JobPlan) (rows : List JobRow)
    → rows ≡ map (λ (plan : JobPlan). record { every = plan.every; started = None; ran = false; owes = false }) plans → length rows ≡ length (periods_of plans)
sizes plans rows are = ap (λ (xs : List JobRow). length xs) are ∙ both plans
  where
    both : (plans : List JobPlan)
        → length (map {B = JobRow} (λ (plan : JobPlan). record { every = plan.every; started = None; ran = false; owes = false }) plans)
        ≡ length (periods_of plans)
    both [] = refl
    both (p ∷ plans) = ap (λ n. suc n) (both plans)

pub table_new : (plans : List JobPlan) (rows : List JobRow) (room : ℕ)
    → rows ≡ map (λ (plan : JobPlan). record { every = plan.every; started = None; ran = false; owes = false }) plans
    → IsTimetableOf (periods_of plans) (record { rows = rows; last = 0; shut = false; runs = []; spare = room }) []
table_new plans rows room are = record {
  rows_are = λ s lt. subst (λ (xs : List JobRow). slice_get xs s ≡ Some (row_of (periods_of plans) [] s)) (sym are) (new-at plans s lt);
  sized = sizes plans rows are;
  last_is = refl;
  shut_is = refl;
  runs_are = refl;
}

-- as many rows as plans
pub few_rows : (plans : List JobPlan) (rows : List JobRow)
    → rows ≡ map (λ (plan : JobPlan). record { every = plan.every; started = None; ran = false; owes = false }) plans
    → length plans ≤ 2 ^ 32 → length rows ≤ 2 ^ 32
few_rows plans rows are few = omega (arith, sizes plans rows are, length-map plans (λ (p : JobPlan). p.every), few)

new-paced : (plans : List JobPlan) → HavePeriods plans
    → ArePaced (map (λ (plan : JobPlan). record { every = plan.every; started = None; ran = false; owes = false }) plans)
new-paced [] have s row at = absurd (cc)
new-paced (p ∷ plans) have zero row at =
    let same : record { every = p.every; started = None; ran = false; owes = false } ≡ row = cc in
    subst (λ (r : JobRow). 0 < r.every) same (have 0 p refl)
new-paced (p ∷ plans) have (suc s) row at = new-paced plans (λ k plan there. have (suc k) plan there) s row at

pub paced_new : (plans : List JobPlan) (rows : List JobRow)
    → rows ≡ map (λ (plan : JobPlan). record { every = plan.every; started = None; ran = false; owes = false }) plans → HavePeriods plans → ArePaced rows
paced_new plans rows are have = subst (λ (xs : List JobRow). ArePaced xs) (sym are) (new-paced plans have)

-- the first job that owes its word, where the rows are those of the record
pub owing_first : (periods : List ℕ) (t : TimetableData) (q : Record) (s : ℕ) → IsTimetableOf periods t q
    → position (λ (row : JobRow). row.owes) t.rows ≡ Some s → owing periods q ≡ s ∷ owing periods (Got (Ready s) ∷ q)
owing_first periods t q s table found =
    let d : JobRow = record { every = 0; started = None; ran = false; owes = false } in
    let at = position-Some (λ (row : JobRow). row.owes) t.rows s d found in
    let row = λ (k : ℕ) (lt : k < length periods). get_or_from_slice_get t.rows k (row_of periods q k) d (table.rows_are k lt) in
    let within : s < length periods = (let short : s < length t.rows = at.0 in omega (arith, table.sized)) in
    filter-first (owes periods q) (owes periods (Got (Ready s) ∷ q)) (length periods) 0 s (omega arith) (omega arith)
    (λ k low before. subst (λ (r : JobRow). r.owes ≡ false) (row k (omega arith)) (at.2 k before))
    (subst (λ (r : JobRow). r.owes ≡ true) (row s within) at.1)
    (told-off (owes periods q s) s)
    (λ k other. told-other (owes periods q k) s k other)
  where
    told-off : (b : Bool) (n : ℕ) → (b && not (n == n)) ≡ false
    told-off b n = rw (eq-eqb n n refl) (elim b as (λ x. (x && false) ≡ false) [ true ↦ refl | false ↦ refl ])

    told-other : (b : Bool) (n k : ℕ) → (k ≡ n → ⊥) → (b && not (n == k)) ≡ b
    told-other b n k other = rw (ne_eqb n k (λ same. other (sym same))) (elim b as (λ x. (x && true) ≡ x) [ true ↦ refl | false ↦ refl ])

-- where none owes it
pub owing_none : (periods : List ℕ) (t : TimetableData) (q : Record) → IsTimetableOf periods t q → position (λ (row : JobRow). row.owes) t.rows ≡ None
    → owing periods q ≡ []
owing_none periods t q table none =
    let d : JobRow = record { every = 0; started = None; ran = false; owes = false } in
    let row = λ (k : ℕ) (lt : k < length periods). get_or_from_slice_get t.rows k (row_of periods q k) d (table.rows_are k lt) in
    filter-none (owes periods q) (length periods) 0
    (λ k low high. subst (λ (r : JobRow). r.owes ≡ false) (row k (omega arith))
    (none_before (λ (row : JobRow). row.owes) t.rows d none k (let sized : length t.rows ≡ length periods = table.sized in omega arith)))

pub owing_at : (periods : List ℕ) (t : TimetableData) (q : Record) (o : Option ℕ) → IsTimetableOf periods t q → o ≡ position (λ (row : JobRow). row.owes) t.rows
    → MatchOption o (owing periods q ≡ []) (λ s. owing periods q ≡ s ∷ owing periods (Got (Ready s) ∷ q))
owing_at periods t q None table found = owing_none periods t q table (sym found)
owing_at periods t q (Some s) table found = owing_first periods t q s table (sym found)

-- what a job was told at a moment
pub told_moment : (periods : List ℕ) (t : TimetableData) (q : Record) (m k : ℕ) → IsTimetableOf periods t q → t.shut ≡ false → nat_lt m t.last ≡ false
    → k < length t.rows → due_in (slice_get t.rows k) t.last m ≡ due_at periods q m k
told_moment periods t q m k table on forward lt =
    ap (λ (o : Option JobRow). due_in o t.last m) (table.rows_are k (let sized : length t.rows ≡ length periods = table.sized in omega arith))
    ∙ ap (λ n. row_due (row_of periods q k) n m) table.last_is
    ∙ sym (due-on periods q m k (sym table.shut_is ∙ on) (subst (λ n. nat_lt m n ≡ false) table.last_is forward))

pub parts_off : (a b : Bool) → false ≡ (a || b) → (a ≡ false) × (b ≡ false)
parts_off true b h = absurd (cc)
parts_off false b h = (refl, sym h)

with_row-here : (rows : List JobRow) (k : ℕ) (change : JobRow → JobRow) (row : JobRow) → slice_get rows k ≡ Some row
    → slice_get (with_row rows k change) k ≡ Some (change row)
with_row-here rows k change row at = rw at (get-set_here rows k (change row) (slice_get_within rows k row at))

with_row-other : (rows : List JobRow) (k s : ℕ) (change : JobRow → JobRow) → (s ≡ k → ⊥) → slice_get (with_row rows k change) s ≡ slice_get rows s
with_row-other rows k s change other =
    elim (slice_get rows k) as
    (λ (o : Option JobRow). slice_get (put o) s ≡ slice_get rows s) [ None ↦ refl | Some row ↦ get-set_other rows k s (change row) other ]
  where
    put : Option JobRow → List JobRow
    put None = rows
    put (Some row) = set rows k (change row)

with_row-length : (rows : List JobRow) (k : ℕ) (change : JobRow → JobRow) → length (with_row rows k change) ≡ length rows
with_row-length rows k change =
    elim (slice_get rows k) as (λ (o : Option JobRow). length (put o) ≡ length rows) [ None ↦ refl | Some row ↦ length-set rows k (change row) ]
  where
    put : Option JobRow → List JobRow
    put None = rows
    put (Some row) = set rows k (change row)

-- a row, of its fields
abbrev row_with : ℕ → Option ℕ → Bool → Bool → JobRow
row_with every started ran owed = record { every = every; started = started; ran = ran; owes = owed }

-- a job that says that it is ready
pub table_ready : (periods : List ℕ) (t : TimetableData) (q : Record) (k : ℕ) → IsTimetableOf periods t q
    → IsTimetableOf periods (readied t k) (Got (Ready k) ∷ q)
table_ready periods t q k table = record {
  rows_are = λ s lt. elim (cases_eq s k) [
    | inl e ↦ (
        let there : slice_get t.rows k ≡ Some (row_of periods q k) = subst (λ n. slice_get t.rows n ≡ Some (row_of periods q n)) e (table.rows_are s lt) in
        subst (λ n. slice_get (with_row t.rows k told_row) n ≡ Some (row_of periods (Got (Ready k) ∷ q) n)) (sym e)
        (with_row-here t.rows k told_row (row_of periods q k) there
        ∙ ap (λ (r : JobRow). Some r) (off (period periods k) (start_moment q k) (has_run periods q k) (owes periods q k) k)))
    | inr ne ↦ with_row-other t.rows k s told_row ne ∙ table.rows_are s lt
        ∙ ap (λ (r : JobRow). Some r) (kept (period periods s) (start_moment q s) (has_run periods q s) (owes periods q s) k s ne)
  ];
  sized = with_row-length t.rows k told_row ∙ table.sized;
  last_is = table.last_is;
  shut_is = table.shut_is;
  runs_are = table.runs_are;
}
  where
    off : (every : ℕ) (started : Option ℕ) (ran owed : Bool) (k : ℕ) → row_with every started ran false ≡ row_with every started ran (owed && not (k == k))
    off every started ran owed k =
        rw (eq-eqb k k refl) (elim owed as (λ b. row_with every started ran false ≡ row_with every started ran (b && false)) [ true ↦ refl | false ↦ refl ])

    kept : (every : ℕ) (started : Option ℕ) (ran owed : Bool) (k s : ℕ) → (s ≡ k → ⊥)
        → row_with every started ran owed ≡ row_with every started ran (owed && not (k == s))
    kept every started ran owed k s ne =
        rw (ne_eqb k s (λ same. ne (sym same)))
        (elim owed as (λ b. row_with every started ran b ≡ row_with every started ran (b && true)) [ true ↦ refl | false ↦ refl ])

-- a signal
pub table_signal : (periods : List ℕ) (t : TimetableData) (q : Record) (kind : ShutdownSignal) → IsTimetableOf periods t q
    → IsTimetableOf periods t (Got (Signal kind) ∷ q)
table_signal periods t q kind table =
    record { rows_are = table.rows_are; sized = table.sized; last_is = table.last_is; shut_is = table.shut_is; runs_are = table.runs_are }

-- a job that is started
table-started : (periods : List ℕ) (t : TimetableData) (q : Record) (k : ℕ) → IsTimetableOf periods t q
    → IsTimetableOf periods (record { rows = with_row t.rows k (λ row. started_row row t.last); last = t.last; shut = t.shut; runs = t.runs; spare = t.spare })
    (Told (Start k) ∷ q)
table-started periods t q k table = record {
  rows_are = λ s lt. elim (cases_eq s k) [
    | inl e ↦ (
        let there : slice_get t.rows k ≡ Some (row_of periods q k) = subst (λ n. slice_get t.rows n ≡ Some (row_of periods q n)) e (table.rows_are s lt) in
        subst (λ n. slice_get (with_row t.rows k (λ row. started_row row t.last)) n ≡ Some (row_of periods (Told (Start k) ∷ q) n)) (sym e)
        (with_row-here t.rows k (λ row. started_row row t.last) (row_of periods q k) there
        ∙ ap (λ (r : JobRow). Some r) (here (period periods k) (start_moment q k) (has_run periods q k) (owes periods q k) t.last (now q) k table.last_is)))
    | inr ne ↦ with_row-other t.rows k s (λ row. started_row row t.last) ne ∙ table.rows_are s lt
        ∙ ap (λ (r : JobRow). Some r) (elsewhere (period periods s) (start_moment q s) (has_run periods q s) (owes periods q s) (now q) k s ne)
  ];
  sized = with_row-length t.rows k (λ row. started_row row t.last) ∙ table.sized;
  last_is = table.last_is;
  shut_is = table.shut_is;
  runs_are = table.runs_are;
}
  where
    here : (every : ℕ) (started : Option ℕ) (ran owed : Bool) (last m k : ℕ) → last ≡ m
        → row_with every (Some last) ran owed ≡ row_with every (if k == k then Some m else started) ran owed
    here every started ran owed last m k e = rw (eq-eqb k k refl, e) refl

    elsewhere : (every : ℕ) (started : Option ℕ) (ran owed : Bool) (m k s : ℕ) → (s ≡ k → ⊥)
        → row_with every started ran owed ≡ row_with every (if k == s then Some m else started) ran owed
    elsewhere every started ran owed m k s ne = rw (ne_eqb k s (λ same. ne (sym same))) refl

-- the shutdown begins
table-shut : (periods : List ℕ) (t : TimetableData) (q : Record) (a : Action) → is_shutdown (Told a) ≡ true
    → ((s : ℕ) → row_of periods q s ≡ row_of periods (Told a ∷ q) s)
    → IsTimetableOf periods t q → IsTimetableOf periods (record { rows = t.rows; last = t.last; shut = true; runs = t.runs; spare = t.spare }) (Told a ∷ q)
table-shut periods t q a shuts same table = record {
  rows_are = λ s lt. table.rows_are s lt ∙ ap (λ (r : JobRow). Some r) (same s);
  sized = table.sized;
  last_is = table.last_is;
  shut_is = rw shuts refl;
  runs_are = table.runs_are;
}

table-as_is : (periods : List ℕ) (t : TimetableData) (q : Record) (a : Action) → is_shutdown (Told a) ≡ false
    → ((s : ℕ) → row_of periods q s ≡ row_of periods (Told a ∷ q) s)
    → IsTimetableOf periods t q → IsTimetableOf periods t (Told a ∷ q)
table-as_is periods t q a goes_on same table = record {
  rows_are = λ s lt. table.rows_are s lt ∙ ap (λ (r : JobRow). Some r) (same s);
  sized = table.sized;
  last_is = table.last_is;
  shut_is = rw goes_on table.shut_is;
  runs_are = table.runs_are;
}

-- an action
pub table_told : (periods : List ℕ) (t : TimetableData) (q : Record) (a : Action) → IsTimetableOf periods t q → IsTimetableOf periods (noted t a) (Told a ∷ q)
table_told periods t q (Start k) table = table-started periods t q k table
table_told periods t q Broadcast table = table-shut periods t q Broadcast refl (λ s. refl) table
table_told periods t q (Phase ShutdownRuntimes ms) table = table-shut periods t q (Phase ShutdownRuntimes ms) refl (λ s. refl) table
table_told periods t q (Phase x ms) table = table-as_is periods t q (Phase x ms) refl (λ s. refl) table
table_told periods t q a table = table-as_is periods t q a refl (λ s. refl) table

-- an action is no run
pub runs-noted : (t : TimetableData) (a : Action) → (noted t a).runs ≡ t.runs
runs-noted t (Start k) = refl
runs-noted t Broadcast = refl
runs-noted t (Phase ShutdownRuntimes ms) = refl
runs-noted t (Phase x ms) = refl
runs-noted t a = refl

-- where no plan is idle, each has a period
pub periods_there : (plans : List JobPlan) → position is_idle plans ≡ None → HavePeriods plans
periods_there plans none s plan at =
    let d : JobPlan = plan in
    let fails : is_idle (get_or plans s d) ≡ false = none_before is_idle plans d none s (slice_get_within plans s plan at) in
    let same : get_or plans s d ≡ plan = get_or_from_slice_get plans s plan d at in
    above plan.every (subst (λ (p : JobPlan). is_idle p ≡ false) same fails)
  where
    above : (n : ℕ) → (n == 0) ≡ false → 0 < n
    above zero h = absurd (cc)
    above (suc n) h = omega arith
