-- When a job is due next.
use Rattle.std.proofs.Common.{◌≡◌, ℕ, ◌+◌, ◌-◌, ◌*◌, ◌<◌, ◌≤◌, ◌/◌, ◌||◌, List, length, Option, Some, None, Bool, true, false, refl, ap, subst, sym, ◌∙◌, inl, inr, arith}
use Rattle.std.specs.Prelude.{◌^◌, ◌⊎◌, slice_get, nat_lt, SomeIff}
use Rattle.std.proofs.Math.Nat.{mul-div_cancel, div-lt_iff_lt-mul, div-mul-le_self}
use Rattle.std.proofs.lemmas.Nat.{le-div}
use Rattle.std.proofs.lemmas.List.{length-map}
use Rattle.std.proofs.lemmas.Bool.{cases_eq, cases_lt, lt-ltb, le-ltb}
use Rattle.svc_moments.specs.Least.{IsLeast, earlier_of}
use Rattle.svc_moments.proofs.LeastLemmas.{least-both, least-by}
use Rattle.svc_record.specs.Record.{Record, has, now}
use Rattle.svc_job_host.specs.declared.plan.JobPlan.{JobPlan}
use Rattle.svc_job_host.specs.declared.row.JobRow.{JobRow}
use Rattle.svc_job_host.specs.Dues.{due_between, due_since, due_at, due_runs, is_shutdown}
use Rattle.svc_job_host.specs.Rows.{ArePaced, row_due, due_in, IsDueAmong}
use Rattle.svc_job_host.specs.ServedJobs.{AreServedBy, RunsSome, record_of}
use Rattle.svc_job_host.specs.ServedJobsData.{ServedJobsData}
use Rattle.svc_job_host.specs.Timetables.{periods_of}
use Rattle.svc_job_host.proofs.TableLemmas.{told_moment, due-off}

-- so many periods behind its start
once : (every t last : ℕ) → 0 < every → due_between every t last (t + ((last - t) / every + 1) * every) ≡ 1
once every t last paced =
    let k : ℕ = (last - t) / every in
    let passed : (t + (k + 1) * every) - t ≡ (k + 1) * every = omega arith in
    let count : ((t + (k + 1) * every) - t) / every ≡ k + 1 = ap (λ (n : ℕ). n / every) passed ∙ mul-div_cancel (k + 1) paced in
    omega (arith, count)

-- before that it isn't due again
early : (every t last m : ℕ) → 0 < every → m < t + ((last - t) / every + 1) * every → due_between every t last m ≡ 0
early every t last m paced lt =
    let k : ℕ = (last - t) / every in
    let below : m - t < (k + 1) * every = omega (arith, lt) in
    let few : (m - t) / every < k + 1 = (div-lt_iff_lt-mul paced).1 below in
    omega (arith, few)

since : (row : JobRow) (t last m : ℕ) → row.started ≡ Some t → row_due row last m ≡ due_between row.every t last m
since row t last m e = ap (λ (s : Option ℕ). due_since row.every s last m) e

-- a job whose next due moment has more than 64 bits is never due
pub never-late : (row : JobRow) (t last : ℕ) → 0 < row.every → row.started ≡ Some t → 2 ^ 64 ≤ t + ((last - t) / row.every + 1) * row.every
    → IsLeast (λ t. 0 < row_due row last t) None
never-late row t last paced e late = record {
  before = λ n small h due. (
      let none : row_due row last n ≡ 0 = since row t last n e ∙ early row.every t last n paced (omega (arith, late, small)) in
      omega (arith, none, due));
  there = tt;
}

pub next-due : (row : JobRow) (t last m : ℕ) → 0 < row.every → row.started ≡ Some t → m ≡ t + ((last - t) / row.every + 1) * row.every
    → IsLeast (λ t. 0 < row_due row last t) (Some m)
next-due row t last m paced e is = record {
  before = λ n small h due. (
      let lt : n < m = grind (arith, h) in
      let none : row_due row last n ≡ 0 = since row t last n e ∙ early row.every t last n paced (omega (arith, lt, is)) in
      omega (arith, none, due));
  there = (
      let here : row_due row last m ≡ 1 = since row t last m e ∙ ap (due_between row.every t last) is ∙ once row.every t last paced in
      omega (arith, here));
}

-- by the sums of the code
pub next-of : (row : JobRow) (start last passed more later : ℕ) (at : Option ℕ) → 0 < row.every → row.started ≡ Some start
    → passed ≡ last - start → more ≡ passed / row.every + 1 → later ≡ more * row.every
    → SomeIff at (start + later < 2 ^ 64) (start + later) → IsLeast (λ t. 0 < row_due row last t) at
next-of row start last passed more later at paced e passed_is more_is later_is = by at
  where
    whole : start + later ≡ start + ((last - start) / row.every + 1) * row.every
    whole = rw (later_is, more_is, passed_is) refl

    by : (at : Option ℕ) → SomeIff at (start + later < 2 ^ 64) (start + later) → IsLeast (λ t. 0 < row_due row last t) at
    by None late = never-late row start last paced e (subst (λ n. 2 ^ 64 ≤ n) whole (elim (cases_lt (start + later) (2 ^ 64)) [
      | inl lt ↦ absurd (late lt)
      | inr le ↦ le
    ]))
    by (Some m) is = next-due row start last m paced e (is.1 ∙ whole)

-- of one more of the jobs
pub among-more : (rows : List JobRow) (last n : ℕ) (row : JobRow) (a b c : Option ℕ) → slice_get rows n ≡ Some row → c ≡ earlier_of a b
    → IsLeast (IsDueAmong rows last n) a → IsLeast (λ t. 0 < row_due row last t) b → IsLeast (IsDueAmong rows last (n + 1)) c
among-more rows last n row a b c at is first here =
    let here' : IsLeast (λ t. 0 < due_in (slice_get rows n) last t) b =
    least-by (λ t. 0 < row_due row last t) (λ t. 0 < due_in (slice_get rows n) last t) b
    (λ t due. subst (λ (o : Option JobRow). 0 < due_in o last t) (sym at) due) (λ t due. subst (λ (o : Option JobRow). 0 < due_in o last t) at due) here in
    subst (IsLeast (IsDueAmong rows last (n + 1))) (sym is)
    (least-by (λ t. IsDueAmong rows last n t ⊎ (0 < due_in (slice_get rows n) last t)) (IsDueAmong rows last (n + 1)) (earlier_of a b)
    (λ t due. elim due [
      | inl x ↦ record { job = x.job; there = (let there = x.there in omega (arith, there)); due = x.due }
      | inr y ↦ record { job = n; there = omega arith; due = y }
    ])
    (λ t due. elim (cases_eq due.job n) [
      | inl e ↦ inr (subst (λ k. 0 < due_in (slice_get rows k) last t) e due.due)
      | inr ne ↦ inl (record { job = due.job; there = (let there = due.there in omega (arith, there, ne)); due = due.due })
    ])
    (least-both (IsDueAmong rows last n) (λ t. 0 < due_in (slice_get rows n) last t) a b first here'))

-- up to the last moment nothing is due since
not-back : (row : JobRow) (last m : ℕ) → 0 < row.every → m ≤ last → row_due row last m ≡ 0
not-back row last m paced le = none row.started
  where
    fewer : (t : ℕ) → (m - t) / row.every ≤ (last - t) / row.every
    fewer t =
        let whole : (m - t) / row.every * row.every ≤ m - t = div-mul-le_self (m - t) row.every in
        le-div ((m - t) / row.every) (last - t) row.every paced (omega (arith, whole, le))

    none : (started : Option ℕ) → due_since row.every started last m ≡ 0
    none None = refl
    none (Some t) = omega (arith, fewer t)

-- what is due by the rows is due by the record
pub runs-next : (jobs : ServedJobsData) (q : Record) (a : Option ℕ) → AreServedBy jobs q → jobs.timetable.shut ≡ false → ArePaced jobs.timetable.rows
    → IsLeast (IsDueAmong jobs.timetable.rows jobs.timetable.last (length jobs.timetable.rows)) a → IsLeast (RunsSome jobs q) a
runs-next jobs q a by on paced least =
    least-by (IsDueAmong jobs.timetable.rows jobs.timetable.last (length jobs.timetable.rows)) (RunsSome jobs q) a
    (λ m x. (
    let inside = x.there in
    let some = x.due in
    record {
      job = x.job;
      there = omega (arith, inside, counted);
      due = subst (λ n. 0 < n) (same m x.job (onward m x.job some) inside) some;
    }))
    (λ m y. (
    let inside = y.there in
    let some = y.due in
    let within : y.job < length jobs.timetable.rows = omega (arith, inside, counted) in
    record {
      job = y.job;
      there = within;
      due = subst (λ n. 0 < n) (sym (same m y.job (forward m y.job some) within)) some;
    })) least
  where
    counted : length jobs.timetable.rows ≡ length jobs.plans
    counted = by.known.sized ∙ length-map jobs.plans (λ (p : JobPlan). p.every)

    same : (m k : ℕ) → nat_lt m jobs.timetable.last ≡ false → k < length jobs.timetable.rows
        → due_in (slice_get jobs.timetable.rows k) jobs.timetable.last m ≡ due_at (periods_of jobs.plans) (record_of jobs q) m k
    same m k ahead lt =
        told_moment (periods_of jobs.plans) (record jobs.timetable { runs = due_runs (periods_of jobs.plans) (record_of jobs q) }) (record_of jobs q) m k
        by.known on ahead lt

    behind : (m k : ℕ) (o : Option JobRow) → slice_get jobs.timetable.rows k ≡ o → m < jobs.timetable.last → 0 < due_in o jobs.timetable.last m → ⊥
    behind m k None at lt some = omega (arith, some)
    behind m k (Some row) at lt some =
        let none : row_due row jobs.timetable.last m ≡ 0 = not-back row jobs.timetable.last m (paced k row at) (omega (arith, lt)) in
        omega (arith, none, some)

    onward : (m k : ℕ) → 0 < due_in (slice_get jobs.timetable.rows k) jobs.timetable.last m → nat_lt m jobs.timetable.last ≡ false
    onward m k some = elim (cases_lt m jobs.timetable.last) [
      | inl lt ↦ absurd (behind m k (slice_get jobs.timetable.rows k) refl lt some)
      | inr le ↦ le-ltb m jobs.timetable.last le
    ]

    or-true : (b : Bool) → (b || true) ≡ true
    or-true true = refl
    or-true false = refl

    forward : (m k : ℕ) → 0 < due_at (periods_of jobs.plans) (record_of jobs q) m k → nat_lt m jobs.timetable.last ≡ false
    forward m k some = elim (cases_lt m jobs.timetable.last) [
      | inl lt ↦ (
          let back : nat_lt m (now (record_of jobs q)) ≡ true = subst (λ n. nat_lt m n ≡ true) by.known.last_is (lt-ltb m jobs.timetable.last lt) in
          let off : (has is_shutdown (record_of jobs q) || nat_lt m (now (record_of jobs q))) ≡ true =
          subst (λ b. (has is_shutdown (record_of jobs q) || b) ≡ true) (sym back) (or-true (has is_shutdown (record_of jobs q))) in
          let none : due_at (periods_of jobs.plans) (record_of jobs q) m k ≡ 0 = due-off (periods_of jobs.plans) (record_of jobs q) m k off in
          absurd (omega (arith, none, some)))
      | inr le ↦ le-ltb m jobs.timetable.last le
    ]
