-- What stands of a job that has run and hasn't said yet that it is ready.
use Rattle.std.proofs.Common.{ℕ, zero, suc, Bool, true, false, ◌≡◌, ◌<◌, ◌+◌, ◌==◌, ◌||◌, ◌&&◌, not, List, [], ◌∷◌, length, take, refl, subst, inl, inr, arith}
use Rattle.std.specs.Prelude.{None, bytes_eq, filter, nat_lt, if◌then◌else◌, MatchBool}
use Rattle.std.specs.List.{range_with_len}
use Rattle.std.proofs.lemmas.Bool.{cases_Bool, or_left, or_right, or_cases, and_parts, eqb-true, eq-eqb}
use Rattle.std.proofs.lemmas.Slice.Eq.{bytes_eq-Decides}
use Rattle.svc_record.specs.declared.plan.Plan.{Plan}
use Rattle.svc_record.specs.declared.entry.Entry.{Entry}
use Rattle.svc_record.specs.declared.entry.Entry.TheVariants.{Got, Told}
use Rattle.svc_record.specs.declared.event.Event.TheVariants.{Moment, Ready}
use Rattle.svc_record.specs.declared.action.Action.TheVariants.{Start}
use Rattle.svc_record.specs.Record.{Record, has, now, signal_of, is_bootstrap, is_bootstrap_complete, is_running, each_entry, EachEntry, EachEarlier, once_if, times}
use Rattle.svc_record.specs.Starts.{is_start, is_started, is_ready_event}
use Rattle.svc_record.specs.Asks.{is_daemonize}
use Rattle.svc_record.specs.Boot.{boots, has_begun, is_notify, is_good_message, receive_right, complete_right, runs, start_after_boot}
use Rattle.svc_record.specs.Drain.{waits_are_over}
use Rattle.svc_record.specs.Ends.{has_ended, has_ended_early, ends_tested}
use Rattle.svc_record.specs.Fits.{event_fits}
use Rattle.svc_record.specs.Right.{SettledRight, EndedRight, OpenRight}
use Rattle.svc_job_host.specs.Dues.{is_shutdown, start_moment, due_at, has_run, runs_first}
use Rattle.svc_job_host.specs.Rows.{owes, owing}
use Rattle.svc_job_host.specs.JobHosts.{is_job_entry, is_none, head_due}
use Rattle.svc_job_host.proofs.HostLemmas.{filter-nil}
use Rattle.svc_job_host.proofs.ShutLemmas.{unsignalled}
use Rattle.svc_base.proofs.Logic.{clash}

first-parts : (d r : Bool) → (not d && not r) ≡ true → (d ≡ false) × (r ≡ false)
first-parts true r h = absurd (cc)
first-parts false true h = absurd (cc)
first-parts false false h = (refl, refl)

off-parts : (a b : Bool) → (a || b) ≡ false → (a ≡ false) × (b ≡ false)
off-parts true b h = absurd (cc)
off-parts false b h = (refl, h)

pub none-is : (xs : List ℕ) → is_none xs ≡ true → xs ≡ []
none-is [] h = refl
none-is (x ∷ xs) h = absurd (cc)

-- where an item comes, no job owes its word
pub owes-none : (periods : List ℕ) (b : Record) (s : ℕ) → s < length periods → is_none (owing periods b) ≡ true → owes periods b s ≡ false
owes-none periods b s lt none = filter-nil (owes periods b) (length periods) 0 s (none-is (owing periods b) none) (omega arith) (omega arith)

-- the first of those that pass does
pub filter-head : (f : ℕ → Bool) (n a s : ℕ) (more : List ℕ) → filter f (range_with_len a n) ≡ s ∷ more → (f s ≡ true) × (s < a + n)
filter-head f zero a s more h = absurd (cc)
filter-head f (suc n) a s more h = elim (cases_Bool (f a)) [
  | inl passes ↦ (let e = rw passes at h in let same : a ≡ s = cc in (subst (λ k. f k ≡ true) same passes, omega arith))
  | inr fails ↦ (let rest = filter-head f n (a + 1) s more (rw fails at h) in (rest.0, omega (arith, rest.1)))
]

-- a word is that of a job that owes it
pub word-owed : (periods : List ℕ) (b : Record) (k : ℕ) → bytes_eq (take 1 (owing periods b)) (k ∷ []) ≡ true → (owes periods b k ≡ true) × (k < length periods)
word-owed periods b k first = by (owing periods b) refl (equal (take 1 (owing periods b)) (k ∷ []) first)
  where
    equal : (xs ys : List ℕ) → bytes_eq xs ys ≡ true → xs ≡ ys
    equal xs ys h = grind (arith, bytes_eq-Decides xs ys, h)

    by : (xs : List ℕ) → owing periods b ≡ xs → take 1 xs ≡ k ∷ [] → (owes periods b k ≡ true) × (k < length periods)
    by [] e h = absurd (cc)
    by (x ∷ more) e h =
        let same : x ≡ k = cc in
        let here = filter-head (owes periods b) (length periods) 0 x more e in
        (subst (λ n. owes periods b n ≡ true) same here.0, subst (λ n. n < length periods) same (let below = here.1 in omega arith))

not-started : (q : Record) (s : ℕ) → has (is_start s) q ≡ false → start_moment q s ≡ None
not-started [] s h = refl
not-started (Told (Start t) ∷ q) s h = (let parts = off-parts (t == s) (has (is_start s) q) h in rw (parts.0) (not-started q s parts.1))
not-started (Told a ∷ q) s h = not-started q s h
not-started (Got e ∷ q) s h = not-started q s h

-- a job that wasn't started has no due moments
due-started : (periods : List ℕ) (b : Record) (m s : ℕ) → is_started b s ≡ false → due_at periods b m s ≡ 0
due-started periods b m s unstarted =
    rw (not-started b s unstarted)
    (elim (has is_shutdown b || nat_lt m (now b)) as (λ (c : Bool). ◌≡◌ {A = ℕ} (if c then 0 else 0) 0) [ true ↦ refl | false ↦ refl ])

-- one that runs at a moment was started, has not run before, and the shutdown hasn't begun
runs-started : (periods : List ℕ) (b : Record) (m s : ℕ) → runs_first periods b m s ≡ true → is_started b s ≡ true
runs-started periods b m s first = elim (cases_Bool (is_started b s)) [
  | inl yes_started ↦ yes_started
  | inr unstarted ↦
      absurd (let none = due-started periods b m s unstarted in let parts = first-parts (due_at periods b m s == 0) (has_run periods b s) first in
      let zero_due : (due_at periods b m s == 0) ≡ true = eq-eqb (due_at periods b m s) 0 none in let other = parts.0 in cc)
]

runs-on : (periods : List ℕ) (b : Record) (m s : ℕ) → runs_first periods b m s ≡ true → has is_shutdown b ≡ false
runs-on periods b m s first = elim (cases_Bool (has is_shutdown b)) [
  | inl off ↦ absurd
      (let none : due_at periods b m s ≡ 0 = rw off refl in let parts = first-parts (due_at periods b m s == 0) (has_run periods b s) first in
      let zero_due : (due_at periods b m s == 0) ≡ true = eq-eqb (due_at periods b m s) 0 none in let other = parts.0 in cc)
  | inr on ↦ on
]

-- at a moment only those that run first owe it
moment-owed : (periods : List ℕ) (b : Record) (m s : ℕ) → s < length periods → is_none (owing periods b) ≡ true → owes periods (Got (Moment m) ∷ b) s ≡ true
    → runs_first periods b m s ≡ true
moment-owed periods b m s lt none owed = rw (owes-none periods b s lt none) at owed

pub owes-started : (periods : List ℕ) (q : Record) (s : ℕ) → each_entry (head_due periods) q ≡ true → s < length periods → owes periods q s ≡ true
    → is_started q s ≡ true
owes-started periods [] s heads lt owed = absurd (cc)
owes-started periods (Got (Moment m) ∷ b) s heads lt owed =
    let parts = and_parts (is_none (owing periods b)) (each_entry (head_due periods) b) heads in
    runs-started periods b m s (moment-owed periods b m s lt parts.0 owed)
owes-started periods (Got (Ready k) ∷ b) s heads lt owed =
    let parts = and_parts (bytes_eq (take 1 (owing periods b)) (k ∷ [])) (each_entry (head_due periods) b) heads in
    owes-started periods b s parts.1 lt (and_parts (owes periods b s) (not (k == s)) owed).0
owes-started periods (Got e ∷ b) s heads lt owed =
    let parts = and_parts (is_none (owing periods b)) (each_entry (head_due periods) b) heads in absurd (let none = owes-none periods b s lt parts.0 in cc)
owes-started periods (Told a ∷ b) s heads lt owed = or_right (is_start s (Told a)) (is_started b s) (owes-started periods b s heads lt owed)

pub owes-ran : (periods : List ℕ) (q : Record) (s : ℕ) → owes periods q s ≡ true → has_run periods q s ≡ true
owes-ran periods [] s owed = absurd (cc)
owes-ran periods (Got (Moment m) ∷ b) s owed = elim (or_cases (owes periods b s) (runs_first periods b m s) owed) [
  | inl before ↦ or_left (has_run periods b s) (not (due_at periods b m s == 0)) (owes-ran periods b s before)
  | inr first ↦
      or_right (has_run periods b s) (not (due_at periods b m s == 0))
      (let parts = first-parts (due_at periods b m s == 0) (has_run periods b s) first in rw (parts.0) refl)
]
owes-ran periods (Got (Ready k) ∷ b) s owed = owes-ran periods b s (and_parts (owes periods b s) (not (k == s)) owed).0
owes-ran periods (Got e ∷ b) s owed = owes-ran periods b s owed
owes-ran periods (Told a ∷ b) s owed = owes-ran periods b s owed

-- a job that has said that it is ready has run
pub ready-ran : (periods : List ℕ) (q : Record) (s : ℕ) → each_entry (head_due periods) q ≡ true → has (is_ready_event s) q ≡ true → has_run periods q s ≡ true
ready-ran periods [] s heads told = absurd (cc)
ready-ran periods (Got (Moment m) ∷ b) s heads told =
    let parts = and_parts (is_none (owing periods b)) (each_entry (head_due periods) b) heads in
    or_left (has_run periods b s) (not (due_at periods b m s == 0)) (ready-ran periods b s parts.1 told)
ready-ran periods (Got (Ready k) ∷ b) s heads told =
    let parts = and_parts (bytes_eq (take 1 (owing periods b)) (k ∷ [])) (each_entry (head_due periods) b) heads in
    elim (or_cases (k == s) (has (is_ready_event s) b) told) [
      | inl same ↦ subst (λ n. has_run periods b n ≡ true) (eqb-true k s same) (owes-ran periods b k (word-owed periods b k parts.0).0)
      | inr before ↦ ready-ran periods b s parts.1 before
    ]
ready-ran periods (Got e ∷ b) s heads told =
    let parts = and_parts (is_none (owing periods b)) (each_entry (head_due periods) b) heads in ready-ran periods b s parts.1 told
ready-ran periods (Told a ∷ b) s heads told = ready-ran periods b s heads told

-- one that owes its word hasn't said it
pub owes-unready : (periods : List ℕ) (q : Record) (s : ℕ) → each_entry (head_due periods) q ≡ true → s < length periods → owes periods q s ≡ true
    → has (is_ready_event s) q ≡ false
owes-unready periods [] s heads lt owed = absurd (cc)
owes-unready periods (Got (Moment m) ∷ b) s heads lt owed =
    let parts = and_parts (is_none (owing periods b)) (each_entry (head_due periods) b) heads in
    let first = moment-owed periods b m s lt parts.0 owed in
    elim (cases_Bool (has (is_ready_event s) b)) [
      | inl told ↦
          absurd (let ran = ready-ran periods b s parts.1 told in let unrun = (first-parts (due_at periods b m s == 0) (has_run periods b s) first).1 in cc)
      | inr none ↦ none
    ]
owes-unready periods (Got (Ready k) ∷ b) s heads lt owed =
    let parts = and_parts (bytes_eq (take 1 (owing periods b)) (k ∷ [])) (each_entry (head_due periods) b) heads in
    let both = and_parts (owes periods b s) (not (k == s)) owed in
    let other : (k == s) ≡ false = negated (k == s) both.1 in
    rw other (owes-unready periods b s parts.1 lt both.0)
  where
    negated : (c : Bool) → not c ≡ true → c ≡ false
    negated true h = absurd (cc)
    negated false h = refl
owes-unready periods (Got e ∷ b) s heads lt owed =
    let parts = and_parts (is_none (owing periods b)) (each_entry (head_due periods) b) heads in absurd (let none = owes-none periods b s lt parts.0 in cc)
owes-unready periods (Told a ∷ b) s heads lt owed = owes-unready periods b s heads lt owed

-- what stands before an event that fits is open
open-before : (p : Plan) (b : Record) (row : Bool) → (not (has_ended p b) && row) ≡ true → SettledRight p b → (has_ended p b ≡ false) × OpenRight p b
open-before p b row fits settled =
    let on : has_ended p b ≡ false = off (has_ended p b) (and_parts (not (has_ended p b)) row fits).0 in
    (on, subst (λ c. MatchBool c (EndedRight p b) (OpenRight p b)) on settled)
  where
    off : (c : Bool) → not c ≡ true → c ≡ false
    off true h = absurd (cc)
    off false h = refl

-- while a job owes its word, no signal has come
pub owed-unsignalled : (p : Plan) (periods : List ℕ) (q : Record) (s : ℕ) → each_entry (head_due periods) q ≡ true
    → each_entry (λ e before. is_job_entry e) q ≡ true
    → EachEntry (λ e before. event_fits p e before ≡ true) q → EachEarlier (SettledRight p) q → s < length periods → owes periods q s ≡ true
    → signal_of q ≡ None
owed-unsignalled p periods [] s heads only fits settled lt owed = absurd (cc)
owed-unsignalled p periods (Got (Moment m) ∷ b) s heads only fits settled lt owed =
    let parts = and_parts (is_none (owing periods b)) (each_entry (head_due periods) b) heads in
    let first = moment-owed periods b m s lt parts.0 owed in
    let open_b = open-before p b _ fits.0 settled.0 in
    let on = off-parts (waits_are_over p b || ends_tested p b) (has_ended_early p b) open_b.0 in
    unsignalled p b only open_b.1.phases (off-parts (waits_are_over p b) (ends_tested p b) on.0).0 (runs-on periods b m s first)
owed-unsignalled p periods (Got (Ready k) ∷ b) s heads only fits settled lt owed =
    let parts = and_parts (bytes_eq (take 1 (owing periods b)) (k ∷ [])) (each_entry (head_due periods) b) heads in
    owed-unsignalled p periods b s parts.1 only fits.1 settled.1 lt (and_parts (owes periods b s) (not (k == s)) owed).0
owed-unsignalled p periods (Got e ∷ b) s heads only fits settled lt owed =
    let parts = and_parts (is_none (owing periods b)) (each_entry (head_due periods) b) heads in absurd (let none = owes-none periods b s lt parts.0 in cc)
owed-unsignalled p periods (Told a ∷ b) s heads only fits settled lt owed = owed-unsignalled p periods b s heads only fits.1 settled lt owed

-- with bootstrapping before the services, a start comes after it is complete
boot-complete : (p : Plan) (q : Record) (s : ℕ) → p.eager ≡ true → EachEntry (λ e before. start_after_boot p e before ≡ true) q → is_started q s ≡ true
    → has is_bootstrap_complete q ≡ true
boot-complete p [] s eager after started = absurd (cc)
boot-complete p (Told (Start t) ∷ q) s eager after started =
    let here = after.0 in rw eager at here
boot-complete p (Told a ∷ q) s eager after started =
    or_right (is_bootstrap_complete (Told a)) (has is_bootstrap_complete q) (boot-complete p q s eager after.1 started)
boot-complete p (Got e ∷ q) s eager after started = boot-complete p q s eager after.1 started

none-once : (test : Entry → Bool) (q : Record) → once_if false test q ≡ true → has test q ≡ false
none-once test [] h = refl
none-once test (e ∷ q) h = elim (cases_Bool (test e)) [
  | inl there ↦ absurd (let counted = eqb-true (times test (e ∷ q)) 0 h in let more : times test q + 1 ≡ 0 = rw there at counted in omega arith)
  | inr other ↦ (let rest = rw other at h in rw other (none-once test q rest))
]

never : (g t x : Bool) → t ≡ true → ((g && not t) && x) ≡ false
never true t x h = rw h refl
never false t x h = refl

-- a server that only tests that it can start, bootstrapping first, starts no job: none owes its word
pub tested-owes-none : (p : Plan) (periods : List ℕ) (q : Record) (s : ℕ) → p.test ≡ true → p.eager ≡ true
    → EachEntry (λ e before. start_after_boot p e before ≡ true) q → each_entry (head_due periods) q ≡ true
    → EachEntry (λ e before. event_fits p e before ≡ true) q → EachEarlier (SettledRight p) q → s < length periods → owes periods q s ≡ true → ⊥
tested-owes-none p periods [] s test eager after heads fits settled lt owed = cc
tested-owes-none p periods (Got (Moment m) ∷ b) s test eager after heads fits settled lt owed =
    let parts = and_parts (is_none (owing periods b)) (each_entry (head_due periods) b) heads in
    let started = runs-started periods b m s (moment-owed periods b m s lt parts.0 owed) in
    let open_b = open-before p b _ fits.0 settled.0 in
    let complete = boot-complete p b s eager after.1 started in
    let entries =
    and_parts ((once_if p.daemon is_daemonize b && once_if (has_begun p b) is_bootstrap b)
    && (once_if (boots p b && (p.daemon && p.wait)) is_notify b && receive_right p b))
    (complete_right p b && once_if (runs p b) is_running b) open_b.1.boot.entries in
    let completes = (and_parts (complete_right p b) (once_if (runs p b) is_running b) entries.1).0 in
    let off = never (has_begun p b) p.test (not p.upgrade || has is_good_message b) test in
    let none = none-once is_bootstrap_complete b (subst (λ c. once_if c is_bootstrap_complete b ≡ true) off completes) in
    clash (has is_bootstrap_complete b) complete none
tested-owes-none p periods (Got (Ready k) ∷ b) s test eager after heads fits settled lt owed =
    let parts = and_parts (bytes_eq (take 1 (owing periods b)) (k ∷ [])) (each_entry (head_due periods) b) heads in
    tested-owes-none p periods b s test eager after.1 parts.1 fits.1 settled.1 lt (and_parts (owes periods b s) (not (k == s)) owed).0
tested-owes-none p periods (Got e ∷ b) s test eager after heads fits settled lt owed =
    let parts = and_parts (is_none (owing periods b)) (each_entry (head_due periods) b) heads in (let none = owes-none periods b s lt parts.0 in cc)
tested-owes-none p periods (Told a ∷ b) s test eager after heads fits settled lt owed =
    tested-owes-none p periods b s test eager after.1 heads fits.1 settled lt owed
