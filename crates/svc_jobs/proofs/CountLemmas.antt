-- A job says that it is ready once: so the turns of a run of jobs aren't spent.
use Rattle.std.proofs.Common.{◌≡◌, ℕ, zero, suc, ◌+◌, ◌<◌, ◌≤◌, Bool, true, false, not, ◌&&◌, ◌||◌, ◌==◌, List, [], ◌∷◌, length, map, take, filter, refl, sym, ap, subst, ◌∙◌, inl, inr, length-append, arith}
use Rattle.std.specs.Prelude.{None, bytes_eq}
use Rattle.std.specs.List.{range_with_len}
use Rattle.std.proofs.lemmas.Bool.{cases_Bool, cases_lt, and_parts, eq-eqb}
use Rattle.std.proofs.lemmas.List.{length-map, length-take}
use Rattle.svc_record.specs.declared.plan.Plan.{Plan}
use Rattle.svc_record.specs.declared.entry.Entry.TheVariants.{Got, Told}
use Rattle.svc_record.specs.declared.event.Event.TheVariants.{Moment, Ready}
use Rattle.svc_record.specs.declared.action.Action.{Action}
use Rattle.svc_record.specs.declared.item.Item.{Item}
use Rattle.svc_record.specs.declared.item.Item.TheVariants as items
use Rattle.svc_record.specs.Record.{Record, tell, each_entry}
use Rattle.svc_record.specs.Tail.{closing_actions}
use Rattle.svc_server.specs.Runs.{events_of, IsSpent}
use Rattle.svc_job_host.specs.Dues.{jobs_of, due_at, has_run}
use Rattle.svc_job_host.specs.Readies.{items_of}
use Rattle.svc_job_host.specs.Rows.{owes, owing}
use Rattle.svc_job_host.specs.JobHosts.{is_none, head_due}
use Rattle.svc_job_host.specs.JobRuns.{KeepsWords}
use Rattle.svc_job_host.proofs.OwedLemmas.{word-owed, owes-ran}
use Rattle.svc_job_host.proofs.EndLemmas.{untold-heads}

-- ---- the elements that pass

passes_le : (f g : ℕ → Bool) (xs : List ℕ) → ((s : ℕ) → f s ≡ true → g s ≡ true) → length (filter f xs) ≤ length (filter g xs)
passes_le f g [] h = omega arith
passes_le f g (x ∷ xs) h =
    let more = passes_le f g xs h in
    elim (cases_Bool (f x)) [
      | inl on ↦ rw (on, h x on) (omega (arith, more))
      | inr off ↦ elim (cases_Bool (g x)) [
        | inl other ↦ rw (off, other) (omega (arith, more))
        | inr none ↦ rw (off, none) more
      ]
    ]

passes_lt : (f g : ℕ → Bool) (a n k : ℕ) → ((s : ℕ) → f s ≡ true → g s ≡ true) → a ≤ k → k < a + n → f k ≡ false → g k ≡ true
    → length (filter f (range_with_len a n)) + 1 ≤ length (filter g (range_with_len a n))
passes_lt f g a zero k h le lt off on = absurd (omega arith)
passes_lt f g a (suc n) k h le lt off on = elim (cases_lt a k) [
  | inr here ↦ (
      let e : a ≡ k = omega arith in
      let less = passes_le f g (range_with_len (a + 1) n) h in
      let f_off : f a ≡ false = ap f e ∙ off in
      let g_on : g a ≡ true = ap g e ∙ on in
      rw (f_off, g_on) (omega (arith, less)))
  | inl later ↦ (
      let more = passes_lt f g (a + 1) n k h (omega arith) (omega arith) off on in
      elim (cases_Bool (f a)) [
        | inl passes ↦ rw (passes, h a passes) (omega (arith, more))
        | inr fails ↦ elim (cases_Bool (g a)) [
          | inl other ↦ rw (fails, other) (omega (arith, more))
          | inr none ↦ rw (fails, none) more
        ]
      ])
]

passes_few : (f : ℕ → Bool) (a n : ℕ) → length (filter f (range_with_len a n)) ≤ n
passes_few f a zero = omega arith
passes_few f a (suc n) =
    let more = passes_few f (a + 1) n in
    elim (cases_Bool (f a)) [
      | inl on ↦ rw on (omega (arith, more))
      | inr off ↦ rw off (omega (arith, more))
    ]

-- ---- the jobs that have said that they are ready

-- how many times a job said it
readies : Record → ℕ
readies [] = 0
readies (Got (Ready s) ∷ before) = readies before + 1
readies (e ∷ before) = readies before

-- job s has run, and has said it
abbrev has_said : List ℕ → Record → ℕ → Bool
has_said periods q s = has_run periods q s && not (owes periods q s)

moment_keeps : (ran owed due : Bool) → (ran && not owed) ≡ true → ((ran || due) && not (owed || (due && not ran))) ≡ true
moment_keeps true true due h = absurd (cc)
moment_keeps true false true h = refl
moment_keeps true false false h = refl
moment_keeps false owed due h = absurd (cc)

word_keeps : (ran owed same : Bool) → (ran && not owed) ≡ true → (ran && not (owed && not same)) ≡ true
word_keeps true true same h = absurd (cc)
word_keeps true false same h = refl
word_keeps false owed same h = absurd (cc)

unsaid : (ran owed : Bool) → owed ≡ true → (ran && not owed) ≡ false
unsaid true owed h = rw h refl
unsaid false owed h = refl

readies_few : (periods : List ℕ) (q : Record) → each_entry (head_due periods) q ≡ true → readies q ≤ length (filter (has_said periods q) (jobs_of periods))
unfolding readies
readies_few periods [] heads = omega arith
readies_few periods (Got (Moment m) ∷ q) heads =
    let parts = and_parts (is_none (owing periods q)) (each_entry (head_due periods) q) heads in
    let less = passes_le (has_said periods q) (has_said periods (Got (Moment m) ∷ q)) (jobs_of periods)
    (λ s h. moment_keeps (has_run periods q s) (owes periods q s) (not (due_at periods q m s == 0)) h) in
    omega (arith, less, readies_few periods q parts.1)
readies_few periods (Got (Ready k) ∷ q) heads =
    let parts = and_parts (bytes_eq (take 1 (owing periods q)) (k ∷ [])) (each_entry (head_due periods) q) heads in
    let owed = word-owed periods q k parts.0 in
    let off = unsaid (has_run periods q k) (owes periods q k) owed.0 in
    let same : (k == k) ≡ true = eq-eqb k k refl in
    let on : has_said periods (Got (Ready k) ∷ q) k ≡ true = rw (owes-ran periods q k owed.0, owed.0, same) refl in
    let less = passes_lt (has_said periods q) (has_said periods (Got (Ready k) ∷ q)) 0 (length periods) k
    (λ s h. word_keeps (has_run periods q s) (owes periods q s) (k == s) h) (omega arith) (omega (arith, owed.1)) off on in
    omega (arith, less, readies_few periods q parts.1)
readies_few periods (Got e ∷ q) heads = readies_few periods q (and_parts (is_none (owing periods q)) (each_entry (head_due periods) q) heads).1
readies_few periods (Told a ∷ q) heads = readies_few periods q heads

-- ---- how many events there are

events_count : (q : Record) → length (events_of q) ≡ length (items_of q) + readies q
unfolding readies
events_count [] = refl
events_count (Got (Ready s) ∷ q) = omega (arith, length-append (events_of q) (Ready s ∷ []), events_count q)
events_count (Got e ∷ q) = omega (arith, length-append (events_of q) (e ∷ []), length-append (items_of q) (e ∷ []), events_count q)
events_count (Told a ∷ q) = events_count q

pub items-tell : (q : Record) (told : List Action) → items_of (tell q told) ≡ items_of q
items-tell q [] = refl
items-tell q (a ∷ more) = items-tell (Told a ∷ q) more

-- with a turn more than items and jobs, the turns aren't spent
pub not_spent : (p : Plan) (turns given : ℕ) (periods : List ℕ) (all : List Item) (r finished : Record) → KeepsWords periods r
    → map items.Event (items_of r) ≡ take given all → turns ≡ (length all + length periods) + 1
    → IsSpent p turns r finished → ⊥
not_spent p turns given periods all r finished keeps taken enough spent =
    let told = closing_actions p finished None in
    let heads = sym (untold-heads periods finished told) ∙ subst (λ (q : Record). each_entry (head_due periods) q ≡ true) spent.closed.closed keeps.heads in
    let same : length (items_of r) ≡ length (items_of finished) = ap length (ap items_of spent.closed.closed ∙ items-tell finished told) in
    omega (
      arith,
      events_count finished,
      readies_few periods finished heads,
      passes_few (has_said periods finished) 0
          (length periods),
      same,
      ap length taken,
      length-map (items_of r) items.Event,
      length-take given all,
      spent.count,
      enough,
    )
