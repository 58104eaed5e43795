-- The periods that a text of jobs says are above 0, and no cause stands against a host of jobs with such periods.
use Rattle.std.proofs.Common.{◌≡◌, ℕ, ◌≤◌, ◌^◌, Bool, true, false, not, ◌&&◌, ◌||◌, ◌==◌, List, [], ◌∷◌, length, Option, Some, None, inl, inr, refl, sym, ap, ◌∙◌, arith}
use Rattle.std.specs.Prelude.{codes, position}
use Rattle.std.specs.List.{list_all, position_or_len}
use Rattle.std.specs.Option.{option_map, option_to_list}
use Rattle.std.specs.Str.{bytes_eq}
use Rattle.std.proofs.lemmas.Bool.{cases_Bool, and_parts, and_from, eq-eqb, le-ltb, le-leb}
use Rattle.std.proofs.lemmas.List.{length-map}
use Rattle.std.proofs.lemmas.List.Folds.{list_all-append}
use Rattle.svc_base.specs.Options.{◌>>=◌}
use Rattle.svc_base.specs.Words.{number_of, words}
use Rattle.svc_text.specs.Script.{is_header, is_skipped}
use Rattle.svc_job_host.specs.declared.plan.JobPlan.{JobPlan}
use Rattle.svc_job_host.specs.declared.refusals.JobError.{JobError}
use Rattle.svc_job_host.specs.declared.refusals.JobError.TheVariants.{NoMemory}
use Rattle.svc_job_host.specs.JobRefusals.{is_idle, fault_of, IsReason}
use Rattle.svc_job_host.specs.Timetables.{periods_of}
use Rattle.svc_main.specs.TextLines.{part_with}
use Rattle.svc_jobs.specs.JobTexts.{JobLine, period_in, period_of, is_period, ArePeriods, after_of, job_of, script_line, said_period, periods_from}

-- ---- what the text says

paced-number : (o : Option ℕ) → list_all is_period (option_to_list (o >>= period_in)) ≡ true
paced-number None = refl
paced-number (Some n) = elim (cases_Bool (n == 0)) [
  | inl none ↦ rw none refl
  | inr some ↦ (let on : is_period n ≡ true = rw some refl in rw (some, on) refl)
]

paced-word : (word : List ℕ) → list_all is_period (option_to_list (period_of word)) ≡ true
unfolding period_of
paced-word word = paced-number (number_of (2 ^ 64) word)

-- the periods that a job's line says
abbrev periods_in : Option JobLine → List ℕ
periods_in o = option_to_list (option_map (λ (job : JobLine). job.every) o)

paced-said : (name : List ℕ) (o : Option ℕ) (a : Option (Option (List ℕ))) → list_all is_period (option_to_list o) ≡ true
    → list_all is_period (periods_in (o >>= λ every. a >>= λ after. Some (record { name = name; every = every; after = after }))) ≡ true
paced-said name None a h = refl
paced-said name (Some every) None h = refl
paced-said name (Some every) (Some after) h = h

paced-job : (ws : List (List ℕ)) → list_all is_period (periods_in (job_of ws)) ≡ true
unfolding job_of
paced-job [] = refl
paced-job (name ∷ []) = refl
paced-job (name ∷ key ∷ []) = refl
paced-job (name ∷ key ∷ ms ∷ more) = elim (cases_Bool (bytes_eq key (codes "every"))) [
  | inl on ↦ rw on (paced-said name (period_of ms) (after_of more) (paced-word ms))
  | inr off ↦ rw off refl
]

paced-line : (part : ℕ) (begins : Bool) (line : List ℕ) → list_all is_period (said_period part begins line) ≡ true
unfolding said_period
paced-line part begins line = elim (cases_Bool ((part == 2) && not (begins || is_skipped (words line)))) [
  | inl on ↦ rw on (paced-job (words line))
  | inr off ↦ rw off refl
]

pub periods_paced : (part : ℕ) (ls : List (List ℕ)) → ArePeriods (periods_from part ls)
periods_paced part [] = refl
periods_paced part (line ∷ more) =
    list_all-append is_period (said_period part (is_header (script_line part line)) line) (periods_from (part_with part (script_line part line)) more)
    ∙ and_from _ _ (paced-line part (is_header (script_line part line)) line) (periods_paced (part_with part (script_line part line)) more)

-- ---- the host

not_so : (b : Bool) → not b ≡ true → b ≡ false
not_so true h = absurd (cc)
not_so false h = refl

past_all : (plans : List JobPlan) → ArePeriods (periods_of plans) → position_or_len is_idle plans ≡ length plans
past_all [] h = refl
past_all (p ∷ plans) h =
    let parts = and_parts (is_period p.every) (list_all is_period (periods_of plans)) h in
    let busy : is_idle p ≡ false = not_so (is_idle p) parts.0 in
    let later = past_all plans parts.1 in
    rw busy (omega (arith, later))

none_idle : (plans : List JobPlan) → ArePeriods (periods_of plans) → position is_idle plans ≡ None
none_idle plans h =
    let past : length plans ≤ position_or_len is_idle plans = omega (arith, past_all plans h) in
    rw (le-ltb (position_or_len is_idle plans) (length plans) past) refl

no_fault : (plans : List JobPlan) (jobs : ℕ) (periods : List ℕ) → periods_of plans ≡ periods → jobs ≡ length periods → length periods ≤ 1024
    → ArePeriods periods → fault_of plans jobs ≡ None
no_fault plans jobs periods are count few paced =
    let same : length plans ≡ length periods = sym (length-map plans (λ (p : JobPlan). p.every)) ∙ ap length are in
    let equal : (length plans == jobs) ≡ true = eq-eqb (length plans) jobs (same ∙ sym count) in
    rw (equal, le-leb (length plans) (2 ^ 32) (omega (arith, same, few)), none_idle plans (rw are paced)) refl

-- where it isn't made, it is memory that is wanted
pub only_memory : (plans : List JobPlan) (jobs : ℕ) (periods : List ℕ) (reason : JobError) → periods_of plans ≡ periods → jobs ≡ length periods
    → length periods ≤ 1024 → ArePeriods periods → IsReason (fault_of plans jobs) reason → reason ≡ NoMemory
only_memory plans jobs periods reason are count few paced (inl memory) = memory
only_memory plans jobs periods reason are count few paced (inr stands) =
    absurd (let none = no_fault plans jobs periods are count few paced in cc)
