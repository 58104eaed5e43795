-- What a host of jobs keeps, as its record grows.
use Rattle.std.proofs.Common.{ℕ, zero, suc, Bool, true, false, ◌≡◌, ◌<◌, ◌≤◌, ◌+◌, List, [], ◌∷◌, ◌++◌, length, map, take, refl, sym, ap, ◌∙◌, inl, inr, arith, append_assoc}
use Rattle.std.specs.Prelude.{slice_get, Some, bytes_eq, filter}
use Rattle.std.specs.List.{range_with_len}
use Rattle.std.proofs.lemmas.Bool.{cases_Bool, cases_eq, and_from}
use Rattle.std.proofs.lemmas.List.{append-nil, map-append, take_more}
use Rattle.std.proofs.lemmas.Option.{slice_get_within, get_or_from_slice_get}
use Rattle.std.proofs.lemmas.Slice.Eq.{bytes_eq-Decides}
use Rattle.svc_record.specs.declared.entry.Entry.TheVariants.{Got, Told}
use Rattle.svc_record.specs.declared.event.Event.{Event}
use Rattle.svc_record.specs.declared.event.Event.TheVariants.{Moment, Ready, Signal}
use Rattle.svc_record.specs.declared.event.ShutdownSignal.{ShutdownSignal}
use Rattle.svc_record.specs.declared.action.Action.{Action}
use Rattle.svc_record.specs.declared.item.Item.{Item}
use Rattle.svc_record.specs.declared.item.Item.TheVariants as items
use Rattle.svc_record.specs.Record.{Record}
use Rattle.svc_job_host.specs.Dues.{runs_first, firsts_at}
use Rattle.svc_job_host.specs.Readies.{first_runs, readies_since, items_of}
use Rattle.svc_job_host.specs.Rows.{owes, owing}
use Rattle.svc_job_host.specs.TimetableData.{TimetableData}
use Rattle.svc_job_host.specs.Timetables.{IsTimetableOf, noted, readied}
use Rattle.svc_job_host.specs.JobHosts.{KeepsJobs}
use Rattle.svc_job_host.proofs.RangeLemmas.{filter-same, filter-none, refilled}
use Rattle.svc_job_host.proofs.TableLemmas.{table_ready, table_signal, table_told}

-- a text is equal to itself
pub same_bytes : (xs ys : List ℕ) → xs ≡ ys → bytes_eq xs ys ≡ true
same_bytes xs ys e = grind (arith, bytes_eq-Decides xs ys, e)

-- where no number passes, none does
pub filter-nil : (f : ℕ → Bool) (n a k : ℕ) → filter f (range_with_len a n) ≡ [] → a ≤ k → k < a + n → f k ≡ false
filter-nil f zero a k none low high = absurd (omega arith)
filter-nil f (suc n) a k none low high = elim (cases_Bool (f a)) [
  | inl passes ↦ absurd (let e = rw passes at none in cc)
  | inr fails ↦ (
      let rest : filter f (range_with_len (a + 1) n) ≡ [] = rw fails at none in
      elim (cases_eq a k) [
        | inl e ↦ ap f (sym e) ∙ fails
        | inr ne ↦ filter-nil f n (a + 1) k rest (let apart : a ≡ k → ⊥ = ne in omega arith) (omega arith)
      ])
]

-- where none owes its word, those that run first at a moment do then
owing-moment : (periods : List ℕ) (q : Record) (m : ℕ) → owing periods q ≡ [] → firsts_at periods q m ≡ owing periods (Got (Moment m) ∷ q)
owing-moment periods q m none =
    filter-same (runs_first periods q m) (owes periods (Got (Moment m) ∷ q)) (length periods) 0
    (λ k low high. rw (filter-nil (owes periods q) (length periods) 0 k none low high) refl)

-- the items, with one more
given-more : (all : List Item) (at : ℕ) (q : Record) (e : Event) → map items.Event (items_of q) ≡ take at all → slice_get all at ≡ Some (items.Event e)
    → map items.Event (items_of q ++ e ∷ []) ≡ take (at + 1) all
given-more all at q e given next =
    map-append items.Event (items_of q) (e ∷ []) ∙ ap (λ xs. xs ++ items.Event e ∷ []) given
    ∙ ap (λ x. take at all ++ x ∷ []) (sym (get_or_from_slice_get all at (items.Event e) items.Fault next))
    ∙ sym (take_more all at items.Fault (slice_get_within all at (items.Event e) next))

-- a moment comes
pub keeps_moment : (periods : List ℕ) (t new : TimetableData) (all : List Item) (at : ℕ) (q : Record) (faults idles m : ℕ)
    → KeepsJobs periods t all at q faults idles → owing periods q ≡ []
    → slice_get all at ≡ Some (items.Event (Moment m)) → IsTimetableOf periods new (Got (Moment m) ∷ q)
    → KeepsJobs periods new all (at + 1) (Got (Moment m) ∷ q) faults idles
keeps_moment periods t new all at q faults idles m keeps none next table = record {
  table = table;
  words = owing-moment periods q m none;
  in_turn = and_from _ _ (same_bytes _ _ (told periods q none keeps.words)) keeps.in_turn;
  heads = and_from _ _ (rw none refl) keeps.heads;
  only_jobs = keeps.only_jobs;
  given = given-more all at q (Moment m) keeps.given next;
  within = (let short = slice_get_within all at (items.Event (Moment m)) next in omega arith);
  faulted = λ h. absurd (let fault = keeps.faulted h in cc);
  faulted_last = λ h. absurd (let fault = keeps.faulted h in cc);
  finished = λ h. absurd (let end = keeps.finished h in let short = slice_get_within all at (items.Event (Moment m)) next in omega arith);
  finished_last = λ h. absurd (let end = keeps.finished h in let short = slice_get_within all at (items.Event (Moment m)) next in omega arith);
}
  where
    told : (periods : List ℕ) (q : Record) → owing periods q ≡ [] → first_runs periods q ≡ readies_since q ++ owing periods q
        → readies_since q ≡ first_runs periods q
    told periods q none words = sym (words ∙ ap (λ xs. readies_since q ++ xs) none ∙ append-nil (readies_since q))

-- a signal comes
pub keeps_signal : (periods : List ℕ) (t : TimetableData) (all : List Item) (at : ℕ) (q : Record) (faults idles : ℕ) (kind : ShutdownSignal)
    → KeepsJobs periods t all at q faults idles → owing periods q ≡ []
    → slice_get all at ≡ Some (items.Event (Signal kind)) → KeepsJobs periods t all (at + 1) (Got (Signal kind) ∷ q) faults idles
keeps_signal periods t all at q faults idles kind keeps none next = record {
  table = table_signal periods t q kind keeps.table;
  words = sym none;
  in_turn = and_from _ _ (same_bytes _ _ (told periods q none keeps.words)) keeps.in_turn;
  heads = and_from _ _ (rw none refl) keeps.heads;
  only_jobs = keeps.only_jobs;
  given = given-more all at q (Signal kind) keeps.given next;
  within = (let short = slice_get_within all at (items.Event (Signal kind)) next in omega arith);
  faulted = λ h. absurd (let fault = keeps.faulted h in cc);
  faulted_last = λ h. absurd (let fault = keeps.faulted h in cc);
  finished = λ h. absurd (let end = keeps.finished h in let short = slice_get_within all at (items.Event (Signal kind)) next in omega arith);
  finished_last = λ h. absurd (let end = keeps.finished h in let short = slice_get_within all at (items.Event (Signal kind)) next in omega arith);
}
  where
    told : (periods : List ℕ) (q : Record) → owing periods q ≡ [] → first_runs periods q ≡ readies_since q ++ owing periods q
        → readies_since q ≡ first_runs periods q
    told periods q none words = sym (words ∙ ap (λ xs. readies_since q ++ xs) none ∙ append-nil (readies_since q))

-- a job says that it is ready
pub keeps_ready : (periods : List ℕ) (t : TimetableData) (all : List Item) (at : ℕ) (q : Record) (faults idles s : ℕ)
    → KeepsJobs periods t all at q faults idles
    → owing periods q ≡ s ∷ owing periods (Got (Ready s) ∷ q) → KeepsJobs periods (readied t s) all at (Got (Ready s) ∷ q) faults idles
keeps_ready periods t all at q faults idles s keeps first =
    let words : first_runs periods q ≡ (readies_since q ++ s ∷ []) ++ owing periods (Got (Ready s) ∷ q) =
    keeps.words ∙ ap (λ xs. readies_since q ++ xs) first ∙ sym (append_assoc (readies_since q) (s ∷ []) (owing periods (Got (Ready s) ∷ q))) in
    record {
      table = table_ready periods t q s keeps.table;
      words = words;
      in_turn = and_from _ _
          (same_bytes _ _
          (ap (λ xs. take (length (readies_since q ++ s ∷ [])) xs) words
          ∙ refilled (length (readies_since q ++ s ∷ [])) (readies_since q ++ s ∷ []) (owing periods (Got (Ready s) ∷ q)) refl)) keeps.in_turn;
      heads = and_from _ _ (same_bytes _ _ (ap (λ xs. take 1 xs) first)) keeps.heads;
      only_jobs = keeps.only_jobs;
      given = keeps.given;
      within = keeps.within;
      faulted = keeps.faulted;
      faulted_last = λ h. absurd (let none = keeps.faulted_last h in cc);
      finished = keeps.finished;
      finished_last = λ h. absurd (let none = keeps.finished_last h in cc);
    }

-- an action is told
pub keeps_told : (periods : List ℕ) (t : TimetableData) (all : List Item) (at : ℕ) (q : Record) (faults idles : ℕ) (a : Action)
    → KeepsJobs periods t all at q faults idles
    → KeepsJobs periods (noted t a) all at (Told a ∷ q) faults idles
keeps_told periods t all at q faults idles a keeps = record {
  table = table_told periods t q a keeps.table;
  words = keeps.words;
  in_turn = keeps.in_turn;
  heads = keeps.heads;
  only_jobs = keeps.only_jobs;
  given = keeps.given;
  within = keeps.within;
  faulted = keeps.faulted;
  faulted_last = keeps.faulted_last;
  finished = keeps.finished;
  finished_last = keeps.finished_last;
}

-- nothing is left
pub keeps_end : (periods : List ℕ) (t : TimetableData) (all : List Item) (at : ℕ) (q : Record) (faults idles now_idles : ℕ)
    → KeepsJobs periods t all at q faults idles → owing periods q ≡ []
    → length all ≤ at → KeepsJobs periods t all at q faults now_idles
keeps_end periods t all at q faults idles now_idles keeps none past = record {
  table = keeps.table;
  words = keeps.words;
  in_turn = keeps.in_turn;
  heads = keeps.heads;
  only_jobs = keeps.only_jobs;
  given = keeps.given;
  within = keeps.within;
  faulted = keeps.faulted;
  faulted_last = keeps.faulted_last;
  finished = λ h. (let short = keeps.within in omega arith);
  finished_last = λ h. none;
}

-- nothing was got or told yet
pub keeps_new : (periods : List ℕ) (t : TimetableData) (all : List Item) → IsTimetableOf periods t [] → KeepsJobs periods t all 0 [] 0 0
keeps_new periods t all table = record {
  table = table;
  words = sym (filter-none (owes periods []) (length periods) 0 (λ k low high. refl));
  in_turn = refl;
  heads = refl;
  only_jobs = refl;
  given = refl;
  within = omega arith;
  faulted = λ h. absurd (omega arith);
  faulted_last = λ h. absurd (omega arith);
  finished = λ h. absurd (omega arith);
  finished_last = λ h. absurd (omega arith);
}
