-- What the lines of a text of jobs say as lines of a script: as many services as periods, and items that a host of jobs may give.
use Rattle.std.proofs.Common.{◌≡◌, ◌⊎◌, ℕ, zero, suc, ◌+◌, ◌<◌, ◌≤◌, Bool, true, false, not, ◌&&◌, ◌==◌, List, [], ◌∷◌, ◌++◌, length, take, filter, find, Option, Some, None, Result, Ok, Err, refl, sym, ap, subst, ◌∙◌, inl, inr, append_assoc, append-nil, length-append, arith, codes}
use Rattle.std.specs.Prelude.{if◌then◌else◌, is_some, is_none, nat_lt, unwrap_or}
use Rattle.std.specs.List.{list_all, slice_split, range_with_len}
use Rattle.std.specs.Option.{option_to_list}
use Rattle.std.specs.Str.{bytes_eq, is_utf8, chars}
use Rattle.std.specs.Str.Lines.{lines}
use Rattle.std.proofs.lemmas.Bool.{cases_Bool, cases_lt, and_parts, ltb-true, eqb-true}
use Rattle.std.proofs.lemmas.List.{take_all}
use Rattle.std.proofs.lemmas.Slice.Eq.{bytes_eq-Decides}
use Rattle.std.proofs.lemmas.List.Folds.{list_all-append}
use Rattle.std.proofs.Math.Seq.{take-append_seam, get_or-append_seam}
use Rattle.svc_conf.specs.declared.server.configuration.ServerConf.{ServerConf}
use Rattle.svc_conf.specs.declared.server.configuration.read_error.ReadError.{ReadError}
use Rattle.svc_record.specs.declared.item.Item.{Item}
use Rattle.svc_base.specs.Words.{is_blank, is_word, words}
use Rattle.svc_base.proofs.Logic.{clash}
use Rattle.svc_base.proofs.WordLemmas.{words-last, words-then}
use Rattle.svc_text.specs.EventLines.{bare_event, event_of, is_fault, item_of}
use Rattle.svc_text.specs.ServiceLines.{service_of, is_eager}
use Rattle.svc_text.specs.declared.service.ServiceLine.{ServiceLine}
use Rattle.svc_text.specs.Script.{Parts, header_of, is_header, begun, part_of, services_in, eager_in, items_in, is_skipped, says_service, says_item, place_fits, line_fits, fits_at, first_misfit, fitting, judged, conf_in, script_of, said_services, said_items}
use Rattle.svc_text.proofs.PartLemmas.{begun-push, services-push, items-push}
use Rattle.svc_text.proofs.PlaceLemmas.{skipped_service}
use Rattle.svc_text.proofs.SkippedLemmas.{skipped_event, skipped_is_no_fault}
use Rattle.svc_job_host.specs.JobHosts.{is_job_item}
use Rattle.svc_jobs.specs.JobTexts.{JobLine, period_of, after_of, job_of, after_text, service_line, is_job_event, inner_line, script_line, script_lines_from, script_lines, said_period, periods_from}
use Rattle.svc_main.specs.TextLines.{part_with}
use Rattle.svc_main.proofs.PieceLemmas.{none_of, pieces_none, filter_keeps, none_each}

-- ---- the words of a job's line

filter_passes : {X : Type 0} (f : X → Bool) (xs : List X) → list_all f (filter f xs) ≡ true
filter_passes f [] = refl
filter_passes f (x ∷ xs) = elim (cases_Bool (f x)) [
  | inl on ↦ rw (on, on) (filter_passes f xs)
  | inr off ↦ rw off (filter_passes f xs)
]

-- the first word has bytes, and no blank
record IsFirst (name : List ℕ) : Type 0 where
  some : 0 < length name
  filled : none_of is_blank name ≡ true

first_of_words : (line name : List ℕ) (more : List (List ℕ)) → words line ≡ name ∷ more → IsFirst name
unfolding words
first_of_words line name more e =
    let all = rw e at (filter_passes is_word (slice_split is_blank line)) in
    let clear = rw e at (filter_keeps (none_of is_blank) is_word (slice_split is_blank line) (pieces_none is_blank line)) in
    record {
      some = ltb-true 0 (length name) (and_parts (is_word name) (list_all is_word more) all).0;
      filled = (and_parts (none_of is_blank name) (list_all (none_of is_blank) more) clear).0;
    }

-- what the words say of a job
record SaysJob (ws : List (List ℕ)) (job : JobLine) : Type 0 where
  says : job_of ws ≡ Some job
  more : List (List ℕ)
  first : ws ≡ job.name ∷ more

job_by : (name key ms : List ℕ) (more : List (List ℕ)) (b : Bool) (o : Option ℕ) (a : Option (Option (List ℕ))) → bytes_eq key (codes "every") ≡ b
    → period_of ms ≡ o → after_of more ≡ a
    → (job_of (name ∷ key ∷ ms ∷ more) ≡ None) ⊎ ((job : JobLine) × SaysJob (name ∷ key ∷ ms ∷ more) job)
unfolding job_of
job_by name key ms more false o a e f g = inl (rw e refl)
job_by name key ms more true None a e f g = inl (rw (e, f) refl)
job_by name key ms more true (Some every) None e f g = inl (rw (e, f, g) refl)
job_by name key ms more true (Some every) (Some after) e f g =
    let job : JobLine = record { name = name; every = every; after = after } in
    inr (job, record { says = rw (e, f, g) refl; more = key ∷ ms ∷ more; first = refl })

job_cases : (ws : List (List ℕ)) → (job_of ws ≡ None) ⊎ ((job : JobLine) × SaysJob ws job)
unfolding job_of
job_cases [] = inl refl
job_cases (name ∷ []) = inl refl
job_cases (name ∷ key ∷ []) = inl refl
job_cases (name ∷ key ∷ ms ∷ more) = job_by name key ms more (bytes_eq key (codes "every")) (period_of ms) (after_of more) refl refl refl

-- the words of the service's line
service_words : (name : List ℕ) (after : Option (List ℕ)) → IsFirst name
    → (more : List (List ℕ)) × (words (name ++ (codes " notify" ++ after_text after)) ≡ name ∷ codes "notify" ∷ more)
service_words name None first = (
  [],
  words-then name 32 (codes "notify" ++ []) first.some (none_each is_blank name first.filled) refl
      ∙ ap (λ (ws : List (List ℕ)). name ∷ ws) (words-last (codes "notify") (omega arith) (none_each is_blank (codes "notify") refl)),
)
service_words name (Some value) first = (
  words (codes "after " ++ value),
  words-then name 32 (codes "notify" ++ (codes " after " ++ value)) first.some (none_each is_blank name first.filled) refl
      ∙ ap (λ (ws : List (List ℕ)). name ∷ ws)
      (words-then (codes "notify") 32 (codes "after " ++ value) (omega arith) (none_each is_blank (codes "notify") refl) refl),
)

-- a line of two words begins no part
one_word : (header line name second : List ℕ) (more : List (List ℕ)) → words header ≡ header ∷ [] → bytes_eq line header ≡ true
    → words line ≡ name ∷ second ∷ more → ⊥
one_word header line name second more one same e =
    let equal : line ≡ header = grind (arith, bytes_eq-Decides line header, same) in
    let both : header ∷ [] ≡ name ∷ second ∷ more = sym one ∙ ap words (sym equal) ∙ e in
    cc

no_header : (line name second : List ℕ) (more : List (List ℕ)) → words line ≡ name ∷ second ∷ more → header_of line ≡ None
unfolding header_of words
no_header line name second more e = elim (cases_Bool (bytes_eq line (codes "%conf"))) [
  | inl conf ↦ absurd (one_word (codes "%conf") line name second more refl conf e)
  | inr a ↦ elim (cases_Bool (bytes_eq line (codes "%services"))) [
    | inl services ↦ absurd (one_word (codes "%services") line name second more refl services e)
    | inr b ↦ elim (cases_Bool (bytes_eq line (codes "%events"))) [
      | inl events ↦ absurd (one_word (codes "%events") line name second more refl events e)
      | inr c ↦ rw (a, b, c) refl
    ]
  ]
]

-- ---- one line

-- a line that no script has fits nowhere
no_text : is_utf8 (255 ∷ []) ≡ false
unfolding is_utf8 chars
no_text = refl

no_line_misfits : (part : ℕ) (eager : Bool) (services : List ServiceLine) (line : List ℕ) → line ≡ 255 ∷ [] → line_fits part eager services line ≡ true → ⊥
unfolding line_fits
no_line_misfits part eager services line e fits =
    let text = (and_parts (is_utf8 line) (place_fits part eager services line (header_of line)) fits).0 in
    clash (is_utf8 (255 ∷ [])) (rw e at text) no_text

services_header : is_header (codes "%services") ≡ true
unfolding header_of
services_header = refl

script_cases : (part : ℕ) (line : List ℕ)
    → (is_header (script_line part line) ≡ true) ⊎ ((script_line part line ≡ 255 ∷ []) ⊎ (script_line part line ≡ inner_line part line))
unfolding script_line
script_cases part line = elim (cases_Bool (bytes_eq line (codes "%jobs"))) [
  | inl jobs ↦ rw jobs (inl services_header)
  | inr other ↦ rw other (elim (cases_Bool (bytes_eq line (codes "%services"))) [
    | inl services ↦ rw services (inr (inl refl))
    | inr none ↦ rw none (elim (cases_Bool (is_header line)) [
      | inl header ↦ rw header (inl header)
      | inr inner ↦ rw inner (inr (inr refl))
    ])
  ])
]

inner_jobs : (part : ℕ) (line : List ℕ) → (part == 2) ≡ true
    → ((is_skipped (words line) ≡ true) × (inner_line part line ≡ line))
    ⊎ ((is_skipped (words line) ≡ false) × (inner_line part line ≡ service_line (job_of (words line))))
unfolding inner_line
inner_jobs part line two =
    let other : (part == 1) ≡ false = ap (λ (n : ℕ). n == 1) (eqb-true part 2 two) in
    elim (cases_Bool (is_skipped (words line))) [
      | inl skipped ↦ inl (skipped, rw (other, skipped) refl)
      | inr said ↦ inr (said, rw (other, said, two) refl)
    ]

inner_events : (part : ℕ) (line : List ℕ) → (part == 3) ≡ true
    → ((is_skipped (words line) ≡ true) × (inner_line part line ≡ line))
    ⊎ ((is_skipped (words line) ≡ false) × (inner_line part line ≡ (if is_job_event (item_of (words line)) then line else 255 ∷ [])))
unfolding inner_line
inner_events part line three =
    let one : (part == 1) ≡ false = ap (λ (n : ℕ). n == 1) (eqb-true part 3 three) in
    let two : (part == 2) ≡ false = ap (λ (n : ℕ). n == 2) (eqb-true part 3 three) in
    elim (cases_Bool (is_skipped (words line))) [
      | inl skipped ↦ inl (skipped, rw (one, skipped) refl)
      | inr said ↦ inr (said, rw (one, said, two, three) refl)
    ]

-- a job's line fits only where its service can be read
job_fits : (part : ℕ) (eager : Bool) (services : List ServiceLine) (line name second : List ℕ) (more : List (List ℕ)) → (part == 2) ≡ true
    → words line ≡ name ∷ second ∷ more → is_skipped (name ∷ second ∷ more) ≡ false
    → line_fits part eager services line ≡ true → is_some (service_of (words line)) ≡ true
unfolding line_fits place_fits says_item says_service is_eager
job_fits part eager services line name second more two e said fits =
    let other : (part == 1) ≡ false = ap (λ (n : ℕ). n == 1) (eqb-true part 2 two) in
    let header : header_of line ≡ None = no_header line name second more e in
    let placed = (and_parts (is_utf8 line) (place_fits part eager services line (header_of line)) fits).1 in
    let here = rw (header, other, e, said, two) at placed in
    rw e (and_parts (is_some (service_of (name ∷ second ∷ more))) (nat_lt (length services) 1024) here).0

one_if_some : {X : Type 0} (o : Option X) → is_some o ≡ true → length (option_to_list o) ≡ 1
one_if_some None h = absurd (cc)
one_if_some (Some x) h = refl

job_said : (part : ℕ) (eager : Bool) (services : List ServiceLine) (line script : List ℕ) → (part == 2) ≡ true → is_header script ≡ false
    → is_skipped (words line) ≡ false → script ≡ service_line (job_of (words line))
    → line_fits part eager services script ≡ true → length (said_services part script) ≡ length (said_period part false line)
unfolding said_services said_period is_skipped
job_said part eager services line script two inner said is fits = elim (job_cases (words line)) [
  | inl none ↦ absurd (no_line_misfits part eager services script (is ∙ ap service_line none) fits)
  | inr found ↦ (
      let job : JobLine = found.0 in
      let first : IsFirst job.name = first_of_words line job.name found.1.more found.1.first in
      let spelt = service_words job.name job.after first in
      let e : words script ≡ job.name ∷ codes "notify" ∷ spelt.0 = ap words (is ∙ ap service_line found.1.says) ∙ spelt.1 in
      let unskipped : is_skipped (job.name ∷ codes "notify" ∷ spelt.0) ≡ false = rw found.1.first at said in
      let some = job_fits part eager services script job.name (codes "notify") spelt.0 two e unskipped fits in
      rw (two, inner, said, found.1.says) (one_if_some (service_of (words script)) some))
]

one_said : (part : ℕ) (line : List ℕ) (eager : Bool) (services : List ServiceLine) → line_fits part eager services (script_line part line) ≡ true
    → length (said_services part (script_line part line)) ≡ length (said_period part (is_header (script_line part line)) line)
unfolding said_services said_period
one_said part line eager services fits = elim (cases_Bool (part == 2)) [
  | inr off ↦ rw off refl
  | inl two ↦ elim (cases_Bool (is_header (script_line part line))) [
    | inl header ↦ rw (two, header) refl
    | inr inner ↦ elim (script_cases part line) [
      | inl header ↦ absurd (clash (is_header (script_line part line)) header inner)
      | inr (inl none) ↦ absurd (no_line_misfits part eager services (script_line part line) none fits)
      | inr (inr same) ↦ elim (inner_jobs part line two) [
        | inl skipped ↦ (
            let is : script_line part line ≡ line = same ∙ skipped.1 in
            let unsaid : service_of (words (script_line part line)) ≡ None =
            ap (λ (l : List ℕ). service_of (words l)) is ∙ skipped_service (words line) skipped.0 in
            rw (two, inner, skipped.0, unsaid) refl)
        | inr said ↦
            job_said part eager services line (script_line part line) two inner said.0 (same ∙ said.1) fits
            ∙ ap (λ (b : Bool). length (said_period part b line)) (sym inner)
      ]
    ]
  ]
]

all_listed : (o : Option Item) → is_job_event o ≡ true → list_all is_job_item (option_to_list o) ≡ true
all_listed None h = refl
all_listed (Some item) h = rw h refl

none_listed : (o : Option Item) → o ≡ None → list_all is_job_item (option_to_list o) ≡ true
none_listed o e = rw e refl

no_item : (script : List ℕ) → script ≡ 255 ∷ [] → item_of (words script) ≡ None
unfolding words item_of event_of is_fault bare_event
no_item script e = rw e refl

unsaid_item : (line : List ℕ) → is_skipped (words line) ≡ true → item_of (words line) ≡ None
unfolding item_of
unsaid_item line h = rw (skipped_is_no_fault (words line) h, skipped_event (words line) h) refl

item_cases : (part : ℕ) (line script : List ℕ) → (part == 3) ≡ true → script ≡ inner_line part line
    → list_all is_job_item (option_to_list (item_of (words script))) ≡ true
item_cases part line script three same = elim (inner_events part line three) [
  | inl skipped ↦ none_listed (item_of (words script)) (ap (λ (l : List ℕ). item_of (words l)) (same ∙ skipped.1) ∙ unsaid_item line skipped.0)
  | inr said ↦ elim (cases_Bool (is_job_event (item_of (words line)))) [
    | inl may ↦ (
        let is : script ≡ line = same ∙ said.1 ∙ rw may refl in
        subst (λ (o : Option Item). list_all is_job_item (option_to_list o) ≡ true) (sym (ap (λ (l : List ℕ). item_of (words l)) is))
        (all_listed (item_of (words line)) may))
    | inr other ↦ none_listed (item_of (words script)) (no_item script (same ∙ said.1 ∙ rw other refl))
  ]
]

item_said : (part : ℕ) (line : List ℕ) → list_all is_job_item (said_items part (script_line part line)) ≡ true
unfolding said_items
item_said part line = elim (cases_Bool (part == 3)) [
  | inr off ↦ rw off refl
  | inl three ↦ elim (cases_Bool (is_header (script_line part line))) [
    | inl header ↦ rw (three, header) refl
    | inr inner ↦ elim (script_cases part line) [
      | inl header ↦ absurd (clash (is_header (script_line part line)) header inner)
      | inr (inl none) ↦ rw (three, inner) (none_listed (item_of (words (script_line part line))) (no_item (script_line part line) none))
      | inr (inr same) ↦ rw (three, inner) (item_cases part line (script_line part line) three same)
    ]
  ]
]

-- ---- all lines

find_none_at : (p : ℕ → Bool) (a n k : ℕ) → find p (range_with_len a n) ≡ None → a ≤ k → k < a + n → p k ≡ false
find_none_at p a zero k h le lt = absurd (omega arith)
find_none_at p a (suc n) k h le lt = elim (cases_Bool (p a)) [
  | inl on ↦ absurd (let found = rw on at h in cc)
  | inr off ↦ (
      let rest = rw off at h in
      elim (cases_lt a k) [
        | inl later ↦ find_none_at p (a + 1) n k rest (omega arith) (omega arith)
        | inr here ↦ (let e : a ≡ k = omega arith in subst (λ (j : ℕ). p j ≡ false) e off)
      ])
]

-- each line fits those before it
AllFit : List (List ℕ) → Type 0
AllFit ls = (k : ℕ) → k < length ls → fits_at ls k ≡ true

all_fit : (ls : List (List ℕ)) → first_misfit ls ≡ None → AllFit ls
unfolding first_misfit AllFit
all_fit ls h = λ k lt. in_not (fits_at ls k) (find_none_at (λ j. not (fits_at ls j)) 0 (length ls) k h (omega arith) (omega arith))
  where
    in_not : (b : Bool) → not b ≡ false → b ≡ true
    in_not true h = refl
    in_not false h = absurd (cc)

fits_here : (before : List (List ℕ)) (line : List ℕ) (more : List (List ℕ)) → AllFit (before ++ line ∷ more)
    → line_fits (begun before) (eager_in before) (services_in before) line ≡ true
unfolding fits_at AllFit
fits_here before line more all =
    let within : length before < length (before ++ line ∷ more) = omega (arith, length-append before (line ∷ more)) in
    let here = all (length before) within in
    rw (take-append_seam before (line ∷ more), get_or-append_seam before line more []) at here

sized_from : (ls before : List (List ℕ)) (part : ℕ) → begun before ≡ part → AllFit (before ++ script_lines_from part ls)
    → length (services_in (before ++ script_lines_from part ls)) ≡ length (services_in before) + length (periods_from part ls)
sized_from [] before part at fit = ap (λ (all : List (List ℕ)). length (services_in all)) (append-nil before) ∙ omega arith
sized_from (l ∷ ls) before part at fit =
    let t : List ℕ = script_line part l in
    let next : List (List ℕ) = before ++ t ∷ [] in
    let stepped : begun next ≡ part_with part t = begun-push before t ∙ ap (λ (n : ℕ). part_with n t) at in
    let whole : before ++ (t ∷ script_lines_from (part_with part t) ls) ≡ next ++ script_lines_from (part_with part t) ls =
    sym (append_assoc before (t ∷ []) (script_lines_from (part_with part t) ls)) in
    let here = fits_here before t (script_lines_from (part_with part t) ls) fit in
    let one = one_said part l (eager_in before) (services_in before) (rw at at here) in
    let rest = sized_from ls next (part_with part t) stepped (subst AllFit whole fit) in
    let pushed : length (services_in next) ≡ length (services_in before ++ said_services part t) =
    ap length (services-push before t) ∙ ap (λ (n : ℕ). length (services_in before ++ said_services n t)) at in
    ap (λ (all : List (List ℕ)). length (services_in all)) whole
    ∙ rest
    ∙ omega (
      arith,
      pushed,
      length-append (services_in before) (said_services part t),
      one,
      length-append (said_period part (is_header t) l)
          (periods_from (part_with part t) ls),
    )

items_from : (ls before : List (List ℕ)) (part : ℕ) → begun before ≡ part → list_all is_job_item (items_in before) ≡ true
    → list_all is_job_item (items_in (before ++ script_lines_from part ls)) ≡ true
items_from [] before part at all = ap (λ (ls : List (List ℕ)). list_all is_job_item (items_in ls)) (append-nil before) ∙ all
items_from (l ∷ ls) before part at all =
    let t : List ℕ = script_line part l in
    let next : List (List ℕ) = before ++ t ∷ [] in
    let stepped : begun next ≡ part_with part t = begun-push before t ∙ ap (λ (n : ℕ). part_with n t) at in
    let pushed : items_in next ≡ items_in before ++ said_items part t = items-push before t ∙ ap (λ (n : ℕ). items_in before ++ said_items n t) at in
    let more : list_all is_job_item (items_in next) ≡ true =
    ap (list_all is_job_item) pushed ∙ list_all-append is_job_item (items_in before) (said_items part t) ∙ rw (all, item_said part l) refl in
    ap (λ (ls : List (List ℕ)). list_all is_job_item (items_in ls)) (sym (append_assoc before (t ∷ []) (script_lines_from (part_with part t) ls)))
    ∙ items_from ls next (part_with part t) stepped more

-- what is said where the lines are a script
judged_ok : (all : Bool) (conf : Result ServerConf ReadError) (ls : List (List ℕ)) (parts : Parts) → judged all conf ls ≡ Ok parts
    → (all ≡ true) × (parts.services ≡ services_in ls) × (parts.items ≡ items_in ls)
unfolding judged
judged_ok all (Err e) ls parts h = absurd (cc)
judged_ok all (Ok conf) ls parts h = elim (cases_Bool (all && (begun ls == 3))) [
  | inr off ↦ absurd (let never = rw off at h in cc)
  | inl on ↦ (
      let says = rw on at h in
      let same : record { conf = conf; services = services_in ls; eager = eager_in ls; items = items_in ls } ≡ parts = cc in
      ((and_parts all (begun ls == 3) on).0, ap (λ (p : Parts). p.services) (sym same), ap (λ (p : Parts). p.items) (sym same)))
]

none_of_missing : {X : Type 0} (o : Option X) → is_none o ≡ true → o ≡ None
none_of_missing None h = refl
none_of_missing (Some x) h = absurd (cc)

-- of a whole script all lines fit
record SaysAll (ls : List (List ℕ)) (parts : Parts) : Type 0 where
  misfit : first_misfit ls ≡ None
  services : parts.services ≡ services_in ls
  items : parts.items ≡ items_in ls

says_all : (ls : List (List ℕ)) (parts : Parts) → script_of ls ≡ Ok parts → SaysAll ls parts
unfolding script_of fitting
says_all ls parts h =
    let ok = judged_ok (is_none (first_misfit ls)) (conf_in (fitting ls)) (fitting ls) parts h in
    let none : first_misfit ls ≡ None = none_of_missing (first_misfit ls) ok.0 in
    let all : fitting ls ≡ ls = ap (λ (o : Option ℕ). take (unwrap_or o (length ls)) ls) none ∙ take_all (length ls) ls (omega arith) in
    record { misfit = none; services = ok.1 ∙ ap services_in all; items = ok.2 ∙ ap items_in all }

begun_none : begun [] ≡ 0
unfolding begun
begun_none = refl

services_none : length (services_in []) ≡ 0
unfolding services_in part_of
services_none = refl

items_none : list_all is_job_item (items_in []) ≡ true
unfolding items_in part_of
items_none = refl

-- a text of jobs has as many periods as jobs
pub as_many : (bytes : List ℕ) (parts : Parts) → script_of (script_lines bytes) ≡ Ok parts → length parts.services ≡ length (periods_from 0 (lines bytes))
as_many bytes parts h =
    let said = says_all (script_lines bytes) parts h in
    ap length said.services ∙ sized_from (lines bytes) [] 0 begun_none (all_fit (script_lines bytes) said.misfit) ∙ omega (arith, services_none)

-- and its items are those that a host of jobs may give
pub job_items : (bytes : List ℕ) (parts : Parts) → script_of (script_lines bytes) ≡ Ok parts → list_all is_job_item parts.items ≡ true
job_items bytes parts h =
    let said = says_all (script_lines bytes) parts h in
    ap (list_all is_job_item) said.items ∙ items_from (lines bytes) [] 0 begun_none items_none
