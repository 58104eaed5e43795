-- The lines of a text of jobs, one after the other, as lines of a script.
use Rattle.std.proofs.Common.{◌≡◌, ℕ, ◌+◌, ◌<◌, ◌≤◌, Bool, true, false, not, ◌||◌, List, [], ◌∷◌, ◌++◌, length, Option, Some, None, refl, sym, ap, ◌∙◌, ◌==◌, inl, inr, append_assoc, arith}
use Rattle.std.specs.Prelude.{if◌then◌else◌, codes}
use Rattle.std.specs.List.{list_all, slice_split}
use Rattle.std.specs.Str.{bytes_eq}
use Rattle.std.specs.Str.Lines.{lines}
use Rattle.std.proofs.lemmas.Bool.{cases_Bool, and_parts, or_right}
use Rattle.svc_base.specs.Options.{◌>>=◌}
use Rattle.svc_base.specs.Words.{is_feed, is_blank, is_word, words}
use Rattle.svc_text.specs.EventLines.{item_of}
use Rattle.svc_text.specs.Script.{is_header, is_skipped}
use Rattle.svc_main.specs.TextLines.{is_daemon, part_with}
use Rattle.svc_jobs.specs.JobTexts.{period_of, after_of, job_of, service_line, is_job_event, inner_line, script_line, script_lines_from, script_lines, said_period, periods_from}
use Rattle.svc_main.proofs.PieceLemmas.{none_of, pieces_all, filter_keeps, lines_none}
use Rattle.svc_main.proofs.TextLemmas.{IsWhole, none_both, Writes, line_written, one_at_most}

-- ---- no line of the script has a line feed

either_all : (p q : ℕ → Bool) (xs : List ℕ) → list_all q xs ≡ true → list_all (λ x. p x || q x) xs ≡ true
either_all p q [] h = refl
either_all p q (x ∷ xs) h =
    let rest = and_parts (q x) (list_all q xs) h in
    rw (or_right (p x) (q x) rest.0) (either_all p q xs rest.1)

pub words_none : (line : List ℕ) → none_of is_feed line ≡ true → list_all (none_of is_feed) (words line) ≡ true
unfolding words
words_none line none =
    filter_keeps (none_of is_feed) is_word (slice_split is_blank line)
    (pieces_all is_blank (λ b. not (is_feed b)) line (either_all is_blank (λ b. not (is_feed b)) line none))

-- the word behind `after` has none
abbrev AfterNone : Option (Option (List ℕ)) → Type 0
AfterNone None = Unit {0}
AfterNone (Some None) = Unit {0}
AfterNone (Some (Some value)) = none_of is_feed value ≡ true

after_none : (more : List (List ℕ)) → list_all (none_of is_feed) more ≡ true → AfterNone (after_of more)
unfolding after_of
after_none [] h = tt
after_none (key ∷ []) h = tt
after_none (key ∷ value ∷ []) h =
    let rest = and_parts (none_of is_feed key) (list_all (none_of is_feed) (value ∷ [])) h in
    let here = and_parts (none_of is_feed value) (list_all (none_of is_feed) []) rest.1 in
    elim (cases_Bool (bytes_eq key (codes "after"))) [
      | inl on ↦ rw on here.0
      | inr off ↦ rw off tt
    ]
after_none (key ∷ value ∷ other ∷ more) h = tt

said_none : (name : List ℕ) (o : Option ℕ) (a : Option (Option (List ℕ))) → none_of is_feed name ≡ true → AfterNone a
    → none_of is_feed (service_line (o >>= λ every. a >>= λ after. Some (record { name = name; every = every; after = after }))) ≡ true
said_none name None a n h = refl
said_none name (Some every) None n h = refl
said_none name (Some every) (Some None) n h = none_both is_feed name (codes " notify" ++ []) n refl
said_none name (Some every) (Some (Some value)) n h =
    none_both is_feed name (codes " notify" ++ (codes " after " ++ value)) n
    (none_both is_feed (codes " notify") (codes " after " ++ value) refl (none_both is_feed (codes " after ") value refl h))

job_none : (ws : List (List ℕ)) → list_all (none_of is_feed) ws ≡ true → none_of is_feed (service_line (job_of ws)) ≡ true
unfolding job_of
job_none [] h = refl
job_none (name ∷ []) h = refl
job_none (name ∷ key ∷ []) h = refl
job_none (name ∷ key ∷ ms ∷ more) h =
    let one = and_parts (none_of is_feed name) (list_all (none_of is_feed) (key ∷ ms ∷ more)) h in
    let two = and_parts (none_of is_feed key) (list_all (none_of is_feed) (ms ∷ more)) one.1 in
    let three = and_parts (none_of is_feed ms) (list_all (none_of is_feed) more) two.1 in
    elim (cases_Bool (bytes_eq key (codes "every"))) [
      | inl on ↦ rw on (said_none name (period_of ms) (after_of more) one.0 (after_none more three.1))
      | inr off ↦ rw off refl
    ]

kept_none : (b : Bool) (line : List ℕ) → none_of is_feed line ≡ true → none_of is_feed (if b then line else 255 ∷ []) ≡ true
kept_none true line h = h
kept_none false line h = refl

inner_none : (part : ℕ) (line : List ℕ) → none_of is_feed line ≡ true → none_of is_feed (inner_line part line) ≡ true
unfolding inner_line
inner_none part line h = elim (cases_Bool (part == 1)) [
  | inl conf ↦ rw conf (kept_none (not (is_daemon line)) line h)
  | inr other ↦ rw other (elim (cases_Bool (is_skipped (words line))) [
    | inl skipped ↦ rw skipped h
    | inr said ↦ rw said (elim (cases_Bool (part == 2)) [
      | inl jobs ↦ rw jobs (job_none (words line) (words_none line h))
      | inr later ↦ rw later (elim (cases_Bool (part == 3)) [
        | inl events ↦ rw events (kept_none (is_job_event (item_of (words line))) line h)
        | inr none ↦ rw none h
      ])
    ])
  ])
]

pub script_line_none : (part : ℕ) (line : List ℕ) → none_of is_feed line ≡ true → none_of is_feed (script_line part line) ≡ true
unfolding script_line
script_line_none part line h = elim (cases_Bool (bytes_eq line (codes "%jobs"))) [
  | inl jobs ↦ rw jobs refl
  | inr other ↦ rw other (elim (cases_Bool (bytes_eq line (codes "%services"))) [
    | inl services ↦ rw services refl
    | inr none ↦ rw none (elim (cases_Bool (is_header line)) [
      | inl header ↦ rw header h
      | inr inner ↦ rw inner (inner_none part line h)
    ])
  ])
]

-- ---- the loop

-- the lines before the rest are written, and the periods that they say are there
pub record HasScript (all rest text : List ℕ) (part : ℕ) (periods : List ℕ) : Type 0 where
  pub whole : IsWhole text
  pub said : script_lines all ≡ lines text ++ script_lines_from part (lines rest)
  pub paced : periods_from 0 (lines all) ≡ periods ++ periods_from part (lines rest)
  pub room : part + length rest ≤ length all

pub reads_more : (all rest line after text new : List ℕ) (part now : ℕ) (periods more : List ℕ) → HasScript all rest text part periods
    → lines rest ≡ line ∷ lines after → length after < length rest
    → new ≡ text ++ (script_line part line ++ 13 ∷ 10 ∷ []) → now ≡ part_with part (script_line part line)
    → more ≡ periods ++ said_period part (is_header (script_line part line)) line → HasScript all after new now more
reads_more all rest line after text new part now periods more h first shorter written begun said =
    let t : List ℕ = script_line part line in
    let each = rw first at (lines_none rest) in
    let none = (and_parts (none_of is_feed line) (list_all (none_of is_feed) (lines after)) each).0 in
    let w : Writes text t new = line_written text t new h.whole (script_line_none part line none) written in
    let few : (if is_header t then 1 else 0) ≤ 1 = one_at_most (is_header t) in
    record {
      whole = w.whole;
      said =
          h.said
          ∙ ap (λ (ls : List (List ℕ)). lines text ++ script_lines_from part ls) first
          ∙ sym (append_assoc (lines text) (t ∷ []) (script_lines_from (part_with part t) (lines after)))
          ∙ ap (λ (n : ℕ). (lines text ++ t ∷ []) ++ script_lines_from n (lines after)) (sym begun)
          ∙ ap (λ (ls : List (List ℕ)). ls ++ script_lines_from now (lines after)) (sym w.lines_are);
      paced =
          h.paced
          ∙ ap (λ (ls : List (List ℕ)). periods ++ periods_from part ls) first
          ∙ sym (append_assoc periods (said_period part (is_header t) line) (periods_from (part_with part t) (lines after)))
          ∙ ap (λ (n : ℕ). (periods ++ said_period part (is_header t) line) ++ periods_from n (lines after)) (sym begun)
          ∙ ap (λ (ns : List ℕ). ns ++ periods_from now (lines after)) (sym said);
      room = omega (arith, h.room, shorter, begun, few);
    }
