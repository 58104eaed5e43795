-- The server of a block that is read isn't a daemon.
use Rattle.std.proofs.Common.{◌≡◌, ◌⊎◌, ℕ, zero, suc, ◌+◌, ◌<◌, ◌≤◌, ◌==◌, Bool, true, false, not, ◌&&◌, List, [], ◌∷◌, ◌++◌, length, find, Option, Some, None, Result, Ok, Err, inl, inr, refl, sym, ap, subst, ◌∙◌, arith, if◌then◌else◌}
use Rattle.std.specs.Prelude.{codes, is_none}
use Rattle.std.specs.List.{list_all, slice_split, onto_first, slice_index_or, range_with_len}
use Rattle.std.specs.Str.{is_utf8}
use Rattle.std.specs.Str.Lines.{lines}
use Rattle.std.proofs.lemmas.Bool.{and_parts, and_from, cases_lt}
use Rattle.std.proofs.lemmas.List.{get_or_default}
use Rattle.std.proofs.lemmas.List.Folds.{list_all-append}
use Rattle.std.proofs.lemmas.List.Sums.{list_all-from_AllPass}
use Rattle.std.proofs.Math.Seq.{take-length}
use Rattle.svc_base.specs.Words.{is_feed}
use Rattle.svc_conf.specs.declared.server.configuration.ServerConf.{ServerConf}
use Rattle.svc_conf.specs.declared.server.configuration.read_error.ReadError.{ReadError}
use Rattle.svc_text.specs.Script.{Parts, header_of, is_header, begun, line_fits, fits_at, first_misfit, fitting, part_of, services_in, eager_in, items_in, conf_in, judged, script_of}
use Rattle.svc_main.proofs.PieceLemmas.{none_of, lines_none}
use Rattle.svc_main.specs.TextLines.{is_daemon, part_with}
use Rattle.svc_generations.specs.Inputs.{is_mark, block_lines, script_lines, makes_daemon, daemon_from, refused_at, block_of}
use Rattle.svc_generations.proofs.BlockTextLemmas.{if_on, if_off}
use Rattle.svc_generations.proofs.ConfDaemonLemmas.{is_quiet, quiet_conf}

-- ---- the lines of the configuration

-- a line of text without a line feed
abbrev pub is_line : List ℕ → Bool
is_line line = is_utf8 line && none_of is_feed line

quiet_line : (line : List ℕ) → is_line line ≡ true → is_daemon line ≡ false → is_quiet line ≡ true
quiet_line line h off = let parts = and_parts (is_utf8 line) (none_of is_feed line) h in rw (parts.0, parts.1, off) refl

-- a line goes to the first part, and to no other one
part_first : (line : List ℕ) (parts : List (List (List ℕ))) (k : ℕ) → (k ≡ 0 → is_quiet line ≡ true) → list_all is_quiet (slice_index_or parts k []) ≡ true
    → list_all is_quiet (slice_index_or (onto_first line parts) k []) ≡ true
part_first line [] zero here rest = rw (here refl) refl
part_first line [] (suc k) here rest = rest
part_first line (part ∷ parts) zero here rest = rw (here refl) rest
part_first line (part ∷ parts) (suc k) here rest = rest

no_daemon : (part : ℕ) (line : List ℕ) → part ≡ 1 → makes_daemon part line ≡ false → is_daemon line ≡ false
no_daemon part line one off = subst (λ (n : ℕ). makes_daemon n line ≡ false) one off

conf_more : (part k passed : ℕ) (line : List ℕ) (ls : List (List ℕ)) (last : List ℕ) (h m : Bool) → is_header line ≡ h → makes_daemon part line ≡ m
    → is_line line ≡ true → part + k ≡ 1 → daemon_from part passed (line ∷ ls) ≡ None
    → ((q j n : ℕ) → q + j ≡ 1 → daemon_from q n ls ≡ None → list_all is_quiet (slice_index_or (slice_split is_header (ls ++ last ∷ [])) j []) ≡ true)
    → list_all is_quiet (slice_index_or (slice_split is_header (line ∷ (ls ++ last ∷ []))) k []) ≡ true
conf_more part k passed line ls last h true eh em text sum off later =
    absurd (let some : Some (passed + 1) ≡ None =
    sym (if_on (makes_daemon part line) (Some (passed + 1)) (daemon_from (part_with part line) (passed + 1) ls) em) ∙ off in cc)
conf_more part zero passed line ls last true false eh em text sum off later = rw eh refl
conf_more part (suc k) passed line ls last true false eh em text sum off later =
    let more : part_with part line ≡ part + 1 = ap (λ (b : Bool). part + (if b then 1 else 0)) eh in
    rw eh (later (part_with part line) k (passed + 1) (omega (arith, more))
    (sym (if_off (makes_daemon part line) (Some (passed + 1)) (daemon_from (part_with part line) (passed + 1) ls) em) ∙ off))
conf_more part k passed line ls last false false eh em text sum off later =
    let same : part_with part line ≡ part + 0 = ap (λ (b : Bool). part + (if b then 1 else 0)) eh in
    rw eh (part_first line (slice_split is_header (ls ++ last ∷ [])) k (λ none. quiet_line line text (no_daemon part line (omega (arith, none)) em))
    (later (part_with part line) k (passed + 1) (omega (arith, same))
    (sym (if_off (makes_daemon part line) (Some (passed + 1)) (daemon_from (part_with part line) (passed + 1) ls) em) ∙ off)))

conf_none : (part k : ℕ) (last : List ℕ) → is_header last ≡ true → part + k ≡ 1
    → list_all is_quiet (slice_index_or (slice_split is_header (last ∷ [])) k []) ≡ true
conf_none part zero last head sum = rw head refl
conf_none part (suc zero) last head sum = rw head refl
conf_none part (suc (suc k)) last head sum = absurd (omega arith)

-- the lines of the second part, where so many have begun
conf_lines : (part k passed : ℕ) (ls : List (List ℕ)) (last : List ℕ) → is_header last ≡ true → list_all is_line ls ≡ true → part + k ≡ 1
    → daemon_from part passed ls ≡ None → list_all is_quiet (slice_index_or (slice_split is_header (ls ++ last ∷ [])) k []) ≡ true
conf_lines part k passed [] last head text sum off = conf_none part k last head sum
conf_lines part k passed (line ∷ ls) last head text sum off =
    let parts = and_parts (is_line line) (list_all is_line ls) text in
    conf_more part k passed line ls last (is_header line) (makes_daemon part line) refl refl parts.0 sum off
    (λ q j n s o. conf_lines q j n ls last head parts.1 s o)

-- ---- each line of a script is text

find_step : (p : ℕ → Bool) (a n k : ℕ) (b : Bool) → p a ≡ b → find p (range_with_len a (suc n)) ≡ None → (a < k) ⊎ (k ≤ a) → a ≤ k
    → (find p (range_with_len (a + 1) n) ≡ None → a + 1 ≤ k → p k ≡ false) → p k ≡ false
find_step p a n k true is none place le later = absurd (let some : Some a ≡ None = rw is at none in cc)
find_step p a n k false is none (inl more) le later = later (rw is at none) (omega arith)
find_step p a n k false is none (inr less) le later = (let same : k ≡ a = omega arith in ap p same ∙ is)

find_nothing : (p : ℕ → Bool) (a n : ℕ) → find p (range_with_len a n) ≡ None → (k : ℕ) → a ≤ k → k < a + n → p k ≡ false
find_nothing p a zero none k le lt = absurd (omega arith)
find_nothing p a (suc n) none k le lt = find_step p a n k (p a) refl none (cases_lt a k) le (λ rest more. find_nothing p (a + 1) n rest k more (omega arith))

not_off : (b : Bool) → not b ≡ false → b ≡ true
not_off true e = refl
not_off false e = absurd (cc)

each_fits : (ls : List (List ℕ)) (k : ℕ) → first_misfit ls ≡ None → k < length ls → fits_at ls k ≡ true
unfolding first_misfit
each_fits ls k none lt = not_off (fits_at ls k) (find_nothing (λ j. not (fits_at ls j)) 0 (length ls) none k (omega arith) (omega arith))

text_at : (ls : List (List ℕ)) (k : ℕ) → fits_at ls k ≡ true → is_utf8 (slice_index_or ls k []) ≡ true
unfolding fits_at line_fits
text_at ls k fits = (and_parts (is_utf8 (slice_index_or ls k [])) _ fits).0

all_text : (ls : List (List ℕ)) → first_misfit ls ≡ None → list_all is_utf8 ls ≡ true
all_text ls none = list_all-from_AllPass is_utf8 ls (λ k d lt. ap is_utf8 (get_or_default ls k d [] lt) ∙ text_at ls k (each_fits ls k none lt))

all_both : (p q : List ℕ → Bool) (ls : List (List ℕ)) → list_all p ls ≡ true → list_all q ls ≡ true → list_all (λ l. p l && q l) ls ≡ true
all_both p q [] h k = refl
all_both p q (l ∷ ls) h k =
    let here = and_parts (p l) (list_all p ls) h in
    let there = and_parts (q l) (list_all q ls) k in
    rw (here.0, there.0) (all_both p q ls here.1 there.1)

block_keeps : (q : List ℕ → Bool) (ls : List (List ℕ)) → list_all q ls ≡ true → list_all q (block_lines ls) ≡ true
block_keeps q [] h = refl
block_keeps q (line ∷ more) h =
    let parts = and_parts (q line) (list_all q more) h in
    by (is_mark line) (and_from (q line) (list_all q (block_lines more)) parts.0 (block_keeps q more parts.1))
  where
    by : (b : Bool) → list_all q (line ∷ block_lines more) ≡ true → list_all q (if b then [] else line ∷ block_lines more) ≡ true
    by true rest = refl
    by false rest = rest

-- ---- what a script says

taken : (b : Bool) (x parts : Parts) (n : ℕ) → (if b then Ok x else Err n) ≡ Ok parts → x ≡ parts
taken true x parts n e = cc
taken false x parts n e = absurd (cc)

judged_conf : (all : Bool) (r : Result ServerConf ReadError) (ls : List (List ℕ)) (parts : Parts) → judged all r ls ≡ Ok parts
    → (all ≡ true) × (r ≡ Ok parts.conf)
unfolding judged
judged_conf all (Err e) ls parts h = absurd (cc)
judged_conf true (Ok conf) ls parts h = (
  refl,
  ap (λ (p : Parts). Ok p.conf)
      (taken (begun ls == 3) (record { conf = conf; services = services_in ls; eager = eager_in ls; items = items_in ls }) parts (length ls + 1) h),
)
judged_conf false (Ok conf) ls parts h = absurd (cc)

none_if : (o : Option ℕ) → is_none o ≡ true → o ≡ None
none_if None e = refl
none_if (Some n) e = absurd (cc)

script_conf : (ls : List (List ℕ)) (parts : Parts) → script_of ls ≡ Ok parts → (first_misfit ls ≡ None) × (conf_in ls ≡ Ok parts.conf)
unfolding script_of fitting
script_conf ls parts h =
    let j = judged_conf (is_none (first_misfit ls)) (conf_in (fitting ls)) (fitting ls) parts h in
    let none : first_misfit ls ≡ None = none_if (first_misfit ls) j.0 in
    let all : fitting ls ≡ ls = rw none (take-length ls) in
    (none, ap conf_in (sym all) ∙ j.1)

events_head : is_header (codes "%events") ≡ true
unfolding header_of
events_head = refl

-- ---- the block

script_quiet : (ls : List (List ℕ)) (parts : Parts) → list_all (none_of is_feed) ls ≡ true → daemon_from 0 0 ls ≡ None → script_of (script_lines ls) ≡ Ok parts
    → parts.conf.daemon ≡ false
unfolding conf_in part_of
script_quiet ls parts clear off said =
    let says = script_conf (script_lines ls) parts said in
    let text = and_parts (list_all is_utf8 ls) (list_all is_utf8 (codes "%events" ∷ []))
    (sym (list_all-append is_utf8 ls (codes "%events" ∷ [])) ∙ all_text (script_lines ls) says.0) in
    quiet_conf (part_of 1 (script_lines ls)) parts.conf
    (conf_lines 0 1 0 ls (codes "%events") events_head (all_both is_utf8 (none_of is_feed) ls text.0 clear) (omega arith) off) says.1

refused_none : (daemon : Option ℕ) (read : Result Parts ℕ) (parts : Parts) → refused_at daemon read ≡ Ok parts → (daemon ≡ None) × (read ≡ Ok parts)
refused_none None read parts e = (refl, e)
refused_none (Some n) (Ok x) parts e = absurd (cc)
refused_none (Some n) (Err k) parts e = absurd (cc)

pub block_undaemonized : (text : List ℕ) (parts : Parts) → block_of (block_lines (lines text)) ≡ Ok parts → parts.conf.daemon ≡ false
block_undaemonized text parts said =
    let ls : List (List ℕ) = block_lines (lines text) in
    let r = refused_none (daemon_from 0 0 ls) (script_of (script_lines ls)) parts said in
    script_quiet ls parts (block_keeps (none_of is_feed) (lines text) (lines_none text)) r.0 r.1
