-- A right record is that of a run that served exactly where its waits are over.
use Rattle.std.proofs.Common.{Bool, true, false, not, ◌&&◌, ◌||◌, ◌≡◌, sym, ◌∙◌, None, inl, inr}
use Rattle.std.proofs.lemmas.Bool.{false≢true, cases_Bool}
use Rattle.svc_record.specs.declared.plan.Plan.{Plan}
use Rattle.svc_record.specs.Record.{Record, each_entry}
use Rattle.svc_record.specs.Fits.{event_fits}
use Rattle.svc_record.specs.Drain.{waits_are_over}
use Rattle.svc_record.specs.Right.{passed_right, is_served_by_words, is_stronger, is_right_by_words, is_served}
use Rattle.svc_record.proofs.Sound.{both}
use Rattle.svc_judge.specs.Verdicts.{breach_of}
use Rattle.svc_judge.proofs.VerdictLemmas.{and, right_from_none}

passes : (w x : Bool) → w ≡ true → (not w || x) ≡ true → x ≡ true
passes true x h g = g
passes false x h g = absurd (false≢true h)

open_words : (f w a b c d s x : Bool) → f ≡ true → w ≡ false → (((f && ((((w && a) && b) && c) && d)) && s) && x) ≡ false
open_words f w a b c d s x h g = rw (h, g)

and-false : (a b : Bool) → a ≡ false → (a && b) ≡ false
and-false a b h = rw (h)

-- where no rule is broken
pub served_by_waits : (p : Plan) (r : Record) → breach_of p r ≡ None → is_served p r ≡ waits_are_over p r
served_by_waits p r none =
    let halves = both (is_right_by_words p r) (is_stronger p r) (right_from_none p r none) in
    let words = both _ _ halves.0 in
    let fits = both (each_entry (event_fits p) r) _ ((both _ _ words.0).0) in
    let ends = both _ (not (waits_are_over p r) || passed_right p r) words.1 in
    elim (cases_Bool (waits_are_over p r)) [
      | inl over ↦
          (let passed = passes (waits_are_over p r) (passed_right p r) over ends.1 in
          let served = both (is_served_by_words p r) _ ((both _ _ passed).0) in
          and (is_served_by_words p r) (is_stronger p r) served.0 halves.1 ∙ sym over)
      | inr on ↦ and-false (is_served_by_words p r) (is_stronger p r) (open_words _ (waits_are_over p r) _ _ _ _ _ _ fits.0 on) ∙ sym on
    ]
