-- Numbers that are put in order one by one.
use Rattle.std.proofs.Common.{ℕ, List, [], ◌∷◌, ◌++◌, filter, ◌≡◌, refl, ap, ◌∙◌, inl, inr}
use Rattle.std.proofs.lemmas.Bool.{cases_Bool}
use Rattle.std.proofs.lemmas.List.Elements.{filter-append}
use Rattle.svc_base.specs.NumberSets.{put_number, ascending}
use Rattle.svc_record.specs.declared.entry.Entry.{Entry}
use Rattle.svc_record.specs.declared.entry.Entry.TheVariants.{Got}
use Rattle.svc_record.specs.declared.event.Event.TheVariants.{Arrived}
use Rattle.svc_record.specs.Record.{Record}
use Rattle.svc_record.specs.Descriptors.{Descriptor}
use Rattle.svc_record.specs.Connections.{arrived_numbers}
use Rattle.svc_judge.specs.Facts.{is_unclosed}
use Rattle.svc_judge.specs.Endings.{is_uncut}
use Rattle.svc_judge.specs.Numbers.{put_onto, live_in, unclosed_in}

pub onto_none : (xs : List ℕ) → put_onto xs [] ≡ ascending xs
onto_none [] = refl
onto_none (x ∷ xs) = ap (put_number x) (onto_none xs)

onto_append : (xs ys numbers : List ℕ) → put_onto (xs ++ ys) numbers ≡ put_onto xs (put_onto ys numbers)
onto_append [] ys numbers = refl
onto_append (x ∷ xs) ys numbers = ap (put_number x) (onto_append xs ys numbers)

arrived_append : (q r : Record) → arrived_numbers (q ++ r) ≡ arrived_numbers q ++ arrived_numbers r
arrived_append [] r = refl
arrived_append (Got (Arrived s i n peer) ∷ q) r = ap (λ ns. n ∷ ns) (arrived_append q r)
arrived_append (_ ∷ q) r = arrived_append q r

-- the connection of the last entry is put first
pub live_last : (whole q : Record) (e : Entry) (numbers : List ℕ)
    → put_onto (live_in whole (q ++ (e ∷ []))) numbers ≡ put_onto (live_in whole q) (put_onto (live_in whole (e ∷ [])) numbers)
live_last whole q e numbers =
    ap (λ ns. put_onto ns numbers)
    (ap (filter (is_uncut whole)) (arrived_append q (e ∷ [])) ∙ filter-append (is_uncut whole) (arrived_numbers q) (arrived_numbers (e ∷ [])))
    ∙ onto_append (live_in whole q) (live_in whole (e ∷ [])) numbers

unclosed_append : (whole : Record) (ds es : List Descriptor) → unclosed_in whole (ds ++ es) ≡ unclosed_in whole ds ++ unclosed_in whole es
unclosed_append whole [] es = refl
unclosed_append whole (d ∷ ds) es = elim (cases_Bool (is_unclosed whole d)) [
  | inl h ↦ rw (h) (ap (λ ns. d.number ∷ ns) (unclosed_append whole ds es))
  | inr h ↦ rw (h) (unclosed_append whole ds es)
]

-- the last descriptor is put first
pub unclosed_last : (whole : Record) (ds : List Descriptor) (d : Descriptor) (numbers : List ℕ)
    → put_onto (unclosed_in whole (ds ++ (d ∷ []))) numbers ≡ put_onto (unclosed_in whole ds) (put_onto (unclosed_in whole (d ∷ [])) numbers)
unclosed_last whole ds d numbers =
    ap (λ ns. put_onto ns numbers) (unclosed_append whole ds (d ∷ [])) ∙ onto_append (unclosed_in whole ds) (unclosed_in whole (d ∷ [])) numbers
