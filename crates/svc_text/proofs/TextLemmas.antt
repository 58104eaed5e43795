-- The text of a record that grows.
use Rattle.std.proofs.Common.{◌≡◌, Bool, false, Ok, Err, All, List, [], ◌∷◌, ◌++◌, reverse, sym, ap, subst, ◌∙◌}
use Rattle.std.specs.Prelude.{Result, OnOk}
use Rattle.std.specs.Result.{is_err}
use Rattle.std.proofs.lemmas.Grind.{flat_map-append}
use Rattle.std.proofs.lemmas.List.Elements.{All-push}
use Rattle.std.proofs.lemmas.List.{append-nil}
use mathlib.Core.List.{reverse-cons}
use Rattle.svc_record.specs.declared.entry.Entry.{Entry}
use Rattle.svc_record.specs.Text.{text_of, line_of, EntryFits}

-- it ends with the line of the newest entry
pub text-more : (e : Entry) (r : List Entry) → text_of (reverse (e ∷ r)) ≡ text_of (reverse r) ++ line_of e
text-more e r = ap text_of (reverse-cons e r) ∙ flat_map-append line_of (reverse r) (e ∷ []) ∙ ap (λ line. text_of (reverse r) ++ line) (append-nil (line_of e))

-- where the numbers of the newest entry are those of its types, too, all are
pub fits-more : (e : Entry) (r : List Entry) → All EntryFits (reverse r) → EntryFits e → All EntryFits (reverse (e ∷ r))
fits-more e r fit one = subst (All EntryFits) (sym (reverse-cons e r)) (All-push EntryFits (reverse r) e fit one)

-- where there was memory, it was written
pub written : {T E : Type 0} (result : Result T E) (failed : Bool) (A : Type 0) → failed ≡ is_err result → failed ≡ false → OnOk result A → A
written (Ok t) failed A is none h = h
written (Err e) failed A is none h = absurd (cc)
