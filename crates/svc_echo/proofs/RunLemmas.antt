-- What a run of the echo server leaves.
use Rattle.std.proofs.Common.{◌≡◌, ◌⊎◌, inl, inr, ℕ, suc, ◌-◌, Bool, true, false, List, [], ◌∷◌, length, Option, Some, refl, sym, ap, ◌∙◌, subst, arith}
use Rattle.std.specs.Prelude.{slice_get, ◌↔◌}
use Rattle.svc_record.specs.declared.plan.Plan.{Plan}
use Rattle.svc_record.specs.declared.action.StepEnd.TheVariants.{Served}
use Rattle.svc_record.specs.Journal.{PostData}
use Rattle.svc_shared.specs.BookData.{BookData}
use Rattle.svc_shared.specs.Journals.{IsLegal, end_after}
use Rattle.svc_desk.specs.Desks.{DeskData}
use Rattle.svc_desk.specs.Serving.{DeskEnd, IsServed}
use Rattle.svc_echo.specs.Endings.{stops, ends_with_stop}
use Rattle.svc_echo.specs.Reports.{Says, SaysFront, report_text}
use Rattle.svc_echo.specs.Runs.{Wrote, WroteFront, IsRunStatus}
use Rattle.svc_echo.proofs.EndingLemmas.{journal_served}

-- the last post decides
pub last_stops : (posts : List PostData) (p : PostData) → Some p ≡ slice_get posts (length posts - 1) → ends_with_stop posts ≡ stops p.actions
last_stops [] p h = cc
last_stops (x ∷ []) p h = let same : Some p ≡ Some x = h in let e : x ≡ p = cc in ap (λ (q : PostData). stops q.actions) e
last_stops (x ∷ y ∷ more) p h =
    let e : length (x ∷ y ∷ more) - 1 ≡ suc (length (y ∷ more) - 1) = omega arith in
    let there : Some p ≡ slice_get (x ∷ y ∷ more) (suc (length (y ∷ more) - 1)) = h ∙ ap (slice_get (x ∷ y ∷ more)) e in
    last_stops (y ∷ more) p there

-- a report says served exactly where the last post left the run so
ends_so : (origin : BookData) (journal : List PostData) (is_served : Bool) → IsLegal origin journal → ends_with_stop journal ≡ is_served
    → (is_served ≡ true) ↔ (end_after origin journal ≡ Served)
ends_so origin journal is_served legal e =
    let both = journal_served origin.plan origin.opening journal legal in (λ h. both.0 (e ∙ h), λ h. sym e ∙ both.1 h)

pub wrote_from : (plan : Plan) (turns : ℕ) (l r l' r' : DeskData) (one two : DeskEnd) (journal journal' : List PostData) (is_served : Bool)
    (before now : Option (List ℕ))
    → one.desk ≡ l' → two.desk ≡ r' → journal' ≡ journal → IsServed plan 1000000 turns l r one two journal → Says journal one.end two.end is_served before now
    → Wrote plan turns l r l' r' journal' is_served before now
wrote_from plan turns l r l' r' one two journal journal' is_served before now left_is right_is same served says =
    subst (λ (posts : List PostData). Wrote plan turns l r l' r' posts is_served before now) (sym same) (record {
      out = report_text (length journal) is_served one.end two.end;
      reports = record {
        one = one;
        two = two;
        left_is = left_is;
        right_is = right_is;
        served = served;
        ends = ends_so served.origin journal is_served served.legal says.stops;
        stops = says.stops;
        text = refl;
      };
      wrote = says.wrote;
    })

pub wrote_front : (plan : Plan) (turns : ℕ) (l r l' r' : DeskData) (one two : DeskEnd) (journal journal' : List PostData) (before now : Option (List ℕ))
    → one.desk ≡ l' → two.desk ≡ r' → journal' ≡ journal → IsServed plan 1000000 turns l r one two journal → SaysFront journal one.end two.end before now
    → WroteFront plan turns l r l' r' journal' before now
wrote_front plan turns l r l' r' one two journal journal' before now left_is right_is same served says =
    subst (λ (posts : List PostData). WroteFront plan turns l r l' r' posts before now) (sym same) (record {
      is_served = ends_with_stop journal;
      out = report_text (length journal) (ends_with_stop journal) one.end two.end;
      reports = record {
        one = one;
        two = two;
        left_is = left_is;
        right_is = right_is;
        served = served;
        ends = ends_so served.origin journal (ends_with_stop journal) served.legal refl;
        stops = refl;
        text = refl;
      };
      count = says.count;
      within = says.within;
      wrote = says.wrote;
    })

pub complete_from : (status : ℕ) (journal : List PostData) (origin : BookData) → IsRunStatus status → (status ≡ 4 → ends_with_stop journal ≡ false)
    → (status ≡ 6 → ⊥)
    → IsLegal origin journal → end_after origin journal ≡ Served → (status ≡ 0) ⊎ (status ≡ 7)
complete_from status journal origin (inl zero_is) four six legal ends = inl zero_is
complete_from status journal origin (inr (inl four_is)) four six legal ends =
    let t : ends_with_stop journal ≡ true = (journal_served origin.plan origin.opening journal legal).1 ends in
    let f : ends_with_stop journal ≡ false = four four_is in cc
complete_from status journal origin (inr (inr (inl six_is))) four six legal ends = absurd (six six_is)
complete_from status journal origin (inr (inr (inr seven_is))) four six legal ends = inr seven_is
