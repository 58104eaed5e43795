-- After a moment where nothing rests no rule is broken, where none is broken before it.
use Rattle.std.proofs.Common.{Bool, true, false, not, [], ◌∷◌, ◌≡◌, sym, ◌∙◌, refl, None, if◌then◌else◌}
use Rattle.std.proofs.lemmas.Bool.{false≢true}
use Rattle.svc_record.specs.declared.plan.Plan.{Plan}
use Rattle.svc_record.specs.declared.entry.Entry.TheVariants.{Got}
use Rattle.svc_record.specs.declared.event.Event.TheVariants.{Moment}
use Rattle.svc_record.specs.Record.{Record}
use Rattle.svc_record.specs.Offer.{goes_on}
use Rattle.svc_record.specs.Drain.{waits_are_over}
use Rattle.svc_record.specs.Ends.{has_ended, has_ended_early, ends_tested}
use Rattle.svc_record.specs.Right.{ended_right, open_right, settled_right}
use Rattle.svc_record.proofs.Sound.{both}
use Rattle.svc_judge.specs.Still.{is_still, is_idle}
use Rattle.svc_judge.specs.Verdicts.{step_breach, breach_below}
use Rattle.svc_judge.proofs.StillLemmas.{open_same, no_offer, goes_off, not_true}
use Rattle.svc_judge.proofs.VerdictLemmas.{step_keeps, step_clear, before_event, unasked}
use Rattle.svc_judge.proofs.NewLemmas.{at_event, all_false}

if_off : (b x y : Bool) → b ≡ false → (if b then x else y) ≡ y
if_off true x y h = absurd (false≢true (sym h))
if_off false x y h = refl

pub idle_is : (p : Plan) (q : Record) → breach_below p q ≡ None → is_idle p q ≡ true → step_breach p q ≡ None
idle_is p [] h i = absurd (false≢true i)
idle_is p (Got (Moment ms) ∷ r) h i =
    let q : Record = Got (Moment ms) ∷ r in
    let b = at_event p r (Moment ms) h in
    let k = step_keeps p r b.step in
    let parts = both (is_still r) (not (has_ended p q)) i in
    let on : has_ended p q ≡ false = not_true (has_ended p q) parts.1 in
    let ways = all_false (waits_are_over p q) (ends_tested p q) (has_ended_early p q) on in
    let before = all_false (waits_are_over p r) (ends_tested p r) (has_ended_early p r) b.on in
    let settled : settled_right p q ≡ true =
    if_off (has_ended p q) (ended_right p q) (open_right p q) on ∙ open_same p ms r parts.0 (ways.0 ∙ sym before.0)
    ∙ sym (if_off (has_ended p r) (ended_right p r) (open_right p r) b.on) ∙ k.settled in
    step_clear p q (before_event p q on settled k.fails (unasked (goes_on p q) _ (goes_off p q (no_offer r parts.0))))
idle_is p (_ ∷ r) h i = absurd (false≢true i)
