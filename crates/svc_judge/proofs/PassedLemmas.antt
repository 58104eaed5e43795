-- Where no rule was broken up to a run's end, what holds of each entry and of each earlier prefix needn't be looked at again.
use Rattle.std.proofs.Common.{Bool, true, false, not, ◌&&◌, ◌||◌, ◌+◌, [], ◌∷◌, length, ◌≡◌, refl, ap, ◌∙◌, if◌then◌else◌, Option, Some, None, inl, inr}
use Rattle.std.proofs.lemmas.Bool.{cases_Bool}
use Rattle.svc_record.specs.declared.plan.Plan.{Plan}
use Rattle.svc_record.specs.declared.entry.Entry.{Entry}
use Rattle.svc_record.specs.declared.entry.Entry.TheVariants.{Got, Told}
use Rattle.svc_record.specs.declared.action.Action.TheVariants.{Close}
use Rattle.svc_record.specs.Record.{Record, has, is_signal, from_the_start, before_runtimes, each_entry, each_earlier}
use Rattle.svc_record.specs.Descriptors.{is_opened, is_close}
use Rattle.svc_record.specs.Endpoints.{endpoints_right, endpoints_right_late}
use Rattle.svc_record.specs.AskRules.{fails_right}
use Rattle.svc_record.specs.Boot.{boot_right}
use Rattle.svc_record.specs.Offer.{one_ask}
use Rattle.svc_record.specs.Closes.{close_once, closes_right}
use Rattle.svc_record.specs.Connections.{conn_right}
use Rattle.svc_record.specs.Drain.{waits_are_over, phases_right, moment_right, every_moment_right, ends_right, is_ending}
use Rattle.svc_record.specs.Ends.{has_ended, has_ended_early, ends_tested, tested_right}
use Rattle.svc_record.specs.Fits.{event_fits}
use Rattle.svc_record.specs.Right.{in_service, ended_right, serves_right, passed_right, last_step_right, close_due}
use Rattle.svc_record.proofs.Sound.{both}
use Rattle.svc_judge.specs.Settled.{offer_kept, starts_kept}
use Rattle.svc_judge.specs.Steps.{is_closed_once}
use Rattle.svc_judge.specs.declared.judging.Rule.{Rule}
use Rattle.svc_judge.specs.declared.judging.Rule.TheVariants as rules
use Rattle.svc_judge.specs.declared.judging.Breach.{Breach}
use Rattle.svc_judge.specs.Firsts.{first_of}
use Rattle.svc_judge.specs.Verdicts.{unless, at, entry_breach, open_breach_by, settled_breach_by, step_breach_by, step_breach, place_breach, breach_below}
use Rattle.svc_judge.specs.Anew.{only_connections, connection_breach, boot_kept, conn_kept}
use Rattle.svc_judge.specs.Still.{is_idle}
use Rattle.svc_judge.specs.Binds.{is_well_bound}
use Rattle.svc_judge.specs.Stirred.{only_stirs, stirred_breach}
use Rattle.svc_judge.specs.Passed.{passed_anew, end_anew, step_anew_by, late_breach, late_place_breach}
use Rattle.svc_judge.proofs.VerdictLemmas.{and, entries, entry_keeps, OpenKeeps}
use Rattle.svc_judge.proofs.NewLemmas.{before, at_event, open_from, all_false, new_is}
use Rattle.svc_judge.proofs.StillLemmas.{or_right}
use Rattle.svc_judge.proofs.IdleLemmas.{idle_is}
use Rattle.svc_judge.proofs.BoundLemmas.{bound_is}
use Rattle.svc_judge.proofs.StirLemmas.{stirred_is}

-- what stands before each event passes a test that an unbroken prefix gives in which the run goes on
earlier_open : (p : Plan) (test : Record → Bool) → ((q : Record) → step_breach p q ≡ None → has_ended p q ≡ false → test q ≡ true) → (q : Record)
    → breach_below p q ≡ None → each_earlier test q ≡ true
earlier_open p test f [] h = refl
earlier_open p test f (Got e ∷ b) h =
    let k = at_event p b e h in
    and (test b) (each_earlier test b) (f b k.step k.on) (earlier_open p test f b (before p (Got e) b h))
earlier_open p test f (Told a ∷ b) h = earlier_open p test f b (before p (Told a) b h)

not_over : (p : Plan) (q : Record) → has_ended p q ≡ false → not (waits_are_over p q) ≡ true
not_over p q on = ap not ((all_false (waits_are_over p q) (ends_tested p q) (has_ended_early p q) on).0)

in_service_keeps : (r s starts e : Bool) → (not r || starts) ≡ true → (not (r && not s) || e) ≡ true → (not (r && not s) || (starts && e)) ≡ true
in_service_keeps false s starts e h g = refl
in_service_keeps true true starts e h g = refl
in_service_keeps true false starts e h g = and starts e h g

serves_open : (p : Plan) (q : Record) → OpenKeeps p q → serves_right p q ≡ true
serves_open p q k =
    let held = both (not (from_the_start q) || endpoints_right_late p q) (not (in_service q) || endpoints_right p q) k.endpoints in
    and (has is_signal q || closes_right p q) (not (in_service q) || (starts_kept p q && endpoints_right p q))
    (or_right (has is_signal q) (closes_right p q) k.closes)
    (in_service_keeps (from_the_start q) (has is_signal q) (starts_kept p q) (endpoints_right p q) k.starts held.1)

due_where_once : (p : Plan) (e : Entry) (b : Record) → close_once p e b ≡ true → close_due p e b ≡ true
due_where_once p (Told (Close fd)) b h = (both (is_opened p b fd) (not (has (is_close fd) b)) h).0
due_where_once p _ b h = refl

shape : (ph e s o boot rest : Bool)
    → ((((((ph && true) && true) && e) && (s && true)) && (o && true)) && boot && rest) ≡ ((((ph && e) && (s && o)) && boot) && rest)
shape true true true true boot rest = refl
shape true true true false boot rest = refl
shape true true false o boot rest = refl
shape true false s o boot rest = refl
shape false e s o boot rest = refl

-- of all that is asked of a record that has passed, this is left
left : (f w a ph b m e s c o d boot rest : Bool) → f ≡ true → w ≡ true → a ≡ true → b ≡ true → m ≡ true → c ≡ true → d ≡ true
    → ((((f && ((((w && a) && (ph && b)) && m) && e)) && (s && c)) && (o && d)) && boot && rest) ≡ ((((ph && e) && (s && o)) && boot) && rest)
left f w a ph b m e s c o d boot rest h1 h2 h3 h4 h5 h6 h7 = rw (h1, h2, h3, h4, h5, h6, h7) (shape ph e s o boot rest)

passed_is : (p : Plan) (q : Record) → breach_below p q ≡ None → waits_are_over p q ≡ true → passed_right p q ≡ passed_anew p q
passed_is p q h over =
    left (each_entry (event_fits p) q) (waits_are_over p q) (each_earlier (λ r. not (waits_are_over p r)) q) (phases_right p q)
    (each_earlier (phases_right p) q) (each_entry every_moment_right q)
    (ends_right p (before_runtimes q) q && not (has is_ending (before_runtimes q)))
    (serves_right p q) (each_earlier (serves_right p) q) (is_closed_once p q) (each_entry (close_due p) q) (boot_right p q)
    (offer_kept p q && conn_right p q)
    (entries p (event_fits p) (λ e b g. (entry_keeps p e b g).fits) q h) over
    (earlier_open p (λ r. not (waits_are_over p r)) (λ r s on. not_over p r on) q h)
    (earlier_open p (phases_right p) (λ r s on. (both (phases_right p r) (each_entry moment_right r) (open_from p r s on).phases).0) q h)
    (entries p every_moment_right (λ e b g. (entry_keeps p e b g).moment) q h)
    (earlier_open p (serves_right p) (λ r s on. serves_open p r (open_from p r s on)) q h)
    (entries p (close_due p) (λ e b g. due_where_once p e b ((entry_keeps p e b g).close_once)) q h)

unasked : (w a b : Bool) → w ≡ false → (not w || a) ≡ (not w || b)
unasked w a b h = rw (h)

end_is : (p : Plan) (q : Record) → breach_below p q ≡ None
    → (not (waits_are_over p q) || passed_right p q) ≡ (not (waits_are_over p q) || passed_anew p q)
end_is p q h = elim (cases_Bool (waits_are_over p q)) [
  | inl over ↦ ap (λ b. not (waits_are_over p q) || b) (passed_is p q h over)
  | inr on ↦ unasked (waits_are_over p q) (passed_right p q) (passed_anew p q) on
]

step_is : (p : Plan) (q : Record) (boots connects : Bool) → breach_below p q ≡ None → step_breach_by boots connects p q ≡ step_anew_by boots connects p q
step_is p q boots connects h =
    ap (λ b. first_of (settled_breach_by boots connects p q) (unless (fails_right p q) rules.Fails (unless (one_ask p q) rules.OneAsk
    (unless b rules.Served (unless (not (ends_tested p q) || tested_right p q) rules.Tested
    (unless (not (waits_are_over p q) || last_step_right p (before_runtimes q)) rules.LastStep None)))))) (end_is p q h)

pub late_is : (p : Plan) (q : Record) → breach_below p q ≡ None → step_breach p q ≡ late_breach p q
late_is p q h =
    with_idle (only_connections q) (is_idle p q) (is_well_bound p q) (only_stirs p q) (step_breach p q) (connection_breach p q)
    (stirred_breach p q) (step_anew_by (boot_kept p q) (conn_kept p q) p q)
    (new_is p q h ∙ ap (λ r. if only_connections q then connection_breach p q else r) (step_is p q (boot_kept p q) (conn_kept p q) h)) (idle_is p q h)
    (bound_is p q h) (stirred_is p q h)
  where
    with_idle : (a b d o : Bool) (x c y z : Option Rule) → x ≡ (if a then c else z) → (b ≡ true → x ≡ None) → (d ≡ true → x ≡ None) → (o ≡ true → x ≡ y)
        → x ≡ (if a then c else (if b then None else (if d then None else (if o then y else z))))
    with_idle true b d o x c y z k f g i = k
    with_idle false true d o x c y z k f g i = f refl
    with_idle false false true o x c y z k f g i = g refl
    with_idle false false false true x c y z k f g i = i refl
    with_idle false false false false x c y z k f g i = k

same_first : (b : Bool) (e x y z : Option Rule) → b ≡ true → first_of (if b then e else x) z ≡ first_of (if b then e else y) z
same_first b e x y z h = rw (h)

-- in a run that has ended neither the beginning nor connections are looked at
pub ended_anyhow : (p : Plan) (q : Record) (a b c d : Bool) → has_ended p q ≡ true → step_anew_by a b p q ≡ step_anew_by c d p q
ended_anyhow p q a b c d h =
    same_first (has_ended p q) (unless (ended_right p q) rules.Ended None) (open_breach_by a b p q) (open_breach_by c d p q)
    (unless (fails_right p q) rules.Fails (unless (one_ask p q) rules.OneAsk (end_anew p q))) h

place_is : (p : Plan) (e : Entry) (q : Record) → breach_below p q ≡ None → place_breach p e q ≡ late_place_breach p e q
place_is p (Got e) q h = ap (λ r. first_of (at (length q) r) (at (length q + 1) (entry_breach p (Got e) q))) (late_is p q h)
place_is p (Told a) q h = refl

joined : (x y z found : Option Breach) → (x ≡ None → y ≡ z) → first_of (first_of x y) found ≡ first_of x (first_of z found)
joined (Some b) y z found f = refl
joined None y z found f = ap (λ o. first_of o found) (f refl)

-- one entry further back
pub late_place_step : (p : Plan) (e : Entry) (q : Record) (found : Option Breach)
    → first_of (first_of (breach_below p q) (place_breach p e q)) found ≡ first_of (breach_below p q) (first_of (late_place_breach p e q) found)
late_place_step p e q found = joined (breach_below p q) (place_breach p e q) (late_place_breach p e q) found (place_is p e q)
