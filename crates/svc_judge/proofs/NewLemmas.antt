-- The rule that is broken anew is the first that is broken, where none is broken up to the settled prefix before.
use Rattle.std.proofs.Common.{Bool, true, false, not, ◌&&◌, ◌||◌, ◌+◌, [], ◌∷◌, length, ◌≡◌, refl, sym, ap, ◌∙◌, if◌then◌else◌, Option, None}
use Rattle.std.proofs.Math.Bool.{and-true}
use Rattle.std.proofs.lemmas.Bool.{false≢true}
use Rattle.std.specs.List.{list_all}
use Rattle.svc_record.specs.declared.plan.Plan.{Plan}
use Rattle.svc_record.specs.declared.entry.Entry.{Entry}
use Rattle.svc_record.specs.declared.entry.Entry.TheVariants.{Got, Told}
use Rattle.svc_record.specs.Record.{Record, has, is_signal, from_the_start, before_runtimes, each_entry}
use Rattle.svc_record.specs.Endpoints.{endpoints_right, endpoints_right_late}
use Rattle.svc_record.specs.AskRules.{fails_right}
use Rattle.svc_record.specs.Boot.{boot_right, boot_entries_right, stands_first, fork_first, start_after_boot}
use Rattle.svc_record.specs.Offer.{one_ask}
use Rattle.svc_record.specs.Closes.{closes_right}
use Rattle.svc_record.specs.Descriptors.{one_live}
use Rattle.svc_record.specs.Connections.{conn_right, connection_right, arrivals, rests_right, rest_due}
use Rattle.svc_record.specs.Drain.{waits_are_over, phases_right, moment_right, is_ending}
use Rattle.svc_record.specs.Ends.{has_ended, has_ended_early, ends_tested, tested_right}
use Rattle.svc_record.specs.Fits.{fits_row}
use Rattle.svc_record.specs.Right.{ended_right, passed_right, last_step_right}
use Rattle.svc_record.proofs.Sound.{both}
use Rattle.svc_judge.specs.Settled.{offer_kept, starts_kept}
use Rattle.svc_judge.specs.declared.judging.Rule.{Rule}
use Rattle.svc_judge.specs.declared.judging.Rule.TheVariants as rules
use Rattle.svc_judge.specs.Firsts.{first_of}
use Rattle.svc_judge.specs.Verdicts.{unless, at, entry_breach, are_endpoints_kept, are_phases_kept, open_breach, step_breach_by, settled_breach_by, step_breach, place_breach, breach_below}
use Rattle.svc_judge.specs.Anew.{earlier, each_new, is_of_connection, only_connections, connections_kept, conn_kept, boot_kept, connection_breach, new_breach}
use Rattle.svc_judge.proofs.AnewLemmas.{each_by_new, connections_by_touched}
use Rattle.svc_judge.proofs.QuietLemmas.{same_since}
use Rattle.svc_judge.proofs.VerdictLemmas.{neither, no_rule, entry_keeps, goes_on, step_keeps, OpenKeeps, open_keeps}

-- where a prefix breaks no rule and goes on, what is asked of it while it goes on holds
pub open_from : (p : Plan) (q : Record) → step_breach p q ≡ None → has_ended p q ≡ false → OpenKeeps p q
open_from p q h on =
    let settled = (neither (settled_breach_by (boot_right p q) (conn_right p q) p q) _ h).0 in
    let g : open_breach p q ≡ None = rw (on) at settled in
    open_keeps p q g

-- what is known of the prefix before an event that breaks nothing
pub record Before (p : Plan) (q : Record) : Type 0 where
  pub step : step_breach p q ≡ None
  pub on : has_ended p q ≡ false

pub before : (p : Plan) (e : Entry) (q : Record) → breach_below p (e ∷ q) ≡ None → breach_below p q ≡ None
before p e q h = (neither (breach_below p q) (place_breach p e q) h).0

pub at_event : (p : Plan) (q : Record) → (e : _) → breach_below p (Got e ∷ q) ≡ None → Before p q
at_event p q e h =
    let cut = neither (breach_below p q) (place_breach p (Got e) q) h in
    let last = neither (at (length q) (step_breach p q)) (at (length q + 1) (entry_breach p (Got e) q)) cut.1 in
    let entry = entry_keeps p (Got e) q (no_rule (length q + 1) (entry_breach p (Got e) q) last.1) in
    record { step = no_rule (length q) (step_breach p q) last.0; on = goes_on (has_ended p q) (fits_row p q e) entry.fits }

second : (b c : Bool) → (b && c) ≡ true → c ≡ true
second true c g = g
second false c g = absurd (false≢true g)

before_last : (p : Plan) (q : Record) → breach_below p q ≡ None → only_connections q ≡ true → Before p (earlier q)
before_last p [] h only = absurd (false≢true only)
before_last p (Got e ∷ q) h only = at_event p q e h
before_last p (Told a ∷ q) h only = before_last p q (before p (Told a) q h) (second (is_of_connection (Told a)) (only_connections q) only)

-- what held before the last event of what is looked at anew
record Held (p : Plan) (q : Record) : Type 0 where
  forks : each_entry (fork_first p) q ≡ true
  connections : list_all (connection_right p q) (arrivals q) ≡ true

held : (p : Plan) (q : Record) → breach_below p q ≡ None → Held p (earlier q)
held p [] h = record { forks = refl; connections = refl }
held p (Got e ∷ q) h =
    let b = at_event p q e h in
    let o = open_from p q b.step b.on in
    let boots = both (boot_entries_right p q) _ o.boot in
    let firsts = both (each_entry stands_first q && each_entry (fork_first p) q) (each_entry (start_after_boot p) q) boots.1 in
    let each = both (list_all (connection_right p q) (arrivals q) && rests_right q) (each_entry rest_due q) o.connections in
    record {
      forks = (both (each_entry stands_first q) (each_entry (fork_first p) q) firsts.0).1;
      connections = (both (list_all (connection_right p q) (arrivals q)) (rests_right q) each.0).0;
    }
held p (Told a ∷ q) h = held p q (before p (Told a) q h)

boots_anew : (p : Plan) (q : Record) → Held p (earlier q) → boot_right p q ≡ boot_kept p q
boots_anew p q k =
    ap (λ b. boot_entries_right p q && ((each_entry stands_first q && b) && each_entry (start_after_boot p) q)) (each_by_new (fork_first p) q k.forks)

connects_anew : (p : Plan) (q : Record) → Held p (earlier q) → conn_right p q ≡ conn_kept p q
connects_anew p q k = ap (λ b. (b && rests_right q) && each_entry rest_due q) (connections_by_touched p q k.connections)

step_anew : (p : Plan) (q : Record) → Held p (earlier q) → step_breach p q ≡ step_breach_by (boot_kept p q) (conn_kept p q) p q
step_anew p q k =
    ap (λ b. step_breach_by b (conn_right p q) p q) (boots_anew p q k) ∙ ap (λ b. step_breach_by (boot_kept p q) b p q) (connects_anew p q k)

middle : (a b c d : Bool) → a ≡ true → b ≡ true → d ≡ true → (a && ((b && c) && d)) ≡ c
middle a b c d h g f = rw (h, g, f) (and-true c)

front : (k r d : Bool) → r ≡ true → d ≡ true → ((k && r) && d) ≡ k
front k r d h g = rw (h, g) (and-true (k && true) ∙ and-true k)

asked : (a b x y : Bool) → a ≡ x → b ≡ y → (not x || y) ≡ true → (not a || b) ≡ true
asked a b x y h g f = rw (h, g) f

asked_twice : (r l s e x y z w : Bool) → r ≡ x → l ≡ y → s ≡ z → e ≡ w → ((not x || y) && (not (x && not z) || w)) ≡ true
    → ((not r || l) && (not (r && not s) || e)) ≡ true
asked_twice r l s e x y z w h g f i k = rw (h, g, f, i) k

both_same : (a b x y : Bool) → a ≡ x → b ≡ y → (x && y) ≡ true → (a && b) ≡ true
both_same a b x y h g f = rw (h, g) f

pub all_false : (a b c : Bool) → ((a || b) || c) ≡ false → (a ≡ false) × (b ≡ false) × (c ≡ false)
all_false true b c h = absurd (false≢true (sym h))
all_false false true c h = absurd (false≢true (sym h))
all_false false false c h = (refl, refl, h)

none_of : (a b c : Bool) → a ≡ false → b ≡ false → c ≡ false → ((a || b) || c) ≡ false
none_of a b c h g f = rw (h, g, f)

two_left : (b c : Bool) → first_of (unless b rules.Bootstrapping (unless c rules.Connections None)) None
    ≡ unless b rules.Bootstrapping (unless c rules.Connections None)
two_left true true = refl
two_left true false = refl
two_left false c = refl

-- where all other rules are kept, the first that is broken is one of the two
two_rules : (ended early boots offers connects closes live started held phases over fails one waits passed tested before last : Bool)
    → ended ≡ false → offers ≡ true → closes ≡ true → live ≡ true → started ≡ true → held ≡ true → phases ≡ true → over ≡ true → fails ≡ true
    → one ≡ true → waits ≡ false → tested ≡ false
    → first_of
    (if ended then unless early rules.Ended None else
    (unless boots rules.Bootstrapping
    (unless offers rules.Offer
    (unless connects rules.Connections
    (unless closes rules.Closes
    (unless live rules.OneLive
    (unless started rules.Starts (unless held rules.Endpoints (unless phases rules.Phases (unless over rules.Ending None))))))))))
    (unless fails rules.Fails
    (unless one rules.OneAsk
    (unless (not waits || passed) rules.Served (unless (not tested || before) rules.Tested (unless (not waits || last) rules.LastStep None)))))
    ≡ unless boots rules.Bootstrapping (unless connects rules.Connections None)
two_rules ended early boots offers connects closes live started held phases over fails one waits passed tested before last a b c d e f g h i j k l =
    rw (a, b, c, d, e, f, g, h, i, j, k, l) (two_left boots connects)

-- after entries of connections alone, two rules can be broken
quiet : (p : Plan) (q : Record) → breach_below p q ≡ None → only_connections q ≡ true → step_breach p q ≡ connection_breach p q
quiet p q h only =
    let r = earlier q in
    let b = before_last p q h only in
    let k = step_keeps p r b.step in
    let o = open_from p r b.step b.on in
    let s = same_since p q only in
    let ways = all_false (waits_are_over p r) (ends_tested p r) (has_ended_early p r) b.on in
    let boots = both (boot_entries_right p r) _ o.boot in
    let firsts = both (each_entry stands_first r && each_entry (fork_first p) r) (each_entry (start_after_boot p) r) boots.1 in
    let stands = both (each_entry stands_first r) (each_entry (fork_first p) r) firsts.0 in
    let each = both (list_all (connection_right p r) (arrivals r) && rests_right r) (each_entry rest_due r) o.connections in
    let rests = both (list_all (connection_right p r) (arrivals r)) (rests_right r) each.0 in
    let known = held p q h in
    let waits : waits_are_over p q ≡ false = s.waits ∙ ways.0 in
    let tested : ends_tested p q ≡ false = s.tested ∙ ways.1 in
    let ended : has_ended p q ≡ false = none_of (waits_are_over p q) (ends_tested p q) (has_ended_early p q) waits tested (s.early ∙ ways.2) in
    let started : (not (from_the_start q) || starts_kept p q) ≡ true =
    asked (from_the_start q) (starts_kept p q) (from_the_start r) (starts_kept p r) s.runs s.starts o.starts in
    let ends : are_endpoints_kept p q ≡ true =
    asked_twice (from_the_start q) (endpoints_right_late p q) (has is_signal q) (endpoints_right p q)
    (from_the_start r) (endpoints_right_late p r) (has is_signal r) (endpoints_right p r) s.runs s.late s.signal s.endpoints o.endpoints in
    let phases : are_phases_kept p q ≡ true =
    both_same (phases_right p q) (each_entry moment_right q) (phases_right p r) (each_entry moment_right r) s.phases s.moments o.phases in
    let over : not (has is_ending q) ≡ true = ap not s.ending ∙ o.ending in
    let booted : boot_right p q ≡ each_new (fork_first p) q =
    boots_anew p q known
    ∙ middle (boot_entries_right p q) (each_entry stands_first q) (each_new (fork_first p) q) (each_entry (start_after_boot p) q)
    (s.boots ∙ boots.0) (s.stands ∙ stands.0) (s.after_boot ∙ firsts.1) in
    let connected : conn_right p q ≡ connections_kept p q =
    connects_anew p q known
    ∙ front (connections_kept p q) (rests_right q) (each_entry rest_due q) (s.rests ∙ rests.1) (s.rest_due ∙ each.1) in
    two_rules (has_ended p q) (ended_right p q) (boot_right p q) (offer_kept p q) (conn_right p q) (closes_right p q) (one_live p q)
    (not (from_the_start q) || starts_kept p q) (are_endpoints_kept p q) (are_phases_kept p q) (not (has is_ending q)) (fails_right p q)
    (one_ask p q) (waits_are_over p q) (passed_right p q) (ends_tested p q) (tested_right p q) (last_step_right p (before_runtimes q))
    ended (s.offer ∙ o.offer) (s.closes ∙ o.closes) (s.one_live ∙ o.one_live) started ends phases over (s.fails ∙ k.fails)
    (s.one_ask ∙ k.one_ask) waits tested
    ∙ ap (λ b. unless b rules.Bootstrapping (unless (conn_right p q) rules.Connections None)) booted
    ∙ ap (λ b. unless (each_new (fork_first p) q) rules.Bootstrapping (unless b rules.Connections None)) connected

by_case : (b : Bool) (x y z : Option Rule) → (b ≡ true → x ≡ y) → (b ≡ false → x ≡ z) → x ≡ (if b then y else z)
by_case true x y z f g = f refl
by_case false x y z f g = g refl

-- where none is broken before, the rule that a settled prefix breaks is the one that it breaks anew
pub new_is : (p : Plan) (q : Record) → breach_below p q ≡ None → step_breach p q ≡ new_breach p q
new_is p q h =
    by_case (only_connections q) (step_breach p q) (connection_breach p q) (step_breach_by (boot_kept p q) (conn_kept p q) p q)
    (quiet p q h) (λ n. step_anew p q (held p q h))
