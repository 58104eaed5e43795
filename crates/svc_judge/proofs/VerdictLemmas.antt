-- Where no rule is broken at any place, the record is right; and where it is right, none is.
use Rattle.std.proofs.Common.{ℕ, Bool, true, false, not, ◌&&◌, ◌||◌, ◌+◌, [], ◌∷◌, length, ◌≡◌, refl, sym, Option, Some, None, inl, inr}
use Rattle.std.proofs.lemmas.Bool.{false≢true, cases_Bool}
use Rattle.svc_record.specs.declared.plan.Plan.{Plan}
use Rattle.svc_record.specs.declared.entry.Entry.{Entry}
use Rattle.svc_record.specs.declared.entry.Entry.TheVariants.{Got, Told}
use Rattle.svc_record.specs.Record.{Record, has, from_the_start, before_runtimes, each_entry, each_earlier}
use Rattle.svc_record.specs.Starts.{start_due, start_known}
use Rattle.svc_record.specs.Endpoints.{endpoints_right, endpoints_right_late}
use Rattle.svc_record.specs.AskRules.{ask_due, ask_known, fails_right}
use Rattle.svc_record.specs.Boot.{boot_right, boot_due, try_due}
use Rattle.svc_record.specs.Offer.{retry_due, one_ask}
use Rattle.svc_record.specs.Closes.{close_once, closes_right}
use Rattle.svc_record.specs.Descriptors.{one_live}
use Rattle.svc_record.specs.Connections.{conn_right, connection_known}
use Rattle.svc_record.specs.Drain.{waits_are_over, every_moment_right, is_ending}
use Rattle.svc_record.specs.Ends.{has_ended, has_ended_early, ends_tested, tested_right}
use Rattle.svc_record.specs.Fits.{event_fits, fits_row}
use Rattle.svc_record.specs.Right.{in_service, ended_right, open_right, settled_right, passed_right, last_step_right, is_right_by_words, is_stronger, is_right}
use Rattle.svc_record.proofs.Sound.{both}
use Rattle.svc_judge.specs.Settled.{offer_kept, starts_kept}
use Rattle.svc_judge.specs.declared.judging.Rule.{Rule}
use Rattle.svc_judge.specs.declared.judging.Rule.TheVariants as rules
use Rattle.svc_judge.specs.Firsts.{first_of}
use Rattle.svc_judge.specs.Verdicts.{unless, at, entry_breach, are_endpoints_kept, are_phases_kept, open_breach, settled_breach_by, step_breach, breach_below, breach_of}

pub and : (a b : Bool) → a ≡ true → b ≡ true → (a && b) ≡ true
and true true h g = refl
and true false h g = absurd (false≢true g)
and false b h g = absurd (false≢true h)

-- no rule is broken there, and none next
pub kept : (b : Bool) (rule : Rule) (next : Option Rule) → unless b rule next ≡ None → (b ≡ true) × (next ≡ None)
kept true rule next h = (refl, h)
kept false rule next h = cc

pub neither : {A : Type 0} (x y : Option A) → first_of x y ≡ None → (x ≡ None) × (y ≡ None)
neither (Some x) y h = cc
neither None y h = (refl, h)

pub nowhere : {A : Type 0} (x y : Option A) → x ≡ None → y ≡ None → first_of x y ≡ None
nowhere x y h g = rw (h) g

pub no_rule : (n : ℕ) (r : Option Rule) → at n r ≡ None → r ≡ None
no_rule n (Some rule) h = cc
no_rule n None h = refl

no_place : (n : ℕ) (r : Option Rule) → r ≡ None → at n r ≡ None
no_place n r h = rw (h)

-- where no rule is broken, each entry passes a test that the unbroken rules give
pub entries : (p : Plan) (test : Entry → Record → Bool) → ((e : Entry) (b : Record) → entry_breach p e b ≡ None → test e b ≡ true) → (q : Record)
    → breach_below p q ≡ None → each_entry test q ≡ true
entries p test f [] h = refl
entries p test f (Got e ∷ b) h =
    let cut = neither (breach_below p b) (first_of (at (length b) (step_breach p b)) (at (length b + 1) (entry_breach p (Got e) b))) h in
    let last = neither (at (length b) (step_breach p b)) (at (length b + 1) (entry_breach p (Got e) b)) cut.1 in
    and (test (Got e) b) (each_entry test b) (f (Got e) b (no_rule (length b + 1) (entry_breach p (Got e) b) last.1)) (entries p test f b cut.0)
entries p test f (Told a ∷ b) h =
    let cut = neither (breach_below p b) (at (length b + 1) (entry_breach p (Told a) b)) h in
    and (test (Told a) b) (each_entry test b) (f (Told a) b (no_rule (length b + 1) (entry_breach p (Told a) b) cut.1)) (entries p test f b cut.0)

-- and so does what stands before each event
pub earlier : (p : Plan) (test : Record → Bool) → ((q : Record) → step_breach p q ≡ None → test q ≡ true) → (q : Record)
    → breach_below p q ≡ None → each_earlier test q ≡ true
earlier p test f [] h = refl
earlier p test f (Got e ∷ b) h =
    let cut = neither (breach_below p b) (first_of (at (length b) (step_breach p b)) (at (length b + 1) (entry_breach p (Got e) b))) h in
    let last = neither (at (length b) (step_breach p b)) (at (length b + 1) (entry_breach p (Got e) b)) cut.1 in
    and (test b) (each_earlier test b) (f b (no_rule (length b) (step_breach p b) last.0)) (earlier p test f b cut.0)
earlier p test f (Told a ∷ b) h =
    earlier p test f b ((neither (breach_below p b) (at (length b + 1) (entry_breach p (Told a) b)) h).0)

-- what an entry keeps that breaks no rule
pub record EntryKeeps (p : Plan) (e : Entry) (b : Record) : Type 0 where
  pub fits : event_fits p e b ≡ true
  pub start_due : start_due p e b ≡ true
  pub ask_due : ask_due p e b ≡ true
  pub boot_due : boot_due p e b ≡ true
  pub try_due : try_due e b ≡ true
  pub retry_due : retry_due e b ≡ true
  pub close_once : close_once p e b ≡ true
  pub moment : every_moment_right e b ≡ true
  pub start_known : start_known p e b ≡ true
  pub ask_known : ask_known p e b ≡ true
  pub connection_known : connection_known p e b ≡ true

pub entry_keeps : (p : Plan) (e : Entry) (b : Record) → entry_breach p e b ≡ None → EntryKeeps p e b
entry_keeps p e b h =
    let a = kept (event_fits p e b) rules.Fits _ h in
    let c = kept (start_due p e b) rules.StartDue _ a.1 in
    let d = kept (ask_due p e b) rules.AskDue _ c.1 in
    let f = kept (boot_due p e b) rules.BootDue _ d.1 in
    let g = kept (try_due e b) rules.TryDue _ f.1 in
    let i = kept (retry_due e b) rules.RetryDue _ g.1 in
    let j = kept (close_once p e b) rules.CloseOnce _ i.1 in
    let k = kept (every_moment_right e b) rules.Moment _ j.1 in
    let l = kept (start_known p e b) rules.StartKnown _ k.1 in
    let m = kept (ask_known p e b) rules.AskKnown _ l.1 in
    let n = kept (connection_known p e b) rules.ConnectionKnown _ m.1 in
    record {
      fits = a.0;
      start_due = c.0;
      ask_due = d.0;
      boot_due = f.0;
      try_due = g.0;
      retry_due = i.0;
      close_once = j.0;
      moment = k.0;
      start_known = l.0;
      ask_known = m.0;
      connection_known = n.0;
    }

entry_clear : (p : Plan) (e : Entry) (b : Record) → EntryKeeps p e b → entry_breach p e b ≡ None
entry_clear p e b k =
    rw (k.fits, k.start_due, k.ask_due, k.boot_due, k.try_due, k.retry_due, k.close_once, k.moment, k.start_known, k.ask_known, k.connection_known)

or_both : (a b c : Bool) → (a || b) ≡ true → (a || c) ≡ true → (a || (b && c)) ≡ true
or_both true b c h g = refl
or_both false b c h g = rw (h, g)

from_both : (a b c : Bool) → (a || (b && c)) ≡ true → ((a || b) ≡ true) × ((a || c) ≡ true)
from_both true b c h = (refl, refl)
from_both false b c h = both b c h

-- what a settled prefix keeps that breaks no rule while the run goes on
pub record OpenKeeps (p : Plan) (q : Record) : Type 0 where
  pub boot : boot_right p q ≡ true
  pub offer : offer_kept p q ≡ true
  pub connections : conn_right p q ≡ true
  pub closes : closes_right p q ≡ true
  pub one_live : one_live p q ≡ true
  pub starts : (not (from_the_start q) || starts_kept p q) ≡ true
  pub endpoints : are_endpoints_kept p q ≡ true
  pub phases : are_phases_kept p q ≡ true
  pub ending : not (has is_ending q) ≡ true

pub open_keeps : (p : Plan) (q : Record) → open_breach p q ≡ None → OpenKeeps p q
open_keeps p q h =
    let a = kept (boot_right p q) rules.Bootstrapping _ h in
    let b = kept (offer_kept p q) rules.Offer _ a.1 in
    let c = kept (conn_right p q) rules.Connections _ b.1 in
    let d = kept (closes_right p q) rules.Closes _ c.1 in
    let e = kept (one_live p q) rules.OneLive _ d.1 in
    let f = kept (not (from_the_start q) || starts_kept p q) rules.Starts _ e.1 in
    let g = kept (are_endpoints_kept p q) rules.Endpoints _ f.1 in
    let i = kept (are_phases_kept p q) rules.Phases _ g.1 in
    let j = kept (not (has is_ending q)) rules.Ending None i.1 in
    record {
      boot = a.0;
      offer = b.0;
      connections = c.0;
      closes = d.0;
      one_live = e.0;
      starts = f.0;
      endpoints = g.0;
      phases = i.0;
      ending = j.0;
    }

-- a settled prefix that breaks no rule while the run goes on is right
open_kept : (p : Plan) (q : Record) → open_breach p q ≡ None → open_right p q ≡ true
open_kept p q h =
    let k = open_keeps p q h in
    let held = both (not (from_the_start q) || endpoints_right_late p q) (not (in_service q) || endpoints_right p q) k.endpoints in
    let started = or_both (not (from_the_start q)) (starts_kept p q) (endpoints_right_late p q) k.starts held.0 in
    and _ _ (and _ _ (and _ _ (and _ _ k.boot k.offer) (and _ _ k.connections k.closes)) (and _ _ k.one_live started))
    (and _ _ held.1 (and _ _ k.phases k.ending))

pub settled_kept : (p : Plan) (q : Record) → settled_breach_by (boot_right p q) (conn_right p q) p q ≡ None → settled_right p q ≡ true
settled_kept p q h = elim (cases_Bool (has_ended p q)) [
  | inl y ↦ (let g : unless (ended_right p q) rules.Ended None ≡ None = rw (y) at h in rw (y) ((kept (ended_right p q) rules.Ended None g).0))
  | inr n ↦ (let g : open_breach p q ≡ None = rw (n) at h in rw (n) (open_kept p q g))
]

-- what a settled prefix keeps that breaks no rule
pub record StepKeeps (p : Plan) (q : Record) : Type 0 where
  pub settled : settled_right p q ≡ true
  pub fails : fails_right p q ≡ true
  pub one_ask : one_ask p q ≡ true
  pub passed : (not (waits_are_over p q) || passed_right p q) ≡ true
  pub tested : (not (ends_tested p q) || tested_right p q) ≡ true
  pub last_step : (not (waits_are_over p q) || last_step_right p (before_runtimes q)) ≡ true

pub step_keeps : (p : Plan) (q : Record) → step_breach p q ≡ None → StepKeeps p q
step_keeps p q h =
    let a = neither (settled_breach_by (boot_right p q) (conn_right p q) p q) _ h in
    let b = kept (fails_right p q) rules.Fails _ a.1 in
    let c = kept (one_ask p q) rules.OneAsk _ b.1 in
    let d = kept (not (waits_are_over p q) || passed_right p q) rules.Served _ c.1 in
    let e = kept (not (ends_tested p q) || tested_right p q) rules.Tested _ d.1 in
    let f = kept (not (waits_are_over p q) || last_step_right p (before_runtimes q)) rules.LastStep None e.1 in
    record { settled = settled_kept p q a.0; fails = b.0; one_ask = c.0; passed = d.0; tested = e.0; last_step = f.0 }

-- where no rule is broken at any place, the record is right
pub right_from_none : (p : Plan) (r : Record) → breach_of p r ≡ None → is_right p r ≡ true
right_from_none p r h =
    let cut = neither (breach_below p r) (at (length r) (step_breach p r)) h in
    let last = step_keeps p r (no_rule (length r) (step_breach p r) cut.1) in
    let each = λ (test : Entry → Record → Bool) (f : (e : Entry) (b : Record) → entry_breach p e b ≡ None → test e b ≡ true). entries p test f r cut.0 in
    let settled = λ (test : Record → Bool) (f : (q : Record) → step_breach p q ≡ None → test q ≡ true). earlier p test f r cut.0 in
    and _ _
    (and _ _
    (and _ _ (and _ _ (each (event_fits p) (λ e b g. (entry_keeps p e b g).fits)) (each (start_due p) (λ e b g. (entry_keeps p e b g).start_due)))
    (and _ _ last.settled (settled (settled_right p) (λ q g. (step_keeps p q g).settled))))
    (and _ _
    (and _ _ (each (ask_due p) (λ e b g. (entry_keeps p e b g).ask_due))
    (and _ _ last.fails (settled (fails_right p) (λ q g. (step_keeps p q g).fails))))
    last.passed))
    (and _ _
    (and _ _
    (and _ _
    (and _ _ (and _ _ (each (boot_due p) (λ e b g. (entry_keeps p e b g).boot_due)) (each try_due (λ e b g. (entry_keeps p e b g).try_due)))
    (each retry_due (λ e b g. (entry_keeps p e b g).retry_due)))
    (and _ _ (and _ _ last.one_ask (settled (one_ask p) (λ q g. (step_keeps p q g).one_ask))) last.tested))
    (and _ _ (and _ _ (each (close_once p) (λ e b g. (entry_keeps p e b g).close_once)) last.last_step)
    (each every_moment_right (λ e b g. (entry_keeps p e b g).moment))))
    (and _ _
    (and _ _ (each (start_known p) (λ e b g. (entry_keeps p e b g).start_known)) (each (ask_known p) (λ e b g. (entry_keeps p e b g).ask_known)))
    (each (connection_known p) (λ e b g. (entry_keeps p e b g).connection_known))))

open_clear : (p : Plan) (q : Record) → open_right p q ≡ true → open_breach p q ≡ None
open_clear p q h =
    let halves = both _ _ h in
    let left = both _ _ halves.0 in
    let first = both _ _ left.0 in
    let begun = both (boot_right p q) (offer_kept p q) first.0 in
    let joined = both (conn_right p q) (closes_right p q) first.1 in
    let second = both (one_live p q) _ left.1 in
    let started = from_both (not (from_the_start q)) (starts_kept p q) (endpoints_right_late p q) second.1 in
    let right = both (not (in_service q) || endpoints_right p q) _ halves.1 in
    let last = both (are_phases_kept p q) (not (has is_ending q)) right.1 in
    let held : are_endpoints_kept p q ≡ true = and _ _ started.1 right.0 in
    rw (begun.0, begun.1, joined.0, joined.1, second.0, started.0, held, last.0, last.1)

settled_clear : (p : Plan) (q : Record) → settled_right p q ≡ true → settled_breach_by (boot_right p q) (conn_right p q) p q ≡ None
settled_clear p q h = elim (cases_Bool (has_ended p q)) [
  | inl y ↦ (let g : ended_right p q ≡ true = rw (y) at h in rw (y, g))
  | inr n ↦ (let g : open_right p q ≡ true = rw (n) at h in rw (n) (open_clear p q g))
]

pub step_clear : (p : Plan) (q : Record) → StepKeeps p q → step_breach p q ≡ None
step_clear p q k = rw (settled_clear p q k.settled, k.fails, k.one_ask, k.passed, k.tested, k.last_step)

-- what each entry keeps, and what stands before each event
record AllKeep (p : Plan) (q : Record) : Type 0 where
  fits : each_entry (event_fits p) q ≡ true
  start_due : each_entry (start_due p) q ≡ true
  ask_due : each_entry (ask_due p) q ≡ true
  boot_due : each_entry (boot_due p) q ≡ true
  try_due : each_entry try_due q ≡ true
  retry_due : each_entry retry_due q ≡ true
  close_once : each_entry (close_once p) q ≡ true
  moment : each_entry every_moment_right q ≡ true
  start_known : each_entry (start_known p) q ≡ true
  ask_known : each_entry (ask_known p) q ≡ true
  connection_known : each_entry (connection_known p) q ≡ true
  settled : each_earlier (settled_right p) q ≡ true
  fails : each_earlier (fails_right p) q ≡ true
  one_ask : each_earlier (one_ask p) q ≡ true

front : (p : Plan) (e : Entry) (b : Record) → AllKeep p (e ∷ b) → EntryKeeps p e b
front p e b k = record {
  fits = (both _ _ k.fits).0;
  start_due = (both _ _ k.start_due).0;
  ask_due = (both _ _ k.ask_due).0;
  boot_due = (both _ _ k.boot_due).0;
  try_due = (both _ _ k.try_due).0;
  retry_due = (both _ _ k.retry_due).0;
  close_once = (both _ _ k.close_once).0;
  moment = (both _ _ k.moment).0;
  start_known = (both _ _ k.start_known).0;
  ask_known = (both _ _ k.ask_known).0;
  connection_known = (both _ _ k.connection_known).0;
}

behind : (p : Plan) (e : Entry) (b : Record) → AllKeep p (e ∷ b) → each_earlier (settled_right p) b ≡ true → each_earlier (fails_right p) b ≡ true
    → each_earlier (one_ask p) b ≡ true → AllKeep p b
behind p e b k settled fails one_ask = record {
  fits = (both _ _ k.fits).1;
  start_due = (both _ _ k.start_due).1;
  ask_due = (both _ _ k.ask_due).1;
  boot_due = (both _ _ k.boot_due).1;
  try_due = (both _ _ k.try_due).1;
  retry_due = (both _ _ k.retry_due).1;
  close_once = (both _ _ k.close_once).1;
  moment = (both _ _ k.moment).1;
  start_known = (both _ _ k.start_known).1;
  ask_known = (both _ _ k.ask_known).1;
  connection_known = (both _ _ k.connection_known).1;
  settled = settled;
  fails = fails;
  one_ask = one_ask;
}

-- an event comes only while the run goes on
pub goes_on : (ended row : Bool) → (not ended && row) ≡ true → ended ≡ false
goes_on true row h = absurd (false≢true h)
goes_on false row h = refl

no_parts : (w t e : Bool) → ((w || t) || e) ≡ false → (w ≡ false) × (t ≡ false)
no_parts true t e h = absurd (false≢true (sym h))
no_parts false true e h = absurd (false≢true (sym h))
no_parts false false e h = (refl, refl)

pub unasked : (b c : Bool) → b ≡ false → (not b || c) ≡ true
unasked b c h = rw (h)

pub before_event : (p : Plan) (b : Record) → has_ended p b ≡ false → settled_right p b ≡ true → fails_right p b ≡ true → one_ask p b ≡ true → StepKeeps p b
before_event p b on settled fails one_ask =
    let parts = no_parts (waits_are_over p b) (ends_tested p b) (has_ended_early p b) on in
    record {
      settled = settled;
      fails = fails;
      one_ask = one_ask;
      passed = unasked (waits_are_over p b) (passed_right p b) parts.0;
      tested = unasked (ends_tested p b) (tested_right p b) parts.1;
      last_step = unasked (waits_are_over p b) (last_step_right p (before_runtimes b)) parts.0;
    }

none_below : (p : Plan) (q : Record) → AllKeep p q → breach_below p q ≡ None
none_below p [] k = refl
none_below p (Got e ∷ b) k =
    let entry = front p (Got e) b k in
    let settled = both (settled_right p b) (each_earlier (settled_right p) b) k.settled in
    let fails = both (fails_right p b) (each_earlier (fails_right p) b) k.fails in
    let one = both (one_ask p b) (each_earlier (one_ask p) b) k.one_ask in
    let on = goes_on (has_ended p b) (fits_row p b e) entry.fits in
    nowhere _ _ (none_below p b (behind p (Got e) b k settled.1 fails.1 one.1))
    (nowhere _ _ (no_place (length b) _ (step_clear p b (before_event p b on settled.0 fails.0 one.0)))
    (no_place (length b + 1) _ (entry_clear p (Got e) b entry)))
none_below p (Told a ∷ b) k =
    nowhere _ _ (none_below p b (behind p (Told a) b k k.settled k.fails k.one_ask))
    (no_place (length b + 1) _ (entry_clear p (Told a) b (front p (Told a) b k)))

-- where the record is right, no rule is broken at any place
pub none_from_right : (p : Plan) (r : Record) → is_right p r ≡ true → breach_of p r ≡ None
none_from_right p r h =
    let halves = both (is_right_by_words p r) (is_stronger p r) h in
    let words = both _ _ halves.0 in
    let one = both _ _ words.0 in
    let starts = both _ _ one.0 in
    let settled = both (settled_right p r) _ one.1 in
    let two = both _ _ words.1 in
    let passed = two.1 in
    let asks = both _ _ two.0 in
    let fails = both (fails_right p r) _ asks.1 in
    let strong = both _ _ halves.1 in
    let beginning = both _ _ strong.0 in
    let boots = both _ _ beginning.0 in
    let retries = both _ _ boots.0 in
    let tries = both _ _ retries.0 in
    let asked = both _ _ boots.1 in
    let ask = both (one_ask p r) _ asked.0 in
    let ends = both _ _ beginning.1 in
    let closes = both _ _ ends.0 in
    let known = both _ _ strong.1 in
    let services = both _ _ known.0 in
    let below : breach_below p r ≡ None = none_below p r (record {
      fits = starts.0;
      start_due = starts.1;
      ask_due = asks.0;
      boot_due = tries.0;
      try_due = tries.1;
      retry_due = retries.1;
      close_once = closes.0;
      moment = ends.1;
      start_known = services.0;
      ask_known = services.1;
      connection_known = known.1;
      settled = settled.1;
      fails = fails.1;
      one_ask = ask.1;
    }) in
    nowhere _ _ below (no_place (length r) _ (step_clear p r (record {
      settled = settled.0;
      fails = fails.0;
      one_ask = ask.0;
      passed = passed;
      tested = asked.1;
      last_step = closes.1;
    })))
