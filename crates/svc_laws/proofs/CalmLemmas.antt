-- Where a record alone is right as the run goes on, what is told after it changes neither what is started, what begins nor what is waited for.
use Rattle.std.proofs.Common.{ℕ, Bool, true, false, not, ◌&&◌, ◌||◌, ◌==◌, List, ◌∷◌, [], inl, inr, ◌≡◌, ◌∙◌, refl, sym, ap, subst, MatchBool, if◌then◌else◌}
use Rattle.std.specs.Bool.{OnTrue}
use Rattle.std.proofs.lemmas.Bool.{and_parts, and_from, and_cases, or_parts, or_right, or_left, or_from, or_cases, eqb-true, OnTrue_at, cases_Bool, false≢true}
use Rattle.svc_base.proofs.Logic.{clash, apart_from, false_where}
use Rattle.svc_graph.specs.declared.plan.Kind.TheVariants.{Bootstrap}
use Rattle.svc_record.specs.declared.plan.Plan.{Plan}
use Rattle.svc_record.specs.declared.action.Action.{Action}
use Rattle.svc_record.specs.declared.action.Action.TheVariants.{Start}
use Rattle.svc_record.specs.declared.entry.Entry.{Entry}
use Rattle.svc_record.specs.declared.entry.Entry.TheVariants.{Got, Told}
use Rattle.svc_record.specs.Record.{Record, has, times, tell, once_if, is_running, is_bootstrap, is_bootstrap_complete, from_the_start, EachEntry}
use Rattle.svc_record.specs.Plans.{has_kind}
use Rattle.svc_record.specs.Asks.{is_daemonize}
use Rattle.svc_record.specs.AskRules.{FailsRight}
use Rattle.svc_record.specs.Starts.{is_start, is_started, start_due, start_known}
use Rattle.svc_record.specs.Boot.{BootRight, is_side_child, is_notify, is_good_message, may_begin, has_begun, boots, runs, fork_first, start_after_boot, receive_right, complete_right}
use Rattle.svc_record.specs.Drain.{waits_are_over}
use Rattle.svc_record.specs.Ends.{has_ended, has_ended_early, ends_tested, TestedRight}
use Rattle.svc_record.specs.Fits.{event_fits}
use Rattle.svc_record.specs.Facts.{Settled}
use Rattle.svc_record.specs.Right.{Right, EndedRight, OpenRight, SettledRight}
use Rattle.svc_record.proofs.SettledPrefixes.{settled_at}
use Rattle.svc_laws.proofs.PrefixLemmas.{entries-behind, entries-settled}
use Rattle.svc_laws.proofs.ToldLemmas.{kept, entries_before, has_more, has_same, counted_there}
use Rattle.svc_laws.proofs.WaitLemmas.{SameWaits, same-waits, passed-same}
use Rattle.svc_laws.proofs.StartLemmas.{CompleteBefore, any_service, started_known, started-same, begun-same}

-- the run goes on, and the record is right as it is
pub record IsCalm (p : Plan) (b : Record) : Type 0 where
  pub unpassed : waits_are_over p b ≡ false
  pub untested : ends_tested p b ≡ false
  pub early : has_ended_early p b ≡ false
  pub open_ : OpenRight p b
  pub fails : FailsRight p b

-- a settled prefix of a right record that begins with such a record, and has what was told after it
pub record Around (p : Plan) (r b : Record) (told : List Action) : Type 0 where
  pub right : Right p r
  pub calm : IsCalm p b
  pub settled : Settled (tell b told) r

pub open_at : (p : Plan) (r q : Record) → Right p r → Settled q r → has_ended p q ≡ false → OpenRight p q
open_at p r q right s on = subst (λ x. MatchBool x (EndedRight p q) (OpenRight p q)) on (settled_at (SettledRight p) r q right.settled s)

-- the parts of a right beginning
pub record BootParts (p : Plan) (q : Record) : Type 0 where
  pub fork : once_if p.daemon is_daemonize q ≡ true
  pub begins : once_if (has_begun p q) is_bootstrap q ≡ true
  pub notify : once_if (boots p q && (p.daemon && p.wait)) is_notify q ≡ true
  pub receive : receive_right p q ≡ true
  pub complete : complete_right p q ≡ true
  pub runs : once_if (runs p q) is_running q ≡ true

pub boot_parts : (p : Plan) (q : Record) → BootRight p q → BootParts p q
boot_parts p q boot =
    let all = and_parts _ _ boot.entries in
    let first = and_parts _ _ all.0 in
    let begin = and_parts _ _ first.0 in
    let handed = and_parts _ _ first.1 in
    let last = and_parts _ _ all.1 in
    record { fork = begin.0; begins = begin.1; notify = handed.0; receive = handed.1; complete = last.0; runs = last.1 }

-- two counts by one condition
pub once_same : (h g : Bool) (m n : ℕ) → h ≡ g → (m == (if h then 1 else 0)) ≡ true → (n == (if g then 1 else 0)) ≡ true → m ≡ n
once_same h g m n e x y = eqb-true m _ x ∙ (ap (λ b. if b then 1 else 0) e ∙ sym (eqb-true n _ y))

once_one : (h : Bool) (n : ℕ) → h ≡ true → (n == (if h then 1 else 0)) ≡ true → n ≡ 1
once_one h n y e = eqb-true n _ e ∙ ap (λ b. if b then 1 else 0) y

-- where bootstrapping has begun, it was told
begun_told : (p : Plan) (b : Record) → OpenRight p b → has_begun p b ≡ true → has is_bootstrap b ≡ true
begun_told p b open_ begun = counted_there is_bootstrap b (once_one (has_begun p b) (times is_bootstrap b) begun (boot_parts p b open_.boot).begins)

begun_untested : (p : Plan) (b : Record) → IsCalm p b → has_begun p b ≡ true → p.test ≡ false
begun_untested p b calm begun = elim (and_cases p.test (has is_bootstrap b) calm.untested) [
  | inl plain ↦ plain
  | inr none ↦ absurd (clash (has is_bootstrap b) (begun_told p b calm.open_ begun) none)
]

pub complete_times : (p : Plan) (b q : Record) → BootRight p q → BootRight p b → has_begun p q ≡ has_begun p b → has is_good_message q ≡ has is_good_message b
    → times is_bootstrap_complete q ≡ times is_bootstrap_complete b
complete_times p b q now_right right begun good = once_same _ _ (times is_bootstrap_complete q) (times is_bootstrap_complete b)
    (ap (λ x. (x && not p.test) && (not p.upgrade || has is_good_message q)) begun ∙ ap (λ x. (has_begun p b && not p.test) && (not p.upgrade || x)) good)
    (boot_parts p q now_right).complete (boot_parts p b right).complete

open_now : (p : Plan) (r b : Record) (told : List Action) → Around p r b told → ends_tested p (tell b told) ≡ false → OpenRight p (tell b told)
open_now p r b told w untested = open_at p r (tell b told) w.right w.settled (or_from _ _ (or_from _ _
    (passed-same p b (tell b told) (same-waits p b told) ∙ w.calm.unpassed) untested)
    (kept (has_ended_early p) (λ a q. refl) told b ∙ w.calm.early))

pub good-same : (b : Record) (told : List Action) → has is_good_message (tell b told) ≡ has is_good_message b
good-same b told = kept (has is_good_message) (λ a q. refl) told b

-- where bootstrapping has begun in both, it is complete in both or in none
pub complete-same : (p : Plan) (b : Record) (told : List Action) → BootRight p (tell b told) → BootRight p b → has_begun p (tell b told) ≡ has_begun p b
    → has is_bootstrap_complete (tell b told) ≡ has is_bootstrap_complete b
complete-same p b told now_right right begun = has_same is_bootstrap_complete is_bootstrap_complete (λ e y. y) told b
    (complete_times p b (tell b told) now_right right begun (good-same b told))

complete_before : (p : Plan) (r b : Record) (told : List Action) → Around p r b told → CompleteBefore p b (tell b told)
complete_before p r b told w d is_boot started h =
    let q : Record = tell b told in
    let P : Entry → Record → Type 0 = λ e before. start_known p e before ≡ true in
    let low = started_known p b d (entries_before P told b (entries-settled P r q w.right.stronger.known_starts w.settled)) started in
    let begun : has_begun p b ≡ true = or_right _ _ (any_service p (λ s. has_kind p Bootstrap s && is_started b s) d low (and_from _ _ is_boot started)) in
    let begun_now : has_begun p q ≡ true =
    or_right _ _ (any_service p (λ s. has_kind p Bootstrap s && is_started q s) d low
    (and_from _ _ is_boot (has_more (is_start d) told b started))) in
    let plain = begun_untested p b w.calm begun in
    let open_ = open_now p r b told w (ap (λ t. t && has is_bootstrap q) plain) in
    sym (complete-same p b told open_.boot w.calm.open_.boot (begun_now ∙ sym begun)) ∙ h

-- what is known of the settled prefix with what was told
pub record Known (p : Plan) (b q : Record) : Type 0 where
  pub before : IsCalm p b
  pub now_open : OpenRight p q
  pub waits : SameWaits p b q
  pub started : (s : ℕ) → is_started q s ≡ is_started b s
  pub begun : has_begun p q ≡ has_begun p b

tested_not : (p : Plan) (r b q : Record) → Right p r → Settled q r → IsCalm p b → (TestedRight p q → has_begun p b ≡ true) → ends_tested p q ≡ true → ⊥
tested_not p r b q right (inl same) calm begun y =
    let tested = OnTrue_at y (subst (λ z. OnTrue (ends_tested p z) (TestedRight p z)) (sym same) right.stronger.tested) in
    clash p.test (and_parts p.test (has is_bootstrap q) y).0 (begun_untested p b calm (begun tested))
tested_not p r b q right (inr s) calm begun y =
    let P : Entry → Record → Type 0 = λ e before. event_fits p e before ≡ true in
    let fit = (entries-behind P s.1.0 (Got s.0 ∷ q) (subst (EachEntry P) s.1.1 right.fits)).0 in
    let on = apart_from (has_ended p q) (and_parts (not (has_ended p q)) _ fit).0 in
    clash (ends_tested p q) y (or_parts (waits_are_over p q) (ends_tested p q) (or_parts _ (has_ended_early p q) on).0).1

untested : (p : Plan) (r b q : Record) → Right p r → Settled q r → IsCalm p b → (TestedRight p q → has_begun p b ≡ true) → ends_tested p q ≡ false
untested p r b q right s calm begun = false_where (ends_tested p q) (λ y. tested_not p r b q right s calm begun y)

-- where services were started the run may run
both_more : (m n e c d : Bool) → (m ≡ true → n ≡ true) → (c ≡ true → d ≡ true) → (m && (not e || c)) ≡ true → (n && (not e || d)) ≡ true
both_more m n e c d f g h = let parts = and_parts m (not e || c) h in
    and_from n (not e || d) (f parts.0) (elim (or_cases (not e) c parts.1) [ inl x ↦ or_left (not e) d x | inr y ↦ or_right (not e) d (g y) ])

child_more : (d x y : Bool) → (not d || y) ≡ true → (not d || (x || y)) ≡ true
child_more true x y h = or_right x y h
child_more false x y h = refl

runs_more : (p : Plan) (e : Entry) (q : Record) → runs p q ≡ true → runs p (e ∷ q) ≡ true
runs_more p e q h = both_more (may_begin p q) (may_begin p (e ∷ q)) p.eager (has is_bootstrap_complete q) (has is_bootstrap_complete (e ∷ q))
    (child_more p.daemon (is_side_child e) (has is_side_child q)) (or_right (is_bootstrap_complete e) (has is_bootstrap_complete q)) h

child_first : (d y : Bool) → ((not d || false) || y) ≡ true → (not d || y) ≡ true
child_first true y h = h
child_first false y h = refl

start_runs : (p : Plan) (q : Record) (s : ℕ) → EachEntry (λ e before. fork_first p e before ≡ true) q
    → EachEntry (λ e before. start_after_boot p e before ≡ true) q
    → is_started q s ≡ true → runs p q ≡ true
start_runs p [] s fork starts h = absurd (false≢true h)
start_runs p (Told (Start t) ∷ q) s fork starts h =
    runs_more p (Told (Start t)) q
    (and_from (may_begin p q) (not p.eager || has is_bootstrap_complete q) (child_first p.daemon (has is_side_child q) fork.0) starts.0)
start_runs p (Told a ∷ q) s fork starts h = runs_more p (Told a) q (start_runs p q s fork.1 starts.1 h)
start_runs p (Got e ∷ q) s fork starts h = runs_more p (Got e) q (start_runs p q s fork.1 starts.1 h)

-- where it doesn't run, it may not
idle_runs : (p : Plan) (b : Record) → OpenRight p b → from_the_start b ≡ false → runs p b ≡ false
idle_runs p b open_ idle = false_where (runs p b) (λ y. clash (has is_running b)
    (counted_there is_running b (once_one (runs p b) (times is_running b) y (boot_parts p b open_.boot).runs)) idle)

-- what was started lets the run run
pub started_runs : (p : Plan) (b : Record) (s : ℕ) → OpenRight p b → is_started b s ≡ true → from_the_start b ≡ true
started_runs p b s open_ h = elim (cases_Bool (from_the_start b)) [
  | inl y ↦ y
  | inr idle ↦ absurd (clash (runs p b) (start_runs p b s open_.boot.fork open_.boot.starts h) (idle_runs p b open_ idle))
]

-- with no fork awaited, what may not run yet waits for bootstrapping, which has begun
waits_eager : (m e c : Bool) → m ≡ true → (m && (not e || c)) ≡ false → (e ≡ true) × (c ≡ false)
waits_eager true true false h g = (refl, refl)
waits_eager true true true h g = absurd (false≢true (sym g))
waits_eager true false c h g = absurd (false≢true (sym g))
waits_eager false e c h g = absurd (false≢true h)

eager_begun : (p : Plan) (q : Record) → p.eager ≡ true → may_begin p q ≡ true → has_begun p q ≡ true
eager_begun p q e m = or_left (p.eager && may_begin p q) _ (and_from p.eager (may_begin p q) e m)

begin-same : (p : Plan) (b : Record) (told : List Action) → may_begin p (tell b told) ≡ may_begin p b
begin-same p b told = kept (may_begin p) (λ a q. refl) told b

idle_untested : (p : Plan) (r b : Record) (told : List Action) → Around p r b told → from_the_start b ≡ false → ends_tested p (tell b told) ≡ false
idle_untested p r b told w idle = untested p r b (tell b told) w.right w.settled w.calm (λ tested.
    let forked = sym (begin-same p b told) ∙ tested.forked in
    let eager = waits_eager (may_begin p b) p.eager (has is_bootstrap_complete b) forked (idle_runs p b w.calm.open_ idle) in
    eager_begun p b eager.0 forked)

-- so nothing is started where it doesn't run
idle_starts : (p : Plan) (r b : Record) (told : List Action) → Around p r b told → from_the_start b ≡ false → (s : ℕ) → is_started (tell b told) s ≡ false
idle_starts p r b told w idle s =
    let q : Record = tell b told in
    let open_ = open_now p r b told w (idle_untested p r b told w idle) in
    false_where (is_started q s) (λ y.
    let run = start_runs p q s open_.boot.fork open_.boot.starts y in
    let parts = and_parts (may_begin p q) (not p.eager || has is_bootstrap_complete q) run in
    let forked = sym (begin-same p b told) ∙ parts.0 in
    let eager = waits_eager (may_begin p b) p.eager (has is_bootstrap_complete b) forked (idle_runs p b w.calm.open_ idle) in
    let same = complete-same p b told open_.boot w.calm.open_.boot (eager_begun p q eager.0 parts.0 ∙ sym (eager_begun p b eager.0 forked)) in
    let done : has is_bootstrap_complete q ≡ true =
    elim (or_cases (not p.eager) (has is_bootstrap_complete q) parts.1) [ inl plain ↦ absurd (clash p.eager eager.0 (apart_from p.eager plain)) | inr c ↦ c ] in
    clash (has is_bootstrap_complete q) done (same ∙ eager.1))

idle_before : (b : Record) (told : List Action) (s : ℕ) → is_started (tell b told) s ≡ false → is_started b s ≡ false
idle_before b told s none = false_where (is_started b s) (λ y. clash (is_started (tell b told) s) (has_more (is_start s) told b y) none)

started_around : (p : Plan) (r b : Record) (told : List Action) → Around p r b told → (s : ℕ) → is_started (tell b told) s ≡ is_started b s
started_around p r b told w = elim (cases_Bool (from_the_start b)) [
  | inl runs ↦ (let Due : Entry → Record → Type 0 = λ e before. start_due p e before ≡ true in
      let IsKnown : Entry → Record → Type 0 = λ e before. start_known p e before ≡ true in
      started-same p b (OnTrue_at runs w.calm.open_.starts) told b (complete_before p r b told w) (λ d. refl) (λ d. refl) (λ d. refl) (λ d. refl)
      (entries-settled Due r (tell b told) w.right.starts w.settled) (entries-settled IsKnown r (tell b told) w.right.stronger.known_starts w.settled))
  | inr idle ↦ λ s. (let none = idle_starts p r b told w idle s in none ∙ sym (idle_before b told s none))
]

pub known-around : (p : Plan) (r b : Record) (told : List Action) → Around p r b told → Known p b (tell b told)
known-around p r b told w =
    let q : Record = tell b told in
    let started = started_around p r b told w in
    let begun = begun-same p b q started (kept (has is_side_child) (λ a x. refl) told b) in
    record {
      before = w.calm;
      now_open = open_now p r b told w (untested p r b q w.right w.settled w.calm (λ tested. sym begun ∙ tested.begun));
      waits = same-waits p b told;
      started = started;
      begun = begun;
    }

-- whether the run runs is the same
pub running-same : (p : Plan) (b : Record) (told : List Action) → Known p b (tell b told) → has is_running (tell b told) ≡ has is_running b
running-same p b told k =
    let q : Record = tell b told in
    let same = complete-same p b told k.now_open.boot k.before.open_.boot k.begun in
    let may : runs p q ≡ runs p b = ap (λ m. m && (not p.eager || has is_bootstrap_complete q)) (begin-same p b told)
    ∙ ap (λ c. may_begin p b && (not p.eager || c)) same in
    has_same is_running is_running (λ e y. y) told b
    (once_same (runs p q) (runs p b) (times is_running q) (times is_running b) may (boot_parts p q k.now_open.boot).runs
    (boot_parts p b k.before.open_.boot).runs)
