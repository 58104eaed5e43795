-- No service starts where each due one was started before, whatever else is told.
use Rattle.std.proofs.Common.{ℕ, Bool, true, false, not, ◌&&◌, ◌||◌, ◌==◌, ◌+◌, ◌≤◌, ◌<◌, zero, suc, inl, inr, List, [], ◌∷◌, ◌≡◌, ◌∙◌, refl, sym, ap, subst, arith, if◌then◌else◌}
use Rattle.std.specs.List.{list_any, range_with_len}
use Rattle.std.proofs.lemmas.Bool.{cases_eq, and_parts, or_left, or_right, or_cases, eqb-true, ltb-true, false≢true}
use Rattle.svc_base.proofs.Logic.{clash, bool_same, apart_from}
use Rattle.svc_base.proofs.NumberSetLemmas.{all-grows}
use Rattle.svc_graph.specs.declared.plan.Kind.TheVariants.{Plain, Bootstrap}
use Rattle.svc_record.specs.declared.plan.Plan.{Plan}
use Rattle.svc_record.specs.declared.action.Action.{Action}
use Rattle.svc_record.specs.declared.action.Action.TheVariants.{Start}
use Rattle.svc_record.specs.declared.entry.Entry.TheVariants.{Got, Told}
use Rattle.svc_record.specs.Record.{Record, has, tell, is_bootstrap_complete, EachEntry}
use Rattle.svc_record.specs.Plans.{service_count, services, depends, has_kind}
use Rattle.svc_record.specs.Failed.{has_failed}
use Rattle.svc_record.specs.Starts.{is_start, is_ready_event, is_ended_event, is_started, is_ready, is_due, start_due, start_known, StartsRight}
use Rattle.svc_record.specs.Boot.{is_side_child, has_begun}
use Rattle.svc_laws.proofs.ToldLemmas.{entries_before, has_more, counted_there}

pub any_in_range : (test : ℕ → Bool) (n a s : ℕ) → a ≤ s → s < a + n → test s ≡ true → list_any test (range_with_len a n) ≡ true
any_in_range test zero a s low high y = absurd (omega arith)
any_in_range test (suc n) a s low high y = elim (cases_eq a s) [
  | inl same ↦ or_left _ _ (subst (λ x. test x ≡ true) (sym same) y)
  | inr other ↦ or_right _ _ (any_in_range test n (a + 1) s (omega (arith, other)) (omega arith) y)
]

pub any_service : (p : Plan) (test : ℕ → Bool) (s : ℕ) → s < service_count p → test s ≡ true → list_any test (services p) ≡ true
any_service p test s low y = any_in_range test (service_count p) 0 s (omega arith) (omega arith) y

pub any_grows : (f g : ℕ → Bool) (xs : List ℕ) → ((s : ℕ) → f s ≡ true → g s ≡ true) → list_any f xs ≡ true → list_any g xs ≡ true
any_grows f g [] grow h = h
any_grows f g (x ∷ xs) grow h = elim (or_cases (f x) (list_any f xs) h) [
  | inl here ↦ or_left (g x) (list_any g xs) (grow x here)
  | inr past ↦ or_right (g x) (list_any g xs) (any_grows f g xs grow past)
]

-- what was started is a service
pub started_known : (p : Plan) (q : Record) (s : ℕ) → EachEntry (λ e before. start_known p e before ≡ true) q → is_started q s ≡ true → s < service_count p
started_known p [] s known h = absurd (false≢true h)
started_known p (Told (Start t) ∷ q) s known h = elim (or_cases (t == s) (is_started q s) h) [
  | inl here ↦ subst (λ x. x < service_count p) (eqb-true t s here) (ltb-true t (service_count p) known.0)
  | inr past ↦ started_known p q s known.1 past
]
started_known p (Told a ∷ q) s known h = started_known p q s known.1 h
started_known p (Got e ∷ q) s known h = started_known p q s known.1 h

-- what decides whether services are ready is in both the same, but for the end of bootstrapping
record SameReady (p : Plan) (b q : Record) : Type 0 where
  ready : (d : ℕ) → has (is_ready_event d) q ≡ has (is_ready_event d) b
  ended : (d : ℕ) → has (is_ended_event d) q ≡ has (is_ended_event d) b
  failed : (d : ℕ) → has_failed p q d ≡ has_failed p b d
  started : (d : ℕ) → is_started q d ≡ is_started b d

-- where a started service that bootstraps was complete already
abbrev pub CompleteBefore : Plan → Record → Record → Type 0
CompleteBefore p b q = (d : ℕ) → has_kind p Bootstrap d ≡ true → is_started b d ≡ true → has is_bootstrap_complete q ≡ true → has is_bootstrap_complete b ≡ true

-- `is_ready` by what it looks at
ready_by : Bool → Bool → Bool → Bool → Bool → Bool → Bool → Bool
ready_by ready ended failed started plain boot complete = ((ready || ended) || failed) || (started && (plain || (boot && complete)))

complete_back : (r e f s plain boot x y : Bool) → (boot ≡ true → s ≡ true → x ≡ true → y ≡ true) → ready_by r e f s plain boot x ≡ true
    → ready_by r e f s plain boot y ≡ true
unfolding ready_by
complete_back true e f s plain boot x y back h = refl
complete_back false true f s plain boot x y back h = refl
complete_back false false true s plain boot x y back h = refl
complete_back false false false false plain boot x y back h = absurd (false≢true h)
complete_back false false false true true boot x y back h = refl
complete_back false false false true false false x y back h = absurd (false≢true h)
complete_back false false false true false true x y back h = back refl refl h

ready_back : (p : Plan) (b q : Record) (d : ℕ) → SameReady p b q → CompleteBefore p b q → is_ready p q d ≡ true → is_ready p b d ≡ true
unfolding ready_by
ready_back p b q d same complete h =
    let P : Bool → Bool → Bool → Bool → Type 0 = λ r e f s. ready_by r e f s (has_kind p Plain d) (has_kind p Bootstrap d)
    (has is_bootstrap_complete q) ≡ true in
    let h1 = subst (λ r. P r (has (is_ended_event d) q) (has_failed p q d) (is_started q d)) (same.ready d) h in
    let h2 = subst (λ e. P (has (is_ready_event d) b) e (has_failed p q d) (is_started q d)) (same.ended d) h1 in
    let h3 = subst (λ f. P (has (is_ready_event d) b) (has (is_ended_event d) b) f (is_started q d)) (same.failed d) h2 in
    let h4 = subst (λ s. P (has (is_ready_event d) b) (has (is_ended_event d) b) (has_failed p b d) s) (same.started d) h3 in
    complete_back (has (is_ready_event d) b) (has (is_ended_event d) b) (has_failed p b d) (is_started b d) (has_kind p Plain d) (has_kind p Bootstrap d)
    (has is_bootstrap_complete q) (has is_bootstrap_complete b) (complete d) h4

-- a service that is due was started before
due_started : (p : Plan) (b : Record) (s : ℕ) → StartsRight p b → s < service_count p → is_due p b s ≡ true → is_started b s ≡ true
due_started p b s starts low due = counted_there (is_start s) b (starts.each s low ∙ ap (λ x. if x then 1 else 0) due)

-- nothing that is told starts a service, where before it each due one was started
started_walk : (p : Plan) (b : Record) → StartsRight p b → (told : List Action) (q : Record) → CompleteBefore p b (tell q told) → SameReady p b q
    → EachEntry (λ e before. start_due p e before ≡ true) (tell q told) → EachEntry (λ e before. start_known p e before ≡ true) (tell q told)
    → (s : ℕ) → is_started (tell q told) s ≡ is_started b s
started_walk p b starts [] q complete same due known s = same.started s
started_walk p b starts (Start t ∷ more) q complete same due known s =
    let turn = and_parts (not (is_started q t)) (is_due p q t) (entries_before (λ e before. start_due p e before ≡ true) more (Told (Start t) ∷ q) due).0 in
    let low = ltb-true t (service_count p) (entries_before (λ e before. start_known p e before ≡ true) more (Told (Start t) ∷ q) known).0 in
    let back : CompleteBefore p b q = λ d kind started h. complete d kind started (has_more is_bootstrap_complete (Start t ∷ more) q h) in
    let was : is_started b t ≡ true = due_started p b t starts low
    (all-grows (is_ready p q) (is_ready p b) (depends p t) (λ d. ready_back p b q d same back) turn.1) in
    absurd (clash (is_started q t) (same.started t ∙ was) (apart_from (is_started q t) turn.0))
started_walk p b starts (a ∷ more) q complete same due known s =
    started_walk p b starts more (Told a ∷ q) complete record { ready = same.ready; ended = same.ended; failed = same.failed; started = same.started }
    due known s

pub started-same : (p : Plan) (b : Record) → StartsRight p b → (told : List Action) (q : Record) → CompleteBefore p b (tell q told)
    → ((d : ℕ) → has (is_ready_event d) q ≡ has (is_ready_event d) b) → ((d : ℕ) → has (is_ended_event d) q ≡ has (is_ended_event d) b)
    → ((d : ℕ) → has_failed p q d ≡ has_failed p b d) → ((d : ℕ) → is_started q d ≡ is_started b d)
    → EachEntry (λ e before. start_due p e before ≡ true) (tell q told) → EachEntry (λ e before. start_known p e before ≡ true) (tell q told)
    → (s : ℕ) → is_started (tell q told) s ≡ is_started b s
started-same p b starts told q complete ready ended failed started =
    started_walk p b starts told q complete record { ready = ready; ended = ended; failed = failed; started = started }

-- `has_begun` by what it looks at
begun_by : Plan → Bool → Bool → Bool
begun_by p child started = (p.eager && (not p.daemon || child)) || started

pub begun-same : (p : Plan) (b q : Record) → ((s : ℕ) → is_started q s ≡ is_started b s) → has is_side_child q ≡ has is_side_child b
    → has_begun p q ≡ has_begun p b
unfolding begun_by
begun-same p b q started child = ap (λ c. begun_by p c (any q)) child ∙ ap (λ x. begun_by p (has is_side_child b) x)
    (bool_same (any q) (any b) (any_grows (of q) (of b) (services p) (λ s h. subst (λ x. (has_kind p Bootstrap s && x) ≡ true) (started s) h))
    (any_grows (of b) (of q) (services p) (λ s h. subst (λ x. (has_kind p Bootstrap s && x) ≡ true) (sym (started s)) h)))
  where
    of : Record → ℕ → Bool
    of r s = has_kind p Bootstrap s && is_started r s

    any : Record → Bool
    any r = list_any (of r) (services p)
