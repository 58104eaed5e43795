-- What it says that the last event of a record doesn't fit, and that nothing else is broken there.
use Rattle.std.proofs.Common.{ℕ, suc, Bool, true, false, not, ◌&&◌, ◌||◌, ◌==◌, ◌+◌, ◌≤◌, ◌⊎◌, inl, inr, arith, eqb-true, List, [], ◌∷◌, ◌++◌, take, drop, length, ◌≡◌, refl, sym, ap, ◌∙◌, Option, None, Some, if◌then◌else◌}
use Rattle.std.proofs.lemmas.Bool.{false≢true, cases_Bool}
use Rattle.std.proofs.lemmas.List.{take-append-drop}
use Rattle.svc_record.specs.declared.plan.Plan.{Plan}
use Rattle.svc_record.specs.declared.entry.Entry.{Entry}
use Rattle.svc_record.specs.declared.entry.Entry.TheVariants.{Got, Told}
use Rattle.svc_record.specs.declared.event.Event.{Event}
use Rattle.svc_record.specs.declared.action.Action.{Action}
use Rattle.svc_record.specs.Record.{Record, has, from_the_start, before_runtimes}
use Rattle.svc_record.specs.Starts.{start_due, start_known}
use Rattle.svc_record.specs.AskRules.{ask_due, ask_known, fails_right}
use Rattle.svc_record.specs.Boot.{boot_right, boot_due, try_due}
use Rattle.svc_record.specs.Offer.{retry_due, one_ask}
use Rattle.svc_record.specs.Closes.{close_once, closes_right}
use Rattle.svc_record.specs.Descriptors.{one_live}
use Rattle.svc_record.specs.Connections.{conn_right, connection_known}
use Rattle.svc_record.specs.Drain.{waits_are_over, every_moment_right, is_ending}
use Rattle.svc_record.specs.Ends.{has_ended, ends_tested, tested_right}
use Rattle.svc_record.specs.Fits.{event_fits, fits}
use Rattle.svc_record.specs.Right.{ended_right, passed_right, last_step_right}
use Rattle.svc_record.proofs.Sound.{both}
use Rattle.svc_judge.specs.Settled.{offer_kept, starts_kept}
use Rattle.svc_judge.specs.declared.judging.Rule.{Rule}
use Rattle.svc_judge.specs.declared.judging.Rule.TheVariants as rules
use Rattle.svc_judge.specs.declared.judging.Breach.{Breach}
use Rattle.svc_judge.specs.Firsts.{first_of}
use Rattle.svc_judge.specs.Verdicts.{unless, at, entry_breach, are_endpoints_kept, are_phases_kept, open_breach, settled_breach_by, step_breach, place_breach, breach_below, breach_of}
use Rattle.svc_judge.specs.Tails.{tail_len, tail_rule, tail_breach, is_fits, stray_by, stray_breach, IsClosedRight}
use Rattle.svc_judge.proofs.VerdictLemmas.{nowhere, no_rule}
use Rattle.svc_judge.proofs.TailLemmas.{tail_is}

fits_is : (rule : Rule) → is_fits rule ≡ true → rule ≡ rules.Fits
fits_is rules.Fits h = refl
fits_is _ h = absurd (false≢true h)

-- the rule that is broken isn't `Fits`
Never : Option Rule → Type 0
Never x = x ≡ Some rules.Fits → ⊥

never : (b : Bool) (rule : Rule) (next : Option Rule) → is_fits rule ≡ false → Never next → Never (unless b rule next)
unfolding Never
never true rule next r f = f
never false rule next r f = λ h. let e : rule ≡ rules.Fits = cc in false≢true (sym r ∙ ap is_fits e)

none_never : Never None
unfolding Never
none_never = λ h. cc

first_never : (x y : Option Rule) → Never x → Never y → Never (first_of x y)
unfolding Never
first_never (Some rule) y f g = f
first_never None y f g = g

if_never : (c : Bool) (x y : Option Rule) → Never x → Never y → Never (if c then x else y)
if_never true x y f g = f
if_never false x y f g = g

rest_never : (p : Plan) (e : Entry) (q : Record) → Never (unless (start_due p e q) rules.StartDue
    (unless (ask_due p e q) rules.AskDue
    (unless (boot_due p e q) rules.BootDue
    (unless (try_due e q) rules.TryDue
    (unless (retry_due e q) rules.RetryDue
    (unless (close_once p e q) rules.CloseOnce
    (unless (every_moment_right e q) rules.Moment
    (unless (start_known p e q) rules.StartKnown
    (unless (ask_known p e q) rules.AskKnown (unless (connection_known p e q) rules.ConnectionKnown None))))))))))
rest_never p e q =
    never (start_due p e q) rules.StartDue _ refl
    (never (ask_due p e q) rules.AskDue _ refl
    (never (boot_due p e q) rules.BootDue _ refl
    (never (try_due e q) rules.TryDue _ refl
    (never (retry_due e q) rules.RetryDue _ refl
    (never (close_once p e q) rules.CloseOnce _ refl
    (never (every_moment_right e q) rules.Moment _ refl
    (never (start_known p e q) rules.StartKnown _ refl
    (never (ask_known p e q) rules.AskKnown _ refl (never (connection_known p e q) rules.ConnectionKnown _ refl none_never)))))))))

open_never : (p : Plan) (q : Record) → Never (open_breach p q)
open_never p q =
    never (boot_right p q) rules.Bootstrapping _ refl
    (never (offer_kept p q) rules.Offer _ refl
    (never (conn_right p q) rules.Connections _ refl
    (never (closes_right p q) rules.Closes _ refl
    (never (one_live p q) rules.OneLive _ refl
    (never (not (from_the_start q) || starts_kept p q) rules.Starts _ refl
    (never (are_endpoints_kept p q) rules.Endpoints _ refl
    (never (are_phases_kept p q) rules.Phases _ refl (never (not (has is_ending q)) rules.Ending _ refl none_never))))))))

step_never : (p : Plan) (q : Record) → Never (step_breach p q)
step_never p q =
    first_never (settled_breach_by (boot_right p q) (conn_right p q) p q) _
    (if_never (has_ended p q) (unless (ended_right p q) rules.Ended None) (open_breach p q)
    (never (ended_right p q) rules.Ended None refl none_never) (open_never p q))
    (never (fails_right p q) rules.Fails _ refl
    (never (one_ask p q) rules.OneAsk _ refl
    (never (not (waits_are_over p q) || passed_right p q) rules.Served _ refl
    (never (not (ends_tested p q) || tested_right p q) rules.Tested _ refl
    (never (not (waits_are_over p q) || last_step_right p (before_runtimes q)) rules.LastStep _ refl none_never)))))

misfits : (b : Bool) (next : Option Rule) → Never next → unless b rules.Fits next ≡ Some rules.Fits → b ≡ false
unfolding Never
misfits true next f h = absurd (f h)
misfits false next f h = refl

first_is : (x y : Option Breach) (b : Breach) → first_of x y ≡ Some b → (x ≡ Some b) ⊎ ((x ≡ None) × (y ≡ Some b))
first_is (Some a) y b h = inl h
first_is None y b h = inr (refl, h)

-- a breach at a place is there, and of the rule
record IsAt (n : ℕ) (r : Option Rule) (b : Breach) : Type 0 where
  place : b.entry ≡ n
  rule : r ≡ Some b.rule

same_some : (a b : Breach) → Some a ≡ Some b → a ≡ b
same_some a b h = cc

at_is : (n : ℕ) (r : Option Rule) (b : Breach) → at n r ≡ Some b → IsAt n r b
at_is n None b h = cc
at_is n (Some rule) b h =
    let a : Breach = record { entry = n; rule = rule } in
    let e : a ≡ b = same_some a b h in
    record { place = sym (ap (λ (x : Breach). x.entry) e); rule = ap (λ (x : Breach). Some x.rule) e }

place_within : (p : Plan) (e : Entry) (q : Record) (b : Breach) → place_breach p e q ≡ Some b → b.entry ≤ length q + 1
place_within p (Told a) q b h = let k = at_is (length q + 1) (entry_breach p (Told a) q) b h in omega (arith, k.place)
place_within p (Got e) q b h = elim (first_is (at (length q) (step_breach p q)) (at (length q + 1) (entry_breach p (Got e) q)) b h) [
  | inl x ↦ (let k = at_is (length q) (step_breach p q) b x in omega (arith, k.place))
  | inr y ↦ (let k = at_is (length q + 1) (entry_breach p (Got e) q) b y.1 in omega (arith, k.place))
]

below_within : (p : Plan) (q : Record) (b : Breach) → breach_below p q ≡ Some b → b.entry ≤ length q
below_within p [] b h = cc
below_within p (e ∷ q) b h = elim (first_is (breach_below p q) (place_breach p e q) b h) [
  | inl x ↦ (let k = below_within p q b x in omega (arith, k))
  | inr y ↦ (let k = place_within p e q b y.1 in omega (arith, k))
]

-- the last event of an otherwise right record doesn't fit
record IsMisfit (p : Plan) (q : Record) : Type 0 where
  finished : Record
  event : Event
  is : q ≡ Got event ∷ finished
  right : breach_of p finished ≡ None
  misfit : fits p finished event ≡ false

misfit_event : (p : Plan) (e : Event) (q : Record) (b : Breach) → breach_below p q ≡ None → place_breach p (Got e) q ≡ Some b → b.rule ≡ rules.Fits
    → b.entry ≡ suc (length q) → IsMisfit p (Got e ∷ q)
misfit_event p e q b none h rule place = elim (first_is (at (length q) (step_breach p q)) (at (length q + 1) (entry_breach p (Got e) q)) b h) [
  | inl x ↦ (let k = at_is (length q) (step_breach p q) b x in absurd (omega (arith, k.place, place)))
  | inr y ↦
      (let k = at_is (length q + 1) (entry_breach p (Got e) q) b y.1 in
      let broken : entry_breach p (Got e) q ≡ Some rules.Fits = k.rule ∙ ap Some rule in
      record {
        finished = q;
        event = e;
        is = refl;
        right = nowhere (breach_below p q) (at (length q) (step_breach p q)) none y.0;
        misfit = misfits (event_fits p (Got e) q) _ (rest_never p (Got e) q) broken;
      })
]

misfit_below : (p : Plan) (q : Record) (b : Breach) → breach_below p q ≡ Some b → b.rule ≡ rules.Fits → b.entry ≡ length q → IsMisfit p q
unfolding Never
misfit_below p [] b h rule place = cc
misfit_below p (Told a ∷ q) b h rule place = elim (first_is (breach_below p q) (place_breach p (Told a) q) b h) [
  | inl x ↦ (let k = below_within p q b x in absurd (omega (arith, k, place)))
  | inr y ↦
      (let k = at_is (length q + 1) (entry_breach p (Told a) q) b y.1 in
      absurd (rest_never p (Told a) q (k.rule ∙ ap Some rule)))
]
misfit_below p (Got e ∷ q) b h rule place = elim (first_is (breach_below p q) (place_breach p (Got e) q) b h) [
  | inl x ↦ (let k = below_within p q b x in absurd (omega (arith, k, place)))
  | inr y ↦ misfit_event p e q b y.0 y.1 rule place
]

misfit_of : (p : Plan) (q : Record) (b : Breach) → breach_of p q ≡ Some b → is_fits b.rule ≡ true → b.entry ≡ length q → IsMisfit p q
unfolding Never
misfit_of p q b h rule place = elim (first_is (breach_below p q) (at (length q) (step_breach p q)) b h) [
  | inl x ↦ misfit_below p q b x (fits_is b.rule rule) place
  | inr y ↦
      (let k = at_is (length q) (step_breach p q) b y.1 in
      absurd (step_never p q (k.rule ∙ ap Some (fits_is b.rule rule))))
]

-- the record is right as one of a run whose last event didn't fit
Stray : Plan → Record → Type 0
Stray p r = (finished : Record) × ((e : Event) × ((told : List Action) × (IsClosedRight p r finished (Some e) told × (fits p finished e ≡ false))))

stray_from : (p : Plan) (r q tail : Record) → r ≡ tail ++ q → IsMisfit p q → tail_rule (drop 1 q) q tail r ≡ None → Stray p r
unfolding Stray
stray_from p r q tail is m h =
    let before : Record = Got m.event ∷ m.finished in
    let all : r ≡ tail ++ before = is ∙ ap (λ (x : Record). tail ++ x) m.is in
    let kept : tail_rule m.finished before tail r ≡ None = sym (ap (λ (x : Record). tail_rule (drop 1 x) x tail r) m.is) ∙ h in
    let closed = tail_is p r m.finished tail (Some m.event) all m.right kept in
    (m.finished, (m.event, (closed.0, (closed.1, m.misfit))))

stray_at : (p : Plan) (r : Record) (o : Option Breach) → breach_of p (drop (tail_len r) r) ≡ o → stray_by r (tail_len r) o ≡ None → Stray p r
stray_at p r None e h = cc
stray_at p r (Some b) e h = elim (cases_Bool (is_fits b.rule && b.entry == length (drop (tail_len r) r))) [
  | inl y ↦
      (let k : tail_breach r (tail_len r) 1 ≡ None = rw (y) at h in
      let parts = both (is_fits b.rule) (b.entry == length (drop (tail_len r) r)) y in
      let q = drop (tail_len r) r in
      stray_from p r q (take (tail_len r) r) (sym (take-append-drop (tail_len r) r)) (misfit_of p q b e parts.0 (eqb-true b.entry (length q) parts.1))
      (no_rule (length r) _ k))
  | inr n ↦ (let k : Some b ≡ None = rw (n) at h in cc)
]

pub stray_is : (p : Plan) (r : Record) → stray_breach p r ≡ None
    → (finished : Record) × ((e : Event) × ((told : List Action) × (IsClosedRight p r finished (Some e) told × (fits p finished e ≡ false))))
unfolding Stray
stray_is p r h = stray_at p r (breach_of p (drop (tail_len r) r)) refl h
