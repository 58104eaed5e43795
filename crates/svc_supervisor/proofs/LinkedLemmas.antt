-- A chain stays linked: as it begins, as a generation takes an event, and as one more is launched.
use Rattle.std.proofs.Common.{ℕ, zero, suc, Bool, true, false, not, ◌&&◌, ◌||◌, List, [], ◌∷◌, ◌++◌, ◌≡◌, refl, ap, ◌∙◌, subst, arith, map, set, Option, Some, None}
use Rattle.std.specs.Prelude.{slice_get, IfSome}
use Rattle.std.proofs.lemmas.Bool.{and_parts, and_from}
use Rattle.std.proofs.lemmas.Option.{same_Some}
use Rattle.svc_record.specs.declared.action.StepEnd.{StepEnd}
use Rattle.svc_record.specs.declared.entry.Entry.TheVariants.{Got}
use Rattle.svc_record.specs.declared.event.Event.{Event}
use Rattle.svc_record.specs.declared.event.Event.TheVariants.{Sent}
use Rattle.svc_record.specs.Record.{has, is_signal}
use Rattle.svc_record.specs.Boot.{is_open_receiver}
use Rattle.svc_record.specs.Fits.{fits}
use Rattle.svc_handover.specs.declared.pair.ChannelState.TheVariants.{Missing}
use Rattle.svc_handover.specs.Channel.{channel_of, reached, is_taken, is_receipt, is_sent, is_join, old_may}
use Rattle.svc_core.proofs.RecordLemmas.{has-tell}
use Rattle.svc_supervisor.specs.declared.generation.Generation.{Generation}
use Rattle.svc_supervisor.specs.ChainData.{GenerationData}
use Rattle.svc_supervisor.specs.Chains.{may_come, may_come_at, before_may, channel_to, generation_before, has_taken_over, is_early, AreRight, AreScheduled}
use Rattle.svc_supervisor.specs.Kept.{ChainKept}
use Rattle.svc_supervisor.specs.Generations.{Begins, Takes, Stands, EachStands, AllStand, PairRuns, Linked, history, data_of}
use Rattle.svc_supervisor.proofs.GenerationLemmas.{begun-history, stands-begun, taken-history, stands-taken}
use Rattle.svc_supervisor.proofs.PairSteps.{pair-old, pair-new, awaits-begun, awaits-taken, pair-scheduled}
use Rattle.svc_supervisor.proofs.CarryLemmas.{keeps-carried}

-- the parts of what lets an event come
may-fits : (before next : Option GenerationData) (g : GenerationData) (e : Event) → may_come before g next e ≡ true → fits g.plan g.history e ≡ true
may-fits before next g e h = (and_parts (fits g.plan g.history e) (before_may before g e && old_may (channel_to g next) e) h).0

may-before : (before next : Option GenerationData) (g : GenerationData) (e : Event) → may_come before g next e ≡ true → before_may before g e ≡ true
may-before before next g e h =
    (and_parts (before_may before g e) (old_may (channel_to g next) e)
    (and_parts (fits g.plan g.history e) (before_may before g e && old_may (channel_to g next) e) h).1).0

may-next : (before next : Option GenerationData) (g : GenerationData) (e : Event) → may_come before g next e ≡ true → old_may (channel_to g next) e ≡ true
may-next before next g e h =
    (and_parts (before_may before g e) (old_may (channel_to g next) e)
    (and_parts (fits g.plan g.history e) (before_may before g e && old_may (channel_to g next) e) h).1).1

-- and without the generation before
may-alone : (before next : Option GenerationData) (g : GenerationData) (e : Event) → may_come before g next e ≡ true → may_come None g next e ≡ true
may-alone before next g e h = and_from (fits g.plan g.history e) (old_may (channel_to g next) e) (may-fits before next g e h) (may-next before next g e h)

-- what a generation without a successor takes isn't that it has sent
missing-unsent : (e : Event) → old_may Missing e ≡ true → is_sent (Got e) ≡ false
missing-unsent Sent h = absurd (cc)
missing-unsent _ h = refl

neither : (x y : Bool) → x ≡ false → y ≡ false → (x || y) ≡ false
neither x y h k = grind arith

-- a signal that isn't early comes after the receipt
received-in-time : (f g : Generation) (e : Event) → (is_signal (Got e) && not (has_taken_over (Some (data_of f)) (data_of g))) ≡ false
    → is_signal (Got e) ≡ true → has is_receipt (history g) ≡ true
received-in-time f g e timely came =
    taken-received (has is_receipt (history g)) (has is_sent (history f)) (has is_join (history f)) (has is_open_receiver (history g))
    (unless (is_signal (Got e)) (is_taken (channel_of (history f) (history g))) timely came)
  where
    unless : (x y : Bool) → (x && not y) ≡ false → x ≡ true → y ≡ true
    unless x y h k = grind arith

    taken-received : (t s j l : Bool) → is_taken (reached t s j l) ≡ true → t ≡ true
    taken-received true s j l h = refl
    taken-received false true j l h = absurd (cc)
    taken-received false false true l h = absurd (cc)
    taken-received false false false true h = absurd (cc)
    taken-received false false false false h = absurd (cc)

-- the first stands
linked-stands : (g : Generation) (more : List Generation) → Linked (g ∷ more) → Stands g
linked-stands g [] l = l.stands
linked-stands g (h ∷ more) l = l.0

module _ (g next : Generation) (e : Event) (said : Bool) (end : StepEnd) (t : Takes g next e said end) where
  -- the first generation of the list takes the event
  step-first : (gs : List Generation) → may_come_at (map data_of (g ∷ gs)) zero e ≡ true → Linked (g ∷ gs) → Linked (next ∷ gs)
  step-first [] may l = record {
    stands = stands-taken g next e said end l.stands t;
    awaits = awaits-taken g next e said end l.stands t (may-fits None None (data_of g) e may) (may-next None None (data_of g) e may) l.awaits;
    unsent = ap (has is_sent) (taken-history g next e said end t) ∙ has-tell is_sent (λ a. refl) (Got e ∷ history g) t.takes.keeps.told
        ∙ neither (is_sent (Got e)) (has is_sent (history g)) (missing-unsent e (may-next None None (data_of g) e may)) l.unsent;
  }
  step-first (h ∷ []) may (s, pair, rest) = (
    stands-taken g next e said end s t,
    pair-old g next h e said end s rest.stands t (may-fits None (Some (data_of h)) (data_of g) e may)
        (may-next None (Some (data_of h)) (data_of g) e may) pair,
    rest,
  )
  step-first (h ∷ i ∷ more) may (s, pair, rest) = (
    stands-taken g next e said end s t,
    pair-old g next h e said end s rest.0 t (may-fits None (Some (data_of h)) (data_of g) e may)
        (may-next None (Some (data_of h)) (data_of g) e may) pair,
    rest,
  )

  -- the one at this place does
  pub linked-step : (gs : List Generation) (k : ℕ) → slice_get gs k ≡ Some g → is_early (map data_of gs) k e ≡ false → may_come_at (map data_of gs) k e ≡ true
      → Linked gs → Linked (set gs k next)
  linked-step [] k here timely may l = absurd (cc)
  linked-step (x ∷ []) zero here timely may l =
      let same : x ≡ g = same_Some x g here in
      step-first [] (subst (λ (y : Generation). may_come_at (map data_of (y ∷ [])) zero e ≡ true) same may) (subst (λ (y : Generation). Linked (y ∷ [])) same l)
  linked-step (x ∷ []) (suc k) here timely may l = absurd (cc)
  linked-step (x ∷ h ∷ more) zero here timely may l =
      let same : x ≡ g = same_Some x g here in
      step-first (h ∷ more) (subst (λ (y : Generation). may_come_at (map data_of (y ∷ h ∷ more)) zero e ≡ true) same may)
      (subst (λ (y : Generation). Linked (y ∷ h ∷ more)) same l)
  linked-step (x ∷ h ∷ more) (suc zero) here timely may (s, pair, rest) =
      let same : h ≡ g = same_Some h g here in
      let second : may_come (Some (data_of x)) (data_of g) (slice_get (map data_of more) zero) e ≡ true =
      subst (λ (y : Generation). may_come (Some (data_of x)) (data_of y) (slice_get (map data_of more) zero) e ≡ true) same may in
      let was : Linked (g ∷ more) = subst (λ (y : Generation). Linked (y ∷ more)) same rest in
      let later : Linked (next ∷ more) = step-first more (may-alone (Some (data_of x)) (slice_get (map data_of more) zero) (data_of g) e second) was in (
        s,
        pair-new x g next e said end s (linked-stands g more was) t (may-fits (Some (data_of x)) (slice_get (map data_of more) zero) (data_of g) e second)
            (may-before (Some (data_of x)) (slice_get (map data_of more) zero) (data_of g) e second)
            (received-in-time x g e
            (subst (λ (y : Generation). (is_signal (Got e) && not (has_taken_over (Some (data_of x)) (data_of y))) ≡ false) same timely))
            (subst (PairRuns x) same pair),
        later,
      )
  linked-step (x ∷ h ∷ more) (suc (suc k)) here timely may (s, pair, rest) = (s, pair, linked-step (h ∷ more) (suc k) here timely may rest)

-- one generation alone
pub linked-first : (g : Generation) → Begins g.session.core.plan g → Linked (g ∷ [])
linked-first g b = record {
  stands = stands-begun g.session.core.plan g b;
  awaits = awaits-begun g b;
  unsent = ap (has is_sent) (begun-history g.session.core.plan g b) ∙ has-tell is_sent (λ a. refl) [] b.begins.begun.told;
}

-- one more at the end
pub linked-launch : (gs : List Generation) (g : Generation) → Begins g.session.core.plan g → Linked gs → Linked (gs ++ g ∷ [])
linked-launch [] g b l = linked-first g b
linked-launch (x ∷ []) g b l = (l.stands, l.awaits g b, linked-first g b)
linked-launch (x ∷ h ∷ more) g b (s, pair, rest) = (s, pair, linked-launch (h ∷ more) g b rest)

linked-right : (gs : List Generation) → Linked gs → AreRight (map data_of gs)
linked-right [] l = tt
linked-right (g ∷ []) l = (l.stands.right, tt)
linked-right (g ∷ h ∷ more) l = (l.0.right, linked-right (h ∷ more) l.2)

linked-scheduled : (gs : List Generation) → Linked gs → AreScheduled (map data_of gs)
linked-scheduled [] l = tt
linked-scheduled (g ∷ []) l = tt
linked-scheduled (g ∷ h ∷ more) l = (pair-scheduled g h l.1, linked-scheduled (h ∷ more) l.2)

-- what holds of a linked chain
pub chain-kept : (gs : List Generation) → Linked gs → ChainKept (map data_of gs)
chain-kept gs l = record { right = linked-right gs l; scheduled = linked-scheduled gs l; carried = keeps-carried gs l }

-- each generation of it stands
pub stands-at : (gs : List Generation) (k : ℕ) → Linked gs → IfSome (slice_get gs k) Stands
stands-at [] k l = tt
stands-at (g ∷ more) zero l = linked-stands g more l
stands-at (g ∷ []) (suc k) l = tt
stands-at (g ∷ h ∷ more) (suc k) l = stands-at (h ∷ more) k l.2

stands-before : (gs : List Generation) (k : ℕ) → Linked gs → IfSome (generation_before gs k) Stands
stands-before gs zero l = tt
stands-before gs (suc k) l = stands-at gs k l

-- and its neighbours
pub all-stand : (gs : List Generation) (k : ℕ) (g : Generation) → slice_get gs k ≡ Some g → Linked gs
    → AllStand (generation_before gs k) g (slice_get gs (suc k))
all-stand gs k g here l =
    record { earlier = stands-before gs k l; here = subst (λ (o : Option Generation). IfSome o Stands) here (stands-at gs k l); later = stands-at gs (suc k) l }

-- what contracts see of a chain in which one generation has changed
pub data-set : (gs : List Generation) (k : ℕ) (g : Generation) → map data_of (set gs k g) ≡ set (map data_of gs) k (data_of g)
data-set [] k g = refl
data-set (x ∷ more) zero g = refl
data-set (x ∷ more) (suc k) g = ap (λ (ds : List GenerationData). data_of x ∷ ds) (data-set more k g)

pub each-stands : (gs : List Generation) → Linked gs → EachStands gs
each-stands [] l = tt
each-stands (g ∷ []) l = (l.stands, tt)
each-stands (g ∷ h ∷ more) l = (l.0, each-stands (h ∷ more) l.2)
