-- Two neighbours have run a schedule as the servers of a handover: as they begin, and after a step of either.
use Rattle.std.proofs.Common.{Bool, true, false, ◌||◌, List, [], ◌∷◌, ◌++◌, ◌≡◌, refl, ap, sym, ◌∙◌, subst, inl, inr}
use Rattle.std.proofs.lemmas.Bool.{and_from, cases_Bool}
use Rattle.svc_record.specs.declared.action.StepEnd.{StepEnd}
use Rattle.svc_record.specs.declared.entry.Entry.TheVariants.{Got}
use Rattle.svc_record.specs.declared.event.Event.{Event}
use Rattle.svc_record.specs.declared.event.Event.TheVariants.{Connected, Sent}
use Rattle.svc_record.specs.Record.{Record, has, tell, is_signal}
use Rattle.svc_record.specs.Boot.{is_open_receiver}
use Rattle.svc_record.specs.Fits.{fits}
use Rattle.svc_handover.specs.declared.pair.ChannelState.{ChannelState}
use Rattle.svc_handover.specs.declared.pair.ChannelState.TheVariants.{Missing}
use Rattle.svc_handover.specs.Channel.{channel_of, reached, is_receipt, is_sent, is_join, after_old, after_new, after_told, old_may, new_may}
use Rattle.svc_handover.specs.Pair.{World, is_allowed, old_step}
use Rattle.svc_handover.specs.declared.pair.PairStep.{PairStep}
use Rattle.svc_handover.specs.Operator.{unsignalled}
use Rattle.svc_handover.specs.Law.{HandsOver, PairStands}
use Rattle.svc_handover.specs.Runs.{Runs}
use Rattle.svc_handover.proofs.ChannelLemmas.{read-first, read-step}
use Rattle.svc_handover.proofs.LawLemmas.{stands-old}
use Rattle.svc_handover.proofs.RunLemmas.{runs-first, grows-old, grows-new}
use Rattle.svc_supervisor.specs.declared.generation.Generation.{Generation}
use Rattle.svc_supervisor.specs.declared.marks.Marks.{Marks}
use Rattle.svc_supervisor.specs.Marks.{marks_of, channel_between}
use Rattle.svc_supervisor.specs.Chains.{IsScheduled}
use Rattle.svc_supervisor.specs.Generations.{Begins, Takes, Stands, Quiet, PairRuns, Awaits, history, data_of, servers_of, quiet_world}
use Rattle.svc_supervisor.proofs.QuietLemmas.{unsignalled-whole, unsignalled-step, signal-tell, receipt-unsignalled}
use Rattle.svc_supervisor.proofs.GenerationLemmas.{begun-history, stands-begun, step_of, taken-history, stands-taken}

-- the channel between two generations is the one read off their records
pub channel-read : (g h : Generation) → Stands g → Stands h → channel_between g.marks h.marks ≡ channel_of (history g) (history h)
channel-read g h s z = ap (λ (m : Marks). channel_between m h.marks) s.marks ∙ ap (channel_between (marks_of (history g))) z.marks

-- a world is given by its records, where the channel is the one read off them
world-eq : (w : World) (q r : Record) → w.old ≡ q → w.new ≡ r → w.channel ≡ channel_of w.old w.new → w ≡ record { old = q; new = r; channel = channel_of q r }
world-eq w q r o n c = ap (λ (x : ChannelState). record { old = w.old; new = w.new; channel = x }) c
    ∙ ap (λ (x : Record). record { old = x; new = w.new; channel = channel_of x w.new }) o
    ∙ ap (λ (y : Record). record { old = q; new = y; channel = channel_of q y }) n

-- before any signal to the newer one the two stand as they are
quiet-whole : (f g : Generation) (schedule : List PairStep) → Runs f.session.core.plan g.session.core.plan schedule (servers_of f g)
    → has is_signal (history g) ≡ false
    → Quiet f g
quiet-whole f g schedule runs silent = record {
  core = g.session.core;
  plan = refl;
  stands = subst (λ u. PairStands f.session.core g.session.core (record { old = history f; new = u; channel = channel_of (history f) u }))
      (sym (unsignalled-whole (history g) silent))
      (subst (PairStands f.session.core g.session.core)
      (world-eq runs.world (history f) (history g) (sym runs.old_is) (sym runs.new_is) runs.stands.channel) runs.stands);
  timely = λ came. absurd (clash (has is_signal (history g)) came silent);
}
  where
    clash : (b : Bool) → b ≡ true → b ≡ false → ⊥
    clash b x y = cc

-- the channel was as it is, since no signal comes before the receipt
channel-quiet : (f g : Generation) → Quiet f g → channel_of (history f) (history g) ≡ channel_of (history f) (unsignalled (history g))
channel-quiet f g q = elim (cases_Bool (has is_signal (history g))) [
  | inl came ↦
      (let before = q.timely came in
      taken-is (has is_receipt (history g)) (has is_receipt (unsignalled (history g))) (has is_sent (history f)) (has is_join (history f))
      (has is_open_receiver (history g)) (has is_open_receiver (unsignalled (history g))) (receipt-unsignalled (history g) before) before)
  | inr none ↦ ap (channel_of (history f)) (sym (unsignalled-whole (history g) none))
]
  where
    taken-is : (t u s j l m : Bool) → t ≡ true → u ≡ true → reached t s j l ≡ reached u s j m
    taken-is true true s j l m x y = refl
    taken-is false u s j l m x y = absurd (cc)
    taken-is t false s j l m x y = absurd (cc)

-- an event of the older one leaves them so
quiet-old : (g next h : Generation) (e : Event) (said : Bool) (end : StepEnd) → Takes g next e said end → fits g.session.core.plan (history g) e ≡ true
    → old_may (channel_of (history g) (history h)) e ≡ true → Quiet g h → Quiet next h
quiet-old g next h e said end t fitting may q =
    let allowed : is_allowed g.session.core.plan q.core.plan (quiet_world g h) (step_of true e said) ≡ true =
    and_from (fits g.session.core.plan (history g) e) (old_may (channel_of (history g) (unsignalled (history h))) e) fitting
    (subst (λ c. old_may c e ≡ true) (channel-quiet g h q) may) in
    let stood = stands-old g.session.core next.session.core q.core (quiet_world g h) (step_of true e said) [] t.told end refl t.takes.plan_is q.stands
    allowed t.takes.keeps in
    let there : old_step (quiet_world g h) (step_of true e said) t.takes.keeps.told ≡ quiet_world next h =
    world-eq (old_step (quiet_world g h) (step_of true e said) t.takes.keeps.told) (history next) (unsignalled (history h))
    (sym (taken-history g next e said end t)) refl stood.channel in
    record { core = q.core; plan = q.plan; stands = subst (PairStands next.session.core q.core) there stood; timely = q.timely }

-- and so does one of the newer one, which is no signal before its receipt
quiet-new : (f g next : Generation) (schedule : List PairStep) (e : Event) (said : Bool) (end : StepEnd) → Takes g next e said end
    → Runs f.session.core.plan next.session.core.plan schedule (servers_of f next) → (is_signal (Got e) ≡ true → has is_receipt (history g) ≡ true)
    → Quiet f g → Quiet f next
quiet-new f g next schedule e said end t runs timely q = elim (cases_Bool (has is_signal (history g) || is_signal (Got e))) [
  | inl at ↦ (let same : unsignalled (history next) ≡ unsignalled (history g) =
      ap unsignalled (taken-history g next e said end t) ∙ unsignalled-step (history g) e t.takes.keeps.told at in
      record {
        core = q.core;
        plan = q.plan ∙ sym t.takes.plan_is;
        stands = subst (λ u. PairStands f.session.core q.core (record { old = history f; new = u; channel = channel_of (history f) u })) (sym same) q.stands;
        timely = λ came. subst (λ u. has is_receipt u ≡ true) (sym same) (elim (cases_Bool (has is_signal (history g))) [
          | inl was ↦ q.timely was
          | inr none ↦
              subst (λ u. has is_receipt u ≡ true) (sym (unsignalled-whole (history g) none))
              (timely (by (has is_signal (history g)) (is_signal (Got e)) none at))
        ]);
      })
  | inr none ↦
      quiet-whole f next schedule runs
      (ap (has is_signal) (taken-history g next e said end t) ∙ signal-tell (Got e ∷ history g) t.takes.keeps.told
      ∙ turned (is_signal (Got e)) (has is_signal (history g)) none)
]
  where
    by : (x y : Bool) → x ≡ false → (x || y) ≡ true → y ≡ true
    by true y n k = absurd (cc)
    by false y n k = k

    turned : (x y : Bool) → (y || x) ≡ false → (x || y) ≡ false
    turned true true k = absurd (cc)
    turned true false k = absurd (cc)
    turned false y k = or-first y k
      where
        or-first : (y : Bool) → (y || false) ≡ false → y ≡ false
        or-first true k = absurd (cc)
        or-first false k = refl

-- both have begun
pub pair-first : (g h : Generation) → Begins g.session.core.plan g → Begins h.session.core.plan h → PairRuns g h
pair-first g h b d =
    let runs : Runs g.session.core.plan h.session.core.plan [] (servers_of g h) =
    runs-first g.session.core.plan h.session.core.plan (servers_of g h) b.told d.told b.begins d.begins
    (channel-read g h (stands-begun g.session.core.plan g b) (stands-begun h.session.core.plan h d)
    ∙ ap (λ q. channel_of q (history h)) (begun-history g.session.core.plan g b)
    ∙ ap (channel_of (tell [] b.begins.begun.told)) (begun-history h.session.core.plan h d)
    ∙ sym (read-first b.begins.begun.told d.begins.begun.told) ∙ ap (λ told. after_told told Missing) (sym d.begins.begun.appended))
    b.texts in
    record {
      schedule = [];
      runs = runs;
      quiet = quiet-whole g h [] runs (ap (has is_signal) (begun-history h.session.core.plan h d) ∙ signal-tell [] d.begins.begun.told);
    }

-- the old one takes an event that the channel allows
pub pair-old : (g next h : Generation) (e : Event) (said : Bool) (end : StepEnd) → Stands g → Stands h → Takes g next e said end
    → fits g.session.core.plan (history g) e ≡ true → old_may (channel_of (history g) (history h)) e ≡ true → PairRuns g h → PairRuns next h
pair-old g next h e said end s z t fitting may pair =
    let w : World = record { old = history g; new = history h; channel = channel_of (history g) (history h) } in
    let allowed : is_allowed g.session.core.plan h.session.core.plan w (step_of true e said) ≡ true =
    and_from (fits g.session.core.plan (history g) e) (old_may (channel_of (history g) (history h)) e) fitting may in
    let moved : after_old e (channel_of (history g) (history h)) ≡ channel_of (tell (Got e ∷ history g) t.takes.keeps.told) (history h) =
    read-step g.session.core.plan h.session.core.plan w (step_of true e said) t.takes.keeps.told refl allowed in
    let channel : channel_between next.marks h.marks ≡ after_old e (channel_between g.marks h.marks) =
    channel-read next h (stands-taken g next e said end s t) z ∙ ap (λ q. channel_of q (history h)) (taken-history g next e said end t) ∙ sym moved
    ∙ ap (after_old e) (sym (channel-read g h s z)) in
    let there : is_allowed g.session.core.plan h.session.core.plan pair.runs.world (step_of true e said) ≡ true =
    and_from (fits g.session.core.plan pair.runs.world.old e) (old_may pair.runs.world.channel e)
    (subst (λ q. fits g.session.core.plan q e ≡ true) pair.runs.old_is fitting)
    (subst (λ c. old_may c e ≡ true) (sym (channel-read g h s z) ∙ pair.runs.channel_is) may) in
    let grown : Runs g.session.core.plan h.session.core.plan (pair.schedule ++ step_of true e said ∷ []) (servers_of next h) =
    grows-old (servers_of g h) (servers_of next h) (step_of true e said) end t.told refl t.takes refl channel
    g.session.core.plan h.session.core.plan pair.schedule pair.runs there in
    record {
      schedule = pair.schedule ++ step_of true e said ∷ [];
      runs = subst (λ p. Runs p h.session.core.plan (pair.schedule ++ step_of true e said ∷ []) (servers_of next h)) (sym t.takes.plan_is) grown;
      quiet = quiet-old g next h e said end t fitting may pair.quiet;
    }

-- the new one does
pub pair-new : (f g next : Generation) (e : Event) (said : Bool) (end : StepEnd) → Stands f → Stands g → Takes g next e said end
    → fits g.session.core.plan (history g) e ≡ true → new_may (channel_of (history f) (history g)) (history f) e ≡ true
    → (is_signal (Got e) ≡ true → has is_receipt (history g) ≡ true) → PairRuns f g → PairRuns f next
pair-new f g next e said end z s t fitting may timely pair =
    let w : World = record { old = history f; new = history g; channel = channel_of (history f) (history g) } in
    let allowed : is_allowed f.session.core.plan g.session.core.plan w (step_of false e said) ≡ true =
    and_from (fits g.session.core.plan (history g) e) (new_may (channel_of (history f) (history g)) (history f) e) fitting may in
    let moved : after_told t.takes.keeps.told (after_new e (channel_of (history f) (history g)))
    ≡ channel_of (history f) (tell (Got e ∷ history g) t.takes.keeps.told) =
    read-step f.session.core.plan g.session.core.plan w (step_of false e said) t.takes.keeps.told refl allowed in
    let channel : channel_between f.marks next.marks ≡ after_told t.told (after_new e (channel_between f.marks g.marks)) =
    channel-read f next z (stands-taken g next e said end s t) ∙ ap (channel_of (history f)) (taken-history g next e said end t) ∙ sym moved
    ∙ ap (λ told. after_told told (after_new e (channel_of (history f) (history g)))) (sym t.takes.keeps.appended)
    ∙ ap (λ c. after_told t.told (after_new e c)) (sym (channel-read f g z s)) in
    let there : is_allowed f.session.core.plan g.session.core.plan pair.runs.world (step_of false e said) ≡ true =
    and_from (fits g.session.core.plan pair.runs.world.new e) (new_may pair.runs.world.channel pair.runs.world.old e)
    (subst (λ q. fits g.session.core.plan q e ≡ true) pair.runs.new_is fitting)
    (subst (λ q. new_may pair.runs.world.channel q e ≡ true) pair.runs.old_is
    (subst (λ c. new_may c (history f) e ≡ true) (sym (channel-read f g z s) ∙ pair.runs.channel_is) may)) in
    let grown : Runs f.session.core.plan g.session.core.plan (pair.schedule ++ step_of false e said ∷ []) (servers_of f next) =
    grows-new (servers_of f g) (servers_of f next) (step_of false e said) end t.told refl t.takes refl channel
    f.session.core.plan g.session.core.plan pair.schedule pair.runs there in
    let runs : Runs f.session.core.plan next.session.core.plan (pair.schedule ++ step_of false e said ∷ []) (servers_of f next) =
    subst (λ n. Runs f.session.core.plan n (pair.schedule ++ step_of false e said ∷ []) (servers_of f next)) (sym t.takes.plan_is) grown in
    record {
      schedule = pair.schedule ++ step_of false e said
          ∷ [];
      runs = runs;
      quiet = quiet-new f g next (pair.schedule ++ step_of false e said ∷ []) e said end t runs timely pair.quiet;
    }

-- what a generation without a successor may take, it may take with one
missing-any : (c : ChannelState) (e : Event) → old_may Missing e ≡ true → old_may c e ≡ true
missing-any c Connected h = absurd (cc)
missing-any c Sent h = absurd (cc)
missing-any c _ h = refl

pub awaits-begun : (g : Generation) → Begins g.session.core.plan g → Awaits g
awaits-begun g b h d = pair-first g h b d

pub awaits-taken : (g next : Generation) (e : Event) (said : Bool) (end : StepEnd) → Stands g → Takes g next e said end
    → fits g.session.core.plan (history g) e ≡ true
    → old_may Missing e ≡ true → Awaits g → Awaits next
awaits-taken g next e said end s t fitting may awaits h d =
    pair-old g next h e said end s (stands-begun h.session.core.plan h d) t fitting (missing-any (channel_of (history g) (history h)) e may) (awaits h d)

-- so their records are what a schedule leaves
pub pair-scheduled : (g h : Generation) → PairRuns g h → IsScheduled (data_of g) (data_of h)
pair-scheduled g h pair = record {
  schedule = pair.schedule;
  over = subst (HandsOver g.session.core.plan h.session.core.plan pair.schedule)
      (world-eq pair.runs.world (history g) (history h) (sym pair.runs.old_is) (sym pair.runs.new_is) pair.runs.stands.channel) pair.runs.over;
}
