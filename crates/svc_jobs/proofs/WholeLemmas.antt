-- A whole text of jobs is served.
use Rattle.std.proofs.Common.{◌≡◌, ℕ, true, inl, inr, List, [], ◌∷◌, ◌++◌, length, map, Some, None, Ok, refl, ap, sym, subst, ◌∙◌, arith, append_assoc, append-nil, length-append}
use Rattle.std.proofs.lemmas.List.{map-append}
use Rattle.svc_base.specs.Streams.{Rose}
use Rattle.svc_base.proofs.Logic.{clash}
use Rattle.svc_conf.specs.Configuration.{judged}
use Rattle.svc_record.specs.declared.plan.Plan.{Plan}
use Rattle.svc_record.specs.declared.entry.Entry.TheVariants.{Got}
use Rattle.svc_record.specs.declared.event.Event.{Event}
use Rattle.svc_record.specs.declared.event.Event.TheVariants.{Ready}
use Rattle.svc_record.specs.declared.item.Item.{Item}
use Rattle.svc_record.specs.declared.item.Item.TheVariants as items
use Rattle.svc_record.specs.Record.{Record}
use Rattle.svc_record.specs.Drain.{waits_are_over}
use Rattle.svc_record.specs.Ends.{has_ended}
use Rattle.svc_record.specs.Tail.{closing_actions}
use Rattle.svc_text.specs.Dependencies.{RefusesAt}
use Rattle.svc_text.proofs.EdgeLemmas.{refused_some}
use Rattle.svc_server.specs.Runs.{IsClosed, IsStray}
use Rattle.svc_job_host.specs.Readies.{readies_since, items_of}
use Rattle.svc_main.specs.declared.outcome.RunEnd.{RunEnd}
use Rattle.svc_main.specs.declared.outcome.RunEnd.TheVariants.{Served, Tested, Parent, Config, HostFault, Bootstrap, Stray, OutOfEvents}
use Rattle.svc_main.specs.declared.outcome.StatusLine.{StatusLine}
use Rattle.svc_main.specs.declared.outcome.StatusLine.TheVariants.{Words, Line, ReadFault, Run}
use Rattle.svc_main.specs.Status.{end_status, status_of}
use Rattle.svc_main.specs.Program.{Faults}
use Rattle.svc_jobs.specs.JobServices.{plan_of_jobs}
use Rattle.svc_jobs.specs.JobTexts.{JobParts, jobs_in}
use Rattle.svc_jobs.specs.JobPrograms.{IsJobRun, RanJobs, IsAnswer, RunsThrough, IsWholeText, RefusesIn}
use Rattle.svc_jobs.proofs.CountLemmas.{items-tell}
use Rattle.svc_jobs.proofs.RunLemmas.{since-tell}

-- the last event is an item
item_last : (e : Event) (q : Record) → readies_since (Got e ∷ q) ≡ [] → items_of (Got e ∷ q) ≡ items_of q ++ e ∷ []
item_last (Ready s) q h = absurd (let long = ap length h in omega (arith, long, length-append (readies_since q) (s ∷ [])))
item_last e q h = refl

not_stray : (p : Plan) (all left : List Item) (k : ℕ) (r finished : Record) (e : Event) → RunsThrough p all → IsStray p k r finished e → readies_since r ≡ []
    → all ≡ map items.Event (items_of r) ++ left → ⊥
not_stray p all left k r finished e t s last given =
    let told = closing_actions p finished (Some e) in
    let since : readies_since (Got e ∷ finished) ≡ [] = sym (since-tell (Got e ∷ finished) told) ∙ sym (ap readies_since s.closed.closed) ∙ last in
    let events : items_of r ≡ items_of finished ++ e ∷ [] = ap items_of s.closed.closed ∙ items-tell (Got e ∷ finished) told ∙ item_last e finished since in
    s.misfit (t.fits finished e left s.closed.right s.closed.goes_on
    (given ∙ ap (λ (es : List Event). map items.Event es ++ left) events
    ∙ ap (λ (xs : List Item). xs ++ left) (map-append items.Event (items_of finished) (e ∷ []))
    ∙ append_assoc (map items.Event (items_of finished)) (items.Event e ∷ []) left))

-- the items of a run that was closed are those of its finished steps
closed_items : (p : Plan) (r finished : Record) → IsClosed p r finished None → items_of r ≡ items_of finished
closed_items p r finished s = ap items_of s.closed ∙ items-tell finished (closing_actions p finished None)

not_fault : (p : Plan) (all left more : List Item) (r finished : Record) → RunsThrough p all → IsClosed p r finished None → left ≡ items.Fault ∷ more
    → all ≡ map items.Event (items_of r) ++ left → ⊥
not_fault p all left more r finished t s next given =
    t.faultless finished more s.right s.goes_on
    (given ∙ ap (λ (xs : List Item). map items.Event (items_of r) ++ xs) next
    ∙ ap (λ (es : List Event). map items.Event es ++ items.Fault ∷ more) (closed_items p r finished s))

not_out : (p : Plan) (all left : List Item) (r finished : Record) → RunsThrough p all → IsClosed p r finished None → left ≡ []
    → all ≡ map items.Event (items_of r) ++ left → ⊥
not_out p all left r finished t s next given =
    let passed : waits_are_over p finished ≡ true =
    t.passes finished s.right
    (given ∙ ap (λ (xs : List Item). map items.Event (items_of r) ++ xs) next ∙ append-nil (map items.Event (items_of r))
    ∙ ap (map items.Event) (closed_items p r finished s)) in
    let ended : has_ended p finished ≡ true = rw passed refl in
    clash (has_ended p finished) ended s.goes_on

-- a run over items that run through, with a configuration that is accepted, goes through its shutdown
through_served : (parts : JobParts) (end : RunEnd) (r : Record) → judged parts.script.conf ≡ Ok tt → RunsThrough (plan_of_jobs parts.script) parts.script.items
    → IsJobRun parts end r → end ≡ Served
through_served parts Served r c t run = refl
through_served parts Tested r c t run = absurd run.may
through_served parts (Parent n) r c t run = absurd run.may
through_served parts (Config key) r c t run = absurd (let refused = run.judged in cc)
through_served parts HostFault r c t run =
    absurd (not_fault (plan_of_jobs parts.script) parts.script.items run.left run.leaves.0 r run.ends.0 t run.ends.1 run.leaves.1 run.given)
through_served parts (Bootstrap error) r c t run = absurd run.may
through_served parts (Stray k) r c t run =
    absurd (not_stray (plan_of_jobs parts.script) parts.script.items run.left k r run.ends.0 run.ends.1.0 t run.ends.1.1 run.last run.given)
through_served parts OutOfEvents r c t run =
    absurd (not_out (plan_of_jobs parts.script) parts.script.items run.left r run.ends.0 t run.ends.1 run.leaves run.given)

one_text : (bytes : List ℕ) (p q : JobParts) → jobs_in bytes ≡ Ok p → jobs_in bytes ≡ Ok q → p ≡ q
one_text bytes p q e f = cc

-- the line of the answer to a whole text says that the run served, or that the source failed
pub whole_is_served : (words : List (List ℕ)) (bytes : List ℕ) (parts : JobParts) (line : StatusLine) (out : List ℕ) (before now : ℕ)
    → IsWholeText words bytes parts → IsAnswer words (Some bytes) line out → Faults line before now
    → (Rose before now → ⊥) → status_of line ≡ 0
whole_is_served words bytes parts Words out before now w a f n = absurd (a.0 w.none)
whole_is_served words bytes parts ReadFault out before now w a f n = absurd (n f)
whole_is_served words bytes parts (Line k) out before now w a f n = absurd (by a.2)
  where
    by : RefusesIn bytes k → ⊥
    by (inl (short, inl refused)) = let said : jobs_in bytes ≡ Ok parts = w.is_text.says in cc
    by (inl (short, inr edge)) =
        refused_some parts.script.services edge.1.1.0
        (subst (λ (q : JobParts). RefusesAt q.script.services edge.1.1.0) (one_text bytes edge.0 parts edge.1.0 w.is_text.says) edge.1.1.1.0)
        w.is_text.edges
    by (inr long) = let short = w.is_text.short in omega (arith, long.1)
whole_is_served words bytes parts (Run end) out before now w a f n =
    let ran = a.1 in
    let same : ran.0 ≡ parts = one_text bytes ran.0 parts ran.1.1.says w.is_text.says in
    let jobs = subst (λ (q : JobParts). RanJobs q end out) same ran.1.0 in
    ap end_status (through_served parts end jobs.0 w.runs w.through jobs.1.run)
