-- A whole script is served.
use Rattle.std.proofs.Common.{◌≡◌, ℕ, true, inl, inr, List, [], ◌∷◌, ◌++◌, map, Some, None, Ok, Err, ap, sym, ◌∙◌, subst, arith, refl, append-nil, append_assoc}
use mathlib.Core.Bool.{false≢true}
use Rattle.svc_conf.specs.Configuration.{judged}
use Rattle.svc_base.specs.Streams.{Rose}
use Rattle.svc_conf.specs.declared.server.configuration.Opt.{Opt}
use Rattle.svc_conf.specs.ConfigurationText.{merged}
use Rattle.svc_record.specs.declared.plan.Plan.{Plan}
use Rattle.svc_record.specs.declared.action.StepEnd.{StepEnd}
use Rattle.svc_record.specs.declared.action.StepEnd.TheVariants as ends
use Rattle.svc_record.specs.declared.entry.Entry.TheVariants.{Got}
use Rattle.svc_record.specs.declared.event.Event.{Event}
use Rattle.svc_record.specs.declared.item.Item.{Item}
use Rattle.svc_record.specs.declared.item.Item.TheVariants as items
use Rattle.svc_record.specs.Record.{Record}
use Rattle.svc_record.specs.Drain.{waits_are_over}
use Rattle.svc_record.specs.Ends.{has_ended}
use Rattle.svc_record.specs.Tail.{closing_actions}
use Rattle.svc_text.specs.Dependencies.{RefusesAt}
use Rattle.svc_text.proofs.EdgeLemmas.{refused_some}
use Rattle.svc_text.specs.Script.{Parts, script}
use Rattle.svc_text.specs.ScriptPlans.{plan_of}
use Rattle.svc_server.specs.declared.run.RunError.TheVariants as errors
use Rattle.svc_server.specs.Runs.{events_of, IsClosed, IsEndedSo, IsStray, RunTakes}
use Rattle.svc_server.proofs.TurnLemmas.{events-tell}
use Rattle.svc_main.specs.declared.outcome.StatusLine.{StatusLine}
use Rattle.svc_main.specs.declared.outcome.StatusLine.TheVariants.{Words, Line, ReadFault, Run}
use Rattle.svc_main.specs.declared.outcome.RunEnd.{RunEnd}
use Rattle.svc_main.specs.declared.outcome.RunEnd.TheVariants.{Served, Tested, Parent, Config, HostFault, Bootstrap, Stray, OutOfEvents}
use Rattle.svc_main.specs.Status.{end_status, status_of}
use Rattle.svc_main.specs.CommandWords.{AcceptsWords, RefusesWords, flags_of}
use Rattle.svc_main.proofs.WordsLemmas.{run_not_made}
use Rattle.svc_main.specs.Program.{IsRunOf, RanText, RunText, IsAnswer, Faults, EndsServed, RunsThrough, IsWholeScript, RefusesIn}

-- ---- what was taken of items that are events alone

-- items that are events alone begin with these events
pub front_of : (es fs : List Event) (left : List Item) → map items.Event es ≡ map items.Event fs ++ left → (more : List Event) × (es ≡ fs ++ more)
front_of es [] left h = (es, refl)
front_of [] (f ∷ fs) left h = absurd (cc)
front_of (e ∷ es) (f ∷ fs) left h =
    let rest : map items.Event es ≡ map items.Event fs ++ left = cc in
    let first : e ≡ f = cc in
    let more = front_of es fs left rest in
    (more.0, ap (λ (x : Event). x ∷ es) first ∙ ap (λ (xs : List Event). f ∷ xs) more.1)

same_events : (es fs : List Event) → map items.Event es ≡ map items.Event fs → es ≡ fs
same_events [] [] h = refl
same_events [] (f ∷ fs) h = absurd (cc)
same_events (e ∷ es) [] h = absurd (cc)
same_events (e ∷ es) (f ∷ fs) h =
    let rest : map items.Event es ≡ map items.Event fs = cc in
    let first : e ≡ f = cc in
    ap (λ (x : Event). x ∷ es) first ∙ ap (λ (xs : List Event). f ∷ xs) (same_events es fs rest)

-- they have no fault
no_fault : (es fs : List Event) (left : List Item) → map items.Event es ≡ (map items.Event fs ++ items.Fault ∷ []) ++ left → ⊥
no_fault [] [] left h = absurd (cc)
no_fault [] (f ∷ fs) left h = absurd (cc)
no_fault (e ∷ es) [] left h = absurd (cc)
no_fault (e ∷ es) (f ∷ fs) left h = no_fault es fs left (cc)

-- ---- a run over items that run through neither strays, nor comes to their end, nor to a fault

not_stray : (p : Plan) (script_items left : List Item) (k : ℕ) (r finished : Record) (e : Event) → RunsThrough p script_items → IsStray p k r finished e
    → RunTakes (Err (errors.Stray k)) r script_items left → ⊥
not_stray p script_items left k r finished e t s takes =
    let events : events_of r ≡ events_of finished ++ e ∷ [] =
    ap events_of s.closed.closed ∙ events-tell (Got e ∷ finished) (closing_actions p finished (Some e)) in
    let begin : map items.Event t.events ≡ map items.Event (events_of finished ++ e ∷ []) ++ left =
    sym t.only_events ∙ takes.taken ∙ ap (λ (xs : List Event). map items.Event xs ++ left) events in
    let more = front_of t.events (events_of finished ++ e ∷ []) left begin in
    s.misfit (t.each_fits finished e more.0 s.closed.right s.closed.goes_on (more.1 ∙ append_assoc (events_of finished) (e ∷ []) more.0))

not_out : (p : Plan) (script_items left : List Item) (r finished : Record) → RunsThrough p script_items → IsClosed p r finished None
    → RunTakes (Err errors.OutOfEvents) r script_items left → ⊥
not_out p script_items left r finished t s takes =
    let events : events_of r ≡ events_of finished = ap events_of s.closed ∙ events-tell finished (closing_actions p finished None) in
    let all : map items.Event t.events ≡ map items.Event (events_of finished) =
    sym t.only_events ∙ takes.taken ∙ ap (λ (xs : List Item). map items.Event (events_of r) ++ xs) takes.left ∙ append-nil (map items.Event (events_of r))
    ∙ ap (map items.Event) events in
    let passed : waits_are_over p finished ≡ true = t.passes finished s.right (same_events t.events (events_of finished) all) in
    let ended : has_ended p finished ≡ true = rw passed refl in
    false≢true (sym s.goes_on ∙ ended)

-- it doesn't end otherwise than by its shutdown
not_early : (p : Plan) (end : StepEnd) (script_items left : List Item) (r finished : Record) → (EndsServed end → ⊥) → RunsThrough p script_items
    → IsEndedSo p end r finished → script_items ≡ map items.Event (events_of r) ++ left → ⊥
not_early p end script_items left r finished never t s taken =
    let events : events_of r ≡ events_of finished = ap events_of s.closed ∙ events-tell finished (closing_actions p finished None) in
    let begin : map items.Event t.events ≡ map items.Event (events_of finished) ++ left =
    sym t.only_events ∙ taken ∙ ap (λ (xs : List Event). map items.Event xs ++ left) events in
    let more = front_of t.events (events_of finished) left begin in
    never (subst EndsServed (sym s.ended) (t.ends_served finished more.0 s.right more.1))

not_fault : (p : Plan) (script_items left : List Item) (r : Record) → RunsThrough p script_items → RunTakes (Err errors.HostFault) r script_items left → ⊥
not_fault p script_items left r t takes = no_fault t.events (events_of r) left (sym t.only_events ∙ takes.taken)

-- a text is one script
one_script : (bytes : List ℕ) (p q : Parts) → script bytes ≡ Ok p → script bytes ≡ Ok q → p ≡ q
one_script bytes p q e f = cc

-- a text of the run of a script is one of this script's
ran_of : (opt : Opt) (bytes : List ℕ) (parts : Parts) (end : RunEnd) (out : List ℕ) → script bytes ≡ Ok parts → RunText opt (Some bytes) end out
    → RanText opt parts end out
ran_of opt bytes parts end out says t = subst (λ (q : Parts). RanText opt q end out) (one_script bytes t.0 parts t.1.1.says says) t.1.0

-- words that are taken aren't refused
not_refused : (words : List (List ℕ)) → AcceptsWords words → RefusesWords words → ⊥
not_refused words a (size, inl never) = never a.run
not_refused words a (size, inr refused) = refused.not_taken a.flags

-- a run over items that run through, with a configuration that is accepted, goes through its shutdown
pub through_served : (opt : Opt) (parts : Parts) (end : RunEnd) (r : Record) → judged (merged opt parts.conf) ≡ Ok tt
    → RunsThrough (plan_of opt parts) parts.items → IsRunOf opt parts end r → end ≡ Served
through_served opt parts Served r c t run = refl
through_served opt parts Tested r c t run =
    absurd (not_early (plan_of opt parts) ends.Tested parts.items run.left r run.tells.ends.0 (λ e. e) t run.tells.ends.1 run.takes.taken)
through_served opt parts (Parent n) r c t run =
    absurd (not_early (plan_of opt parts) (ends.Parent n) parts.items run.left r run.tells.ends.0 (λ e. e) t run.tells.ends.1 run.takes.taken)
through_served opt parts (Config key) r c t run = absurd (let refused = run.judged in cc)
through_served opt parts HostFault r c t run = absurd (not_fault (plan_of opt parts) parts.items run.left r t run.takes)
through_served opt parts (Bootstrap error) r c t run =
    absurd (not_early (plan_of opt parts) (ends.Ended error) parts.items run.left r run.tells.ends.0 (λ e. e) t run.tells.ends.1 run.takes.taken)
through_served opt parts (Stray k) r c t run =
    absurd (not_stray (plan_of opt parts) parts.items run.left k r run.tells.ends.0 run.tells.ends.1.0 t run.tells.ends.1.1 run.takes)
through_served opt parts OutOfEvents r c t run = absurd (not_out (plan_of opt parts) parts.items run.left r run.tells.ends.0 t run.tells.ends.1 run.takes)

-- the line of the answer to a whole script says that the run served, or that the source failed
pub whole_is_served : (words : List (List ℕ)) (bytes : List ℕ) (parts : Parts) (line : StatusLine) (out : List ℕ) (before now : ℕ)
    → IsWholeScript words bytes parts → IsAnswer words (Some bytes) line out → Faults line before now → (Rose before now → ⊥) → status_of line ≡ 0
whole_is_served words bytes parts Words out before now w a f n = absurd (not_refused words w.takes a.0)
whole_is_served words bytes parts ReadFault out before now w a f n = absurd (n f)
whole_is_served words bytes parts (Line k) out before now w a f n = absurd (by a.2)
  where
    by : RefusesIn bytes k → ⊥
    by (inl (short, inl refused)) = let said : script bytes ≡ Ok parts = w.is_script.says in cc
    by (inl (short, inr edge)) =
        refused_some parts.services edge.1.1.0
        (subst (λ (q : Parts). RefusesAt q.services edge.1.1.0) (one_script bytes edge.0 parts edge.1.0 w.is_script.says) edge.1.1.1.0) w.is_script.edges
    by (inr long) = let short = w.is_script.short in omega (arith, long.1)
whole_is_served words bytes parts (Run end) out before now w a f n =
    by a
  where
    by : IsAnswer words (Some bytes) (Run end) out → end_status end ≡ 0
    by (inl ran) =
        let run = ran_of (flags_of words) bytes parts end out w.is_script.says ran.1 in
        ap end_status (through_served (flags_of words) parts end run.0 w.runs w.through run.1.run)
    by (inr made) = absurd (run_not_made words made.1.0 w.takes.run made.1.1)
