-- How the run of a script's server ends.
use Rattle.std.proofs.Common.{◌≡◌, ℕ, zero, suc, true, not, List, [], ◌∷◌, ◌++◌, length, map, Option, Some, unwrap_or, Ok, Err, None, refl, ap, ◌∙◌, subst, arith, ◌<◌, length-append, All, reverse, IfOk, OnOk, string_bytes}
use Rattle.std.specs.Prelude.{Result}
use Rattle.std.specs.List.{slice_get}
use Rattle.std.specs.Option.{option_map}
use Rattle.svc_conf.specs.declared.server.configuration.Opt.{Opt}
use Rattle.svc_conf.specs.declared.server.configuration.ServerConf.{ServerConf}
use Rattle.svc_conf.specs.ConfigurationText.{merged}
use Rattle.std.proofs.lemmas.List.{length-map}
use Rattle.svc_record.specs.declared.plan.Plan.{Plan}
use Rattle.svc_record.specs.declared.item.Item.{Item}
use Rattle.svc_record.specs.declared.item.Item.TheVariants as items
use Rattle.svc_record.specs.Record.{Record, EachEntry}
use Rattle.svc_record.specs.Connections.{Verdict, said_right}
use Rattle.svc_socket.specs.declared.peer.PeerAddr.{PeerAddr}
use Rattle.svc_socket.specs.declared.reading.IpNumber.{IpNumber}
use Rattle.svc_record.specs.Tail.{closing_actions}
use Rattle.svc_record.specs.declared.entry.Entry.{Entry}
use Rattle.svc_record.specs.Text.{text_of, EntryFits}
use Rattle.svc_text.specs.Script.{Parts}
use Rattle.svc_text.specs.Filters.{is_blocked, script_verdict}
use Rattle.svc_text.specs.ScriptPlans.{plan_of}
use Rattle.svc_server.specs.declared.run.Outcome.{Outcome}
use Rattle.svc_server.specs.declared.run.RunError.{RunError}
use Rattle.svc_server.specs.declared.run.RunError.TheVariants.{TurnsSpent}
use Rattle.svc_server.specs.Hosts.{Account}
use Rattle.svc_server.specs.Runs.{events_of, RunEnds, RunTells, RunTakes}
use Rattle.svc_server.proofs.TurnLemmas.{events-tell}
use Rattle.svc_main.specs.declared.answering.Answer.{Answer}
use Rattle.svc_main.specs.declared.outcome.RunEnd.{RunEnd}
use Rattle.svc_main.specs.declared.outcome.StatusLine.TheVariants.{Run}
use Rattle.svc_main.specs.Status.{status_line, StatusFits}
use Rattle.svc_services.specs.declared.script_filter.ScriptFilter.{ScriptFilter}
use Rattle.svc_services.specs.BlockedLists.{blocked_by}
use Rattle.svc_main.specs.Program.{answer_of, turns_of, Judges, TellsRun, IsRunOf, RanText}

-- what a run answers, by another name of its answer
pub ends_by : (p : Plan) (turns : ℕ) (given answer : Result Outcome RunError) (r : Record) → given ≡ answer → RunEnds p turns given r → RunEnds p turns answer r
ends_by p turns given answer r same h = subst (λ (x : Result Outcome RunError). RunEnds p turns x r) same h

-- the filters of a script answer what its lines say
pub one_verdict : (blocked : List (List IpNumber)) (filters : List ScriptFilter) (number : ℕ) (x : Option PeerAddr) → map blocked_by filters ≡ blocked
    → unwrap_or (option_map (λ (f : ScriptFilter). not (is_blocked f.blocked x)) (slice_get filters number)) true
    ≡ not (is_blocked (unwrap_or (slice_get blocked number) []) x)
one_verdict blocked filters number x are =
    at filters number ∙ ap (λ (lists : List (List IpNumber)). not (is_blocked (unwrap_or (slice_get lists number) []) x)) are
  where
    bare : (y : Option PeerAddr) → true ≡ not (is_blocked [] y)
    bare None = refl
    bare (Some peer) = refl

    at : (fs : List ScriptFilter) (n : ℕ)
        → unwrap_or (option_map (λ (f : ScriptFilter). not (is_blocked f.blocked x)) (slice_get fs n)) true
        ≡ not (is_blocked (unwrap_or (slice_get (map blocked_by fs) n) []) x)
    at [] n = bare x
    at (f ∷ fs) zero = refl
    at (f ∷ fs) (suc n) = at fs n

-- what stands of a run of the script's plan
pub tells_by : (opt : Opt) (parts : Parts) (p : Plan) (filters : List ScriptFilter) (verdict : Verdict) (turns : ℕ) (given answer : Result Outcome RunError)
    (a : Account) → given ≡ answer → p ≡ plan_of opt parts
    → ((number : ℕ) (asked : List (Option PeerAddr)) (x : Option PeerAddr) → verdict number asked x ≡ script_verdict parts.services number asked x)
    → RunTells verdict p turns given a → TellsRun parts.services (plan_of opt parts) turns answer a.entries
tells_by opt parts p filters verdict turns given answer a same plan answers h =
    let by_words : verdict ≡ script_verdict parts.services = λ i number asked x. answers number asked x i in
    subst (λ (q : Plan). TellsRun parts.services q turns answer a.entries) plan (record {
      ends = ends_by p turns given answer a.entries same h.ends;
      said = subst (λ (v : Verdict). EachEntry (λ e before. said_right v p e before ≡ true) a.entries) by_words h.said;
    })

pub takes_by : (given answer : Result Outcome RunError) (r : Record) (before now : List Item) → given ≡ answer → RunTakes given r before now
    → RunTakes answer r before now
takes_by given answer r before now same h = subst (λ (x : Result Outcome RunError). RunTakes x r before now) same h

-- with fewer items than turns, the turns aren't spent
pub turns_left : (p : Plan) (turns : ℕ) (r : Record) (before now : List Item) → RunEnds p turns (Err TurnsSpent) r → RunTakes (Err TurnsSpent) r before now
    → length before < turns → ⊥
turns_left p turns r before now spent takes few =
    let events : length (events_of r) ≡ length (events_of spent.0) =
    ap length (ap events_of spent.1.closed.closed ∙ events-tell spent.0 (closing_actions p spent.0 None)) in
    let count : length (events_of spent.0) ≡ turns = spent.1.count in
    let all : length before ≡ length (map items.Event (events_of r) ++ now) = ap length takes.taken in
    omega (arith, events, count, all, length-append (map items.Event (events_of r)) now, length-map (events_of r) items.Event, few)

-- the run of a script, by other names of its configuration, turns and items
pub run_is : (opt : Opt) (parts : Parts) (end : RunEnd) (r : Record) (conf : ServerConf) (turns : ℕ) (before left : List Item) → conf ≡ merged opt parts.conf
    → Judges end conf → turns ≡ turns_of parts
    → TellsRun parts.services (plan_of opt parts) turns (answer_of end) r → before ≡ parts.items → RunTakes (answer_of end) r before left
    → IsRunOf opt parts end r
run_is opt parts end r conf turns before left configured judged counted tells ahead takes = record {
  judged = subst (Judges end) configured judged;
  tells = subst (λ (n : ℕ). TellsRun parts.services (plan_of opt parts) n (answer_of end) r) counted tells;
  left = left;
  takes = subst (λ (b : List Item). RunTakes (answer_of end) r b left) ahead takes;
}

-- where memory was found for the text of the record of a run
pub ran_run : {E : Type 0} (opt : Opt) (parts : Parts) (end : RunEnd) (shown : List Entry) (r : Record) (result : Result Answer E)
    → IfOk result (λ (a : Answer). (a.line ≡ Run end) × (string_bytes a.text ≡ text_of shown ++ status_line (Run end)))
    → OnOk result (All EntryFits shown × StatusFits (Run end))
    → shown ≡ reverse r → IsRunOf opt parts end r → IfOk result (λ (a : Answer). (x : RunEnd) × (a.line ≡ Run x) × RanText opt parts x (string_bytes a.text))
ran_run opt parts end shown r (Ok a) said numbers reversed run = (
  end,
  said.0,
  (
    r,
    record {
      printed = said.1 ∙ ap (λ es. text_of es ++ status_line (Run end)) reversed;
      numbers = subst (All EntryFits) reversed numbers.0;
      number = numbers.1;
      run = run;
    },
  ),
)
ran_run opt parts end shown r (Err e) said numbers reversed run = tt
