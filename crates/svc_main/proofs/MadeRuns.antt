-- The run of the generator's services serves, and what is counted in it.
use Rattle.std.proofs.Common.{◌≡◌, ℕ, ◌*◌, ◌≤◌, Bool, true, false, cond, List, ◌++◌, string_bytes, refl, sym, ap, subst, ◌∙◌, arith, Ok, Err, IfOk}
use Rattle.std.specs.Prelude.{Result}
use Rattle.svc_record.specs.declared.action.StepEnd.TheVariants as ends
use Rattle.svc_record.specs.Record.{Record, times}
use Rattle.svc_record.specs.Drain.{waits_are_over}
use Rattle.svc_server.specs.Runs.{events_of}
use Rattle.svc_main.specs.declared.answering.Answer.{Answer}
use Rattle.svc_main.specs.declared.outcome.RunEnd.{RunEnd}
use Rattle.svc_main.specs.declared.outcome.RunEnd.TheVariants.{Served}
use Rattle.svc_main.specs.declared.outcome.StatusLine.TheVariants.{Run}
use Rattle.svc_main.specs.Status.{status_line}
use Rattle.svc_main.specs.Counts.{is_any_bind, is_any_close, count_lines, summary, FitCounts}
use Rattle.svc_main.specs.Generator.{made_parts, made_plan, made_events, no_flags}
use Rattle.svc_main.specs.Program.{EndsServed, RunsThrough, IsRunOf, PrintsCounts, CountsText}
use Rattle.svc_main.proofs.MadeThrough.{made-fits, made-goes, made-passes}
use Rattle.svc_main.proofs.MadeCounts.{Done, all-events, count-starts, count-binds, count-closes}
use Rattle.svc_main.proofs.WholeLemmas.{front_of, through_served}

-- the generator's events run through
through : (n : ℕ) → n ≤ 1024 → RunsThrough (made_plan n) (made_parts n).items
through n few = record {
  events = made_events n;
  only_events = refl;
  each_fits = λ q e more right goes h. made-fits n q e more few right goes h;
  ends_served = λ q more right h. subst EndsServed (sym (made-goes n q more h)) (either (waits_are_over (made_plan n) q));
  passes = λ q right h. made-passes n q h;
}
  where
    either : (b : Bool) → EndsServed (cond b ends.Served ends.On)
    either true = tt
    either false = tt

pub made_served : (n : ℕ) (end : RunEnd) (r : Record) → n ≤ 1024 → IsRunOf no_flags (made_parts n) end r → end ≡ Served
made_served n end r few run = through_served no_flags (made_parts n) end r refl (through n few) run

done : (n : ℕ) (r : Record) → n ≤ 1024 → IsRunOf no_flags (made_parts n) Served r → Done n r
done n r few run =
    let served = run.tells.ends in
    let front = front_of (made_events n) (events_of r) run.left run.takes.taken in
    record { few = few; served = served.served; right = served.right; events = all-events n r front.0 served.served front.1 }

prints : (n : ℕ) (out : List ℕ) (r : Record) → n ≤ 1024 → IsRunOf no_flags (made_parts n) Served r → out ≡ summary r ++ status_line (Run Served)
    → PrintsCounts n out r
prints n out r few run printed =
    let d = done n r few run in
    let starts = count-starts n r d in
    let binds = count-binds n r d in
    let closes = count-closes n r d in
    record {
      printed =
          printed
          ∙ ap (λ (m : ℕ). count_lines m (times is_any_bind r) (times is_any_close r) ++ status_line (Run Served)) starts
          ∙ ap (λ (m : ℕ). count_lines n m (times is_any_close r) ++ status_line (Run Served)) binds
          ∙ ap (λ (m : ℕ). count_lines n (2 * n) m ++ status_line (Run Served)) closes;
      run = run;
      events = d.events;
      starts = starts;
      binds = binds;
      closes = closes;
    }

-- its counts are below 2^64
pub made_fit : (n : ℕ) (end : RunEnd) (r : Record) → n ≤ 1024 → IsRunOf no_flags (made_parts n) end r → FitCounts r
made_fit n end r few run =
    let served : end ≡ Served = made_served n end r few run in
    let d = done n r few (subst (λ (x : RunEnd). IsRunOf no_flags (made_parts n) x r) served run) in
    record {
      starts_fit = omega (arith, few, count-starts n r d);
      binds_fit = omega (arith, few, count-binds n r d);
      closes_fit = omega (arith, few, count-closes n r d);
    }

-- where memory was found for the counts
pub ran_made : {E : Type 0} (n : ℕ) (end : RunEnd) (r : Record) (result : Result Answer E) → n ≤ 1024
    → IfOk result (λ (a : Answer). (a.line ≡ Run end) × (string_bytes a.text ≡ summary r ++ status_line (Run end))) → IsRunOf no_flags (made_parts n) end r
    → IfOk result (λ (a : Answer). (a.line ≡ Run Served) × CountsText n (string_bytes a.text))
ran_made n end r (Ok a) few said run =
    let served : end ≡ Served = made_served n end r few run in (
      said.0 ∙ ap Run served,
      (
        r,
        prints n (string_bytes a.text) r few (subst (λ (x : RunEnd). IsRunOf no_flags (made_parts n) x r) served run)
            (said.1 ∙ ap (λ (x : RunEnd). summary r ++ status_line (Run x)) served),
      ),
    )
ran_made n end r (Err e) few said run = tt
