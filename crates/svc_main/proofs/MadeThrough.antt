-- The events of the generator run through.
use Rattle.std.proofs.Common.{◌≡◌, ℕ, ◌≤◌, Bool, true, false, cond, List, [], ◌∷◌, ◌++◌, Some, None, refl, sym, ap, ◌∙◌, inl, inr, append-nil}
use Rattle.std.specs.List.{list_any}
use Rattle.std.proofs.lemmas.Bool.{and_from, not_from_false, MatchBool-at_false, or_right}
use Rattle.svc_record.specs.declared.event.Event.{Event}
use Rattle.svc_record.specs.declared.event.Event.TheVariants as events
use Rattle.svc_record.specs.declared.event.ShutdownSignal.TheVariants.{FastShutdown}
use Rattle.svc_record.specs.declared.entry.Entry.TheVariants.{Got}
use Rattle.svc_record.specs.declared.action.StepEnd.TheVariants.{On, Served}
use Rattle.svc_record.specs.Record.{Record, has, is_signal, signal_of, first_or, has_cut}
use Rattle.svc_record.specs.Boot.{is_side_parent, is_bad_message}
use Rattle.svc_record.specs.Ends.{is_no_sender, is_receive_failure, step_end, has_ended}
use Rattle.svc_record.specs.Drain.{waits_are_over, has_passed_by}
use Rattle.svc_record.specs.Fits.{Fits}
use Rattle.svc_record.specs.Right.{Right, EndedRight, OpenRight}
use Rattle.svc_server.specs.Runs.{events_of}
use Rattle.svc_main.specs.Generator.{made_plan, made_events, made_events_to}
use Rattle.svc_main.proofs.MadeRecords.{came, has-came, none-times, last-event, signal-tell, is_signal_event, no-signal}
use Rattle.svc_main.proofs.MadeLists.{is_usual, place-of, front-of, front-usual, front-unsigned, front-in-use, all-usual}
use Rattle.svc_main.proofs.MadeFits.{is_odd, usual-came, came-none, came-implied}
use Rattle.svc_main.proofs.MadeRows.{Here, start-row, connection-row, end-row}

signal-event : (e : Event) → is_signal (Got e) ≡ true → is_signal_event e ≡ true
signal-event (events.Signal kind) h = refl
signal-event e h = absurd cc

-- before each event
here-of : (n : ℕ) (q : Record) (e : Event) (more : List Event) → n ≤ 1024 → Right (made_plan n) q → has_ended (made_plan n) q ≡ false
    → made_events n ≡ events_of q ++ e ∷ more → Here n q
here-of n q e more few right goes h =
    let front = front-of n (events_of q) e more (sym h) in
    record {
      few = few;
      going = MatchBool-at_false (EndedRight (made_plan n) q) (OpenRight (made_plan n) q) goes right.settled.0;
      asks = right.asks.in_turn;
      odd = usual-came (events_of q) (front-usual n (events_of q) front.0 front.1);
      unsigned = has-came is_signal (λ a. refl) q
          ∙ came-implied (λ x. is_signal (Got x)) is_signal_event q signal-event (front-unsigned n (events_of q) front.0 front.1);
      once = λ s. front-in-use n s (events_of q) front.0 front.1;
    }

pub made-fits : (n : ℕ) (q : Record) (e : Event) (more : List Event) → n ≤ 1024 → Right (made_plan n) q → has_ended (made_plan n) q ≡ false
    → made_events n ≡ events_of q ++ e ∷ more → Fits (made_plan n) q e
made-fits n q e more few right goes h =
    let here = here-of n q e more few right goes h in
    and_from _ _ (not_from_false _ goes) (elim (place-of n (events_of q) e more (sym h)) [
      | inl start ↦ start-row n q e here start
      | inr later ↦ elim later [
        | inl connection ↦ connection-row n q e here connection
        | inr end ↦ end-row n q e here end
      ]
    ])

-- the run ends by its shutdown alone
pub made-goes : (n : ℕ) (q : Record) (more : List Event) → made_events n ≡ events_of q ++ more
    → step_end (made_plan n) q ≡ cond (waits_are_over (made_plan n) q) Served On
made-goes n q more h =
    let odd : came q is_odd ≡ false = usual-came (events_of q) (all-usual n (events_of q) more h) in
    let parent : has is_side_parent q ≡ false = has-came is_side_parent (λ a. refl) q ∙ came-none (λ e. is_side_parent (Got e)) q f odd in
    let failed : has is_receive_failure q ≡ false = has-came is_receive_failure (λ a. refl) q ∙ came-none (λ e. is_receive_failure (Got e)) q g odd in
    let absent : has is_no_sender q ≡ false = has-came is_no_sender (λ a. refl) q ∙ came-none (λ e. is_no_sender (Got e)) q k odd in
    let bad : has is_bad_message q ≡ false = has-came is_bad_message (λ a. refl) q ∙ came-none (λ e. is_bad_message (Got e)) q m odd in
    rw (parent, failed, none-times is_no_sender q absent, bad) refl
  where
    f : (e : Event) → is_usual e ≡ true → is_side_parent (Got e) ≡ false
    f (events.Side side) u = absurd cc
    f e u = refl

    g : (e : Event) → is_usual e ≡ true → is_receive_failure (Got e) ≡ false
    g events.ReceiveFailed u = absurd cc
    g e u = refl

    k : (e : Event) → is_usual e ≡ true → is_no_sender (Got e) ≡ false
    k events.NoSenderYet u = absurd cc
    k e u = refl

    m : (e : Event) → is_usual e ≡ true → is_bad_message (Got e) ≡ false
    m (events.Received bytes fds) u = absurd cc
    m e u = refl

-- with all of them it has passed
pub made-passes : (n : ℕ) (q : Record) → made_events n ≡ events_of q → waits_are_over (made_plan n) q ≡ true
made-passes n q h =
    let last = last-event q (made_events_to n) (events.Signal FastShutdown) (sym h) in
    let none : signal_of last.before ≡ None =
    no-signal last.before (ap (λ xs. came-in xs) last.events ∙ front-unsigned n (made_events_to n) [] (sym (append-nil (made_events_to n)))) in
    let kind : signal_of q ≡ Some FastShutdown =
    ap signal_of last.cut ∙ signal-tell (Got (events.Signal FastShutdown) ∷ last.before) last.told ∙ ap (λ o. first_or o FastShutdown) none in
    or_right (has_cut q) (has_passed_by (made_plan n) q (signal_of q)) (ap (has_passed_by (made_plan n) q) kind)
  where
    came-in : List Event → Bool
    came-in xs = list_any is_signal_event xs
