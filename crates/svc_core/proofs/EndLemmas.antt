-- What the end of a run leaves is right.
use Rattle.std.proofs.Common.{ℕ, Bool, true, false, ◌&&◌, ◌||◌, not, ◌==◌, List, [], ◌∷◌, ◌++◌, ◌≡◌, refl, ap, sym, ◌∙◌, subst, arith, if◌then◌else◌, map, ◌<◌, ◌≤◌, append-nil, MatchBool, length, inl, inr}
use Rattle.std.specs.Bool.{OnTrue}
use Rattle.std.specs.Prelude.{None}
use Rattle.std.specs.List.{filter, list_any}
use Rattle.std.proofs.lemmas.Bool.{and_parts, or_parts, or_left, or_right, eq-eqb, cases_Bool}
use Rattle.svc_record.specs.declared.plan.Plan.{Plan}
use Rattle.svc_record.specs.declared.entry.Entry.{Entry}
use Rattle.svc_record.specs.declared.entry.Entry.TheVariants.{Got, Told}
use Rattle.svc_record.specs.declared.action.Action.{Action}
use Rattle.svc_record.specs.declared.action.Action.TheVariants.{Cut, Close, Phase, Stop}
use Rattle.svc_record.specs.declared.action.ExecutionPhase.TheVariants.{ShutdownRuntimes, Terminated}
use Rattle.svc_record.specs.declared.action.StepEnd.TheVariants.{Served as ServedEnd}
use Rattle.svc_record.specs.declared.event.Event.{Event}
use Rattle.svc_record.specs.Record.{Record, has, now, times, tell, is_signal, is_running, is_bootstrap_complete, from_the_start, before_runtimes, EachEntry, EachEarlier}
use Rattle.svc_record.specs.AskRules.{FailsRight, ask_due, ask_known}
use Rattle.svc_record.specs.Boot.{BootRight, may_begin, has_begun, runs, start_after_boot}
use Rattle.svc_record.specs.Closes.{ClosesRight, close_once}
use Rattle.svc_record.specs.Connections.{ConnRight, connection_known, live_connections}
use Rattle.svc_record.specs.Descriptors.{Descriptor, opened_descriptors, is_opened, is_close}
use Rattle.svc_record.specs.Drain.{Drain, PhasesRight, is_ending, waits_are_over, every_moment_right, last_actions, live_numbers}
use Rattle.svc_base.specs.NumberSets.{ascending}
use Rattle.svc_record.specs.Ends.{has_ended, has_ended_early, ends_tested, TestedRight}
use Rattle.svc_record.specs.Endpoints.{EndpointsRight}
use Rattle.svc_record.specs.Failed.{has_failed, is_fail}
use Rattle.svc_record.specs.Fits.{fits, fits_row, event_fits}
use Rattle.svc_record.specs.Offer.{one_ask}
use Rattle.svc_record.specs.Right.{Right, OpenRight, EndedRight, SettledRight, ServesRight, LastStepRight, PassedRight, Served, in_service, close_due}
use Rattle.svc_record.specs.Starts.{StartsRight, is_due, is_started, is_start, is_ready_event, is_ended_event, start_due, start_known}
use Rattle.svc_record.specs.Tail.{numbers_in}
use Rattle.svc_record.specs.Validity.{IsInOrder}
use Rattle.svc_record.proofs.Closing.{tell-append, is_opened-in, numbers-opened, in_live, tally_live, all_closed}
use Rattle.svc_record.proofs.Tallies.{is_in, tally, if_kept, one_if}
use Rattle.svc_graph.specs.declared.plan.Kind.TheVariants.{Bootstrap as BootstrapKind}
use Rattle.svc_record.specs.Plans.{service_count, services, has_kind}
use Rattle.svc_endpoints.specs.EndpointsState.{open_numbers}
use Rattle.svc_boot.specs.ForkState.{may_run}
use Rattle.svc_boot.specs.BootState.{BootStands}
use Rattle.svc_boot.specs.BootFacts.{IsBootSettled, has_no_boot_action}
use Rattle.svc_boot.proofs.Foreign as foreign
use Rattle.svc_boot.proofs.BootEnds.{boot-right, tested-is, early-is, settled-on}
use Rattle.svc_boot.proofs.Begun.{may_begin-is}
use Rattle.svc_offer.specs.OfferState.{OfferStands, IsOfferSettled, over_since}
use Rattle.svc_offer.specs.OfferFacts.{has_no_offer_action}
use Rattle.svc_offer.proofs.Foreign as offers
use Rattle.svc_offer.proofs.OfferRules.{offer-right, one-ask, forward-fits}
use Rattle.svc_drain.specs.DrainState.{passes}
use Rattle.svc_drain.specs.DrainEffects.{end_told, stop_after}
use Rattle.svc_record.proofs.CutLaws.{unsignalled-unpassed}
use Rattle.svc_drain.proofs.Passing.{passed-is, passed-tell}
use Rattle.svc_drain.proofs.Terminating.{ending-is, marks-at-end}
use Rattle.svc_connections.specs.ConnectionsState.{numbers}
use Rattle.svc_connections.proofs.Ending.{cut-right, known-end, none-live}
use Rattle.svc_core.specs.CoreData.{CoreData, with_end}
use Rattle.svc_core.specs.Passes.{VisitedUpTo, may_start}
use Rattle.svc_core.specs.Stands.{Answered, StepRight}
use Rattle.svc_core.proofs.StartsLemmas.{is_due-tell}
use Rattle.svc_core.specs.StartsState.{StartsStand, AreFailed}
use Rattle.svc_core.proofs.PassLemmas.{are-failed, may-free}
use Rattle.svc_core.proofs.OpenLemmas.{starts-right, endpoints-late, running-right}
use Rattle.svc_core.proofs.ClosesLemmas.{has-closes, times-other, runtimes-closes, failed-closes, each-closes, has-cuts, times-cuts, runtimes-cuts, failed-cuts, each-cuts, closes-once, has-times}
use Rattle.svc_core.proofs.RecordLemmas.{EachEarlier-tell, EachEarlier-weaker, EachEntry-weaker, now-tell, signal-none, has-stays, on_true, to_false, to_true, not_false, not_true}

on_and : (a b : Bool) (P : Type 0) → OnTrue a P → OnTrue (a && b) P
on_and true true P h = h
on_and true false P h = tt
on_and false b P h = tt

and_not : (a b : Bool) → b ≡ true → (a && not b) ≡ false
and_not a b h = grind arith

-- what is open serves
serves-open : (p : Plan) (q : Record) → OpenRight p q → ServesRight p q
serves-open p q opened = record {
  closes = to_false (has is_signal q) (ClosesRight p q) opened.closes;
  starts = on_and (from_the_start q) (not (has is_signal q)) (StartsRight p q) opened.starts;
  endpoints = opened.endpoints;
}

-- what stands before an event hasn't ended, so it is open
unended-before : (p : Plan) (q : Record) (e : Event) → fits p q e ≡ true → has_ended p q ≡ false
unended-before p q e h = not_ended (has_ended p q) (fits_row p q e) h
  where
    not_ended : (a c : Bool) → (not a && c) ≡ true → a ≡ false
    not_ended a c k = grind arith

unpassed-before : (p : Plan) (q : Record) → has_ended p q ≡ false → waits_are_over p q ≡ false
unpassed-before p q h = (or_parts (waits_are_over p q) (ends_tested p q) (or_parts (waits_are_over p q || ends_tested p q) (has_ended_early p q) h).0).0

silent-earlier : (p : Plan) (q : Record) → EachEntry (λ e before. event_fits p e before ≡ true) q → EachEarlier (λ before. waits_are_over p before ≡ false) q
silent-earlier p [] h = tt
silent-earlier p (Got e ∷ q) h = (unpassed-before p q (unended-before p q e h.0), silent-earlier p q h.1)
silent-earlier p (Told a ∷ q) h = silent-earlier p q h.1

open-case : (c : Bool) (A B : Type 0) → c ≡ false → MatchBool c A B → B
open-case true A B e h = absurd (cc)
open-case false A B e h = h

ended-case : (c : Bool) (A B : Type 0) → c ≡ true → A → MatchBool c A B
ended-case true A B e h = h
ended-case false A B e h = absurd (cc)

open-earlier : (p : Plan) (q : Record) → EachEntry (λ e before. event_fits p e before ≡ true) q → EachEarlier (SettledRight p) q → EachEarlier (OpenRight p) q
open-earlier p [] h k = tt
open-earlier p (Got e ∷ q) h k = (open-case (has_ended p q) (EndedRight p q) (OpenRight p q) (unended-before p q e h.0) k.0, open-earlier p q h.1 k.1)
open-earlier p (Told a ∷ q) h k = open-earlier p q h.1 k

pub numbers-tell : (q : Record) (told : List Action) → numbers_in (tell q told) ≡ numbers_in q
numbers-tell q [] = refl
numbers-tell q (a ∷ told) = numbers-tell (Told a ∷ q) told

close-due : (p : Plan) (e : Entry) (b : Record) → close_once p e b ≡ true → close_due p e b ≡ true
close-due p (Told (Close fd)) b h = (and_parts (is_opened p b fd) (not (has (is_close fd) b)) h).0
close-due p (Told _) b h = h
close-due p (Got e) b h = h

-- where each has a close, none is live
none-open : (r : Record) (ds : List Descriptor) → ((fd : ℕ) → is_in fd (map (λ (d : Descriptor). d.number) ds) ≡ true → has (is_close fd) r ≡ true)
    → filter (λ (d : Descriptor). not (has (is_close d.number) r)) ds ≡ []
none-open r [] f = refl
none-open r (d ∷ more) f =
    rw (f d.number (or_left (d.number == d.number) (is_in d.number (map (λ (x : Descriptor). x.number) more)) (eq-eqb d.number d.number refl)))
    (none-open r more (λ fd there. f fd (or_right (d.number == fd) (is_in fd (map (λ (x : Descriptor). x.number) more)) there)))

kept_at_most : (b c : Bool) (n : ℕ) → n ≡ if_kept b (one_if c) → n ≤ 1
kept_at_most true true n e = omega arith
kept_at_most true false n e = omega arith
kept_at_most false c n e = omega arith

and_first : (a b : Bool) → (not a && b) ≡ true → a ≡ false
and_first a b h = grind arith

and_second : (a b : Bool) → (not a && b) ≡ true → b ≡ true
and_second a b h = grind arith

module _ (core : CoreData) (q : Record) (in_order : IsInOrder core.plan core.order) (at : Answered core q) (waits : passes core.plan core.drain ≡ true) where
  -- the actions of the end, and the record with `ShutdownRuntimes`, with the cuts, with the closes, and as it ends
  abbrev p : Plan
  p = core.plan

  abbrev fds : List ℕ
  fds = ascending (live_numbers core.plan q)

  abbrev cs : List ℕ
  cs = ascending (live_connections q)

  abbrev last : List Action
  last = end_told core.plan core.drain (ascending (live_connections q)) (ascending (live_numbers core.plan q))

  abbrev runtimes_at : Record
  runtimes_at = Told (Phase ShutdownRuntimes core.drain.moment) ∷ q

  abbrev cut_at : Record
  cut_at = tell (Told (Phase ShutdownRuntimes core.drain.moment) ∷ q) (map Cut (ascending (live_connections q)))

  abbrev closed_at : Record
  closed_at = tell (tell (Told (Phase ShutdownRuntimes core.drain.moment) ∷ q) (map Cut (ascending (live_connections q))))
      (map Close (ascending (live_numbers core.plan q)))

  abbrev ended_at : Record
  ended_at = tell q (end_told core.plan core.drain (ascending (live_connections q)) (ascending (live_numbers core.plan q)))

  split : ended_at ≡ Told (Phase Terminated core.drain.moment) ∷ (Told (Stop (stop_after core.plan core.drain)) ∷ closed_at)
  split = tell-append runtimes_at (map Cut cs) (map Close fds ++ Stop (stop_after core.plan core.drain) ∷ Phase Terminated core.drain.moment ∷ [])
      ∙ tell-append cut_at (map Close fds) (Stop (stop_after core.plan core.drain) ∷ Phase Terminated core.drain.moment ∷ [])

  time : core.drain.moment ≡ now q
  time = at.going.drain.moment_is

  -- what a test that neither cuts, closes, phases nor `Stop` pass still sees
  has-end : (test : Entry → Bool) → ((f : ℕ) → test (Told (Close f)) ≡ false) → ((n : ℕ) → test (Told (Cut n)) ≡ false)
      → test (Told (Phase Terminated core.drain.moment)) ≡ false → test (Told (Stop (stop_after core.plan core.drain))) ≡ false
      → test (Told (Phase ShutdownRuntimes core.drain.moment)) ≡ false → has test ended_at ≡ has test q
  has-end test f k a b c = ap (has test) split ∙ rw (a, b) (has-closes test f cut_at fds ∙ has-cuts test k runtimes_at cs ∙ ap (λ x. x || has test q) c)

  -- a test that cuts and closes pass holds of each entry where it holds of the others
  each-end : (test : Entry → Record → Bool) → ((f : ℕ) (b : Record) → test (Told (Close f)) b ≡ true) → ((n : ℕ) (b : Record) → test (Told (Cut n)) b ≡ true)
      → test (Told (Phase Terminated core.drain.moment)) (Told (Stop (stop_after core.plan core.drain)) ∷ closed_at) ≡ true
      → test (Told (Stop (stop_after core.plan core.drain))) closed_at ≡ true
      → test (Told (Phase ShutdownRuntimes core.drain.moment)) q ≡ true → EachEntry (λ e before. test e before ≡ true) q
      → EachEntry (λ e before. test e before ≡ true) ended_at
  each-end test c k a b f h =
      subst (EachEntry (λ e before. test e before ≡ true)) (sym split)
      (a, (b, each-closes test c cut_at fds (each-cuts test k runtimes_at cs (f, h))))

  passed : waits_are_over p q ≡ true
  passed = passed-is core.plan core.drain (over_since core.offer.state) q at.going.drain at.drain ∙ waits

  end-passed : waits_are_over p ended_at ≡ true
  end-passed = passed-tell p q last ∙ passed

  -- a signal came, so the server runs
  came : has is_signal q ≡ true
  came = elim (cases_Bool (has is_signal q)) [
    | inl there ↦ there
    | inr silent ↦ absurd (let off = unsignalled-unpassed p q (signal-none q silent) in let on = passed in cc)
  ]

  end-came : has is_signal ended_at ≡ true
  end-came = has-stays is_signal q last came

  running : core.drain.running ≡ true
  running = elim (cases_Bool core.drain.running) [
    | inl on ↦ on
    | inr idle ↦ absurd (let off = unsignalled-unpassed p q (sym at.going.drain.signal_is ∙ at.going.drain.unsignalled idle) in let on = passed in cc)
  ]

  may : may_start p core.boot ≡ true
  may = sym at.runs_now ∙ running

  visited : VisitedUpTo p core.order (length core.order) q
  visited = on_true (may_start p core.boot) (VisitedUpTo p core.order (length core.order) q) may at.visited

  closed-now : now closed_at ≡ now q
  closed-now = now-tell cut_at (map Close fds) ∙ now-tell runtimes_at (map Cut cs)

  end-now : now ended_at ≡ now q
  end-now = now-tell q last

  -- the end starts nothing, and fails nothing
  end-starts : StartsStand p core.starts ended_at
  end-starts = record {
    started_is = λ s inside. at.going.starts.started_is s inside ∙ sym (has-end (is_start s) (λ f. refl) (λ n. refl) refl refl refl);
    ready_is = λ s inside. at.going.starts.ready_is s inside ∙ sym (has-end (is_ready_event s) (λ f. refl) (λ n. refl) refl refl refl);
    ended_is = λ s inside. at.going.starts.ended_is s inside ∙ sym (has-end (is_ended_event s) (λ f. refl) (λ n. refl) refl refl refl);
  }

  end-failing : (s : ℕ) → has_failed p ended_at s ≡ has_failed p q s
  end-failing s = ap (λ r. has_failed p r s) split ∙ failed-closes p cut_at fds s ∙ failed-cuts p runtimes_at cs s

  end-failed : AreFailed p core.endpoints.failed ended_at
  end-failed s inside = are-failed p core.endpoints q at.going.ends s inside ∙ sym (end-failing s)

  end-fails : FailsRight p ended_at
  end-fails s inside =
      ap (times (is_fail s)) split
      ∙ times-other (is_fail s) (λ f. refl) cut_at fds
      ∙ times-cuts (is_fail s) (λ n. refl) runtimes_at cs
      ∙ at.going.ends.fails s inside
      ∙ ap (λ b. if b then 1 else 0) (sym (end-failing s))

  got-fits : EachEntry (λ e before. event_fits p e before ≡ true) runtimes_at
  got-fits = (refl, at.going.entries.fits)

  got-closes : EachEntry (λ e before. close_once p e before ≡ true) runtimes_at
  got-closes = (refl, at.going.ends.closes_once)

  cut-closes : EachEntry (λ e before. close_once p e before ≡ true) cut_at
  cut-closes = each-cuts (close_once p) (λ n b. refl) runtimes_at cs got-closes

  -- what came is then closed, once
  closed-at-end : (fd : ℕ) → is_in fd (numbers_in q) ≡ true → times (is_close fd) ended_at ≡ 1
  closed-at-end fd there =
      ap (times (is_close fd)) split
      ∙ ap (λ told. times (is_close fd) (tell cut_at told)) (sym (append-nil (map Close fds)))
      ∙ ap (times (is_close fd)) (sym (tell-append runtimes_at (map Cut cs) (map Close fds ++ [])))
      ∙ all_closed p runtimes_at None fd got-fits got-closes there

  end-closes : EachEntry (λ e before. close_once p e before ≡ true) ended_at
  end-closes =
      subst (EachEntry (λ e before. close_once p e before ≡ true)) (sym split) (
        refl,
        (
          refl,
          closes-once p cut_at fds
              (λ g. kept_at_most (not (has (is_close g) runtimes_at)) (is_in g (numbers_in runtimes_at)) (tally g fds) (tally_live p runtimes_at g got-fits))
              (λ g there. is_opened-in p cut_at g ∙ ap (is_in g) (numbers-tell runtimes_at (map Cut cs))
              ∙ and_second (has (is_close g) q) (is_in g (numbers_in q)) (sym (in_live p q g) ∙ there))
              (λ g there. has-cuts (is_close g) (λ n. refl) runtimes_at cs
              ∙ and_first (has (is_close g) q) (is_in g (numbers_in q)) (sym (in_live p q g) ∙ there))
              cut-closes,
        ),
      )

  end-at : before_runtimes ended_at ≡ q
  end-at = ap before_runtimes split ∙ runtimes-closes cut_at fds ∙ runtimes-cuts runtimes_at cs

  end-marks : PhasesRight p ended_at
  end-marks = marks-at-end core.plan core.drain (over_since core.offer.state) q cs fds at.going.drain at.drain waits

  end-actions : ended_at ≡ tell q (last_actions p q)
  end-actions = ap (tell q) (ending-is core.plan core.drain (over_since core.offer.state) q cs at.going.drain refl)

  end-connections : ConnRight p ended_at
  end-connections = subst (ConnRight p) (sym end-actions) (cut-right p core.connections q at.going.connections)

  end-known : EachEntry (λ e before. connection_known p e before ≡ true) ended_at
  end-known = subst (EachEntry (λ e before. connection_known p e before ≡ true)) (sym end-actions) (known-end p core.connections q at.going.connections)

  end-moments : EachEntry (λ e before. every_moment_right e before ≡ true) ended_at
  end-moments =
      each-end every_moment_right (λ f b. refl) (λ n b. refl) (eq-eqb core.drain.moment (now closed_at) (time ∙ sym closed-now)) refl
      (eq-eqb core.drain.moment (now q) time) at.going.entries.moments

  end-fits : EachEntry (λ e before. event_fits p e before ≡ true) ended_at
  end-fits = each-end (event_fits p) (λ f b. refl) (λ n b. refl) refl refl refl at.going.entries.fits

  earlier-open : EachEarlier (OpenRight p) q
  earlier-open = open-earlier p q at.going.entries.fits at.going.earlier

  end-drain : Drain p ended_at
  end-drain = record {
    passes = end-passed;
    first = EachEarlier-tell (λ before. waits_are_over p before ≡ false) q last (silent-earlier p q at.going.entries.fits);
    phases = (end-marks, EachEarlier-tell (PhasesRight p) q last (EachEarlier-weaker (OpenRight p) (PhasesRight p) (λ b h. h.phases) q earlier-open));
    moments = end-moments;
    ends = subst (λ b. ended_at ≡ tell b (last_actions p b)) (sym end-at) end-actions;
    nowhere_else = ap (has is_ending) end-at ∙ at.going.no_end;
  }

  end-serves : ServesRight p ended_at
  end-serves = record {
    closes = not_false (has is_signal ended_at) (ClosesRight p ended_at) end-came;
    starts = not_true (in_service ended_at) (StartsRight p ended_at) (and_not (from_the_start ended_at) (has is_signal ended_at) end-came);
    endpoints = not_true (in_service ended_at) (EndpointsRight p ended_at) (and_not (from_the_start ended_at) (has is_signal ended_at) end-came);
  }

  -- what is told at the end belongs to no bootstrapping and to no offer
  ends-other : (m n : ℕ) (cuts closes : List ℕ)
      → has_no_boot_action (Phase ShutdownRuntimes m ∷ (map Cut cuts ++ (map Close closes ++ Stop n ∷ Phase Terminated m ∷ []))) ≡ true
  ends-other m n [] [] = refl
  ends-other m n [] (fd ∷ closes) = ends-other m n [] closes
  ends-other m n (c ∷ cuts) closes = ends-other m n cuts closes

  ends-unasked : (m n : ℕ) (cuts closes : List ℕ)
      → has_no_offer_action (Phase ShutdownRuntimes m ∷ (map Cut cuts ++ (map Close closes ++ Stop n ∷ Phase Terminated m ∷ []))) ≡ true
  ends-unasked m n [] [] = refl
  ends-unasked m n [] (fd ∷ closes) = ends-unasked m n [] closes
  ends-unasked m n (c ∷ cuts) closes = ends-unasked m n cuts closes

  end-boot-stands : BootStands p core.boot ended_at
  end-boot-stands =
      foreign.stands-tell p core.boot q last (ends-other core.drain.moment (stop_after core.plan core.drain) cs fds) (may-free p core.boot may) at.going.boot

  end-offer-stands : OfferStands p core.offer ended_at
  end-offer-stands = offers.stands-tell p core.offer q last (ends-unasked core.drain.moment (stop_after core.plan core.drain) cs fds) at.going.offer

  offer-settled : IsOfferSettled core.offer (now ended_at)
  offer-settled = subst (IsOfferSettled core.offer) (time ∙ sym end-now) at.offer

  boot-settled : IsBootSettled p core.boot (now q)
  boot-settled = subst (IsBootSettled p core.boot) time at.settled

  end-started : (s : ℕ) → is_started ended_at s ≡ is_started q s
  end-started s = has-end (is_start s) (λ f. refl) (λ n. refl) refl refl refl

  end-begun : has_begun p ended_at ≡ core.boot.begun
  end-begun =
      ap (λ w. (p.eager && w) || list_any (λ s. has_kind p BootstrapKind s && is_started ended_at s) (services p))
      (may_begin-is p core.boot ended_at end-boot-stands ∙ sym (may_begin-is p core.boot q at.going.boot))
      ∙ ap (λ w. (p.eager && may_begin p q) || w) (any-same (services p)) ∙ at.going.begun_is
    where
      any-same : (xs : List ℕ)
          → list_any (λ s. has_kind p BootstrapKind s && is_started ended_at s) xs ≡ list_any (λ s. has_kind p BootstrapKind s && is_started q s) xs
      any-same [] = refl
      any-same (x ∷ xs) = rw (end-started x, any-same xs) refl

  now-running : times is_running q ≡ (if runs p q then 1 else 0)
  now-running = running-right p core.starts core.endpoints core.boot core.offer core.drain core.connections q at.going at.runs_now

  end-running : times is_running ended_at ≡ (if runs p ended_at then 1 else 0)
  end-running =
      ap (times is_running) split ∙ times-other is_running (λ f. refl) cut_at fds ∙ times-cuts is_running (λ n. refl) runtimes_at cs ∙ at.going.drain.running_is
      ∙ ap (λ c. if c then 1 else 0) (at.runs_now ∙ sym end-runs)
    where
      end-runs : runs p ended_at ≡ may_start p core.boot
      end-runs = ap (λ c. c && (not p.eager || has is_bootstrap_complete ended_at)) (may_begin-is p core.boot ended_at end-boot-stands)
          ∙ ap (λ c. may_run p core.boot.fork && (not p.eager || c)) end-boot-stands.begin.complete_is

  last-step : LastStepRight p q
  last-step = record {
    starts = starts-right p core.order in_order q at.going.entries at.going.started_due visited;
    endpoints = endpoints-late p core.order in_order q at.going.entries at.going.started_due visited;
    closes = at.going.ends.closes;
    boot = boot-right p core.boot q at.going.boot at.going.begun_is boot-settled now-running at.going.entries.after_boot;
    offer = offer-right p core.offer q at.going.offer (subst (IsOfferSettled core.offer) time at.offer);
    connections = at.going.connections.right;
  }

  end-after : EachEntry (λ e before. start_after_boot p e before ≡ true) ended_at
  end-after = each-end (start_after_boot p) (λ f b. refl) (λ n b. refl) refl refl refl at.going.entries.after_boot

  -- what is started then was due
  end-due : (s : ℕ) → s < service_count p → is_started ended_at s ≡ true → is_due p ended_at s ≡ true
  end-due s lt here = is_due-tell p q last s (at.going.started_due s lt (sym (end-started s) ∙ here))

  end-boot : BootRight p ended_at
  end-boot = boot-right p core.boot ended_at end-boot-stands end-begun (subst (IsBootSettled p core.boot) (sym end-now) boot-settled) end-running end-after

  end-untested : ends_tested p ended_at ≡ false
  end-untested = tested-is p core.boot ended_at end-boot-stands ∙ at.untested

  end-ended : EndedRight p ended_at
  end-ended = record {
    early = not_true (has_ended_early p ended_at) _ (early-is p core.boot ended_at end-boot-stands ∙ settled-on p core.boot core.drain.moment at.settled);
    tested = not_true (ends_tested p ended_at) _ end-untested;
  }

  has-ended : has_ended p ended_at ≡ true
  has-ended = rw end-passed refl

  opened-numbers : map (λ (d : Descriptor). d.number) (opened_descriptors p ended_at) ≡ numbers_in q
  opened-numbers = numbers-opened p ended_at ∙ numbers-tell q last

  end-asks : one_ask p ended_at ≡ true
  end-asks = one-ask p core.offer ended_at end-offer-stands offer-settled (forward-fits p ended_at end-fits)

  end-served : Served p ended_at
  end-served = record {
    fits = end-fits;
    drain = end-drain;
    serves = (end-serves, EachEarlier-tell (ServesRight p) q last (EachEarlier-weaker (OpenRight p) (ServesRight p) (serves-open p) q earlier-open));
    closed_once = λ fd there. closed-at-end fd (ap (is_in fd) (sym (numbers-tell q last)) ∙ sym (is_opened-in p ended_at fd) ∙ there);
    closed_after = EachEntry-weaker (λ e before. close_once p e before ≡ true) (λ e before. close_due p e before ≡ true) (close-due p) ended_at end-closes;
    stronger = record {
      boots = end-boot-stands.boots_due;
      tries = end-boot-stands.tries_due;
      retries = end-offer-stands.retries_due;
      one_ask = (end-asks, EachEarlier-tell (λ before. one_ask p before ≡ true) q last at.going.asks);
      tested = not_true (ends_tested p ended_at) (TestedRight p ended_at) end-untested;
      closes = end-closes;
      last_step = to_true (waits_are_over p ended_at) (LastStepRight p (before_runtimes ended_at)) (subst (LastStepRight p) (sym end-at) last-step);
      moments = end-moments;
      known_starts = each-end (start_known p) (λ f b. refl) (λ n b. refl) refl refl refl at.going.entries.known_starts;
      known_asks = each-end (ask_known p) (λ f b. refl) (λ n b. refl) refl refl refl at.going.ends.asks_known;
      known_connections = end-known;
    };
  }

  end-right : Right p ended_at
  end-right = record {
    fits = end-fits;
    starts = each-end (start_due p) (λ f b. refl) (λ n b. refl) refl refl refl at.going.entries.starts;
    settled = (
      ended-case (has_ended p ended_at) (EndedRight p ended_at) (OpenRight p ended_at) has-ended end-ended,
      EachEarlier-tell
          (SettledRight p) q last at.going.earlier,
    );
    asks = record {
      in_turn = each-end (ask_due p) (λ f b. refl) (λ n b. refl) refl refl refl at.going.ends.asks_due;
      fails = (end-fails, EachEarlier-tell (FailsRight p) q last at.going.fails);
    };
    passed = to_true (waits_are_over p ended_at) (PassedRight p ended_at) (record {
      served = end-served;
      boot = end-boot;
      offer = offer-right p core.offer ended_at end-offer-stands offer-settled;
      connections = end-connections;
    });
    stronger = end-served.stronger;
  }

  end-closed : live_numbers p ended_at ≡ []
  end-closed = ap (map (λ (d : Descriptor). d.number)) (none-open ended_at (opened_descriptors p ended_at) (λ fd there.
      has-times (is_close fd) ended_at (closed-at-end fd (ap (is_in fd) (sym opened-numbers) ∙ there))))

  step-whole : StepRight (with_end ServedEnd core) ended_at ServedEnd
  step-whole = record {
    stands = record {
      drain = λ e. absurd (cc);
      offer = λ e. absurd (cc);
      starts = end-starts;
      boot = end-boot-stands;
      endpoints = λ e. absurd (cc);
      failed = end-failed;
      came = at.going.ends.came_are ∙ ap ascending (sym (numbers-tell q last));
      closed = λ e. end-closed;
      connections = λ e. absurd (cc);
      uncut = λ e. ap live_connections end-actions ∙ none-live p core.connections q at.going.connections;
      after_boot = end-after;
      started_due = end-due;
      begun_is = end-begun;
      runs = at.going.runs;
      settled = λ e. absurd (cc);
      end_is = sym (rw end-passed refl);
    };
    right = end-right;
    answer = sym (rw end-passed refl);
  }

  -- the run has served
  pub step-served : StepRight (with_end ServedEnd core)
      (tell q (end_told core.plan core.drain (numbers core.connections.live) (open_numbers core.endpoints))) ServedEnd
  step-served =
      subst (λ closes. StepRight (with_end ServedEnd core) (tell q (end_told core.plan core.drain (numbers core.connections.live) closes)) ServedEnd)
      (sym at.going.ends.open_are)
      (subst (λ cuts. StepRight (with_end ServedEnd core) (tell q (end_told core.plan core.drain cuts (ascending (live_numbers core.plan q)))) ServedEnd)
      (sym at.going.connections.live_is) step-whole)
