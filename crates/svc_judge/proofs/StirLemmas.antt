-- After words of services, their starts, binds and addresses in use, two rules can be broken, where none is broken before.
use Rattle.std.proofs.Common.{ℕ, zero, suc, Bool, true, false, not, ◌&&◌, ◌||◌, ◌==◌, ◌+◌, ◌<◌, arith, List, [], ◌∷◌, length, ◌≡◌, refl, sym, ap, subst, ◌∙◌, inl, inr, Option, Some, None, if◌then◌else◌}
use Rattle.std.proofs.Math.Bool.{or-false, or-true, and-true}
use Rattle.std.specs.List.{list_any, list_all, range_with_len}
use Rattle.std.proofs.lemmas.Bool.{false≢true, cases_Bool, eqb-true}
use Rattle.svc_base.proofs.Logic.{apart_from}
use Rattle.svc_graph.specs.declared.plan.Kind.TheVariants.{Plain, Bootstrap}
use Rattle.svc_record.specs.declared.plan.Plan.{Plan}
use Rattle.svc_record.specs.declared.entry.Entry.{Entry}
use Rattle.svc_record.specs.declared.entry.Entry.TheVariants.{Got, Told}
use Rattle.svc_record.specs.declared.event.Event.TheVariants.{Ready, Ended, InUse}
use Rattle.svc_record.specs.declared.action.Action.TheVariants.{Start, Bind}
use Rattle.svc_record.specs.Record.{Record, has, times, now, once_if, is_running, is_bootstrap, is_bootstrap_complete, from_the_start, before_runtimes, each_entry}
use Rattle.svc_record.specs.Plans.{services, service_count, endpoints, endpoint_numbers, depends, has_kind, names}
use Rattle.svc_record.specs.Descriptors.{Descriptor, opened_descriptors, address_of, is_close, is_doubled, one_live}
use Rattle.svc_record.specs.Failed.{is_fail, has_failed}
use Rattle.svc_record.specs.Asks.{is_daemonize, is_try, is_try_open}
use Rattle.svc_record.specs.Starts.{is_start, is_ready_event, is_ended_event, is_started, is_ready, is_due, start_due, start_right, starts_right}
use Rattle.svc_record.specs.Endpoints.{endpoint_right, endpoint_right_late, endpoints_right, endpoints_right_late}
use Rattle.svc_record.specs.AskRules.{fails_right}
use Rattle.svc_record.specs.Boot.{is_notify, is_open_receiver, is_good_message, is_side_child, may_begin, has_begun, try_rests, stands_first, fork_first, runs, start_after_boot, boot_entries_right, boot_right}
use Rattle.svc_record.specs.Offer.{is_held_back, one_ask}
use Rattle.svc_record.specs.Closes.{is_broadcast, is_received, is_address_unclaimed, is_address_abandoned, is_gone, close_right, closes_right}
use Rattle.svc_record.specs.Connections.{conn_right}
use Rattle.svc_record.specs.Drain.{waits_are_over, is_ending}
use Rattle.svc_record.specs.Ends.{has_ended, has_ended_early, ends_tested, tested_right}
use Rattle.svc_record.specs.Right.{in_service, ended_right, passed_right, last_step_right}
use Rattle.svc_record.proofs.Sound as sound
use Rattle.svc_record.proofs.Complete as complete
use Rattle.svc_record.proofs.Sound.{both}
use Rattle.svc_judge.specs.Settled.{offer_kept, starts_kept}
use Rattle.svc_judge.specs.declared.judging.Rule.TheVariants as rules
use Rattle.svc_judge.specs.Firsts.{first_of}
use Rattle.svc_judge.specs.Verdicts.{unless, are_endpoints_kept, are_phases_kept, step_breach, breach_below}
use Rattle.svc_judge.specs.Stirred.{is_in_run, stays_busy, is_stir, are_stirs, only_stirs, needs, stirs_start, has_new, is_start_kept, are_ends_kept, are_ends_kept_late, starts_stirred, ends_stirred, stirred_breach}
use Rattle.svc_judge.proofs.VerdictLemmas.{and, entries, entry_keeps, step_keeps, OpenKeeps}
use Rattle.svc_judge.proofs.NewLemmas.{before, at_event, open_from, all_false}
use Rattle.svc_judge.proofs.AnewLemmas.{neither_holds}
use Rattle.svc_judge.proofs.StillLemmas.{any_same, all_same}
use Rattle.svc_judge.proofs.StirHoldLemmas.{used_failed, failed_same, right_left, late_left}

-- whether the run runs is so after such an entry
run_same : (p : Plan) (e : Entry) (q : Record) → is_stir p e q ≡ true → is_in_run p (e ∷ q) ≡ is_in_run p q
run_same p (Got (Ready s)) q h = refl
run_same p (Got (Ended s)) q h = refl
run_same p (Got (InUse s i)) q h = refl
run_same p (Told (Start s)) q h = refl
run_same p (Told (Bind s i)) q h = refl
run_same p _ q h = absurd (false≢true h)

service_same : (p : Plan) (e : Entry) (q : Record) → is_stir p e q ≡ true → in_service (e ∷ q) ≡ in_service q
service_same p (Got (Ready s)) q h = refl
service_same p (Got (Ended s)) q h = refl
service_same p (Got (InUse s i)) q h = refl
service_same p (Told (Start s)) q h = refl
service_same p (Told (Bind s i)) q h = refl
service_same p _ q h = absurd (false≢true h)

-- all of the numbers are as they were, where those are that aren't this one
others_same : (t : ℕ) (f g : ℕ → Bool) → ((d : ℕ) → (t == d) ≡ false → f d ≡ g d) → (ds : List ℕ) → list_any (λ d. t == d) ds ≡ false
    → list_all f ds ≡ list_all g ds
others_same t f g h [] n = refl
others_same t f g h (d ∷ ds) n =
    let k = neither_holds (t == d) (list_any (λ m. t == m) ds) n in
    ap (λ b. b && list_all f ds) (h d k.0) ∙ ap (λ b. g d && b) (others_same t f g h ds k.1)

used_ready : (p : Plan) (s i : ℕ) (q : Record) (d : ℕ) → is_stir p (Got (InUse s i)) q ≡ true → is_ready p (Got (InUse s i) ∷ q) d ≡ is_ready p q d
used_ready p s i q d h =
    ap
    (λ b. ((has (is_ready_event d) q || has (is_ended_event d) q) || b)
    || (is_started q d && (has_kind p Plain d || (has_kind p Bootstrap d && has is_bootstrap_complete q))))
    (failed_same p (Got (InUse s i)) q d h)

right_by : (s : ℕ) (q : Record) (b c : Bool) → b ≡ c → (times (is_start s) q == (if b then 1 else 0)) ≡ (times (is_start s) q == (if c then 1 else 0))
right_by s q b c h = ap (λ x. times (is_start s) q == (if x then 1 else 0)) h

times_same : (b c : Bool) (n : ℕ) → b ≡ false → ((if b then n + 1 else n) == (if c then 1 else 0)) ≡ (n == (if c then 1 else 0))
times_same b c n h = rw (h)

-- the start of a service that the entry doesn't stir is as right as it was
start_same : (p : Plan) (e : Entry) (q : Record) (s : ℕ) → is_stir p e q ≡ true → stirs_start p s e ≡ false → start_right p (e ∷ q) s ≡ start_right p q s
start_same p (Got (Ready t)) q s h n =
    let a : Record = Got (Ready t) ∷ q in
    right_by s q (is_due p a s) (is_due p q s) (others_same t (is_ready p a) (is_ready p q) (λ d k. rw (k)) (depends p s) n)
start_same p (Got (Ended t)) q s h n =
    let a : Record = Got (Ended t) ∷ q in
    right_by s q (is_due p a s) (is_due p q s) (others_same t (is_ready p a) (is_ready p q) (λ d k. rw (k)) (depends p s) n)
start_same p (Got (InUse t i)) q s h n =
    let a : Record = Got (InUse t i) ∷ q in
    right_by s q (is_due p a s) (is_due p q s) (all_same (is_ready p a) (is_ready p q) (λ d. used_ready p t i q d h) (depends p s))
start_same p (Told (Start t)) q s h n =
    let a : Record = Told (Start t) ∷ q in
    let k = neither_holds (t == s) (needs p s t) n in
    times_same (t == s) (is_due p a s) (times (is_start s) q) k.0
    ∙ right_by s q (is_due p a s) (is_due p q s) (others_same t (is_ready p a) (is_ready p q) (λ d m. rw (m)) (depends p s) k.1)
start_same p (Told (Bind t i)) q s h n = refl
start_same p _ q s h n = absurd (false≢true h)

numbers_same : (f g : ℕ → Bool) → ((n : ℕ) → f n ≡ g n) → (ds : List Descriptor)
    → list_all (λ (d : Descriptor). f d.number) ds ≡ list_all (λ (d : Descriptor). g d.number) ds
numbers_same f g h [] = refl
numbers_same f g h (d ∷ ds) =
    ap (λ b. b && list_all (λ (x : Descriptor). f x.number) ds) (h d.number) ∙ ap (λ b. g d.number && b) (numbers_same f g h ds)

-- what is asked of a prefix besides starts and endpoints
record Left (p : Plan) (q : Record) : Type 0 where
  on : has_ended p q ≡ false
  run : is_in_run p q ≡ true
  boot : boot_right p q ≡ true
  offer : offer_kept p q ≡ true
  connections : conn_right p q ≡ true
  closes : closes_right p q ≡ true
  one_live : one_live p q ≡ true
  phases : are_phases_kept p q ≡ true
  ending : not (has is_ending q) ≡ true
  fails : fails_right p q ≡ true
  one_ask : one_ask p q ≡ true

-- what is known of a run that runs
record Runs (p : Plan) (q : Record) : Type 0 where
  begun : may_begin p q ≡ true
  complete : (not p.eager || has is_bootstrap_complete q) ≡ true
  started : from_the_start q ≡ true
  quiet : has is_broadcast q ≡ false

running : (p : Plan) (q : Record) → is_in_run p q ≡ true → Runs p q
running p q h =
    let parts = both (runs p q && from_the_start q) (not (has is_broadcast q)) h in
    let first = both (runs p q) (from_the_start q) parts.0 in
    let run = both (may_begin p q) (not p.eager || has is_bootstrap_complete q) first.0 in
    record { begun = run.0; complete = run.1; started = first.1; quiet = apart_from (has is_broadcast q) parts.1 }

or_middle : (a d : Bool) → (a || d) ≡ true → ((a || false) || d) ≡ true
or_middle true d h = refl
or_middle false d h = h

boot_bind : (p : Plan) (q : Record) (s i : ℕ) → may_begin p q ≡ true → boot_right p q ≡ true → boot_right p (Told (Bind s i) ∷ q) ≡ true
boot_bind p q s i begun h =
    let a : Record = Told (Bind s i) ∷ q in
    let parts = both (boot_entries_right p q) _ h in
    let each = both (each_entry stands_first q && each_entry (fork_first p) q) (each_entry (start_after_boot p) q) parts.1 in
    let first = both (each_entry stands_first q) (each_entry (fork_first p) q) each.0 in
    let fork = and (fork_first p (Told (Bind s i)) q) (each_entry (fork_first p) q) (or_middle (not p.daemon) (has is_side_child q) begun) first.1 in
    and (boot_entries_right p a) ((each_entry stands_first a && each_entry (fork_first p) a) && each_entry (start_after_boot p) a) parts.0
    (and (each_entry stands_first a && each_entry (fork_first p) a) (each_entry (start_after_boot p) a)
    (and (each_entry stands_first a) (each_entry (fork_first p) a) first.0 fork) each.1)

-- what is asked of the beginning, where it is known whether bootstrapping has begun
abbrev entries_by : Plan → Record → Bool → Bool
entries_by p q begun = ((once_if p.daemon is_daemonize q && once_if begun is_bootstrap q)
    && (once_if ((begun && not p.test) && (p.daemon && p.wait)) is_notify q
    && (once_if ((begun && not p.test) && p.upgrade) is_open_receiver q
    && (if (begun && not p.test) && p.upgrade then (is_try_open q || try_rests (now q) q) else not (has is_try q)))))
    && (once_if ((begun && not p.test) && (not p.upgrade || has is_good_message q)) is_bootstrap_complete q && once_if (runs p q) is_running q)

module _ (p : Plan) (q : Record) (s : ℕ) where
  abbrev after : Record
  after = Told (Start s) ∷ q

  and_same : (b x y : Bool) → b ≡ false → (b && x) ≡ (b && y)
  and_same b x y h = rw (h)

  boots_same : has_kind p Bootstrap s ≡ false → (t : ℕ) → (has_kind p Bootstrap t && is_started after t) ≡ (has_kind p Bootstrap t && is_started q t)
  boots_same h t = elim (cases_Bool (s == t)) [
    | inl y ↦
        and_same (has_kind p Bootstrap t) (is_started after t) (is_started q t)
        (subst (λ u. has_kind p Bootstrap u ≡ false) (eqb-true s t y) h)
    | inr n ↦ rw (n)
  ]

  begun_same : has_kind p Bootstrap s ≡ false → has_begun p after ≡ has_begun p q
  begun_same h =
      ap (λ b. (p.eager && may_begin p q) || b)
      (any_same (λ t. has_kind p Bootstrap t && is_started after t) (λ t. has_kind p Bootstrap t && is_started q t) (boots_same h) (services p))

  boot_start : has_kind p Bootstrap s ≡ false → Runs p q → boot_right p q ≡ true → boot_right p after ≡ true
  boot_start plain run h =
      let parts = both (boot_entries_right p q) _ h in
      let each = both (each_entry stands_first q && each_entry (fork_first p) q) (each_entry (start_after_boot p) q) parts.1 in
      let first = both (each_entry stands_first q) (each_entry (fork_first p) q) each.0 in
      let fork = and (fork_first p (Told (Start s)) q) (each_entry (fork_first p) q) (or_middle (not p.daemon) (has is_side_child q) run.begun) first.1 in
      let start = and (start_after_boot p (Told (Start s)) q) (each_entry (start_after_boot p) q) run.complete each.1 in
      and (boot_entries_right p after) ((each_entry stands_first after && each_entry (fork_first p) after) && each_entry (start_after_boot p) after)
      (ap (entries_by p q) (begun_same plain) ∙ parts.0)
      (and (each_entry stands_first after && each_entry (fork_first p) after) (each_entry (start_after_boot p) after)
      (and (each_entry stands_first after) (each_entry (fork_first p) after) first.0 fork) start)

  gone_start : has is_broadcast q ≡ false → (n : ℕ) → is_gone p after n ≡ is_gone p q n
  gone_start quiet n = rw (quiet)

  closes_start : has is_broadcast q ≡ false → closes_right p q ≡ true → closes_right p after ≡ true
  closes_start quiet h =
      numbers_same (close_right p after) (close_right p q)
      (λ n. ap (λ b. times (is_close n) q == (if b then 1 else 0)) (gone_start quiet n)) (opened_descriptors p q)
      ∙ h

module _ (p : Plan) (q : Record) (s i : ℕ) (busy : stays_busy p (Got (InUse s i) ∷ q) s i ≡ true) where
  abbrev used : Record
  used = Got (InUse s i) ∷ q

  abandoned_same : (a : Option (List ℕ)) → is_address_abandoned p used a ≡ is_address_abandoned p q a
  abandoned_same None = refl
  abandoned_same (Some x) =
      ap (λ b. list_any (λ t. names p t x) (services p) && b)
      (all_same (λ t. not (names p t x) || has_failed p used t) (λ t. not (names p t x) || has_failed p q t)
      (λ t. ap (λ b. not (names p t x) || b) (used_failed p q s i busy t)) (services p))

  gone_used : has is_broadcast q ≡ false → (n : ℕ) → is_gone p used n ≡ is_gone p q n
  gone_used quiet n =
      rw (quiet)
      (ap
      (λ b. (((is_received p q n && is_address_unclaimed p (address_of p q n)) || is_doubled p q n) || (b && not (is_held_back p q n))) || false)
      (abandoned_same (address_of p q n)))

  closes_used : has is_broadcast q ≡ false → closes_right p q ≡ true → closes_right p used ≡ true
  closes_used quiet h =
      numbers_same (close_right p used) (close_right p q)
      (λ n. ap (λ b. times (is_close n) q == (if b then 1 else 0)) (gone_used quiet n)) (opened_descriptors p q)
      ∙ h

  fails_used : fails_right p q ≡ true → fails_right p used ≡ true
  fails_used h =
      all_same (λ t. times (is_fail t) q == (if has_failed p used t then 1 else 0)) (λ t. times (is_fail t) q == (if has_failed p q t then 1 else 0))
      (λ t. ap (λ b. times (is_fail t) q == (if b then 1 else 0)) (used_failed p q s i busy t)) (services p)
      ∙ h

-- it is so after such an entry
left_more : (p : Plan) (e : Entry) (q : Record) → is_stir p e q ≡ true → Left p q → Left p (e ∷ q)
left_more p (Got (Ready s)) q h k = record {
  on = k.on;
  run = k.run;
  boot = k.boot;
  offer = k.offer;
  connections = k.connections;
  closes = k.closes;
  one_live = k.one_live;
  phases = k.phases;
  ending = k.ending;
  fails = k.fails;
  one_ask = k.one_ask;
}
left_more p (Got (Ended s)) q h k = record {
  on = k.on;
  run = k.run;
  boot = k.boot;
  offer = k.offer;
  connections = k.connections;
  closes = k.closes;
  one_live = k.one_live;
  phases = k.phases;
  ending = k.ending;
  fails = k.fails;
  one_ask = k.one_ask;
}
left_more p (Got (InUse s i)) q h k = record {
  on = k.on;
  run = k.run;
  boot = k.boot;
  offer = k.offer;
  connections = k.connections;
  closes = closes_used p q s i h (running p q k.run).quiet k.closes;
  one_live = k.one_live;
  phases = k.phases;
  ending = k.ending;
  fails = fails_used p q s i h k.fails;
  one_ask = k.one_ask;
}
left_more p (Told (Start s)) q h k = record {
  on = k.on;
  run = k.run;
  boot = boot_start p q s (apart_from (has_kind p Bootstrap s) h) (running p q k.run) k.boot;
  offer = k.offer;
  connections = k.connections;
  closes = closes_start p q s (running p q k.run).quiet k.closes;
  one_live = k.one_live;
  phases = k.phases;
  ending = k.ending;
  fails = k.fails;
  one_ask = k.one_ask;
}
left_more p (Told (Bind s i)) q h k = record {
  on = k.on;
  run = k.run;
  boot = boot_bind p q s i (running p q k.run).begun k.boot;
  offer = k.offer;
  connections = k.connections;
  closes = k.closes;
  one_live = k.one_live;
  phases = k.phases;
  ending = k.ending;
  fails = k.fails;
  one_ask = k.one_ask;
}
left_more p _ q h k = absurd (false≢true h)

-- what is known after such entries
record Stirred (p : Plan) (q : Record) : Type 0 where
  left : Left p q
  starts : (s : ℕ) → s < service_count p → has_new (stirs_start p s) q ≡ false → start_right p q s ≡ true
  late : (s k : ℕ) → s < service_count p → k < length (endpoints p s) → has_new (is_start s) q ≡ false → endpoint_right_late p q s k ≡ true
  right : in_service q ≡ true → (s k : ℕ) → s < service_count p → k < length (endpoints p s) → has_new (is_start s) q ≡ false
      → endpoint_right p q s k ≡ true

asked : (a x : Bool) → a ≡ true → (not a || x) ≡ true → x ≡ true
asked true x h g = g
asked false x h g = absurd (false≢true h)

-- after the event
at_first : (p : Plan) (e : _) (r : Record) → is_stir p (Got e) r ≡ true → is_in_run p r ≡ true → has_ended p r ≡ false → OpenKeeps p r
    → fails_right p r ≡ true → one_ask p r ≡ true → Stirred p (Got e ∷ r)
at_first p e r h run on k fails one =
    let started = (running p r run).started in
    let starts = both (starts_right p r) (each_entry (start_due p) r) (asked (from_the_start r) (starts_kept p r) started k.starts) in
    let held = both (not (from_the_start r) || endpoints_right_late p r) (not (in_service r) || endpoints_right p r) k.endpoints in
    let left : Left p r = record {
      on = on;
      run = run;
      boot = k.boot;
      offer = k.offer;
      connections = k.connections;
      closes = k.closes;
      one_live = k.one_live;
      phases = k.phases;
      ending = k.ending;
      fails = fails;
      one_ask = one;
    } in
    record {
      left = left_more p (Got e) r h left;
      starts = λ s low n. start_same p (Got e) r s h n ∙ sound.below (start_right p r) (service_count p) s starts.0 low;
      late = λ s m low lower n.
          late_left p (Got e) r s m h n
          (sound.each_endpoint p (endpoint_right_late p r) (asked (from_the_start r) (endpoints_right_late p r) started held.0) s m low lower);
      right = λ serves s m low lower n.
          right_left p (Got e) r s m h n
          (sound.each_endpoint p (endpoint_right p r)
          (asked (in_service r) (endpoints_right p r) (sym (service_same p (Got e) r h) ∙ serves) held.1) s m low lower);
    }

-- and after what was told since
stirred : (p : Plan) (q : Record) → breach_below p q ≡ None → are_stirs p q ≡ true → is_in_run p q ≡ true → Stirred p q
stirred p [] h g run = absurd (false≢true g)
stirred p (Got e ∷ r) h g run =
    let b = at_event p r e h in
    let k = step_keeps p r b.step in
    at_first p e r g (sym (run_same p (Got e) r g) ∙ run) b.on (open_from p r b.step b.on) k.fails k.one_ask
stirred p (Told a ∷ q) h g run =
    let parts = both (is_stir p (Told a) q) (are_stirs p q) g in
    let k = stirred p q (before p (Told a) q h) parts.1 (sym (run_same p (Told a) q parts.0) ∙ run) in
    record {
      left = left_more p (Told a) q parts.0 k.left;
      starts = λ s low n.
          let apart = neither_holds (stirs_start p s (Told a)) (has_new (stirs_start p s) q) n in
          start_same p (Told a) q s parts.0 apart.0 ∙ k.starts s low apart.1;
      late = λ s m low lower n.
          let apart = neither_holds (is_start s (Told a)) (has_new (is_start s) q) n in
          late_left p (Told a) q s m parts.0 apart.0 (k.late s m low lower apart.1);
      right = λ serves s m low lower n.
          let apart = neither_holds (is_start s (Told a)) (has_new (is_start s) q) n in
          right_left p (Told a) q s m parts.0 apart.0 (k.right (sym (service_same p (Told a) q parts.0) ∙ serves) s m low lower apart.1);
    }

-- where a test holds of what is new, and of all else anyway, it is that of what is new
asked_only : (b x : Bool) → (b ≡ false → x ≡ true) → x ≡ (not b || x)
asked_only true x f = refl
asked_only false x f = f refl

range_same : (f g : ℕ → Bool) (n a : ℕ) → ((s : ℕ) → s < a + n → f s ≡ g s) → list_all f (range_with_len a n) ≡ list_all g (range_with_len a n)
range_same f g zero a h = refl
range_same f g (suc n) a h =
    ap (λ b. b && list_all f (range_with_len (a + 1) n)) (h a (omega arith))
    ∙ ap (λ b. g a && b) (range_same f g n (a + 1) (λ s low. h s (omega (arith, low))))

services_same : (p : Plan) (f g : ℕ → Bool) → ((s : ℕ) → s < service_count p → f s ≡ g s) → list_all f (services p) ≡ list_all g (services p)
services_same p f g h = range_same f g (service_count p) 0 (λ s low. h s (omega (arith, low)))

started_by : (r x d y : Bool) → r ≡ true → d ≡ true → x ≡ y → (not r || (x && d)) ≡ y
started_by r x d y h g f = rw (h, g) (and-true x ∙ f)

served_by : (v x y : Bool) → (v ≡ true → x ≡ y) → (not v || x) ≡ (y || not v)
served_by true x y f = f refl ∙ sym (or-false y)
served_by false x y f = sym (or-true y)

held_by : (r l k x y : Bool) → r ≡ true → l ≡ k → x ≡ y → ((not r || l) && x) ≡ (k && y)
held_by r l k x y h g f = rw (h, g, f)

two_left : (b c : Bool) → first_of (unless b rules.Starts (unless c rules.Endpoints None)) None ≡ unless b rules.Starts (unless c rules.Endpoints None)
two_left true true = refl
two_left true false = refl
two_left false c = refl

-- where all other rules are kept, the first that is broken is one of the two
two_rules : (ended early boots offers connects closes live started held phases over fails one waits passed tested before last : Bool)
    → ended ≡ false → boots ≡ true → offers ≡ true → connects ≡ true → closes ≡ true → live ≡ true → phases ≡ true → over ≡ true → fails ≡ true
    → one ≡ true → waits ≡ false → tested ≡ false
    → first_of
    (if ended then unless early rules.Ended None else
    (unless boots rules.Bootstrapping
    (unless offers rules.Offer
    (unless connects rules.Connections
    (unless closes rules.Closes
    (unless live rules.OneLive
    (unless started rules.Starts (unless held rules.Endpoints (unless phases rules.Phases (unless over rules.Ending None))))))))))
    (unless fails rules.Fails
    (unless one rules.OneAsk
    (unless (not waits || passed) rules.Served (unless (not tested || before) rules.Tested (unless (not waits || last) rules.LastStep None)))))
    ≡ unless started rules.Starts (unless held rules.Endpoints None)
two_rules ended early boots offers connects closes live started held phases over fails one waits passed tested before last a b c d e f g h i j k l =
    rw (a, b, c, d, e, f, g, h, i, j, k, l) (two_left started held)

-- the rule that a settled prefix breaks after such entries is one of the two
pub stirred_is : (p : Plan) (q : Record) → breach_below p q ≡ None → only_stirs p q ≡ true → step_breach p q ≡ stirred_breach p q
stirred_is p q h only =
    let parts = both (are_stirs p q) (is_in_run p q) only in
    let run = running p q parts.1 in
    let s = stirred p q h parts.0 parts.1 in
    let k = s.left in
    let ways = all_false (waits_are_over p q) (ends_tested p q) (has_ended_early p q) k.on in
    let due = entries p (start_due p) (λ e b g. (entry_keeps p e b g).start_due) q h in
    let started : (not (from_the_start q) || starts_kept p q) ≡ starts_stirred p q =
    started_by (from_the_start q) (starts_right p q) (each_entry (start_due p) q) (starts_stirred p q) run.started due
    (services_same p (start_right p q) (is_start_kept p q)
    (λ t low. asked_only (has_new (stirs_start p t) q) (start_right p q t) (s.starts t low))) in
    let late : endpoints_right_late p q ≡ list_all (are_ends_kept_late p q) (services p) =
    services_same p (λ t. list_all (endpoint_right_late p q t) (endpoint_numbers p t)) (are_ends_kept_late p q)
    (λ t low. asked_only (has_new (is_start t) q) (list_all (endpoint_right_late p q t) (endpoint_numbers p t))
    (λ n. complete.below (endpoint_right_late p q t) (length (endpoints p t)) (λ m lower. s.late t m low lower n))) in
    let right : in_service q ≡ true → endpoints_right p q ≡ list_all (are_ends_kept p q) (services p) =
    λ serves. services_same p (λ t. list_all (endpoint_right p q t) (endpoint_numbers p t)) (are_ends_kept p q)
    (λ t low. asked_only (has_new (is_start t) q) (list_all (endpoint_right p q t) (endpoint_numbers p t))
    (λ n. complete.below (endpoint_right p q t) (length (endpoints p t)) (λ m lower. s.right serves t m low lower n))) in
    let held : are_endpoints_kept p q ≡ ends_stirred p q =
    held_by (from_the_start q) (endpoints_right_late p q) (list_all (are_ends_kept_late p q) (services p))
    (not (in_service q) || endpoints_right p q) (list_all (are_ends_kept p q) (services p) || not (in_service q)) run.started late
    (served_by (in_service q) (endpoints_right p q) (list_all (are_ends_kept p q) (services p)) right) in
    two_rules (has_ended p q) (ended_right p q) (boot_right p q) (offer_kept p q) (conn_right p q) (closes_right p q) (one_live p q)
    (not (from_the_start q) || starts_kept p q) (are_endpoints_kept p q) (are_phases_kept p q) (not (has is_ending q)) (fails_right p q)
    (one_ask p q) (waits_are_over p q) (passed_right p q) (ends_tested p q) (tested_right p q) (last_step_right p (before_runtimes q))
    k.on k.boot k.offer k.connections k.closes k.one_live k.phases k.ending k.fails k.one_ask ways.0 ways.1
    ∙ ap (λ b. unless b rules.Starts (unless (are_endpoints_kept p q) rules.Endpoints None)) started
    ∙ ap (λ b. unless (starts_stirred p q) rules.Starts (unless b rules.Endpoints None)) held
