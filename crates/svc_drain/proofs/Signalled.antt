-- What the part stands for at its beginning, after a moment, after a signal, and where the server runs.
use Rattle.std.proofs.Common.{ℕ, Bool, true, false, not, ◌||◌, ◌&&◌, ◌++◌, [], ◌∷◌, Option, Some, None, ◌≡◌, refl, ap, sym, ◌∙◌, subst, if◌then◌else◌, is_some}
use Rattle.svc_record.specs.declared.plan.Plan.{Plan}
use Rattle.svc_record.specs.declared.entry.Entry.TheVariants.{Got}
use Rattle.svc_record.specs.declared.event.Event.TheVariants.{Signal}
use Rattle.svc_record.specs.declared.event.ShutdownSignal.{ShutdownSignal}
use Rattle.svc_record.specs.Record.{Record, has, now, signal_of, before_signal, first_or, is_signal, has_cut}
use Rattle.svc_record.specs.Descriptors.{live_table}
use Rattle.svc_record.specs.Offer.{is_over, over_moment, is_upgrade, is_empty_table, table, is_answered, is_written}
use Rattle.svc_record.specs.Message.{encode}
use Rattle.svc_record.specs.declared.action.ExecutionPhase.TheVariants.{Running as RunningPhase}
use Rattle.svc_record.specs.Drain.{phase, marks_if}
use Rattle.svc_drain.specs.declared.stage.Stage.{Stage}
use Rattle.svc_drain.specs.declared.stage.Stage.TheVariants.{Running, Offering, CloseTimeout, Grace, Terminating, CutShort}
use Rattle.svc_drain.specs.DrainData.{DrainData}
use Rattle.svc_drain.specs.DrainState.{DrainStands, OverIs, stage_fits, is_cut, has_start, cut_row}
use Rattle.svc_drain.specs.DrainEffects.{signalled, cuts, further}
use Rattle.svc_drain.proofs.Records.{signal-none, first-later, unsignalled-over, unsignalled-rest, rest-new, cut-signal, uncut-first, row-later, same-row, cut-unstarted}

-- the part with another signal and stage, and with another flag
abbrev pub with_signal : DrainData → Option ShutdownSignal → Stage → DrainData
with_signal d s g = record { running = d.running; moment = d.moment; signal = s; since = d.since; offers = d.offers; stage = g }

-- whether something is offered, by the part's signal
pub offers-by : (p : Plan) (d : DrainData) (over : Option ℕ) (q : Record) → DrainStands p d over q
    → d.offers ≡ (is_upgrade d.signal && not (is_empty_table (table p q)))
offers-by p d over q stand = stand.offers_is ∙ ap (λ s. is_upgrade s && not (is_empty_table (table p q))) (sym stand.signal_is)

first-offers : (s : ShutdownSignal) (offers b : Bool) → (is_upgrade (Some s) ≡ true → offers ≡ b) → (is_upgrade (Some s) && offers) ≡ (is_upgrade (Some s) && b)
first-offers s offers b h = by (is_upgrade (Some s)) h
  where
    by : (u : Bool) → (u ≡ true → offers ≡ b) → (u && offers) ≡ (u && b)
    by true k = k refl
    by false k = refl

-- the first signal, for a part by its fields
first-signal : (p : Plan) (running : Bool) (moment since : ℕ) (o offers : Bool) (kind : ShutdownSignal) (over : Option ℕ) (q : Record) → has is_signal q ≡ false
    → running ≡ true
    → (is_upgrade (Some kind) ≡ true → offers ≡ not (is_empty_table (live_table p q))) → OverIs p (Got (Signal kind) ∷ q) over
    → DrainStands p (record { running = running; moment = moment; signal = None; since = since; offers = o; stage = Running }) None q
    → DrainStands p
    (record { running = running; moment = moment; signal = Some kind; since = moment; offers = is_upgrade (Some kind) && offers; stage = Running }) over
    (Got (Signal kind) ∷ q)
first-signal p running moment since o offers kind over q none runs offered overs stand =
    let nothing : signal_of q ≡ None = signal-none q none in
    let before : before_signal (Got (Signal kind) ∷ q) ≡ q = ap (λ b. if b then before_signal q else q) none in
    let at_now : (at : ℕ) → over ≡ Some at
    → at ≡ moment = λ at e. sym (overs.moment at e) ∙ ap (λ b. if b then over_moment p q else now q) (unsignalled-over p q nothing) ∙ sym stand.moment_is in
    record {
      running_is = stand.running_is;
      moment_is = stand.moment_is;
      signal_is = ap (λ s. first_or s kind) (sym nothing);
      since_is = stand.moment_is ∙ ap now (sym before);
      offers_is = first-offers kind offers (not (is_empty_table (live_table p q))) offered
          ∙ ap (λ r. is_upgrade (Some kind) && not (is_empty_table (live_table p r))) (sym before)
          ∙ ap (λ s. is_upgrade (first_or s kind) && not (is_empty_table (live_table p (before_signal (Got (Signal kind) ∷ q))))) (sym nothing);
      over_is = overs;
      fits = refl;
      cut_is = stand.cut_is ∙ sym (uncut-first q kind nothing);
      rest_is = λ u w. unsignalled-rest p q nothing ∙ sym (rest-new over moment at_now);
      grace_is = λ at e w. cc;
      marks_are = stand.marks_are;
      unstarted = λ e. cc;
      unsignalled = λ e. let c = runs in cc;
      unrested = λ e. rest-new over moment at_now;
      at_once = λ e. refl;
    }

-- the first signal
pub stands-first : (p : Plan) (d : DrainData) (kind : ShutdownSignal) (offers : Bool) (over : Option ℕ) (q : Record) → has is_signal q ≡ false
    → d.running ≡ true
    → (is_upgrade (Some kind) ≡ true → offers ≡ not (is_empty_table (live_table p q))) → OverIs p (Got (Signal kind) ∷ q) over
    → DrainStands p d None q → DrainStands p (signalled kind offers d) over (Got (Signal kind) ∷ q)
stands-first p d kind offers over q none runs offered overs stand = by d.signal d.stage (stand.signal_is ∙ signal-none q none) stand.fits stand
  where
    by : (s : Option ShutdownSignal) (g : Stage) → s ≡ None → stage_fits g s d.offers None ≡ true → DrainStands p (with_signal d s g) None q
        → DrainStands p (signalled kind offers (with_signal d s g)) over (Got (Signal kind) ∷ q)
    by (Some earlier) g nothing fits h = absurd (cc)
    by None Running nothing fits h = first-signal p d.running d.moment d.since d.offers offers kind over q none runs offered overs h
    by None Offering nothing fits h = absurd (cc)
    by None CloseTimeout nothing fits h = absurd (cc)
    by None (Grace at) nothing fits h = absurd (cc)
    by None Terminating nothing fits h = absurd (cc)
    by None (CutShort started) nothing fits h = absurd (cc)

-- a further signal that is no cut changes nothing of the part
later-same : (p : Plan) (d : DrainData) (kind : ShutdownSignal) (offers : Bool) (over : Option ℕ) (q : Record) → has is_signal q ≡ true
    → cuts d.signal kind ≡ false → DrainStands p d over q → signalled kind offers d ≡ d
later-same p d kind offers over q came uncut stand =
    by d.signal (ap (λ s. first_or s kind) stand.signal_is ∙ first-later q kind came ∙ sym stand.signal_is) uncut
  where
    by : (s : Option ShutdownSignal) → first_or s kind ≡ s → cuts s kind ≡ false → signalled kind offers (with_signal d s d.stage) ≡ with_signal d s d.stage
    by (Some earlier) h u = rw u refl
    by None h u = absurd (cc)

later-record : (p : Plan) (d : DrainData) (kind : ShutdownSignal) (over : Option ℕ) (q : Record) → has is_signal q ≡ true → cuts d.signal kind ≡ false
    → DrainStands p d over q → DrainStands p d over (Got (Signal kind) ∷ q)
later-record p d kind over q came uncut stand =
    let same : first_or (signal_of q) kind ≡ signal_of q = first-later q kind came in
    let before : before_signal (Got (Signal kind) ∷ q) ≡ before_signal q = ap (λ b. if b then before_signal q else q) came in
    let calm : has_cut (Got (Signal kind) ∷ q) ≡ has_cut q =
    cut-signal q kind ∙ ap (λ b. b || has_cut q) (ap (λ s. cuts s kind) (sym stand.signal_is) ∙ uncut) in
    let row : is_cut d.stage ≡ true → cut_row p (Got (Signal kind) ∷ q) ≡ cut_row p q = λ h. row-later p q kind (sym stand.cut_is ∙ h) in
    let overs : is_over p (Got (Signal kind) ∷ q) ≡ is_over p q =
    ap (λ s. is_upgrade s
    && ((not (is_empty_table (live_table p (before_signal (Got (Signal kind) ∷ q))))
    && (not (is_written (encode (live_table p (before_signal (Got (Signal kind) ∷ q))))) || has_cut (Got (Signal kind) ∷ q))) || is_answered p q)) same
    ∙ ap (λ r. is_upgrade (signal_of q)
    && ((not (is_empty_table (live_table p r)) && (not (is_written (encode (live_table p r))) || has_cut (Got (Signal kind) ∷ q))) || is_answered p q)) before
    ∙ ap (λ b. is_upgrade (signal_of q) && ((not (is_empty_table (table p q)) && (not (is_written (encode (table p q))) || b)) || is_answered p q)) calm in
    record {
      running_is = stand.running_is;
      moment_is = stand.moment_is;
      signal_is = stand.signal_is ∙ sym same;
      since_is = stand.since_is ∙ ap now (sym before);
      offers_is = stand.offers_is
          ∙ ap (λ r. is_upgrade (signal_of q) && not (is_empty_table (live_table p r))) (sym before)
          ∙ ap (λ s. is_upgrade s && not (is_empty_table (live_table p (before_signal (Got (Signal kind) ∷ q))))) (sym same);
      over_is = record {
        is = overs ∙ stand.over_is.is;
        moment = λ at e. ap (λ b. if b then over_moment p q else now q) (stand.over_is.is ∙ ap is_some e) ∙ stand.over_is.moment at e;
      };
      fits = stand.fits;
      cut_is = stand.cut_is ∙ sym calm;
      rest_is = stand.rest_is;
      grace_is = stand.grace_is;
      marks_are = stand.marks_are
          ∙ ap (λ marks. marks ++ marks_if d.running (phase RunningPhase ∷ []))
          (same-row d.stage d.signal d.offers (cut_row p q) (cut_row p (Got (Signal kind) ∷ q)) (λ h. sym (row h)));
      unstarted = λ h. ap has_start (row (cut-unstarted d.stage h)) ∙ stand.unstarted h;
      unsignalled = stand.unsignalled;
      unrested = stand.unrested;
      at_once = stand.at_once;
    }

pub stands-later : (p : Plan) (d : DrainData) (kind : ShutdownSignal) (offers : Bool) (over : Option ℕ) (q : Record) → has is_signal q ≡ true
    → cuts d.signal kind ≡ false → DrainStands p d over q
    → DrainStands p (signalled kind offers d) over (Got (Signal kind) ∷ q)
stands-later p d kind offers over q came uncut stand =
    subst (λ (x : DrainData). DrainStands p x over (Got (Signal kind) ∷ q)) (sym (later-same p d kind offers over q came uncut stand))
    (later-record p d kind over q came uncut stand)

-- the same of what the part is after the call
pub after-first : (p : Plan) (d new : DrainData) (kind : ShutdownSignal) (offers : Bool) (over : Option ℕ) (q : Record) → new ≡ signalled kind offers d
    → has is_signal q ≡ false → d.running ≡ true
    → (is_upgrade (Some kind) ≡ true → offers ≡ not (is_empty_table (live_table p q))) → OverIs p (Got (Signal kind) ∷ q) over
    → DrainStands p d None q → DrainStands p new over (Got (Signal kind) ∷ q)
after-first p d new kind offers over q after none runs offered overs stand =
    subst (λ (x : DrainData). DrainStands p x over (Got (Signal kind) ∷ q)) (sym after) (stands-first p d kind offers over q none runs offered overs stand)

pub after-later : (p : Plan) (d new : DrainData) (kind : ShutdownSignal) (offers : Bool) (over : Option ℕ) (q : Record) → new ≡ signalled kind offers d
    → has is_signal q ≡ true → cuts d.signal kind ≡ false
    → DrainStands p d over q → DrainStands p new over (Got (Signal kind) ∷ q)
after-later p d new kind offers over q after came uncut stand =
    subst (λ (x : DrainData). DrainStands p x over (Got (Signal kind) ∷ q)) (sym after) (stands-later p d kind offers over q came uncut stand)

-- a further signal, by the part's signal
pub signalled-further : (kind : ShutdownSignal) (offers : Bool) (d : DrainData) → is_some d.signal ≡ true → signalled kind offers d ≡ further kind d
signalled-further kind offers d h = by d.signal h
  where
    by : (s : Option ShutdownSignal) → is_some s ≡ true → signalled kind offers (with_signal d s d.stage) ≡ further kind (with_signal d s d.stage)
    by (Some earlier) k = refl
    by None k = absurd (cc)
