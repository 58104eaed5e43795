-- What the end of the offer leaves, with the closes that follow it.
use Rattle.std.proofs.Common.{ℕ, true, false, List, [], ◌∷◌, ◌++◌, ◌≡◌, refl, ap, sym, ◌∙◌, subst, arith, ◌≤◌, ◌+◌, length, length-append, map}
use Rattle.std.proofs.lemmas.Bool.{or_left}
use Rattle.svc_record.specs.declared.plan.Plan.{Plan}
use Rattle.svc_record.specs.declared.entry.Entry.TheVariants.{Got}
use Rattle.svc_record.specs.declared.action.Action.{Action}
use Rattle.svc_record.specs.declared.action.Action.TheVariants.{Close}
use Rattle.svc_record.specs.declared.event.Event.{Event}
use Rattle.svc_record.specs.Record.{Record, has, tell}
use Rattle.svc_record.specs.Descriptors.{is_close, is_opened}
use Rattle.svc_record.specs.Closes.{is_gone, is_drained}
use Rattle.svc_base.specs.NumberSets.{ascending, distinct}
use Rattle.svc_record.specs.Offer.{is_held_back}
use Rattle.svc_record.specs.Tail.{numbers_in}
use Rattle.svc_record.specs.Told.{Tells, IsGivingUp}
use Rattle.svc_endpoints.specs.EndpointsData.{EndpointsData}
use Rattle.svc_endpoints.specs.EndpointsState.{LoopsStand, EndpointsStand}
use Rattle.svc_endpoints.specs.Effects.{cleared, gone_numbers}
use Rattle.svc_endpoints.specs.Foreign.{is_endpoints_event}
use Rattle.svc_endpoints.proofs.GoneLemmas.{is_turned, is_gone_now, loops-got, closed-is}
use Rattle.svc_endpoints.proofs.UseLemmas.{drained-is}
use Rattle.svc_endpoints.proofs.GrowLemmas.{gone-grows}
use Rattle.svc_endpoints.proofs.FailLemmas.{fails-same}
use Rattle.svc_endpoints.proofs.EventLemmas.{IsForeign, foreign, opened_is-event, numbers-event, place-event, turned-event}
use Rattle.svc_endpoints.proofs.ClearLemmas.{Answered, stands-cleared}
use Rattle.svc_endpoints.proofs.AnswerLemmas.{giving-closes, cleared-few}
use Rattle.svc_base.proofs.Logic.{clash}

module _ (p : Plan) (d : EndpointsData) (q : Record) (e : Event) (is : IsForeign p d q e) (none : (fd : ℕ) → is_held_back p (Got e ∷ q) fd ≡ false)
    (stand : EndpointsStand p d q) where
  closed_now : (fd : ℕ) → is_opened p (Got e ∷ q) fd ≡ true → has (is_close fd) q ≡ is_gone p q fd
  closed_now fd came = closed-is p q fd stand.closes_once (stand.closes fd (sym (opened_is-event p q e is.opens fd) ∙ came))

  loops : LoopsStand p d (Got e ∷ q)
  loops = loops-got p d q e is.going stand.loops

  drained : (fd : ℕ) → is_drained p (Got e ∷ q) fd ≡ is_drained p q fd
  drained fd = drained-is p d (Got e ∷ q) (is.states stand.states) loops fd ∙ sym (drained-is p d q stand.states stand.loops fd)

  answered : Answered p d (Got e ∷ q)
  answered = record {
    states = is.states stand.states;
    loops = loops;
    kept = stand.kept;
    asks_due = (refl, stand.asks_due);
    asks_known = (refl, stand.asks_known);
    closes_once = (refl, stand.closes_once);
    fails = fails-same p q e is.same stand.fails;
    closed_gone =
        λ fd came closed. gone-grows p q (Got e ∷ q) (λ t h. is.same t ∙ h) fd (turned-event p q e is.opens fd) (place-event p q e is.opens fd)
        (λ held. absurd (clash (is_held_back p (Got e ∷ q) fd) held (none fd))) (λ h. drained fd ∙ h) (sym (closed_now fd came) ∙ closed);
    turned_closed =
        λ fd came turned. closed_now fd came
        ∙ or_left (is_gone_now p q fd) (is_drained p q fd) (or_left (is_turned p q fd) _ (sym (turned-event p q e is.opens fd) ∙ turned));
    open_are = stand.open_are ∙ ap ascending (sym (numbers-event p q e is.opens));
    came_are = stand.came_are ∙ ap (λ w. ascending (w ++ numbers_in q)) (sym is.brings);
    came_apart = ap (λ w. distinct (w ++ numbers_in q)) is.brings ∙ stand.came_apart;
  }

  stands-released : EndpointsStand p (cleared p [] d) (tell (Got e ∷ q) (map Close (gone_numbers p [] d d.table)))
  stands-released = stands-cleared p [] d (Got e ∷ q) (λ fd. sym (none fd)) answered

-- what is told, and how much
module _ (p : Plan) (d new : EndpointsData) (before after : List Action) (left : new ≡ cleared p [] d)
    (appended : after ≡ before ++ map Close (gone_numbers p [] d d.table)) where
  pub tells-release : Tells before after
      (λ told. IsGivingUp told
      × ((q : Record) (e : Event) → is_endpoints_event e ≡ false → ((fd : ℕ) → is_held_back p (Got e ∷ q) fd ≡ false) → EndpointsStand p d q
      → EndpointsStand p new (tell (Got e ∷ q) told)))
  tells-release = record {
    told = map Close (gone_numbers p [] d d.table);
    appended = appended;
    kept = (
      giving-closes (gone_numbers p [] d d.table),
      λ q e other none stand. subst (λ (m : EndpointsData). EndpointsStand p m (tell (Got e ∷ q) (map Close (gone_numbers p [] d d.table)))) (sym left)
          (stands-released p d q e (foreign p d q e other) none stand),
    );
  }

  pub few-release : length after + length new.table ≤ length before + length d.table
  few-release =
      let few = cleared-few p [] d in
      let told = ap length appended ∙ length-append before (map Close (gone_numbers p [] d d.table)) in
      let rest = ap (λ (m : EndpointsData). length m.table) left in
      omega (arith, few, told, rest)
