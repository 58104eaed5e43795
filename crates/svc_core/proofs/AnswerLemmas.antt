-- The last stage of a step: the offer and the signal are answered, and the run may end.
use Rattle.std.proofs.Common.{Bool, true, false, List, ◌++◌, ◌≡◌, ap, sym, ◌∙◌, subst, length, append_assoc}
use Rattle.std.specs.Prelude.{Option}
use Rattle.std.specs.Bool.{OnTrue}
use Rattle.svc_fds.specs.declared.encoding.Message.{Message}
use Rattle.svc_record.specs.declared.plan.Plan.{Plan}
use Rattle.svc_record.specs.declared.action.Action.{Action}
use Rattle.svc_record.specs.declared.action.StepEnd.TheVariants.{Served}
use Rattle.svc_record.specs.Record.{Record, now, tell}
use Rattle.svc_record.specs.Told.{Tells}
use Rattle.svc_record.specs.Validity.{IsInOrder}
use Rattle.svc_record.proofs.Closing.{tell-append}
use Rattle.svc_endpoints.specs.EndpointsState.{open_numbers}
use Rattle.svc_boot.specs.ForkState.{may_run}
use Rattle.svc_boot.specs.BootFacts.{IsBootSettled}
use Rattle.svc_offer.specs.OfferData.{OfferData}
use Rattle.svc_offer.specs.OfferState.{OfferStands, IsOfferSettled, over_since, is_send_due}
use Rattle.svc_offer.specs.OfferEffects.{ask_with, asked}
use Rattle.svc_offer.proofs.Foreign as offers
use Rattle.svc_drain.specs.DrainData.{DrainData}
use Rattle.svc_drain.specs.DrainState.{DrainStands, IsDrainSettled, passes}
use Rattle.svc_drain.specs.DrainEffects.{row_told, gone_on, end_told}
use Rattle.svc_drain.proofs.Foreign as drains
use Rattle.svc_connections.specs.ConnectionsState.{numbers}
use Rattle.svc_connections.proofs.Foreign as sockets
use Rattle.svc_core.specs.CoreData.{CoreData, with_end}
use Rattle.svc_core.specs.Passes.{Going, VisitedUpTo, may_start}
use Rattle.svc_core.specs.Stands.{AfterRetry, Answered, StepRight, HasCopy}
use Rattle.svc_core.proofs.GoingLemmas.{base-of, base-tell, going-from, begun-frees}
use Rattle.svc_core.proofs.LateLemmas.{late-keeps, ask-late, ask-other, over-asked, row-late, row-other, are_late}
use Rattle.svc_core.proofs.OpenLemmas.{step-on}
use Rattle.svc_core.proofs.EndLemmas.{step-served}

-- the core with this offer, and with this end of a run
abbrev pub with_offer : OfferData → CoreData → CoreData
with_offer o core = record core { offer = o }

abbrev pub with_drain : DrainData → CoreData → CoreData
with_drain dr core = record core { drain = dr }

map-on : (c : Bool) (A B : Type 0) → (A → B) → OnTrue c A → OnTrue c B
map-on true A B f x = f x
map-on false A B f x = tt

-- what is due of the offer is asked
asked-going : (core : CoreData) (copy : Option Message) (q : Record) (o : OfferData) → o ≡ asked core.offer core.drain.moment
    → ((p : Plan) (r : Record) → core.drain.moment ≡ now r → (is_send_due core.offer.state core.drain.moment ≡ true → copy ≡ core.offer.message)
    → OfferStands p core.offer r → OfferStands p o (tell r (ask_with copy core.offer core.drain.moment)))
    → HasCopy core copy → may_run core.plan core.boot.fork ≡ true
    → Going core.plan core.starts core.endpoints core.boot core.offer core.drain core.connections q
    → Going core.plan core.starts core.endpoints core.boot o core.drain core.connections (tell q (ask_with copy core.offer core.drain.moment))
asked-going core copy q o after stands copied free going =
    let keeps = late-keeps core.plan core.order 0 (now q) core.endpoints core.boot q (ask_with copy core.offer core.drain.moment)
    (ask-late (now q) copy core.offer core.drain.moment) in
    going-from core.plan core.starts core.endpoints core.boot o core.drain core.connections (tell q (ask_with copy core.offer core.drain.moment))
    (record {
      base = base-tell core.plan core.starts q (ask_with copy core.offer core.drain.moment) keeps.free
          (base-of core.plan core.starts core.endpoints core.boot core.offer core.drain core.connections q going);
      drain = subst (λ over. DrainStands core.plan core.drain over (tell q (ask_with copy core.offer core.drain.moment)))
          (over-asked core.offer core.drain.moment ∙ sym (ap (λ (x : OfferData). over_since x.state) after))
          (drains.stands-tell core.plan core.drain (over_since core.offer.state) q (ask_with copy core.offer core.drain.moment)
          (ask-other copy core.offer core.drain.moment) going.drain);
      offer = stands core.plan q going.drain.moment_is copied going.offer;
      connections = sockets.stands-tell core.plan core.connections q (ask_with copy core.offer core.drain.moment) keeps.apart going.connections;
    })
    (keeps.ends going.ends) (keeps.boot free going.boot)
    (begun-frees core.plan q (now q) (ask_with copy core.offer core.drain.moment) keeps.free ∙ going.begun_is) going.runs

-- what is due of the signal is told
rowed-going : (core : CoreData) (q : Record) (dr : DrainData) → dr ≡ gone_on core.drain (over_since core.offer.state)
    → ((p : Plan) (r : Record) → DrainStands p core.drain (over_since core.offer.state) r
    → DrainStands p dr (over_since core.offer.state) (tell r (row_told core.drain (over_since core.offer.state))))
    → may_run core.plan core.boot.fork ≡ true → Going core.plan core.starts core.endpoints core.boot core.offer core.drain core.connections q
    → Going core.plan core.starts core.endpoints core.boot core.offer dr core.connections (tell q (row_told core.drain (over_since core.offer.state)))
rowed-going core q dr after stands free going =
    let told : List Action = row_told core.drain (over_since core.offer.state) in
    let keeps = late-keeps core.plan core.order 0 (now q) core.endpoints core.boot q (row_told core.drain (over_since core.offer.state))
    (subst (λ m. are_late m (row_told core.drain (over_since core.offer.state)) ≡ true) going.drain.moment_is
    (row-late core.drain (over_since core.offer.state))) in
    going-from core.plan core.starts core.endpoints core.boot core.offer dr core.connections (tell q (row_told core.drain (over_since core.offer.state)))
    (record {
      base = base-tell core.plan core.starts q (row_told core.drain (over_since core.offer.state)) keeps.free
          (base-of core.plan core.starts core.endpoints core.boot core.offer core.drain core.connections q going);
      drain = stands core.plan q going.drain;
      offer = offers.stands-tell core.plan core.offer q (row_told core.drain (over_since core.offer.state))
          (row-other core.drain (over_since core.offer.state)) going.offer;
      connections = sockets.stands-tell core.plan core.connections q (row_told core.drain (over_since core.offer.state)) keeps.apart going.connections;
    })
    (keeps.ends going.ends) (keeps.boot free going.boot)
    (begun-frees core.plan q (now q) (row_told core.drain (over_since core.offer.state)) keeps.free ∙ going.begun_is)
    (λ r. going.runs (sym (ap (λ (x : DrainData). x.running) after) ∙ r))

-- both, one after the other
module _ (core : CoreData) (copy : Option Message) (o : OfferData) (dr : DrainData) (next : dr ≡ gone_on core.drain (over_since core.offer.state))
    (after : o ≡ asked core.offer dr.moment)
    (stands : (p : Plan) (r : Record) → DrainStands p core.drain (over_since core.offer.state) r
    → DrainStands p dr (over_since core.offer.state) (tell r (row_told core.drain (over_since core.offer.state))))
    (told : (p : Plan) (r : Record) → DrainStands p core.drain (over_since core.offer.state) r → IsDrainSettled dr (over_since core.offer.state))
    (asks : (p : Plan) (r : Record) → dr.moment ≡ now r → (is_send_due core.offer.state dr.moment ≡ true → copy ≡ core.offer.message)
    → OfferStands p core.offer r → OfferStands p o (tell r (ask_with copy core.offer dr.moment)))
    (settled : IsOfferSettled o dr.moment) where
  -- what is told then
  abbrev pub answer_told : List Action
  answer_told = row_told core.drain (over_since core.offer.state) ++ ask_with copy core.offer dr.moment

  -- the core then
  abbrev pub answered_core : CoreData
  answered_core = with_offer o (with_drain dr core)

  same-moment : core.drain.moment ≡ dr.moment
  same-moment = sym (ap (λ (x : DrainData). x.moment) next)

  same-over : over_since core.offer.state ≡ over_since o.state
  same-over = over-asked core.offer dr.moment ∙ sym (ap (λ (x : OfferData). over_since x.state) after)

  answered-whole : (q : Record) → AfterRetry core copy q
      → Answered answered_core (tell (tell q (row_told core.drain (over_since core.offer.state))) (ask_with copy core.offer dr.moment))
  answered-whole q tried =
      let rowed : Record = tell q (row_told core.drain (over_since core.offer.state)) in
      let first = rowed-going core q dr next stands tried.free tried.going in
      let copied = subst (λ m. is_send_due core.offer.state m ≡ true → copy ≡ core.offer.message) same-moment tried.copied in
      let late : are_late (now q) (row_told core.drain (over_since core.offer.state)) ≡ true =
      subst (λ m. are_late m (row_told core.drain (over_since core.offer.state)) ≡ true) tried.going.drain.moment_is
      (row-late core.drain (over_since core.offer.state)) in
      record {
        going = asked-going (with_drain dr core) copy rowed o after asks copied tried.free first;
        settled = subst (IsBootSettled core.plan core.boot) same-moment tried.settled;
        untested = tried.untested;
        visited = map-on (may_start core.plan core.boot) (VisitedUpTo core.plan core.order (length core.order) q)
            (VisitedUpTo core.plan core.order (length core.order) (tell rowed (ask_with copy core.offer dr.moment)))
            (λ v. (late-keeps core.plan core.order (length core.order) (now rowed) core.endpoints core.boot rowed (ask_with copy core.offer dr.moment)
            (ask-late (now rowed) copy core.offer dr.moment)).visited
            ((late-keeps core.plan core.order (length core.order) (now q) core.endpoints core.boot q
            (row_told core.drain (over_since core.offer.state)) late).visited v)) tried.visited;
        runs_now = ap (λ (x : DrainData). x.running) next ∙ tried.runs_now;
        on = tried.on;
        end_is = tried.end_is;
        drain = subst (IsDrainSettled dr) same-over (told core.plan q tried.going.drain);
        offer = settled;
      }

  pub answered-is : (q : Record) → AfterRetry core copy q → Answered answered_core (tell q answer_told)
  answered-is q tried =
      subst (Answered answered_core) (sym (tell-append q (row_told core.drain (over_since core.offer.state)) (ask_with copy core.offer dr.moment)))
      (answered-whole q tried)

  -- the run goes on
  pub answer-on : (before mid after_all : List Action) → IsInOrder core.plan core.order → passes core.plan dr ≡ false
      → mid ≡ before ++ row_told core.drain (over_since core.offer.state) → after_all ≡ mid ++ ask_with copy core.offer dr.moment
      → Tells before after_all (λ told_now. (q : Record) → AfterRetry core copy q → StepRight answered_core (tell q told_now) core.end)
  answer-on before mid after_all in_order waits first second = record {
    told = answer_told;
    appended = second ∙ ap (λ w. w ++ ask_with copy core.offer dr.moment) first
        ∙ append_assoc before (row_told core.drain (over_since core.offer.state)) (ask_with copy core.offer dr.moment);
    kept = λ q tried. step-on answered_core (tell q answer_told) in_order (answered-is q tried) waits;
  }

  -- the run ends
  pub answer-end : (before mid asked_all after_all : List Action) → IsInOrder core.plan core.order → passes core.plan dr ≡ true
      → mid ≡ before ++ row_told core.drain (over_since core.offer.state) → asked_all ≡ mid ++ ask_with copy core.offer dr.moment
      → after_all ≡ asked_all ++ end_told core.plan dr (numbers core.connections.live) (open_numbers core.endpoints)
      → Tells before after_all (λ told_now. (q : Record) → AfterRetry core copy q → StepRight (with_end Served answered_core) (tell q told_now) Served)
  answer-end before mid asked_all after_all in_order passed first second last = record {
    told = answer_told ++ end_told core.plan dr (numbers core.connections.live) (open_numbers core.endpoints);
    appended = last
        ∙ ap (λ w. w ++ end_told core.plan dr (numbers core.connections.live) (open_numbers core.endpoints))
        (second ∙ ap (λ w. w ++ ask_with copy core.offer dr.moment) first
        ∙ append_assoc before (row_told core.drain (over_since core.offer.state)) (ask_with copy core.offer dr.moment))
        ∙ append_assoc before answer_told (end_told core.plan dr (numbers core.connections.live) (open_numbers core.endpoints));
    kept = λ q tried. subst (λ r. StepRight (with_end Served answered_core) r Served)
        (sym (tell-append q answer_told (end_told core.plan dr (numbers core.connections.live) (open_numbers core.endpoints))))
        (step-served answered_core (tell q answer_told) in_order (answered-is q tried) passed);
  }
