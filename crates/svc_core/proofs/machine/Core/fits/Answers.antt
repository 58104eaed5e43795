use Rattle.std.proofs.Common.{◌≡◌, ◌≤◌, ap, subst, true, false, refl, sym, ◌∙◌}
use Rattle.std.proofs.lemmas.Bool.{leb-true, le-leb}
use Rattle.svc_endpoints.specs.EndpointsState.{IsEndpointsSized}
use Rattle.svc_boot.specs.ForkState.{is_asked, is_waiting}
use Rattle.svc_boot.specs.BootState.{is_trying}
use Rattle.svc_offer.specs.OfferState.{is_connecting, is_sending}
use Rattle.svc_record.specs.declared.event.Event.TheVariants.{ChildReady, ChildGone, DropFailed}
use Rattle.svc_connections.specs.ConnectionsState.{is_setting, is_shaking, is_serving, stage_of}
use Rattle.svc_core.specs.CoreData.{CoreData, is_on}
use Rattle.svc_core.proofs.FitsLemmas.{loop-fits, ready-fits, ended-fits, bound-fits, bind-fits, adopt-fits, received-fits, try-fits, moment-fits, connect-fits, send-fits, kind-fits, ended-none, arrived-fits, accept-fits, set-fits, shaken-fits, finished-fits, side-fits, parent-fits}
use Rattle.svc_core.proofs.machine.Core.fits.Goals as goal

pub returns-then-not-is_on-clause-means : goal.returns-then-not-is_on-clause-means
returns-then-not-is_on-clause-means c =
    λ q stands. (
      λ x. absurd (let off = x in cc),
      λ fit. absurd
          (ended-none c.args.self.now q c.args.event.now
          (subst (λ (core : CoreData). is_on core.end ≡ false) c.self.view_is (sym c.is_on.ensures ∙ c.if-not-is_on.true)) stands fit),
    )

pub returns-in-Ready-clause-means : goal.returns-in-Ready-clause-means
returns-in-Ready-clause-means c = λ q stands. (
    let both = ready-fits c.args.self.now q
    (subst (λ (core : CoreData). is_on core.end ≡ true) c.self.view_is (sym c.is_on.ensures ∙ c.if-not-is_on.false)) stands c.in-Ready.s in (
      λ holds. rw c.in-Ready.is (both.0 (c.ready_fits.ensures.0 holds)),
      λ fit. c.ready_fits.ensures.1 (both.1 (rw c.in-Ready.is at fit)),
    ))

pub returns-in-Ended-clause-means : goal.returns-in-Ended-clause-means
returns-in-Ended-clause-means c = λ q stands. (
    let both = ended-fits c.args.self.now q
    (subst (λ (core : CoreData). is_on core.end ≡ true) c.self.view_is (sym c.is_on.ensures ∙ c.if-not-is_on.false)) stands c.in-Ended.s in (
      λ holds. rw c.in-Ended.is (both.0 (c.ended_fits.ensures.0 holds)),
      λ fit. c.ended_fits.ensures.1 (both.1 (rw c.in-Ended.is at fit)),
    ))

pub returns-in-Bound-clause-means : goal.returns-in-Bound-clause-means
returns-in-Bound-clause-means c = λ q stands. (
    let both = bound-fits c.args.self.now q
    (subst (λ (core : CoreData). is_on core.end ≡ true) c.self.view_is (sym c.is_on.ensures ∙ c.if-not-is_on.false)) stands c.in-Bound.s c.in-Bound.i
    c.in-Bound.fd in (
      λ holds. rw c.in-Bound.is (both.0 (c.bound_fits.ensures.0 holds)),
      λ fit. c.bound_fits.ensures.1 (both.1 (rw c.in-Bound.is at fit)),
    ))

pub returns-in-InUse-clause-means : goal.returns-in-InUse-clause-means
returns-in-InUse-clause-means c = λ q stands. (
    let both = bind-fits c.args.self.now q
    (subst (λ (core : CoreData). is_on core.end ≡ true) c.self.view_is (sym c.is_on.ensures ∙ c.if-not-is_on.false)) stands c.in-InUse.s c.in-InUse.i in (
      λ holds. rw c.in-InUse.is (both.0 (c.bind_answer_fits.ensures.0 holds)),
      λ fit. c.bind_answer_fits.ensures.1 (both.1 (rw c.in-InUse.is at fit)),
    ))

pub returns-in-BindFailed-clause-means : goal.returns-in-BindFailed-clause-means
returns-in-BindFailed-clause-means c = λ q stands. (
    let both = bind-fits c.args.self.now q
    (subst (λ (core : CoreData). is_on core.end ≡ true) c.self.view_is (sym c.is_on.ensures ∙ c.if-not-is_on.false)) stands c.in-BindFailed.s
    c.in-BindFailed.i in (
      λ holds. rw c.in-BindFailed.is (both.0 (c.bind_answer_fits-in-BindFailed.ensures.0 holds)),
      λ fit. c.bind_answer_fits-in-BindFailed.ensures.1 (both.1 (rw c.in-BindFailed.is at fit)),
    ))

pub returns-in-Adopted-clause-means : goal.returns-in-Adopted-clause-means
returns-in-Adopted-clause-means c = λ q stands. (
    let both = adopt-fits c.args.self.now q
    (subst (λ (core : CoreData). is_on core.end ≡ true) c.self.view_is (sym c.is_on.ensures ∙ c.if-not-is_on.false)) stands c.in-Adopted.s c.in-Adopted.i in (
      λ holds. rw c.in-Adopted.is (both.0 (c.adopt_answer_fits.ensures.0 holds)),
      λ fit. c.adopt_answer_fits.ensures.1 (both.1 (rw c.in-Adopted.is at fit)),
    ))

pub returns-in-AdoptFailed-clause-means : goal.returns-in-AdoptFailed-clause-means
returns-in-AdoptFailed-clause-means c = λ q stands. (
    let both = adopt-fits c.args.self.now q
    (subst (λ (core : CoreData). is_on core.end ≡ true) c.self.view_is (sym c.is_on.ensures ∙ c.if-not-is_on.false)) stands c.in-AdoptFailed.s
    c.in-AdoptFailed.i in (
      λ holds. rw c.in-AdoptFailed.is (both.0 (c.adopt_answer_fits-in-AdoptFailed.ensures.0 holds)),
      λ fit. c.adopt_answer_fits-in-AdoptFailed.ensures.1 (both.1 (rw c.in-AdoptFailed.is at fit)),
    ))

pub returns-in-Received-clause-means : goal.returns-in-Received-clause-means
returns-in-Received-clause-means c = λ q stands. (
    let both = received-fits c.args.self.now q
    (subst (λ (core : CoreData). is_on core.end ≡ true) c.self.view_is (sym c.is_on.ensures ∙ c.if-not-is_on.false)) stands c.in-Received.field-0
    c.in-Received.fds in (
      λ holds. rw c.in-Received.is (both.0 (rw c.as_slice.ensures at (c.received_fits.ensures.0 holds))),
      λ fit. c.received_fits.ensures.1 (rw c.as_slice.ensures (both.1 (rw c.in-Received.is at fit))),
    ))

pub returns-in-Connected-clause-means : goal.returns-in-Connected-clause-means
returns-in-Connected-clause-means c = λ q stands. (
    let both = connect-fits c.args.self.now q
    (subst (λ (core : CoreData). is_on core.end ≡ true) c.self.view_is (sym c.is_on.ensures ∙ c.if-not-is_on.false)) stands in
    let asks = c.is_connecting.ensures ∙ ap (λ (core : CoreData). is_connecting core.offer.state) c.self.view_is in (
      λ holds. rw c.in-Connected.is (both.0 (sym asks ∙ holds)),
      λ fit. asks ∙ both.1 (rw c.in-Connected.is at fit),
    ))

pub returns-in-NotThere-clause-means : goal.returns-in-NotThere-clause-means
returns-in-NotThere-clause-means c = λ q stands. (
    let both = connect-fits c.args.self.now q
    (subst (λ (core : CoreData). is_on core.end ≡ true) c.self.view_is (sym c.is_on.ensures ∙ c.if-not-is_on.false)) stands in
    let asks = c.is_connecting-in-NotThere.ensures ∙ ap (λ (core : CoreData). is_connecting core.offer.state) c.self.view_is in (
      λ holds. rw c.in-NotThere.is (both.0 (sym asks ∙ holds)),
      λ fit. asks ∙ both.1 (rw c.in-NotThere.is at fit),
    ))

pub returns-in-StillConnecting-clause-means : goal.returns-in-StillConnecting-clause-means
returns-in-StillConnecting-clause-means c = λ q stands. (
    let both = connect-fits c.args.self.now q
    (subst (λ (core : CoreData). is_on core.end ≡ true) c.self.view_is (sym c.is_on.ensures ∙ c.if-not-is_on.false)) stands in
    let asks = c.is_connecting-in-StillConnecting.ensures ∙ ap (λ (core : CoreData). is_connecting core.offer.state) c.self.view_is in (
      λ holds. rw c.in-StillConnecting.is (both.0 (sym asks ∙ holds)),
      λ fit. asks ∙ both.1 (rw c.in-StillConnecting.is at fit),
    ))

pub returns-in-ConnectFailed-clause-means : goal.returns-in-ConnectFailed-clause-means
returns-in-ConnectFailed-clause-means c = λ q stands. (
    let both = connect-fits c.args.self.now q
    (subst (λ (core : CoreData). is_on core.end ≡ true) c.self.view_is (sym c.is_on.ensures ∙ c.if-not-is_on.false)) stands in
    let asks = c.is_connecting-in-ConnectFailed.ensures ∙ ap (λ (core : CoreData). is_connecting core.offer.state) c.self.view_is in (
      λ holds. rw c.in-ConnectFailed.is (both.0 (sym asks ∙ holds)),
      λ fit. asks ∙ both.1 (rw c.in-ConnectFailed.is at fit),
    ))

pub returns-in-Sent-clause-means : goal.returns-in-Sent-clause-means
returns-in-Sent-clause-means c = λ q stands. (
    let both = send-fits c.args.self.now q
    (subst (λ (core : CoreData). is_on core.end ≡ true) c.self.view_is (sym c.is_on.ensures ∙ c.if-not-is_on.false)) stands in
    let asks = c.is_sending.ensures ∙ ap (λ (core : CoreData). is_sending core.offer.state) c.self.view_is in (
      λ holds. rw c.in-Sent.is (both.0 (sym asks ∙ holds)),
      λ fit. asks ∙ both.1 (rw c.in-Sent.is at fit),
    ))

pub returns-in-SendBusy-clause-means : goal.returns-in-SendBusy-clause-means
returns-in-SendBusy-clause-means c = λ q stands. (
    let both = send-fits c.args.self.now q
    (subst (λ (core : CoreData). is_on core.end ≡ true) c.self.view_is (sym c.is_on.ensures ∙ c.if-not-is_on.false)) stands in
    let asks = c.is_sending-in-SendBusy.ensures ∙ ap (λ (core : CoreData). is_sending core.offer.state) c.self.view_is in (
      λ holds. rw c.in-SendBusy.is (both.0 (sym asks ∙ holds)),
      λ fit. asks ∙ both.1 (rw c.in-SendBusy.is at fit),
    ))

pub returns-in-SendFailed-clause-means : goal.returns-in-SendFailed-clause-means
returns-in-SendFailed-clause-means c = λ q stands. (
    let both = send-fits c.args.self.now q
    (subst (λ (core : CoreData). is_on core.end ≡ true) c.self.view_is (sym c.is_on.ensures ∙ c.if-not-is_on.false)) stands in
    let asks = c.is_sending-in-SendFailed.ensures ∙ ap (λ (core : CoreData). is_sending core.offer.state) c.self.view_is in (
      λ holds. rw c.in-SendFailed.is (both.0 (sym asks ∙ holds)),
      λ fit. asks ∙ both.1 (rw c.in-SendFailed.is at fit),
    ))

pub returns-in-Moment-clause-means : goal.returns-in-Moment-clause-means
returns-in-Moment-clause-means c = λ q stands. (
    let both = moment-fits c.args.self.now q
    (subst (λ (core : CoreData). is_on core.end ≡ true) c.self.view_is (sym c.is_on.ensures ∙ c.if-not-is_on.false)) stands c.in-Moment.ms in
    let time = c.moment.ensures ∙ ap (λ (core : CoreData). core.drain.moment) c.self.view_is in (
      λ holds. rw c.in-Moment.is (both.0 (subst (λ m. m ≤ c.in-Moment.ms) time (leb-true c.moment.result c.in-Moment.ms holds))),
      λ fit. le-leb c.moment.result c.in-Moment.ms (subst (λ m. m ≤ c.in-Moment.ms) (sym time) (both.1 (rw c.in-Moment.is at fit))),
    ))

pub returns-in-NoSenderYet-clause-means : goal.returns-in-NoSenderYet-clause-means
returns-in-NoSenderYet-clause-means c = λ q stands. (
    let both = try-fits c.args.self.now q
    (subst (λ (core : CoreData). is_on core.end ≡ true) c.self.view_is (sym c.is_on.ensures ∙ c.if-not-is_on.false)) stands in
    let asks = c.is_trying.ensures ∙ ap (λ (core : CoreData). is_trying core.boot.receiving) c.self.view_is in (
      λ holds. rw c.in-NoSenderYet.is (both.0 (sym asks ∙ holds)),
      λ fit. asks ∙ both.1 (rw c.in-NoSenderYet.is at fit),
    ))

pub returns-in-ReceiveFailed-clause-means : goal.returns-in-ReceiveFailed-clause-means
returns-in-ReceiveFailed-clause-means c = λ q stands. (
    let both = try-fits c.args.self.now q
    (subst (λ (core : CoreData). is_on core.end ≡ true) c.self.view_is (sym c.is_on.ensures ∙ c.if-not-is_on.false)) stands in
    let asks = c.is_trying-in-ReceiveFailed.ensures ∙ ap (λ (core : CoreData). is_trying core.boot.receiving) c.self.view_is in (
      λ holds. rw c.in-ReceiveFailed.is (both.0 (sym asks ∙ holds)),
      λ fit. asks ∙ both.1 (rw c.in-ReceiveFailed.is at fit),
    ))

pub returns-in-LoopEnded-clause-means : goal.returns-in-LoopEnded-clause-means
returns-in-LoopEnded-clause-means c = λ q stands. (
    let sized = subst (λ (core : CoreData). IsEndpointsSized core.plan core.endpoints) c.self.view_is c.self.invariant.formed.endpoints in
    let both = loop-fits c.args.self.now q
    (subst (λ (core : CoreData). is_on core.end ≡ true) c.self.view_is (sym c.is_on.ensures ∙ c.if-not-is_on.false)) stands sized c.in-LoopEnded.s
    c.in-LoopEnded.i c.in-LoopEnded.j in (
      λ holds. rw c.in-LoopEnded.is (both.0 (c.loop_fits.ensures.0 holds)),
      λ fit. c.loop_fits.ensures.1 (both.1 (rw c.in-LoopEnded.is at fit)),
    ))

pub returns-in-Signal-clause-means : goal.returns-in-Signal-clause-means
returns-in-Signal-clause-means c = λ q stands. (
    let both = kind-fits c.args.self.now q
    (subst (λ (core : CoreData). is_on core.end ≡ true) c.self.view_is (sym c.is_on.ensures ∙ c.if-not-is_on.false)) stands c.in-Signal.field-0 in
    let runs = c.is_running.ensures ∙ ap (λ (core : CoreData). core.drain.running) c.self.view_is in (
      λ holds. rw c.in-Signal.is (both.0 (sym runs ∙ holds)),
      λ fit. runs ∙ both.1 (rw c.in-Signal.is at fit),
    ))

pub returns-in-Arrived-clause-means : goal.returns-in-Arrived-clause-means
returns-in-Arrived-clause-means c = λ q stands. (
    let both = arrived-fits c.args.self.now q
    (subst (λ (core : CoreData). is_on core.end ≡ true) c.self.view_is (sym c.is_on.ensures ∙ c.if-not-is_on.false)) stands
    (subst (λ (core : CoreData). IsEndpointsSized core.plan core.endpoints) c.self.view_is c.self.invariant.formed.endpoints) c.in-Arrived.s
    c.in-Arrived.i c.in-Arrived.c c.in-Arrived.field-3 in (
      λ holds. rw c.in-Arrived.is (both.0 (c.arrived_fits.ensures.0 holds)),
      λ fit. c.arrived_fits.ensures.1 (both.1 (rw c.in-Arrived.is at fit)),
    ))

pub returns-in-AcceptFailed-clause-means : goal.returns-in-AcceptFailed-clause-means
returns-in-AcceptFailed-clause-means c = λ q stands. (
    let both = accept-fits c.args.self.now q
    (subst (λ (core : CoreData). is_on core.end ≡ true) c.self.view_is (sym c.is_on.ensures ∙ c.if-not-is_on.false)) stands
    (subst (λ (core : CoreData). IsEndpointsSized core.plan core.endpoints) c.self.view_is c.self.invariant.formed.endpoints) c.in-AcceptFailed.s
    c.in-AcceptFailed.i c.in-AcceptFailed.field-2 in (
      λ holds. rw c.in-AcceptFailed.is (both.0 (c.accepts.ensures.0 holds)),
      λ fit. c.accepts.ensures.1 (both.1 (rw c.in-AcceptFailed.is at fit)),
    ))

pub returns-in-Set-clause-means : goal.returns-in-Set-clause-means
returns-in-Set-clause-means c = λ q stands. (
    let both = set-fits c.args.self.now q
    (subst (λ (core : CoreData). is_on core.end ≡ true) c.self.view_is (sym c.is_on.ensures ∙ c.if-not-is_on.false)) stands c.in-Set.c c.in-Set.field-1 in
    let stage = c.is_setting.ensures ∙ ap (λ (core : CoreData). is_setting (stage_of core.connections.live c.in-Set.c)) c.self.view_is in (
      λ holds. rw c.in-Set.is (both.0 (sym stage ∙ holds)),
      λ fit. stage ∙ both.1 (rw c.in-Set.is at fit),
    ))

pub returns-in-Shaken-clause-means : goal.returns-in-Shaken-clause-means
returns-in-Shaken-clause-means c = λ q stands. (
    let both = shaken-fits c.args.self.now q
    (subst (λ (core : CoreData). is_on core.end ≡ true) c.self.view_is (sym c.is_on.ensures ∙ c.if-not-is_on.false)) stands c.in-Shaken.c
    c.in-Shaken.field-1 in
    let stage = c.is_shaking.ensures ∙ ap (λ (core : CoreData). is_shaking (stage_of core.connections.live c.in-Shaken.c)) c.self.view_is in (
      λ holds. rw c.in-Shaken.is (both.0 (sym stage ∙ holds)),
      λ fit. stage ∙ both.1 (rw c.in-Shaken.is at fit),
    ))

pub returns-in-Finished-clause-means : goal.returns-in-Finished-clause-means
returns-in-Finished-clause-means c = λ q stands. (
    let both = finished-fits c.args.self.now q
    (subst (λ (core : CoreData). is_on core.end ≡ true) c.self.view_is (sym c.is_on.ensures ∙ c.if-not-is_on.false)) stands c.in-Finished.c in
    let stage = c.is_serving.ensures ∙ ap (λ (core : CoreData). is_serving (stage_of core.connections.live c.in-Finished.c)) c.self.view_is in (
      λ holds. rw c.in-Finished.is (both.0 (sym stage ∙ holds)),
      λ fit. stage ∙ both.1 (rw c.in-Finished.is at fit),
    ))

pub returns-in-Side-clause-means : goal.returns-in-Side-clause-means
returns-in-Side-clause-means c = λ q stands. (
    let both = side-fits c.args.self.now q
    (subst (λ (core : CoreData). is_on core.end ≡ true) c.self.view_is (sym c.is_on.ensures ∙ c.if-not-is_on.false)) stands c.in-Side.field-0 in
    let asks = c.is_fork_asked.ensures ∙ ap (λ (core : CoreData). is_asked core.boot.fork) c.self.view_is in (
      λ holds. rw c.in-Side.is (both.0 (sym asks ∙ holds)),
      λ fit. asks ∙ both.1 (rw c.in-Side.is at fit),
    ))

pub returns-in-ChildReady-clause-means : goal.returns-in-ChildReady-clause-means
returns-in-ChildReady-clause-means c = λ q stands. (
    let both = parent-fits c.args.self.now q
    (subst (λ (core : CoreData). is_on core.end ≡ true) c.self.view_is (sym c.is_on.ensures ∙ c.if-not-is_on.false)) stands ChildReady refl in
    let waits = c.is_parent_waiting.ensures ∙ ap (λ (core : CoreData). is_waiting core.boot.fork) c.self.view_is in (
      λ holds. rw c.in-ChildReady.is (both.0 (sym waits ∙ holds)),
      λ fit. waits ∙ both.1 (rw c.in-ChildReady.is at fit),
    ))

pub returns-in-ChildGone-clause-means : goal.returns-in-ChildGone-clause-means
returns-in-ChildGone-clause-means c = λ q stands. (
    let both = parent-fits c.args.self.now q
    (subst (λ (core : CoreData). is_on core.end ≡ true) c.self.view_is (sym c.is_on.ensures ∙ c.if-not-is_on.false)) stands ChildGone refl in
    let waits = c.is_parent_waiting-in-ChildGone.ensures ∙ ap (λ (core : CoreData). is_waiting core.boot.fork) c.self.view_is in (
      λ holds. rw c.in-ChildGone.is (both.0 (sym waits ∙ holds)),
      λ fit. waits ∙ both.1 (rw c.in-ChildGone.is at fit),
    ))

pub returns-in-DropFailed-clause-means : goal.returns-in-DropFailed-clause-means
returns-in-DropFailed-clause-means c = λ q stands. (
    let both = parent-fits c.args.self.now q
    (subst (λ (core : CoreData). is_on core.end ≡ true) c.self.view_is (sym c.is_on.ensures ∙ c.if-not-is_on.false)) stands DropFailed refl in
    let waits = c.is_parent_waiting-in-DropFailed.ensures ∙ ap (λ (core : CoreData). is_waiting core.boot.fork) c.self.view_is in (
      λ holds. rw c.in-DropFailed.is (both.0 (sym waits ∙ holds)),
      λ fit. waits ∙ both.1 (rw c.in-DropFailed.is at fit),
    ))
