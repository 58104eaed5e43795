use Rattle.std.proofs.Common.{subst, ◌∙◌}
use Rattle.std.specs.Prelude.{IfOk}
use Rattle.std.proofs.lemmas.Result.{on_err_weaker}
use Rattle.svc_sockets.specs.Seen.{seen}
use Rattle.svc_sockets.specs.SocketsData.{SocketsData, TellsNext}
use Rattle.svc_sockets.proofs.TellLemmas.{same_but_next}
use Rattle.svc_sockets.proofs.sockets.Sockets.next_of_offers.Goals as goal

pub returns-in-Some-clause-told : goal.returns-in-Some-clause-told
returns-in-Some-clause-told c = rw c.in-Some.is at (c.in_ok-event.ensures.told (seen c.args.self.now))

pub returns-in-None-clause-told : goal.returns-in-None-clause-told
returns-in-None-clause-told c =
    let same = rw c.in-None.is at (c.in_ok-event.ensures.told (seen c.args.self.now)) in
    subst (λ (before : SocketsData). IfOk c.next_of_tables.result (λ event. TellsNext event before (seen c.next_of_tables.new.self))) same
    c.next_of_tables.ensures.told

pub returns-in-None-clause-stays : goal.returns-in-None-clause-stays
returns-in-None-clause-stays c =
    let same = rw c.in-None.is at (c.in_ok-event.ensures.told (seen c.args.self.now)) in
    on_err_weaker c.next_of_tables.result (λ stays. same_but_next _ _ (stays ∙ same)) c.next_of_tables.ensures.stays
