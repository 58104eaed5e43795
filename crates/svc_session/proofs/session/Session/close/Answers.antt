use Rattle.std.proofs.Common.{true, refl, subst}
use Rattle.svc_base.specs.Items.{list_of}
use Rattle.svc_session.specs.SessionData.{SessionData}
use Rattle.svc_session.specs.Sessions.{Closes}
use Rattle.svc_session.proofs.session.Session.close.Goals as goal

pub returns : goal.returns
returns c =
    let was = c.self.inside in
    let told = list_of c.close_all.new.actions in
    let before : SessionData = record { core = was.core; entries = list_of was.entries; closed = was.closed } in
    let after : SessionData = record { core = was.core; entries = list_of c.put_told.new.entries; closed = true } in
    let all : Closes before after told = record {
      closes = λ q stands. rw c.self.invariant.empty at c.close_all.ensures.closes q stands;
      core = refl;
      entries = c.put_told.ensures.put;
      closed = refl;
    } in
    record { closes = (told, subst (λ (x : SessionData). Closes x after told) c.self.view_is all) }
