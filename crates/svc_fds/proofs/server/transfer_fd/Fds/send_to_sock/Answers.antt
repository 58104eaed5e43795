use Rattle.std.proofs.Common.{◌∙◌, refl, ap, arith, length}
use Rattle.std.proofs.lemmas.List.{length-map}
use Rattle.svc_fds.specs.declared.encoding.Message.{Message}
use Rattle.svc_fds.specs.Tables.{Entry}
use Rattle.svc_fds.specs.Transfers.{unsent, tried}
use Rattle.svc_fds.proofs.VersionLemmas.{written-short}
use Rattle.svc_fds.proofs.server.transfer_fd.Fds.send_to_sock.Goals as goal

pub returns-in-Ok-clause-asked : goal.returns-in-Ok-clause-asked
returns-in-Ok-clause-asked g c =
    let ok = c.in-Ok.ensures.ok in
    let bytes = c.as_slice-in-Ok.ensures ∙ ap (λ (m : Message). m.bytes) ok.1 in
    let fds = c.as_slice.ensures ∙ ap (λ (m : Message). m.fds) ok.1 in
    tried c.send_fds_to.result ok.0
    (rw (bytes, fds) at
    (c.send_fds_to.ensures.asked (omega (arith, ap length bytes, written-short c.args.self.now.entries ok.0.said))
    (omega (arith, ap length fds, length-map c.args.self.now.entries (λ (e : Entry). e.1), ok.0.few))))

pub returns-in-Err-clause-asked : goal.returns-in-Err-clause-asked
returns-in-Err-clause-asked g c = rw c.from.ensures (unsent c.in-Err.error c.in-Err.ensures.refusal refl)
