use Rattle.std.proofs.Common.{◌∙◌, Some, ap, sym}
use Rattle.svc_fds.specs.FdTable.{FdTable}
use Rattle.svc_fds.specs.Tables.{Entry, lookup}
use Rattle.svc_fds.proofs.PlaceLemmas.{held-lookup, free-lookup, held-read}
use Rattle.svc_fds.proofs.server.transfer_fd.Fds.get_counted.Goals as goal

pub returns-in-Held-clause-found : goal.returns-in-Held-clause-found
returns-in-Held-clause-found g c =
    let es = c.self.inside.entries.items in
    let held = rw (c.deref.ensures.value, c.as_bytes.ensures.value) at c.in-Held.ensures.place in
    ap (λ (e : Entry). Some e.1) (held-read c.args.bind.now es c.in-Held.at held c.index.result.now c.index.ensures)
    ∙ sym (held-lookup c.args.bind.now es c.in-Held.at held) ∙ ap (λ (t : FdTable). lookup c.args.bind.now t.entries) c.self.view_is

pub returns-in-Free-clause-found : goal.returns-in-Free-clause-found
returns-in-Free-clause-found g c =
    let free = rw (c.deref.ensures.value, c.as_bytes.ensures.value) at c.in-Free.ensures.place in
    sym (free-lookup c.args.bind.now c.self.inside.entries.items c.in-Free.field-0 free) ∙ ap (λ (t : FdTable). lookup c.args.bind.now t.entries) c.self.view_is
