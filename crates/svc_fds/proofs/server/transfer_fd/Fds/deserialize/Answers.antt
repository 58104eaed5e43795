use Rattle.std.proofs.Common.{◌∙◌, ap, sym, arith}
use Rattle.std.specs.List.{filter_map, zip}
use Rattle.svc_fds.specs.FdTable.{FdTable}
use Rattle.svc_fds.specs.Tables.{lookup}
use Rattle.svc_fds.proofs.PairLemmas.{replaced-lookups, ascending-put_all}
use Rattle.svc_fds.proofs.server.transfer_fd.Fds.deserialize.Goals as goal

pub returns-clause-replaced : goal.returns-clause-replaced
returns-clause-replaced c =
    let replaced = rw (c.reserve.ensures.items, c.new-replaced.ensures.items, c.reserve-else-is_err.ensures.items) at c.put_pairs.ensures.replaced in
    replaced
    ∙ replaced-lookups c.args.binds.items c.args.fds.items c.self.inside.entries.items (omega (arith, c.args.binds.ok.0, c.args.fds.ok.0))
    (sym (rw c.deref.ensures.value at c.if-has_repeat.ensures))
    ∙ ap (λ (t : FdTable). filter_map (λ bind. lookup bind t.entries) c.args.binds.items) c.self.view_is

pub returns-clause-ascending : goal.returns-clause-ascending
returns-clause-ascending c =
    rw (c.put_pairs.ensures.added, c.reserve-else-is_err.ensures.items)
    (ascending-put_all (zip c.args.binds.items c.args.fds.items) c.self.inside.entries.items c.self.invariant)
