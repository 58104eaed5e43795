use Rattle.std.proofs.Common.{sym, subst}
use Rattle.svc_fds.specs.Tables.{IsAscending, is_kept}
use Rattle.svc_fds.proofs.TableLemmas.{ascending-filter}
use Rattle.svc_fds.proofs.server.transfer_fd.Fds.close_unclaimed.Goals as goal

pub invariant_of-self : goal.invariant_of-self
invariant_of-self c =
    subst (λ es. IsAscending es) (sym c.take_unclaimed.ensures.left)
    (ascending-filter (λ e. is_kept c.args.keep.now.keys e.0) c.self.inside.entries.items c.self.invariant)

pub returns-clause-ascending : goal.returns-clause-ascending
returns-clause-ascending c =
    subst (λ es. IsAscending es) (sym c.take_unclaimed.ensures.left)
    (ascending-filter (λ e. is_kept c.args.keep.now.keys e.0) c.self.inside.entries.items c.self.invariant)
