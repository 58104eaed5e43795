use Rattle.std.proofs.Common.{◌≡◌, ◌∙◌, Some, ap, sym, subst}
use Rattle.svc_fds.specs.FdTable.{FdTable}
use Rattle.svc_fds.specs.Tables.{Entry, lookup, without, IsAscending}
use Rattle.svc_fds.proofs.TableLemmas.{lookup-without, ascending-without}
use Rattle.svc_fds.proofs.PlaceLemmas.{held-lookup, free-lookup, held-read, held-without, free-without}
use Rattle.svc_fds.proofs.server.transfer_fd.Fds.remove.Goals as goal
use Rattle.svc_fds.proofs.server.transfer_fd.Fds.remove.Goals.{After-remove-fd}

-- the entries after the removal
left : (c : After-remove-fd) → c.remove-fd.new.self.items ≡ without c.args.bind.now c.self.inside.entries.items
left c =
    let held = rw c.deref.ensures.value at c.in-Held.ensures in
    c.remove-fd.ensures.items ∙ sym (held-without c.args.bind.now c.self.inside.entries.items c.in-Held.at held c.self.invariant)

pub invariant_of-self : goal.invariant_of-self
invariant_of-self c =
    subst (λ xs. IsAscending xs) (sym (left ((goal.at.invariant_of-self c).After-remove-fd)))
    (ascending-without c.args.bind.now c.self.inside.entries.items c.self.invariant)

pub returns-in-Held-clause-removed : goal.returns-in-Held-clause-removed
returns-in-Held-clause-removed c =
    let es = c.self.inside.entries.items in
    let held = rw c.deref.ensures.value at c.in-Held.ensures in
    ap (λ (e : Entry). Some e.1) (held-read c.args.bind.now es c.in-Held.at held c.remove-fd.result c.remove-fd.ensures.value)
    ∙ sym (held-lookup c.args.bind.now es c.in-Held.at held) ∙ ap (λ (t : FdTable). lookup c.args.bind.now t.entries) c.self.view_is

pub returns-in-Held-clause-left : goal.returns-in-Held-clause-left
returns-in-Held-clause-left c =
    left ((goal.at.returns-in-Held-clause-left c).After-remove-fd) ∙ ap (λ (t : FdTable). without c.args.bind.now t.entries) c.self.view_is

pub returns-in-Held-clause-only : goal.returns-in-Held-clause-only
returns-in-Held-clause-only c =
    let e = left ((goal.at.returns-in-Held-clause-only c).After-remove-fd) ∙ ap (λ (t : FdTable). without c.args.bind.now t.entries) c.self.view_is in
    λ other. ap (λ xs. lookup other xs) e ∙ lookup-without c.args.bind.now c.args.self.now.entries other

pub returns-in-Held-clause-ascending : goal.returns-in-Held-clause-ascending
returns-in-Held-clause-ascending c =
    subst (λ xs. IsAscending xs) (sym (left ((goal.at.returns-in-Held-clause-ascending c).After-remove-fd)))
    (ascending-without c.args.bind.now c.self.inside.entries.items c.self.invariant)

pub returns-in-Free-clause-removed : goal.returns-in-Free-clause-removed
returns-in-Free-clause-removed c =
    let free = rw c.deref.ensures.value at c.in-Free.ensures in
    sym (free-lookup c.args.bind.now c.self.inside.entries.items c.in-Free.field-0 free) ∙ ap (λ (t : FdTable). lookup c.args.bind.now t.entries) c.self.view_is

pub returns-in-Free-clause-left : goal.returns-in-Free-clause-left
returns-in-Free-clause-left c =
    let free = rw c.deref.ensures.value at c.in-Free.ensures in
    let seen = ap (λ (t : FdTable). t.entries) c.self.view_is in
    sym seen ∙ sym (free-without c.args.bind.now c.self.inside.entries.items c.in-Free.field-0 free) ∙ ap (λ xs. without c.args.bind.now xs) seen

pub returns-in-Free-clause-only : goal.returns-in-Free-clause-only
returns-in-Free-clause-only c =
    let free = rw c.deref.ensures.value at c.in-Free.ensures in
    let seen = ap (λ (t : FdTable). t.entries) c.self.view_is in
    let e = sym seen ∙ sym (free-without c.args.bind.now c.self.inside.entries.items c.in-Free.field-0 free) ∙ ap (λ xs. without c.args.bind.now xs) seen in
    λ other. ap (λ xs. lookup other xs) e ∙ lookup-without c.args.bind.now c.args.self.now.entries other
