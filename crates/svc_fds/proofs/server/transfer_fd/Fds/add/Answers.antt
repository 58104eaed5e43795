use Rattle.std.proofs.Common.{◌≡◌, ◌∙◌, Some, length, take, drop, ◌++◌, ap, sym, subst, arith}
use Rattle.svc_fds.specs.FdTable.{FdTable}
use Rattle.svc_fds.specs.Tables.{lookup, put, IsAscending}
use Rattle.svc_fds.proofs.TableLemmas.{lookup-put, ascending-put}
use Rattle.svc_fds.proofs.PlaceLemmas.{held-get, held-lookup, free-lookup, put-replaced, free-put}
use Rattle.svc_fds.proofs.server.transfer_fd.Fds.add.Goals as goal
use Rattle.svc_fds.proofs.server.transfer_fd.Fds.add.Goals.{After-replace_at, In_ok-insert_at-in-Free}

-- the entries after a replacement
replaced : (c : After-replace_at)
    → take c.self.inside.entries.len (c.replace_at.new.entries ++ drop (length c.replace_at.new.entries) c.self.inside.entries.items)
    ≡ put c.args.bind c.args.fd c.self.inside.entries.items
replaced c =
    let es = c.self.inside.entries.items in
    let held = rw (c.as_str.ensures, c.deref.ensures.value) at c.in-Held.ensures in
    let now = rw c.deref_mut.ensures.value at
    (c.replace_at.ensures.now c.args.bind held.fd (rw c.deref_mut.ensures.value (held-get c.args.bind es c.in-Held.at held))) in
    put-replaced c.self.inside.entries.len es c.replace_at.new.entries c.args.bind c.args.fd c.in-Held.at held
    (omega (arith, c.self.inside.entries.ok.0, c.replace_at.auto.entries, c.deref_mut.ensures.len)) now

pub invariant_of-self : goal.invariant_of-self
invariant_of-self c =
    let here = (goal.at.invariant_of-self c).After-replace_at in
    subst (λ xs. IsAscending xs) (sym (replaced here)) (ascending-put c.args.bind c.args.fd c.self.inside.entries.items c.self.invariant)

pub returns-in-Held-clause-added : goal.returns-in-Held-clause-added
returns-in-Held-clause-added c =
    replaced ((goal.at.returns-in-Held-clause-added c).After-replace_at) ∙ ap (λ (t : FdTable). put c.args.bind c.args.fd t.entries) c.self.view_is

pub returns-in-Held-clause-replaced : goal.returns-in-Held-clause-replaced
returns-in-Held-clause-replaced c =
    let es = c.self.inside.entries.items in
    let held = rw (c.as_str.ensures, c.deref.ensures.value) at c.in-Held.ensures in
    let old = c.replace_at.ensures.old c.args.bind held.fd (rw c.deref_mut.ensures.value (held-get c.args.bind es c.in-Held.at held)) in
    ap Some old ∙ sym (held-lookup c.args.bind es c.in-Held.at held) ∙ ap (λ (t : FdTable). lookup c.args.bind t.entries) c.self.view_is

pub returns-in-Held-clause-only : goal.returns-in-Held-clause-only
returns-in-Held-clause-only c =
    let e = replaced ((goal.at.returns-in-Held-clause-only c).After-replace_at) ∙ ap (λ (t : FdTable). put c.args.bind c.args.fd t.entries) c.self.view_is in
    λ other. ap (λ xs. lookup other xs) e ∙ lookup-put c.args.bind c.args.fd c.args.self.now.entries other

pub returns-in-Held-clause-ascending : goal.returns-in-Held-clause-ascending
returns-in-Held-clause-ascending c =
    subst (λ xs. IsAscending xs) (sym (replaced ((goal.at.returns-in-Held-clause-ascending c).After-replace_at)))
    (ascending-put c.args.bind c.args.fd c.self.inside.entries.items c.self.invariant)

-- the entries after an insertion
inserted : (c : In_ok-insert_at-in-Free) → c.insert_at.new.entries.items ≡ put c.args.bind c.args.fd c.self.inside.entries.items
inserted c =
    let free = rw (c.as_str.ensures, c.deref.ensures.value) at c.in-Free.ensures in
    c.in_ok-insert_at-in-Free.ensures.inserted ∙ sym (free-put c.args.bind c.args.fd c.self.inside.entries.items c.in-Free.at free)

pub invariant_of-self-in-Free : goal.invariant_of-self-in-Free
invariant_of-self-in-Free c =
    subst (λ xs. IsAscending xs) (sym (inserted c)) (ascending-put c.args.bind c.args.fd c.self.inside.entries.items c.self.invariant)

pub returns-in_ok-insert_at-in-Free-clause-added : goal.returns-in_ok-insert_at-in-Free-clause-added
returns-in_ok-insert_at-in-Free-clause-added c =
    inserted ((goal.at.returns-in_ok-insert_at-in-Free-clause-added c).In_ok-insert_at-in-Free)
    ∙ ap (λ (t : FdTable). put c.args.bind c.args.fd t.entries) c.self.view_is

pub returns-in_ok-insert_at-in-Free-clause-replaced : goal.returns-in_ok-insert_at-in-Free-clause-replaced
returns-in_ok-insert_at-in-Free-clause-replaced c =
    let free = rw (c.as_str.ensures, c.deref.ensures.value) at c.in-Free.ensures in
    sym (free-lookup c.args.bind c.self.inside.entries.items c.in-Free.at free) ∙ ap (λ (t : FdTable). lookup c.args.bind t.entries) c.self.view_is

pub returns-in_ok-insert_at-in-Free-clause-only : goal.returns-in_ok-insert_at-in-Free-clause-only
returns-in_ok-insert_at-in-Free-clause-only c =
    let e = inserted ((goal.at.returns-in_ok-insert_at-in-Free-clause-only c).In_ok-insert_at-in-Free)
    ∙ ap (λ (t : FdTable). put c.args.bind c.args.fd t.entries) c.self.view_is in
    λ other. ap (λ xs. lookup other xs) e ∙ lookup-put c.args.bind c.args.fd c.args.self.now.entries other

pub returns-in_ok-insert_at-in-Free-clause-ascending : goal.returns-in_ok-insert_at-in-Free-clause-ascending
returns-in_ok-insert_at-in-Free-clause-ascending c =
    subst (λ xs. IsAscending xs) (sym (inserted ((goal.at.returns-in_ok-insert_at-in-Free-clause-ascending c).In_ok-insert_at-in-Free)))
    (ascending-put c.args.bind c.args.fd c.self.inside.entries.items c.self.invariant)
