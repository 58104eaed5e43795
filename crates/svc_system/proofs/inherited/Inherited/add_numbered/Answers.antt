use Rattle.std.proofs.Common.{◌≡◌, ◌++◌, [], List, sym, ap, ◌∙◌, append_assoc, append-nil}
use Rattle.svc_system.specs.declared.inherited.Passed.{Passed}
use Rattle.svc_system.proofs.inherited.Inherited.add_numbered.Goals as goal
use Rattle.svc_system.proofs.inherited.Inherited.add_numbered.Goals.{in-Some+in_ok-add, in_default}

-- what stands behind some, and more behind that, stands behind them
further : (first then last : List Passed) → ((more : List Passed) × (then ≡ first ++ more)) → ((more : List Passed) × (last ≡ then ++ more))
    → (more : List Passed) × (last ≡ first ++ more)
further first then last a b = (a.0 ++ b.0, b.1 ∙ ap (λ rows. rows ++ b.0) a.1 ∙ append_assoc first a.0 b.0)

pub loop-place-init : goal.loop-place-init
loop-place-init c = ([], sym (append-nil c.args.self.now.rows.items))

pub returns-in_err-add : goal.returns-in_err-add
returns-in_err-add c =
    further c.args.self.now.rows.items c.loop-place.self.rows.items c.add.new.self.rows.items c.loop-place.invariant c.add.ensures.kept

pub loop-place-preserved : goal.loop-place-preserved
loop-place-preserved c = elim c.match-descriptor.branch [
  | in-Some+in_ok-add w ↦ rw (w.self-is)
      (further c.args.self.now.rows.items c.loop-place.self.rows.items w.add.new.self.rows.items c.loop-place.invariant w.add.ensures.kept)
  | in_default w ↦ rw (w.self-is) c.loop-place.invariant
]

pub returns : goal.returns
returns c = c.loop-place.invariant
