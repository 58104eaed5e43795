use Rattle.std.proofs.Common.{rules, sym, ◌∙◌, ap}
use Rattle.std.specs.Prelude.{is_some}
use Rattle.svc_drain.specs.DrainData.{DrainData}
use Rattle.svc_drain.proofs.Signalled.{after-first, after-later, signalled-further}
use Rattle.svc_drain.proofs.Cuts.{after-cut}
use Rattle.svc_drain.proofs.drain.Drain.on_signal.Goals as goal

pub returns-then-is_some-clause-after : goal.returns-then-is_some-clause-after
returns-then-is_some-clause-after c =
    c.on_further_signal.ensures
    ∙ sym (signalled-further c.args.kind c.args.offers c.args.self.now
    (ap (λ (d : DrainData). is_some d.signal) (sym c.self.view_is) ∙ sym c.is_some.ensures ∙ c.if-is_some.true))

pub returns-then-is_some-clause-first : goal.returns-then-is_some-clause-first
returns-then-is_some-clause-first c =
    λ p over q none runs offered overs stand. after-first p c.args.self.now _ c.args.kind c.args.offers over q
    (returns-then-is_some-clause-after c) none runs offered overs stand

pub returns-then-is_some-clause-later : goal.returns-then-is_some-clause-later
returns-then-is_some-clause-later c =
    λ p over q came uncut stand. after-later p c.args.self.now _ c.args.kind c.args.offers over q (returns-then-is_some-clause-after c) came uncut stand

pub returns-then-is_some-clause-cut : goal.returns-then-is_some-clause-cut
returns-then-is_some-clause-cut c =
    λ p over over2 q cut uncut settled overs stand. after-cut p c.args.self.now _ c.args.kind c.args.offers over over2 q
    (returns-then-is_some-clause-after c) cut uncut settled overs stand

pub returns-clause-after : goal.returns-clause-after
returns-clause-after c = search rules

pub returns-clause-first : goal.returns-clause-first
returns-clause-first c =
    λ p over q none runs offered overs stand. after-first p c.args.self.now _ c.args.kind c.args.offers over q
    (returns-clause-after c) none runs offered overs stand

pub returns-clause-later : goal.returns-clause-later
returns-clause-later c = λ p over q came uncut stand. after-later p c.args.self.now _ c.args.kind c.args.offers over q (returns-clause-after c) came uncut stand

pub returns-clause-cut : goal.returns-clause-cut
returns-clause-cut c =
    λ p over over2 q cut uncut settled overs stand. after-cut p c.args.self.now _ c.args.kind c.args.offers over over2 q
    (returns-clause-after c) cut uncut settled overs stand
