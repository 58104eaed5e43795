use Rattle.std.proofs.Common.{◌+◌, ◌∷◌, [], ◌++◌, List, take, sym, ap, ◌∙◌, subst, refl}
use Rattle.std.proofs.lemmas.List.{take_more, take_all}
use Rattle.svc_base.specs.Items.{list_of}
use Rattle.svc_handover.specs.declared.pair.PairStep.{PairStep}
use Rattle.svc_handover.specs.Runs.{Runs}
use Rattle.svc_handover.proofs.RunLemmas.{refuses, gives, same-number, no-memory-strays, ok-strays}
use Rattle.svc_handover.proofs.law.handover_law.Goals as goal

pub loop-index-init : goal.loop-index-init
loop-index-init c = c.in-Ok.ensures.begins

pub loop-index-preserved : goal.loop-index-preserved
loop-index-preserved c =
    let before : List PairStep = take c.loop-index.index c.args.schedule.now in
    let step : PairStep = c.index-schedule-index.result in
    subst (λ (more : List PairStep). Runs c.args.old c.args.new more c.take.new.self)
    (sym (take_more c.args.schedule.now c.loop-index.index step c.loop-index-test.true
    ∙ ap (λ (x : PairStep). before ++ x ∷ []) (sym c.index-schedule-index.is)))
    (c.in-Ok-take.ensures.grows c.args.old c.args.new before c.loop-index.invariant
    (sym (c.allows.ensures.means c.args.old c.args.new before c.loop-index.invariant) ∙ c.if-not-allows.false))

pub take-requires : goal.take-requires
take-requires c = record { may = c.if-not-allows.ensures.may refl }

pub returns-in-Err-clause-stray : goal.returns-in-Err-clause-stray
returns-in-Err-clause-stray c k e = absurd (no-memory-strays k e)

pub returns-in_default-clause-stray : goal.returns-in_default-clause-stray
returns-in_default-clause-stray c k e = absurd (no-memory-strays k e)

pub returns-then-not-allows-clause-stray : goal.returns-then-not-allows-clause-stray
returns-then-not-allows-clause-stray c k e =
    refuses c.args.old c.args.new c.args.schedule.now c.loop-index.servers c.loop-index.index c.index-schedule-index.result c.loop-index-test.true
    c.index-schedule-index.is c.loop-index.invariant
    (sym (c.allows.ensures.means c.args.old c.args.new (take c.loop-index.index c.args.schedule.now) c.loop-index.invariant) ∙ c.if-not-allows.true)
    k (same-number (c.loop-index.index + 1) k e)

pub returns-clause-hands_over : goal.returns-clause-hands_over
returns-clause-hands_over c =
    gives c.args.old c.args.new c.args.schedule.now c.loop-index.servers (list_of c.into_run.result.old)
    (list_of c.into_run.result.new) c.into_run.result.channel
    (subst (λ (more : List PairStep). Runs c.args.old c.args.new more c.loop-index.servers)
    (take_all c.loop-index.index c.args.schedule.now c.loop-index-test.false) c.loop-index.invariant)
    c.into_run.ensures.old c.into_run.ensures.new c.into_run.ensures.channel

pub returns-clause-stray : goal.returns-clause-stray
returns-clause-stray c k e = absurd (ok-strays c.into_run.result k e)
