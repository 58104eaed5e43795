use Rattle.std.proofs.Common.{refl, sym, ◌∙◌}
use Rattle.svc_generations.proofs.ServingLemmas.{begun_serving, begun_open}
use Rattle.svc_generations.proofs.serving.Serving.new.Goals as goal

pub returns-in-Ok-clause-serving : goal.returns-in-Ok-clause-serving
returns-in-Ok-clause-serving c = λ blocks has.
    begun_serving blocks c.in-Some.first _ _
    (sym has.plans ∙ c.in-Some.ensures.items) refl has.services c.in-Ok.ensures.begun c.in-Ok.ensures.kept c.in-Ok.ensures.open

pub returns-in-Ok-clause-open : goal.returns-in-Ok-clause-open
returns-in-Ok-clause-open c = begun_open c.in-Some.first _ _ _ c.requires c.in-Some.ensures.items refl c.in-Ok.ensures.begun c.in-Ok.ensures.open
