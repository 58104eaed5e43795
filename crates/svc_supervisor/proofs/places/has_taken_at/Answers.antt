use Rattle.std.proofs.Common.{get_or, eq-eqb, ◌∙◌}
use Rattle.std.proofs.lemmas.Option.{slice_get-get_or}
use Rattle.svc_supervisor.proofs.PlaceLemmas.{taken-first, taken-later}
use Rattle.svc_supervisor.proofs.places.has_taken_at.Goals as goal

pub returns-then-index-eq0 : goal.returns-then-index-eq0
returns-then-index-eq0 c = λ _. eq-eqb c.args.index 0 c.if-index-eq0.true ∙ taken-first c.args.generations.now c.args.index c.requires.begun c.if-index-eq0.true

pub returns-else-index-eq0 : goal.returns-else-index-eq0
returns-else-index-eq0 c = taken-later c.args.generations.now c.args.index (get_or c.args.generations.now c.args.index c.index-generations-index.result)
    (slice_get-get_or c.args.generations.now c.args.index c.index-generations-index.result c.requires.begun) c.if-index-eq0.false
