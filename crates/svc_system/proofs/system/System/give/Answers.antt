use Rattle.std.proofs.Common.{◌∙◌, sym, ap, inl, inr}
use Rattle.std.proofs.lemmas.Bool.{false≢true}
use Rattle.svc_system.specs.Answering.{says_listening}
use Rattle.svc_system.proofs.system.System.give.Goals as goal

pub returns-in-Bound-clause-others : goal.returns-in-Bound-clause-others
unfolding says_listening
returns-in-Bound-clause-others g c = elim c.in-Bound.is [
  | inl b ↦ λ other. absurd (false≢true (sym other ∙ ap says_listening b.2))
  | inr b ↦ λ other. absurd (false≢true (sym other ∙ ap says_listening b.1))
]
