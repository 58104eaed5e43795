use Rattle.std.proofs.Common.{string_bytes}
use Rattle.svc_generations.proofs.TextOfChain.{TextThen}
use Rattle.svc_generations.proofs.printing.chain_text.Given as goal

abbrev pub invariant-loop-generation : goal.invariant-loop-generation
invariant-loop-generation l = TextThen (string_bytes l.text) l.generation l.chain.generations
