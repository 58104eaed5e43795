use Rattle.std.proofs.Common.{◌≡◌, true, arith}
use Rattle.svc_endpoints.specs.Sums.{is_listed}
use Rattle.svc_endpoints.proofs.SumLemmas.{each-text}
use Rattle.svc_endpoints.proofs.naming.are_listed.Goals as goal

pub returns : goal.returns
returns c = λ yes a h. each-text c.args.texts.now (λ b. is_listed c.args.list.now b ≡ true) (λ k lt. c.loop-k.invariant k (omega arith)) a h
