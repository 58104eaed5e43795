use Rattle.std.proofs.Common.{◌≡◌, ◌-◌, ℕ, true, map, sym, subst, arith}
use Rattle.std.proofs.lemmas.List.{length-map}
use Rattle.svc_supervisor.specs.Chains.{has_taken_at}
use Rattle.svc_supervisor.specs.Generations.{data_of}
use Rattle.svc_supervisor.proofs.places.next_generation.Goals as goal

pub returns-in-Ok-clause-may : goal.returns-in-Ok-clause-may
returns-in-Ok-clause-may c = record {
  begins = c.in-Ok.ensures.begins;
  may = (let m = c.in-Ok-true.ensures in rw c.in-Ok-true.field-0-test at m);
  few = omega (arith, c.if-generations-ge64.false);
  ready = λ linked. subst (λ (n : ℕ). has_taken_at (map data_of c.args.generations.now) (n - 1) ≡ true) (sym (length-map c.args.generations.now data_of))
      (sym (c.if-not-has_taken_at.ensures linked));
}
