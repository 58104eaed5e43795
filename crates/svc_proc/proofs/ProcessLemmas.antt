-- What was asked of a process in one call after the other.
use Rattle.std.proofs.Common.{◌≡◌, ℕ, Bool, true, List, [], ◌∷◌, ◌++◌, Some, subst, ◌∙◌, arith}
use Rattle.svc_base.proofs.CallLemmas.{Adds-then}
use Rattle.svc_proc.specs.declared.process.ProcessCall.{ProcessCall}
use Rattle.svc_proc.specs.declared.process.ProcessCall.TheVariants.{Exists, Rename}
use Rattle.svc_proc.specs.ProcessData.{ProcessData, Asks}
use Rattle.svc_proc.specs.Daemons.{old_name, moving}

pub Asks-then : (a b c : ProcessData) (xs ys : List ProcessCall) → Asks a b xs → Asks b c ys → Asks a c (xs ++ ys)
Asks-then a b c xs ys p q = record {
  called = Adds-then a.called b.called c.called xs ys p.called q.called;
  stays = record {
    told = λ some. q.stays.told some ∙ p.stays.told (omega (arith, some, q.stays.falls));
    falls = omega (arith, p.stays.falls, q.stays.falls);
  };
  passed = omega (arith, p.passed, q.passed);
  number = q.number ∙ p.number;
  faults = q.faults ∙ p.faults;
}

pub moved : (a b c : ProcessData) (path to : List ℕ) (there renamed : Bool) → there ≡ true → to ≡ old_name path
    → Asks a b (Exists path there ∷ []) → Asks b c (Rename path to renamed ∷ []) → Asks a c (moving path (Some renamed))
moved a b c path to there renamed t e p q =
    Asks-then a b c (Exists path true ∷ []) (Rename path (old_name path) renamed ∷ [])
    (subst (λ (x : Bool). Asks a b (Exists path x ∷ [])) t p) (subst (λ (y : List ℕ). Asks b c (Rename path y renamed ∷ [])) e q)
