-- A service fails only by addresses in use, and by binds and adoptions that fail.
use Rattle.std.proofs.Common.{ℕ, Bool, true, false, not, ◌&&◌, ◌||◌, ◌==◌, ◌+◌, ◌<◌, ◌≤◌, nat_le, List, [], ◌∷◌, ◌≡◌, refl, ap, ◌∙◌, if◌then◌else◌, arith}
use Rattle.std.proofs.lemmas.Bool.{lt-leb}
use Rattle.std.specs.List.{list_any}
use Rattle.svc_record.specs.declared.plan.Plan.{Plan}
use Rattle.svc_record.specs.declared.entry.Entry.TheVariants.{Got}
use Rattle.svc_record.specs.declared.event.Event.TheVariants.{InUse, BindFailed, AdoptFailed}
use Rattle.svc_record.specs.Record.{Record, has, times}
use Rattle.svc_record.specs.Plans.{endpoint_numbers, address, is_unix}
use Rattle.svc_record.specs.Descriptors.{has_live}
use Rattle.svc_record.specs.Failed.{is_failure, is_in_use, in_use_count, in_use_limit, has_failed}
use Rattle.svc_judge.specs.Steps.{is_trouble}
use Rattle.svc_judge.proofs.AnewLemmas.{neither_holds}

no_failure : (q : Record) (s i : ℕ) → has (is_trouble s) q ≡ false → has (is_failure s i) q ≡ false
no_failure [] s i h = refl
no_failure (Got (InUse t k) ∷ q) s i h = no_failure q s i ((neither_holds (t == s) (has (is_trouble s) q) h).1)
no_failure (Got (BindFailed t k) ∷ q) s i h =
    let parts = neither_holds (t == s) (has (is_trouble s) q) h in rw (parts.0) (no_failure q s i parts.1)
no_failure (Got (AdoptFailed t k) ∷ q) s i h =
    let parts = neither_holds (t == s) (has (is_trouble s) q) h in rw (parts.0) (no_failure q s i parts.1)
no_failure (_ ∷ q) s i h = no_failure q s i h

never_in_use : (p : Plan) (q : Record) (s i : ℕ) → has (is_trouble s) q ≡ false → in_use_count p q s i ≡ 0
never_in_use p [] s i h = refl
never_in_use p (Got (InUse t k) ∷ q) s i h =
    let parts = neither_holds (t == s) (has (is_trouble s) q) h in rw (parts.0) (never_in_use p q s i parts.1)
never_in_use p (Got (BindFailed t k) ∷ q) s i h = never_in_use p q s i ((neither_holds (t == s) (has (is_trouble s) q) h).1)
never_in_use p (Got (AdoptFailed t k) ∷ q) s i h = never_in_use p q s i ((neither_holds (t == s) (has (is_trouble s) q) h).1)
never_in_use p (_ ∷ q) s i h = never_in_use p q s i h

below_limit : (b : Bool) → nat_le (if b then 1 else 30) 0 ≡ false
below_limit true = refl
below_limit false = refl

any_none : (f : ℕ → Bool) → ((n : ℕ) → f n ≡ false) → (ns : List ℕ) → list_any f ns ≡ false
any_none f h [] = refl
any_none f h (n ∷ ns) = ap (λ b. b || list_any f ns) (h n) ∙ any_none f h ns

-- where none of that came, it hasn't failed
pub untroubled : (p : Plan) (q : Record) (s : ℕ) → has (is_trouble s) q ≡ false → has_failed p q s ≡ false
untroubled p q s h =
    any_none (λ i. has (is_failure s i) q || nat_le (in_use_limit p s i) (in_use_count p q s i))
    (λ i.
    ap (λ b. b || nat_le (in_use_limit p s i) (in_use_count p q s i)) (no_failure q s i h)
    ∙ ap (nat_le (in_use_limit p s i)) (never_in_use p q s i h)
    ∙ below_limit (is_unix p s i))
    (endpoint_numbers p s)

if_most : (b c : Bool) (k l : ℕ) → k ≤ l → (if b && c then k + 1 else k) ≤ (if b then l + 1 else l)
if_most true true k l h = omega (arith, h)
if_most true false k l h = omega (arith, h)
if_most false c k l h = h

counted : (p : Plan) (q : Record) (s i : ℕ) → in_use_count p q s i ≤ times (is_in_use s i) q
counted p [] s i = omega arith
counted p (e ∷ q) s i =
    if_most (is_in_use s i e) (not (has_live p q (address p s i))) (in_use_count p q s i) (times (is_in_use s i) q) (counted p q s i)

-- what was in use too seldom wasn't too often without descriptors
pub seldom_in_use : (p : Plan) (q : Record) (s i : ℕ) → times (is_in_use s i) q < in_use_limit p s i
    → nat_le (in_use_limit p s i) (in_use_count p q s i) ≡ false
seldom_in_use p q s i few =
    let most = counted p q s i in lt-leb (in_use_limit p s i) (in_use_count p q s i) (omega (arith, few, most))
