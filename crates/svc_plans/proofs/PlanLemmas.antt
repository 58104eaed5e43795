-- The plan of a script's services, service by service.
use Rattle.std.proofs.Common.{◌≡◌, ◌+◌, ◌<◌, ◌==◌, ◌&&◌, ℕ, Bool, true, false, List, [], ◌∷◌, ◌++◌, length, take, filter, cond, get_or, ap, sym, ◌∙◌, arith, zero-add, add-zero}
use Rattle.std.specs.Prelude.{unwrap_or}
use Rattle.std.specs.List.{list_any, range_with_len}
use Rattle.std.proofs.lemmas.Bool.{lt-ltb}
use Rattle.std.proofs.lemmas.List.{append-nil, map-id, take_more, length-take-le}
use Rattle.std.proofs.lemmas.List.FromFn.{filter_of_map_range_with_len_more}
use Rattle.svc_record.specs.declared.plan.ServicePlan.{ServicePlan}
use Rattle.svc_text.specs.declared.service.ServiceLine.{ServiceLine}
use Rattle.svc_text.specs.Accepted.{after_at}
use Rattle.svc_text.specs.Dependencies.{edges_up_to}
use Rattle.svc_text.proofs.EdgeLemmas.{after_read}
use Rattle.svc_text.specs.ScriptPlans.{service_plan, plans_from}

-- of the numbers below n one more passes a test, or doesn't
pub passed_more : (p : ℕ → Bool) (n : ℕ) → filter p (range_with_len 0 (n + 1)) ≡ filter p (range_with_len 0 n) ++ cond (p n) (n ∷ []) []
passed_more p n =
    ap (filter p) (sym (map-id (range_with_len 0 (n + 1))))
    ∙ filter_of_map_range_with_len_more p (λ x. x) 0 n n (omega arith)
    ∙ ap (λ (xs : List ℕ). filter p xs ++ cond (p n) (n ∷ []) []) (map-id (range_with_len 0 n))

-- one more number is added where it is named
pub depends_more : (services : List ServiceLine) (s b : ℕ) (line : ServiceLine) (after before now : List ℕ) (among : Bool) → s < length services
    → line ≡ get_or services s line → after ≡ unwrap_or line.after []
    → before ≡ filter (edges_up_to services (length services) s) (range_with_len 0 b) → among ≡ list_any (λ x. x == b) after
    → now ≡ cond among (before ++ b ∷ []) before
    → now ≡ filter (edges_up_to services (length services) s) (range_with_len 0 (b + 1))
depends_more services s b line after before now among lt read is_after is_before is_among says =
    let edges = edges_up_to services (length services) s in
    let named : after ≡ after_at services s = is_after ∙ after_read services s line lt read in
    let test : among ≡ edges b =
    is_among ∙ ap (list_any (λ x. x == b)) named
    ∙ sym (ap (λ (t : Bool). t && list_any (λ x. x == b) (after_at services s)) (lt-ltb s (length services) lt)) in
    says ∙ by among ∙ ap (λ (t : Bool). filter edges (range_with_len 0 b) ++ cond t (b ∷ []) []) test ∙ sym (passed_more edges b)
  where
    by : (t : Bool) → cond t (before ++ b ∷ []) before ≡ filter (edges_up_to services (length services) s) (range_with_len 0 b) ++ cond t (b ∷ []) []
    by true = ap (λ (xs : List ℕ). xs ++ b ∷ []) is_before
    by false = is_before ∙ sym (append-nil (filter (edges_up_to services (length services) s) (range_with_len 0 b)))

-- the plans of one service more
plans_push : (services : List ServiceLine) (s : ℕ) (xs : List ServiceLine) (x : ServiceLine)
    → plans_from services s (xs ++ x ∷ []) ≡ plans_from services s xs ++ service_plan services (s + length xs) x ∷ []
plans_push services s [] x = ap (λ (n : ℕ). service_plan services n x ∷ []) (sym (add-zero s))
plans_push services s (y ∷ ys) x =
    let e : (s + 1) + length ys ≡ s + length (y ∷ ys) = omega arith in
    ap (λ (more : List ServicePlan). service_plan services s y ∷ more)
    (plans_push services (s + 1) ys x ∙ ap (λ (n : ℕ). plans_from services (s + 1) ys ++ service_plan services n x ∷ []) e)

pub plans_more : (services : List ServiceLine) (s : ℕ) (line : ServiceLine) (plans now : List ServicePlan) (plan : ServicePlan) → s < length services
    → line ≡ get_or services s line → plans ≡ plans_from services 0 (take s services)
    → plan ≡ service_plan services s line → now ≡ plans ++ plan ∷ [] → now ≡ plans_from services 0 (take (s + 1) services)
plans_more services s line plans now plan lt read before says pushed =
    let count : 0 + length (take s services) ≡ s = zero-add (length (take s services)) ∙ length-take-le s services (omega arith) in
    let cut : take (s + 1) services ≡ take s services ++ line ∷ [] =
    take_more services s line lt ∙ ap (λ (x : ServiceLine). take s services ++ x ∷ []) (sym read) in
    pushed
    ∙ ap (λ (xs : List ServicePlan). xs ++ plan ∷ []) before
    ∙ ap (λ (x : ServicePlan). plans_from services 0 (take s services) ++ x ∷ []) says
    ∙ ap (λ (n : ℕ). plans_from services 0 (take s services) ++ service_plan services n line ∷ []) (sym count)
    ∙ sym (plans_push services 0 (take s services) line)
    ∙ sym (ap (plans_from services 0) cut)
