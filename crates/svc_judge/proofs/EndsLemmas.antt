-- What is asked of all endpoints of a service, and of those of all services, asked in other orders.
use Rattle.std.proofs.Common.{ℕ, Bool, true, false, not, ◌&&◌, ◌||◌, nat_lt, arith, List, [], ◌∷◌, length, ◌≡◌, refl, sym, ap}
use Rattle.std.specs.List.{list_all}
use Rattle.std.proofs.lemmas.Bool.{false≢true, lt-ltb}
use Rattle.svc_record.specs.declared.plan.Plan.{Plan}
use Rattle.svc_record.specs.Record.{Record, has, is_signal, from_the_start}
use Rattle.svc_record.specs.Plans.{services, endpoint_numbers, address}
use Rattle.svc_record.specs.Descriptors.{live_numbers_with}
use Rattle.svc_record.specs.Endpoints.{held_numbers, is_held, is_one_of, holds, is_at_work, waits, endpoint_right, endpoint_right_late, endpoints_right, endpoints_right_late}
use Rattle.svc_record.specs.Right.{in_service}
use Rattle.svc_record.proofs.Sound.{both}
use Rattle.svc_judge.specs.Verdicts.{are_endpoints_kept}
use Rattle.svc_judge.proofs.VerdictLemmas.{and}

some_of : (xs ys : List ℕ) → is_one_of xs ys ≡ true → nat_lt 0 (length ys) ≡ true
some_of [] ys h = absurd (false≢true h)
some_of (x ∷ []) [] h = absurd (false≢true h)
some_of (x ∷ []) (y ∷ ys) h = lt-ltb 0 (length (y ∷ ys)) (omega arith)
some_of (x ∷ z ∷ xs) ys h = absurd (false≢true h)

more_by : (w h g x : Bool) → (h ≡ true → g ≡ true) → (not w || (h || x)) ≡ true → (not w || (g || x)) ≡ true
more_by true true g x f k = rw (f refl)
more_by true false true x f k = refl
more_by true false false x f k = k
more_by false h g x f k = refl

right_is_late : (p : Plan) (q : Record) (s i : ℕ) → endpoint_right p q s i ≡ true → endpoint_right_late p q s i ≡ true
right_is_late p q s i =
    more_by (is_at_work p q s) (holds p q s i) (is_held p q s i) (waits p q s i) (some_of (live_numbers_with p q (address p s i)) (held_numbers p q s i))

all_more : (f g : ℕ → Bool) → ((n : ℕ) → f n ≡ true → g n ≡ true) → (ns : List ℕ) → list_all f ns ≡ true → list_all g ns ≡ true
all_more f g more [] h = h
all_more f g more (n ∷ ns) h =
    let parts = both (f n) (list_all f ns) h in and (g n) (list_all g ns) (more n parts.0) (all_more f g more ns parts.1)

all_late : (p : Plan) (q : Record) → endpoints_right p q ≡ true → endpoints_right_late p q ≡ true
all_late p q =
    all_more (λ s. list_all (endpoint_right p q s) (endpoint_numbers p s)) (λ s. list_all (endpoint_right_late p q s) (endpoint_numbers p s))
    (λ s. all_more (endpoint_right p q s) (endpoint_right_late p q s) (right_is_late p q s) (endpoint_numbers p s)) (services p)

kept_by : (r n l e : Bool) → (r && n) ≡ true → (e ≡ true → l ≡ true) → e ≡ ((not r || l) && (not (r && n) || e))
kept_by true true l true h f = rw (f refl)
kept_by true true true false h f = refl
kept_by true true false false h f = refl
kept_by true false l e h f = absurd (false≢true h)
kept_by false n l e h f = absurd (false≢true h)

-- while the run serves, what is asked of endpoints before the signal is all
pub kept_in_service : (p : Plan) (q : Record) → in_service q ≡ true → endpoints_right p q ≡ are_endpoints_kept p q
kept_in_service p q h = kept_by (from_the_start q) (not (has is_signal q)) (endpoints_right_late p q) (endpoints_right p q) h (all_late p q)

late_only : (v x e : Bool) → v ≡ false → x ≡ (x && (not v || e))
late_only true x e h = absurd (false≢true (sym h))
late_only false true e h = refl
late_only false false e h = refl

-- and else what is asked as after it
pub kept_otherwise : (p : Plan) (q : Record) → in_service q ≡ false → (not (from_the_start q) || endpoints_right_late p q) ≡ are_endpoints_kept p q
kept_otherwise p q h = late_only (in_service q) (not (from_the_start q) || endpoints_right_late p q) (endpoints_right p q) h

all_asked : (w : Bool) (f : ℕ → Bool) (ns : List ℕ) → (not w || list_all f ns) ≡ list_all (λ n. not w || f n) ns
all_asked true f [] = refl
all_asked true f (n ∷ ns) = ap (λ b. f n && b) (all_asked true f ns)
all_asked false f [] = refl
all_asked false f (n ∷ ns) = all_asked false f ns

-- whether the service is at work needn't be asked for each of its endpoints
pub right_at_once : (p : Plan) (q : Record) (s : ℕ)
    → (not (is_at_work p q s) || list_all (λ i. holds p q s i || waits p q s i) (endpoint_numbers p s))
    ≡ list_all (endpoint_right p q s) (endpoint_numbers p s)
right_at_once p q s = all_asked (is_at_work p q s) (λ i. holds p q s i || waits p q s i) (endpoint_numbers p s)

pub late_at_once : (p : Plan) (q : Record) (s : ℕ)
    → (not (is_at_work p q s) || list_all (λ i. is_held p q s i || waits p q s i) (endpoint_numbers p s))
    ≡ list_all (endpoint_right_late p q s) (endpoint_numbers p s)
late_at_once p q s = all_asked (is_at_work p q s) (λ i. is_held p q s i || waits p q s i) (endpoint_numbers p s)
