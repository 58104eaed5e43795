-- How many actions a close of all tells.
use Rattle.std.proofs.Common.{ℕ, List, [], ◌∷◌, ◌≤◌, length, filter, Bool, true, false, not, ◌==◌, if◌then◌else◌, arith}
use Rattle.std.specs.List.{list_any}
use Rattle.svc_record.specs.Tail.{each_once}
use Rattle.svc_record.specs.declared.event.Event.{Event}
use Rattle.svc_record.specs.declared.entry.Entry.TheVariants.{Got}
use Rattle.svc_record.specs.Descriptors.{numbers_of}
use Rattle.svc_core.specs.CoreData.{CoreData}
use Rattle.svc_core.specs.Rooms.{left_numbers}

-- a list without some of its numbers is no longer
filter-few : (test : ℕ → Bool) (xs : List ℕ) → length (filter test xs) ≤ length xs
filter-few test [] = omega arith
filter-few test (x ∷ xs) = by (test x) (filter-few test xs)
  where
    by : (c : Bool) → length (filter test xs) ≤ length xs → length (if c then x ∷ filter test xs else filter test xs) ≤ length (x ∷ xs)
    by true le = omega arith
    by false le = omega arith

once-few : (xs : List ℕ) → length (each_once xs) ≤ length xs
once-few [] = omega arith
once-few (x ∷ xs) = let shorter = filter-few (λ m. not (m == x)) (each_once xs) in let fewer = once-few xs in omega arith

pub few-left : (core : CoreData) (e : Event) → length (left_numbers core e) ≤ length (numbers_of (Got e))
few-left core e =
    let once = once-few (filter (λ n. not (list_any (λ m. m == n) core.endpoints.came)) (numbers_of (Got e))) in
    let kept = filter-few (λ n. not (list_any (λ m. m == n) core.endpoints.came)) (numbers_of (Got e)) in
    omega arith
