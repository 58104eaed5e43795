-- By which entries an endpoint is held.
use Rattle.std.specs.Prelude.{ℕ, Bool, false, ◌==◌, ◌&&◌, List, length, nat_lt}
use Rattle.std.specs.List.{list_any}
use Rattle.svc_record.specs.declared.plan.Plan.{Plan}
use Rattle.svc_record.specs.declared.entry.Entry.{Entry}
use Rattle.svc_record.specs.declared.entry.Entry.TheVariants.{Got}
use Rattle.svc_record.specs.declared.event.Event.TheVariants.{Bound, Adopted}
use Rattle.svc_record.specs.Record.{Record}
use Rattle.svc_record.specs.Endpoints.{held_numbers_of}

-- there is a number
abbrev pub is_some_number : List ℕ → Bool
is_some_number ns = nat_lt 0 (length ns)

-- by the entry some descriptor holds the endpoint
abbrev pub lets_hold : Plan → ℕ → ℕ → Entry → Record → Bool
lets_hold p s i e before = is_some_number (held_numbers_of p s i e before)

-- by the entry this one does
abbrev pub lets_hold_by : Plan → ℕ → ℕ → ℕ → Entry → Record → Bool
lets_hold_by p s i fd e before = list_any (λ n. n == fd) (held_numbers_of p s i e before)

-- a bind or an adoption of the endpoint ended well
abbrev pub is_taken : ℕ → ℕ → Entry → Bool
is_taken s i (Got (Bound t j fd)) = t == s && j == i
is_taken s i (Got (Adopted t j)) = t == s && j == i
is_taken s i _ = false
