-- Which services have failed.
use Rattle.std.specs.Prelude.{ℕ, Bool, false, ◌==◌, ◌+◌, not, ◌&&◌, ◌||◌, [], ◌∷◌, nat_le, if◌then◌else◌}
use Rattle.std.specs.List.{list_any}
use Rattle.svc_record.specs.declared.plan.Plan.{Plan}
use Rattle.svc_record.specs.declared.entry.Entry.{Entry}
use Rattle.svc_record.specs.declared.entry.Entry.TheVariants.{Got, Told}
use Rattle.svc_record.specs.declared.event.Event.TheVariants.{InUse, BindFailed, AdoptFailed}
use Rattle.svc_record.specs.declared.action.Action.TheVariants.{Fail}
use Rattle.svc_record.specs.Record.{Record, has}
use Rattle.svc_record.specs.Plans.{endpoint_numbers, address, is_unix}
use Rattle.svc_record.specs.Descriptors.{has_live}

-- a bind or an adoption of the endpoint failed
abbrev pub is_failure : ℕ → ℕ → Entry → Bool
is_failure s i (Got (BindFailed t j)) = t == s && j == i
is_failure s i (Got (AdoptFailed t j)) = t == s && j == i
is_failure s i _ = false

-- the event is `InUse` of the endpoint
abbrev pub is_in_use : ℕ → ℕ → Entry → Bool
is_in_use s i (Got (InUse t j)) = t == s && j == i
is_in_use s i _ = false

-- how many answers `InUse` came for the endpoint before which no live descriptor had its address
abbrev pub in_use_count : Plan → Record → ℕ → ℕ → ℕ
in_use_count p [] s i = 0
in_use_count p (e ∷ before) s i =
    if is_in_use s i e && not (has_live p before (address p s i)) then in_use_count p before s i + 1 else in_use_count p before s i

-- after so many the service fails
abbrev pub in_use_limit : Plan → ℕ → ℕ → ℕ
in_use_limit p s i = if is_unix p s i then 1 else 30

-- some endpoint of the service couldn't be bound or adopted, or was in use too often
abbrev pub has_failed : Plan → Record → ℕ → Bool
has_failed p q s = list_any (λ i. has (is_failure s i) q || nat_le (in_use_limit p s i) (in_use_count p q s i)) (endpoint_numbers p s)

-- the entry tells `Fail` with this number
abbrev pub is_fail : ℕ → Entry → Bool
is_fail s (Told (Fail t)) = t == s
is_fail s _ = false
