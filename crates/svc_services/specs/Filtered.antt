-- Which services of a list have a filter, and which number it has.
use Rattle.std.specs.Prelude.{◌≡◌, ℕ, List, length, Option, Some}
use Rattle.svc_text.specs.declared.service.ServiceLine.{ServiceLine}
use Rattle.svc_text.specs.Filters.{filter_number, blocked_lists}
use Rattle.svc_services.specs.declared.services.Filtered.{Filtered}
use Rattle.svc_services.specs.declared.services.Filtered.TheVariants.{Blocking, Each}

-- the number of a service behind these
abbrev pub own_number : List ServiceLine → ServiceLine → Option ℕ
own_number before x = Some (length before)

-- the number of the filter of a service behind these, if it has one
abbrev pub number_behind : Filtered → List ServiceLine → ServiceLine → Option ℕ
number_behind Blocking before x = filter_number before x
number_behind Each before x = own_number before x

-- these services have so many filters
abbrev pub AreEnough : Filtered → List ServiceLine → ℕ → Type 0
AreEnough Blocking lines filters = filters ≡ length (blocked_lists lines)
AreEnough Each lines filters = filters ≡ length lines
