-- What stands after the last finished step of a run that didn't serve: each live connection is cut, and each descriptor closed.
use Rattle.std.specs.Prelude.{ℕ, Bool, true, false, ◌==◌, not, ◌&&◌, List, [], ◌∷◌, ◌++◌, Option, Some, None, map, filter}
use Rattle.std.specs.List.{list_all, list_any}
use Rattle.svc_record.specs.declared.plan.Plan.{Plan}
use Rattle.svc_record.specs.declared.entry.Entry.TheVariants.{Got}
use Rattle.svc_record.specs.declared.event.Event.{Event}
use Rattle.svc_record.specs.declared.action.Action.{Action}
use Rattle.svc_record.specs.declared.action.Action.TheVariants.{Cut, Close}
use Rattle.svc_record.specs.Record.{Record, has, tell, times}
use Rattle.svc_record.specs.Descriptors.{numbers_of, is_close, brings}
use Rattle.svc_record.specs.Connections.{live_connections, is_cut}
use Rattle.svc_record.specs.Drain.{live_numbers}
use Rattle.svc_base.specs.NumberSets.{ascending}

-- the numbers of the descriptors that the events brought
abbrev pub numbers_in : Record → List ℕ
numbers_in [] = []
numbers_in (e ∷ before) = numbers_of e ++ numbers_in before

-- the record with the event that was left unfinished, if there is one
abbrev pub with_event : Option Event → Record → Record
with_event (Some e) q = Got e ∷ q
with_event None q = q

-- each number of the list once, at its first place
abbrev pub each_once : List ℕ → List ℕ
each_once [] = []
each_once (n ∷ more) = n ∷ filter (λ m. not (m == n)) (each_once more)

-- the numbers that the unfinished event brought and no earlier one did, in order, each once
abbrev pub new_numbers : Record → Option Event → List ℕ
new_numbers q None = []
new_numbers q (Some e) = each_once (filter (λ n. not (has (brings n) q)) (numbers_of (Got e)))

-- each live connection is cut and then each live descriptor closed, in ascending number, and then each new number of the unfinished event
abbrev pub closing_actions : Plan → Record → Option Event → List Action
closing_actions p q also = map Cut (ascending (live_connections q)) ++ (map Close (ascending (live_numbers p q)) ++ map Close (new_numbers q also))

-- only cuts of these connections, and closes of these descriptors
abbrev pub is_of : List ℕ → List ℕ → List Action → Bool
is_of cs fds [] = true
is_of cs fds (Cut c ∷ more) = list_any (λ n. n == c) cs && is_of cs fds more
is_of cs fds (Close fd ∷ more) = list_any (λ n. n == fd) fds && is_of cs fds more
is_of cs fds (_ ∷ more) = false

-- after the finished record, and perhaps one more event, these actions cut each live connection once, and close what isn't closed, so that each
-- number is closed once
abbrev pub tail_right : Record → Option Event → List Action → Bool
tail_right q also told = (is_of (live_connections q) (numbers_in (with_event also q)) told
    && list_all (λ c. times (is_cut c) (tell [] told) == 1) (live_connections q))
    && list_all (λ fd. times (is_close fd) (tell (with_event also q) told) == 1) (numbers_in (with_event also q))
