-- The services of a plan while they are handed over, one by one.
use Rattle.std.specs.Prelude.{ℕ, false, ◌≡◌, ◌<◌, List, [], ◌∷◌, map, Option, Some, None, IfSome, slice_set}
use Rattle.std.specs.Option.{option_map}
use Rattle.svc_record.specs.declared.plan.Plan.{Plan}
use Rattle.svc_record.specs.declared.entry.Entry.TheVariants.{Told}
use Rattle.svc_record.specs.declared.action.Action.{Action}
use Rattle.svc_record.specs.declared.action.Action.TheVariants.{Start}
use Rattle.svc_record.specs.Plans.{service_count}
use Rattle.svc_record.specs.Record.{Record}
use Rattle.svc_record.specs.Starts.{is_started}
use Rattle.svc_server.specs.Hosts.{Account}
use Rattle.svc_server.specs.Runs.{names_of, handed_of}

-- the names of the services that are left, by their numbers
abbrev pub names_left : {B : Type 0} → (B → List ℕ) → List (Option B) → List (Option (List ℕ))
names_left named pending = map (option_map named) pending

-- after a record: each service that isn't started, by its name
abbrev pub left_of : List (List ℕ) → Record → List (Option (List ℕ))
left_of names [] = map Some names
left_of names (Told (Start s) ∷ before) = slice_set (left_of names before) s None
left_of names (e ∷ before) = left_of names before

-- what a host tells of a record, where each service that was started was handed over
abbrev pub account_of : Plan → Record → Account
account_of p q = record { entries = q; handed = handed_of p q }

-- after the record q, the services that aren't started are left, and the account, where it is told, is that of q
pub record Hands (left : List (Option (List ℕ))) (account : Option Account) (p : Plan) (q : Record) : Type 0 where
  pub left_is : left ≡ left_of (names_of p) q
  pub told_is : IfSome account (λ a. a ≡ account_of p q)

-- a start is of a service of the plan that isn't started
abbrev pub DueStart : Plan → Record → Action → Type 0
DueStart p q (Start s) = (s < service_count p) × (is_started q s ≡ false)
DueStart p q _ = Unit {0}

-- each start among the actions is, with what stands before it
abbrev pub DueStarts : Plan → Record → List Action → Type 0
DueStarts p q [] = Unit {0}
DueStarts p q (a ∷ more) = DueStart p q a × DueStarts p (Told a ∷ q) more

-- some record is known before which the action may be told, or the actions
abbrev pub MayHand : List (Option (List ℕ)) → Option Account → Action → Type 0
MayHand left account action = (p : Plan) × ((q : Record) × (Hands left account p q × DueStart p q action))

abbrev pub MayHandAll : List (Option (List ℕ)) → Option Account → List Action → Type 0
MayHandAll left account actions = (p : Plan) × ((q : Record) × (Hands left account p q × DueStarts p q actions))
