-- The journal of a shared server: its posts, the first one first.
use Rattle.std.specs.Prelude.{ℕ, Bool, true, ◌==◌, ◌≡◌, ◌+◌, ◌&&◌, List, [], ◌∷◌, false, Option, Some, None, if◌then◌else◌}
use Rattle.std.specs.List.{list_all}
use Rattle.svc_record.specs.declared.plan.Plan.{Plan}
use Rattle.svc_record.specs.declared.entry.Entry.TheVariants.{Got}
use Rattle.svc_record.specs.declared.event.Event.{Event}
use Rattle.svc_record.specs.declared.action.Action.{Action}
use Rattle.svc_record.specs.declared.action.Action.TheVariants.{Judged}
use Rattle.svc_record.specs.Plans.{filter_of}
use Rattle.svc_record.specs.Connections.{Arrival, arrival_of, same_answer}
use Rattle.svc_record.specs.Record.{Record, tell}
use Rattle.svc_record.specs.Right.{Right, is_right}

-- a post: the seat that posted, its event, what a filter said, and the actions that were told
pub record PostData : Type 0 where
  pub seat : ℕ
  pub event : Event
  pub said : Bool
  pub actions : List Action

-- the same, from its parts
abbrev pub post : ℕ → Event → Bool → List Action → PostData
post n e s told = record { seat = n; event = e; said = s; actions = told }

-- a record after these posts
abbrev pub record_after : Record → List PostData → Record
record_after q [] = q
record_after q (p ∷ more) = record_after (tell (Got p.event ∷ q) p.actions) more

-- the record of a journal: the opening, and then each event with its actions
abbrev pub journal_record : List Action → List PostData → Record
journal_record opening posts = record_after (tell [] opening) posts

-- where the action judges a connection, the judgement is what was said if the connection's endpoint has a filter, else yes
abbrev pub action_as_said : Plan → Record → Bool → Action → Bool
action_as_said p q said (Judged c judged) = of (arrival_of q c)
  where
    by : Option ℕ → Bool
    by (Some f) = same_answer judged said
    by None = judged

    of : Option Arrival → Bool
    of (Some x) = by (filter_of p x.service x.endpoint)
    of None = false
action_as_said p q said _ = true

-- each judgement among these actions is so, where q is the record up to their event
abbrev pub told_as_said : Plan → Record → Bool → List Action → Bool
told_as_said p q said told = list_all (action_as_said p q said) told

-- each judgement among the posts' actions is as its post says
abbrev pub posts_as_said : Plan → Record → List PostData → Bool
posts_as_said p q [] = true
posts_as_said p q (x ∷ more) = told_as_said p (Got x.event ∷ q) x.said x.actions && posts_as_said p (tell (Got x.event ∷ q) x.actions) more

-- the record is right, so each event fits what stands before it; and the judgements are as was said
pub record Legal (p : Plan) (opening : List Action) (posts : List PostData) : Type 0 where
  pub right : Right p (journal_record opening posts)
  pub said : posts_as_said p (tell [] opening) posts ≡ true

-- the same as a test
abbrev pub is_legal : Plan → List Action → List PostData → Bool
is_legal p opening posts = is_right p (journal_record opening posts) && posts_as_said p (tell [] opening) posts

-- the posts of a seat with their places, where the first post has this place
abbrev pub own_posts_from : ℕ → ℕ → List PostData → List (ℕ × PostData)
own_posts_from place n [] = []
own_posts_from place n (p ∷ ps) = if p.seat == n then (place, p) ∷ own_posts_from (place + 1) n ps else own_posts_from (place + 1) n ps

-- the posts of a seat with their places, the first place being 1
abbrev pub own_posts : List PostData → ℕ → List (ℕ × PostData)
own_posts posts seat = own_posts_from 1 seat posts
