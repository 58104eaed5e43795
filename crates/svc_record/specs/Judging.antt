-- Which filter is asked at an event, and what is judged then.
use Rattle.std.specs.Prelude.{ℕ, Bool, not, ◌||◌, ◌≡◌, List, [], ◌∷◌, Option, None, if◌then◌else◌}
use Rattle.svc_record.specs.declared.plan.Plan.{Plan}
use Rattle.svc_record.specs.declared.action.Action.{Action}
use Rattle.svc_record.specs.declared.action.Action.TheVariants.{Judged}
use Rattle.svc_record.specs.declared.event.Event.{Event}
use Rattle.svc_record.specs.declared.event.Event.TheVariants.{Arrived}
use Rattle.svc_record.specs.Plans.{filter_of}
use Rattle.svc_record.specs.Connections.{is_known, has_filter}
use Rattle.svc_record.specs.Told.{Tells}

-- the filter that is asked at the event: the endpoint's, where a connection arrived whose peer is known
abbrev pub asked_filter : Plan → Event → Option ℕ
asked_filter p (Arrived s i c peer) = if is_known peer then filter_of p s i else None
asked_filter p _ = None

-- what is judged at the event, by what was said: yes where the endpoint has no filter
abbrev pub judged_at : Plan → Event → Bool → List (ℕ × Bool)
judged_at p (Arrived s i c peer) said = if is_known peer then (c, said || not (has_filter p s i)) ∷ [] else []
judged_at p _ said = []

-- the judgements among these actions, in order
abbrev pub judgements : List Action → List (ℕ × Bool)
judgements [] = []
judgements (Judged c said ∷ more) = (c, said) ∷ judgements more
judgements (_ ∷ more) = judgements more

-- a call appended actions with these judgements
abbrev pub TellsJudged : List (ℕ × Bool) → List Action → List Action → Type 0
TellsJudged judged before after = Tells before after (λ told. judgements told ≡ judged)
