-- A journal that is legal, and some that aren't.
use Rattle.std.proofs.Common.{true, false, List, [], ◌∷◌, ◌≡◌, refl}
use Rattle.svc_base.specs.declared.settings.Setting.TheVariants.{NoDelay}
use Rattle.svc_socket.specs.declared.peer.Peer.TheVariants.{Unix}
use Rattle.svc_record.specs.declared.action.Action.{Action}
use Rattle.svc_record.specs.declared.action.Action.TheVariants.{Start, Bind, Judged, Refuse, Settings, Close, Phase, Stop, Cut}
use Rattle.svc_record.specs.declared.action.ExecutionPhase.TheVariants.{Running, ShutdownStarted, ShutdownRuntimes, Terminated}
use Rattle.svc_record.specs.declared.event.Event.TheVariants.{Bound, Arrived, Signal}
use Rattle.svc_record.specs.declared.event.ShutdownSignal.TheVariants.{FastShutdown}
use Rattle.svc_record.specs.Journal.{PostData, post, is_legal, posts_as_said, journal_record, own_posts}
use Rattle.svc_record.specs.Record.{tell}
use Rattle.svc_record.specs.Right.{is_right}
use Rattle.svc_laws.proofs.Verdicts.{plan}

abbrev opening : List Action
opening = Start 0 ∷ Bind 0 0 ∷ Phase Running 0 ∷ []

-- seat 0 posts that the address is held
abbrev binds : PostData
binds = post 0 (Bound 0 0 7) true []

-- seat 1 posts a connection that is let in, and one that isn't
abbrev lets_in : PostData
lets_in = post 1 (Arrived 0 0 1 Unix) true (Judged 1 true ∷ Settings 1 (NoDelay ∷ []) ∷ [])

abbrev refuses : PostData
refuses = post 1 (Arrived 0 0 2 Unix) false (Judged 2 false ∷ Refuse 2 ∷ [])

-- seat 0 posts the end
abbrev ends : PostData
ends = post 0 (Signal FastShutdown) true (Phase ShutdownStarted 0 ∷ Phase ShutdownRuntimes 0 ∷ Cut 1 ∷ Close 7 ∷ Stop 0 ∷ Phase Terminated 0 ∷ [])

legal : is_legal plan opening (binds ∷ lets_in ∷ refuses ∷ ends ∷ []) ≡ true
legal = refl

-- a journal may end after each post
legal-so-far : is_legal plan opening (binds ∷ lets_in ∷ []) ≡ true
legal-so-far = refl

-- the posts of a seat, with their places
own-of-one : own_posts (binds ∷ lets_in ∷ refuses ∷ ends ∷ []) 1 ≡ (2, lets_in) ∷ (3, refuses) ∷ []
own-of-one = refl

-- what was told is another answer than what was said: the record is right, the journal isn't legal
told_otherwise-right : is_right plan (journal_record opening (binds ∷ record refuses { said = true } ∷ [])) ≡ true
told_otherwise-right = refl

told_otherwise : is_legal plan opening (binds ∷ record refuses { said = true } ∷ []) ≡ false
told_otherwise = refl

let_in_otherwise : posts_as_said plan (tell [] opening) (binds ∷ record lets_in { said = false } ∷ []) ≡ false
let_in_otherwise = refl

-- the opening is left out
unopened : is_legal plan [] (binds ∷ []) ≡ false
unopened = refl

-- an event comes twice
posted_twice : is_legal plan opening (binds ∷ binds ∷ []) ≡ false
posted_twice = refl

-- two posts stand the other way round
other_way_round : is_legal plan opening (lets_in ∷ binds ∷ []) ≡ false
other_way_round = refl

-- a post tells nothing
tells_nothing : is_legal plan opening (binds ∷ record lets_in { actions = [] } ∷ []) ≡ false
tells_nothing = refl

-- a post comes after the end
after_the_end : is_legal plan opening (binds ∷ lets_in ∷ ends ∷ refuses ∷ []) ≡ false
after_the_end = refl
