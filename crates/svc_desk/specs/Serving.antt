-- Two desks against the one journal of their workers.
use Rattle.std.specs.Prelude.{◌≡◌, ◌⊎◌, ℕ, ◌+◌, ◌≤◌, List, [], ◌∷◌}
use Rattle.svc_base.specs.Items.{list_of}
use Rattle.svc_base.specs.Calls.{Adds}
use Rattle.svc_record.specs.declared.event.Event.{Event}
use Rattle.svc_record.specs.declared.action.Action.{Action}
use Rattle.svc_record.specs.declared.plan.Plan.{Plan}
use Rattle.svc_record.specs.Validity.{IsValid}
use Rattle.svc_record.specs.Journal.{PostData, own_posts}
use Rattle.svc_shared.specs.BookData.{BookData}
use Rattle.svc_shared.specs.Journals.{IsLegal}
use Rattle.svc_shared.specs.declared.pass.Pass.{Pass}
use Rattle.svc_shared.specs.declared.pass.SharedServer.{SharedServer}
use Rattle.svc_shared.specs.Views.{Begins, most}
use Rattle.svc_shared.specs.Posting.{IsOf, hand_in, seen_of, own_of, origin_of}
use Rattle.svc_desk.specs.declared.stray.Strayed.{Strayed}
use Rattle.svc_desk.specs.declared.worker.WorkEnd.{WorkEnd}
use Rattle.svc_desk.specs.declared.serving.EchoReason.{EchoReason}
use Rattle.svc_desk.specs.declared.serving.EchoReason.TheVariants.{BadPlan, NoMemory}
use Rattle.svc_desk.specs.Desks.{DeskData, DeskStays, meeting}
use Rattle.svc_desk.specs.Deeds.{Deed, posts_of, Shows}

-- a desk after its worker's work, why the worker stopped, and its strays
pub record DeskEnd : Type 0 where
  pub desk : DeskData
  pub end : WorkEnd
  pub strays : List Strayed

-- the same, from its parts
abbrev pub desk_end : DeskData → WorkEnd → List Strayed × ℕ → DeskEnd
desk_end desk end strays = record { desk = desk; end = end; strays = list_of strays }

-- a desk against its journal: the posts of seat n are those of its worker's deeds, which it shows from the journal's beginning on
pub record Represents (b : BookData) (journal : List PostData) (n turns : ℕ) (first : List Action) (before : DeskData) (after : DeskEnd) : Type 0 where
  pub log : List Deed
  pub hand : List Event
  pub posts_are : own_posts journal n ≡ posts_of log
  pub shows : Shows b journal 0 turns first before after.desk log hand after.strays after.end

-- each post is of one of these two seats
abbrev pub OfTwo : ℕ → ℕ → List PostData → Type 0
OfTwo m n [] = Unit {0}
OfTwo m n (p ∷ ps) = ((p.seat ≡ m) ⊎ (p.seat ≡ n)) × OfTwo m n ps

-- both desks, which met the plan, against the journal, which is legal for the plan and the opening. The left desk, of seat 0, performed the opening first;
-- the right one's seat is 1
pub record IsServed (plan : Plan) (limit turns : ℕ) (left right : DeskData) (one two : DeskEnd) (journal : List PostData) : Type 0 where
  pub origin : BookData
  pub plan_is : origin.plan ≡ plan
  pub limit_is : origin.limit ≡ limit
  pub valid : IsValid plan
  pub begun : IsLegal origin []
  pub legal : IsLegal origin journal
  pub seats : OfTwo 0 1 journal
  pub left_desk : Represents origin journal 0 turns origin.opening (meeting left) one
  pub right_desk : Represents origin journal 1 turns [] (meeting right) two

-- the desk is the one from before: its lists begin with what they told then and are told as long as room is left, and its counts didn't fall
pub record IsLater (before now : DeskData) : Type 0 where
  pub taken : (more : List Event) × Adds before.taken now.taken more
  pub performed : (more : List Action) × Adds before.performed now.performed more
  pub refused : (more : List Event) × Adds before.refused now.refused more
  pub stays : DeskStays before now
  pub faults : before.faults ≤ now.faults
  pub idles : before.idles ≤ now.idles

-- the desk is the one from before, or the one that met the plan then
abbrev pub IsBack : DeskData → DeskData → Type 0
IsBack before now = IsLater before now ⊎ IsLater (meeting before) now

-- the desks after a refusal: with a plan that isn't valid they were asked for nothing
abbrev pub IsHandedBack : Plan → DeskData → DeskData → DeskData → DeskData → EchoReason → Type 0
IsHandedBack plan left right one two BadPlan = (IsValid plan → ⊥) × (one ≡ left) × (two ≡ right)
IsHandedBack plan left right one two NoMemory = IsBack left one × IsBack right two

-- both passes are the server's, have these numbers and no ended seats, and their shares are the two halves of the whole one
pub record AreSides (s : SharedServer) (l r : Pass) (m n : ℕ) : Type 0 where
  pub of_left : IsOf s l
  pub of_right : IsOf s r
  pub left_number : (hand_in l).number ≡ m
  pub right_number : (hand_in r).number ≡ n
  pub low : (hand_in l).low ≡ 0
  pub after : (hand_in r).low ≡ (hand_in l).high + 1
  pub high : (hand_in r).high ≡ most
  pub left_ended : (hand_in l).ended ≡ []
  pub right_ended : (hand_in r).ended ≡ []

-- the two passes of a server that was opened
pub record IsOpened (plan : Plan) (limit : ℕ) (s : SharedServer) (l r : Pass) (opening : List Action) : Type 0 where
  pub plan_is : (origin_of s).plan ≡ plan
  pub limit_is : (origin_of s).limit ≡ limit
  pub opening_is : (origin_of s).opening ≡ opening
  pub begun : IsLegal (origin_of s) []
  pub passes : AreSides s l r 0 1
  pub left_seen : seen_of l ≡ []
  pub right_seen : seen_of r ≡ []
  pub left_own : own_of l ≡ []
  pub right_own : own_of r ≡ []

-- the journal of a server that was closed with these two passes
pub record IsJournalOf (s : SharedServer) (l r : Pass) (m n : ℕ) (journal : List PostData) : Type 0 where
  pub front_left : Begins journal (seen_of l)
  pub front_right : Begins journal (seen_of r)
  pub legal : IsLegal (origin_of s) journal
  pub left_own : own_posts journal m ≡ own_of l
  pub right_own : own_posts journal n ≡ own_of r
  pub seats : OfTwo m n journal
