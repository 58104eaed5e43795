-- A server opened with two passes, closed with both, and its journal against both desks.
use Rattle.std.proofs.Common.{◌≡◌, ◌⊎◌, inl, inr, ⊎_elim, ℕ, zero, suc, ◌≤◌, List, [], ◌∷◌, ◌++◌, length, Option, sym, ap, ◌∙◌, subst, arith}
use mathlib.Core.Option.{some, some-ne-none, some-injective}
use lib.ListN.{get_elem?}
use Rattle.svc_base.specs.Streams.{Rose}
use Rattle.svc_base.specs.Calls.{Adds}
use Rattle.svc_base.proofs.CallLemmas.{Adds-then}
use Rattle.svc_record.specs.declared.event.Event.{Event}
use Rattle.svc_record.specs.declared.action.Action.{Action}
use Rattle.svc_record.specs.declared.plan.Plan.{Plan}
use Rattle.svc_record.specs.Validity.{IsValid}
use Rattle.svc_record.specs.Journal.{PostData, own_posts}
use Rattle.svc_shared.specs.BookData.{BookData}
use Rattle.svc_shared.specs.declared.view.Ended.{Ended}
use Rattle.svc_shared.specs.declared.view.SeatView.{SeatView}
use Rattle.svc_shared.specs.declared.pass.Pass.{Pass}
use Rattle.svc_shared.specs.declared.pass.SharedServer.{SharedServer}
use Rattle.svc_shared.specs.Views.{Begins}
use Rattle.svc_shared.specs.Rule.{IsSeatOf}
use Rattle.svc_shared.specs.Posting.{OfSeats, IsClosed, hand_in, seen_of, own_of, origin_of}
use Rattle.svc_shared.specs.Sharing.{IsJoined}
use Rattle.svc_shared.proofs.OwnLemmas.{begins-trans}
use Rattle.svc_desk.specs.declared.stray.Strayed.{Strayed}
use Rattle.svc_desk.specs.declared.worker.WorkEnd.{WorkEnd}
use Rattle.svc_desk.specs.declared.worker.WorkEnd.TheVariants as ends
use Rattle.svc_desk.specs.declared.worker.Worked.{Worked}
use Rattle.svc_desk.specs.declared.serving.EchoReason.{EchoReason}
use Rattle.svc_desk.specs.declared.serving.EchoReason.TheVariants as reasons
use Rattle.svc_desk.specs.Desks.{DeskData, IsPerformed, Grew, meeting}
use Rattle.svc_desk.specs.Deeds.{Deed, events_of, posts_of, actions_of, stray_events, Follows, EndsBy, Shows}
use Rattle.svc_desk.specs.Working.{IsWorked}
use Rattle.svc_desk.specs.Serving.{desk_end, Represents, OfTwo, IsServed, IsLater, IsBack, IsHandedBack, AreSides, IsOpened, IsJournalOf}
use Rattle.svc_desk.proofs.DeedLemmas.{follows-later, ends-later, stays-then, said-from, performed-none}

-- CLOSING

module _ (h : SeatView) (m n : ℕ) (e : Ended) (number_is : h.number ≡ m) (ended_is : h.ended ≡ e ∷ []) (other_is : e.number ≡ n) where
  one_ended : (k : ℕ) (f : Ended) (seat : ℕ) → get_elem? (e ∷ []) k ≡ some f → f.number ≡ seat → seat ≡ n
  one_ended zero f seat at is = sym is ∙ (sym (ap (λ (g : Ended). g.number) (some-injective e f at)) ∙ other_is)
  one_ended (suc k) f seat at is = absurd (some-ne-none f (sym at))

  seat_of_two : (seat : ℕ) → IsSeatOf h seat → (seat ≡ m) ⊎ (seat ≡ n)
  seat_of_two seat x = ⊎_elim (λ is. inl (is ∙ number_is))
      (λ y. inr (one_ended y.0 y.1 seat (ap (λ (es : List Ended). get_elem? es y.0) (sym ended_is) ∙ y.2) y.3)) x

  of_two : (journal : List PostData) → OfSeats h journal → OfTwo m n journal
  of_two [] all = tt
  of_two (p ∷ ps) all = (seat_of_two p.seat all.0, of_two ps all.1)

pub closed_over : (s : SharedServer) (l r q : Pass) (m n : ℕ) (journal : List PostData) → AreSides s l r m n → IsJoined s l r q → IsClosed s q journal
    → IsJournalOf s l r m n journal
closed_over s l r q m n journal x j c =
    let e : Ended = record { number = (hand_in r).number; own = own_of r } in
    let number_is : (hand_in q).number ≡ m = ap (λ (h : SeatView). h.number) j.hand_is ∙ x.left_number in
    let ended_is : (hand_in q).ended ≡ e ∷ [] =
    ap (λ (h : SeatView). h.ended) j.hand_is ∙ (ap (λ (es : List Ended). (es ++ (hand_in r).ended) ++ e ∷ []) x.left_ended ∙ ap
    (λ (es : List Ended). es ++ e ∷ []) x.right_ended) in record {
      front_left = begins-trans journal (seen_of q) (seen_of l) c.front j.front_left;
      front_right = begins-trans journal (seen_of q) (seen_of r) c.front j.front_right;
      legal = c.legal;
      left_own = ap (λ (k : ℕ). own_posts journal k) (sym number_is) ∙ (c.own_is ∙ j.own_is);
      right_own = ap (λ (k : ℕ). own_posts journal k) (sym x.right_number) ∙ c.ended_are 0 e (ap (λ (es : List Ended). get_elem? es 0) ended_is);
      seats = of_two (hand_in q) m n e number_is ended_is x.right_number journal c.seats;
    }

-- WHAT THE DESKS SHOW

ends-from : (o : BookData) (journal : List PostData) (turns : ℕ) (before mid now : DeskData) (log : List Deed) (hand : List Event) (end : WorkEnd)
    (first : List Action) → IsPerformed before mid first → EndsBy o journal turns mid now log hand end
    → EndsBy o journal turns before now log hand end
ends-from o journal turns before mid now log hand ends.Over first p e = e
ends-from o journal turns before mid now log hand ends.Closed first p e = (e.0, e.1, subst (λ (n : ℕ). Rose n now.idles) p.idles e.2)
ends-from o journal turns before mid now log hand ends.Full first p e = e
ends-from o journal turns before mid now log hand ends.TurnsSpent first p e = (e.0, e.1, subst (λ (k : Option ℕ). Grew k now.takes turns) p.takes e.2)
ends-from o journal turns before mid now log hand ends.Fault first p e = (e.0, e.1, subst (λ (n : ℕ). Rose n now.faults) p.faults e.2)
ends-from o journal turns before mid now log hand ends.NoMemory first p e = e

-- the desk performed these actions before the work
shows-from : (o : BookData) (journal : List PostData) (n turns : ℕ) (first : List Action) (before mid now : DeskData) (log : List Deed) (hand : List Event)
    (strays : List Strayed) (end : WorkEnd) → IsPerformed before mid first
    → Shows o journal n turns [] mid now log hand strays end → Shows o journal n turns first before now log hand strays end
shows-from o journal n turns first before mid now log hand strays end p x = record {
  taken = subst (λ (k : Option (List Event)). Adds k now.taken (events_of log ++ hand)) p.taken x.taken;
  said = said-from before mid log p.stays x.said;
  performed = Adds-then before.performed mid.performed now.performed first (actions_of log) p.performed x.performed;
  refused = subst (λ (k : Option (List Event)). Adds k now.refused (stray_events log ++ hand)) p.refused x.refused;
  takes = (x.takes.0, x.takes.1, subst (λ (k : Option ℕ). Grew k now.takes x.takes.0) p.takes x.takes.2);
  stays = stays-then before mid now p.stays x.stays;
  place = (let f = p.place in let g = x.place in omega (arith, f, g));
  faults = subst (λ (k : ℕ). k ≤ now.faults) p.faults x.faults;
  idles = subst (λ (k : ℕ). k ≤ now.idles) p.idles x.idles;
  strays_are = x.strays_are;
  follows = x.follows;
  ends = ends-from o journal turns before mid now log hand end first p x.ends;
}

-- the journal went on
shows-later : (o : BookData) (a b : List PostData) (n m turns : ℕ) (first : List Action) (before now : DeskData) (log : List Deed) (hand : List Event)
    (strays : List Strayed) (end : WorkEnd) → Begins b a → n ≡ m
    → Shows o a n turns first before now log hand strays end → Shows o b m turns first before now log hand strays end
shows-later o a b n m turns first before now log hand strays end more same x = record {
  taken = x.taken;
  said = x.said;
  performed = x.performed;
  refused = x.refused;
  takes = x.takes;
  stays = x.stays;
  place = x.place;
  faults = x.faults;
  idles = x.idles;
  strays_are = x.strays_are;
  follows = subst (λ (k : ℕ). Follows o b k log) same (follows-later o a b n log more x.follows);
  ends = ends-later o a b turns before now log hand end more x.ends;
}

-- a desk that performed these actions and then did its work, against the journal of its server
pub stands_for : (s : SharedServer) (p : Pass) (turns n : ℕ) (first : List Action) (before mid now : DeskData) (r : Worked) (journal : List PostData)
    → IsPerformed before mid first → IsWorked s p turns mid now r → seen_of p ≡ [] → own_of p ≡ []
    → own_posts journal n ≡ own_of r.pass → Begins journal (seen_of r.pass)
    → Represents (origin_of s) journal n turns first before (desk_end now r.end r.strays)
stands_for s p turns n first before mid now r journal performed w none_seen none own front = record {
  log = w.log;
  hand = w.hand;
  posts_are = own ∙ (w.done.own_is ∙ ap (λ (l : List (ℕ × PostData)). l ++ posts_of w.log) none);
  shows = shows-later (origin_of s) (seen_of r.pass) journal (length (seen_of p)) 0 turns first before now w.log w.hand r.strays.0 r.end front
      (ap length none_seen)
      (shows-from (origin_of s) (seen_of r.pass) (length (seen_of p)) turns first before mid now w.log w.hand r.strays.0 r.end performed w.shows);
}

pub served : (plan : Plan) (limit turns : ℕ) (s : SharedServer) (p1 p2 : Pass) (opening : List Action) (left mid right one two : DeskData) (r1 r2 : Worked)
    (journal : List PostData) → IsValid plan → IsOpened plan limit s p1 p2 opening
    → IsPerformed (meeting left) mid opening → IsWorked s p1 turns mid one r1 → IsWorked s p2 turns (meeting right) two r2
    → IsJournalOf s r1.pass r2.pass 0 1 journal
    → IsServed plan limit turns left right (desk_end one r1.end r1.strays) (desk_end two r2.end r2.strays) journal
served plan limit turns s p1 p2 opening left mid right one two r1 r2 journal valid o performed w1 w2 j = record {
  origin = origin_of s;
  plan_is = o.plan_is;
  limit_is = o.limit_is;
  valid = valid;
  begun = o.begun;
  legal = j.legal;
  seats = j.seats;
  left_desk = subst (λ (first : List Action). Represents (origin_of s) journal 0 turns first (meeting left) (desk_end one r1.end r1.strays))
      (sym o.opening_is)
      (stands_for s p1 turns 0 opening (meeting left) mid one r1 journal performed w1 o.left_seen o.left_own j.left_own j.front_left);
  right_desk = stands_for s p2 turns 1 [] (meeting right) (meeting right) two r2 journal (performed-none (meeting right)) w2
      o.right_seen o.right_own j.right_own j.front_right;
}

-- REFUSALS

worked_later : (s : SharedServer) (p : Pass) (turns : ℕ) (first : List Action) (before mid now : DeskData) (r : Worked) → IsPerformed before mid first
    → IsWorked s p turns mid now r → IsLater before now
worked_later s p turns first before mid now r performed w =
    let x = shows-from (origin_of s) (seen_of r.pass) (length (seen_of p)) turns first before mid now w.log w.hand r.strays.0 r.end performed w.shows in
    record {
      taken = (events_of w.log ++ w.hand, x.taken);
      performed = (first ++ actions_of w.log, x.performed);
      refused = (stray_events w.log ++ w.hand, x.refused);
      stays = x.stays;
      faults = x.faults;
      idles = x.idles;
    }

-- the desks did their work, and the journal is lost
pub back_worked : (plan : Plan) (turns : ℕ) (s : SharedServer) (p1 p2 : Pass) (opening : List Action) (left mid right one two : DeskData) (r1 r2 : Worked)
    → IsPerformed (meeting left) mid opening → IsWorked s p1 turns mid one r1 → IsWorked s p2 turns (meeting right) two r2
    → IsHandedBack plan left right one two reasons.NoMemory
back_worked plan turns s p1 p2 opening left mid right one two r1 r2 performed w1 w2 = (
  inr (worked_later s p1 turns opening (meeting left) mid one r1 performed w1),
  inr (worked_later s p2 turns [] (meeting right) (meeting right) two r2 (performed-none (meeting right)) w2),
)

-- the same desks, as they are handed back
pub back_as : (plan : Plan) (left right one two one' two' : DeskData) (reason : EchoReason) → one ≡ one' → two ≡ two' → reason ≡ reasons.NoMemory
    → IsHandedBack plan left right one two reasons.NoMemory → IsHandedBack plan left right one' two' reason
back_as plan left right one two one' two' reason l r is back = subst (λ (why : EchoReason). IsHandedBack plan left right one' two' why) (sym is)
    (subst (λ (d : DeskData). IsBack left d) l back.0, subst (λ (d : DeskData). IsBack right d) r back.1)
