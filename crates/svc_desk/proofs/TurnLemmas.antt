-- One event of a worker, and one turn.
use Rattle.std.proofs.Common.{◌≡◌, ◌≢◌, ℕ, ◌+◌, ◌≤◌, Bool, List, [], ◌∷◌, ◌++◌, length, Option, Some, None, refl, sym, ap, ◌∙◌, subst, arith, append-nil, length-append}
use Rattle.svc_base.specs.Items.{list_of}
use Rattle.svc_base.specs.Calls.{Adds}
use Rattle.svc_base.proofs.CallLemmas.{Adds-nil}
use Rattle.svc_record.specs.declared.event.Event.{Event}
use Rattle.svc_record.specs.declared.action.Action.{Action}
use Rattle.svc_record.specs.declared.action.StepEnd.{StepEnd}
use Rattle.svc_record.specs.declared.action.StepEnd.TheVariants.{On, Served, Tested, Parent, Ended}
use Rattle.svc_record.specs.Journal.{PostData, post}
use Rattle.svc_shared.specs.Journals.{FitsAfter, end_after}
use Rattle.svc_shared.specs.declared.pass.Pass.{Pass}
use Rattle.svc_shared.specs.declared.pass.Posted.{Posted}
use Rattle.svc_shared.specs.declared.pass.SharedServer.{SharedServer}
use Rattle.svc_shared.specs.declared.refusals.PostReason.{PostReason}
use Rattle.svc_shared.specs.declared.refusals.PostReason.TheVariants as reasons
use Rattle.svc_shared.specs.declared.refusals.PostRefused.{PostRefused}
use Rattle.svc_shared.specs.Views.{Begins}
use Rattle.svc_shared.specs.Posting.{IsOf, IsPosted, IsRefused, HasCause, never, hand_in, seen_of, own_of, origin_of}
use Rattle.svc_shared.proofs.OwnLemmas.{begins-trans}
use Rattle.svc_desk.specs.declared.desk.DeskAnswer.{DeskAnswer}
use Rattle.svc_desk.specs.declared.desk.DeskAnswer.TheVariants as answers
use Rattle.svc_desk.specs.declared.stray.Strayed.{Strayed}
use Rattle.svc_desk.specs.declared.worker.Fate.{Fate}
use Rattle.svc_desk.specs.declared.worker.Fate.TheVariants as fates
use Rattle.svc_desk.specs.declared.worker.Tally.{Tally}
use Rattle.svc_desk.specs.declared.worker.WorkEnd.{WorkEnd}
use Rattle.svc_desk.specs.declared.worker.WorkEnd.TheVariants as ends
use Rattle.svc_desk.specs.Desks.{DeskData, IsTaken, IsPerformed, IsRefusedBy, Grew, brought}
use Rattle.svc_desk.specs.Deeds.{Deed, posted, strayed, events_of, actions_of, stray_events, strays_from, LeavesOn, call_count}
use Rattle.svc_desk.specs.Working.{IsHandled, IsSettled, IsTurned, TurnEnds, FateIs, fate_by, end_by}
use Rattle.svc_desk.proofs.DeedLemmas.{begins-length, of_front-whole, events-length, done-none, stays-then, said-from, at_desk-none, grew-none}

same-list : {T : Type 0} (a b : Option (List T)) → b ≡ a → Adds a b []
same-list a b is = subst (λ (x : Option (List _)). Adds a x []) (sym is) (Adds-nil a)

-- an event that stays in hand
kept_in_hand : (s : SharedServer) (p : Pass) (before now : DeskData) (event : Event) (fate : Fate) (q : Pass) → IsOf s q → hand_in q ≡ hand_in p
    → own_of q ≡ own_of p → Begins (seen_of q) (seen_of p)
    → FateIs s event fate [] (event ∷ []) q → IsRefusedBy before now event → IsHandled s p before now event fate q
kept_in_hand s p before now event fate q of hand own front is back = record {
  log = [];
  hand = event ∷ [];
  done = record { of = of; hand_is = hand; front = front; own_is = own ∙ sym (append-nil (own_of p)); follows = begins-length (seen_of q) (seen_of p) front };
  all = refl;
  fate_is = is;
  said = tt;
  performed = same-list before.performed now.performed back.performed;
  refused = back.refused;
  taken = back.taken;
  takes = back.takes;
  stays = back.stays;
  place = (let x = back.place in omega (arith, x));
  faults = back.faults;
  idles = back.idles;
}

refused_as : (s : SharedServer) (p : Pass) (before now : DeskData) (event : Event) (reason : PostReason) (q : Pass) → IsOf s q → hand_in q ≡ hand_in p
    → own_of q ≡ own_of p → Begins (seen_of q) (seen_of p)
    → HasCause never s p event reason q → IsRefusedBy before now event → IsHandled s p before now event (fate_by reason) q
refused_as s p before now event (reasons.Busy word) q of hand own front cause back = absurd cause
refused_as s p before now event reasons.Full q of hand own front cause back = kept_in_hand s p before now event fates.Full q of hand own front
    (refl, refl, cause.0) back
refused_as s p before now event (reasons.Stray seen) q of hand own front cause back = record {
  log = strayed event seen ∷ [];
  hand = [];
  done = record {
    of = of;
    hand_is = hand;
    front = front;
    own_is = own ∙ sym (append-nil (own_of p));
    follows = (
      (let a = begins-length (seen_of q) (seen_of p) front in let b = cause.0 in omega (arith, a, b)),
      of_front-whole (seen_of q) seen (λ seen_posts. FitsAfter (origin_of s) seen_posts event → ⊥) (sym cause.0) cause.1,
      (let b = cause.0 in omega (arith, b)),
    );
  };
  all = refl;
  fate_is = (refl, refl);
  said = tt;
  performed = same-list before.performed now.performed back.performed;
  refused = back.refused;
  taken = back.taken;
  takes = back.takes;
  stays = back.stays;
  place = (let x = back.place in omega (arith, x));
  faults = back.faults;
  idles = back.idles;
}
refused_as s p before now event reasons.NoMemory q of hand own front cause back = kept_in_hand s p before now event fates.NoMemory q of hand own front
    (refl, refl) back

-- an event whose post was refused, and that the desk took back
pub handled_refused : (s : SharedServer) (p : Pass) (before now : DeskData) (event : Event) (r : PostRefused) (fate : Fate) → IsRefused never s p event r
    → IsRefusedBy before now r.event → fate ≡ fate_by r.reason → IsHandled s p before now event fate r.pass
handled_refused s p before now event r fate x put is =
    subst (λ (f : Fate). IsHandled s p before now event f r.pass) (sym is)
    (refused_as s p before now event r.reason r.pass x.of x.hand_is x.own_is x.front x.cause (subst (λ (e : Event). IsRefusedBy before now e) x.event_is put))

-- an event that was posted, and whose actions were performed
pub handled_posted : (s : SharedServer) (p : Pass) (before now : DeskData) (event : Event) (said : Bool) (r : Posted) → said ≡ before.says event
    → IsPosted s p event said r → IsPerformed before now (list_of r.actions) → IsHandled s p before now event (fates.Posted r.end) r.pass
handled_posted s p before now event said r says x y =
    let mine : PostData = post (hand_in p).number event said (list_of r.actions) in
    let behind : Begins (seen_of r.pass) x.last.0 = (mine ∷ [], x.last.1) in
    let long = x.long in
    let grown = ap length x.last.1 in
    let one = length-append x.last.0 (mine ∷ []) in
    let older = begins-length x.last.0 (seen_of p) x.last.2 in record {
      log = posted (r.place, mine) ∷ [];
      hand = [];
      done = record {
        of = x.of;
        hand_is = x.hand_is;
        front = begins-trans (seen_of r.pass) x.last.0 (seen_of p) behind x.last.2;
        own_is = x.own_is;
        follows = (omega (arith, long, grown, one, older), omega (arith, long));
      };
      all = refl;
      fate_is = (refl, ((r.place, mine), refl, x.long, x.end_is));
      said = (says, tt);
      performed = subst (λ (l : List Action). Adds before.performed now.performed l) (sym (append-nil (list_of r.actions))) y.performed;
      refused = same-list before.refused now.refused y.refused;
      taken = y.taken;
      takes = y.takes;
      stays = y.stays;
      place = (let p = y.place in let n = ap length (append-nil (list_of r.actions)) in omega (arith, p, n));
      faults = y.faults;
      idles = y.idles;
    }

-- a turn without an event
pub turned_idle : (s : SharedServer) (p : Pass) (before now : DeskData) (answer : DeskAnswer) (t u : Tally) (end : Option WorkEnd) → IsOf s p
    → brought answer ≡ [] → IsTaken before now answer
    → list_of u.strays ≡ list_of t.strays → u.taken ≡ t.taken → TurnEnds s before now [] [] p end → IsTurned s p before now t u p end
turned_idle s p before now answer t u end of none x strays count why = record {
  log = [];
  hand = [];
  done = done-none s p of;
  at_desk = record {
    taken = subst (λ (l : List Event). Adds before.taken now.taken l) none x.taken;
    said = tt;
    performed = same-list before.performed now.performed x.performed;
    refused = same-list before.refused now.refused x.refused;
    stays = x.stays;
    faults = x.faults;
    idles = x.idles;
  };
  place = (let p = x.place in omega (arith, p));
  strays = strays ∙ sym (append-nil (list_of t.strays));
  count = (omega (arith, count));
  ends = why;
}

-- the same, of a worker that stops with this pass and this end
pub turned_stopped : (s : SharedServer) (p : Pass) (before now : DeskData) (answer : DeskAnswer) (t u : Tally) (why : WorkEnd) (q : Pass)
    (end : Option WorkEnd) → IsOf s p → brought answer ≡ [] → IsTaken before now answer
    → list_of u.strays ≡ list_of t.strays → u.taken ≡ t.taken → TurnEnds s before now [] [] p (Some why) → q ≡ p → end ≡ Some why
    → IsTurned s p before now t u q end
turned_stopped s p before now answer t u why q end of none x strays count cause same is =
    subst (λ (e : Option WorkEnd). IsTurned s p before now t u q e) (sym is)
    (subst (λ (m : Pass). IsTurned s p before now t u m (Some why)) (sym same)
    (turned_idle s p before now answer t u (Some why) of none x strays count cause))

-- a turn that asked for nothing
pub turned_none : (s : SharedServer) (p : Pass) (d : DeskData) (t u : Tally) (q : Pass) (end : Option WorkEnd) → IsOf s p
    → list_of u.strays ≡ list_of t.strays → u.taken ≡ t.taken → q ≡ p → end ≡ Some ends.NoMemory → IsTurned s p d d t u q end
turned_none s p d t u q end of strays count same is =
    subst (λ (e : Option WorkEnd). IsTurned s p d d t u q e) (sym is) (subst (λ (m : Pass). IsTurned s p d d t u m (Some ends.NoMemory)) (sym same) plain)
  where
    plain : IsTurned s p d d t u p (Some ends.NoMemory)
    plain = record {
      log = [];
      hand = [];
      done = done-none s p of;
      at_desk = at_desk-none d;
      place = (let x : d.room ≤ d.room + (1 + call_count [] []) = omega arith in x);
      strays = strays ∙ sym (append-nil (list_of t.strays));
      count = (omega (arith, count));
      ends = (
        ((let x : 0 ≤ 1 = omega arith in x), tt),
        (λ (e : ends.NoMemory ≡ ends.TurnsSpent). cc),
        (0, (let x : 0 ≤ 1 = omega arith in x), grew-none d.takes),
      );
    }

posted_ends : (s : SharedServer) (before now : DeskData) (hand : List Event) (own : ℕ × PostData) (q : Pass) (end : StepEnd) → hand ≡ []
    → own.0 ≡ length (seen_of q) → end ≡ end_after (origin_of s) (seen_of q) → Grew before.takes now.takes 1
    → TurnEnds s before now (posted own ∷ []) hand q (end_by end)
posted_ends s before now hand own q end none place is grew = by end is
  where
    -- a post that left the run on
    still : On ≡ end_after (origin_of s) (seen_of q) → TurnEnds s before now (posted own ∷ []) hand q None
    still on = (none, (of_front-whole (seen_of q) own.0 (λ front. end_after (origin_of s) front ≡ On) place (sym on), tt), grew)

    -- one that didn't
    over : (end_after (origin_of s) (seen_of q) ≢ On) → TurnEnds s before now (posted own ∷ []) hand q (Some ends.Over)
    over off = (
      (none, ([], own, refl, tt, of_front-whole (seen_of q) own.0 (λ front. end_after (origin_of s) front ≢ On) place off)),
      (λ (e : ends.Over ≡ ends.TurnsSpent). cc),
      (1, (let x : 1 ≤ 1 = omega arith in x), grew),
    )

    by : (e : StepEnd) → e ≡ end_after (origin_of s) (seen_of q) → TurnEnds s before now (posted own ∷ []) hand q (end_by e)
    by On same = still same
    by Served same = over (λ (on : end_after (origin_of s) (seen_of q) ≡ On). cc)
    by Tested same = over (λ (on : end_after (origin_of s) (seen_of q) ≡ On). cc)
    by (Parent status) same = over (λ (on : end_after (origin_of s) (seen_of q) ≡ On). cc)
    by (Ended error) same = over (λ (on : end_after (origin_of s) (seen_of q) ≡ On). cc)

-- what was counted, and how the turn ends
settled_as : (s : SharedServer) (before now : DeskData) (event : Event) (fate : Fate) (log : List Deed) (hand : List Event) (t u : Tally) (q : Pass)
    (end : Option WorkEnd) → FateIs s event fate log hand q → IsSettled fate t u end → Grew before.takes now.takes 1
    → (list_of u.strays ≡ list_of t.strays ++ strays_from (t.taken + 1) log) × TurnEnds s before now log hand q end
settled_as s before now event (fates.Posted e) log hand t u q end f x grew =
    let own = f.1.0 in (
      x.0 ∙ (sym (append-nil (list_of t.strays)) ∙ ap (λ (l : List Deed). list_of t.strays ++ strays_from (t.taken + 1) l) (sym f.1.1)),
      subst (λ (r : Option WorkEnd). TurnEnds s before now log hand q r) (sym x.1)
          (subst (λ (l : List Deed). TurnEnds s before now l hand q (end_by e)) (sym f.1.1) (posted_ends s before now hand own q e f.0 f.1.2 f.1.3 grew)),
    )
settled_as s before now event (fates.Strayed seen) log hand t u q end f x grew = (
  x.0 ∙ ap (λ (l : List Deed). list_of t.strays ++ strays_from (t.taken + 1) l) (sym f.1),
  subst (λ (r : Option WorkEnd). TurnEnds s before now log hand q r) (sym x.1)
      (f.0, subst (λ (l : List Deed). LeavesOn (origin_of s) (seen_of q) l) (sym f.1) tt, grew),
)
settled_as s before now event fates.Full log hand t u q end f x grew = (
  x.0 ∙ (sym (append-nil (list_of t.strays)) ∙ ap (λ (l : List Deed). list_of t.strays ++ strays_from (t.taken + 1) l) (sym f.1)),
  subst (λ (r : Option WorkEnd). TurnEnds s before now log hand q r) (sym x.1) (
    (
      ap length f.0,
      subst (λ (l : List Deed). LeavesOn (origin_of s) (seen_of q) l) (sym f.1) tt,
      of_front-whole (seen_of q) (origin_of s).limit
          (λ front. Unit {0}) (sym f.2) tt,
    ),
    (λ (e : ends.Full ≡ ends.TurnsSpent). cc),
    (1, (let y : 1 ≤ 1 = omega arith in y), grew),
  ),
)
settled_as s before now event fates.NoMemory log hand t u q end f x grew = (
  x.0 ∙ (sym (append-nil (list_of t.strays)) ∙ ap (λ (l : List Deed). list_of t.strays ++ strays_from (t.taken + 1) l) (sym f.1)),
  subst (λ (r : Option WorkEnd). TurnEnds s before now log hand q r) (sym x.1) (
    ((let one = ap length f.0 in omega (arith, one)), subst (λ (l : List Deed). LeavesOn (origin_of s) (seen_of q) l) (sym f.1) tt),
    (λ (e : ends.NoMemory ≡ ends.TurnsSpent). cc),
    (1, (let y : 1 ≤ 1 = omega arith in y), grew),
  ),
)

-- a turn with an event, after room was made for a stray
pub turned_event : (s : SharedServer) (p : Pass) (a b c : DeskData) (event : Event) (fate : Fate) (o t u : Tally) (q : Pass) (end : Option WorkEnd)
    → list_of t.strays ≡ list_of o.strays → t.taken ≡ o.taken → u.taken ≡ t.taken + 1 → IsTaken a b (answers.Event event)
    → IsHandled s p b c event fate q → IsSettled fate t u end → IsTurned s p a c o u q end
turned_event s p a b c event fate o t u q end same count more x h y =
    let grew = subst (λ (k : Option ℕ). Grew a.takes k 1) (sym h.takes) x.takes in
    let both = settled_as s a c event fate h.log h.hand t u q end h.fate_is y grew in record {
      log = h.log;
      hand = h.hand;
      done = h.done;
      at_desk = record {
        taken = subst (λ (k : Option (List Event)). Adds a.taken k (events_of h.log ++ h.hand)) (sym h.taken)
            (subst (λ (l : List Event). Adds a.taken b.taken l) (sym h.all) x.taken);
        said = said-from a b h.log x.stays h.said;
        performed = subst (λ (k : Option (List Action)). Adds k c.performed (actions_of h.log)) x.performed h.performed;
        refused = subst (λ (k : Option (List Event)). Adds k c.refused (stray_events h.log ++ h.hand)) x.refused h.refused;
        stays = stays-then a b c x.stays h.stays;
        faults = (let f = x.faults in let e = h.faults in omega (arith, f, e));
        idles = (let f = x.idles in let e = h.idles in omega (arith, f, e));
      };
      place = (let f = x.place in let e = h.place in omega (arith, f, e));
      strays = both.0 ∙ (ap (λ (l : List Strayed). l ++ strays_from (t.taken + 1) h.log) same ∙ ap (λ (k : ℕ). list_of o.strays ++ strays_from (k + 1) h.log)
          count);
      count = (let e = ap length h.all in let f = length-append (events_of h.log) h.hand in let n = events-length h.log in omega (arith, count, more, e, f, n));
      ends = both.1;
    }
