-- One answered post after others.
use Rattle.std.proofs.Common.{◌≡◌, ℕ, Bool, List, [], ◌∷◌, ◌++◌, map, reverse, refl, sym, ap, ◌∙◌, subst, append_assoc, append-nil, Option, Some}
use mathlib.Core.List.{map-append}
use Rattle.std.proofs.lemmas.List.{reverse-append}
use Rattle.svc_record.specs.declared.event.Event.{Event}
use Rattle.svc_record.specs.Journal.{PostData}
use Rattle.svc_shared.specs.declared.view.SeatView.{SeatView}
use Rattle.svc_shared.specs.declared.view.Note.{Note}
use Rattle.svc_shared.specs.declared.work.Fed.{Fed}
use Rattle.svc_shared.specs.declared.refusals.PostRefused.{PostRefused}
use Rattle.svc_shared.specs.declared.refusals.PostReason.{PostReason}
use Rattle.svc_shared.specs.declared.refusals.PostReason.TheVariants.{Busy, Full, Stray, NoMemory}
use Rattle.svc_shared.specs.Views.{Begins, note}
use Rattle.svc_shared.specs.declared.pass.Pass.{Pass}
use Rattle.svc_shared.specs.declared.pass.SharedServer.{SharedServer}
use Rattle.svc_shared.specs.Posting.{IsOf, LastNote, hand_in, seen_of, own_of, notes_of}
use Rattle.svc_shared.specs.Feeding.{asked, asks, IsFedSo, IsStopped, StopCause, EndsBy, IsFed}
use Rattle.svc_shared.proofs.OwnLemmas.{begins-whole, begins-trans}

pub feeds_on : (s : SharedServer) (p : Pass) (done : List Event) (m : Pass) (e : Event) (q : Pass) → IsFedSo s p done m → IsFedSo s m (e ∷ []) q
    → IsFedSo s p (done ++ e ∷ []) q
feeds_on s p done m e q f g =
    let seat : (hand_in m).number ≡ (hand_in p).number = ap (λ (h : SeatView). h.number) f.hand_is in record {
      of = g.of;
      hand_is = g.hand_is ∙ f.hand_is;
      front = begins-trans (seen_of q) (seen_of m) (seen_of p) g.front f.front;
      notes = begins-trans (notes_of q) (notes_of m) (notes_of p) g.notes f.notes;
      more = f.more ++ g.more;
      own_is = g.own_is ∙ (ap (λ (xs : List (ℕ × PostData)). xs ++ g.more) f.own_is ∙ append_assoc (own_of p) f.more g.more);
      made = map-append asked f.more g.more ∙ (ap (λ (xs : List (ℕ × Event × Bool)). xs ++ map asked g.more) f.made
          ∙ (ap (λ (xs : List (ℕ × Event × Bool)). map (asks (hand_in p).number) done ++ xs) (g.made ∙ ap (λ (n : ℕ). asks n e ∷ []) seat)
          ∙ sym (map-append (asks (hand_in p).number) done (e ∷ []))));
    }

-- a note that is the last one since the later pass is the last one since the earlier pass
later_note : (p m q : Pass) (n : ℕ) → Begins (notes_of m) (notes_of p) → LastNote m q n → LastNote p q n
later_note p m q n before last = (
  before.0 ++ last.0,
  last.1
      ∙ ap (λ (xs : List Note). xs ++ note 0 n ∷ []) (ap (λ (xs : List Note). xs ++ last.0) before.1 ∙ append_assoc (notes_of p) before.0 last.0),
)

-- why a worker stopped, for the pass that it began with
pub stop_cause : (s : SharedServer) (p m : Pass) (reason : PostReason) (q : Pass) (event : Event) → Begins (notes_of m) (notes_of p)
    → StopCause s m reason q event → StopCause s p reason q event
stop_cause s p m (Busy word) q event before cause = cause
stop_cause s p m Full q event before cause = (cause.0, later_note p m q _ before cause.1)
stop_cause s p m (Stray seen) q event before cause = (cause.0, cause.1, later_note p m q _ before cause.2)
stop_cause s p m NoMemory q event before cause = tt

-- a refused post after others
pub stops_on : (s : SharedServer) (p : Pass) (done : List Event) (m : Pass) (e : Event) (reason : PostReason) (q : Pass) → IsFedSo s p done m
    → IsStopped s m e reason q → IsFedSo s p done q
stops_on s p done m e reason q f g = record {
  of = g.of;
  hand_is = g.hand_is ∙ f.hand_is;
  front = begins-trans (seen_of q) (seen_of m) (seen_of p) g.front f.front;
  notes = begins-trans (notes_of q) (notes_of m) (notes_of p) g.notes f.notes;
  more = f.more;
  own_is = g.own_is ∙ f.own_is;
  made = f.made;
}

-- nothing was posted yet
pub feeds_none : (s : SharedServer) (p : Pass) → IsOf s p → IsFedSo s p [] p
feeds_none s p of = record {
  of = of;
  hand_is = refl;
  front = begins-whole (seen_of p);
  notes = begins-whole (notes_of p);
  more = [];
  own_is = sym (append-nil (own_of p));
  made = refl;
}

-- the last event of the reversed ones is the first of those that are left
pub popped : (left later : List Event) (e : Event) → left ≡ later ++ e ∷ [] → reverse left ≡ e ∷ reverse later
popped left later e is = ap (reverse {A = Event}) is ∙ reverse-append later (e ∷ [])

-- a worker that was refused an event after others
pub fed_stopped : (s : SharedServer) (p : Pass) (events done left later : List Event) (m : Pass) (e : Event) (x : PostRefused) (r : Fed)
    → events ≡ done ++ reverse left → left ≡ later ++ e ∷ [] → IsFedSo s p done m
    → x.event ≡ e → IsStopped s m e x.reason x.pass → r.rest.items ≡ x.event ∷ reverse later → r.pass ≡ x.pass → r.refused ≡ Some x.reason → IsFed s p events r
fed_stopped s p events done left later m e x r all last fed back stop rest pass reason =
    let same : e ∷ reverse later ≡ r.rest.items = sym (rest ∙ ap (λ (y : Event). y ∷ reverse later) back) in record {
      done = done;
      all = all ∙ ap (λ (ys : List Event). done ++ ys) (popped left later e last ∙ same);
      fed = subst (λ (q : Pass). IsFedSo s p done q) (sym pass) (stops_on s p done m e x.reason x.pass fed stop);
      ends = subst (λ (y : Option PostReason × Pass). EndsBy s p y.0 r.rest.items y.1) (λ i. (sym reason i, sym pass i))
          (e, reverse later, sym same, stop_cause s p m x.reason x.pass e fed.notes stop.cause);
    }
