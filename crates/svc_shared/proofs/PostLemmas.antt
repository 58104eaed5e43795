-- From what the steps tell to what a post's answer tells.
use Rattle.std.proofs.Common.{◌≡◌, ◌≢◌, ◌⊎◌, inl, inr, ⊎_elim, ℕ, ◌*◌, ◌%◌, ◌≤◌, Bool, List, [], ◌∷◌, ◌++◌, length, sym, ap, ◌∙◌, subst, append_assoc, Some, Result, Ok, Err, IfOk, IfErr}
use Rattle.svc_base.specs.Items.{list_of}
use Rattle.svc_record.specs.declared.event.Event.{Event}
use Rattle.svc_shared.specs.declared.book.Refusal.{Refusal}
use Rattle.svc_shared.specs.declared.book.Refusal.TheVariants as Refusals
use Rattle.svc_record.specs.Journal.{PostData, post, own_posts}
use Rattle.svc_shared.specs.Journals.{FitsAfter, IsLegal, end_after}
use Rattle.svc_shared.specs.Refusals.{IsDue}
use Rattle.svc_shared.specs.declared.view.Note.{Note}
use Rattle.svc_shared.specs.declared.view.SeatView.{SeatView}
use Rattle.svc_shared.specs.declared.view.View.{View}
use Rattle.svc_shared.specs.declared.pass.Pass.{Pass}
use Rattle.svc_shared.specs.declared.pass.Posted.{Posted}
use Rattle.svc_shared.specs.declared.refusals.PostRefused.{PostRefused}
use Rattle.svc_shared.specs.declared.refusals.PostReason.{PostReason}
use Rattle.svc_shared.specs.declared.refusals.PostReason.TheVariants.{Busy}
use Rattle.svc_shared.specs.declared.pass.SharedServer.{SharedServer}
use Rattle.svc_shared.specs.Views.{Mine, Begins, note, book_of}
use Rattle.svc_shared.specs.Turn.{Took, Lost, Waited, LeftWith}
use Rattle.svc_shared.specs.Posting.{hand_in, seen_of, own_of, notes_of, origin_of, IsOf, IsPosted, LastNote, HasCause, IsBusy, IsRefused, LeftFor, reason_is}
use Rattle.svc_shared.proofs.OwnLemmas.{own-mine, begins-whole, begins-more}

pub ok_map : {A B : Type 0} (r : Result A B) (P Q : A → Type 0) → ((x : A) → P x → Q x) → IfOk r P → IfOk r Q
ok_map (Ok x) P Q f h = f x h
ok_map (Err e) P Q f h = tt

pub err_map : {A B : Type 0} (r : Result A B) (P Q : B → Type 0) → ((x : B) → P x → Q x) → IfErr r P → IfErr r Q
err_map (Ok x) P Q f h = tt
err_map (Err e) P Q f h = f e h

module _ (s : SharedServer) (p : Pass) (of : IsOf s p) (word : ℕ) (m0 m1 : Mine) (waited : Waited p.place.me m0) (turn : Took (origin_of s) word m0 m1) where
  hand : m1.0.hand ≡ hand_in p
  hand = ap (λ (v : View). v.hand) turn.view_is ∙ waited.hand_is

  origin : m1.0.hand.origin ≡ Some (origin_of s)
  origin = ap (λ (h : SeatView). h.origin) hand ∙ of.1

  number : m1.0.hand.number ≡ (hand_in p).number
  number = ap (λ (h : SeatView). h.number) hand

  own_kept : m1.0.sight.own ≡ own_of p
  own_kept = ap (λ (v : View). v.sight.own) turn.view_is ∙ waited.own_is

  front : Begins m1.0.sight.base (seen_of p)
  front = (turn.front.0, turn.front.1 ∙ ap (λ (xs : List PostData). xs ++ turn.front.0) waited.seen_is)

  notes : m1.0.sight.notes ≡ (m0.0.sight.notes ++ note 0 word ∷ []) ++ note 0 word ∷ []
  notes = ap (λ (v : View). v.sight.notes) turn.view_is

  -- what this call noted
  noted_since : Begins m1.0.sight.notes (notes_of p)
  noted_since =
      subst (λ (xs : List Note). Begins xs (notes_of p)) (sym notes)
      (begins-more (m0.0.sight.notes ++ note 0 word ∷ []) (note 0 word ∷ []) (notes_of p)
      (begins-more m0.0.sight.notes (note 0 word ∷ []) (notes_of p) waited.notes))

  pub posts_by : (event : Event) (said : Bool) (r : Posted) → r.pass.place.table_id ≡ p.place.table_id
      → LeftWith (origin_of s) (post (hand_in p).number event said (list_of r.actions)) r.place r.end m1 r.pass.place.me → IsPosted s p event said r
  posts_by event said r table with =
      let e = post (hand_in p).number event said (list_of r.actions) in
      let after : List PostData = m1.0.sight.base ++ e ∷ [] in
      let view = ap (λ (m : Mine). m.0) with.view_is in
      let sees : seen_of r.pass ≡ after = ap (λ (v : View). v.sight.seen) view in
      let hands : hand_in r.pass ≡ m1.0.hand = ap (λ (v : View). v.hand) view in
      let owns : own_of r.pass ≡ own_posts after m1.0.hand.number = ap (λ (v : View). v.sight.own) view in
      let place : r.place ≡ length after = with.place_is in record {
        of = (table ∙ of.0, ap (λ (h : SeatView). h.origin) hands ∙ origin);
        hand_is = hands ∙ hand;
        long = place ∙ ap (length {A = PostData}) (sym sees);
        last = (m1.0.sight.base, sees, front);
        own_is = owns
            ∙ (own-mine m1.0.hand.number m1.0.sight.base e (sym number)
            ∙ (ap (λ (xs : List (ℕ × PostData)). xs ++ (length after, e) ∷ []) (sym turn.turn.own_is ∙ own_kept)
            ∙ ap (λ (k : ℕ). own_of p ++ (k, e) ∷ []) (sym place)));
        own_stands = owns ∙ (ap (own_posts after) number ∙ ap (λ (xs : List PostData). own_posts xs (hand_in p).number) (sym sees));
        legal = subst (λ (xs : List PostData). IsLegal (origin_of s) xs) (sym sees) with.legal;
        end_is = with.end_is ∙ ap (λ (xs : List PostData). end_after (origin_of s) xs) (sym sees);
        within = subst (λ (n : ℕ). n ≤ (origin_of s).limit) (sym place) with.within;
        notes = (noted_since.0, ap (λ (v : View). v.sight.notes) view ∙ noted_since.1);
      }

  -- the notes of this call are those before the turn was taken, and its own two
  noted_last : (notes0 : List Note) → Begins m0.0.sight.notes notes0 → (added : List Note) × (m1.0.sight.notes ≡ (notes0 ++ added) ++ note 0 word ∷ [])
  noted_last notes0 b = (
    b.0 ++ note 0 word ∷ [],
    notes
        ∙ (ap (λ (xs : List Note). (xs ++ note 0 word ∷ []) ++ note 0 word ∷ []) b.1
        ∙ ap (λ (xs : List Note). xs ++ note 0 word ∷ []) (append_assoc notes0 b.0 (note 0 word ∷ []))),
  )

  pub refuses_by : (busy : ℕ → Type 0) (event : Event) (r : PostRefused) → r.pass.place.table_id ≡ p.place.table_id → r.event ≡ event
      → LeftFor (origin_of s) event r.reason m1 r.pass.place.me → IsRefused busy s p event r
  refuses_by busy event r table same left_for =
      let why = left_for.0 in
      let without = left_for.2 in
      let view = ap (λ (m : Mine). m.0) without.view_is in
      let base : List PostData = m1.0.sight.base in
      let sees : seen_of r.pass ≡ base = ap (λ (v : View). v.sight.seen) view in
      let hands : hand_in r.pass ≡ m1.0.hand = ap (λ (v : View). v.hand) view in
      let owns : own_of r.pass ≡ own_posts base m1.0.hand.number = ap (λ (v : View). v.sight.own) view in
      let all = noted_last (notes_of p) waited.notes in
      let last : LastNote p r.pass word = (all.0, ap (λ (v : View). v.sight.notes) view ∙ all.1) in
      let twice : word ≡ 2 * length base = turn.turn.word_is in record {
        of = (table ∙ of.0, ap (λ (h : SeatView). h.origin) hands ∙ origin);
        hand_is = hands ∙ hand;
        own_is = owns ∙ (sym turn.turn.own_is ∙ own_kept);
        front = subst (λ (xs : List PostData). Begins xs (seen_of p)) (sym sees) front;
        notes = (noted_since.0, ap (λ (v : View). v.sight.notes) view ∙ noted_since.1);
        event_is = same;
        cause = subst (λ (x : PostReason). HasCause busy s p event x r.pass) (sym left_for.1) (causes why without.due sees last twice);
      }
    where
      causes : (why : Refusal) → IsDue (book_of (origin_of s) m1.0.sight.base) event why → seen_of r.pass ≡ m1.0.sight.base → LastNote p r.pass word
          → word ≡ 2 * length m1.0.sight.base → HasCause busy s p event (reason_is why) r.pass
      causes Refusals.Full due sees last twice =
          let limit : length m1.0.sight.base ≡ (origin_of s).limit = due in
          (ap (length {A = PostData}) sees ∙ limit, subst (LastNote p r.pass) (twice ∙ ap (λ (k : ℕ). 2 * k) limit) last)
      causes (Refusals.Stray seen) due sees last twice = (
        ap (length {A = PostData}) sees ∙ sym due.0,
        (λ fits. due.1 (subst (λ (xs : List PostData). FitsAfter (origin_of s) xs event) sees fits)),
        subst (LastNote p r.pass) (twice ∙ ap (λ (k : ℕ). 2 * k) (sym due.0)) last,
      )
      causes Refusals.NoMemory due sees last twice = tt

-- the turn was not to be had
pub busy_by : (s : SharedServer) (p : Pass) (of : IsOf s p) (word : ℕ) (event : Event) (r : PostRefused) → r.pass.place.table_id ≡ p.place.table_id
    → r.event ≡ event → r.reason ≡ Busy word → Lost word p.place.me r.pass.place.me
    → IsRefused (IsBusy p r.pass) s p event r
busy_by s p of word event r table same reason lost =
    record {
      of = (table ∙ of.0, ap (λ (h : SeatView). h.origin) kept.0 ∙ of.1);
      hand_is = kept.0;
      own_is = kept.2;
      front = subst (λ (xs : List PostData). Begins xs (seen_of p)) (sym kept.1) (begins-whole (seen_of p));
      notes = ⊎_elim (λ once. (note 0 word ∷ [], once.0))
          (λ twice. (note 0 twice.0 ∷ note 0 word ∷ [], twice.2 ∙ append_assoc (notes_of p) (note 0 twice.0 ∷ []) (note 0 word ∷ []))) busy;
      event_is = same;
      cause = subst (λ (x : PostReason). HasCause (IsBusy p r.pass) s p event x r.pass) (sym reason) (lost.0, busy);
    }
  where
    kept : (hand_in r.pass ≡ hand_in p) × (seen_of r.pass ≡ seen_of p) × (own_of r.pass ≡ own_of p)
    kept = ⊎_elim (λ once. (ap (λ (m : Mine). m.0.hand) once.0, ap (λ (m : Mine). m.0.sight.seen) once.0, ap (λ (m : Mine). m.0.sight.own) once.0))
        (λ twice. (ap (λ (m : Mine). m.0.hand) twice.2, ap (λ (m : Mine). m.0.sight.seen) twice.2, ap (λ (m : Mine). m.0.sight.own) twice.2)) lost.1

    busy : ((notes_of r.pass ≡ notes_of p ++ note 0 word ∷ []) × (word % 2 ≡ 1))
        ⊎ ((first : ℕ) × (first ≢ word) × (notes_of r.pass ≡ (notes_of p ++ note 0 first ∷ []) ++ note 0 word ∷ []))
    busy = ⊎_elim (λ once. inl (ap (λ (m : Mine). m.0.sight.notes) once.0, once.1))
        (λ twice. inr (twice.0, twice.1, ap (λ (m : Mine). m.0.sight.notes) twice.2)) lost.1
