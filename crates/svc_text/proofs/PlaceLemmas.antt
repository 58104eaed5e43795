-- What a line does by itself.
use Rattle.std.proofs.Common.{◌≡◌, ℕ, ◌+◌, Bool, true, false, not, ◌&&◌, ◌||◌, ◌==◌, eqb, leb, ltb, length, add-zero, cond, List, [], ◌∷◌, ◌++◌, Option, Some, None, Result, Ok, Err, OnOk, refl, sym, ap, ◌∙◌, inl, inr}
use Rattle.std.specs.Option.{option_to_list}
use Rattle.std.specs.Str.{is_utf8, IsUtf8}
use Rattle.std.proofs.lemmas.Str.{is_utf8-from_IsUtf8, IsUtf8-from_is_utf8}
use Rattle.std.proofs.Math.Bool.{and-true}
use Rattle.svc_record.specs.declared.item.Item.{Item}
use Rattle.std.proofs.lemmas.Bool.{eqb-true, cases_Bool, and_right}
use Rattle.std.proofs.lemmas.List.{append-nil}
use Rattle.svc_text.specs.Words.{text_in}
use Rattle.svc_base.specs.Words.{words}
use Rattle.svc_text.specs.EventLines.{item_of}
use Rattle.svc_text.proofs.SkippedLemmas.{skipped_event, skipped_is_no_fault}
use Rattle.svc_text.specs.declared.part.Section.{Section}
use Rattle.svc_text.specs.declared.service.ServiceLine.{ServiceLine}
use Rattle.svc_text.specs.declared.reading.Reading.{Reading}
use Rattle.svc_text.specs.declared.reading.LineError.{LineError}
use Rattle.svc_text.specs.ServiceLines.{is_name, name_of, service_of, is_eager}
use Rattle.svc_text.specs.Script.{section_index, header_of, is_header, is_skipped, says_item, place_fits, line_fits, said_services, said_eager, said_items}
use Rattle.svc_text.specs.Outcome.{After, Said, Tests}

-- ---- whether a line fits

pub fits_not_text : (n : ℕ) (eager : Bool) (ss : List ServiceLine) (line : List ℕ) → is_utf8 line ≡ false → line_fits n eager ss line ≡ false
unfolding line_fits
fits_not_text n eager ss line e = rw e refl

pub fits_header : (n : ℕ) (eager : Bool) (ss : List ServiceLine) (line : List ℕ) (p : Section) → is_utf8 line ≡ true → header_of line ≡ Some p
    → (section_index p == n + 1) ≡ line_fits n eager ss line
unfolding line_fits place_fits
fits_header n eager ss line p e h = rw (e, h) refl

pub fits_conf : (n : ℕ) (eager : Bool) (ss : List ServiceLine) (line : List ℕ) → is_utf8 line ≡ true → header_of line ≡ None → n ≡ 1
    → line_fits n eager ss line ≡ true
unfolding line_fits place_fits
fits_conf n eager ss line e h k = rw (e, h, k) refl

either_true : (b : Bool) → (b || true) ≡ true
either_true true = refl
either_true false = refl

pub fits_skipped : (n : ℕ) (eager : Bool) (ss : List ServiceLine) (line : List ℕ) → is_utf8 line ≡ true → header_of line ≡ None → is_skipped (words line) ≡ true
    → line_fits n eager ss line ≡ true
unfolding line_fits place_fits
fits_skipped n eager ss line e h k = rw (e, h, k) (either_true (n == 1))

pub blank_skipped : (ws : List (List ℕ)) → ws ≡ [] → is_skipped ws ≡ true
unfolding is_skipped
blank_skipped ws e = rw e refl

pub fits_item : (n : ℕ) (eager : Bool) (ss : List ServiceLine) (line : List ℕ) → is_utf8 line ≡ true → header_of line ≡ None → (n == 1) ≡ false
    → is_skipped (words line) ≡ false
    → says_item n eager ss (words line) ≡ line_fits n eager ss line
unfolding line_fits place_fits
fits_item n eager ss line e h other k = rw (e, h, other, k) refl

-- ---- a skipped line says nothing

pub skipped_service : (ws : List (List ℕ)) → is_skipped ws ≡ true → service_of ws ≡ None
unfolding is_skipped service_of name_of
skipped_service [] h = refl
skipped_service (w ∷ []) h = refl
skipped_service (w ∷ kind ∷ items) h =
    let e : is_name w ≡ false = and_right (ltb 0 (length w) && leb (length w) 255) _ (rw h refl) in
    rw e refl

pub eager_service : (ws : List (List ℕ)) → is_eager ws ≡ true → service_of ws ≡ None
unfolding is_eager service_of
eager_service [] h = refl
eager_service (w ∷ []) h = refl
eager_service (w ∷ v ∷ ws) h = absurd cc

-- it says no service
pub eager_services : (old new : Reading) (line : List ℕ) (r : Result (Unit {0}) LineError) → is_eager (words line) ≡ true
    → OnOk r (new ≡ record old { eager = true })
    → OnOk r (new.services.items ≡ old.services.items ++ option_to_list (service_of (words line)))
eager_services old new line (Ok x) h e =
    let none : service_of (words line) ≡ None = eager_service (words line) h in
    ap (λ (r : Reading). r.services.items) e ∙ rw none (sym (append-nil _))
eager_services old new line (Err x) h e = tt

skipped_eager : (ws : List (List ℕ)) → is_skipped ws ≡ true → is_eager ws ≡ false
unfolding is_skipped is_eager
skipped_eager [] h = refl
skipped_eager ([] ∷ []) h = refl
skipped_eager ((b ∷ w) ∷ []) h =
    let e : b ≡ 35 = eqb-true b 35 h in
    let e1 : eqb b 101 ≡ false = ap (λ (x : ℕ). eqb x 101) e in
    rw e1 refl
skipped_eager (v ∷ w ∷ ws) h = refl

skipped_item : (ws : List (List ℕ)) → is_skipped ws ≡ true → item_of ws ≡ None
unfolding item_of
skipped_item ws h = rw (skipped_is_no_fault ws h, skipped_event ws h) refl

pub header_says : (n : ℕ) (line : List ℕ) (p : Section) → header_of line ≡ Some p
    → (said_services n line ≡ []) × (said_items n line ≡ []) × (said_eager n line ≡ false)
unfolding said_services said_items said_eager
header_says n line p h =
    let t : is_header line ≡ true = rw h refl in
    let a : ((n == 2) && not (is_header line)) ≡ false = and_right (n == 2) _ (ap not t) in
    let b : ((n == 3) && not (is_header line)) ≡ false = and_right (n == 3) _ (ap not t) in
    (rw a refl, rw b refl, rw a refl)

pub item_says : (n : ℕ) (line : List ℕ) → header_of line ≡ None
    → (said_services n line ≡ cond (n == 2) (option_to_list (service_of (words line))) [])
    × (said_items n line ≡ cond (n == 3) (option_to_list (item_of (words line))) [])
    × (said_eager n line ≡ ((n == 2) && is_eager (words line)))
unfolding said_services said_items said_eager
item_says n line h =
    let t : is_header line ≡ false = rw h refl in
    let a : ((n == 2) && not (is_header line)) ≡ (n == 2) = ap (λ (x : Bool). (n == 2) && x) (ap not t) ∙ and-true (n == 2) in
    let b : ((n == 3) && not (is_header line)) ≡ (n == 3) = ap (λ (x : Bool). (n == 3) && x) (ap not t) ∙ and-true (n == 3) in
    (rw a refl, rw b refl, rw a refl)

nothing_either : {X : Type 0} (b : Bool) (o : Option X) → o ≡ None → cond b (option_to_list o) [] ≡ []
nothing_either true o e = rw e refl
nothing_either false o e = refl

-- ---- the reading after a line

pub on_ok : {P Q : Type 0} (t : Bool) (r : Result (Unit {0}) LineError) → Tests t r → OnOk r P → (t ≡ true → P → Q) → OnOk r Q
on_ok t (Ok x) h p f = f h p
on_ok t (Err e) h p f = tt

pub on_ok_said : {P Q : Type 0} (r : Result (Unit {0}) LineError) → OnOk r P → (P → Q) → OnOk r Q
on_ok_said (Ok x) p f = f p
on_ok_said (Err e) p f = tt

or_false : (b : Bool) → b ≡ (b || false)
or_false true = refl
or_false false = refl

pub after_header : (old new : Reading) (line : List ℕ) (p : Section) → header_of line ≡ Some p → (section_index p == section_index old.part + 1) ≡ true
    → new ≡ record old { part = p } → After old line new
after_header old new line p h t e =
    let n : ℕ = section_index old.part in
    let says = header_says n line p h in
    let is : is_header line ≡ true = rw h refl in
    let stepped : section_index new.part ≡ n + 1 = ap (λ (r : Reading). section_index r.part) e ∙ eqb-true _ _ t in
    record {
      part = stepped ∙ rw is refl;
      eager = ap (λ (r : Reading). r.eager) e ∙ rw says.2 (or_false old.eager);
      services = ap (λ (r : Reading). r.services.items) e ∙ rw says.0 (sym (append-nil _));
      items = ap (λ (r : Reading). r.items) e ∙ rw says.1 (sym (append-nil _));
    }

-- a line that says nothing
silent : (r : Reading) (line : List ℕ) → header_of line ≡ None → said_services (section_index r.part) line ≡ [] → said_items (section_index r.part) line ≡ []
    → said_eager (section_index r.part) line ≡ false → After r line r
silent r line h ss es ea =
    let is : is_header line ≡ false = rw h refl in
    record {
      part = rw is (sym (add-zero (section_index r.part)));
      eager = rw ea (or_false r.eager);
      services = rw ss (sym (append-nil _));
      items = rw es (sym (append-nil _));
    }

pub after_conf : (r : Reading) (line : List ℕ) → header_of line ≡ None → section_index r.part ≡ 1 → After r line r
after_conf r line h k =
    let n : ℕ = section_index r.part in
    let says = item_says n line h in
    let two : (n == 2) ≡ false = ap (λ (m : ℕ). m == 2) k in
    let three : (n == 3) ≡ false = ap (λ (m : ℕ). m == 3) k in
    silent r line h (says.0 ∙ rw two refl) (says.1 ∙ rw three refl) (says.2 ∙ rw two refl)

nothing_both : (b c : Bool) → c ≡ false → (b && c) ≡ false
nothing_both true c e = e
nothing_both false c e = refl

pub after_skipped : (r : Reading) (line : List ℕ) → header_of line ≡ None → is_skipped (words line) ≡ true → After r line r
after_skipped r line h k =
    let n : ℕ = section_index r.part in
    let says = item_says n line h in
    silent r line h
    (says.0 ∙ nothing_either (n == 2) _ (skipped_service (words line) k))
    (says.1 ∙ nothing_either (n == 3) _ (skipped_item (words line) k))
    (says.2 ∙ nothing_both (n == 2) _ (skipped_eager (words line) k))

pub after_item : (old new : Reading) (line : List ℕ) → header_of line ≡ None → Said old (words line) new → After old line new
after_item old new line h said =
    let n : ℕ = section_index old.part in
    let says = item_says n line h in
    let is : is_header line ≡ false = rw h refl in
    record {
      part = ap section_index said.0 ∙ rw is (sym (add-zero n));
      eager = said.2 ∙ ap (λ (b : Bool). old.eager || b) (sym says.2);
      services = said.1 ∙ ap (λ (xs : List ServiceLine). old.services.items ++ xs) (sym says.0);
      items = said.3 ∙ ap (λ (xs : List Item). old.items ++ xs) (sym says.1);
    }

-- ---- text

pub is_text : (line : List ℕ) → IsUtf8 line → true ≡ is_utf8 line
is_text line h = sym (is_utf8-from_IsUtf8 line h)

pub is_no_text : (line : List ℕ) → ¬ (IsUtf8 line) → false ≡ is_utf8 line
is_no_text line h =
    elim (cases_Bool (is_utf8 line)) [
      | inl t ↦ absurd (h (IsUtf8-from_is_utf8 line t))
      | inr f ↦ sym f
    ]

pub text_here : (word : List ℕ) → IsUtf8 word → Some word ≡ text_in word
unfolding text_in
text_here word h = rw (is_utf8-from_IsUtf8 word h) refl

pub text_missing : (word : List ℕ) → ¬ (IsUtf8 word) → None ≡ text_in word
unfolding text_in
text_missing word h = rw (sym (is_no_text word h)) refl
