-- The lines of a script, one after the other.
use Rattle.std.proofs.Common.{◌≡◌, ℕ, zero, suc, ◌+◌, ◌<◌, ◌≤◌, Bool, true, false, not, ◌||◌, cond, List, All, [], ◌∷◌, ◌++◌, length, take, drop, get_or, find, Option, Some, None, refl, sym, ap, subst, ◌∙◌, add-zero, zero-add, add-one, below_more, ltb, ◌-◌, inl, inr, arith}
use Rattle.std.specs.List.{range_with_len}
use Rattle.std.specs.Option.{option_to_list}
use Rattle.std.specs.Str.Lines.{lines}
use Rattle.std.proofs.lemmas.List.{take_more, length-drop, length-append, get_or_push, get_or_append_left}
use Rattle.std.proofs.lemmas.List.Elements.{All-append}
use Rattle.std.proofs.lemmas.Bool.{cases_lt, lt-ltb, le-ltb}
use Rattle.std.proofs.Math.Seq.{drop-cons}
use Rattle.svc_record.specs.declared.item.Item.{Item}
use Rattle.svc_base.specs.Words.{words}
use Rattle.svc_text.specs.declared.service.ServiceLine.{ServiceLine}
use Rattle.svc_text.specs.ServiceLines.{service_of}
use Rattle.svc_text.specs.declared.reading.Reading.{Reading}
use Rattle.svc_text.specs.declared.part.Section.TheVariants.{Nothing}
use Rattle.svc_text.specs.Outcome.{After}
use Rattle.svc_text.specs.Accepted.{AreAccepted, BringsFew}
use Rattle.svc_text.specs.Fronts.{HasSaid}
use Rattle.svc_text.specs.Script.{IsLineOf, AreLines, section_index, line_fits, fits_at, first_misfit, is_header, begun, part_of, services_in, eager_in, items_in, said_services, said_eager, said_items}
use Rattle.svc_text.proofs.AcceptLemmas.{accepted_none, accepted_line}
use Rattle.svc_text.proofs.FewLemmas.{few_none, few_said}
use Rattle.svc_text.proofs.PartLemmas.{begun-push, services-push, eager-push, items-push}

-- ---- the first line that does not fit

find_none : (p : ℕ → Bool) (a n : ℕ) → ((k : ℕ) → a ≤ k → k < a + n → p k ≡ false) → find p (range_with_len a n) ≡ None
find_none p a zero h = refl
find_none p a (suc n) h =
    let e : p a ≡ false = h a (omega arith) (omega arith) in
    rw e (find_none p (a + 1) n (λ k le lt. h k (omega arith) (omega arith)))

find_at : (p : ℕ → Bool) (a n i : ℕ) → i < n → ((k : ℕ) → a ≤ k → k < a + i → p k ≡ false) → p (a + i) ≡ true → find p (range_with_len a n) ≡ Some (a + i)
find_at p a zero i lt h t = absurd (omega arith)
find_at p a (suc n) zero lt h t =
    let z : a + 0 ≡ a = add-zero a in
    let e : p a ≡ true = ap p (sym z) ∙ t in
    rw (e, z) refl
find_at p a (suc n) (suc i) lt h t =
    let e : p a ≡ false = h a (omega arith) (omega arith) in
    let z : (a + 1) + i ≡ a + suc i = omega arith in
    let rest : find p (range_with_len (a + 1) n) ≡ Some ((a + 1) + i) =
    find_at p (a + 1) n i (omega arith) (λ k le lt'. h k (omega arith) (omega arith)) (ap p z ∙ t) in
    rw (e, rest, z) refl

-- each of the first n lines fits those before it
pub record FitUpTo (ls : List (List ℕ)) (n : ℕ) : Type 0 where
  pub below : (k : ℕ) → k < n → fits_at ls k ≡ true

pub misfit_none : (ls : List (List ℕ)) → FitUpTo ls (length ls) → first_misfit ls ≡ None
unfolding first_misfit
misfit_none ls h = find_none (λ k. not (fits_at ls k)) 0 (length ls) (λ k le lt. ap not (h.below k (omega arith)))

pub misfit_at : (ls : List (List ℕ)) (n : ℕ) → FitUpTo ls n → n < length ls → fits_at ls n ≡ false → first_misfit ls ≡ Some n
unfolding first_misfit
misfit_at ls n h lt f =
    let z : 0 + n ≡ n = zero-add n in
    find_at (λ k. not (fits_at ls k)) 0 (length ls) n lt (λ k le lt'. ap not (h.below k (omega arith))) (ap (λ k. not (fits_at ls k)) z ∙ ap not f)
    ∙ ap (λ (k : ℕ). Some k) z

pub fit_more : (ls : List (List ℕ)) (n : ℕ) → FitUpTo ls n → fits_at ls n ≡ true → FitUpTo ls (n + 1)
fit_more ls n h f = record { below = below_more (λ k. fits_at ls k ≡ true) n h.below f }

-- ---- the loop

-- the reading has the first n lines, all of which fit, and the rest has the others
pub record HasRead (all rest : List ℕ) (n : ℕ) (r : Reading) : Type 0 where
  pub rest_is : lines rest ≡ drop n (lines all)
  pub within : n ≤ length (lines all)
  pub fit : FitUpTo (lines all) n
  pub said : HasSaid (take n (lines all)) r

pub none_read : (all : List ℕ) (r : Reading) → r.part ≡ Nothing → r.services.items ≡ [] → r.eager ≡ false → r.items ≡ [] → HasRead all all 0 r
unfolding begun services_in eager_in items_in part_of
none_read all r p s b e = record {
  rest_is = refl;
  within = omega arith;
  fit = record { below = λ k lt. absurd (omega arith) };
  said = record {
    part = ap section_index p;
    services = s;
    eager = b;
    items = e;
    accepted = subst AreAccepted (sym s) accepted_none;
    few = subst (All BringsFew) (sym e) few_none;
  };
}

-- the next line, and those after it
pub record Next (all : List ℕ) (n : ℕ) (line after : List ℕ) : Type 0 where
  pub here : n < length (lines all)
  pub is : get_or (lines all) n [] ≡ line
  pub more : take (n + 1) (lines all) ≡ take n (lines all) ++ line ∷ []
  pub rest : lines after ≡ drop (n + 1) (lines all)

next_of : (ls : List (List ℕ)) (n : ℕ) (x : List ℕ) (xs : List (List ℕ)) → drop n ls ≡ x ∷ xs
    → (n < length ls) × (get_or ls n [] ≡ x) × (take (n + 1) ls ≡ take n ls ++ x ∷ []) × (xs ≡ drop (n + 1) ls)
next_of ls n x xs d =
    let len : n < length ls = omega (arith, length-drop n ls, ap length d) in
    let c : get_or ls n [] ∷ drop (suc n) ls ≡ x ∷ xs = sym (drop-cons ls n [] len) ∙ d in
    let head : get_or ls n [] ≡ x = cc in
    let tail : drop (suc n) ls ≡ xs = cc in
    (len, head, take_more ls n [] len ∙ ap (λ (l : List ℕ). take n ls ++ l ∷ []) head, rw add-one (sym tail))

pub next_line : (all rest line after : List ℕ) (n : ℕ) (r : Reading) → HasRead all rest n r → lines rest ≡ line ∷ lines after → Next all n line after
next_line all rest line after n r h e =
    let p = next_of (lines all) n line (lines after) (sym h.rest_is ∙ e) in
    record { here = p.0; is = p.1; more = p.2; rest = p.3 }

-- the reading's test is the definition's
pub fits_next : (all rest line after : List ℕ) (n : ℕ) (r : Reading) → HasRead all rest n r → Next all n line after
    → fits_at (lines all) n ≡ line_fits (section_index r.part) r.eager r.services.items line
unfolding fits_at
fits_next all rest line after n r h e = rw (h.said.part, h.said.eager, h.said.services, e.is) refl

both : {X Y : Type 0} (f : X → ℕ → Y) {x y : X} {m n : ℕ} → x ≡ y → m ≡ n → f x m ≡ f y n
both f {x} {y} {m} {n} e g = ap (λ z. f z m) e ∙ ap (f y) g

-- what one more line adds
said_more : (ls : List (List ℕ)) (line : List ℕ) (r s : Reading) → HasSaid ls r → line_fits (section_index r.part) r.eager r.services.items line ≡ true
    → After r line s → HasSaid (ls ++ line ∷ []) s
said_more ls line r s h t a = record {
  part = a.part ∙ ap (λ (m : ℕ). m + cond (is_header line) 1 0) h.part ∙ sym (begun-push ls line);
  services = a.services ∙ both (λ (xs : List ServiceLine) m. xs ++ said_services m line) h.services h.part ∙ sym (services-push ls line);
  eager = a.eager ∙ both (λ (b : Bool) m. b || said_eager m line) h.eager h.part ∙ sym (eager-push ls line);
  items = a.items ∙ both (λ (xs : List Item) m. xs ++ said_items m line) h.items h.part ∙ sym (items-push ls line);
  accepted = subst AreAccepted (sym a.services) (accepted_line (section_index r.part) r.eager r.services.items line h.accepted t);
  few = subst (All BringsFew) (sym a.items)
      (All-append BringsFew r.items (said_items (section_index r.part) line) h.few (few_said (section_index r.part) line));
}

pub reads_more : (all rest line after : List ℕ) (n : ℕ) (r s : Reading) → HasRead all rest n r → lines rest ≡ line ∷ lines after
    → line_fits (section_index r.part) r.eager r.services.items line ≡ true → After r line s → HasRead all after (n + 1) s
reads_more all rest line after n r s h e t a =
    let next = next_line all rest line after n r h e in
    record {
      rest_is = next.rest;
      within = omega (arith, next.here);
      fit = fit_more (lines all) n h.fit (fits_next all rest line after n r h next ∙ t);
      said = subst (λ (ls : List (List ℕ)). HasSaid ls s) (sym next.more) (said_more (take n (lines all)) line r s h.said t a);
    }

-- ---- the lines of the services

one_at_most : {X : Type 0} (b : Bool) (o : Option X) → length (cond b (option_to_list o) []) ≤ 1
one_at_most false o = omega arith
one_at_most true None = omega arith
one_at_most true (Some x) = omega arith

said_few : (part : ℕ) (line : List ℕ) → length (said_services part line) ≤ 1
unfolding said_services
said_few part line = one_at_most _ (service_of (words line))

few_more : (old new : Reading) (line : List ℕ) → After old line new
    → (length old.services.items ≤ length new.services.items) × (length new.services.items ≤ length old.services.items + 1)
few_more old new line a =
    let e : length (new.services.items) ≡ length (old.services.items ++ said_services (section_index old.part) line) = ap length a.services in
    let f = said_few (section_index old.part) line in
    let m = length-append (old.services.items) (said_services (section_index old.part) line) in
    (omega arith, omega arith)

pub lines_none : (ls : List (List ℕ)) (count : ℕ) (ns : List ℕ) → count ≡ 0 → ns ≡ [] → AreLines ls count ns
lines_none ls count ns c e = record { count_is = ap length e ∙ sym c; each = λ k lt. absurd (omega arith) }

-- the lines so far, and the one that was added
line_at : (ls : List (List ℕ)) (n : ℕ) (ns ms : List ℕ) (count : ℕ) → ms ≡ ns ++ (n + 1) ∷ [] → length ns ≡ count
    → length (services_in (take n ls)) ≡ count → length (services_in (take (n + 1) ls)) ≡ count + 1
    → ((k : ℕ) → k < count → IsLineOf ls k (get_or ns k 0)) → (k : ℕ) → k < count + 1 → IsLineOf ls k (get_or ms k 0)
line_at ls n ns ms count e len before behind old k below =
    elim (cases_lt k count) [
      | inl lt ↦
          let here : get_or ms k 0 ≡ get_or ns k 0 = ap (λ (xs : List ℕ). get_or xs k 0) e ∙ get_or_append_left ns ((n + 1) ∷ []) 0 k (omega arith) in
          subst (IsLineOf ls k) (sym here) (old k lt)
      | inr le ↦
          let is : k ≡ count = omega arith in
          let here : get_or ms k 0 ≡ n + 1 = ap (λ (xs : List ℕ). get_or xs k 0) e ∙ get_or_push ns (n + 1) 0 k (omega arith) in
          let back : (n + 1) - 1 ≡ n = omega arith in
          subst (IsLineOf ls k) (sym here) (record {
            before = ap (λ (m : ℕ). length (services_in (take m ls))) back ∙ before ∙ sym is;
            behind = behind ∙ ap (λ (m : ℕ). m + 1) (sym is);
          })
    ]

pub lines_more : (all rest after line : List ℕ) (n : ℕ) (r s : Reading) (ns ms : List ℕ) → HasRead all rest n r → HasRead all after (n + 1) s → After r line s
    → AreLines (lines all) (length r.services.items) ns
    → ms ≡ cond (ltb (length ns) (length s.services.items)) (ns ++ (n + 1) ∷ []) ns → AreLines (lines all) (length s.services.items) ms
lines_more all rest after line n r s ns ms h j a old e =
    let few = few_more r s line a in
    let before : length (services_in (take n (lines all))) ≡ length r.services.items = ap length (sym h.said.services) in
    let behind : length (services_in (take (n + 1) (lines all))) ≡ length s.services.items = ap length (sym j.said.services) in
    elim (cases_lt (length ns) (length s.services.items)) [
      | inl lt ↦
          let t : ltb (length ns) (length s.services.items) ≡ true = lt-ltb _ _ lt in
          let is : ms ≡ ns ++ (n + 1) ∷ [] = e ∙ rw t refl in
          record {
            count_is = ap length is ∙ omega (arith, length-append ns ((n + 1) ∷ []), old.count_is, few);
            each = λ k below. line_at (lines all) n ns ms (length r.services.items) is old.count_is before
                (behind ∙ omega (arith, old.count_is, few)) old.each k (omega (arith, old.count_is, few));
          }
      | inr le ↦
          let t : ltb (length ns) (length s.services.items) ≡ false = le-ltb _ _ le in
          let is : ms ≡ ns = e ∙ rw t refl in
          record {
            count_is = ap length is ∙ omega (arith, old.count_is, few);
            each = λ k below. subst (λ (xs : List ℕ). IsLineOf (lines all) k (get_or xs k 0)) (sym is) (old.each k (omega (arith, old.count_is, few)));
          }
    ]
