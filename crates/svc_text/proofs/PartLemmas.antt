-- One more line goes to the last part of a script.
use Rattle.std.proofs.Common.{◌≡◌, ℕ, zero, suc, ◌+◌, ◌<◌, Bool, true, false, not, ◌&&◌, ◌||◌, ◌==◌, eqb, cond, List, [], ◌∷◌, ◌++◌, length, get_or, count_by, Option, Some, None, refl, ap, ◌∙◌, arith}
use Rattle.std.specs.List.{slice_split, onto_first, filter_map, list_any, cons_option}
use Rattle.std.specs.Option.{option_to_list}
use Rattle.std.proofs.lemmas.Bool.{eq-eqb}
use Rattle.std.proofs.lemmas.List.{append-nil, get_or_past}
use Rattle.std.proofs.lemmas.List.Sums.{sum_by_push, sum_by-cons}
use Rattle.std.proofs.lemmas.List.Splits.{length-slice_split}
use Rattle.std.proofs.lemmas.List.Elements.{filter_map-append}
use Rattle.std.proofs.lemmas.List.Folds.{list_any-append}
use Rattle.std.proofs.Math.Dec.{eqb-suc-suc, eqb-suc-zero, eqb-zero-suc}
use Rattle.svc_base.specs.Words.{words}
use Rattle.svc_text.specs.EventLines.{item_of}
use Rattle.svc_text.specs.ServiceLines.{service_of, is_eager}
use Rattle.svc_text.specs.Script.{is_header, begun, part_of, services_in, eager_in, items_in, said_services, said_eager, said_items}

-- one more element goes to the last part
pick : {X : Type 0} → Bool → X → List X
pick b y = cond b (y ∷ []) []

part-first : {X : Type 0} (x : X) (parts : List (List X)) → 0 < length parts → get_or (onto_first x parts) 0 [] ≡ x ∷ get_or parts 0 []
part-first x [] h = absurd (omega arith)
part-first x (part ∷ parts) h = refl

part-later : {X : Type 0} (x : X) (parts : List (List X)) (n : ℕ) → 0 < length parts → get_or (onto_first x parts) (suc n) [] ≡ get_or parts (suc n) []
part-later x [] n h = absurd (omega arith)
part-later x (part ∷ parts) n h = refl

split_some : {X : Type 0} (p : X → Bool) (xs : List X) → 0 < length (slice_split p xs)
split_some p xs = omega (arith, length-slice_split p xs)

push_nil : {X : Type 0} (p : X → Bool) (y : X) (b : Bool) (n : ℕ) → p y ≡ b
    → get_or (slice_split p (y ∷ [])) n [] ≡ get_or (slice_split p []) n [] ++ pick (eqb 0 n && not (p y)) y
unfolding pick
push_nil p y true zero e = rw e refl
push_nil p y true (suc zero) e = rw e refl
push_nil p y true (suc (suc n)) e = rw (e, eqb-zero-suc) refl
push_nil p y false zero e = rw e refl
push_nil p y false (suc n) e = rw (e, eqb-zero-suc) refl

counted : {X : Type 0} (p : X → Bool) (x : X) (xs : List X) → count_by p (x ∷ xs) ≡ cond (p x) 1 0 + count_by p xs
counted p x xs = sum_by-cons (λ y. cond (p y) 1 0) x xs

push_step : {X : Type 0} (p : X → Bool) (x : X) (xs : List X) (y : X) (b : Bool) (n : ℕ) → p x ≡ b
    → ((k : ℕ) → get_or (slice_split p (xs ++ y ∷ [])) k [] ≡ get_or (slice_split p xs) k [] ++ pick (eqb (count_by p xs) k && not (p y)) y)
    → get_or (slice_split p (x ∷ (xs ++ y ∷ []))) n [] ≡ get_or (slice_split p (x ∷ xs)) n [] ++ pick (eqb (count_by p (x ∷ xs)) n && not (p y)) y
unfolding pick
push_step p x xs y true zero e ih =
    let c : count_by p (x ∷ xs) ≡ suc (count_by p xs) = counted p x xs ∙ rw e (omega arith) in
    rw (c, eqb-suc-zero, e) refl
push_step p x xs y true (suc n) e ih =
    let c : count_by p (x ∷ xs) ≡ suc (count_by p xs) = counted p x xs ∙ rw e (omega arith) in
    rw (c, eqb-suc-suc, e) (ih n)
push_step p x xs y false zero e ih =
    let c : count_by p (x ∷ xs) ≡ count_by p xs = counted p x xs ∙ rw e (omega arith) in
    let a = part-first x (slice_split p (xs ++ y ∷ [])) (split_some p (xs ++ y ∷ [])) in
    let d = part-first x (slice_split p xs) (split_some p xs) in
    rw (c, e, a, d) (ap (λ (zs : List _). x ∷ zs) (ih zero))
push_step p x xs y false (suc n) e ih =
    let c : count_by p (x ∷ xs) ≡ count_by p xs = counted p x xs ∙ rw e (omega arith) in
    let a = part-later x (slice_split p (xs ++ y ∷ [])) n (split_some p (xs ++ y ∷ [])) in
    let d = part-later x (slice_split p xs) n (split_some p xs) in
    rw (c, e, a, d) (ih (suc n))

part_push : {X : Type 0} (p : X → Bool) (xs : List X) (y : X) (n : ℕ)
    → get_or (slice_split p (xs ++ y ∷ [])) n [] ≡ get_or (slice_split p xs) n [] ++ pick (eqb (count_by p xs) n && not (p y)) y
part_push p [] y n = push_nil p y (p y) n refl
part_push p (x ∷ xs) y n = push_step p x xs y (p x) n refl (λ k. part_push p xs y k)

count_push : {X : Type 0} (p : X → Bool) (xs : List X) (y : X) → count_by p (xs ++ y ∷ []) ≡ count_by p xs + cond (p y) 1 0
count_push p xs y = sum_by_push (λ x. cond (p x) 1 0) xs y

one_said : {Y : Type 0} (o : Option Y) → cons_option o [] ≡ option_to_list o
one_said None = refl
one_said (Some z) = refl

said_pick : {X Y : Type 0} (f : X → Option Y) (b : Bool) (x : X) → filter_map f (pick b x) ≡ cond b (option_to_list (f x)) []
unfolding pick
said_pick f false x = refl
said_pick f true x = one_said (f x)

pub begun-push : (ls : List (List ℕ)) (l : List ℕ) → begun (ls ++ l ∷ []) ≡ begun ls + cond (is_header l) 1 0
unfolding begun
begun-push ls l = count_push is_header ls l

said_push : {Y : Type 0} (f : List ℕ → Option Y) (n : ℕ) (ls : List (List ℕ)) (l : List ℕ)
    → filter_map f (part_of n (ls ++ l ∷ [])) ≡ filter_map f (part_of n ls) ++ cond ((begun ls == n) && not (is_header l)) (option_to_list (f l)) []
unfolding part_of begun
said_push f n ls l =
    ap (filter_map f) (part_push is_header ls l n)
    ∙ filter_map-append f (part_of n ls) (pick ((begun ls == n) && not (is_header l)) l)
    ∙ ap (λ (ys : List _). filter_map f (part_of n ls) ++ ys) (said_pick f _ l)

pub services-push : (ls : List (List ℕ)) (l : List ℕ) → services_in (ls ++ l ∷ []) ≡ services_in ls ++ said_services (begun ls) l
unfolding services_in said_services
services-push ls l = said_push (λ x. service_of (words x)) 2 ls l

any_pick : {X : Type 0} (f : X → Bool) (b : Bool) (x : X) → list_any f (pick b x) ≡ (b && f x)
unfolding pick
any_pick f false x = refl
any_pick f true x = or_false (f x)
  where
    or_false : (c : Bool) → (c || false) ≡ c
    or_false true = refl
    or_false false = refl

pub eager-push : (ls : List (List ℕ)) (l : List ℕ) → eager_in (ls ++ l ∷ []) ≡ (eager_in ls || said_eager (begun ls) l)
unfolding eager_in said_eager part_of begun
eager-push ls l =
    let f : List ℕ → Bool = λ x. is_eager (words x) in
    ap (list_any f) (part_push is_header ls l 2)
    ∙ list_any-append f (get_or (slice_split is_header ls) 2 []) (pick ((count_by is_header ls == 2) && not (is_header l)) l)
    ∙ ap (λ (b : Bool). list_any f (get_or (slice_split is_header ls) 2 []) || b) (any_pick f ((count_by is_header ls == 2) && not (is_header l)) l)

pub items-push : (ls : List (List ℕ)) (l : List ℕ) → items_in (ls ++ l ∷ []) ≡ items_in ls ++ said_items (begun ls) l
unfolding items_in said_items
items-push ls l = said_push (λ x. item_of (words x)) 3 ls l

-- ---- the lines of a part

-- a line that begins no part goes to the part that it stands in
pub part_gains : (n : ℕ) (ls : List (List ℕ)) (l : List ℕ) → begun ls ≡ n → is_header l ≡ false → part_of n (ls ++ l ∷ []) ≡ part_of n ls ++ l ∷ []
unfolding part_of begun pick
part_gains n ls l e h =
    let t : (count_by is_header ls == n) ≡ true = eq-eqb _ _ e in
    part_push is_header ls l n ∙ rw (t, h) refl

-- no other part gets it
pub part_stays : (n : ℕ) (ls : List (List ℕ)) (l : List ℕ) → ((begun ls == n) && not (is_header l)) ≡ false → part_of n (ls ++ l ∷ []) ≡ part_of n ls
unfolding part_of begun pick
part_stays n ls l e = part_push is_header ls l n ∙ rw e (append-nil _)

-- a part that isn't begun has no lines
pub part_unbegun : (n : ℕ) (ls : List (List ℕ)) → begun ls < n → part_of n ls ≡ []
unfolding part_of begun
part_unbegun n ls lt = get_or_past (slice_split is_header ls) n [] (omega (arith, length-slice_split is_header ls))
