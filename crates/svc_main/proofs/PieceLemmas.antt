-- The pieces of a list, and the lines of a text that was written line by line.
use Rattle.std.proofs.Common.{◌≡◌, ℕ, zero, suc, ◌+◌, ◌-◌, Bool, true, false, not, ◌||◌, ◌==◌, List, All, [], ◌∷◌, ◌++◌, length, take, filter, refl, inl, inr, length-append, arith}
use Rattle.std.specs.List.{slice_split, onto_first, list_all}
use Rattle.std.specs.Prelude.{slice_index}
use Rattle.std.specs.Str.Lines.{lines, lines_of_parts, strip_carriage_return}
use Rattle.std.proofs.lemmas.Bool.{and_parts, and_from, cases_Bool}
use Rattle.std.proofs.lemmas.List.{get_or_push}
use Rattle.std.proofs.Math.Seq.{take-append_seam}
use Rattle.svc_base.specs.Words.{is_feed}

-- no element passes
abbrev pub none_of : {X : Type 0} → (X → Bool) → List X → Bool
none_of p xs = list_all (λ x. not (p x)) xs

none_or : {X : Type 0} (p q : X → Bool) (x : X) (parts : List (List X)) → p x ≡ false → (p x || q x) ≡ true → list_all (list_all q) parts ≡ true
    → list_all (list_all q) (onto_first x parts) ≡ true
none_or p q x [] off one h = (let here = rw off at one in rw here refl)
none_or p q x (part ∷ parts) off one h =
    (let here = rw off at one in let rest = and_parts (list_all q part) (list_all (list_all q) parts) h in rw (here, rest.0) rest.1)

-- what is so of each element that isn't cut at is so of all elements of the pieces
pub pieces_all : {X : Type 0} (p q : X → Bool) (xs : List X) → list_all (λ x. p x || q x) xs ≡ true → list_all (list_all q) (slice_split p xs) ≡ true
pieces_all p q [] h = refl
pieces_all p q (x ∷ xs) h =
    let rest = and_parts (p x || q x) (list_all (λ y. p y || q y) xs) h in
    let more = pieces_all p q xs rest.1 in
    elim (cases_Bool (p x)) [
      | inl on ↦ rw on more
      | inr off ↦ rw off (none_or p q x (slice_split p xs) off rest.0 more)
    ]

pub pieces_none : {X : Type 0} (p : X → Bool) (xs : List X) → list_all (none_of p) (slice_split p xs) ≡ true
pieces_none p xs = pieces_all p (λ x. not (p x)) xs (either xs)
  where
    one : (b : Bool) → (b || not b) ≡ true
    one true = refl
    one false = refl

    either : (ys : List _) → list_all (λ x. p x || not (p x)) ys ≡ true
    either [] = refl
    either (y ∷ ys) = rw (one (p y)) (either ys)

pub filter_keeps : {X : Type 0} (q f : X → Bool) (xs : List X) → list_all q xs ≡ true → list_all q (filter f xs) ≡ true
filter_keeps q f [] h = refl
filter_keeps q f (x ∷ xs) h =
    let rest = and_parts (q x) (list_all q xs) h in
    let more = filter_keeps q f xs rest.1 in
    elim (cases_Bool (f x)) [
      | inl on ↦ rw (on, rest.0) more
      | inr off ↦ rw off more
    ]

take_keeps : {X : Type 0} (q : X → Bool) (n : ℕ) (xs : List X) → list_all q xs ≡ true → list_all q (take n xs) ≡ true
take_keeps q zero xs h = refl
take_keeps q (suc n) [] h = refl
take_keeps q (suc n) (x ∷ xs) h = (let rest = and_parts (q x) (list_all q xs) h in rw rest.0 (take_keeps q n xs rest.1))

strip_keeps : (q : ℕ → Bool) (xs : List ℕ) → list_all q xs ≡ true → list_all q (strip_carriage_return xs) ≡ true
strip_keeps q xs h = elim (cases_Bool (slice_index xs (length xs - 1) == 13)) [
  | inl on ↦ rw on (take_keeps q (length xs - 1) xs h)
  | inr off ↦ rw off h
]

lines_keep : (q : ℕ → Bool) (parts : List (List ℕ)) → list_all (list_all q) parts ≡ true → list_all (list_all q) (lines_of_parts parts) ≡ true
lines_keep q [] h = refl
lines_keep q (x ∷ []) h = elim (cases_Bool (length x == 0)) [
  | inl on ↦ rw on refl
  | inr off ↦ rw off h
]
lines_keep q (x ∷ y ∷ more) h =
    let rest = and_parts (list_all q x) (list_all (list_all q) (y ∷ more)) h in
    and_from (list_all q (strip_carriage_return x)) (list_all (list_all q) (lines_of_parts (y ∷ more))) (strip_keeps q x rest.0)
    (lines_keep q (y ∷ more) rest.1)

-- no line has one
pub lines_none : (bytes : List ℕ) → list_all (none_of is_feed) (lines bytes) ≡ true
lines_none bytes = lines_keep (λ b. not (is_feed b)) (slice_split is_feed bytes) (pieces_none is_feed bytes)

pub none_each : {X : Type 0} (p : X → Bool) (xs : List X) → none_of p xs ≡ true → All (λ x. p x ≡ false) xs
none_each p [] h k d lt = absurd (omega arith)
none_each p (x ∷ xs) h zero d lt = off (p x) (and_parts (not (p x)) (none_of p xs) h).0
  where
    off : (b : Bool) → not b ≡ true → b ≡ false
    off true e = absurd (cc)
    off false e = refl
none_each p (x ∷ xs) h (suc k) d lt = none_each p xs (and_parts (not (p x)) (none_of p xs) h).1 k d (omega arith)

-- a line with a carriage return behind it, without that again
pub strip-return : (line : List ℕ) → strip_carriage_return (line ++ 13 ∷ []) ≡ line
strip-return line =
    let long : length (line ++ 13 ∷ []) - 1 ≡ length line = omega (arith, length-append line (13 ∷ [])) in
    let last : slice_index (line ++ 13 ∷ []) (length line) ≡ 13 = get_or_push line 13 0 (length line) refl in
    rw (long, last) (take-append_seam line (13 ∷ []))
