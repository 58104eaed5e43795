-- Words that differ by one letter.
use Rattle.std.proofs.Common.{ℕ, ◌-◌, length, take, drop, get_or, arith, ◌≡◌, ◌≢◌, ◌⊎◌, List, [], ◌∷◌, ◌++◌, refl, append_assoc, inl, inr, ◌+◌, ◌<◌, ◌≤◌, All, Bor, Bool, true, false, subst, sym, ap}
use Rattle.std.proofs.lemmas.List.{take_rest, take_more, take_all}
use Rattle.std.proofs.lemmas.List.Elements.{All-push}
use Rattle.std.specs.Str.{bytes_eq}
use Rattle.std.proofs.lemmas.Slice.Eq.{bytes_eq-Decides}
use Rattle.svc_messages.specs.Spelling.{HasOneMore, HasOneChanged, HasTwoSwapped, IsOneOff, BeginAlike, BehindShared, SwapsFront}

-- the two go on so behind letters that both begin with
pub record Share (a b left right : List ℕ) : Type 0 where
  pub front : List ℕ
  pub first : a ≡ front ++ left
  pub second : b ≡ front ++ right

share_more : (a b left right : List ℕ) (x y : ℕ) → Share a b (x ∷ left) (y ∷ right) → x ≡ y → Share a b left right
share_more a b left right x y s e = record {
  front = s.front ++ (x ∷ []);
  first = rw append_assoc s.first;
  second = rw append_assoc (cc s.second);
}

-- the same, where the letters are told by index
pub share_one : (a b left right : List ℕ) → 0 < length left → 0 < length right → get_or left 0 0 ≡ get_or right 0 0 → Share a b left right
    → Share a b (take (length left - 1) (drop 1 left)) (take (length right - 1) (drop 1 right))
share_one a b [] right h k e s = absurd (omega arith)
share_one a b (x ∷ left) [] h k e s = absurd (omega arith)
share_one a b (x ∷ left) (y ∷ right) h k e s = rw (take_rest (x ∷ left) 1, take_rest (y ∷ right) 1) (share_more a b left right x y s e)

-- a word with one letter more has one also behind a letter that both begin with
more_step : (x z : ℕ) (a b front back : List ℕ) → x ∷ a ≡ front ++ back → x ∷ b ≡ front ++ z ∷ back → HasOneMore a b
more_step x z a b [] back p q = record { front = []; back = a; extra = x; short = refl; long = cc }
more_step x z a b (w ∷ front) back p q = record { front = front; back = back; extra = z; short = cc; long = cc }

changed_step : (x y z : ℕ) (a b front back : List ℕ) → y ≢ z → x ∷ a ≡ front ++ y ∷ back → x ∷ b ≡ front ++ z ∷ back → HasOneChanged a b
changed_step x y z a b [] back d p q = absurd (d cc)
changed_step x y z a b (w ∷ front) back d p q = record { front = front; back = back; one = y; other = z; differ = d; first = cc; second = cc }

swapped_step : (x y z : ℕ) (a b front back : List ℕ) → y ≢ z → x ∷ a ≡ front ++ y ∷ z ∷ back → x ∷ b ≡ front ++ z ∷ y ∷ back → HasTwoSwapped a b
swapped_step x y z a b [] back d p q = absurd (d cc)
swapped_step x y z a b (w ∷ front) back d p q = record { front = front; back = back; one = y; other = z; differ = d; first = cc; second = cc }

one_step : (x : ℕ) (a b : List ℕ) → IsOneOff (x ∷ a) (x ∷ b) → IsOneOff a b
one_step x a b (inl h) = inl (more_step x h.extra a b h.front h.back h.short h.long)
one_step x a b (inr (inl h)) = inr (inl (more_step x h.extra b a h.front h.back h.short h.long))
one_step x a b (inr (inr (inl h))) = inr (inr (inl (changed_step x h.one h.other a b h.front h.back h.differ h.first h.second)))
one_step x a b (inr (inr (inr h))) = inr (inr (inr (swapped_step x h.one h.other a b h.front h.back h.differ h.first h.second)))

one_back : (x : ℕ) (a b : List ℕ) → IsOneOff a b → IsOneOff (x ∷ a) (x ∷ b)
one_back x a b (inl h) = inl (record { front = x ∷ h.front; back = h.back; extra = h.extra; short = cc h.short; long = cc h.long })
one_back x a b (inr (inl h)) = inr (inl (record { front = x ∷ h.front; back = h.back; extra = h.extra; short = cc h.short; long = cc h.long }))
one_back x a b (inr (inr (inl h))) =
    inr (inr (inl (record { front = x ∷ h.front; back = h.back; one = h.one; other = h.other; differ = h.differ; first = cc h.first; second = cc h.second })))
one_back x a b (inr (inr (inr h))) =
    inr (inr (inr (record { front = x ∷ h.front; back = h.back; one = h.one; other = h.other; differ = h.differ; first = cc h.first; second = cc h.second })))

-- what both begin with doesn't matter
steps : (front left right : List ℕ) → IsOneOff (front ++ left) (front ++ right) → IsOneOff left right
steps [] left right h = h
steps (x ∷ front) left right h = steps front left right (one_step x _ _ h)

backs : (front left right : List ℕ) → IsOneOff left right → IsOneOff (front ++ left) (front ++ right)
backs [] left right h = h
backs (x ∷ front) left right h = one_back x _ _ (backs front left right h)

-- what both begin with is left out
tails : (a b left right : List ℕ) → BehindShared a b left right → IsOneOff a b → IsOneOff left right
tails a b left right s h =
    let P : List ℕ → Type 0 = λ y. IsOneOff (s.front ++ left) y in
    let Q : List ℕ → Type 0 = λ x. IsOneOff x b in
    steps s.front left right (subst P s.second (subst Q s.first h))

wholes : (a b left right : List ℕ) → BehindShared a b left right → IsOneOff left right → IsOneOff a b
wholes a b left right s h =
    let P : List ℕ → Type 0 = λ y. IsOneOff a y in
    let Q : List ℕ → Type 0 = λ x. IsOneOff x (s.front ++ right) in
    subst P (sym s.second) (subst Q (sym s.first) (backs s.front left right h))

-- the letters behind the first one
abbrev pub behind_first : List ℕ → List ℕ
behind_first xs = take (length xs - 1) (drop 1 xs)

rest_of : (x : ℕ) (xs : List ℕ) → behind_first (x ∷ xs) ≡ xs
rest_of x xs = take_rest (x ∷ xs) 1

empty_one : (front back : List ℕ) (x : ℕ) (right : List ℕ) → [] ≡ front ++ back → right ≡ front ++ x ∷ back → length right ≡ 1
empty_one [] [] x right p q = ap length q
empty_one [] (y ∷ back) x right p q = absurd cc
empty_one (w ∷ front) back x right p q = absurd cc

no_change : (front back : List ℕ) (x : ℕ) → [] ≡ front ++ x ∷ back → ⊥
no_change [] back x p = cc
no_change (w ∷ front) back x p = cc

empty_left : (right : List ℕ) → IsOneOff [] right → length right ≡ 1
empty_left right (inl h) = empty_one h.front h.back h.extra right h.short h.long
empty_left right (inr (inl h)) = absurd (no_change h.front h.back h.extra h.long)
empty_left right (inr (inr (inl h))) = absurd (no_change h.front h.back h.one h.first)
empty_left right (inr (inr (inr h))) = absurd (no_change h.front (h.other ∷ h.back) h.one h.first)

one_letter : (right : List ℕ) → length right ≡ 1 → HasOneMore [] right
one_letter [] e = absurd (omega arith)
one_letter (x ∷ []) e = record { front = []; back = []; extra = x; short = refl; long = refl }
one_letter (x ∷ y ∷ right) e = absurd (omega arith)

is_empty : (xs : List ℕ) → length xs ≡ 0 → xs ≡ []
is_empty [] e = refl
is_empty (x ∷ xs) e = absurd (omega arith)

-- where the one ends with what both begin with, the other has one letter more
pub left_ends : (a b left right : List ℕ) → BehindShared a b left right → length left ≡ 0
    → (length right ≡ 1 → IsOneOff a b) × (IsOneOff a b → length right ≡ 1)
left_ends a b left right s e =
    let P : List ℕ → Type 0 = λ x. IsOneOff x right in (
      λ one. wholes a b left right s (subst P (sym (is_empty left e)) (inl (one_letter right one))),
      λ h. empty_left right (subst P (is_empty left e) (tails a b left right s h)),
    )

changed : (left right : List ℕ) → 0 < length left → 0 < length right → (BeginAlike left right → ⊥) → behind_first left ≡ behind_first right
    → IsOneOff left right
changed [] right h k d e = absurd (omega arith)
changed (x ∷ left) [] h k d e = absurd (omega arith)
changed (x ∷ left) (y ∷ right) h k d e =
    inr (inr (inl (record { front = []; back = left; one = x; other = y; differ = d; first = refl; second = cc (rest_of x left, rest_of y right, e) })))

pub other_letter : (a b left right : List ℕ) → BehindShared a b left right → 0 < length left → 0 < length right → behind_first left ≡ behind_first right
    → IsOneOff a b
other_letter a b left right s h k e = wholes a b left right s (changed left right h k s.differ e)

longer : (left right : List ℕ) → 0 < length left → behind_first left ≡ right → HasOneMore right left
longer [] right h e = absurd (omega arith)
longer (x ∷ left) right h e = record { front = []; back = left; extra = x; short = cc (rest_of x left, e); long = refl }

pub left_longer : (a b left right : List ℕ) → BehindShared a b left right → 0 < length left → behind_first left ≡ right → IsOneOff a b
left_longer a b left right s h e = wholes a b left right s (inr (inl (longer left right h e)))

pub right_longer : (a b left right : List ℕ) → BehindShared a b left right → 0 < length right → left ≡ behind_first right → IsOneOff a b
right_longer a b left right s h e = wholes a b left right s (inl (longer right left h (sym e)))

swapped : (left right : List ℕ) → (BeginAlike left right → ⊥) → SwapsFront left right → IsOneOff left right
swapped left right d h =
    let P : List ℕ → Type 0 = λ x. BeginAlike x right → ⊥ in
    let Q : List ℕ → Type 0 = λ y. BeginAlike (h.one ∷ h.other ∷ h.back) y → ⊥ in
    inr (inr (inr
    (record {
      front = [];
      back = h.back;
      one = h.one;
      other = h.other;
      differ = subst Q h.second (subst P h.first d);
      first = h.first;
      second = h.second;
    })))

-- two words that begin with different letters and differ by one letter
abbrev Differ : List ℕ → List ℕ → Type 0
Differ left right = (behind_first left ≡ behind_first right) ⊎ ((behind_first left ≡ right) ⊎ ((left ≡ behind_first right) ⊎ SwapsFront left right))

more_ways : (x y z : ℕ) (left right front back : List ℕ) → (x ≡ y → ⊥) → x ∷ left ≡ front ++ back → y ∷ right ≡ front ++ z ∷ back → right ≡ x ∷ left
more_ways x y z left right [] back d p q = cc
more_ways x y z left right (w ∷ front) back d p q = absurd (d cc)

changed_ways : (x y u v : ℕ) (left right front back : List ℕ) → (x ≡ y → ⊥) → x ∷ left ≡ front ++ u ∷ back → y ∷ right ≡ front ++ v ∷ back → left ≡ right
changed_ways x y u v left right [] back d p q = cc
changed_ways x y u v left right (w ∷ front) back d p q = absurd (d cc)

swapped_ways : (x y u v : ℕ) (left right front back : List ℕ) → (x ≡ y → ⊥) → x ∷ left ≡ front ++ u ∷ v ∷ back → y ∷ right ≡ front ++ v ∷ u ∷ back
    → SwapsFront (x ∷ left) (y ∷ right)
swapped_ways x y u v left right [] back d p q = record { back = back; one = u; other = v; first = p; second = q }
swapped_ways x y u v left right (w ∷ front) back d p q = absurd (d cc)

ways : (left right : List ℕ) → 0 < length left → 0 < length right → (BeginAlike left right → ⊥) → IsOneOff left right → Differ left right
ways [] right h k d w = absurd (omega arith)
ways (x ∷ left) [] h k d w = absurd (omega arith)
ways (x ∷ left) (y ∷ right) h k d (inl w) = inr (inr (inl (cc (rest_of y right, more_ways x y w.extra left right w.front w.back d w.short w.long))))
ways (x ∷ left) (y ∷ right) h k d (inr (inl w)) =
    inr (inl (cc (rest_of x left, more_ways y x w.extra right left w.front w.back (λ e. d (sym e)) w.short w.long)))
ways (x ∷ left) (y ∷ right) h k d (inr (inr (inl w))) =
    inl (cc (rest_of x left, rest_of y right, changed_ways x y w.one w.other left right w.front w.back d w.first w.second))
ways (x ∷ left) (y ∷ right) h k d (inr (inr (inr w))) = inr (inr (inr (swapped_ways x y w.one w.other left right w.front w.back d w.first w.second)))

only_swapped : (left right : List ℕ) → Differ left right → (behind_first left ≡ behind_first right → ⊥) → (behind_first left ≡ right → ⊥)
    → (left ≡ behind_first right → ⊥) → SwapsFront left right
only_swapped left right (inl w) p q r = absurd (p w)
only_swapped left right (inr (inl w)) p q r = absurd (q w)
only_swapped left right (inr (inr (inl w))) p q r = absurd (r w)
only_swapped left right (inr (inr (inr w))) p q r = w

pub swapped_alone : (a b left right : List ℕ) → BehindShared a b left right → 0 < length left → 0 < length right
    → (behind_first left ≡ behind_first right → ⊥) → (behind_first left ≡ right → ⊥) → (left ≡ behind_first right → ⊥)
    → (SwapsFront left right → IsOneOff a b) × (IsOneOff a b → SwapsFront left right)
swapped_alone a b left right s h k p q r = (
  λ w. wholes a b left right s (swapped left right s.differ w),
  λ w. only_swapped left right (ways left right h k s.differ (tails a b left right s w)) p q r,
)

pub same_letters : (xs ys : List ℕ) → true ≡ bytes_eq xs ys → xs ≡ ys
same_letters xs ys e = (bytes_eq-Decides xs ys).0 (sym e)

pub other_letters : (xs ys : List ℕ) → false ≡ bytes_eq xs ys → xs ≡ ys → ⊥
other_letters xs ys e same = let t : bytes_eq xs ys ≡ true = (bytes_eq-Decides xs ys).1 same in cc

both_same : (r : Bool) (xs ys : List ℕ) → r ≡ bytes_eq xs ys → (r ≡ true → xs ≡ ys) × (xs ≡ ys → r ≡ true)
both_same r xs ys e = (λ t. (bytes_eq-Decides xs ys).0 cc, λ same. let t : bytes_eq xs ys ≡ true = (bytes_eq-Decides xs ys).1 same in cc)

rest_of_two : (x y : ℕ) (xs : List ℕ) → take (length (x ∷ y ∷ xs) - 2) (drop 2 (x ∷ y ∷ xs)) ≡ xs
rest_of_two x y xs = take_rest (x ∷ y ∷ xs) 2

pub swaps : (r : Bool) (a b : List ℕ) → 1 < length a → 1 < length b → get_or a 0 0 ≡ get_or b 1 0 → get_or a 1 0 ≡ get_or b 0 0
    → r ≡ bytes_eq (take (length a - 2) (drop 2 a)) (take (length b - 2) (drop 2 b)) → (r ≡ true → SwapsFront a b) × (SwapsFront a b → r ≡ true)
swaps r [] b h k p q e = absurd (omega arith)
swaps r (x ∷ []) b h k p q e = absurd (omega arith)
swaps r (x ∷ y ∷ a) [] h k p q e = absurd (omega arith)
swaps r (x ∷ y ∷ a) (z ∷ []) h k p q e = absurd (omega arith)
swaps r (x ∷ y ∷ a) (z ∷ w ∷ b) h k p q e =
    let same : (r ≡ true → a ≡ b) × (a ≡ b → r ≡ true) = both_same r a b (cc (rest_of_two x y a, rest_of_two z w b)) in (
      λ t. record { back = a; one = x; other = y; first = refl; second = cc (same.0 t) },
      λ s. same.1 (cc (s.first, s.second)),
    )

pub none_more : (word name : List ℕ) (known : List (Bor (List ℕ))) (i : ℕ) (d : Bor (List ℕ)) → i < length known
    → All (λ meant. IsOneOff word meant.now → ⊥) (take i known)
    → name ≡ (get_or known i d).now → (IsOneOff word name → false ≡ true) → All (λ meant. IsOneOff word meant.now → ⊥) (take (i + 1) known)
none_more word name known i d h none e one =
    let P : List (Bor (List ℕ)) → Type 0 = λ xs. All (λ meant. IsOneOff word meant.now → ⊥) xs in
    let Q : List ℕ → Type 0 = λ x. IsOneOff word x in
    let last : IsOneOff word (get_or known i d).now → ⊥ = λ h. (let t : false ≡ true = one (subst Q (sym e) h) in cc) in
    subst P (sym (take_more known i d h)) (All-push (λ meant. IsOneOff word meant.now → ⊥) (take i known) (get_or known i d) none last)

pub none_left : (word : List ℕ) (known : List (Bor (List ℕ))) (i : ℕ) → length known ≤ i → All (λ meant. IsOneOff word meant.now → ⊥) (take i known)
    → All (λ meant. IsOneOff word meant.now → ⊥) known
none_left word known i h none =
    let P : List (Bor (List ℕ)) → Type 0 = λ xs. All (λ meant. IsOneOff word meant.now → ⊥) xs in
    subst P (take_all i known h) none
