-- Counts of descriptors, none of which stands twice.
use Rattle.std.proofs.Common.{ℕ, Bool, true, false, not, ◌&&◌, ◌||◌, ◌==◌, inl, inr, List, [], ◌∷◌, ◌++◌, ◌≡◌, refl, ap, sym, ◌∙◌, subst, arith, ◌≤◌, ◌+◌, ◌-◌, length, map, filter, nat_le, nat_lt, Option, Some, None, IfSome, IfNone, if◌then◌else◌}
use Rattle.std.specs.Bool.{OnTrue, OnFalse}
use Rattle.std.proofs.lemmas.Bool.{cases_Bool, and_parts, and_from, or_parts, or_left, or_right, eq-eqb, eqb-true, leb-true, le-leb}
use Rattle.svc_base.specs.Blocks.{put_by, has_key, StandsIn}
use Rattle.svc_base.specs.NumberSets.{is_in, distinct, put_number}
use Rattle.svc_base.proofs.Logic.{clash, apart_from, not_in, neither, false_where}
use Rattle.svc_base.proofs.NumberSetLemmas.{distinct-put}
use Rattle.svc_endpoints.specs.declared.uses.Share.{Share}
use Rattle.svc_endpoints.specs.declared.uses.UseCount.{UseCount}
use Rattle.svc_endpoints.specs.Counts.{has_hold, has_use, one, raised, lowered, unused, counted_numbers, are_few, is_unused, is_let_go}

abbrev key : UseCount → ℕ
key u = u.fd

pub has-number : (c : ℕ) (xs : List UseCount) → has_key key c xs ≡ is_in c (counted_numbers xs)
has-number c [] = refl
has-number c (x ∷ xs) = ap (λ b. (x.fd == c) || b) (has-number c xs)

there : (c : ℕ) (front : List UseCount) (x : UseCount) (back : List UseCount) → x.fd ≡ c → is_in c (counted_numbers (front ++ x ∷ back)) ≡ true
there c [] x back e = or_left (x.fd == c) (is_in c (counted_numbers back)) (eq-eqb x.fd c e)
there c (y ∷ front) x back e = or_right (y.fd == c) (is_in c (counted_numbers (front ++ x ∷ back))) (there c front x back e)

-- no other one has its number
apart : (c : ℕ) (front : List UseCount) (x : UseCount) (back : List UseCount) → distinct (counted_numbers (front ++ x ∷ back)) ≡ true → x.fd ≡ c
    → (has_key key c front ≡ false) × (has_key key c back ≡ false)
apart c [] x back h e =
    let parts = and_parts (not (is_in x.fd (counted_numbers back))) (distinct (counted_numbers back)) h in
    (refl, has-number c back ∙ subst (λ n. is_in n (counted_numbers back) ≡ false) e (apart_from (is_in x.fd (counted_numbers back)) parts.0))
apart c (y ∷ front) x back h e =
    let parts = and_parts (not (is_in y.fd (counted_numbers (front ++ x ∷ back)))) (distinct (counted_numbers (front ++ x ∷ back))) h in
    let rest = apart c front x back parts.1 e in
    let out = apart_from (is_in y.fd (counted_numbers (front ++ x ∷ back))) parts.0 in (
      neither (y.fd == c) (has_key key c front)
          (false_where (y.fd == c) (λ same. clash (is_in y.fd (counted_numbers (front ++ x ∷ back)))
          (there y.fd front x back (e ∙ sym (eqb-true y.fd c same))) out)) rest.0,
      rest.1,
    )

-- what an edit leaves of those with other numbers
map_others : (f : UseCount → UseCount) (c : ℕ) (xs : List UseCount) → ((u : UseCount) → (u.fd == c) ≡ false → f u ≡ u) → has_key key c xs ≡ false
    → map f xs ≡ xs
map_others f c [] keeps h = refl
map_others f c (x ∷ xs) keeps h =
    let parts = or_parts (x.fd == c) (has_key key c xs) h in
    ap (λ (y : UseCount). y ∷ map f xs) (keeps x parts.0) ∙ ap (λ (ys : List UseCount). x ∷ ys) (map_others f c xs keeps parts.1)

filter_others : (c : ℕ) (xs : List UseCount) → has_key key c xs ≡ false → filter (λ (u : UseCount). not (u.fd == c)) xs ≡ xs
filter_others c [] h = refl
filter_others c (x ∷ xs) h =
    let parts = or_parts (x.fd == c) (has_key key c xs) h in rw parts.0 (ap (λ (ys : List UseCount). x ∷ ys) (filter_others c xs parts.1))

map_here : (f : UseCount → UseCount) (c : ℕ) (front : List UseCount) (x : UseCount) (back : List UseCount)
    → ((u : UseCount) → (u.fd == c) ≡ false → f u ≡ u) → has_key key c front ≡ false → has_key key c back ≡ false
    → map f (front ++ x ∷ back) ≡ front ++ f x ∷ back
map_here f c [] x back keeps h g = ap (λ (ys : List UseCount). f x ∷ ys) (map_others f c back keeps g)
map_here f c (y ∷ front) x back keeps h g =
    let parts = or_parts (y.fd == c) (has_key key c front) h in
    ap (λ (z : UseCount). z ∷ map f (front ++ x ∷ back)) (keeps y parts.0)
    ∙ ap (λ (ys : List UseCount). y ∷ ys) (map_here f c front x back keeps parts.1 g)

filter_here : (c : ℕ) (front : List UseCount) (x : UseCount) (back : List UseCount) → x.fd ≡ c → has_key key c front ≡ false → has_key key c back ≡ false
    → filter (λ (u : UseCount). not (u.fd == c)) (front ++ x ∷ back) ≡ front ++ back
filter_here c [] x back e h g = rw (eq-eqb x.fd c e) (filter_others c back g)
filter_here c (y ∷ front) x back e h g =
    let parts = or_parts (y.fd == c) (has_key key c front) h in
    rw parts.0 (ap (λ (ys : List UseCount). y ∷ ys) (filter_here c front x back e parts.1 g))

-- the first one with the number
abbrev first_with : ℕ → UseCount → List UseCount → UseCount
first_with c d [] = d
first_with c d (u ∷ more) = if u.fd == c then u else first_with c d more

first_here : (c : ℕ) (d : UseCount) (front : List UseCount) (x : UseCount) (back : List UseCount) → x.fd ≡ c → has_key key c front ≡ false
    → first_with c d (front ++ x ∷ back) ≡ x
first_here c d [] x back e h = rw (eq-eqb x.fd c e) refl
first_here c d (y ∷ front) x back e h =
    let parts = or_parts (y.fd == c) (has_key key c front) h in rw parts.0 (first_here c d front x back e parts.1)

module _ (c : ℕ) (old : List UseCount) (once : distinct (counted_numbers old) ≡ true) where
  others : (x : UseCount) (s : StandsIn key c old x) → (has_key key c s.front ≡ false) × (has_key key c s.back ≡ false)
  others x s = apart c s.front x s.back (subst (λ (l : List UseCount). distinct (counted_numbers l) ≡ true) s.is once) s.has

  one_stands : (x y : UseCount) → StandsIn key c old x → StandsIn key c old y → x ≡ y
  one_stands x y s t =
      sym (first_here c x s.front x s.back s.has (others x s).0) ∙ ap (first_with c x) (sym s.is ∙ t.is)
      ∙ first_here c x t.front y t.back t.has (others y t).0

  has_it : (x : UseCount) → StandsIn key c old x → has_key key c old ≡ true
  has_it x s = has-number c old ∙ ap (λ (l : List UseCount). is_in c (counted_numbers l)) s.is ∙ there c s.front x s.back s.has

  replaced_at : (f : UseCount → UseCount) (found entry : UseCount) (new : List UseCount) → StandsIn key c old found
      → ((u : UseCount) → (u.fd == c) ≡ false → f u ≡ u) → entry ≡ f found
      → ((x : UseCount) × (s : StandsIn key c old x) × (new ≡ s.front ++ entry ∷ s.back)) → new ≡ map f old
  replaced_at f found entry new stands keeps is done =
      let s = done.1 in
      let o = others done.0 s in
      done.2 ∙ ap (λ (e : UseCount). s.front ++ e ∷ s.back) (is ∙ ap f (one_stands found done.0 stands s))
      ∙ sym (ap (map f) s.is ∙ map_here f c s.front done.0 s.back keeps o.0 o.1)

  pub absent-is : (f : UseCount → UseCount) → ((u : UseCount) → (u.fd == c) ≡ false → f u ≡ u) → has_key key c old ≡ false → old ≡ map f old
  absent-is f keeps none = sym (map_others f c old keeps none)

  pub removed-is : (x : UseCount) (new : List UseCount) → (s : StandsIn key c old x) → new ≡ s.front ++ s.back
      → new ≡ filter (λ (u : UseCount). not (u.fd == c)) old
  removed-is x new s is =
      let o = others x s in
      is ∙ sym (ap (filter (λ (u : UseCount). not (u.fd == c))) s.is ∙ filter_here c s.front x s.back s.has o.0 o.1)

  pub unfound-is : has_key key c old ≡ false → old ≡ filter (λ (u : UseCount). not (u.fd == c)) old
  unfound-is none = sym (filter_others c old none)

  -- whether it is let go
  pub let-go-found : (x : UseCount) → StandsIn key c old x → is_unused x ≡ is_let_go c old
  let-go-found x s =
      let o = others x s in
      sym (ap (is_let_go c) s.is ∙ let_go_here s.front o.0 o.1)
    where
      let_go_others : (xs : List UseCount) → has_key key c xs ≡ false → is_let_go c xs ≡ false
      let_go_others [] h = refl
      let_go_others (y ∷ xs) h = let parts = or_parts (y.fd == c) (has_key key c xs) h in rw parts.0 (let_go_others xs parts.1)

      or_none : (b : Bool) → (b || false) ≡ b
      or_none b = grind arith

      let_go_here : (front : List UseCount) → has_key key c front ≡ false → has_key key c s.back ≡ false → is_let_go c (front ++ x ∷ s.back) ≡ is_unused x
      let_go_here [] h g = rw (eq-eqb x.fd c s.has, let_go_others s.back g) (or_none (is_unused x))
      let_go_here (y ∷ front) h g = let parts = or_parts (y.fd == c) (has_key key c front) h in rw parts.0 (let_go_here front parts.1 g)

pub let-go-none : (c : ℕ) (xs : List UseCount) → has_key key c xs ≡ false → is_let_go c xs ≡ false
let-go-none c [] h = refl
let-go-none c (y ∷ xs) h = let parts = or_parts (y.fd == c) (has_key key c xs) h in rw parts.0 (let-go-none c xs parts.1)

-- one that is found is replaced
pub replaced-is : (c : ℕ) (old : List UseCount) → distinct (counted_numbers old) ≡ true → (f : UseCount → UseCount) (found entry : UseCount) (did : Bool)
    (new : List UseCount) → StandsIn key c old found
    → ((u : UseCount) → (u.fd == c) ≡ false → f u ≡ u) → entry ≡ f found → c ≡ entry.fd
    → OnTrue did ((x : UseCount) × (s : StandsIn key entry.fd old x) × (new ≡ s.front ++ entry ∷ s.back))
    → OnFalse did (has_key key entry.fd old ≡ false) → new ≡ map f old
replaced-is c old once f found entry true new stands keeps is same done none =
    replaced_at entry.fd old once f found entry new (subst (λ n. StandsIn key n old found) same stands)
    (subst (λ n. (u : UseCount) → (u.fd == n) ≡ false → f u ≡ u) same keeps) is done
replaced-is c old once f found entry false new stands keeps is same done none =
    absurd (clash (has_key key entry.fd old) (has_it entry.fd old once found (subst (λ n. StandsIn key n old found) same stands)) none)

-- one that was there is gone
pub removed-either : (c : ℕ) (old new : List UseCount × ℕ) → distinct (counted_numbers (old.0)) ≡ true → (r : Option UseCount)
    → IfSome r (λ x. (s : StandsIn key c (old.0) x) × (new.0 ≡ s.front ++ s.back)) → IfNone r (has_key key c (old.0) ≡ false) → IfNone r (new ≡ old)
    → new.0 ≡ filter (λ (u : UseCount). not (u.fd == c)) (old.0)
removed-either c old new once (Some x) removed absent same = removed-is c (old.0) once x (new.0) removed.0 removed.1
removed-either c old new once None removed absent same = ap (λ (x : List UseCount × ℕ). x.0) same ∙ unfound-is c (old.0) once absent

-- the numbers of the edited list
pub numbers-put : (x : UseCount) (xs : List UseCount) → counted_numbers (put_by key x xs) ≡ put_number x.fd (counted_numbers xs)
numbers-put x [] = refl
numbers-put x (y ∷ xs) = elim (cases_Bool (nat_lt x.fd y.fd)) [
  | inl below ↦ rw below refl
  | inr above ↦ rw above (ap (λ ns. y.fd ∷ ns) (numbers-put x xs))
]

pub once-put : (x : UseCount) (xs : List UseCount) → is_in x.fd (counted_numbers xs) ≡ false → distinct (counted_numbers xs) ≡ true
    → distinct (counted_numbers (put_by key x xs)) ≡ true
once-put x xs new once = ap distinct (numbers-put x xs) ∙ distinct-put x.fd (counted_numbers xs) new once

-- what changes each count, and no number, changes the one that is put in, too
put_changed : (f : UseCount → UseCount) (x : UseCount) (xs : List UseCount)
    → ((u w : UseCount) → nat_lt (f u).fd (f w).fd ≡ nat_lt u.fd w.fd)
    → map f (put_by key x xs) ≡ put_by key (f x) (map f xs)
put_changed f x [] same = refl
put_changed f x (y ∷ xs) same = elim (cases_Bool (nat_lt x.fd y.fd)) [
  | inl below ↦ rw (below, same x y ∙ below) refl
  | inr above ↦ rw (above, same x y ∙ above) (ap (λ (ys : List UseCount). f y ∷ ys) (put_changed f x xs same))
]

filter_in : (f : UseCount → Bool) (n : ℕ) (xs : List UseCount) → is_in n (counted_numbers xs) ≡ false → is_in n (counted_numbers (filter f xs)) ≡ false
filter_in f n [] h = refl
filter_in f n (x ∷ xs) h = let parts = or_parts (x.fd == n) (is_in n (counted_numbers xs)) h in elim (cases_Bool (f x)) [
  | inl y ↦ rw y (neither (x.fd == n) (is_in n (counted_numbers (filter f xs))) parts.0 (filter_in f n xs parts.1))
  | inr m ↦ rw m (filter_in f n xs parts.1)
]

pub once-filter : (f : UseCount → Bool) (xs : List UseCount) → distinct (counted_numbers xs) ≡ true → distinct (counted_numbers (filter f xs)) ≡ true
once-filter f [] h = refl
once-filter f (x ∷ xs) h =
    let parts = and_parts (not (is_in x.fd (counted_numbers xs))) (distinct (counted_numbers xs)) h in
    elim (cases_Bool (f x)) [
      | inl y ↦ rw y (and_from (not (is_in x.fd (counted_numbers (filter f xs)))) (distinct (counted_numbers (filter f xs)))
          (not_in (is_in x.fd (counted_numbers (filter f xs))) (filter_in f x.fd xs (apart_from (is_in x.fd (counted_numbers xs)) parts.0)))
          (once-filter f xs parts.1))
      | inr m ↦ rw m (once-filter f xs parts.1)
    ]

-- a share of another descriptor leaves the count
one_off : (b c : Bool) → c ≡ false → one (b && c) ≡ 0
one_off true c h = ap one h
one_off false c h = refl

pub lowered-other : (x : Share) (u : UseCount) → (u.fd == x.fd) ≡ false → lowered (Some x) u ≡ u
lowered-other x u ne =
    ap (λ (k : ℕ). record { fd = u.fd; holders = k; users = u.users - one (has_use u.fd (Some x)) }) (plain u.holders (one (has_hold u.fd (Some x)))
    (one_off x.holds (x.fd == u.fd) swap))
    ∙ ap (λ (k : ℕ). record { fd = u.fd; holders = u.holders; users = k }) (plain u.users (one (has_use u.fd (Some x))) (one_off x.uses (x.fd == u.fd) swap))
  where
    swap : (x.fd == u.fd) ≡ false
    swap = false_where (x.fd == u.fd) (λ e. clash (u.fd == x.fd) (eq-eqb u.fd x.fd (sym (eqb-true x.fd u.fd e))) ne)

    plain : (k o : ℕ) → o ≡ 0 → k - o ≡ k
    plain k o e = omega arith

pub raised-other : (x : Share) (u : UseCount) → (u.fd == x.fd) ≡ false → raised (Some x) u ≡ u
raised-other x u ne =
    ap (λ (k : ℕ). record { fd = u.fd; holders = k; users = u.users + one (has_use u.fd (Some x)) }) (plain u.holders (one (has_hold u.fd (Some x)))
    (one_off x.holds (x.fd == u.fd) swap))
    ∙ ap (λ (k : ℕ). record { fd = u.fd; holders = u.holders; users = k }) (plain u.users (one (has_use u.fd (Some x))) (one_off x.uses (x.fd == u.fd) swap))
  where
    swap : (x.fd == u.fd) ≡ false
    swap = false_where (x.fd == u.fd) (λ e. clash (u.fd == x.fd) (eq-eqb u.fd x.fd (sym (eqb-true x.fd u.fd e))) ne)

    plain : (k o : ℕ) → o ≡ 0 → k + o ≡ k
    plain k o e = omega arith

lowered_numbers : (was : Option Share) (xs : List UseCount) → counted_numbers (map (lowered was) xs) ≡ counted_numbers xs
lowered_numbers was [] = refl
lowered_numbers was (u ∷ xs) = ap (λ ns. u.fd ∷ ns) (lowered_numbers was xs)

pub once-shared : (was : Option Share) (x : UseCount) (old low : List UseCount) → is_in x.fd (counted_numbers old) ≡ false → low ≡ map (lowered was) old
    → distinct (counted_numbers low) ≡ true → distinct (counted_numbers (put_by key x low)) ≡ true
once-shared was x old low none lower = once-put x low (ap (λ (l : List UseCount). is_in x.fd (counted_numbers l)) lower
    ∙ ap (is_in x.fd) (lowered_numbers was old) ∙ none)

-- a descriptor that is put in with a share of one endpoint, as what that endpoint had before goes
pub put-shared : (was : Option Share) (is : Share) (old low new : List UseCount) → is_in is.fd (counted_numbers old) ≡ false → low ≡ map (lowered was) old
    → new ≡ put_by key (record { fd = is.fd; holders = one is.holds; users = one is.uses }) low
    → new ≡ map (raised (Some is)) (map (lowered was) (put_by key (unused is.fd) old))
put-shared was is old low new none lower put =
    put ∙ ap (put_by key (record { fd = is.fd; holders = one is.holds; users = one is.uses })) (lower ∙ sym others)
    ∙ ap (λ (x : UseCount). put_by key x (map (raised (Some is)) (map (lowered was) old))) (sym here)
    ∙ sym (put_changed (raised (Some is)) (lowered was (unused is.fd)) (map (lowered was) old) (λ u w. refl))
    ∙ ap (map (raised (Some is))) (sym (put_changed (lowered was) (unused is.fd) old (λ u w. refl)))
  where
    others : map (raised (Some is)) (map (lowered was) old) ≡ map (lowered was) old
    others = map_others (raised (Some is)) is.fd (map (lowered was) old) (raised-other is)
        (has-number is.fd (map (lowered was) old) ∙ ap (is_in is.fd) (lowered_numbers was old) ∙ none)

    and_on : (b c : Bool) → c ≡ true → (b && c) ≡ b
    and_on b c h = grind arith

    rise : (k : ℕ) (b c : Bool) → c ≡ true → 0 - k + one (b && c) ≡ one b
    rise k b c h = let e = ap one (and_on b c h) in omega (arith, e)

    here : raised (Some is) (lowered was (unused is.fd)) ≡ record { fd = is.fd; holders = one is.holds; users = one is.uses }
    here =
        ap (λ (k : ℕ). record { fd = is.fd; holders = k; users = 0 - one (has_use is.fd was) + one (is.uses && is.fd == is.fd) })
        (rise (one (has_hold is.fd was)) is.holds (is.fd == is.fd) (eq-eqb is.fd is.fd refl))
        ∙ ap (λ (k : ℕ). record { fd = is.fd; holders = one is.holds; users = k })
        (rise (one (has_use is.fd was)) is.uses (is.fd == is.fd) (eq-eqb is.fd is.fd refl))

-- so does none
pub lowered-none : (xs : List UseCount) → xs ≡ map (lowered None) xs
lowered-none [] = refl
lowered-none (u ∷ xs) =
    ap (λ (k : ℕ). record { fd = u.fd; holders = k; users = u.users } ∷ xs) (plain u.holders)
    ∙ ap (λ (k : ℕ). record { fd = u.fd; holders = u.holders - 0; users = k } ∷ xs) (plain u.users)
    ∙ ap (λ (w : List UseCount). lowered None u ∷ w) (lowered-none xs)
  where
    plain : (k : ℕ) → k ≡ k - 0
    plain k = omega arith

pub raised-none : (xs : List UseCount) → xs ≡ map (raised None) xs
raised-none [] = refl
raised-none (u ∷ xs) =
    ap (λ (k : ℕ). record { fd = u.fd; holders = k; users = u.users } ∷ xs) (plain u.holders)
    ∙ ap (λ (k : ℕ). record { fd = u.fd; holders = u.holders + 0; users = k } ∷ xs) (plain u.users)
    ∙ ap (λ (w : List UseCount). raised None u ∷ w) (raised-none xs)
  where
    plain : (k : ℕ) → k ≡ k + 0
    plain k = omega arith

-- the counts stay small, as they get smaller
pub few-lowered : (x : Option Share) (xs : List UseCount) → are_few xs ≡ true → are_few (map (lowered x) xs) ≡ true
few-lowered x [] h = refl
few-lowered x (u ∷ xs) h =
    let parts = and_parts (nat_le u.holders 65536 && nat_le u.users 65536) (are_few xs) h in
    let both = and_parts (nat_le u.holders 65536) (nat_le u.users 65536) parts.0 in
    and_from (nat_le (u.holders - one (has_hold u.fd x)) 65536 && nat_le (u.users - one (has_use u.fd x)) 65536) (are_few (map (lowered x) xs))
    (and_from (nat_le (u.holders - one (has_hold u.fd x)) 65536) (nat_le (u.users - one (has_use u.fd x)) 65536)
    (less u.holders (one (has_hold u.fd x)) both.0) (less u.users (one (has_use u.fd x)) both.1)) (few-lowered x xs parts.1)
  where
    less : (c o : ℕ) → nat_le c 65536 ≡ true → nat_le (c - o) 65536 ≡ true
    less c o h = let le = leb-true c 65536 h in le-leb (c - o) 65536 (omega arith)

pub filter-length : (f : UseCount → Bool) (xs : List UseCount) → length (filter f xs) ≤ length xs
filter-length f [] = omega arith
filter-length f (x ∷ xs) = let h = filter-length f xs in elim (cases_Bool (f x)) [
  | inl y ↦ rw y (omega (arith, h))
  | inr n ↦ rw n (omega (arith, h))
]
