-- What a record opened, by numbers and addresses.
use Rattle.std.proofs.Common.{ℕ, Bool, true, false, ◌||◌, ◌&&◌, ◌==◌, not, inl, inr, List, [], ◌∷◌, ◌++◌, ◌≡◌, refl, ap, sym, ◌∙◌, subst, arith, Option, None, length, map, filter, if◌then◌else◌}
use Rattle.std.specs.List.{list_any}
use Rattle.std.proofs.lemmas.Bool.{cases_Bool, and_parts, and_from, or_cases, or_left, or_right, eqb-true}
use Rattle.std.proofs.lemmas.List.Folds.{list_any-append}
use Rattle.svc_record.specs.declared.plan.Plan.{Plan}
use Rattle.svc_record.specs.declared.entry.Entry.{Entry}
use Rattle.svc_record.specs.declared.entry.Entry.TheVariants.{Got, Told}
use Rattle.svc_record.specs.declared.event.Event.TheVariants.{Bound, Received}
use Rattle.svc_record.specs.Record.{Record, has}
use Rattle.svc_record.specs.Plans.{same_address}
use Rattle.svc_record.specs.Descriptors.{Descriptor, descriptors_of, opened_descriptors, live_numbers_with, has_live, is_opened, is_close, is_doubled, address_of, has_number, words_or_none, numbers_of, brings}
use Rattle.svc_record.specs.Message.{decode}
use Rattle.svc_record.specs.Closes.{is_received}
use Rattle.svc_record.specs.Drain.{live_numbers}
use Rattle.svc_record.specs.Tail.{numbers_in}
use Rattle.svc_base.specs.NumberSets.{is_in, distinct}
use Rattle.svc_endpoints.proofs.WordLemmas.{numbers-words}
use Rattle.svc_endpoints.proofs.LiveLemmas.{same_eq}
use Rattle.svc_base.proofs.Logic.{apart_from, clash}

-- what an entry opens are its numbers
opened-numbers_of : (p : Plan) (e : Entry) (more : List Descriptor)
    → map (λ (d : Descriptor). d.number) (descriptors_of p e ++ more) ≡ numbers_of e ++ map (λ (d : Descriptor). d.number) more
opened-numbers_of p (Got (Bound s i fd)) more = refl
opened-numbers_of p (Got (Received bytes fds)) more = numbers-words fds (words_or_none (decode bytes (length fds))) more
opened-numbers_of p (Got _) more = refl
opened-numbers_of p (Told a) more = refl

pub opened-numbers : (p : Plan) (q : Record) → map (λ (d : Descriptor). d.number) (opened_descriptors p q) ≡ numbers_in q
opened-numbers p [] = refl
opened-numbers p (e ∷ q) = opened-numbers_of p e (opened_descriptors p q) ∙ ap (λ xs. numbers_of e ++ xs) (opened-numbers p q)

any-numbers : (fd : ℕ) (ds : List Descriptor) → list_any (has_number fd) ds ≡ is_in fd (map (λ (d : Descriptor). d.number) ds)
any-numbers fd [] = refl
any-numbers fd (d ∷ more) = ap (λ b. (d.number == fd) || b) (any-numbers fd more)

pub opened-in : (p : Plan) (q : Record) (fd : ℕ) → is_opened p q fd ≡ is_in fd (numbers_in q)
opened-in p q fd = any-numbers fd (opened_descriptors p q) ∙ ap (is_in fd) (opened-numbers p q)

pub brings-in : (q : Record) (fd : ℕ) → has (brings fd) q ≡ is_in fd (numbers_in q)
brings-in [] fd = refl
brings-in (e ∷ q) fd = ap (λ b. brings fd e || b) (brings-in q fd) ∙ sym (list_any-append (λ n. n == fd) (numbers_of e) (numbers_in q))

-- what is doubled was opened
opens_here : (fd : ℕ) (f : Descriptor → Bool) (xs more : List Descriptor) → list_any (λ (d : Descriptor). d.number == fd && f d) xs ≡ true
    → list_any (has_number fd) (xs ++ more) ≡ true
opens_here fd f [] more h = absurd (cc)
opens_here fd f (x ∷ xs) more h = elim (or_cases (x.number == fd && f x) (list_any (λ (d : Descriptor). d.number == fd && f d) xs) h) [
  | inl here ↦ or_left (x.number == fd) (list_any (has_number fd) (xs ++ more)) (and_parts (x.number == fd) (f x) here).0
  | inr later ↦ or_right (x.number == fd) (list_any (has_number fd) (xs ++ more)) (opens_here fd f xs more later)
]

pub opens-later : (fd : ℕ) (xs more : List Descriptor) → list_any (has_number fd) more ≡ true → list_any (has_number fd) (xs ++ more) ≡ true
opens-later fd [] more h = h
opens-later fd (x ∷ xs) more h = or_right (x.number == fd) (list_any (has_number fd) (xs ++ more)) (opens-later fd xs more h)

pub doubled-opened : (p : Plan) (q : Record) (fd : ℕ) → is_doubled p q fd ≡ true → is_opened p q fd ≡ true
doubled-opened p [] fd h = h
doubled-opened p (e ∷ q) fd h =
    elim (or_cases (list_any (λ (d : Descriptor). d.number == fd && has_live p q d.address) (descriptors_of p e)) (is_doubled p q fd) h) [
      | inl now ↦ opens_here fd (λ (d : Descriptor). has_live p q d.address) (descriptors_of p e) (opened_descriptors p q) now
      | inr earlier ↦ opens-later fd (descriptors_of p e) (opened_descriptors p q) (doubled-opened p q fd earlier)
    ]

-- what was received was opened
pub received-opened : (p : Plan) (q : Record) (fd : ℕ) → is_received p q fd ≡ true → is_opened p q fd ≡ true
received-opened p q fd h = opened_of (opened_descriptors p q) h
  where
    opened_of : (xs : List Descriptor) → list_any (λ (d : Descriptor). d.number == fd && d.received) xs ≡ true → list_any (has_number fd) xs ≡ true
    opened_of [] e = e
    opened_of (x ∷ xs) e = elim (or_cases (x.number == fd && x.received) (list_any (λ (d : Descriptor). d.number == fd && d.received) xs) e) [
      | inl here ↦ or_left (x.number == fd) (list_any (has_number fd) xs) (and_parts (x.number == fd) x.received here).0
      | inr later ↦ or_right (x.number == fd) (list_any (has_number fd) xs) (opened_of xs later)
    ]

-- the first with the number, which `address_of` reads
abbrev pub first_address : ℕ → List Descriptor → Option (List ℕ)
first_address fd [] = None
first_address fd (x ∷ more) = if x.number == fd then x.address else first_address fd more

-- the number has this address among them
abbrev pub has_pair : ℕ → Option (List ℕ) → List Descriptor → Bool
has_pair fd a xs = list_any (λ (d : Descriptor). d.number == fd && same_address d.address a) xs

pair_in : (fd : ℕ) (a : Option (List ℕ)) (xs : List Descriptor) → has_pair fd a xs ≡ true → is_in fd (map (λ (d : Descriptor). d.number) xs) ≡ true
pair_in fd a [] h = h
pair_in fd a (x ∷ xs) h = elim (or_cases (x.number == fd && same_address x.address a) (has_pair fd a xs) h) [
  | inl here ↦ or_left (x.number == fd) (is_in fd (map (λ (d : Descriptor). d.number) xs)) (and_parts (x.number == fd) (same_address x.address a) here).0
  | inr later ↦ or_right (x.number == fd) (is_in fd (map (λ (d : Descriptor). d.number) xs)) (pair_in fd a xs later)
]

-- where no number stands twice, a number has one address
pub first-is : (fd : ℕ) (a : Option (List ℕ)) (xs : List Descriptor) → distinct (map (λ (d : Descriptor). d.number) xs) ≡ true → has_pair fd a xs ≡ true
    → first_address fd xs ≡ a
first-is fd a [] apart h = absurd (cc)
first-is fd a (x ∷ xs) apart h =
    let parts = and_parts (not (is_in x.number (map (λ (d : Descriptor). d.number) xs))) (distinct (map (λ (d : Descriptor). d.number) xs)) apart in
    elim (or_cases (x.number == fd && same_address x.address a) (has_pair fd a xs) h) [
      | inl here ↦ (let both = and_parts (x.number == fd) (same_address x.address a) here in rw both.0 (same_eq x.address a both.1))
      | inr later ↦ elim (cases_Bool (x.number == fd)) [
        | inl y ↦ absurd
            (let there = subst (λ n. is_in n (map (λ (d : Descriptor). d.number) xs) ≡ true) (sym (eqb-true x.number fd y)) (pair_in fd a xs later) in
            let none = apart_from (is_in x.number (map (λ (d : Descriptor). d.number) xs)) parts.0 in
            clash (is_in x.number (map (λ (d : Descriptor). d.number) xs)) there none)
        | inr n ↦ rw n (first-is fd a xs parts.1 later)
      ]
    ]

-- what is live with an address was opened with it, and isn't closed
live_pair : (fd : ℕ) (q : Record) (a : Option (List ℕ)) (xs : List Descriptor)
    → is_in fd (map (λ (x : Descriptor). x.number)
    (filter (λ (x : Descriptor). same_address x.address a) (filter (λ (x : Descriptor). not (has (is_close x.number) q)) xs))) ≡ true
    → (has_pair fd a xs ≡ true) × (has (is_close fd) q ≡ false)
live_pair fd q a [] h = absurd (cc)
live_pair fd q a (x ∷ xs) h = elim (cases_Bool (has (is_close x.number) q)) [
  | inl c ↦ (let r = live_pair fd q a xs (rw c at h) in (or_right (x.number == fd && same_address x.address a) (has_pair fd a xs) r.0, r.1))
  | inr o ↦ elim (cases_Bool (same_address x.address a)) [
    | inr n ↦ (let r = live_pair fd q a xs (rw (o, n) at h) in (or_right (x.number == fd && same_address x.address a) (has_pair fd a xs) r.0, r.1))
    | inl s ↦ elim (or_cases (x.number == fd)
        (is_in fd (map (λ (x : Descriptor). x.number)
        (filter (λ (x : Descriptor). same_address x.address a) (filter (λ (x : Descriptor). not (has (is_close x.number) q)) xs)))) (rw (o, s) at h)) [
          | inl here ↦ (
            or_left (x.number == fd && same_address x.address a) (has_pair fd a xs) (and_from (x.number == fd) (same_address x.address a) here s),
            subst
                (λ n. has (is_close n) q ≡ false) (eqb-true x.number fd here) o,
          )
          | inr later ↦ (let r = live_pair fd q a xs later in (or_right (x.number == fd && same_address x.address a) (has_pair fd a xs) r.0, r.1))
        ]
  ]
]

pub live-pair : (p : Plan) (q : Record) (fd : ℕ) (a : Option (List ℕ)) → is_in fd (live_numbers_with p q a) ≡ true
    → (has_pair fd a (opened_descriptors p q) ≡ true) × (has (is_close fd) q ≡ false)
live-pair p q fd a h = live_pair fd q a (opened_descriptors p q) h

pub live-opened : (p : Plan) (q : Record) (fd : ℕ) (a : Option (List ℕ)) → is_in fd (live_numbers_with p q a) ≡ true → is_opened p q fd ≡ true
live-opened p q fd a h = any-numbers fd (opened_descriptors p q) ∙ pair_in fd a (opened_descriptors p q) (live-pair p q fd a h).0

pub live-address : (p : Plan) (q : Record) (fd : ℕ) (a : Option (List ℕ)) → distinct (numbers_in q) ≡ true → is_in fd (live_numbers_with p q a) ≡ true
    → address_of p q fd ≡ a
live-address p q fd a apart h = first-is fd a (opened_descriptors p q) (ap distinct (opened-numbers p q) ∙ apart) (live-pair p q fd a h).0

-- no live number stands twice
live_distinct : (f : Descriptor → Bool) (xs : List Descriptor) → distinct (map (λ (d : Descriptor). d.number) xs) ≡ true
    → distinct (map (λ (d : Descriptor). d.number) (filter f xs)) ≡ true
live_distinct f [] h = refl
live_distinct f (x ∷ xs) h =
    let parts = and_parts (not (is_in x.number (map (λ (d : Descriptor). d.number) xs))) (distinct (map (λ (d : Descriptor). d.number) xs)) h in
    elim (cases_Bool (f x)) [
      | inr n ↦ rw n (live_distinct f xs parts.1)
      | inl y ↦ rw y
          (and_from (not (is_in x.number (map (λ (d : Descriptor). d.number) (filter f xs)))) (distinct (map (λ (d : Descriptor). d.number) (filter f xs)))
          (fewer x.number xs (is_in x.number (map (λ (d : Descriptor). d.number) (filter f xs))) refl parts.0) (live_distinct f xs parts.1))
    ]
  where
    in_more : (n : ℕ) (xs : List Descriptor) → is_in n (map (λ (d : Descriptor). d.number) (filter f xs)) ≡ true
        → is_in n (map (λ (d : Descriptor). d.number) xs) ≡ true
    in_more n [] h = h
    in_more n (x ∷ xs) h = elim (cases_Bool (f x)) [
      | inr m ↦ or_right (x.number == n) (is_in n (map (λ (d : Descriptor). d.number) xs)) (in_more n xs (rw m at h))
      | inl y ↦ elim (or_cases (x.number == n) (is_in n (map (λ (d : Descriptor). d.number) (filter f xs))) (rw y at h)) [
        | inl here ↦ or_left (x.number == n) (is_in n (map (λ (d : Descriptor). d.number) xs)) here
        | inr later ↦ or_right (x.number == n) (is_in n (map (λ (d : Descriptor). d.number) xs)) (in_more n xs later)
      ]
    ]

    not_both : (b : Bool) → b ≡ true → not b ≡ true → ⊥
    not_both b x y = grind arith

    fewer : (n : ℕ) (xs : List Descriptor) (b : Bool) → is_in n (map (λ (d : Descriptor). d.number) (filter f xs)) ≡ b
        → not (is_in n (map (λ (d : Descriptor). d.number) xs)) ≡ true → not b ≡ true
    fewer n xs true e h = absurd (not_both (is_in n (map (λ (d : Descriptor). d.number) xs)) (in_more n xs e) h)
    fewer n xs false e h = refl

pub live-distinct : (p : Plan) (q : Record) → distinct (numbers_in q) ≡ true → distinct (live_numbers p q) ≡ true
live-distinct p q h = live_distinct (λ (d : Descriptor). not (has (is_close d.number) q)) (opened_descriptors p q) (ap distinct (opened-numbers p q) ∙ h)

live_listed : (q : Record) (fd : ℕ) (xs : List Descriptor)
    → is_in fd (map (λ (d : Descriptor). d.number) (filter (λ (d : Descriptor). not (has (is_close d.number) q)) xs))
    ≡ (list_any (has_number fd) xs && not (has (is_close fd) q))
live_listed q fd [] = refl
live_listed q fd (x ∷ xs) = elim (cases_Bool (has (is_close x.number) q)) [
  | inl c ↦ rw c
      (live_listed q fd xs
      ∙ skip (x.number == fd) (list_any (has_number fd) xs) (has (is_close fd) q) (λ e. subst (λ n. has (is_close n) q ≡ true) (eqb-true x.number fd e) c))
  | inr o ↦ rw o
      (ap (λ b. (x.number == fd) || b) (live_listed q fd xs)
      ∙ here (x.number == fd) (list_any (has_number fd) xs) (has (is_close fd) q) (λ e. subst (λ n. has (is_close n) q ≡ false) (eqb-true x.number fd e) o))
]
  where
    skip : (a b c : Bool) → (a ≡ true → c ≡ true) → (b && not c) ≡ ((a || b) && not c)
    skip true b c f = rw (f refl) (none b)
      where
        none : (b : Bool) → (b && false) ≡ (true && false)
        none b = grind arith
    skip false b c f = refl

    here : (a b c : Bool) → (a ≡ true → c ≡ false) → (a || (b && not c)) ≡ ((a || b) && not c)
    here true b c f = rw (f refl) refl
    here false b c f = refl

-- live is what was opened and isn't closed
pub live-is : (p : Plan) (q : Record) (fd : ℕ) → is_in fd (live_numbers p q) ≡ (is_opened p q fd && not (has (is_close fd) q))
live-is p q fd = live_listed q fd (opened_descriptors p q)
