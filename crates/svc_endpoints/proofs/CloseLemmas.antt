-- What told closes leave of a record.
use Rattle.std.proofs.Common.{ℕ, Bool, true, false, ◌||◌, ◌==◌, not, inl, inr, List, [], ◌∷◌, ◌≡◌, refl, ap, sym, ◌∙◌, subst, arith, Option, map, filter}
use Rattle.std.proofs.lemmas.Bool.{cases_Bool, and_parts, and_from, or_left, or_right, eq-eqb, ne_eqb}
use Rattle.svc_record.specs.declared.plan.Plan.{Plan}
use Rattle.svc_record.specs.declared.entry.Entry.TheVariants.{Told}
use Rattle.svc_record.specs.declared.action.Action.TheVariants.{Close}
use Rattle.svc_record.specs.Record.{Record, has, tell, EachEntry}
use Rattle.svc_record.specs.Plans.{same_address}
use Rattle.svc_record.specs.Descriptors.{Descriptor, opened_descriptors, live_descriptors, live_numbers_with, is_opened, is_close}
use Rattle.svc_record.specs.Drain.{live_numbers}
use Rattle.svc_record.specs.Closes.{close_once}
use Rattle.svc_base.specs.NumberSets.{is_in, distinct}
use Rattle.svc_base.proofs.Logic.{apart_from, not_in, neither, clash}
use Rattle.svc_endpoints.proofs.UseLemmas.{or_none}

-- what one close leaves, many leave
pub along-closes : (P : Record → Type 0) → ((q : Record) (n : ℕ) → P q → P (Told (Close n) ∷ q)) → (q : Record) (ns : List ℕ) → P q → P (tell q (map Close ns))
along-closes P step q [] h = h
along-closes P step q (n ∷ ns) h = along-closes P step (Told (Close n) ∷ q) ns (step q n h)

or_move : (a b c : Bool) → ((a || b) || c) ≡ (b || (a || c))
or_move a b c = grind arith

-- what is closed after them
pub closed-tell : (q : Record) (ns : List ℕ) (g : ℕ) → has (is_close g) (tell q (map Close ns)) ≡ (has (is_close g) q || is_in g ns)
closed-tell q [] g = or_none (has (is_close g) q)
closed-tell q (n ∷ ns) g = closed-tell (Told (Close n) ∷ q) ns g ∙ or_move (n == g) (has (is_close g) q) (is_in g ns)

pub opened-tell : (p : Plan) (q : Record) (ns : List ℕ) → opened_descriptors p (tell q (map Close ns)) ≡ opened_descriptors p q
opened-tell p q [] = refl
opened-tell p q (n ∷ ns) = opened-tell p (Told (Close n) ∷ q) ns

-- the numbers without these
abbrev pub left_out : List ℕ → List ℕ → List ℕ
left_out ns xs = filter (λ n. not (is_in n ns)) xs

filter_two : (f g h : Descriptor → Bool) → ((x : Descriptor) → h x ≡ (f x || g x)) → (xs : List Descriptor)
    → filter (λ (x : Descriptor). not (h x)) xs ≡ filter (λ (x : Descriptor). not (g x)) (filter (λ (x : Descriptor). not (f x)) xs)
filter_two f g h e [] = refl
filter_two f g h e (x ∷ xs) = elim (cases_Bool (f x)) [
  | inl y ↦ rw (e x, y) (filter_two f g h e xs)
  | inr n ↦ elim (cases_Bool (g x)) [
    | inl z ↦ rw (e x, n, z) (filter_two f g h e xs)
    | inr m ↦ rw (e x, n, m) (ap (λ w. x ∷ w) (filter_two f g h e xs))
  ]
]

pub live-tell : (p : Plan) (q : Record) (ns : List ℕ)
    → live_descriptors p (tell q (map Close ns)) ≡ filter (λ (x : Descriptor). not (is_in x.number ns)) (live_descriptors p q)
live-tell p q ns = ap (filter (λ (x : Descriptor). not (has (is_close x.number) (tell q (map Close ns))))) (opened-tell p q ns)
    ∙ filter_two (λ (x : Descriptor). has (is_close x.number) q) (λ (x : Descriptor). is_in x.number ns)
    (λ (x : Descriptor). has (is_close x.number) (tell q (map Close ns))) (λ x. closed-tell q ns x.number) (opened_descriptors p q)

numbers-out : (ns : List ℕ) (a : Option (List ℕ)) (xs : List Descriptor)
    → map (λ (x : Descriptor). x.number) (filter (λ (x : Descriptor). same_address x.address a) (filter (λ (x : Descriptor). not (is_in x.number ns)) xs))
    ≡ left_out ns (map (λ (x : Descriptor). x.number) (filter (λ (x : Descriptor). same_address x.address a) xs))
numbers-out ns a [] = refl
numbers-out ns a (x ∷ xs) = elim (cases_Bool (is_in x.number ns)) [
  | inl y ↦ elim (cases_Bool (same_address x.address a)) [
    | inl s ↦ rw (y, s, y) (numbers-out ns a xs)
    | inr n ↦ rw (y, n) (numbers-out ns a xs)
  ]
  | inr o ↦ elim (cases_Bool (same_address x.address a)) [
    | inl s ↦ rw (o, s, o) (ap (λ w. x.number ∷ w) (numbers-out ns a xs))
    | inr n ↦ rw (o, n) (numbers-out ns a xs)
  ]
]

pub with-tell : (p : Plan) (q : Record) (ns : List ℕ) (a : Option (List ℕ))
    → live_numbers_with p (tell q (map Close ns)) a ≡ left_out ns (live_numbers_with p q a)
with-tell p q ns a =
    ap (λ w. map (λ (x : Descriptor). x.number) (filter (λ (x : Descriptor). same_address x.address a) w)) (live-tell p q ns)
    ∙ numbers-out ns a (live_descriptors p q)

all-out : (ns : List ℕ) (xs : List Descriptor)
    → map (λ (x : Descriptor). x.number) (filter (λ (x : Descriptor). not (is_in x.number ns)) xs) ≡ left_out ns (map (λ (x : Descriptor). x.number) xs)
all-out ns [] = refl
all-out ns (x ∷ xs) = elim (cases_Bool (is_in x.number ns)) [
  | inl y ↦ rw y (all-out ns xs)
  | inr n ↦ rw n (ap (λ w. x.number ∷ w) (all-out ns xs))
]

pub numbers-tell : (p : Plan) (q : Record) (ns : List ℕ) → live_numbers p (tell q (map Close ns)) ≡ left_out ns (live_numbers p q)
numbers-tell p q ns = ap (map (λ (x : Descriptor). x.number)) (live-tell p q ns) ∙ all-out ns (live_descriptors p q)

-- each of them is closed once
pub once-tell : (p : Plan) (ns : List ℕ) (q : Record) → distinct ns ≡ true
    → ((g : ℕ) → is_in g ns ≡ true → (is_opened p q g ≡ true) × (has (is_close g) q ≡ false))
    → EachEntry (λ e before. close_once p e before ≡ true) q → EachEntry (λ e before. close_once p e before ≡ true) (tell q (map Close ns))
once-tell p [] q apart live h = h
once-tell p (n ∷ ns) q apart live h =
    let parts = and_parts (not (is_in n ns)) (distinct ns) apart in
    let here = live n (or_left (n == n) (is_in n ns) (eq-eqb n n refl)) in
    once-tell p ns (Told (Close n) ∷ q) parts.1
    (λ g there. (
      (live g (or_right (n == g) (is_in g ns) there)).0,
      neither (n == g) (has (is_close g) q) (other g there (apart_from (is_in n ns) parts.0)) (live g (or_right (n == g) (is_in g ns) there)).1,
    ))
    (and_from (is_opened p q n) (not (has (is_close n) q)) here.0 (not_in (has (is_close n) q) here.1), h)
  where
    other : (g : ℕ) → is_in g ns ≡ true → is_in n ns ≡ false → (n == g) ≡ false
    other g there none = ne_eqb n g (λ e. let k = subst (λ m. is_in m ns ≡ true) (sym e) there in clash (is_in n ns) k none)
