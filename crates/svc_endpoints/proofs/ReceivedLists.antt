-- What a message opens, as a list.
use Rattle.std.proofs.Common.{ℕ, Bool, true, false, ◌||◌, ◌&&◌, ◌==◌, not, inl, inr, List, [], ◌∷◌, ◌++◌, ◌≡◌, refl, ap, ◌∙◌, subst, arith, ◌≤◌, length, map, filter, Option, Some, None, bytes_eq}
use Rattle.std.specs.List.{list_any}
use Rattle.std.proofs.lemmas.Bool.{cases_Bool, and_parts, or_parts, or_left, or_right, eq-eqb, eqb-true}
use Rattle.std.proofs.lemmas.Slice.Eq.{bytes_eq-Decides}
use Rattle.svc_fds.specs.Lists.{is_among, has_repeat}
use Rattle.svc_record.specs.Record.{Record, has}
use Rattle.svc_record.specs.Plans.{same_address}
use Rattle.svc_record.specs.Descriptors.{Descriptor, with_words, is_close}
use Rattle.svc_endpoints.specs.declared.table.Open.{Open}
use Rattle.svc_endpoints.specs.EndpointsState.{all_new, numbers_with, numbers_of_table}
use Rattle.svc_base.specs.NumberSets.{is_in, distinct}
use Rattle.svc_endpoints.specs.Effects.{passes, opens_of, numbers_out, without_numbers}
use Rattle.svc_base.proofs.Logic.{apart_from}
use Rattle.svc_endpoints.proofs.OpenedLemmas.{first_address}

-- a received descriptor
abbrev pub as_received : Open → Descriptor
as_received o = record { number = o.fd; address = o.address; received = true }

pub words-descriptors : (fds : List ℕ) (words : List (List ℕ)) → with_words fds words ≡ map as_received (opens_of fds words)
words-descriptors [] words = refl
words-descriptors (fd ∷ fds) [] = ap (λ w. record { number = fd; address = None; received = true } ∷ w) (words-descriptors fds [])
words-descriptors (fd ∷ fds) (v ∷ words) = ap (λ w. record { number = fd; address = Some v; received = true } ∷ w) (words-descriptors fds words)

pub numbers-received : (opens : List Open) → map (λ (d : Descriptor). d.number) (map as_received opens) ≡ numbers_of_table opens
numbers-received [] = refl
numbers-received (o ∷ more) = ap (λ w. o.fd ∷ w) (numbers-received more)

pub with-received : (opens : List Open) (a : Option (List ℕ))
    → map (λ (d : Descriptor). d.number) (filter (λ (d : Descriptor). same_address d.address a) (map as_received opens)) ≡ numbers_with opens a
with-received [] a = refl
with-received (o ∷ more) a = elim (cases_Bool (same_address o.address a)) [
  | inl y ↦ rw y (ap (λ w. o.fd ∷ w) (with-received more a))
  | inr n ↦ rw n (with-received more a)
]

-- none of them is closed
pub open-received : (q : Record) (opens : List Open) → ((g : ℕ) → is_in g (numbers_of_table opens) ≡ true → has (is_close g) q ≡ false)
    → filter (λ (d : Descriptor). not (has (is_close d.number) q)) (map as_received opens) ≡ map as_received opens
open-received q [] h = refl
open-received q (o ∷ more) h = rw (h o.fd (or_left (o.fd == o.fd) (is_in o.fd (numbers_of_table more)) (eq-eqb o.fd o.fd refl)))
    (ap (λ w. as_received o ∷ w) (open-received q more (λ g there. h g (or_right (o.fd == g) (is_in g (numbers_of_table more)) there))))

-- a number that none of them has
pub none-received : (f : Descriptor → Bool) (fd : ℕ) (opens : List Open) (more : List Descriptor) → is_in fd (numbers_of_table opens) ≡ false
    → list_any (λ (d : Descriptor). d.number == fd && f d) (map as_received opens ++ more) ≡ list_any (λ (d : Descriptor). d.number == fd && f d) more
none-received f fd [] more h = refl
none-received f fd (o ∷ opens) more h =
    let parts = or_parts (o.fd == fd) (is_in fd (numbers_of_table opens)) h in rw parts.0 (none-received f fd opens more parts.1)

pub none-listed : (f : Descriptor → Bool) (fd : ℕ) (opens : List Open) → is_in fd (numbers_of_table opens) ≡ false
    → list_any (λ (d : Descriptor). d.number == fd && f d) (map as_received opens) ≡ false
none-listed f fd [] h = refl
none-listed f fd (o ∷ opens) h = let parts = or_parts (o.fd == fd) (is_in fd (numbers_of_table opens)) h in rw parts.0 (none-listed f fd opens parts.1)

pub first-later : (fd : ℕ) (opens : List Open) (more : List Descriptor) → is_in fd (numbers_of_table opens) ≡ false
    → first_address fd (map as_received opens ++ more) ≡ first_address fd more
first-later fd [] more h = refl
first-later fd (o ∷ opens) more h = let parts = or_parts (o.fd == fd) (is_in fd (numbers_of_table opens)) h in rw parts.0 (first-later fd opens more parts.1)

-- a number that one of them has
pub some-received : (fd : ℕ) (opens : List Open) (more : List Descriptor) → is_in fd (numbers_of_table opens) ≡ true
    → list_any (λ (d : Descriptor). d.number == fd && d.received) (map as_received opens ++ more) ≡ true
some-received fd [] more h = absurd (cc)
some-received fd (o ∷ opens) more h = elim (cases_Bool (o.fd == fd)) [
  | inl y ↦ rw y refl
  | inr n ↦ rw n (some-received fd opens more (rw n at h))
]

or_none : (a b : Bool) → b ≡ false → (a || b) ≡ a
or_none a b h = rw h (grind arith)

-- and its address passes the test, where no number stands twice
pub one-received : (test : Option (List ℕ) → Bool) (fd : ℕ) (opens : List Open) (more : List Descriptor) → distinct (numbers_of_table opens) ≡ true
    → is_in fd (numbers_of_table opens) ≡ true
    → list_any (λ (d : Descriptor). d.number == fd && test d.address) (map as_received opens) ≡ test (first_address fd (map as_received opens ++ more))
one-received test fd [] more apart h = absurd (cc)
one-received test fd (o ∷ opens) more apart h =
    let parts = and_parts (not (is_in o.fd (numbers_of_table opens))) (distinct (numbers_of_table opens)) apart in
    elim (cases_Bool (o.fd == fd)) [
      | inl y ↦ rw y (or_none (test o.address) (list_any (λ (d : Descriptor). d.number == fd && test d.address) (map as_received opens))
          (none-listed (λ (d : Descriptor). test d.address) fd opens
          (subst (λ n. is_in n (numbers_of_table opens) ≡ false) (eqb-true o.fd fd y) (apart_from (is_in o.fd (numbers_of_table opens)) parts.0))))
      | inr n ↦ rw n (one-received test fd opens more parts.1 (rw n at h))
    ]

pub out-received : (gone : List ℕ → Bool) (fd : ℕ) (opens : List Open)
    → is_in fd (numbers_out gone opens) ≡ list_any (λ (d : Descriptor). d.number == fd && passes gone d.address) (map as_received opens)
out-received gone fd [] = refl
out-received gone fd (o ∷ opens) = elim (cases_Bool (passes gone o.address)) [
  | inl y ↦ rw y
      (same_or (o.fd == fd) (out-received gone fd opens)
      ∙ ap (λ b. b || list_any (λ (d : Descriptor). d.number == fd && passes gone d.address) (map as_received opens)) (and_yes (o.fd == fd)))
  | inr n ↦ rw n
      (out-received gone fd opens ∙ and_no (o.fd == fd) (list_any (λ (d : Descriptor). d.number == fd && passes gone d.address) (map as_received opens)))
]
  where
    and_yes : (a : Bool) → a ≡ (a && true)
    and_yes a = grind arith

    and_no : (a b : Bool) → b ≡ ((a && false) || b)
    and_no a b = grind arith

    same_or : (a : Bool) {b c : Bool} → b ≡ c → (a || b) ≡ (a || c)
    same_or a e = ap (λ x. a || x) e

-- distinct words are the addresses of one each
words_none : (fds : List ℕ) (words : List (List ℕ)) (w : List ℕ) → is_among w words ≡ false → numbers_with (opens_of fds words) (Some w) ≡ []
words_none [] words w h = refl
words_none (fd ∷ fds) [] w h = words_none fds [] w h
words_none (fd ∷ fds) (v ∷ words) w h = let parts = or_parts (bytes_eq v w) (is_among w words) h in rw parts.0 (words_none fds words w parts.1)

pub words-one : (fds : List ℕ) (words : List (List ℕ)) (w : List ℕ) → has_repeat words ≡ false → length (numbers_with (opens_of fds words) (Some w)) ≤ 1
words-one [] words w h = omega arith
words-one (fd ∷ fds) [] w h = words-one fds [] w h
words-one (fd ∷ fds) (v ∷ words) w h =
    let parts = or_parts (is_among v words) (has_repeat words) h in
    elim (cases_Bool (bytes_eq v w)) [
      | inl y ↦ (let none = words_none fds words w (subst (λ u. is_among u words ≡ false) ((bytes_eq-Decides v w).0 y) parts.0) in rw (y, none) (omega arith))
      | inr n ↦ rw n (words-one fds words w parts.1)
    ]

-- by numbers
pub without-same : (ns ms : List ℕ) (t : List Open) → ((g : ℕ) → is_in g ms ≡ is_in g ns) → without_numbers ms t ≡ without_numbers ns t
without-same ns ms [] same = refl
without-same ns ms (o ∷ more) same = elim (cases_Bool (is_in o.fd ns)) [
  | inl y ↦ rw (same o.fd, y) (without-same ns ms more same)
  | inr n ↦ rw (same o.fd, n) (ap (λ w. o ∷ w) (without-same ns ms more same))
]

-- what is new didn't come
pub new-in : (came fds : List ℕ) (g : ℕ) → all_new came fds ≡ true → is_in g fds ≡ true → is_in g came ≡ false
new-in came [] g h there = absurd (cc)
new-in came (fd ∷ fds) g h there =
    let parts = and_parts (not (is_in fd came) && not (is_in fd fds)) (all_new came fds) h in
    elim (cases_Bool (fd == g)) [
      | inl y ↦ subst (λ n. is_in n came ≡ false) (eqb-true fd g y)
          (apart_from (is_in fd came) (and_parts (not (is_in fd came)) (not (is_in fd fds)) parts.0).0)
      | inr n ↦ new-in came fds g parts.1 (rw n at there)
    ]

pub new-apart : (came fds : List ℕ) → all_new came fds ≡ true → distinct fds ≡ true
new-apart came [] h = refl
new-apart came (fd ∷ fds) h =
    let parts = and_parts (not (is_in fd came) && not (is_in fd fds)) (all_new came fds) h in
    rw (apart_from (is_in fd fds) (and_parts (not (is_in fd came)) (not (is_in fd fds)) parts.0).1) (new-apart came fds parts.1)

pub new-distinct : (xs fds : List ℕ) → all_new xs fds ≡ true → distinct xs ≡ true → distinct (fds ++ xs) ≡ true
new-distinct xs [] h apart = apart
new-distinct xs (fd ∷ fds) h apart =
    let parts = and_parts (not (is_in fd xs) && not (is_in fd fds)) (all_new xs fds) h in
    let here = and_parts (not (is_in fd xs)) (not (is_in fd fds)) parts.0 in
    rw (in_both fds (apart_from (is_in fd fds) here.1) (apart_from (is_in fd xs) here.0)) (new-distinct xs fds parts.1 apart)
  where
    in_both : (ys : List ℕ) → is_in fd ys ≡ false → is_in fd xs ≡ false → is_in fd (ys ++ xs) ≡ false
    in_both [] a b = b
    in_both (y ∷ ys) a b = let parts = or_parts (y == fd) (is_in fd ys) a in rw (parts.0) (in_both ys parts.1 b)

pub new-same : (came xs fds : List ℕ) → ((g : ℕ) → is_in g came ≡ is_in g xs) → all_new came fds ≡ all_new xs fds
new-same came xs [] same = refl
new-same came xs (fd ∷ fds) same = rw (same fd) (ap (λ b. (not (is_in fd xs) && not (is_in fd fds)) && b) (new-same came xs fds same))
