-- What a bind brings, and what is live after it.
use Rattle.std.proofs.Common.{ℕ, Bool, true, false, ◌||◌, ◌==◌, not, inl, inr, List, [], ◌∷◌, ◌≡◌, refl, ap, sym, ◌∙◌, subst, arith, Option, Some, None, length, map, filter, if◌then◌else◌, nat_lt}
use Rattle.std.specs.List.{list_any}
use Rattle.std.proofs.lemmas.Bool.{cases_Bool, cases_eq, eq-eqb, ne_eqb}
use Rattle.std.proofs.lemmas.List.Folds.{list_any-append}
use Rattle.std.proofs.lemmas.Slice.Eq.{bytes_eq-Decides}
use Rattle.svc_record.specs.declared.plan.Plan.{Plan}
use Rattle.svc_record.specs.declared.entry.Entry.{Entry}
use Rattle.svc_record.specs.declared.entry.Entry.TheVariants.{Got, Told}
use Rattle.svc_record.specs.declared.event.Event.TheVariants.{Bound, Received}
use Rattle.svc_record.specs.declared.action.Action.TheVariants.{Close}
use Rattle.svc_record.specs.Record.{Record, has}
use Rattle.svc_record.specs.Plans.{address, same_address}
use Rattle.svc_record.specs.Descriptors.{Descriptor, live_descriptors, live_numbers_with, opened_descriptors, descriptors_of, words_or_none, has_number, is_close, brings}
use Rattle.svc_record.specs.Message.{decode}
use Rattle.svc_record.specs.Fits.{is_new}
use Rattle.svc_endpoints.specs.declared.table.Open.{Open}
use Rattle.svc_endpoints.specs.EndpointsState.{numbers_with}
use Rattle.svc_endpoints.specs.Effects.{put_open}
use Rattle.svc_endpoints.proofs.WordLemmas.{any-words}

pub same_eq : (a b : Option (List ℕ)) → same_address a b ≡ true → a ≡ b
same_eq (Some x) (Some y) h = ap Some ((bytes_eq-Decides x y).0 h)
same_eq (Some x) None h = absurd (cc)
same_eq None b h = absurd (cc)

pub same_self : (a : List ℕ) → same_address (Some a) (Some a) ≡ true
same_self a = (bytes_eq-Decides a a).1 refl

-- a table with one more descriptor, of an address that it had none of
none_later : (x : Open) (more : List Open) (a : Option (List ℕ)) → numbers_with (x ∷ more) a ≡ []
    → (same_address x.address a ≡ false) × (numbers_with more a ≡ [])
none_later x more a h = elim (cases_Bool (same_address x.address a)) [
  | inl y ↦ absurd (let k = rw y at h in cc)
  | inr n ↦ (n, rw n at h)
]

pub numbers_with-put : (o : Open) (table : List Open) → numbers_with table o.address ≡ [] → (a : Option (List ℕ))
    → numbers_with (put_open o table) a ≡ (if same_address o.address a then o.fd ∷ [] else numbers_with table a)
numbers_with-put o [] none a = refl
numbers_with-put o (x ∷ more) none a = elim (cases_Bool (nat_lt o.fd x.fd)) [
  | inl below ↦ rw below (elim (cases_Bool (same_address o.address a)) [
    | inl y ↦ rw y (ap (λ w. o.fd ∷ w) (subst (λ b. numbers_with (x ∷ more) b ≡ []) (same_eq o.address a y) none))
    | inr n ↦ rw n refl
  ])
  | inr above ↦ (let later = none_later x more o.address none in
      let ih = numbers_with-put o more later.1 a in
      rw above (elim (cases_Bool (same_address o.address a)) [
        | inl y ↦ (let off : same_address x.address a ≡ false = subst (λ b. same_address x.address b ≡ false) (same_eq o.address a y) later.0 in rw off ih)
        | inr n ↦ elim (cases_Bool (same_address x.address a)) [
          | inl s ↦ rw (s, n) (ap (λ w. x.fd ∷ w) (ih ∙ (rw n refl)))
          | inr t ↦ rw t ih
        ]
      ]))
]

-- a number that no event brought is of no opened descriptor
descriptors_of-new : (p : Plan) (fd : ℕ) (e : Entry) → brings fd e ≡ false → list_any (has_number fd) (descriptors_of p e) ≡ false
descriptors_of-new p fd (Told a) h = refl
descriptors_of-new p fd (Got (Bound s i n)) h = h
descriptors_of-new p fd (Got (Received bytes fds)) h = any-words fd fds (words_or_none (decode bytes (length fds))) ∙ h
descriptors_of-new p fd (Got _) h = refl

pub opened-new : (p : Plan) (fd : ℕ) (q : Record) → has (brings fd) q ≡ false → list_any (has_number fd) (opened_descriptors p q) ≡ false
opened-new p fd [] h = refl
opened-new p fd (e ∷ q) h =
    list_any-append (has_number fd) (descriptors_of p e) (opened_descriptors p q)
    ∙ both (brings fd e) (has (brings fd) q) _ _ h (descriptors_of-new p fd e) (opened-new p fd q)
  where
    both : (a b c d : Bool) → (a || b) ≡ false → (a ≡ false → c ≡ false) → (b ≡ false → d ≡ false) → (c || d) ≡ false
    both true b c d h f g = absurd (cc)
    both false b c d h f g = rw (f refl) (g h)

-- closing a number that none of them has changes nothing
filter-new : (fd : ℕ) (q : Record) (xs : List Descriptor) → list_any (has_number fd) xs ≡ false
    → filter (λ (x : Descriptor). not ((fd == x.number) || has (is_close x.number) q)) xs ≡ filter (λ (x : Descriptor). not (has (is_close x.number) q)) xs
filter-new fd q [] h = refl
filter-new fd q (x ∷ xs) h = elim (cases_eq fd x.number) [
  | inl e ↦ absurd (let f = eq-eqb x.number fd (sym e) in first_false (x.number == fd) _ f h)
  | inr ne ↦ rw (ne_eqb fd x.number ne) (step (has (is_close x.number) q) x _ _ (filter-new fd q xs (rest_false (x.number == fd) _ h)))
]
  where
    first_false : (a b : Bool) → a ≡ true → (a || b) ≡ false → ⊥
    first_false a b e h = grind arith

    rest_false : (a b : Bool) → (a || b) ≡ false → b ≡ false
    rest_false a b h = grind arith

    step : (c : Bool) (x : Descriptor) (xs ys : List Descriptor) → xs ≡ ys → (if not c then x ∷ xs else xs) ≡ (if not c then x ∷ ys else ys)
    step true x xs ys e = e
    step false x xs ys e = ap (λ w. x ∷ w) e

new_brings : (b : Bool) → not b ≡ true → b ≡ false
new_brings b h = grind arith

module _ (p : Plan) (q : Record) (s i fd : ℕ) (new : is_new q fd ≡ true) where
  -- a doubled descriptor is closed again
  pub live-doubled : live_descriptors p (Told (Close fd) ∷ Got (Bound s i fd) ∷ q) ≡ live_descriptors p q
  live-doubled = rw (eq-eqb fd fd refl) (filter-new fd q (opened_descriptors p q) (opened-new p fd q (new_brings (has (brings fd) q) new)))

  pub live-bound : has (is_close fd) q ≡ false
      → live_descriptors p (Got (Bound s i fd) ∷ q) ≡ record { number = fd; address = address p s i; received = false } ∷ live_descriptors p q
  live-bound stays = rw stays refl

  pub live_with-bound : has (is_close fd) q ≡ false → live_numbers_with p q (address p s i) ≡ [] → (a : Option (List ℕ))
      → live_numbers_with p (Got (Bound s i fd) ∷ q) a ≡ (if same_address (address p s i) a then fd ∷ [] else live_numbers_with p q a)
  live_with-bound stays none a = ap (λ w. map (λ (d : Descriptor). d.number) (filter (λ (d : Descriptor). same_address d.address a) w)) (live-bound stays)
      ∙ elim (cases_Bool (same_address (address p s i) a)) [
        | inl y ↦ rw y (ap (λ w. fd ∷ w) (subst (λ b. live_numbers_with p q b ≡ []) (same_eq (address p s i) a y) none))
        | inr n ↦ rw n refl
      ]
