-- What a bind that ended well leaves of who holds and who waits, where the endpoint has an address for itself.
use Rattle.std.proofs.Common.{ℕ, suc, Bool, true, false, not, ◌&&◌, ◌||◌, ◌==◌, ◌<◌, ◌≤◌, nat_le, nat_lt, arith, List, [], ◌∷◌, length, ◌≡◌, refl, sym, ap, ◌∙◌, cond, map, filter, inl, inr, Option, Some, None, if◌then◌else◌}
use Rattle.std.specs.List.{list_any, list_all}
use Rattle.std.proofs.lemmas.Bool.{false≢true, cases_Bool, eq-eqb, eqb-true, or_cases, or_left, or_right, leb-true, lt-ltb}
use Rattle.svc_base.proofs.Logic.{apart_from}
use Rattle.svc_record.specs.declared.plan.Plan.{Plan}
use Rattle.svc_record.specs.declared.entry.Entry.TheVariants.{Got}
use Rattle.svc_record.specs.declared.event.Event.TheVariants.{Bound}
use Rattle.svc_record.specs.Record.{Record, has, now}
use Rattle.svc_record.specs.Plans.{services, endpoint_numbers, address, same_address}
use Rattle.svc_record.specs.Descriptors.{Descriptor, live_descriptors, live_numbers_with, has_live, is_close}
use Rattle.svc_record.specs.Asks.{is_ask_open}
use Rattle.svc_record.specs.Failed.{has_failed}
use Rattle.svc_record.specs.Endpoints.{held_numbers, is_held, is_one_of, holds, is_at_work, in_use_within, rests, is_busy, is_busy_elsewhere, waits_at, first_missing, waits_from, waits, endpoint_right, endpoint_right_late}
use Rattle.svc_record.proofs.Sound.{both}
use Rattle.svc_judge.specs.Binds.{is_far, is_alone}
use Rattle.svc_judge.specs.Holding.{lets_hold}
use Rattle.svc_judge.proofs.EndpointLemmas.{held_step}
use Rattle.svc_judge.proofs.VerdictLemmas.{and}

any_less : (c : Bool) (d : Descriptor) (a : Option (List ℕ)) (ds : List Descriptor) → same_address d.address a ≡ false
    → list_any (λ (x : Descriptor). same_address x.address a) (cond c (d ∷ ds) ds) ≡ list_any (λ (x : Descriptor). same_address x.address a) ds
any_less true d a ds h = rw (h)
any_less false d a ds h = refl

numbers_less : (c : Bool) (d : Descriptor) (a : Option (List ℕ)) (ds : List Descriptor) → same_address d.address a ≡ false
    → map (λ (x : Descriptor). x.number) (filter (λ (x : Descriptor). same_address x.address a) (cond c (d ∷ ds) ds))
    ≡ map (λ (x : Descriptor). x.number) (filter (λ (x : Descriptor). same_address x.address a) ds)
numbers_less true d a ds h = rw (h)
numbers_less false d a ds h = refl

numbers_one : (c : Bool) (d : Descriptor) (a : Option (List ℕ)) (ds : List Descriptor) → c ≡ true → same_address d.address a ≡ true
    → list_any (λ (x : Descriptor). same_address x.address a) ds ≡ false
    → map (λ (x : Descriptor). x.number) (filter (λ (x : Descriptor). same_address x.address a) (cond c (d ∷ ds) ds)) ≡ d.number ∷ []
numbers_one c d a ds live same none = rw (live, same) (ap (λ xs. d.number ∷ map (λ (x : Descriptor). x.number) xs) (none_left ds none))
  where
    none_left : (xs : List Descriptor) → list_any (λ (x : Descriptor). same_address x.address a) xs ≡ false
        → filter (λ (x : Descriptor). same_address x.address a) xs ≡ []
    none_left [] h = refl
    none_left (x ∷ xs) h = elim (cases_Bool (same_address x.address a)) [
      | inl y ↦ absurd (false≢true (sym h ∙ or_left (same_address x.address a) (list_any (λ (z : Descriptor). same_address z.address a) xs) y))
      | inr n ↦ (let k : list_any (λ (z : Descriptor). same_address z.address a) xs ≡ false = rw (n) at h in rw (n) (none_left xs k))
    ]

any_alike : (f g h : ℕ → Bool) → ((n : ℕ) → h n ≡ true → f n ≡ g n) → (ns : List ℕ) → list_all h ns ≡ true → list_any f ns ≡ list_any g ns
any_alike f g h same [] all = refl
any_alike f g h same (n ∷ ns) all =
    let k = both (h n) (list_all h ns) all in
    ap (λ b. b || list_any f ns) (same n k.0) ∙ ap (λ b. g n || b) (any_alike f g h same ns k.1)

-- the first that isn't held is one of them
missing_in : (p : Plan) (q : Record) (t j : ℕ) (h : ℕ → Bool) (ks : List ℕ) → first_missing p q t ks ≡ Some j → list_all h ks ≡ true → h j ≡ true
missing_in p q t j h [] e all = cc
missing_in p q t j h (k ∷ ks) e all =
    let parts = both (h k) (list_all h ks) all in
    elim (cases_Bool (is_held p q t k)) [
      | inl y ↦ (let g : first_missing p q t ks ≡ Some j = rw (y) at e in missing_in p q t j h ks g parts.1)
      | inr n ↦ (let g : Some k ≡ Some j = rw (n) at e in let same : k ≡ j = cc in ap h (sym same) ∙ parts.0)
    ]

module _ (p : Plan) (b : Record) (s i fd : ℕ) (alone : is_alone p s i ≡ true) where
  abbrev after : Record
  after = Got (Bound s i fd) ∷ b

  held_numbers_other : (t k : ℕ) → (s == t && i == k) ≡ false → held_numbers p after t k ≡ held_numbers p b t k
  held_numbers_other t k off = rw (off)

  held_other : (t k : ℕ) → (s == t && i == k) ≡ false → is_held p after t k ≡ is_held p b t k
  held_other t k off = ap (λ ns. nat_lt 0 (length ns)) (held_numbers_other t k off)

  held_more : (t k : ℕ) → is_held p b t k ≡ true → is_held p after t k ≡ true
  held_more t k h = held_step p (Got (Bound s i fd)) b t k ∙ or_right (lets_hold p t k (Got (Bound s i fd)) b) (is_held p b t k) h

  has_live_other : (a : Option (List ℕ)) → same_address (address p s i) a ≡ false → has_live p after a ≡ has_live p b a
  has_live_other a far =
      any_less (not (has (is_close fd) b)) (record { number = fd; address = address p s i; received = false }) a (live_descriptors p b) far

  live_other : (a : Option (List ℕ)) → same_address (address p s i) a ≡ false → live_numbers_with p after a ≡ live_numbers_with p b a
  live_other a far =
      numbers_less (not (has (is_close fd) b)) (record { number = fd; address = address p s i; received = false }) a (live_descriptors p b) far

  holds_other : (t k : ℕ) → (s == t && i == k) ≡ false → same_address (address p s i) (address p t k) ≡ false → holds p after t k ≡ holds p b t k
  holds_other t k off far =
      ap (λ ns. is_one_of ns (held_numbers p after t k)) (live_other (address p t k) far)
      ∙ ap (is_one_of (live_numbers_with p b (address p t k))) (held_numbers_other t k off)

  open_other : (t k : ℕ) → (s == t && i == k) ≡ false → is_ask_open after t k ≡ is_ask_open b t k
  open_other t k off = rw (off)

  within_other : (t k : ℕ) → (s == t && i == k) ≡ false → in_use_within (now b) after t k ≡ in_use_within (now b) b t k
  within_other t k off = rw (off)

  rests_other : (t k : ℕ) → (s == t && i == k) ≡ false → same_address (address p s i) (address p t k) ≡ false → rests p after t k ≡ rests p b t k
  rests_other t k off far =
      ap (λ x. ((not (has_failed p b t) && not x) && in_use_within (now b) after t k) && not (has_live p after (address p t k))) (held_other t k off)
      ∙ ap (λ x. ((not (has_failed p b t) && not (is_held p b t k)) && x) && not (has_live p after (address p t k))) (within_other t k off)
      ∙ ap (λ x. ((not (has_failed p b t) && not (is_held p b t k)) && in_use_within (now b) b t k) && not x) (has_live_other (address p t k) far)

  busy_other : (t k : ℕ) → (s == t && i == k) ≡ false → same_address (address p s i) (address p t k) ≡ false → is_busy p after t k ≡ is_busy p b t k
  busy_other t k off far = ap (λ x. x || rests p after t k) (open_other t k off) ∙ ap (λ x. is_ask_open b t k || x) (rests_other t k off far)

  far_from : (t k : ℕ) → is_far p s i t k ≡ true → (s == t && i == k) ≡ false → same_address (address p s i) (address p t k) ≡ false
  far_from t k far off = (let g : not (same_address (address p s i) (address p t k)) ≡ true = rw (off) at far in
      apart_from (same_address (address p s i) (address p t k)) g)

  -- an endpoint with another address is another one
  other_by_address : (t k : ℕ) (a : Option (List ℕ)) → same_address (address p s i) a ≡ false → same_address (address p t k) a ≡ true
      → (s == t && i == k) ≡ false
  other_by_address t k a far same = elim (cases_Bool (s == t && i == k)) [
    | inl own ↦
        (let parts = both (s == t) (i == k) own in
        let one : address p s i ≡ address p t k = ap (λ x. address p x i) (eqb-true s t parts.0) ∙ ap (address p t) (eqb-true i k parts.1) in
        absurd (false≢true (sym far ∙ ap (λ x. same_address x a) one ∙ same)))
    | inr off ↦ off
  ]

  worked_other : (a : Option (List ℕ)) → same_address (address p s i) a ≡ false → (t k : ℕ) → is_far p s i t k ≡ true
      → (same_address (address p t k) a && (is_at_work p after t && is_busy p after t k))
      ≡ (same_address (address p t k) a && (is_at_work p b t && is_busy p b t k))
  worked_other a far t k apart = elim (cases_Bool (same_address (address p t k) a)) [
    | inl same ↦
        (let off = other_by_address t k a far same in
        ap (λ x. same_address (address p t k) a && (is_at_work p b t && x)) (busy_other t k off (far_from t k apart off)))
    | inr n ↦ rw (n)
  ]

  elsewhere_other : (a : Option (List ℕ)) → same_address (address p s i) a ≡ false → is_busy_elsewhere p after a ≡ is_busy_elsewhere p b a
  elsewhere_other a far =
      any_alike (λ t. list_any (λ k. same_address (address p t k) a && (is_at_work p after t && is_busy p after t k)) (endpoint_numbers p t))
      (λ t. list_any (λ k. same_address (address p t k) a && (is_at_work p b t && is_busy p b t k)) (endpoint_numbers p t))
      (λ t. list_all (is_far p s i t) (endpoint_numbers p t))
      (λ t all.
      any_alike (λ k. same_address (address p t k) a && (is_at_work p after t && is_busy p after t k))
      (λ k. same_address (address p t k) a && (is_at_work p b t && is_busy p b t k)) (is_far p s i t) (worked_other a far t) (endpoint_numbers p t) all)
      (services p) alone

  waits_at_other : (t j : ℕ) → (s == t && i == j) ≡ false → is_far p s i t j ≡ true → waits_at p after t j ≡ waits_at p b t j
  waits_at_other t j off apart =
      let a = address p t j in
      let far = far_from t j apart off in
      ap (λ x. x || (not (has_live p after a) && is_busy_elsewhere p after a)) (busy_other t j off far)
      ∙ ap (λ x. is_busy p b t j || (not x && is_busy_elsewhere p after a)) (has_live_other a far)
      ∙ ap (λ x. is_busy p b t j || (not (has_live p b a) && x)) (elsewhere_other a far)

  off_service : (t k : ℕ) → (s == t) ≡ false → (s == t && i == k) ≡ false
  off_service t k h = rw (h)

  -- of another service the same endpoint is missing first
  missing_other : (t : ℕ) → (s == t) ≡ false → (ks : List ℕ) → first_missing p after t ks ≡ first_missing p b t ks
  missing_other t h [] = refl
  missing_other t h (k ∷ ks) =
      ap (λ x. if x then first_missing p after t ks else Some k) (held_other t k (off_service t k h))
      ∙ ap (λ x. if is_held p b t k then x else Some k) (missing_other t h ks)

  from_other : (t k : ℕ) → (s == t) ≡ false → list_all (is_far p s i t) (endpoint_numbers p t) ≡ true → (o : Option ℕ)
      → first_missing p b t (endpoint_numbers p t) ≡ o → waits_from p after t k o ≡ waits_from p b t k o
  from_other t k h all None e = refl
  from_other t k h all (Some j) e =
      ap (λ x. nat_le j k && x) (waits_at_other t j (off_service t j h) (missing_in p b t j (is_far p s i t) (endpoint_numbers p t) e all))

  waits_other : (t k : ℕ) → (s == t) ≡ false → list_all (is_far p s i t) (endpoint_numbers p t) ≡ true → waits p after t k ≡ waits p b t k
  waits_other t k h all =
      ap (waits_from p after t k) (missing_other t h (endpoint_numbers p t))
      ∙ from_other t k h all (first_missing p b t (endpoint_numbers p t)) refl

  -- an endpoint of another service is as right as it was
  pub right_other : (t k : ℕ) → (s == t) ≡ false → list_all (is_far p s i t) (endpoint_numbers p t) ≡ true → is_far p s i t k ≡ true
      → endpoint_right p after t k ≡ endpoint_right p b t k
  right_other t k h all apart =
      let off = off_service t k h in
      ap (λ x. not (is_at_work p b t) || (x || waits p after t k)) (holds_other t k off (far_from t k apart off))
      ∙ ap (λ x. not (is_at_work p b t) || (holds p b t k || x)) (waits_other t k h all)

  pub late_other : (t k : ℕ) → (s == t) ≡ false → list_all (is_far p s i t) (endpoint_numbers p t) ≡ true
      → endpoint_right_late p after t k ≡ endpoint_right_late p b t k
  late_other t k h all =
      ap (λ x. not (is_at_work p b t) || (x || waits p after t k)) (held_other t k (off_service t k h))
      ∙ ap (λ x. not (is_at_work p b t) || (is_held p b t k || x)) (waits_other t k h all)

  off_own : (k : ℕ) → (i == k) ≡ false → (s == s && i == k) ≡ false
  off_own k h = rw (eq-eqb s s refl, h)

  -- what is missing first and isn't this endpoint is so still
  missing_own : (j : ℕ) → (i == j) ≡ false → (ks : List ℕ) → first_missing p b s ks ≡ Some j → first_missing p after s ks ≡ Some j
  missing_own j off [] h = cc
  missing_own j off (k ∷ ks) h = elim (cases_Bool (is_held p b s k)) [
    | inl y ↦
        (let g : first_missing p b s ks ≡ Some j = rw (y) at h in
        ap (λ x. if x then first_missing p after s ks else Some k) (held_more s k y) ∙ missing_own j off ks g)
    | inr n ↦
        (let g : Some k ≡ Some j = rw (n) at h in
        let same : k ≡ j = cc in
        ap (λ x. if x then first_missing p after s ks else Some k)
        (held_other s k (off_own k (ap (λ x. i == x) same ∙ off)) ∙ n)
        ∙ ap Some same)
  ]

  waits_own : (k : ℕ) → k ≤ i → (i == k) ≡ false → list_all (is_far p s i s) (endpoint_numbers p s) ≡ true → (o : Option ℕ)
      → first_missing p b s (endpoint_numbers p s) ≡ o → waits_from p b s k o ≡ true → waits p after s k ≡ true
  waits_own k low off all None e h = absurd (false≢true h)
  waits_own k low off all (Some j) e h =
      let parts = both (nat_le j k) (waits_at p b s j) h in
      let below_k : j ≤ k = leb-true j k parts.0 in
      elim (cases_Bool (i == j)) [
        | inl same ↦
            (let one : i ≡ j = eqb-true i j same in
            let own : i ≡ k = omega (arith, one, low, below_k) in
            absurd (false≢true (sym off ∙ eq-eqb i k own)))
        | inr apart ↦
            (let at = waits_at_other s j (off_own j apart) (missing_in p b s j (is_far p s i s) (endpoint_numbers p s) e all) in
            ap (waits_from p after s k) (missing_own j apart (endpoint_numbers p s) e)
            ∙ and (nat_le j k) (waits_at p after s j) parts.0 (at ∙ parts.1))
      ]

  module _ (self : same_address (address p s i) (address p s i) ≡ true) (taken : has_live p b (address p s i) ≡ false)
      (live : not (has (is_close fd) b) ≡ true) where
    held_now : held_numbers p after s i ≡ fd ∷ held_numbers p b s i
    held_now = rw (eq-eqb s s refl, eq-eqb i i refl, taken)

    is_held_now : is_held p after s i ≡ true
    is_held_now = ap (λ ns. nat_lt 0 (length ns)) held_now ∙ lt-ltb 0 (length (fd ∷ held_numbers p b s i)) (more (length (held_numbers p b s i)))
      where
        more : (n : ℕ) → 0 < suc n
        more n = omega arith

    live_now : live_numbers_with p after (address p s i) ≡ fd ∷ []
    live_now =
        numbers_one (not (has (is_close fd) b)) (record { number = fd; address = address p s i; received = false }) (address p s i)
        (live_descriptors p b) live self taken

    holds_now : holds p after s i ≡ true
    holds_now =
        ap (λ ns. is_one_of ns (held_numbers p after s i)) live_now ∙ ap (λ ns. list_any (λ n. n == fd) ns) held_now
        ∙ or_left (fd == fd) (list_any (λ n. n == fd) (held_numbers p b s i)) (eq-eqb fd fd refl)

    right_by : (w h x v y : Bool) → (h ≡ true → v ≡ true) → (x ≡ true → y ≡ true) → (not w || (h || x)) ≡ true → (not w || (v || y)) ≡ true
    right_by true h x v y f g e = elim (or_cases h x e) [ inl k ↦ or_left v y (f k) | inr k ↦ or_right v y (g k) ]
    right_by false h x v y f g e = refl

    held_right : (w x : Bool) → (not w || (true || x)) ≡ true
    held_right true x = refl
    held_right false x = refl

    own_at : (at : ℕ → Bool) (k : ℕ) → (i == k) ≡ true → at i ≡ true → at k ≡ true
    own_at at k same h = ap at (sym (eqb-true i k same)) ∙ h

    -- so are this endpoint and the earlier ones of its service
    pub right_own : (k : ℕ) → k ≤ i → list_all (is_far p s i s) (endpoint_numbers p s) ≡ true → is_far p s i s k ≡ true
        → endpoint_right p b s k ≡ true → endpoint_right p after s k ≡ true
    right_own k low all apart h = elim (cases_Bool (i == k)) [
      | inl same ↦
          own_at (endpoint_right p after s) k same
          (ap (λ x. not (is_at_work p after s) || (x || waits p after s i)) holds_now ∙ held_right (is_at_work p after s) (waits p after s i))
      | inr off ↦
          right_by (is_at_work p b s) (holds p b s k) (waits p b s k) (holds p after s k) (waits p after s k)
          (λ g. holds_other s k (off_own k off) (far_from s k apart (off_own k off)) ∙ g)
          (waits_own k low off all (first_missing p b s (endpoint_numbers p s)) refl) h
    ]

    pub late_own : (k : ℕ) → k ≤ i → list_all (is_far p s i s) (endpoint_numbers p s) ≡ true
        → endpoint_right_late p b s k ≡ true → endpoint_right_late p after s k ≡ true
    late_own k low all h = elim (cases_Bool (i == k)) [
      | inl same ↦
          own_at (endpoint_right_late p after s) k same
          (ap (λ x. not (is_at_work p after s) || (x || waits p after s i)) is_held_now ∙ held_right (is_at_work p after s) (waits p after s i))
      | inr off ↦
          right_by (is_at_work p b s) (is_held p b s k) (waits p b s k) (is_held p after s k) (waits p after s k)
          (λ g. held_more s k g)
          (waits_own k low off all (first_missing p b s (endpoint_numbers p s)) refl) h
    ]
