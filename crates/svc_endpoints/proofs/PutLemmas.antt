-- What a put leaves.
use Rattle.std.proofs.Common.{ℕ, Bool, true, false, ◌&&◌, ◌==◌, inl, inr, [], ◌≡◌, refl, ap, sym, ◌∙◌, subst, ◌<◌, length, if◌then◌else◌, slice_set, slice_index_or}
use Rattle.std.proofs.lemmas.Bool.{cases_eq, eq-eqb, ne_eqb}
use Rattle.std.proofs.lemmas.List.{get_or-set_same, get_or-set_other}
use Rattle.svc_endpoints.specs.declared.states.EndpointState.{EndpointState}
use Rattle.svc_endpoints.specs.EndpointsData.{EndpointsData}
use Rattle.svc_endpoints.specs.EndpointsState.{state_at, last_at, times_in_use_at, idle}
use Rattle.svc_endpoints.specs.Effects.{put}

module _ (d : EndpointsData) (s i : ℕ) (x : EndpointState) (inside : s < length d.rows) (within : i < length (slice_index_or d.rows s [])) where
  same_row : slice_index_or (put d s i x).rows s [] ≡ slice_set (slice_index_or d.rows s []) i x
  same_row = get_or-set_same d.rows s (slice_set (slice_index_or d.rows s []) i x) [] inside

  pub state_at-put : (t k : ℕ) → state_at (put d s i x) t k ≡ (if s == t && i == k then x else state_at d t k)
  state_at-put t k = elim (cases_eq s t) [
    | inl e ↦ elim (cases_eq i k) [
      | inl f ↦ rw (eq-eqb s t e, eq-eqb i k f) (subst (λ (u : ℕ). state_at (put d s i x) u k ≡ x) e (subst (λ (j : ℕ). state_at (put d s i x) s j ≡ x) f
          (ap (λ r. slice_index_or r i idle) same_row ∙ get_or-set_same (slice_index_or d.rows s []) i x idle within)))
      | inr nf ↦ rw (eq-eqb s t e, ne_eqb i k nf) (subst (λ (u : ℕ). state_at (put d s i x) u k ≡ state_at d u k) e
          (ap (λ r. slice_index_or r k idle) same_row ∙ get_or-set_other (slice_index_or d.rows s []) i k x idle (λ w. nf (sym w))))
    ]
    | inr ne ↦ rw (ne_eqb s t ne)
        (ap (λ r. slice_index_or r k idle) (get_or-set_other d.rows s t (slice_set (slice_index_or d.rows s []) i x) [] (λ w. ne (sym w))))
  ]

last_if : (c : Bool) (x y : EndpointState) → (if c then x else y).last ≡ (if c then x.last else y.last)
last_if true x y = refl
last_if false x y = refl

times_in_use_if : (c : Bool) (x y : EndpointState) → (if c then x else y).times_in_use ≡ (if c then x.times_in_use else y.times_in_use)
times_in_use_if true x y = refl
times_in_use_if false x y = refl

module _ (d : EndpointsData) (s i : ℕ) (x : EndpointState) (inside : s < length d.rows) (within : i < length (slice_index_or d.rows s [])) where
  pub last_at-put : (t k : ℕ) → last_at (put d s i x) t k ≡ (if s == t && i == k then x.last else last_at d t k)
  last_at-put t k = ap (λ (z : EndpointState). z.last) (state_at-put d s i x inside within t k) ∙ last_if (s == t && i == k) x (state_at d t k)

  pub times_in_use_at-put : (t k : ℕ) → times_in_use_at (put d s i x) t k ≡ (if s == t && i == k then x.times_in_use else times_in_use_at d t k)
  times_in_use_at-put t k =
      ap (λ (z : EndpointState). z.times_in_use) (state_at-put d s i x inside within t k) ∙ times_in_use_if (s == t && i == k) x (state_at d t k)
