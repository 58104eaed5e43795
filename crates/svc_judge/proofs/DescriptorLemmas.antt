-- Descriptors that are live, one by one.
use Rattle.std.proofs.Common.{Bool, not, ◌&&◌, List, [], ◌∷◌, filter, ◌≡◌, refl, ap, inl, inr}
use Rattle.std.specs.List.{list_any}
use Rattle.std.proofs.lemmas.Bool.{cases_Bool}
use Rattle.svc_record.specs.Record.{Record}
use Rattle.svc_record.specs.Plans.{same_address}
use Rattle.svc_record.specs.Descriptors.{Descriptor, apart}
use Rattle.svc_judge.specs.Facts.{is_unclosed}

-- the live ones are apart where the first isn't twinned, and the others are
pub apart_step : (q : Record) (d : Descriptor) (more : List Descriptor)
    → apart (filter (is_unclosed q) (d ∷ more))
    ≡ (not (is_unclosed q d && list_any (λ (x : Descriptor). same_address x.address d.address) (filter (is_unclosed q) more))
    && apart (filter (is_unclosed q) more))
apart_step q d more = elim (cases_Bool (is_unclosed q d)) [ inl h ↦ rw (h) refl | inr h ↦ rw (h) refl ]

-- those that pass two tests are the same in either order of the tests
pub filter_swap : {A : Type 0} (f g : A → Bool) (xs : List A) → filter f (filter g xs) ≡ filter g (filter f xs)
filter_swap f g [] = refl
filter_swap f g (x ∷ xs) = elim (cases_Bool (f x)) [
  | inl h ↦ elim (cases_Bool (g x)) [ inl k ↦ rw (h, k, h) (ap (λ ys. x ∷ ys) (filter_swap f g xs)) | inr k ↦ rw (h, k) (filter_swap f g xs) ]
  | inr h ↦ elim (cases_Bool (g x)) [ inl k ↦ rw (h, k, h) (filter_swap f g xs) | inr k ↦ rw (h, k) (filter_swap f g xs) ]
]

-- so is whether one passes both
pub any_swap : {A : Type 0} (f g : A → Bool) (xs : List A) → list_any f (filter g xs) ≡ list_any g (filter f xs)
any_swap f g [] = refl
any_swap f g (x ∷ xs) = elim (cases_Bool (f x)) [
  | inl h ↦ elim (cases_Bool (g x)) [ inl k ↦ rw (h, k, h) refl | inr k ↦ rw (h, k) (any_swap f g xs) ]
  | inr h ↦ elim (cases_Bool (g x)) [ inl k ↦ rw (h, k, h) (any_swap f g xs) | inr k ↦ rw (h, k) (any_swap f g xs) ]
]
