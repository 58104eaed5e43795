-- What is taken out of the table where one descriptor, or none, is drained.
use Rattle.std.proofs.Common.{ℕ, Bool, true, false, not, inl, inr, List, [], ◌∷◌, ◌==◌, ◌||◌, filter, ◌≡◌, refl, ap, sym}
use Rattle.std.proofs.lemmas.Bool.{cases_Bool, cases_eq, or_left, or_right, eq-eqb, ne_eqb}
use Rattle.svc_base.specs.NumberSets.{is_in}
use Rattle.svc_endpoints.specs.declared.table.Open.{Open}
use Rattle.svc_endpoints.specs.EndpointsData.{EndpointsData}
use Rattle.svc_endpoints.specs.EndpointsState.{numbers_of_table}
use Rattle.svc_endpoints.specs.Effects.{numbers_like, numbers_among, without_number, closed_out}

pub filter-live : (f g : Open → Bool) (t : List Open) → ((o : Open) → is_in o.fd (numbers_of_table t) ≡ true → f o ≡ g o) → filter f t ≡ filter g t
filter-live f g [] same = refl
filter-live f g (o ∷ t) same =
    let here = same o (or_left (o.fd == o.fd) (is_in o.fd (numbers_of_table t)) (eq-eqb o.fd o.fd refl)) in
    let more = filter-live f g t (λ x there. same x (or_right (o.fd == x.fd) (is_in x.fd (numbers_of_table t)) there)) in
    elim (cases_Bool (g o)) [
      | inl y ↦ rw (here, y) (ap (λ (w : List Open). o ∷ w) more)
      | inr n ↦ rw (here, n) more
    ]

pub filter-by : (f g : Open → Bool) (t : List Open) → ((o : Open) → f o ≡ g o) → filter f t ≡ filter g t
filter-by f g [] same = refl
filter-by f g (o ∷ t) same = elim (cases_Bool (g o)) [
  | inl y ↦ rw (same o, y) (ap (λ (w : List Open). o ∷ w) (filter-by f g t same))
  | inr n ↦ rw (same o, n) (filter-by f g t same)
]

filter_none : (t : List Open) → filter (λ (o : Open). false) t ≡ []
filter_none [] = refl
filter_none (o ∷ t) = filter_none t

filter_all : (t : List Open) → filter (λ (o : Open). true) t ≡ t
filter_all [] = refl
filter_all (o ∷ t) = ap (λ (w : List Open). o ∷ w) (filter_all t)

same_number : (a b : ℕ) → (b == a) ≡ ((a == b) || false)
same_number a b = elim (cases_eq a b) [
  | inl e ↦ rw (eq-eqb a b e, eq-eqb b a (sym e)) refl
  | inr ne ↦ rw (ne_eqb a b ne, ne_eqb b a (λ e. ne (sym e))) refl
]

pub none-among : (t : List Open) → [] ≡ numbers_among [] t
none-among t = sym (ap numbers_of_table (filter_none t))

pub none-out : (d : EndpointsData) → d ≡ closed_out [] d
none-out d = ap (λ (t : List Open). record d { table = t }) (sym (filter_all d.table))

pub one-among : (n : ℕ) (t : List Open) → numbers_like n t ≡ numbers_among (n ∷ []) t
one-among n t = ap numbers_of_table (filter-by (λ (o : Open). o.fd == n) (λ (o : Open). is_in o.fd (n ∷ [])) t (λ o. same_number n o.fd))

pub one-out : (n : ℕ) (d : EndpointsData) → without_number n d ≡ closed_out (n ∷ []) d
one-out n d = ap (λ (t : List Open). record d { table = t })
    (filter-by (λ (o : Open). not (o.fd == n)) (λ (o : Open). not (is_in o.fd (n ∷ []))) d.table (λ o. ap not (same_number n o.fd)))
