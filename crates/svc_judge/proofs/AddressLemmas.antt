-- Addresses that differ at their ends differ.
use Rattle.std.proofs.Common.{ℕ, Bool, true, false, ◌&&◌, List, ◌≡◌, refl}
use Rattle.std.specs.Prelude.{bytes_eq}
use Rattle.svc_fds.proofs.TableLemmas.{equal}

unlike_by : (b c : Bool) → (c ≡ true → b ≡ true) → (b && c) ≡ c
unlike_by b true h = rw (h refl) refl
unlike_by true false h = refl
unlike_by false false h = refl

-- what holds of equal texts needn't be looked for where they are equal
pub unlike : (b : Bool) (xs ys : List ℕ) → (xs ≡ ys → b ≡ true) → (b && bytes_eq xs ys) ≡ bytes_eq xs ys
unlike b xs ys h = unlike_by b (bytes_eq xs ys) (λ same. h (equal xs ys same))
