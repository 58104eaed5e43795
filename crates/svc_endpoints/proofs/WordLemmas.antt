-- Numbers with the words at their places.
use Rattle.std.proofs.Common.{ℕ, ◌||◌, ◌==◌, List, [], ◌∷◌, ◌++◌, ◌≡◌, refl, ap, map}
use Rattle.std.specs.List.{list_any}
use Rattle.svc_record.specs.Descriptors.{Descriptor, with_words, has_number}
use Rattle.svc_base.specs.NumberSets.{is_in}

pub numbers-words : (fds : List ℕ) (words : List (List ℕ)) (more : List Descriptor)
    → map (λ (d : Descriptor). d.number) (with_words fds words ++ more) ≡ fds ++ map (λ (d : Descriptor). d.number) more
numbers-words [] words more = refl
numbers-words (fd ∷ fds) [] more = ap (λ ns. fd ∷ ns) (numbers-words fds [] more)
numbers-words (fd ∷ fds) (w ∷ words) more = ap (λ ns. fd ∷ ns) (numbers-words fds words more)

pub any-words : (fd : ℕ) (fds : List ℕ) (words : List (List ℕ)) → list_any (has_number fd) (with_words fds words) ≡ is_in fd fds
any-words fd [] words = refl
any-words fd (n ∷ fds) [] = ap (λ b. (n == fd) || b) (any-words fd fds [])
any-words fd (n ∷ fds) (w ∷ words) = ap (λ b. (n == fd) || b) (any-words fd fds words)
