-- The bytes that are left after a part of them was taken, and after more came.
use Rattle.std.proofs.Common.{rules, ◌≡◌, ℕ, ◌+◌, ◌≤◌, List, ◌++◌, length, take, drop, slice_range, ap, sym, ◌∙◌, arith}
use Rattle.std.proofs.lemmas.List.{drop-drop, drop-append-le}
use Rattle.std.proofs.lemmas.Slice.{between_is, take-put_mid}
use borrow.Rule.Slice.PartMut.{put_mid}

pub skipped : (bytes : List ℕ) (from to count : ℕ) → slice_range bytes (from + count) to ≡ drop count (slice_range bytes from to)
skipped bytes from to count =
    between_is bytes (from + count) to
    ∙ (sym (drop-drop count from (take to bytes)) ∙ ap (drop count) (sym (between_is bytes from to)))

pub filled : (bytes piece : List ℕ) (from to k : ℕ) → from ≤ to → to ≤ length bytes
    → slice_range (put_mid to k bytes piece) from (to + length piece) ≡ slice_range bytes from to ++ piece
filled bytes piece from to k below within =
    between_is (put_mid to k bytes piece) from (to + length piece)
    ∙ (ap (drop from) (take-put_mid to k bytes piece (to + length piece) (omega arith) within)
    ∙ (drop-append-le from (take to bytes) piece (search (rules, below, within)) ∙ ap (λ (l : List ℕ). l ++ piece) (sym (between_is bytes from to))))
