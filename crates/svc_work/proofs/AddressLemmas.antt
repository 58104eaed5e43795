-- Which bytes are an address or a path.
use Rattle.std.proofs.Common.{◌≡◌, ◌<◌, ◌≤◌, ℕ, List, length, Some, None, refl, inl, inr}
use Rattle.std.specs.Str.{is_utf8, IsUtf8}
use Rattle.std.proofs.lemmas.Str.{is_utf8-from_IsUtf8, IsUtf8-from_is_utf8}
use Rattle.std.proofs.lemmas.Bool.{cases_Bool, lt-ltb, le-leb}
use Rattle.svc_work.specs.Works.{address_of}

-- those of a text that is neither empty nor too long
pub address_here : (word : List ℕ) → IsUtf8 word → 0 < length word → length word ≤ 4096 → Some word ≡ address_of word
unfolding address_of
address_here word h some few = rw (is_utf8-from_IsUtf8 word h, lt-ltb 0 (length word) some, le-leb (length word) 4096 few) refl

-- no others
pub address_missing : (word : List ℕ) → ¬ (IsUtf8 word) → None ≡ address_of word
unfolding address_of
address_missing word h =
    elim (cases_Bool (is_utf8 word)) [
      | inl t ↦ absurd (h (IsUtf8-from_is_utf8 word t))
      | inr f ↦ rw f refl
    ]
