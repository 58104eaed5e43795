-- Whether a message can be read.
use Rattle.std.proofs.Common.{ℕ, Bool, true, false, ◌&&◌, not, ◌==◌, ◌⊎◌, inl, inr, List, ◌≡◌, refl, length, Some, None, if◌then◌else◌}
use Rattle.std.specs.Str.{is_utf8, IsUtf8}
use Rattle.std.proofs.lemmas.Bool.{cases_Bool, eq-eqb, eqb-true}
use Rattle.std.proofs.lemmas.Str.{IsUtf8-from_is_utf8, is_utf8-from_IsUtf8}
use Rattle.svc_fds.specs.Lists.{has_repeat}
use Rattle.svc_fds.specs.declared.errors.DecodeError.{DecodeError}
use Rattle.svc_fds.specs.declared.errors.DecodeError.TheVariants.{NotUtf8, BadForm, Unequal, Repeated, NoMemory}
use Rattle.svc_fds.specs.Messages.{is_well_formed, words, IsMessage, DecodeRefusalFits}
use Rattle.svc_record.specs.Message.{decode}
use Rattle.svc_record.specs.Descriptors.{words_or_none}

pub decode-none : (bytes : List ℕ) (n : ℕ) → (IsUtf8 bytes → ⊥) → decode bytes n ≡ None
decode-none bytes n bad = elim (cases_Bool (is_utf8 bytes)) [
  | inl y ↦ absurd (bad (IsUtf8-from_is_utf8 bytes y))
  | inr off ↦ rw off refl
]

-- a message is read as its words
pub decode-message : (bytes : List ℕ) (n : ℕ) → IsMessage bytes n → decode bytes n ≡ Some (words bytes)
decode-message bytes n m = rw (is_utf8-from_IsUtf8 bytes m.text, m.form, eq-eqb (length (words bytes)) n m.pairs.equal, m.pairs.distinct) refl

unequal : (x n : ℕ) → (x ≡ n → ⊥) → (x == n) ≡ false
unequal x n off = elim (cases_Bool (x == n)) [
  | inl y ↦ absurd (off (eqb-true x n y))
  | inr differs ↦ differs
]

-- what is refused, and not for want of memory, is none
pub decode-refused : (bytes : List ℕ) (n : ℕ) (e : DecodeError) → (e ≡ NoMemory → ⊥) → DecodeRefusalFits bytes n e → decode bytes n ≡ None
decode-refused bytes n NotUtf8 other bad = decode-none bytes n bad
decode-refused bytes n BadForm other fit = rw (is_utf8-from_IsUtf8 bytes fit.0, fit.1) refl
decode-refused bytes n Unequal other fit = rw (is_utf8-from_IsUtf8 bytes fit.0, fit.1, unequal (length (words bytes)) n fit.2) refl
decode-refused bytes n Repeated other fit = rw (is_utf8-from_IsUtf8 bytes fit.0, fit.1, eq-eqb (length (words bytes)) n fit.2, fit.3) refl
decode-refused bytes n NoMemory other fit = absurd (other refl)

-- the words that are read are distinct
pub read-apart : (bytes : List ℕ) (n : ℕ) → has_repeat (words_or_none (decode bytes n)) ≡ false
read-apart bytes n = by_tests (is_utf8 bytes && is_well_formed bytes) (length (words bytes) == n) (cases_Bool (has_repeat (words bytes)))
  where
    by_tests : (u l : Bool) → ((has_repeat (words bytes) ≡ true) ⊎ (has_repeat (words bytes) ≡ false))
        → has_repeat (words_or_none (if (u && l) && not (has_repeat (words bytes)) then Some (words bytes) else None)) ≡ false
    by_tests true true (inl y) = rw y refl
    by_tests true true (inr m) = rw m m
    by_tests true false r = refl
    by_tests false l r = refl
