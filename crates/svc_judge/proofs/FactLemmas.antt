-- Messages that are read, and the startup order.
use Rattle.std.proofs.Common.{ℕ, Bool, inl, inr, List, [], ◌∷◌, ◌≡◌, refl, length, Some, None}
use Rattle.std.specs.List.{find}
use Rattle.std.specs.Option.{option_to_list}
use Rattle.std.specs.Str.{is_utf8, IsUtf8}
use Rattle.std.proofs.lemmas.Bool.{cases_Bool, eq-eqb, ne_eqb}
use Rattle.std.proofs.lemmas.Str.{IsUtf8-from_is_utf8, is_utf8-from_IsUtf8}
use Rattle.svc_fds.specs.declared.errors.DecodeError.{DecodeError}
use Rattle.svc_fds.specs.declared.errors.DecodeError.TheVariants.{NotUtf8, BadForm, Unequal, Repeated, NoMemory}
use Rattle.svc_fds.specs.Messages.{words, IsMessage, DecodeRefusalFits}
use Rattle.svc_record.specs.Message.{decode}
use Rattle.svc_record.specs.Starts.{first_number}

none-read : (bytes : List ℕ) (n : ℕ) → (IsUtf8 bytes → ⊥) → decode bytes n ≡ None
none-read bytes n bad = elim (cases_Bool (is_utf8 bytes)) [ inl y ↦ absurd (bad (IsUtf8-from_is_utf8 bytes y)) | inr off ↦ rw off refl ]

-- a message is read as its words
pub read-message : (bytes : List ℕ) (n : ℕ) → IsMessage bytes n → decode bytes n ≡ Some (words bytes)
read-message bytes n m = rw (is_utf8-from_IsUtf8 bytes m.text, m.form, eq-eqb (length (words bytes)) n m.pairs.equal, m.pairs.distinct) refl

-- what is refused, and not for want of memory, isn't read
pub read-refused : (bytes : List ℕ) (n : ℕ) (e : DecodeError) → (e ≡ NoMemory → ⊥) → DecodeRefusalFits bytes n e → decode bytes n ≡ None
read-refused bytes n NotUtf8 other bad = none-read bytes n bad
read-refused bytes n BadForm other fit = rw (is_utf8-from_IsUtf8 bytes fit.0, fit.1) refl
read-refused bytes n Unequal other fit = rw (is_utf8-from_IsUtf8 bytes fit.0, fit.1, ne_eqb (length (words bytes)) n fit.2) refl
read-refused bytes n Repeated other fit = rw (is_utf8-from_IsUtf8 bytes fit.0, fit.1, eq-eqb (length (words bytes)) n fit.2, fit.3) refl
read-refused bytes n NoMemory other fit = absurd (other refl)

-- the first number that passes a test is the one that is found
pub first_number_is : (test : ℕ → Bool) (ns : List ℕ) → first_number test ns ≡ option_to_list (find test ns)
first_number_is test [] = refl
first_number_is test (n ∷ ns) = elim (cases_Bool (test n)) [ inl y ↦ rw (y) | inr off ↦ rw (off) (first_number_is test ns) ]
