-- What the definitions of a message say of closed tables and bytes.
use Rattle.std.proofs.Common.{◌≡◌, ℕ, ◌∙◌, ◌+◌, true, false, List, [], ◌∷◌, ◌++◌, refl, ap, length, length-append, arith}
use Rattle.std.specs.Prelude.{codes}
use Rattle.std.specs.Fmt.{decimal, digits}
use Rattle.std.specs.Str.{is_utf8, chars}
use lib.Utf8.{encode}
use Rattle.svc_base.specs.Words.{number_of}
use Rattle.svc_fds.specs.Messages.{framed, message_bytes, front_word, framed_words, is_well_formed, words}

-- two addresses without blanks are joined
two_joined : message_bytes ((codes "1.1.1.1:443", 129) ∷ (codes "1.1.1.1:80", 128) ∷ []) ≡ codes "1.1.1.1:443 1.1.1.1:80"
unfolding message_bytes
two_joined = refl

-- one with a blank is framed, and read again
blank_framed : message_bytes ((codes "a b", 3) ∷ []) ≡ codes " v2 3:a b"
unfolding message_bytes digits
blank_framed = refl

blank_read : words (codes " v2 3:a b") ≡ codes "a b" ∷ []
unfolding words framed_words front_word number_of is_utf8 chars digits encode
blank_read = refl

-- what version 2 begins with, and nothing more, is the empty table
empty_read : words (codes " v2 ") ≡ []
unfolding words framed_words
empty_read = refl

empty_well_formed : is_well_formed (codes " v2 ") ≡ true
unfolding is_well_formed framed_words
empty_well_formed = refl

-- a length has no leading zero
leading_zero : is_well_formed (codes " v2 03:a b") ≡ false
unfolding is_well_formed framed_words front_word number_of is_utf8 chars digits encode
leading_zero = refl

-- no word is empty
empty_word : is_well_formed (codes " v2 0:") ≡ false
unfolding is_well_formed framed_words front_word number_of is_utf8 chars digits encode
empty_word = refl

-- a word is there whole
short_word : is_well_formed (codes " v2 3:a") ≡ false
unfolding is_well_formed framed_words front_word number_of is_utf8 chars digits encode
short_word = refl

-- a word ends where the next length begins, and nothing follows the last
long_word : is_well_formed (codes " v2 2:a1:b") ≡ false
unfolding is_well_formed framed_words front_word number_of is_utf8 chars digits encode
long_word = refl

-- a length counts bytes: an é has two, and one of them is no word
half_character : is_well_formed (codes " v2 1:" ++ (195 ∷ 169 ∷ [])) ≡ false
unfolding is_well_formed framed_words front_word number_of is_utf8 chars digits encode
half_character = refl

-- the length of what one address is framed as
one_framed : (address : List ℕ) (fd : ℕ) → length (framed ((address, fd) ∷ [])) ≡ 5 + length (decimal (length address)) + length address
one_framed address fd =
    let whole = length-append (codes " v2 ") ((decimal (length address) ++ (58 ∷ address)) ++ []) in
    let frame = length-append (decimal (length address) ++ (58 ∷ address)) [] in
    let parts = length-append (decimal (length address)) (58 ∷ address) in
    omega arith

bytes_2049 : (address : List ℕ) (fd : ℕ) → length address ≡ 2049 → length (framed ((address, fd) ∷ [])) ≡ 2058
unfolding digits
bytes_2049 address fd size = one_framed address fd ∙ ap (λ n. 5 + length (decimal n) + n) size

bytes_65526 : (address : List ℕ) (fd : ℕ) → length address ≡ 65526 → length (framed ((address, fd) ∷ [])) ≡ 65536
unfolding digits
bytes_65526 address fd size = one_framed address fd ∙ ap (λ n. 5 + length (decimal n) + n) size

bytes_65527 : (address : List ℕ) (fd : ℕ) → length address ≡ 65527 → length (framed ((address, fd) ∷ [])) ≡ 65537
unfolding digits
bytes_65527 address fd size = one_framed address fd ∙ ap (λ n. 5 + length (decimal n) + n) size
