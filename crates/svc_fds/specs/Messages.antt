-- The handover message: what a table is written as, in version 1 where that says it and else in version 2, and what bytes and numbers are read as.
use Rattle.std.specs.Prelude.{ℕ, zero, suc, ◌≡◌, ◌≢◌, ◌<◌, ◌≤◌, ◌==◌, ◌&&◌, ◌||◌, ◌^◌, Bool, true, false, not, Option, Some, None, List, [], ◌∷◌, ◌++◌, All, nat_eq, nat_lt, nat_le, length, filter, take, drop, is_some, unwrap_or, if◌then◌else◌}
use Rattle.std.specs.Fmt.{decimal}
use Rattle.std.specs.List.{AllByRecursion, list_any, slice_split, join_with_byte, flat_map, starts_with, before_first, after_first, zip}
use Rattle.std.specs.Option.{option_map, option_and_then}
use Rattle.std.specs.Char.{is_ascii_whitespace}
use Rattle.std.specs.Str.{IsUtf8, is_utf8}
use Rattle.svc_base.specs.Words.{number_of}
use Rattle.svc_fds.specs.declared.encoding.Message.{Message}
use Rattle.svc_fds.specs.declared.errors.EncodeError.{EncodeError}
use Rattle.svc_fds.specs.declared.errors.EncodeError.TheVariants.{BadAddress, TooLong, TooMany}
use Rattle.svc_fds.specs.declared.errors.EncodeError.TheVariants as encodes
use Rattle.svc_fds.specs.declared.errors.DecodeError.{DecodeError}
use Rattle.svc_fds.specs.declared.errors.DecodeError.TheVariants.{NotUtf8, BadForm, Unequal, Repeated}
use Rattle.svc_fds.specs.declared.errors.DecodeError.TheVariants as decodes
use Rattle.svc_fds.specs.Tables.{Entry, addresses, numbers, put_all}
use Rattle.svc_fds.specs.Lists.{has_repeat, ArePairs}

-- each address is a text
abbrev pub AreTexts : List Entry → Type 0
AreTexts es = AllByRecursion (λ (e : Entry). IsUtf8 e.0) es

-- no message says an empty address
abbrev pub has_empty_address : List Entry → Bool
has_empty_address es = list_any (λ e. length e.0 == 0) es

-- version 1 doesn't say an address that is empty or holds a space, tab, line feed, form feed or carriage return
abbrev pub is_unjoinable : List ℕ → Bool
is_unjoinable address = (length address == 0) || list_any is_ascii_whitespace address

abbrev pub has_unjoinable : List Entry → Bool
has_unjoinable es = list_any (λ e. is_unjoinable e.0) es

-- version 1: the addresses joined by single spaces
abbrev pub joined : List Entry → List ℕ
joined es = join_with_byte 32 (addresses es)

-- version 1 says the table: it says each address, and has at most 2,048 bytes
abbrev pub is_joinable : List Entry → Bool
is_joinable es = not (has_unjoinable es) && nat_le (length (joined es)) 2048

-- what version 2 begins with: a space, v2 and a space
abbrev pub version_2 : List ℕ
version_2 = 32 ∷ 118 ∷ 50 ∷ 32 ∷ []

-- an address after its length in bytes, in decimal, and a colon
abbrev pub frame : List ℕ → List ℕ
frame address = decimal (length address) ++ (58 ∷ address)

-- version 2: that beginning, and the frame of each address
abbrev pub framed : List Entry → List ℕ
framed es = version_2 ++ flat_map frame (addresses es)

-- version 2 says the table: no address is empty, and it has at most 65,536 bytes
abbrev pub is_frameable : List Entry → Bool
is_frameable es = not (has_empty_address es) && nat_le (length (framed es)) 65536

-- one of the two says the table
unfoldable pub is_sayable : List Entry → Bool
is_sayable es = is_joinable es || is_frameable es

-- the bytes of a table's message: version 1 where that says the table, else version 2
unfoldable pub message_bytes : List Entry → List ℕ
message_bytes es = if is_joinable es then joined es else framed es

-- the message of a table, with the descriptors in the same order
abbrev pub written : List Entry → Message
written es = record { bytes = message_bytes es; fds = numbers es }

-- the table has a message
pub record IsEncodable (es : List Entry) : Type 0 where
  pub said : is_sayable es ≡ true
  pub few : length es ≤ 32

-- the error is right for this table
abbrev pub EncodeRefusalFits : List Entry → EncodeError → Type 0
EncodeRefusalFits es BadAddress = has_empty_address es ≡ true
EncodeRefusalFits es TooLong = (has_empty_address es ≡ false) × (is_joinable es ≡ false) × (65536 < length (framed es))
EncodeRefusalFits es TooMany = (is_sayable es ≡ true) × (32 < length es)
EncodeRefusalFits es encodes.NoMemory = Unit {0}

-- the words between blanks, in order: version 1
abbrev pub joined_words : List ℕ → List (List ℕ)
joined_words bytes = filter (λ word. not (length word == 0)) (slice_split is_ascii_whitespace bytes)

-- so many bytes and what follows them: at least one, all of them there, and UTF-8
abbrev pub cut_word : ℕ → List ℕ → Option (List ℕ × List ℕ)
cut_word n bytes = if (nat_lt 0 n && nat_le n (length bytes)) && is_utf8 (take n bytes) then Some (take n bytes, drop n bytes) else None

-- the word at the front, after its length without leading zeros and a colon, and what follows it
unfoldable pub front_word : List ℕ → Option (List ℕ × List ℕ)
front_word bytes = option_and_then (λ n. cut_word n (after_first (λ b. b == 58) bytes)) (number_of (2 ^ 64) (before_first (λ b. b == 58) bytes))

-- the words, at most so many, where the bytes are words after their lengths and nothing else
abbrev pub words_within : ℕ → List ℕ → Option (List (List ℕ))
words_within zero [] = Some []
words_within zero (b ∷ bytes) = None
words_within (suc most) [] = Some []
words_within (suc most) (b ∷ bytes) = option_and_then (λ cut. option_map (λ words. cut.0 ∷ words) (words_within most cut.1)) (front_word (b ∷ bytes))

-- the words one after the other, each after its length: version 2, without what it begins with
unfoldable pub framed_words : List ℕ → Option (List (List ℕ))
framed_words bytes = words_within (length bytes) bytes

-- the bytes are the frames of these words, none of which is empty, and each of which is UTF-8
pub record AreFrames (words : List (List ℕ)) (bytes : List ℕ) : Type 0 where
  pub are : bytes ≡ flat_map frame words
  pub some : All (λ (word : List ℕ). 0 < length word) words
  pub texts : All (λ (word : List ℕ). IsUtf8 word) words

-- the bytes begin as version 2
abbrev pub is_framed : List ℕ → Bool
is_framed bytes = starts_with nat_eq bytes version_2

-- where they begin so, the rest is a list of lengths and words
unfoldable pub is_well_formed : List ℕ → Bool
is_well_formed bytes = not (is_framed bytes) || is_some (framed_words (drop 4 bytes))

-- the words of a message
unfoldable pub words : List ℕ → List (List ℕ)
words bytes = if is_framed bytes then unwrap_or (framed_words (drop 4 bytes)) [] else joined_words bytes

-- the bytes are a message with so many descriptors
pub record IsMessage (bytes : List ℕ) (count : ℕ) : Type 0 where
  pub text : IsUtf8 bytes
  pub form : is_well_formed bytes ≡ true
  pub pairs : ArePairs (words bytes) count

-- the table of a message: its k-th word with its k-th number
abbrev pub table_of : List ℕ → List ℕ → List Entry
table_of bytes fds = put_all (zip (words bytes) fds) []

-- the error is right for these bytes and so many descriptors
abbrev pub DecodeRefusalFits : List ℕ → ℕ → DecodeError → Type 0
DecodeRefusalFits bytes count NotUtf8 = IsUtf8 bytes → ⊥
DecodeRefusalFits bytes count BadForm = IsUtf8 bytes × (is_well_formed bytes ≡ false)
DecodeRefusalFits bytes count Unequal = IsUtf8 bytes × (is_well_formed bytes ≡ true) × (length (words bytes) ≢ count)
DecodeRefusalFits bytes count Repeated = IsUtf8 bytes × (is_well_formed bytes ≡ true) × (length (words bytes) ≡ count) × (has_repeat (words bytes) ≡ true)
DecodeRefusalFits bytes count decodes.NoMemory = Unit {0}

-- a reader of version 1 alone reads these bytes with so many descriptors as a message
pub record IsOldMessage (bytes : List ℕ) (count : ℕ) : Type 0 where
  pub text : IsUtf8 bytes
  pub pairs : ArePairs (joined_words bytes) count

-- and as this table
abbrev pub old_table_of : List ℕ → List ℕ → List Entry
old_table_of bytes fds = put_all (zip (joined_words bytes) fds) []
