-- What the bytes of a line are: its blanks, its key, its value and its comment.
use Rattle.std.specs.Prelude.{ℕ, Bool, true, false, not, ◌||◌, ◌&&◌, ◌==◌, nat_lt, if◌then◌else◌, List, [], ◌∷◌, take, drop}
use Rattle.std.specs.List.{position_or_len}
use Rattle.std.specs.Char.{is_ascii_alphanumeric}
use Rattle.svc_base.specs.Words.{is_blank}

-- an ASCII letter, a digit, `_`, `-` or `.`
abbrev pub is_key_byte : ℕ → Bool
is_key_byte b = is_ascii_alphanumeric b || (b == 95) || (b == 45) || (b == 46)

abbrev pub not_key_byte : ℕ → Bool
not_key_byte b = not (is_key_byte b)

-- the first byte is there and passes
abbrev pub first_is : (ℕ → Bool) → List ℕ → Bool
first_is test [] = false
first_is test (b ∷ bs) = test b

-- what follows the blanks at the front
abbrev pub past_blanks : List ℕ → List ℕ
past_blanks [] = []
past_blanks (b ∷ bs) = if is_blank b then past_blanks bs else b ∷ bs

-- nothing, or a comment
abbrev pub is_silent : List ℕ → Bool
is_silent [] = true
is_silent (b ∷ bs) = b == 35

-- blanks alone, or a comment behind them
abbrev pub is_skipped : List ℕ → Bool
is_skipped line = is_silent (past_blanks line)

-- what may follow a closing quote: nothing, or blanks with a comment behind them perhaps
abbrev pub is_end : List ℕ → Bool
is_end [] = true
is_end (b ∷ bs) = is_blank b && is_skipped bs

-- nothing, or something behind a blank
abbrev pub is_gap : List ℕ → Bool
is_gap [] = true
is_gap (b ∷ bs) = is_blank b

-- three dashes and nothing more
abbrev pub is_start : List ℕ → Bool
is_start (a ∷ b ∷ c ∷ bs) = (a == 45) && (b == 45) && (c == 45) && is_end bs
is_start _ = false

-- how many bytes at the front are those of a key
abbrev pub key_len : List ℕ → ℕ
key_len line = position_or_len not_key_byte line

-- a key at the front, a colon behind it, and then nothing or a blank
abbrev pub is_key_line : List ℕ → Bool
is_key_line line = nat_lt 0 (key_len line) && first_is (λ b. b == 58) (drop (key_len line) line) && is_gap (drop 1 (drop (key_len line) line))

-- the key of such a line, and what follows its colon
abbrev pub key_in : List ℕ → List ℕ
key_in line = take (key_len line) line

abbrev pub after_key : List ℕ → List ℕ
after_key line = drop 1 (drop (key_len line) line)

-- a dash behind the blanks at the front, if any, and a blank behind the dash
abbrev pub is_item : List ℕ → Bool
is_item line = first_is (λ b. b == 45) (past_blanks line) && first_is is_blank (drop 1 (past_blanks line))

-- what follows the dash of such a line
abbrev pub after_dash : List ℕ → List ℕ
after_dash line = drop 1 (past_blanks line)

-- it begins with a blank or a dash
abbrev pub is_inner : List ℕ → Bool
is_inner line = first_is (λ b. is_blank b || (b == 45)) line

-- what stands before a comment, which begins at a `#` that is the first byte or follows a blank
abbrev pub before_comment : Bool → List ℕ → List ℕ
before_comment free [] = []
before_comment free (b ∷ bs) = if free && (b == 35) then [] else b ∷ before_comment (is_blank b) bs

-- the byte, unless it is a blank before the end
abbrev pub unless_blank : ℕ → List ℕ → List ℕ
unless_blank b [] = if is_blank b then [] else b ∷ []
unless_blank b (c ∷ bs) = b ∷ c ∷ bs

-- the bytes without the blanks at the end
abbrev pub without_end : List ℕ → List ℕ
without_end [] = []
without_end (b ∷ bs) = unless_blank b (without_end bs)
