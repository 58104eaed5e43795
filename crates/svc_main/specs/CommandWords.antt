-- Which words the program takes, and the flags that they say.
use Rattle.std.specs.Prelude.{◌≡◌, ◌≢◌, ◌⊎◌, ℕ, ◌^◌, ◌&&◌, nat_le, true, if◌then◌else◌, List, [], ◌∷◌, codes, Option, Some, None}
use Rattle.std.specs.Str.{bytes_eq}
use Rattle.clap.specs.Simple.{matches_of}
use Rattle.clap.specs.Takes.{takes}
use Rattle.clap.specs.Faults.{fault_of}
use Rattle.svc_conf.specs.declared.server.configuration.Opt.{Opt}
use Rattle.svc_conf.specs.OptWords.{opt_app, opt_of}
use Rattle.svc_base.specs.Options.{◌>>=◌}
use Rattle.svc_base.specs.Words.{number_of}

-- the first word is `run`; to the reader of the flags it stands in the place of the program's name
abbrev pub BeginsWithRun : List (List ℕ) → Type 0
BeginsWithRun words = (more : List (List ℕ)) × (words ≡ codes "run" ∷ more)

-- the words are `run` and flags without a fault
pub record TakesWords (words : List (List ℕ)) : Type 0 where
  pub run : BeginsWithRun words
  pub flags : fault_of opt_app words ≡ []

-- the words are `run` and flags that the command of the flags takes
pub record AcceptsWords (words : List (List ℕ)) : Type 0 where
  pub run : BeginsWithRun words
  pub flags : takes opt_app words ≡ true

-- the flags have a fault, and the command doesn't take them
pub record RefusesFlags (words : List (List ℕ)) : Type 0 where
  pub fault : fault_of opt_app words ≢ []
  pub not_taken : takes opt_app words ≢ true

-- the words don't begin with `run`, or have flags that are refused, as a request for help is
abbrev pub RefusesRun : List (List ℕ) → Type 0
RefusesRun words = (BeginsWithRun words → ⊥) ⊎ RefusesFlags words

-- how many services the generator is to make, by a word: from 1 to 1,024
unfoldable pub size_of : List ℕ → Option ℕ
size_of word = number_of (2 ^ 64) word >>= λ n. if nat_le 1 n && nat_le n 1024 then Some n else None

-- the same, where the word before it is `gen`
abbrev pub size_after : List ℕ → List ℕ → Option ℕ
size_after key word = if bytes_eq key (codes "gen") then size_of word else None

-- how many services the generator is to make, where the words are `gen` and a number
unfoldable pub made_size : List (List ℕ) → Option ℕ
made_size (key ∷ word ∷ []) = size_after key word
made_size _ = None

-- the words are neither those of a run nor those of the generator
abbrev pub RefusesWords : List (List ℕ) → Type 0
RefusesWords words = (made_size words ≡ None) × RefusesRun words

-- the flags that the words say
abbrev pub flags_of : List (List ℕ) → Opt
flags_of words = opt_of (matches_of opt_app words)
