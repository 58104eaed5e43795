-- What parsing answers.
use Rattle.std.specs.Prelude.{◌≡◌, ℕ, ◌+◌, Bool, true, false, ◌&&◌, ◌||◌, ◌==◌, if◌then◌else◌, List, [], ◌++◌, Result, Ok, Err}
use Rattle.svc_conf.specs.declared.server.configuration.ServerConf.{ServerConf}
use Rattle.svc_conf.specs.declared.server.configuration.read_error.ReadError.{ReadError}
use Rattle.svc_text.specs.declared.parsing.Script.{Script}
use Rattle.svc_text.specs.declared.parsing.ScriptError.{ScriptError}
use Rattle.svc_text.specs.declared.parsing.ScriptError.TheVariants.{Line, NoMemory}
use Rattle.svc_text.specs.Script.{Parts, section_index, is_header, refused_line, said_services, said_eager, said_items}
use Rattle.std.specs.Option.{option_to_list}
use Rattle.svc_text.specs.EventLines.{item_of}
use Rattle.svc_text.specs.ServiceLines.{service_of, is_eager}
use Rattle.svc_text.specs.declared.reading.Reading.{Reading}
use Rattle.svc_text.specs.declared.reading.LineError.{LineError}
use Rattle.svc_text.specs.declared.reading.LineError.TheVariants as lines

-- what a script says
abbrev pub parts_of : Script → Parts
parts_of s = record { conf = s.conf; services = s.services.items; eager = s.eager; items = s.items }

-- the answer is the definition's, unless memory ran out
abbrev pub Gives : Result Script ScriptError → Result Parts ℕ → Type 0
Gives (Ok s) read = read ≡ Ok (parts_of s)
Gives (Err (Line n)) read = read ≡ Err n
Gives (Err NoMemory) read = Unit {0}

-- the answer is what the text of a configuration says, whose lines follow so many others, unless memory ran out
abbrev pub SaysConf : Result ServerConf ScriptError → ℕ → Result ServerConf ReadError → Type 0
SaysConf (Ok conf) before read = read ≡ Ok conf
SaysConf (Err (Line n)) before read = (e : ReadError) × (read ≡ Err e) × (n ≡ before + refused_line e)
SaysConf (Err NoMemory) before read = Unit {0}

-- the reading after one more line
pub record After (old : Reading) (line : List ℕ) (new : Reading) : Type 0 where
  pub part : section_index new.part ≡ section_index old.part + (if is_header line then 1 else 0)
  pub eager : new.eager ≡ (old.eager || said_eager (section_index old.part) line)
  pub services : new.services.items ≡ old.services.items ++ said_services (section_index old.part) line
  pub items : new.items ≡ old.items ++ said_items (section_index old.part) line

-- the reading after these words, in a line that begins no part and isn't one of the configuration
abbrev pub Said : Reading → List (List ℕ) → Reading → Type 0
Said old ws new =
    (new.part ≡ old.part)
    × (new.services.items ≡ old.services.items ++ (if section_index old.part == 2 then option_to_list (service_of ws) else []))
    × (new.eager ≡ (old.eager || ((section_index old.part == 2) && is_eager ws)))
    × (new.items ≡ old.items ++ (if section_index old.part == 3 then option_to_list (item_of ws) else []))

-- a test that was passed, or was the refusal
abbrev pub Tests : {A : Type 0} → Bool → Result A LineError → Type 0
Tests test (Ok x) = test ≡ true
Tests test (Err lines.Refused) = test ≡ false
Tests test (Err lines.NoMemory) = Unit {0}
