-- The lines of a script up to the first that does not fit those before it.
use Rattle.std.specs.Prelude.{◌≡◌, ◌≤◌, ◌+◌, ◌==◌, ◌||◌, ℕ, false, not, List, length, All, is_none, if◌then◌else◌, Result, Ok, Err}
use Rattle.std.specs.Str.Lines.{lines}
use Rattle.svc_conf.specs.declared.server.configuration.ServerConf.{ServerConf}
use Rattle.svc_text.specs.declared.parsing.Script.{Script}
use Rattle.svc_text.specs.declared.parsing.ScriptError.{ScriptError}
use Rattle.svc_text.specs.declared.parsing.ScriptError.TheVariants.{Line}
use Rattle.svc_text.specs.declared.reading.Reading.{Reading}
use Rattle.svc_text.specs.declared.front.ParsedPrefix.{ParsedPrefix}
use Rattle.svc_text.specs.Accepted.{AreAccepted, BringsFew}
use Rattle.svc_text.specs.ConfTexts.{IsConfText}
use Rattle.svc_text.specs.Script.{section_index, begun, services_in, eager_in, items_in, first_misfit, fitting, AreLines}

-- the reading has what these lines say
pub record HasSaid (ls : List (List ℕ)) (r : Reading) : Type 0 where
  pub part : section_index r.part ≡ begun ls
  pub services : r.services.items ≡ services_in ls
  pub eager : r.eager ≡ eager_in ls
  pub items : r.items ≡ items_in ls
  pub accepted : AreAccepted r.services.items
  pub few : All BringsFew r.items

-- the lines that fit are counted, with the place of the configuration; and where all fit, with what they say
pub record IsFront (all : List ℕ) (f : ParsedPrefix) : Type 0 where
  pub number : f.number ≡ length (fitting (lines all))
  pub short : f.number ≤ length all
  pub whole : is_none (first_misfit (lines all)) ≡ not f.refused
  pub conf : IsConfText all (fitting (lines all)) f.conf
  pub said : f.refused ≡ false → HasSaid (fitting (lines all)) f.reading
  pub places : f.refused ≡ false → AreLines (lines all) (length f.reading.services.items) f.lines.items

-- what follows with this configuration: where a line doesn't fit or a part is missing, the next line is refused
abbrev pub finished : ParsedPrefix → ServerConf → Result Script ScriptError
finished f conf =
    if f.refused || not (section_index f.reading.part == 3) then Err (Line (f.number + 1))
    else Ok (record { conf = conf; services = f.reading.services; eager = f.reading.eager; items = f.reading.items; lines = f.lines })
