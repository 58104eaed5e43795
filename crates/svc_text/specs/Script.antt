-- What a script says, or which line is the first that does not fit those before it.
use Rattle.std.specs.Prelude.{◌≡◌, ◌<◌, ℕ, ◌+◌, ◌-◌, Bool, true, false, not, ◌||◌, ◌&&◌, ◌==◌, nat_lt, if◌then◌else◌, List, [], ◌∷◌, length, take, find, count_by, codes, slice_index, Option, Some, None, is_some, is_none, unwrap_or, Result, Ok, Err}
use Rattle.std.specs.List.{slice_split, slice_index_or, filter_map, list_any, range_with_len}
use Rattle.std.specs.Option.{option_to_list}
use Rattle.std.specs.Str.{bytes_eq, is_utf8}
use Rattle.std.specs.Str.Lines.{lines}
use Rattle.svc_conf.specs.declared.server.configuration.ServerConf.{ServerConf}
use Rattle.svc_conf.specs.declared.server.configuration.read_error.ReadError.{ReadError}
use Rattle.svc_conf.specs.declared.server.configuration.read_error.ReadError.TheVariants as errors
use Rattle.svc_conf.specs.Configuration.{defaults}
use Rattle.svc_conf.specs.ConfigurationText.{said_from, overridden_by}
use Rattle.svc_base.specs.Words.{words}
use Rattle.svc_record.specs.declared.item.Item.{Item}
use Rattle.svc_text.specs.EventLines.{item_of}
use Rattle.svc_text.specs.declared.part.Section.{Section}
use Rattle.svc_text.specs.declared.part.Section.TheVariants.{Nothing, Conf, Services, Events}
use Rattle.svc_text.specs.declared.service.ServiceLine.{ServiceLine}
use Rattle.svc_text.specs.ServiceLines.{service_of, is_eager}

-- the number of headers from the start to this part's
abbrev pub section_index : Section → ℕ
section_index Nothing = 0
section_index Conf = 1
section_index Services = 2
section_index Events = 3

-- the part that a header line begins
unfoldable pub header_of : List ℕ → Option Section
header_of line =
    if bytes_eq line (codes "%conf") then Some Conf
    else (if bytes_eq line (codes "%services") then Some Services
    else (if bytes_eq line (codes "%events") then Some Events else None))

-- the line begins a part
abbrev pub is_header : List ℕ → Bool
is_header line = is_some (header_of line)

-- how many headers stand among the lines
unfoldable pub begun : List (List ℕ) → ℕ
begun ls = count_by is_header ls

-- the lines of the part behind the nth header
unfoldable pub part_of : ℕ → List (List ℕ) → List (List ℕ)
part_of n ls = slice_index_or (slice_split is_header ls) n []

-- the services that the lines say
unfoldable pub services_in : List (List ℕ) → List ServiceLine
services_in ls = filter_map (λ l. service_of (words l)) (part_of 2 ls)

-- one of the lines is `eager`
unfoldable pub eager_in : List (List ℕ) → Bool
eager_in ls = list_any (λ l. is_eager (words l)) (part_of 2 ls)

-- what the lines of the configuration say, or which of them is refused
unfoldable pub conf_in : List (List ℕ) → Result ServerConf ReadError
conf_in ls = overridden_by defaults (said_from [] (part_of 1 ls))

-- the items that the lines say
unfoldable pub items_in : List (List ℕ) → List Item
items_in ls = filter_map (λ l. item_of (words l)) (part_of 3 ls)

-- a blank line, or a comment
unfoldable pub is_skipped : List (List ℕ) → Bool
is_skipped [] = true
is_skipped (w ∷ ws) = slice_index w 0 == 35

-- the service may come after these
abbrev pub is_next : List ServiceLine → Option ServiceLine → Bool
is_next services o = is_some o && nat_lt (length services) 1024

-- the words may stand in the part of the services
unfoldable pub says_service : Bool → List ServiceLine → List (List ℕ) → Bool
says_service eager services ws = if is_eager ws then not eager else is_next services (service_of ws)

-- the words may stand in the part
unfoldable pub says_item : ℕ → Bool → List ServiceLine → List (List ℕ) → Bool
says_item part eager services ws = if part == 2 then says_service eager services ws else (if part == 3 then is_some (item_of ws) else false)

-- a line, which may begin a part, fits its place; those of the configuration are looked at together
unfoldable pub place_fits : ℕ → Bool → List ServiceLine → List ℕ → Option Section → Bool
place_fits part eager services line (Some p) = section_index p == part + 1
place_fits part eager services line None = (part == 1) || (is_skipped (words line) || says_item part eager services (words line))

-- a line fits what was said before it
unfoldable pub line_fits : ℕ → Bool → List ServiceLine → List ℕ → Bool
line_fits part eager services line = is_utf8 line && place_fits part eager services line (header_of line)

-- the line at index k fits those before it
unfoldable pub fits_at : List (List ℕ) → ℕ → Bool
fits_at ls k = line_fits (begun (take k ls)) (eager_in (take k ls)) (services_in (take k ls)) (slice_index_or ls k [])

-- the index of the first line that does not fit
unfoldable pub first_misfit : List (List ℕ) → Option ℕ
first_misfit ls = find (λ k. not (fits_at ls k)) (range_with_len 0 (length ls))

-- the lines before the first that does not fit, or all
unfoldable pub fitting : List (List ℕ) → List (List ℕ)
fitting ls = take (unwrap_or (first_misfit ls) (length ls)) ls

-- what a script says
pub record Parts : Type 0 where
  pub conf : ServerConf
  pub services : List ServiceLine
  pub eager : Bool
  pub items : List Item

-- the line that a refusal names, from 1
abbrev pub refused_line : ReadError → ℕ
refused_line (errors.Line n) = n
refused_line (errors.Value key n) = n
refused_line _ = 0

-- how many lines stand before those of the configuration
abbrev pub lines_before : List (List ℕ) → ℕ
lines_before ls = length (part_of 0 ls) + 1

-- what lines that fit, which are all or not, say: a refused line of the configuration comes first; else the line behind them is refused, where they
-- aren't all or a part is missing
unfoldable pub judged : Bool → Result ServerConf ReadError → List (List ℕ) → Result Parts ℕ
judged all (Err e) ls = Err (lines_before ls + refused_line e)
judged all (Ok conf) ls =
    if all && (begun ls == 3) then Ok (record { conf = conf; services = services_in ls; eager = eager_in ls; items = items_in ls })
    else Err (length ls + 1)

-- what lines say as a script, or the number of the first refused one, from 1
unfoldable pub script_of : List (List ℕ) → Result Parts ℕ
script_of ls = judged (is_none (first_misfit ls)) (conf_in (fitting ls)) (fitting ls)

-- what the bytes say as a script, or the number of the first refused line
unfoldable pub script : List ℕ → Result Parts ℕ
script bytes = script_of (lines bytes)

-- the services that one more line says
unfoldable pub said_services : ℕ → List ℕ → List ServiceLine
said_services part line = if (part == 2) && not (is_header line) then option_to_list (service_of (words line)) else []

-- one more line is `eager`
unfoldable pub said_eager : ℕ → List ℕ → Bool
said_eager part line = ((part == 2) && not (is_header line)) && is_eager (words line)

-- the items that one more line says
unfoldable pub said_items : ℕ → List ℕ → List Item
said_items part line = if (part == 3) && not (is_header line) then option_to_list (item_of (words line)) else []

-- line n, from 1, says the service at index k: there is one service more behind it than before it
pub record IsLineOf (ls : List (List ℕ)) (k n : ℕ) : Type 0 where
  pub before : length (services_in (take (n - 1) ls)) ≡ k
  pub behind : length (services_in (take n ls)) ≡ k + 1

-- the lines of all services
pub record AreLines (ls : List (List ℕ)) (count : ℕ) (numbers : List ℕ) : Type 0 where
  pub count_is : length numbers ≡ count
  pub each : (k : ℕ) → k < count → IsLineOf ls k (slice_index numbers k)
