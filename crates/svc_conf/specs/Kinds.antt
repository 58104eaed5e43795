-- What a line of a configuration text is, and what stands before a line.
use Rattle.std.specs.Prelude.{ℕ, ◌+◌, Bool, true, false, ◌&&◌, if◌then◌else◌, List, [], ◌∷◌, ◌++◌, length, Option, Some, None}
use Rattle.svc_conf.specs.declared.server.configuration.key.Key.{Key}
use Rattle.svc_conf.specs.declared.server.configuration.field.Field.{Field}
use Rattle.svc_conf.specs.declared.server.configuration.field.Field.TheVariants as fields
use Rattle.svc_conf.specs.declared.server.configuration.field.ListKey.{ListKey}
use Rattle.svc_conf.specs.declared.server.configuration.kind.Kind.{Kind}
use Rattle.svc_conf.specs.declared.server.configuration.kind.Kind.TheVariants.{Skipped, Start, Known, Opens, Unknown, Item, Other}
use Rattle.svc_conf.specs.declared.server.configuration.place.Place.{Place}
use Rattle.svc_conf.specs.Fields.{field_of, key_of, list_key}
use Rattle.svc_conf.specs.TextLines.{is_skipped, is_start, is_key_line, key_in, after_key, is_item, after_dash, is_inner}

-- a line with a key of this sort; one of a list without a value begins the list's items
abbrev pub sort_kind : Key → List ℕ → Field → Kind × List ℕ
sort_kind key rest (fields.List list) = if is_skipped rest then (Opens list, []) else (Known key, rest)
sort_kind key rest _ = (Known key, rest)

-- a line with a key
abbrev pub key_kind : Option Key → List ℕ → Kind × List ℕ
key_kind None rest = (Unknown, [])
key_kind (Some key) rest = sort_kind key rest (field_of key)

-- an item's line, or none that is allowed
abbrev pub item_kind : List ℕ → Kind × List ℕ
item_kind line = if is_item line then (Item, after_dash line) else (Other, [])

-- what a line is by itself, and where its value is looked for
unfoldable pub kind_of : List ℕ → Kind × List ℕ
kind_of line =
    if is_skipped line then (Skipped, [])
    else (if is_start line then (Start, [])
    else (if is_key_line line then key_kind (key_of (key_in line)) (after_key line) else item_kind line))

-- what it is in its place: behind an unknown key the lines that begin with a blank or a dash say nothing
abbrev pub kind_in : Bool → List ℕ → Kind × List ℕ
kind_in skips line = if skips && is_inner line then (Skipped, []) else kind_of line

-- the lines before a line stand newest first

-- behind an unknown key, with lines between that say nothing
abbrev pub skips : List Kind → Bool
skips [] = false
skips (Skipped ∷ older) = skips older
skips (Unknown ∷ older) = true
skips (_ ∷ older) = false

-- the list whose items may stand here: they follow its key, with lines between that say nothing
abbrev pub list_at : List Kind → Option ListKey
list_at [] = None
list_at (Skipped ∷ older) = list_at older
list_at (Item ∷ older) = list_at older
list_at (Opens list ∷ older) = Some list
list_at (_ ∷ older) = None

-- `---` or a key stood before
abbrev pub begun : List Kind → Bool
begun [] = false
begun (Skipped ∷ older) = begun older
begun (Item ∷ older) = begun older
begun (Other ∷ older) = begun older
begun (_ ∷ older) = true

-- the known keys that stood before
abbrev pub keys_in : List Kind → List Key
keys_in [] = []
keys_in (Known key ∷ older) = keys_in older ++ key ∷ []
keys_in (Opens list ∷ older) = keys_in older ++ list_key list ∷ []
keys_in (_ ∷ older) = keys_in older

-- what matters of the lines before a line
abbrev pub place_of : List Kind → Place
place_of before = record {
  passed = length before;
  begun = begun before;
  skips = skips before;
  list = list_at before;
  keys = keys_in before;
}

-- the place behind one more line
abbrev pub behind_line : Place → Kind → Place
behind_line place Skipped = record place { passed = place.passed + 1 }
behind_line place Start = record place { passed = place.passed + 1; begun = true; skips = false; list = None }
behind_line place (Known key) = record { passed = place.passed + 1; begun = true; skips = false; list = None; keys = place.keys ++ key ∷ [] }
behind_line place (Opens list) = record { passed = place.passed + 1; begun = true; skips = false; list = Some list; keys = place.keys ++ list_key list ∷ [] }
behind_line place Unknown = record place { passed = place.passed + 1; begun = true; skips = true; list = None }
behind_line place Item = record place { passed = place.passed + 1; skips = false }
behind_line place Other = record place { passed = place.passed + 1; skips = false; list = None }
