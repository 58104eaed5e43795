-- What a service line says.
use Rattle.std.specs.Prelude.{◌≡◌, ℕ, ◌^◌, Bool, true, false, not, ◌&&◌, ◌||◌, ◌==◌, nat_lt, nat_le, if◌then◌else◌, List, [], ◌∷◌, ◌++◌, length, map, codes, slice_index, Option, Some, None, is_none}
use Rattle.std.specs.Option.{option_map}
use Rattle.std.specs.List.{slice_split, list_any}
use Rattle.std.specs.Str.{bytes_eq}
use Rattle.svc_graph.specs.declared.plan.Kind.{Kind}
use Rattle.svc_graph.specs.declared.plan.Kind.TheVariants.{Plain, Notifying, Bootstrap}
use Rattle.svc_base.specs.declared.settings.Setting.{Setting}
use Rattle.svc_socket.specs.ReadPeers.{ip_of}
use Rattle.svc_socket.specs.declared.reading.IpNumber.{IpNumber}
use Rattle.svc_text.specs.Words.{text_in}
use Rattle.svc_base.specs.Options.{◌>>=◌}
use Rattle.svc_base.specs.Words.{number_of}
use Rattle.svc_text.specs.NumberLists.{all_some}
use Rattle.svc_text.specs.EndpointOptions.{same_sort, option_of, last_tcp_from, options_at, with_option_at}
use Rattle.svc_text.specs.declared.service.EndpointLine.{EndpointLine}
use Rattle.svc_text.specs.declared.service.ServiceLine.{ServiceLine}

-- 1 to 255 bytes, the first neither `#` nor `%`
abbrev pub is_name : List ℕ → Bool
is_name word = (nat_lt 0 (length word) && nat_le (length word) 255) && (not (slice_index word 0 == 35) && not (slice_index word 0 == 37))

-- the name that a word is
unfoldable pub name_of : List ℕ → Option (List ℕ)
name_of word = if is_name word then text_in word else None

-- the kind that a word names
unfoldable pub kind_of : List ℕ → Option Kind
kind_of word =
    if bytes_eq word (codes "plain") then Some Plain
    else (if bytes_eq word (codes "notify") then Some Notifying
    else (if bytes_eq word (codes "bootstrap") then Some Bootstrap else None))

-- a service of this kind bootstraps
abbrev pub boots : Kind → Bool
boots Plain = false
boots Notifying = false
boots Bootstrap = true

-- service numbers joined by commas
unfoldable pub numbers_of : List ℕ → Option (List ℕ)
numbers_of word = all_some (map (number_of (2 ^ 32)) (slice_split (λ b. b == 44) word))

-- 1 to 4,096 bytes
abbrev pub is_address : List ℕ → Bool
is_address word = nat_lt 0 (length word) && nat_le (length word) 4096

-- the address that a word is
unfoldable pub address_of : List ℕ → Option (List ℕ)
address_of word = if is_address word then text_in word else None

-- the service with its dependencies, where it has none yet
unfoldable pub with_after : ServiceLine → List ℕ → Option ServiceLine
with_after s value = if is_none s.after then option_map (λ numbers. record s { after = Some numbers }) (numbers_of value) else None

-- the endpoint of an address, or of a path of the Unix domain, without options
abbrev pub endpoint_at : Bool → List ℕ → EndpointLine
endpoint_at unix address = record { address = address; unix = unix; options = [] }

-- the service with its next endpoint, where it has fewer than 64
unfoldable pub with_endpoint : ServiceLine → Bool → List ℕ → Option ServiceLine
with_endpoint s unix value =
    if nat_lt (length s.endpoints) 64 then option_map (λ address. record s { endpoints = s.endpoints ++ endpoint_at unix address ∷ [] })
    (address_of value) else None

-- the service with one more declared address
unfoldable pub with_claim : ServiceLine → List ℕ → Option ServiceLine
with_claim s value = option_map (λ address. record s { claims = s.claims ++ address ∷ [] }) (address_of value)

-- the service that doesn't declare its addresses, where it is not said yet and it doesn't bootstrap
unfoldable pub with_undeclared : ServiceLine → Option ServiceLine
with_undeclared s = if s.undeclared || boots s.kind then None else Some (record s { undeclared = true })

-- the address without a port that a word spells
unfoldable pub ip_in : List ℕ → Option IpNumber
ip_in word = text_in word >>= ip_of

-- the service with one more blocked address
unfoldable pub with_block : ServiceLine → List ℕ → Option ServiceLine
with_block s value = option_map (λ ip. record s { blocked = s.blocked ++ ip ∷ [] }) (ip_in value)

-- the service with one more option of endpoint k, which has none of this sort yet
unfoldable pub with_option_of : ServiceLine → Setting → ℕ → Option ServiceLine
with_option_of s option k =
    if list_any (same_sort option) (options_at k s.endpoints) then None else Some (record s { endpoints = with_option_at k option s.endpoints })

-- the service with one more option, which belongs to its last TCP endpoint; without one the option is refused
unfoldable pub with_setting : ServiceLine → List ℕ → List ℕ → Option ServiceLine
with_setting s key value = option_of key value >>= λ option. last_tcp_from 0 s.endpoints >>= λ k. with_option_of s option k

-- the service with one more address, or an option
unfoldable pub with_address : ServiceLine → List ℕ → List ℕ → Option ServiceLine
with_address s key value =
    if bytes_eq key (codes "tcp") then with_endpoint s false value
    else (if bytes_eq key (codes "unix") then with_endpoint s true value
    else (if bytes_eq key (codes "claim") then with_claim s value
    else (if bytes_eq key (codes "block") then with_block s value else with_setting s key value)))

-- the service with one more item, which is a pair of words; one that bootstraps has neither addresses nor options
unfoldable pub with_item : ServiceLine → List ℕ → List ℕ → Option ServiceLine
with_item s key value =
    if bytes_eq key (codes "after") then with_after s value
    else (if boots s.kind then None else with_address s key value)

-- the word that is an item by itself
abbrev pub is_undeclared : List ℕ → Bool
is_undeclared word = bytes_eq word (codes "undeclared")

-- the items of a line are this word and pairs of words
unfoldable pub with_items : ServiceLine → List (List ℕ) → Option ServiceLine
with_items s [] = Some s
with_items s (key ∷ []) = if is_undeclared key then with_undeclared s else None
with_items s (key ∷ value ∷ more) =
    if is_undeclared key then (with_undeclared s >>= λ t. with_items t (value ∷ more))
    else (with_item s key value >>= λ t. with_items t more)

-- a service without items
abbrev pub bare : List ℕ → Kind → ServiceLine
bare name kind = record { name = name; kind = kind; after = None; undeclared = false; claims = []; blocked = []; endpoints = [] }

-- the service that the words of a line say
unfoldable pub service_of : List (List ℕ) → Option ServiceLine
service_of [] = None
service_of (name ∷ []) = None
service_of (name ∷ kind ∷ items) = name_of name >>= λ n. kind_of kind >>= λ k. with_items (bare n k) items

-- what a step made, where it was taken
abbrev pub Takes : Bool → Option ServiceLine → ServiceLine → Type 0
Takes true made now = made ≡ Some now
Takes false made now = made ≡ None

-- the one word `eager`
unfoldable pub is_eager : List (List ℕ) → Bool
is_eager (w ∷ []) = bytes_eq w (codes "eager")
is_eager _ = false
