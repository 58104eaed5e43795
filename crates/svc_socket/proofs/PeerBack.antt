-- A peer is read back from its text.
use Rattle.std.proofs.Common.{◌≡◌, ℕ, zero, suc, ◌+◌, ◌*◌, ◌/◌, ◌%◌, ◌^◌, ◌<◌, ◌≤◌, Bool, true, false, not, eqb, ltb, ◌&&◌, List, [], ◌∷◌, ◌++◌, length, map, All, Option, Some, refl, sym, ap, ◌∙◌, inl, inr, arith, append_assoc, length-append}
use Rattle.std.specs.Char.{digit_value}
use Rattle.std.specs.Fmt.{decimal, digit_glyph}
use Rattle.std.specs.List.{join_with_byte, list_all, slice_split, AllByRecursion}
use Rattle.std.specs.Option.{option_map}
use Rattle.std.specs.Str.Parse.{AllDigits}
use Rattle.std.proofs.lemmas.Bool.{and_parts, and_from, cases_lt, cases_Bool, eqb-true, eq-eqb}
use Rattle.std.proofs.lemmas.Bool.Decides.{nat_tests}
use Rattle.std.proofs.lemmas.Fmt.{decimal_is_IsNumeral, hex_one_digit, hex_two_digits}
use Rattle.std.proofs.lemmas.List.Folds.{list_all-append}
use Rattle.std.proofs.lemmas.List.{length-map}
use Rattle.std.proofs.lemmas.List.Splits.{slice_split_at, slice_split_none}
use Rattle.std.proofs.lemmas.Str.Parse.{digit_from_value}
use Rattle.svc_base.specs.Words.{number_of}
use Rattle.svc_base.proofs.DecimalLemmas.{number_of-decimal}
use Rattle.svc_socket.specs.Peers.{four_digits, octets, ip6_number, peer6, groups, group_text, peer_addr_text, peer_text, PeerAddrFits, PeerFits}
use Rattle.svc_socket.specs.declared.peer.PeerAddr.{PeerAddr}
use Rattle.svc_socket.specs.declared.peer.PeerAddr.TheVariants as addr
use Rattle.svc_socket.specs.declared.peer.Peer.{Peer}
use Rattle.svc_socket.specs.declared.peer.Peer.TheVariants.{Unknown, Unix, Inet}
use Rattle.svc_socket.specs.ReadPeers.{is_hex_digit, group_of, in_base, numbers_of, so_many_of, ip4_of, ip6_of, inet4_of, inet6_of, peer_addr_of, peer_of}
use Rattle.svc_socket.proofs.HexLemmas.{three_digits, four_hex_digits}

-- what is true of each hexadecimal digit is true of a word of them
digits_pass : (q : ℕ → Bool) → ((b : ℕ) → is_hex_digit b ≡ true → q b ≡ true) → (w : List ℕ) → list_all is_hex_digit w ≡ true → list_all q w ≡ true
digits_pass q each [] h = refl
digits_pass q each (b ∷ w) h = let p = and_parts _ _ h in and_from _ _ (each b p.0) (digits_pass q each w p.1)

-- and of such words with separators between them
joined_pass : (q : ℕ → Bool) → ((b : ℕ) → is_hex_digit b ≡ true → q b ≡ true) → (s : ℕ) → q s ≡ true → (ws : List (List ℕ))
    → AllByRecursion (λ w. list_all is_hex_digit w ≡ true) ws → list_all q (join_with_byte s ws) ≡ true
joined_pass q each s t [] h = refl
joined_pass q each s t (w ∷ []) h = digits_pass q each w h.0
joined_pass q each s t (w ∷ v ∷ ws) h =
    list_all-append q w (s ∷ join_with_byte s (v ∷ ws)) ∙ and_from _ _ (digits_pass q each w h.0) (and_from _ _ t (joined_pass q each s t (v ∷ ws) h.1))

not_eqb : (b c : ℕ) → not (eqb b c) ≡ true → eqb b c ≡ false
not_eqb b c h = elim (cases_Bool (eqb b c)) [ inl t ↦ absurd (let e = rw t at h in cc) | inr f ↦ f ]

-- a byte that isn't among them cuts nothing
no_separator : (c : ℕ) (bs : List ℕ) → list_all (λ b. not (eqb b c)) bs ≡ true → All (λ b. eqb b c ≡ false) bs
no_separator c [] h k d lt = absurd (omega arith)
no_separator c (b ∷ bs) h zero d lt = not_eqb b c (and_parts _ _ h).0
no_separator c (b ∷ bs) h (suc k) d lt = no_separator c bs (and_parts _ _ h).1 k d (omega arith)

other_byte : (c b : ℕ) → is_hex_digit c ≡ false → is_hex_digit b ≡ true → not (eqb b c) ≡ true
other_byte c b f t =
    elim (cases_Bool (eqb b c)) [
      | inl same ↦ let e : b ≡ c = eqb-true b c same in let t' = rw e at t in absurd (cc)
      | inr other ↦ rw other refl
    ]

-- words of digits are what a text of them is cut into
split_joined : (c : ℕ) → is_hex_digit c ≡ false → (w : List ℕ) (ws : List (List ℕ)) → AllByRecursion (λ w. list_all is_hex_digit w ≡ true) (w ∷ ws)
    → slice_split (λ b. eqb b c) (join_with_byte c (w ∷ ws)) ≡ w ∷ ws
split_joined c f w [] h = slice_split_none (λ b. eqb b c) w (no_separator c w (digits_pass (λ b. not (eqb b c)) (λ b. other_byte c b f) w h.0))
split_joined c f w (v ∷ ws) h =
    slice_split_at (λ b. eqb b c) w c (join_with_byte c (v ∷ ws)) (no_separator c w (digits_pass (λ b. not (eqb b c)) (λ b. other_byte c b f) w h.0))
    (grind (arith, nat_tests))
    ∙ ap (λ (vs : List (List ℕ)). w ∷ vs) (split_joined c f v ws h.1)

-- a decimal digit is one
decimal_digits : (ds : List ℕ) → AllDigits 10 ds → list_all is_hex_digit ds ≡ true
decimal_digits [] h = refl
decimal_digits (d ∷ ds) h = let r = digit_from_value d h.0 in and_from _ _ (low_digit d r.0 r.1) (decimal_digits ds h.1)
  where
    low_digit : (d : ℕ) → 48 ≤ d → d ≤ 57 → is_hex_digit d ≡ true
    low_digit d low high = grind (arith, nat_tests)

pub decimal_is_digits : (n : ℕ) → n < 2 ^ 64 → (0 < length (decimal n)) × (list_all is_hex_digit (decimal n) ≡ true)
decimal_is_digits n below = let p = (decimal_is_IsNumeral n below).0 in (p.0, decimal_digits (decimal n) p.1)

-- the byte of a hexadecimal digit
glyph : (d : ℕ) → d < 16 → (is_hex_digit (digit_glyph false d) ≡ true) × (digit_value (digit_glyph false d) ≡ d)
glyph d small = (grind (arith, nat_tests), grind (arith, nat_tests))

glyph_above : (d : ℕ) → 0 < d → d < 16 → eqb (digit_glyph false d) 48 ≡ false
glyph_above d some small = grind (arith, nat_tests)

-- a text of digits that is read as this number
pub record IsGroupText (n : ℕ) (text : List ℕ) : Type 0 where
  pub digits : list_all is_hex_digit text ≡ true
  pub some : 0 < length text
  pub back : group_of text ≡ Some n

and_never : (b : Bool) → (b && false) ≡ false
and_never true = refl
and_never false = refl

one_back : (n : ℕ) → n < 16 → IsGroupText n (digit_glyph false n ∷ [])
unfolding group_of
one_back n h =
    let g = glyph n h in
    let plain : (eqb (digit_glyph false n) 48 && ltb 1 1) ≡ false = and_never (eqb (digit_glyph false n) 48) in
    let value : 0 * 16 + n ≡ n = omega arith in
    record { digits = rw g.0 refl; some = omega arith; back = rw (plain, g.0, g.1) (ap (λ (m : ℕ). Some m) value) }

two_back : (a b n : ℕ) → 0 < a → a < 16 → b < 16 → a * 16 + b ≡ n → IsGroupText n (digit_glyph false a ∷ digit_glyph false b ∷ [])
unfolding group_of
two_back a b n some ha hb e =
    let ga = glyph a ha in
    let gb = glyph b hb in
    let first = glyph_above a some ha in
    let value : (0 * 16 + a) * 16 + b ≡ n = omega arith in
    record { digits = rw (ga.0, gb.0) refl; some = omega arith; back = rw (first, ga.0, ga.1, gb.0, gb.1) (ap (λ (m : ℕ). Some m) value) }

three_back : (a b c n : ℕ) → 0 < a → a < 16 → b < 16 → c < 16 → (a * 16 + b) * 16 + c ≡ n
    → IsGroupText n (digit_glyph false a ∷ digit_glyph false b ∷ digit_glyph false c ∷ [])
unfolding group_of
three_back a b c n some ha hb hc e =
    let ga = glyph a ha in
    let gb = glyph b hb in
    let gc = glyph c hc in
    let first = glyph_above a some ha in
    let value : ((0 * 16 + a) * 16 + b) * 16 + c ≡ n = omega arith in
    record { digits = rw (ga.0, gb.0, gc.0) refl; some = omega arith; back = rw (first, ga.0, ga.1, gb.0, gb.1, gc.0, gc.1) (ap (λ (m : ℕ). Some m) value) }

four_back : (a b c d n : ℕ) → 0 < a → a < 16 → b < 16 → c < 16 → d < 16 → ((a * 16 + b) * 16 + c) * 16 + d ≡ n
    → IsGroupText n (digit_glyph false a ∷ digit_glyph false b ∷ digit_glyph false c ∷ digit_glyph false d ∷ [])
unfolding group_of
four_back a b c d n some ha hb hc hd e =
    let ga = glyph a ha in
    let gb = glyph b hb in
    let gc = glyph c hc in
    let gd = glyph d hd in
    let first = glyph_above a some ha in
    let value : (((0 * 16 + a) * 16 + b) * 16 + c) * 16 + d ≡ n = omega arith in
    record {
      digits = rw (ga.0, gb.0, gc.0, gd.0) refl;
      some = omega arith;
      back = rw (first, ga.0, ga.1, gb.0, gb.1, gc.0, gc.1, gd.0, gd.1) (ap (λ (m : ℕ). Some m) value);
    }

group_back : (n : ℕ) → n < 2 ^ 16 → IsGroupText n (group_text n)
group_back n below =
    elim (cases_lt n 4096) [
      | inr four ↦
          rw (four_hex_digits n four below)
          (four_back (n / 4096) (n / 256 % 16) (n / 16 % 16) (n % 16) n (omega arith) (omega arith) (omega arith) (omega arith) (omega arith) (omega arith))
      | inl h₃ ↦ elim (cases_lt n 256) [
        | inr three ↦
            rw (three_digits n three h₃) (three_back (n / 256) (n / 16 % 16) (n % 16) n (omega arith) (omega arith) (omega arith) (omega arith) (omega arith))
        | inl h₂ ↦ elim (cases_lt n 16) [
          | inr two ↦ rw (hex_two_digits false n two h₂) (two_back (n / 16) (n % 16) n (omega arith) (omega arith) (omega arith) (omega arith))
          | inl h₁ ↦ rw (hex_one_digit false n h₁) (one_back n h₁)
        ]
      ]
    ]

half_back : (n : ℕ) → n < 2 ^ 64 → in_base (2 ^ 16) (four_digits (2 ^ 16) n) ≡ n
half_back n below = omega arith

pub octets_back : (ip : ℕ) → ip < 2 ^ 32 → in_base (2 ^ 8) (octets ip) ≡ ip
octets_back ip below = omega arith

pub groups_back : (high low : ℕ) → high < 2 ^ 64 → low < 2 ^ 64 → in_base (2 ^ 16) (groups high low) ≡ ip6_number high low
groups_back high low h l = omega (arith, half_back high h, half_back low l)

-- the number of an address parts into its halves again
pub peer6_back : (high low port : ℕ) → low < 2 ^ 64 → peer6 (ip6_number high low) port ≡ addr.V6 high low port
peer6_back high low port l =
    let upper : ip6_number high low / 2 ^ 64 ≡ high = omega arith in
    let lower : ip6_number high low % 2 ^ 64 ≡ low = omega arith in
    rw (upper, lower) refl

-- a number is shown in digits and read back
pub record IsShown (read : List ℕ → Option ℕ) (show : ℕ → List ℕ) (n : ℕ) : Type 0 where
  pub digits : list_all is_hex_digit (show n) ≡ true
  pub back : read (show n) ≡ Some n

digits_shown : (read : List ℕ → Option ℕ) (show : ℕ → List ℕ) (ns : List ℕ) → AllByRecursion (IsShown read show) ns
    → AllByRecursion (λ w. list_all is_hex_digit w ≡ true) (map show ns)
digits_shown read show [] h = tt
digits_shown read show (n ∷ ns) h = (h.0.digits, digits_shown read show ns h.1)

numbers_shown : (read : List ℕ → Option ℕ) (show : ℕ → List ℕ) (ns : List ℕ) → AllByRecursion (IsShown read show) ns → numbers_of read (map show ns) ≡ Some ns
numbers_shown read show [] h = refl
numbers_shown read show (n ∷ ns) h = rw (h.0.back, numbers_shown read show ns h.1) refl

all_shown : (read : List ℕ → Option ℕ) (show : ℕ → List ℕ) (c : ℕ) → is_hex_digit c ≡ false → (ns : List ℕ) → 0 < length ns
    → AllByRecursion (IsShown read show) ns
    → so_many_of (length ns) read (slice_split (λ b. eqb b c) (join_with_byte c (map show ns))) ≡ Some ns
unfolding so_many_of
all_shown read show c f [] some h = absurd (omega arith)
all_shown read show c f (n ∷ ns) some h =
    let cut = split_joined c f (show n) (map show ns) (digits_shown read show (n ∷ ns) h) in
    let count : eqb (length (show n ∷ map show ns)) (length (n ∷ ns)) ≡ true = eq-eqb _ _ (length-map (n ∷ ns) show) in
    rw (cut, count) (numbers_shown read show (n ∷ ns) h)

octet_shown : (n : ℕ) → n < 2 ^ 8 → IsShown (number_of (2 ^ 8)) decimal n
octet_shown n h = record { digits = (decimal_is_digits n (omega arith)).1; back = number_of-decimal (2 ^ 8) n (omega arith) h }

octets_shown : (ip : ℕ) → ip < 2 ^ 32 → AllByRecursion (IsShown (number_of (2 ^ 8)) decimal) (octets ip)
octets_shown ip h = (octet_shown _ (omega arith), (octet_shown _ (omega arith), (octet_shown _ (omega arith), (octet_shown _ (omega arith), tt))))

group_shown : (n : ℕ) → n < 2 ^ 16 → IsShown group_of group_text n
group_shown n h = let g = group_back n h in record { digits = g.digits; back = g.back }

groups_shown : (high low : ℕ) → high < 2 ^ 64 → low < 2 ^ 64 → AllByRecursion (IsShown group_of group_text) (groups high low)
groups_shown high low h l = (
  group_shown _ (omega arith),
  (
    group_shown _ (omega arith),
    (
      group_shown _ (omega arith),
      (
        group_shown _ (omega arith),
        (group_shown _ (omega arith), (group_shown _ (omega arith), (group_shown _ (omega arith), (group_shown _ (omega arith), tt)))),
      ),
    ),
  ),
)

-- the addresses between separators are read back
ip4_back : (ip : ℕ) → ip < 2 ^ 32 → ip4_of (join_with_byte 46 (map decimal (octets ip))) ≡ Some ip
unfolding ip4_of
ip4_back ip h =
    ap (option_map (in_base (2 ^ 8))) (all_shown (number_of (2 ^ 8)) decimal 46 refl (octets ip) (omega arith) (octets_shown ip h))
    ∙ ap (λ (n : ℕ). Some n) (octets_back ip h)

ip6_back : (high low : ℕ) → high < 2 ^ 64 → low < 2 ^ 64 → ip6_of (join_with_byte 58 (map group_text (groups high low))) ≡ Some (ip6_number high low)
unfolding ip6_of
ip6_back high low h l =
    ap (option_map (in_base (2 ^ 16))) (all_shown group_of group_text 58 refl (groups high low) (omega arith) (groups_shown high low h l))
    ∙ ap (λ (n : ℕ). Some n) (groups_back high low h l)

-- a host before a separator that it doesn't hold
cut_after : (c s : ℕ) → is_hex_digit c ≡ false → eqb s c ≡ false → (ws : List (List ℕ)) → AllByRecursion (λ w. list_all is_hex_digit w ≡ true) ws
    → (rest : List ℕ) → list_all (λ b. not (eqb b c)) rest ≡ true
    → slice_split (λ b. eqb b c) (join_with_byte s ws ++ (c ∷ rest)) ≡ join_with_byte s ws ∷ rest ∷ []
cut_after c s f other ws h rest clear =
    let t : not (eqb s c) ≡ true = rw other refl in
    let front = no_separator c (join_with_byte s ws) (joined_pass (λ b. not (eqb b c)) (λ b. other_byte c b f) s t ws h) in
    slice_split_at (λ b. eqb b c) (join_with_byte s ws) c rest front (grind (arith, nat_tests))
    ∙ ap (λ (vs : List (List ℕ)). join_with_byte s ws ∷ vs) (slice_split_none (λ b. eqb b c) rest (no_separator c rest clear))

port_clear : (c port : ℕ) → port < 2 ^ 16 → is_hex_digit c ≡ false → list_all (λ b. not (eqb b c)) (decimal port) ≡ true
port_clear c port h f = digits_pass (λ b. not (eqb b c)) (λ b. other_byte c b f) (decimal port) (decimal_is_digits port (omega arith)).1

port_back : (port : ℕ) → port < 2 ^ 16 → number_of (2 ^ 16) (decimal port) ≡ Some port
port_back port h = number_of-decimal (2 ^ 16) port (omega arith) h

inet4_back : (ip port : ℕ) → ip < 2 ^ 32 → port < 2 ^ 16
    → inet4_of (slice_split (λ b. eqb b 58) (join_with_byte 46 (map decimal (octets ip)) ++ (58 ∷ decimal port))) ≡ Some (addr.V4 ip port)
unfolding inet4_of
inet4_back ip port h small =
    rw (
      cut_after 58 46 refl refl (map decimal (octets ip)) (digits_shown _ _ (octets ip) (octets_shown ip h)) (decimal port)
          (port_clear 58 port small refl),
      ip4_back ip h,
      port_back port small,
    ) refl

inet6_back : (high low port : ℕ) → high < 2 ^ 64 → low < 2 ^ 64 → port < 2 ^ 16
    → inet6_of (slice_split (λ b. eqb b 93) (join_with_byte 58 (map group_text (groups high low)) ++ (93 ∷ 58 ∷ decimal port))) ≡ Some (addr.V6 high low port)
unfolding inet6_of
inet6_back high low port h l small =
    let hosts = digits_shown _ _ (groups high low) (groups_shown high low h l) in
    rw (
      cut_after 93 58 refl refl (map group_text (groups high low)) hosts (58 ∷ decimal port)
          (port_clear 93 port small refl),
      ip6_back high low h l,
      port_back port small,
    )
    (ap (λ (x : PeerAddr). Some x) (peer6_back high low port l))

-- a word that begins with another byte is neither `-` nor `unix`
named_by_address : (b : ℕ) (bs : List ℕ) → eqb b 45 ≡ false → eqb b 117 ≡ false → peer_of (b ∷ bs) ≡ option_map Inet (peer_addr_of (b ∷ bs))
unfolding peer_of
named_by_address b bs f g = rw (f, g) refl

starts_with_digits : (w rest : List ℕ) (found : PeerAddr) → 0 < length w → list_all is_hex_digit w ≡ true
    → inet4_of (slice_split (λ b. eqb b 58) (w ++ rest)) ≡ Some found → peer_of (w ++ rest) ≡ Some (Inet found)
unfolding peer_addr_of
starts_with_digits [] rest found some h e = absurd (omega arith)
starts_with_digits (b ∷ w) rest found some h e =
    let digit : is_hex_digit b ≡ true = (and_parts _ _ h).0 in
    let bracket : eqb b 91 ≡ false = not_eqb b 91 (other_byte 91 b refl digit) in
    named_by_address b (w ++ rest) (not_eqb b 45 (other_byte 45 b refl digit)) (not_eqb b 117 (other_byte 117 b refl digit))
    ∙ rw bracket (ap (option_map Inet) e)

addr_back : (x : PeerAddr) → PeerAddrFits x → peer_of (peer_addr_text x) ≡ Some (Inet x)
unfolding peer_addr_of
addr_back (addr.V4 ip port) fits =
    let first = decimal_is_digits (ip / 2 ^ 24) (omega arith) in
    let whole = append_assoc (join_with_byte 46 (map decimal (octets ip))) (58 ∷ []) (decimal port) in
    let rest = join_with_byte 46 (decimal (ip / 2 ^ 16 % 2 ^ 8) ∷ decimal (ip / 2 ^ 8 % 2 ^ 8) ∷ decimal (ip % 2 ^ 8) ∷ []) in
    let shown : (join_with_byte 46 (map decimal (octets ip)) ++ (58 ∷ decimal port)) ≡ decimal (ip / 2 ^ 24) ++ ((46 ∷ rest) ++ (58 ∷ decimal port)) =
    append_assoc (decimal (ip / 2 ^ 24)) (46 ∷ rest) (58 ∷ decimal port) in
    ap peer_of (whole ∙ shown)
    ∙ starts_with_digits (decimal (ip / 2 ^ 24)) _ (addr.V4 ip port) first.0 first.1
    (ap (λ t. inet4_of (slice_split (λ b. eqb b 58) t)) (sym shown) ∙ inet4_back ip port fits.0 fits.1)
addr_back (addr.V6 high low port) fits =
    let hosts = join_with_byte 58 (map group_text (groups high low)) in
    let shown : ((91 ∷ []) ++ hosts) ++ (93 ∷ 58 ∷ []) ++ decimal port ≡ 91 ∷ (hosts ++ (93 ∷ 58 ∷ decimal port)) =
    ap (λ (t : List ℕ). 91 ∷ t) (append_assoc hosts (93 ∷ 58 ∷ []) (decimal port)) in
    ap peer_of shown ∙ named_by_address 91 (hosts ++ (93 ∷ 58 ∷ decimal port)) refl refl ∙ ap (option_map Inet) (inet6_back high low port fits.0 fits.1 fits.2)

pub peer_back : (x : Peer) → PeerFits x → peer_of (peer_text x) ≡ Some x
unfolding peer_of
peer_back Unknown fits = refl
peer_back Unix fits = refl
peer_back (Inet x) fits = addr_back x fits

-- each byte of the text is above the space
above_space : (b : ℕ) → is_hex_digit b ≡ true → ltb 32 b ≡ true
above_space b h = grind (arith, nat_tests)

address_visible : (x : PeerAddr) → PeerAddrFits x → list_all (λ b. ltb 32 b) (peer_addr_text x) ≡ true
address_visible (addr.V4 ip port) fits =
    let host = joined_pass (λ b. ltb 32 b) above_space 46 refl (map decimal (octets ip)) (digits_shown _ _ (octets ip) (octets_shown ip fits.0)) in
    let word = digits_pass (λ b. ltb 32 b) above_space (decimal port) (decimal_is_digits port (omega arith)).1 in
    let whole = append_assoc (join_with_byte 46 (map decimal (octets ip))) (58 ∷ []) (decimal port) in
    ap (list_all (λ b. ltb 32 b)) whole ∙ list_all-append (λ b. ltb 32 b) (join_with_byte 46 (map decimal (octets ip))) (58 ∷ decimal port)
    ∙ and_from _ _ host word
address_visible (addr.V6 high low port) fits =
    let hosts = join_with_byte 58 (map group_text (groups high low)) in
    let words = digits_shown _ _ (groups high low) (groups_shown high low fits.0 fits.1) in
    let host = joined_pass (λ b. ltb 32 b) above_space 58 refl (map group_text (groups high low)) words in
    let word = digits_pass (λ b. ltb 32 b) above_space (decimal port) (decimal_is_digits port (omega arith)).1 in
    let shown : ((91 ∷ []) ++ hosts) ++ (93 ∷ 58 ∷ []) ++ decimal port ≡ 91 ∷ (hosts ++ (93 ∷ 58 ∷ decimal port)) =
    ap (λ (t : List ℕ). 91 ∷ t) (append_assoc hosts (93 ∷ 58 ∷ []) (decimal port)) in
    ap (list_all (λ b. ltb 32 b)) shown ∙ list_all-append (λ b. ltb 32 b) hosts (93 ∷ 58 ∷ decimal port) ∙ and_from _ _ host word

pub peer_visible : (x : Peer) → PeerFits x → list_all (λ b. ltb 32 b) (peer_text x) ≡ true
peer_visible Unknown fits = refl
peer_visible Unix fits = refl
peer_visible (Inet x) fits = address_visible x fits

address_nonempty : (x : PeerAddr) → 0 < length (peer_addr_text x)
address_nonempty (addr.V4 ip port) =
    omega (
      arith,
      length-append (join_with_byte 46 (map decimal (octets ip)) ++ (58 ∷ [])) (decimal port),
      length-append
          (join_with_byte 46 (map decimal (octets ip))) (58 ∷ []),
    )
address_nonempty (addr.V6 high low port) =
    let hosts = join_with_byte 58 (map group_text (groups high low)) in
    omega (arith, length-append (((91 ∷ []) ++ hosts) ++ (93 ∷ 58 ∷ [])) (decimal port), length-append ((91 ∷ []) ++ hosts) (93 ∷ 58 ∷ []))

pub peer_nonempty : (x : Peer) → 0 < length (peer_text x)
peer_nonempty Unknown = omega arith
peer_nonempty Unix = omega arith
peer_nonempty (Inet x) = address_nonempty x
