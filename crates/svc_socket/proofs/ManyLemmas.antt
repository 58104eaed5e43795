-- Numbers between separators are read one after the other.
use Rattle.std.proofs.Common.{◌≡◌, ℕ, suc, ◌+◌, ◌<◌, Bool, true, false, if◌then◌else◌, eqb, List, [], ◌∷◌, ◌++◌, length, take, Option, Some, None, refl, sym, ap, ◌∙◌, arith, append_assoc, append-nil}
use Rattle.std.specs.Option.{option_map}
use Rattle.std.proofs.Math.ListN.{set, length-set}
use Rattle.std.proofs.lemmas.Bool.{ne_eqb, eq-eqb}
use Rattle.std.proofs.lemmas.List.{take_all, take_more_set}
use Rattle.svc_socket.specs.ReadPeers.{put_before, numbers_of, so_many_of}

-- these numbers before others
abbrev pub behind_all : List ℕ → Option (List ℕ) → Option (List ℕ)
behind_all front rest = option_map (λ ns. front ++ ns) rest

behind_one : (front : List ℕ) (n : ℕ) (rest : Option (List ℕ)) → behind_all front (put_before (Some n) rest) ≡ behind_all (front ++ n ∷ []) rest
behind_one front n None = refl
behind_one front n (Some ns) = ap (λ (xs : List ℕ). Some xs) (sym (append_assoc front (n ∷ []) ns))

abbrev nothing : Option (List ℕ)
nothing = None

never_some : (b : Bool) → (if b then nothing else nothing) ≡ nothing
never_some true = refl
never_some false = refl

-- so many of the words are read, as these numbers, and the rest stands before the end
pub record HasRead (read : List ℕ → Option ℕ) (words : List (List ℕ)) (i : ℕ) (front : List ℕ) (rest : List (List ℕ)) : Type 0 where
  pub numbers : numbers_of read words ≡ behind_all front (numbers_of read rest)
  pub count : length words ≡ i + length rest

pub read_more : (read : List ℕ → Option ℕ) (words : List (List ℕ)) (i : ℕ) (front word : List ℕ) (later rest : List (List ℕ)) (n : ℕ)
    → HasRead read words i front rest → rest ≡ word ∷ later → Some n ≡ read word → HasRead read words (i + 1) (front ++ n ∷ []) later
read_more read words i front word later rest n h cut e =
    let shown : numbers_of read rest ≡ put_before (Some n) (numbers_of read later) =
    ap (numbers_of read) cut ∙ ap (λ o. put_before o (numbers_of read later)) (sym e) in
    let long : length rest ≡ suc (length later) = ap (λ (ws : List (List ℕ)). length ws) cut in
    record {
      numbers = h.numbers ∙ ap (behind_all front) shown ∙ behind_one front n (numbers_of read later);
      count = omega (arith, h.count);
    }

pub other_count : (read : List ℕ → Option ℕ) (words : List (List ℕ)) (i : ℕ) (front : List ℕ) (rest : List (List ℕ)) (count : ℕ)
    → HasRead read words i front rest → (i + length rest ≡ count → ⊥) → so_many_of count read words ≡ None
unfolding so_many_of
other_count read words i front rest count h other =
    let f : eqb (length words) count ≡ false = ne_eqb (length words) count (λ e. other (sym h.count ∙ e)) in
    rw f refl

pub no_number : (read : List ℕ → Option ℕ) (words : List (List ℕ)) (i : ℕ) (front word : List ℕ) (later rest : List (List ℕ)) (count : ℕ)
    → HasRead read words i front rest → rest ≡ word ∷ later → None ≡ read word → so_many_of count read words ≡ None
unfolding so_many_of
no_number read words i front word later rest count h cut e =
    let missing : numbers_of read words ≡ None =
    h.numbers ∙ ap (λ ws. behind_all front (numbers_of read ws)) cut ∙ ap (λ o. behind_all front (put_before o (numbers_of read later))) (sym e) in
    rw missing (never_some (eqb (length words) count))

pub all_read : (read : List ℕ → Option ℕ) (words : List (List ℕ)) (i : ℕ) (front word : List ℕ) (rest : List (List ℕ)) (n count : ℕ)
    → HasRead read words i front rest → rest ≡ word ∷ [] → Some n ≡ read word → i + 1 ≡ count → so_many_of count read words ≡ Some (front ++ n ∷ [])
unfolding so_many_of
all_read read words i front word rest n count h cut e last =
    let done : HasRead read words (i + 1) (front ++ n ∷ []) [] = read_more read words i front word [] rest n h cut e in
    let c : length words ≡ count = omega (arith, done.count) in
    rw (eq-eqb (length words) count c, done.numbers, append-nil) refl

-- the numbers stand in a list from its front on
pub stores_more : (read : List ℕ → Option ℕ) (words : List (List ℕ)) (i : ℕ) (numbers word : List ℕ) (later rest : List (List ℕ)) (n : ℕ)
    → HasRead read words i (take i numbers) rest → rest ≡ word ∷ later → Some n ≡ read word → i < length numbers
    → HasRead read words (i + 1) (take (i + 1) (set numbers i n)) later
stores_more read words i numbers word later rest n h cut e lt =
    rw (take_more_set numbers i n lt) (read_more read words i (take i numbers) word later rest n h cut e)

pub stores_all : (read : List ℕ → Option ℕ) (words : List (List ℕ)) (i : ℕ) (numbers word : List ℕ) (rest : List (List ℕ)) (n count : ℕ)
    → HasRead read words i (take i numbers) rest → rest ≡ word ∷ [] → Some n ≡ read word → i + 1 ≡ count → length numbers ≡ count
    → so_many_of count read words ≡ Some (set numbers i n)
stores_all read words i numbers word rest n count h cut e last len =
    let lt : i < length numbers = omega arith in
    let long : length (set numbers i n) ≡ i + 1 = length-set numbers i n ∙ len ∙ sym last in
    let whole : take (i + 1) (set numbers i n) ≡ set numbers i n = take_all (i + 1) (set numbers i n) (omega arith) in
    let same : take i numbers ++ n ∷ [] ≡ set numbers i n = sym (take_more_set numbers i n lt) ∙ whole in
    all_read read words i (take i numbers) word rest n count h cut e last ∙ ap (λ (ns : List ℕ). Some ns) same

-- more than one word stands behind the last number
pub too_many : (read : List ℕ → Option ℕ) (words : List (List ℕ)) (i : ℕ) (front : List ℕ) (rest : List (List ℕ)) (count : ℕ)
    → HasRead read words i front rest → 1 < length rest → count ≡ i + 1 → so_many_of count read words ≡ None
too_many read words i front rest count h more last = other_count read words i front rest count h (omega arith)

-- one word is left, and it isn't the last of so many
pub too_few : (read : List ℕ → Option ℕ) (words : List (List ℕ)) (i : ℕ) (front word : List ℕ) (rest : List (List ℕ)) (count : ℕ)
    → HasRead read words i front rest → rest ≡ word ∷ [] → i + 1 < count → so_many_of count read words ≡ None
too_few read words i front word rest count h alone less =
    let one : length rest ≡ 1 = ap (λ (ws : List (List ℕ)). length ws) alone in
    other_count read words i front rest count h (omega arith)
