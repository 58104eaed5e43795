-- Pairs that are set in a table, and a table that is written and read again.
use Rattle.std.proofs.Common.{ℕ, ◌+◌, ◌<◌, Bool, true, false, cond, eqb, List, [], ◌∷◌, ◌++◌, Option, Some, None, ◌≡◌, refl, sym, ap, subst, ◌∙◌, arith, length, take, get_or, append_assoc}
use Rattle.std.specs.Option.{option_to_list}
use Rattle.std.specs.List.{All, list_any, filter_map, cons_option, zip, join_with_byte, flat_map}
use Rattle.std.specs.Char.{is_ascii_whitespace}
use Rattle.std.specs.Str.{IsUtf8, bytes_eq}
use Rattle.std.proofs.lemmas.Bool.{ne_eqb, eqb-false, or_parts, or_from, false_from_ne_true, both_ways}
use Rattle.std.proofs.lemmas.List.{append-nil, map-append, take_more, length-take-le, length-map, flat_map_more}
use Rattle.std.proofs.lemmas.List.Elements.{All-cons, All-nil}
use Rattle.std.proofs.lemmas.Slice.Eq.{bytes_eq-Decides}
use Rattle.svc_fds.specs.Tables.{Entry, lookup, put, put_all, replaced_by, addresses, numbers, Precedes, PrecedesAll, IsAscending}
use Rattle.svc_fds.specs.Places.{AllPrecede}
use Rattle.svc_fds.specs.Lists.{is_among, has_repeat, ArePairs}
use Rattle.svc_fds.specs.Messages.{joined_words, is_unjoinable, has_unjoinable, joined, AreTexts, version_2, frame, framed, is_well_formed, words, IsMessage, table_of, IsOldMessage, old_table_of}
use Rattle.svc_fds.proofs.TableLemmas.{differs_back, lookup-put, ascending-put}
use Rattle.svc_fds.proofs.WordLemmas.{joined_words-last, joined_words-next}

-- what is set behind all others stands at the end
put-end : (a : List ℕ) (n : ℕ) (front : List Entry) → AllPrecede a front → put a n front ≡ front ++ (a, n) ∷ []
put-end a n [] before = refl
put-end a n (e ∷ front) before = rw before.0 (ap (λ es. e ∷ es) (put-end a n front before.1))

picked : (x : List ℕ) (front : List Entry) (e : Entry) (es : List Entry) → PrecedesAll x (front ++ e ∷ es) → Precedes x e.0
picked x [] e es all = all.0
picked x (f ∷ front) e es all = picked x front e es all.1

all_before : (front : List Entry) (e : Entry) (es : List Entry) → IsAscending (front ++ e ∷ es) → AllPrecede e.0 front
all_before [] e es up = tt
all_before (f ∷ front) e es up = (picked f.0 front e es up.0, all_before front e es up.1)

-- pairs that ascend make the table of themselves
put_all-ascending : (es front : List Entry) → IsAscending (front ++ es) → put_all es front ≡ front ++ es
put_all-ascending [] front up = sym (append-nil front)
put_all-ascending (e ∷ es) front up =
    ap (λ t. put_all es t) (put-end e.0 e.1 front (all_before front e es up))
    ∙ put_all-ascending es (front ++ e ∷ []) (subst (λ xs. IsAscending xs) (sym (append_assoc front (e ∷ []) es)) up)
    ∙ append_assoc front (e ∷ []) es

zip-parts : (es : List Entry) → zip (addresses es) (numbers es) ≡ es
zip-parts [] = refl
zip-parts (e ∷ es) = ap (λ xs. e ∷ xs) (zip-parts es)

-- no address of a table stands twice
among-ascending : (a : List ℕ) (es : List Entry) → PrecedesAll a es → is_among a (addresses es) ≡ false
among-ascending a [] all = refl
among-ascending a (e ∷ es) all = or_from (bytes_eq e.0 a) (is_among a (addresses es)) (differs_back a e.0 all.0) (among-ascending a es all.1)

repeat-ascending : (es : List Entry) → IsAscending es → has_repeat (addresses es) ≡ false
repeat-ascending [] up = refl
repeat-ascending (e ∷ es) up = or_from (is_among e.0 (addresses es)) (has_repeat (addresses es)) (among-ascending e.0 es up.0) (repeat-ascending es up.1)

none-from_any : (p : ℕ → Bool) (xs : List ℕ) → list_any p xs ≡ false → All (λ x. p x ≡ false) xs
none-from_any p [] none = All-nil (λ x. p x ≡ false)
none-from_any p (x ∷ xs) none =
    let parts = or_parts (p x) (list_any p xs) none in
    All-cons (λ y. p y ≡ false) x xs parts.0 (none-from_any p xs parts.1)

-- an address that version 1 says is some bytes without a blank
good : (a : List ℕ) → is_unjoinable a ≡ false → (0 < length a) × All (λ c. is_ascii_whitespace c ≡ false) a
good a fine =
    let parts = or_parts (eqb (length a) 0) (list_any is_ascii_whitespace a) fine in
    let some : length a ≡ 0 → ⊥ = eqb-false (length a) 0 parts.0 in
    (omega arith, none-from_any is_ascii_whitespace a parts.1)

-- the words of what is joined are the addresses
pub joined_words-joined : (es : List Entry) → has_unjoinable es ≡ false → joined_words (joined es) ≡ addresses es
joined_words-joined [] fine = refl
joined_words-joined (e ∷ []) fine =
    let parts = or_parts (is_unjoinable e.0) (has_unjoinable []) fine in
    let ok = good e.0 parts.0 in joined_words-last e.0 ok.0 ok.1
joined_words-joined (e ∷ f ∷ es) fine =
    let parts = or_parts (is_unjoinable e.0) (has_unjoinable (f ∷ es)) fine in
    let ok = good e.0 parts.0 in
    joined_words-next e.0 32 (joined (f ∷ es)) ok.0 ok.1 refl ∙ ap (λ ws. e.0 ∷ ws) (joined_words-joined (f ∷ es) parts.1)

-- the addresses are as many as the numbers, and none stands twice
addresses-pairs : (es : List Entry) (ws : List (List ℕ)) → IsAscending es → ws ≡ addresses es → ArePairs ws (length (numbers es))
addresses-pairs es ws up same = record {
  equal = ap length same ∙ length-map es (λ e. e.0) ∙ sym (length-map es (λ e. e.1));
  distinct = ap has_repeat same ∙ repeat-ascending es up;
}

addresses-table : (es : List Entry) (ws : List (List ℕ)) → IsAscending es → ws ≡ addresses es → put_all (zip ws (numbers es)) [] ≡ es
addresses-table es ws up same = ap (λ x. put_all (zip x (numbers es)) []) same ∙ ap (λ ps. put_all ps []) (zip-parts es) ∙ put_all-ascending es [] up

-- a message whose words are the addresses of a table is read as the table
pub read-addresses : (es : List Entry) (bytes : List ℕ) → IsAscending es → IsUtf8 bytes → is_well_formed bytes ≡ true → words bytes ≡ addresses es
    → IsMessage bytes (length (numbers es)) × (table_of bytes (numbers es) ≡ es)
read-addresses es bytes up text form same =
    (record { text = text; form = form; pairs = addresses-pairs es (words bytes) up same }, addresses-table es (words bytes) up same)

-- also by a reader of version 1, where they are joined
pub read-joined : (es : List Entry) → IsAscending es → has_unjoinable es ≡ false → IsUtf8 (joined es)
    → IsOldMessage (joined es) (length (numbers es)) × (old_table_of (joined es) (numbers es) ≡ es)
read-joined es up fine text =
    let same = joined_words-joined es fine in
    (record { text = text; pairs = addresses-pairs es (joined_words (joined es)) up same }, addresses-table es (joined_words (joined es)) up same)

-- one word more
join-more : (x : List ℕ) (xs : List (List ℕ)) (y : List ℕ) → join_with_byte 32 ((x ∷ xs) ++ y ∷ []) ≡ join_with_byte 32 (x ∷ xs) ++ (32 ∷ y)
join-more x [] y = refl
join-more x (z ∷ xs) y = ap (λ rest. x ++ (32 ∷ rest)) (join-more z xs y) ∙ sym (append_assoc x (32 ∷ join_with_byte 32 (z ∷ xs)) (32 ∷ y))

join-push : (xs : List (List ℕ)) (n : ℕ) (y : List ℕ) → length xs ≡ n
    → (join_with_byte 32 xs ++ cond (eqb n 0) [] (32 ∷ [])) ++ y ≡ join_with_byte 32 (xs ++ y ∷ [])
join-push [] n y size = subst (λ m. ([] ++ cond (eqb m 0) [] (32 ∷ [])) ++ y ≡ y) size refl
join-push (x ∷ xs) n y size =
    ap (λ b. (join_with_byte 32 (x ∷ xs) ++ cond b [] (32 ∷ [])) ++ y) (ne_eqb n 0 (λ e. absurd (omega arith)))
    ∙ append_assoc (join_with_byte 32 (x ∷ xs)) (32 ∷ []) y ∙ sym (join-more x xs y)

pub joined-more : (es : List Entry) (at : ℕ) (e : Entry) → at < length es → e ≡ get_or es at e
    → (joined (take at es) ++ cond (eqb at 0) [] (32 ∷ [])) ++ e.0 ≡ joined (take (at + 1) es)
joined-more es at e inside read =
    join-push (addresses (take at es)) at e.0 (length-map (take at es) (λ x. x.0) ∙ length-take-le at es (omega arith))
    ∙ ap (λ xs. join_with_byte 32 xs) (sym (map-append (λ (x : Entry). x.0) (take at es) (e ∷ [])))
    ∙ ap joined (ap (λ (x : Entry). take at es ++ x ∷ []) read ∙ sym (take_more es at e inside))

-- one frame more
pub framed-more : (es : List Entry) (at : ℕ) (e : Entry) → at < length es → e ≡ get_or es at e → framed (take at es) ++ frame e.0 ≡ framed (take (at + 1) es)
framed-more es at e inside read =
    flat_map_more frame version_2 (addresses (take at es)) e.0
    ∙ ap (λ xs. version_2 ++ flat_map frame xs) (sym (map-append (λ (x : Entry). x.0) (take at es) (e ∷ [])))
    ∙ ap framed (ap (λ (x : Entry). take at es ++ x ∷ []) read ∙ sym (take_more es at e inside))

texts-push : (es : List Entry) (e : Entry) → AreTexts es → IsUtf8 e.0 → AreTexts (es ++ e ∷ [])
texts-push [] e texts text = (text, tt)
texts-push (x ∷ es) e texts text = (texts.0, texts-push es e texts.1 text)

-- one text more
pub texts-more : (es : List Entry) (at : ℕ) (e : Entry) → at < length es → e ≡ get_or es at e → AreTexts (take at es) → IsUtf8 e.0 → AreTexts (take (at + 1) es)
texts-more es at e inside read texts text =
    subst AreTexts (ap (λ (x : Entry). take at es ++ x ∷ []) read ∙ sym (take_more es at e inside)) (texts-push (take at es) e texts text)

differ : (a x : List ℕ) → bytes_eq x a ≡ false → bytes_eq a x ≡ false
differ a x apart =
    false_from_ne_true (bytes_eq a x)
    (λ e. let agree : bytes_eq x a ≡ true = (bytes_eq-Decides x a).1 (sym ((bytes_eq-Decides a x).0 e)) in both_ways (bytes_eq x a) apart agree)

-- texts that aren't among others are looked up as before
lookups-kept : (a : List ℕ) (n : ℕ) (t : List Entry) (texts : List (List ℕ)) → is_among a texts ≡ false
    → filter_map (λ x. lookup x (put a n t)) texts ≡ filter_map (λ x. lookup x t) texts
lookups-kept a n t [] apart = refl
lookups-kept a n t (x ∷ texts) apart =
    let parts = or_parts (bytes_eq x a) (is_among a texts) apart in
    let other : bytes_eq a x ≡ false = differ a x parts.0 in
    let same : lookup x (put a n t) ≡ lookup x t = lookup-put a n t x ∙ ap (λ b. cond b (Some n) (lookup x t)) other in
    ap (λ o. cons_option o (filter_map (λ y. lookup y (put a n t)) texts)) same ∙ ap (λ rest. cons_option (lookup x t) rest) (lookups-kept a n t texts parts.1)

option-cons : (o : Option ℕ) (xs : List ℕ) → option_to_list o ++ xs ≡ cons_option o xs
option-cons None xs = refl
option-cons (Some x) xs = refl

-- what texts replace that stand once each is what was there at first
pub replaced-lookups : (texts : List (List ℕ)) (fds : List ℕ) (t : List Entry) → length texts ≡ length fds → has_repeat texts ≡ false
    → replaced_by (zip texts fds) t ≡ filter_map (λ x. lookup x t) texts
replaced-lookups [] [] t size once = refl
replaced-lookups [] (n ∷ fds) t size once = absurd (omega arith)
replaced-lookups (a ∷ texts) [] t size once = absurd (omega arith)
replaced-lookups (a ∷ texts) (n ∷ fds) t size once =
    let parts = or_parts (is_among a texts) (has_repeat texts) once in
    ap (λ rest. option_to_list (lookup a t) ++ rest) (replaced-lookups texts fds (put a n t) (omega arith) parts.1 ∙ lookups-kept a n t texts parts.0)
    ∙ option-cons (lookup a t) (filter_map (λ x. lookup x t) texts)

-- nothing is replaced in an empty table
pub lookups-empty : (texts : List (List ℕ)) → filter_map (λ x. lookup x []) texts ≡ []
lookups-empty [] = refl
lookups-empty (a ∷ texts) = lookups-empty texts

-- setting pairs keeps the order
pub ascending-put_all : (pairs es : List Entry) → IsAscending es → IsAscending (put_all pairs es)
ascending-put_all [] es up = up
ascending-put_all (p ∷ pairs) es up = ascending-put_all pairs (put p.0 p.1 es) (ascending-put p.0 p.1 es up)
