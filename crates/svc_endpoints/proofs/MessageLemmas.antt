-- The table that the live descriptors make is the one that the record says.
use Rattle.std.proofs.Common.{ℕ, Vec, drop, ◌||◌, true, Bool, false, not, ◌+◌, ◌<◌, inl, inr, List, [], ◌∷◌, ◌++◌, Option, Some, None, ◌≡◌, refl, sym, ap, subst, ◌∙◌, length, map, filter, take, get_or, if◌then◌else◌}
use Rattle.std.specs.List.{list_any, filter_map, cons_option}
use Rattle.std.specs.Ordering.{nat_cmp, match_ordering}
use Rattle.std.specs.declared.cmp.Ordering.{Ordering}
use Rattle.std.specs.declared.cmp.Ordering.TheVariants.{Less, Equal, Greater}
use Rattle.std.specs.Cmp.Lexicographic.{slice_cmp}
use Rattle.std.specs.Str.{bytes_eq}
use Rattle.std.specs.Option.{option_to_list}
use Rattle.std.proofs.lemmas.Bool.{cases_Bool, or_left}
use Rattle.std.proofs.lemmas.List.Folds.{list_any-append}
use Rattle.svc_base.specs.Blocks.{joined}
use Rattle.svc_base.proofs.BlockLemmas.{joined-front, joined-back}
use Rattle.std.proofs.lemmas.List.{take_more}
use Rattle.std.proofs.lemmas.List.Elements.{filter_map-append}
use Rattle.std.proofs.lemmas.Map.Lookups.{exact_bytes}
use Rattle.svc_fds.specs.Tables.{Entry as TableEntry, lookup, put, put_all, PrecedesAll, IsAscending}
use Rattle.svc_fds.proofs.TableLemmas.{differs_back, lesser, same, equal, lookup-put, precedes-trans}
use Rattle.svc_fds.proofs.PairLemmas.{ascending-put_all}
use Rattle.svc_record.specs.declared.plan.Plan.{Plan}
use Rattle.svc_record.specs.Record.{Record}
use Rattle.svc_record.specs.Plans.{same_address}
use Rattle.svc_record.specs.Descriptors.{Descriptor, live_descriptors, as_entry, live_table}
use Rattle.svc_record.specs.Offer.{is_empty_table}
use Rattle.svc_endpoints.specs.declared.table.Open.{Open}
use Rattle.svc_endpoints.specs.EndpointsData.{EndpointsData}
use Rattle.svc_endpoints.specs.EndpointsState.{EndpointsStand, numbers_with}
use Rattle.svc_endpoints.specs.Offered.{open_entry, offer_table, is_addressed}

-- an address before all of a table isn't in it
lookup-before : (a : List ℕ) (es : List TableEntry) → PrecedesAll a es → lookup a es ≡ None
lookup-before a [] all = refl
lookup-before a (e ∷ es) all = rw (differs_back a e.0 all.0) (lookup-before a es all.1)

lookup-first : (e : TableEntry) (es : List TableEntry) → lookup e.0 (e ∷ es) ≡ Some e.1
lookup-first e es = rw (same e.0) refl

some_none : {A : Type 0} (o : Option ℕ) (n : ℕ) → o ≡ Some n → o ≡ None → A
some_none o n h g = absurd (cc)

some_equal : (o : Option ℕ) (n m : ℕ) → o ≡ Some n → o ≡ Some m → n ≡ m
some_equal o n m h g = cc

-- what two tables have behind an address of both is the same, where it is the same in all
lookup-rest : (x : List ℕ) (n m : ℕ) (xs ys : List TableEntry) → PrecedesAll x xs → PrecedesAll x ys
    → ((a : List ℕ) → lookup a ((x, n) ∷ xs) ≡ lookup a ((x, m) ∷ ys)) → (a : List ℕ) → lookup a xs ≡ lookup a ys
lookup-rest x n m xs ys above over h a = elim (cases_Bool (bytes_eq x a)) [
  | inl y ↦ subst (λ b. lookup b xs ≡ lookup b ys) (equal x a y) (lookup-before x xs above ∙ sym (lookup-before x ys over))
  | inr off ↦ (let k = h a in rw off at k)
]

same_by : (x y : TableEntry) (xs ys : List TableEntry) (o : Ordering) → slice_cmp nat_cmp x.0 y.0 ≡ o → IsAscending (x ∷ xs) → IsAscending (y ∷ ys)
    → ((a : List ℕ) → lookup a (x ∷ xs) ≡ lookup a (y ∷ ys)) → (((a : List ℕ) → lookup a xs ≡ lookup a ys) → xs ≡ ys) → x ∷ xs ≡ y ∷ ys
same_by x y xs ys Less o up rise h rest =
    some_none (lookup x.0 (x ∷ xs)) x.1 (lookup-first x xs) (h x.0 ∙ lookup-before x.0 (y ∷ ys) (o, precedes-trans x.0 y.0 ys o rise.0))
same_by x y xs ys Greater o up rise h rest =
    let less = lesser x.0 y.0 o in
    some_none (lookup y.0 (y ∷ ys)) y.1 (lookup-first y ys) (sym (h y.0) ∙ lookup-before y.0 (x ∷ xs) (less, precedes-trans y.0 x.0 xs less up.0))
same_by x y xs ys Equal o up rise h rest =
    let e : y.0 ≡ x.0 = sym (exact_bytes x.0 y.0 o) in
    let here : lookup x.0 (y ∷ ys) ≡ Some y.1 = subst (λ b. lookup b (y ∷ ys) ≡ Some y.1) e (lookup-first y ys) in
    let number : x.1 ≡ y.1 = some_equal (lookup x.0 (x ∷ xs)) x.1 y.1 (lookup-first x xs) (h x.0 ∙ here) in
    let over : PrecedesAll x.0 ys = subst (λ b. PrecedesAll b ys) e rise.0 in
    let later = rest (lookup-rest x.0 x.1 y.1 xs ys up.0 over (λ a. h a ∙ ap (λ b. lookup a ((b, y.1) ∷ ys)) e)) in
    ap (λ b. (b, x.1) ∷ xs) (sym e) ∙ ap (λ n. (y.0, n) ∷ xs) number ∙ ap (λ es. y ∷ es) later

-- two tables that have the same at each address are the same
pub lookups-same : (xs ys : List TableEntry) → IsAscending xs → IsAscending ys → ((a : List ℕ) → lookup a xs ≡ lookup a ys) → xs ≡ ys
lookups-same [] [] up rise h = refl
lookups-same [] (y ∷ ys) up rise h = some_none (lookup y.0 (y ∷ ys)) y.1 (lookup-first y ys) (sym (h y.0))
lookups-same (x ∷ xs) [] up rise h = some_none (lookup x.0 (x ∷ xs)) x.1 (lookup-first x xs) (h x.0)
lookups-same (x ∷ xs) (y ∷ ys) up rise h = same_by x y xs ys (slice_cmp nat_cmp x.0 y.0) refl up rise h (λ k. lookups-same xs ys up.1 rise.1 k)

-- the numbers of pairs with this address
abbrev pub numbers_at : List ℕ → List TableEntry → List ℕ
numbers_at a [] = []
numbers_at a (e ∷ es) = if bytes_eq e.0 a then e.1 ∷ numbers_at a es else numbers_at a es

-- the last of them, else what there was before
abbrev pub last_of : List ℕ → Option ℕ → Option ℕ
last_of [] before = before
last_of (n ∷ more) before = last_of more (Some n)

-- a table has the last number that was set at an address
pub lookup-put_all : (a : List ℕ) (pairs es : List TableEntry) → lookup a (put_all pairs es) ≡ last_of (numbers_at a pairs) (lookup a es)
lookup-put_all a [] es = refl
lookup-put_all a (e ∷ pairs) es =
    lookup-put_all a pairs (put e.0 e.1 es) ∙ ap (λ o. last_of (numbers_at a pairs) o) (lookup-put e.0 e.1 es a) ∙ elim (cases_Bool (bytes_eq e.0 a)) [
      | inl y ↦ rw y refl
      | inr n ↦ rw n refl
    ]

-- pairs with the same numbers at each address make the same table
pub tables-same : (xs ys : List TableEntry) → ((a : List ℕ) → numbers_at a xs ≡ numbers_at a ys) → put_all xs [] ≡ put_all ys []
tables-same xs ys h = lookups-same (put_all xs []) (put_all ys []) (ascending-put_all xs [] tt) (ascending-put_all ys [] tt)
    (λ a. lookup-put_all a xs [] ∙ ap (λ ns. last_of ns None) (h a) ∙ sym (lookup-put_all a ys []))

open_one : (a : List ℕ) (n : ℕ) (b : Option (List ℕ)) (more : List Open) → numbers_at a (filter_map open_entry more) ≡ numbers_with more (Some a)
    → numbers_at a (filter_map open_entry (record { fd = n; address = b } ∷ more)) ≡ numbers_with (record { fd = n; address = b } ∷ more) (Some a)
open_one a n (Some b) more rest = elim (cases_Bool (bytes_eq b a)) [
  | inl y ↦ rw y (ap (λ w. n ∷ w) rest)
  | inr off ↦ rw off rest
]
open_one a n None more rest = rest

open_numbers-at : (a : List ℕ) (table : List Open) → numbers_at a (filter_map open_entry table) ≡ numbers_with table (Some a)
open_numbers-at a [] = refl
open_numbers-at a (o ∷ more) = open_one a o.fd o.address more (open_numbers-at a more)

-- the numbers of the descriptors with this address
abbrev live_at : List ℕ → List Descriptor → List ℕ
live_at a ds = map (λ (d : Descriptor). d.number) (filter (λ (d : Descriptor). same_address d.address (Some a)) ds)

live_one : (a : List ℕ) (n : ℕ) (b : Option (List ℕ)) (came : Bool) (more : List Descriptor) → numbers_at a (filter_map as_entry more) ≡ live_at a more
    → numbers_at a (filter_map as_entry (record { number = n; address = b; received = came } ∷ more))
    ≡ live_at a (record { number = n; address = b; received = came } ∷ more)
live_one a n (Some b) came more rest = elim (cases_Bool (bytes_eq b a)) [
  | inl y ↦ rw y (ap (λ w. n ∷ w) rest)
  | inr off ↦ rw off rest
]
live_one a n None came more rest = rest

live_numbers-at : (a : List ℕ) (ds : List Descriptor) → numbers_at a (filter_map as_entry ds) ≡ live_at a ds
live_numbers-at a [] = refl
live_numbers-at a (d ∷ more) = live_one a d.number d.address d.received more (live_numbers-at a more)

-- what the table offers is what the record says is live
pub offer-is : (p : Plan) (d : EndpointsData) (q : Record) → EndpointsStand p d q → offer_table d.table ≡ live_table p q
offer-is p d q h = tables-same (filter_map open_entry d.table) (filter_map as_entry (live_descriptors p q))
    (λ a. open_numbers-at a d.table ∙ h.states.with_is (Some a) ∙ sym (live_numbers-at a (live_descriptors p q)))

empty_by : (a : List ℕ) (n : ℕ) (e : TableEntry) (es others : List TableEntry) (o : Ordering)
    → is_empty_table (match_ordering o (e ∷ others) ((a, n) ∷ es) ((a, n) ∷ e ∷ es)) ≡ false
empty_by a n e es others Less = refl
empty_by a n e es others Equal = refl
empty_by a n e es others Greater = refl

put-some : (a : List ℕ) (n : ℕ) (es : List TableEntry) → is_empty_table (put a n es) ≡ false
put-some a n [] = refl
put-some a n (e ∷ es) = empty_by a n e es (put a n es) (slice_cmp nat_cmp e.0 a)

put_all-some : (pairs es : List TableEntry) → is_empty_table es ≡ false → is_empty_table (put_all pairs es) ≡ false
put_all-some [] es h = h
put_all-some (e ∷ pairs) es h = put_all-some pairs (put e.0 e.1 es) (put-some e.0 e.1 es)

some_one : (n : ℕ) (b : Option (List ℕ)) (more : List Open) → list_any is_addressed more ≡ not (is_empty_table (offer_table more))
    → list_any is_addressed (record { fd = n; address = b } ∷ more) ≡ not (is_empty_table (offer_table (record { fd = n; address = b } ∷ more)))
some_one n (Some b) more rest = sym (ap not (put_all-some (filter_map open_entry more) (put b n []) refl))
some_one n None more rest = rest

-- something is offered where some descriptor has an address
pub some-offered : (table : List Open) → list_any is_addressed table ≡ not (is_empty_table (offer_table table))
some-offered [] = refl
some-offered (o ∷ more) = some_one o.fd o.address more (some-offered more)

-- pairs that are set in two parts
put_all-more : (xs ys es : List TableEntry) → put_all (xs ++ ys) es ≡ put_all ys (put_all xs es)
put_all-more [] ys es = refl
put_all-more (x ∷ xs) ys es = put_all-more xs ys (put x.0 x.1 es)

option_last : (o : Option TableEntry) → cons_option o [] ≡ option_to_list o
option_last (Some e) = refl
option_last None = refl

-- one descriptor more
pub put_all-next : (table : List Open) (k : ℕ) (o : Open) (es : List TableEntry) → k < length table → o ≡ get_or table k o
    → put_all (option_to_list (open_entry o)) (put_all (filter_map open_entry (take k table)) es) ≡ put_all (filter_map open_entry (take (k + 1) table)) es
put_all-next table k o es inside read =
    sym (put_all-more (filter_map open_entry (take k table)) (option_to_list (open_entry o)) es)
    ∙ ap (λ xs. put_all (filter_map open_entry (take k table) ++ xs) es) (sym (option_last (open_entry o)))
    ∙ ap (λ xs. put_all xs es) (sym (filter_map-append open_entry (take k table) (o ∷ [])))
    ∙ ap (λ xs. put_all (filter_map open_entry xs) es) (ap (λ (x : Open). take k table ++ x ∷ []) read ∙ sym (take_more table k o inside))

-- the descriptors of one block more
pub put_all-block : {Z : Type 0} (bs : List (Vec Open Z)) (k : ℕ) (b : Vec Open Z) (es : List TableEntry) → k < length bs → b ≡ get_or bs k b
    → put_all (filter_map open_entry b.items) (put_all (filter_map open_entry (joined (take k bs))) es)
    ≡ put_all (filter_map open_entry (joined (take (k + 1) bs))) es
put_all-block bs k b es lt read =
    sym (put_all-more (filter_map open_entry (joined (take k bs))) (filter_map open_entry b.items) es)
    ∙ ap (λ xs. put_all xs es) (sym (ap (filter_map open_entry) (joined-front bs k b lt read) ∙ filter_map-append open_entry (joined (take k bs)) b.items))

-- whether some descriptor of a block, or of those behind it, has an address
module _ {Z : Type 0} (bs : List (Vec Open Z)) (k : ℕ) (b : Vec Open Z) (lt : k < length bs) (read : b ≡ get_or bs k b) where
  any_back : list_any is_addressed (joined (drop k bs)) ≡ (list_any is_addressed b.items || list_any is_addressed (joined (drop (k + 1) bs)))
  any_back = ap (list_any is_addressed) (joined-back bs k b lt read) ∙ list_any-append is_addressed b.items (joined (drop (k + 1) bs))

  pub addressed-here : list_any is_addressed b.items ≡ true → true ≡ list_any is_addressed (joined (drop k bs))
  addressed-here h = sym (any_back ∙ or_left (list_any is_addressed b.items) (list_any is_addressed (joined (drop (k + 1) bs))) h)

  pub addressed-past : list_any is_addressed b.items ≡ false → list_any is_addressed (joined (drop (k + 1) bs)) ≡ list_any is_addressed (joined (drop k bs))
  addressed-past h = sym (any_back ∙ (rw h refl))
