-- Adding a service to a server.
use Rattle.std.proofs.Common.{ℕ, zero, suc, Bool, true, false, ◌==◌, cond, List, [], ◌∷◌, ◌++◌, ◌≡◌, refl, sym, ◌∙◌, ap, subst, inl, inr, arith, ◌+◌, ◌<◌, ◌≤◌, length, map, take, drop, reverse, get_or, All, nat_lt, nat_le}
use Rattle.std.specs.Prelude.{Option, Some, None, IfSome, position, slice_get, unwrap_or}
use Rattle.std.specs.List.{position_or_len}
use Rattle.std.specs.Option.{option_map, option_or}
use Rattle.std.proofs.lemmas.Bool.{or_parts, ltb-false, leb-false, eqb-false, false_from_ne_true, lt-leb, cases_lt}
use Rattle.std.proofs.lemmas.List.{length-append, map_push, take_more, append_assoc, reverse-append, reverse-reverse}
use Rattle.std.proofs.lemmas.Option.{get_or_from_slice_get, same_Some}
use Rattle.std.proofs.lemmas.List.Elements.{All-push, All-cons}
use Rattle.svc_graph.specs.GraphData.{GraphData}
use Rattle.svc_graph.specs.HandleData.{HandleData}
use Rattle.svc_graph.specs.Graphs.{node_count, with_node}
use Rattle.svc_graph.specs.declared.plan.EndpointPlan.{EndpointPlan}
use Rattle.svc_record.specs.declared.plan.ServicePlan.{ServicePlan}
use Rattle.svc_record.specs.Validity.{IsAddress}
use Rattle.svc_server.specs.declared.server.refusals.AddError.{AddError}
use Rattle.svc_server.specs.declared.server.refusals.AddError.TheVariants.{TooMany, TooManyEndpoints, BadAddressText, UnknownFilter}
use Rattle.svc_graph.specs.declared.services.ServiceWithDependents.{Ghosts}
use Rattle.svc_server.specs.Servers.{answer_of, answers_of, HasFilters, IsSound}
use Rattle.svc_server.specs.Additions.{is_bad_address, is_unknown_filter, cause_if, first_cause, endpoint_causes, fault_of, IsReason, with_nodes, handles_from, AddsFirst, RefusesAt}

-- ---- causes

or_none_parts : (a b : Option AddError) → option_or a b ≡ None → (a ≡ None) × (b ≡ None)
or_none_parts None b e = (refl, e)
or_none_parts (Some x) b e = absurd (cc)

no_cause : (b : Bool) (cause : AddError) → cause_if b cause ≡ None → b ≡ false
no_cause true cause e = absurd (cc)
no_cause false cause e = refl

unmapped : (f : ℕ → AddError) (o : Option ℕ) → option_map f o ≡ None → o ≡ None
unmapped f None e = refl
unmapped f (Some x) e = absurd (cc)

-- a filter that isn't unknown is one of the first n
known : (n : ℕ) (o : Option ℕ) → unwrap_or (option_map (λ f. nat_le n f) o) false ≡ false → IfSome o (λ f. f < n)
known n None e = tt
known n (Some f) e = leb-false n f e

-- where a test has no first element, no element passes it
no_position : {X : Type 0} (p : X → Bool) (xs : List X) → position p xs ≡ None → All (λ x. p x ≡ false) xs
no_position p xs e = none p xs (past (position_or_len p xs) (length xs) e)
  where
    past : (i n : ℕ) → cond (nat_lt i n) (Some i) None ≡ None → n ≤ i
    past i n none =
        ltb-false i n
        (false_from_ne_true (nat_lt i n)
        (λ lt. (let found : cond true (Some i) None ≡ None = subst (λ b. cond b (Some i) None ≡ None) lt none in absurd (cc))))

    none : {Y : Type 0} (q : Y → Bool) (ys : List Y) → length ys ≤ position_or_len q ys → All (λ y. q y ≡ false) ys
    none q [] le k d lt = absurd (omega arith)
    none q (y ∷ ys) le k d lt =
        let first : q y ≡ false = false_from_ne_true (q y) (λ yes. (let here : position_or_len q (y ∷ ys) ≡ 0 = rw yes refl in omega arith)) in
        let later : position_or_len q (y ∷ ys) ≡ 1 + position_or_len q ys = rw first refl in
        All-cons (λ x. q x ≡ false) y ys first (none q ys (omega arith)) k d lt

-- ---- a server with one service more

-- where no cause stands
record NoCause (full many : Bool) (bad filtered : Option ℕ) : Type 0 where
  room : full ≡ false
  few : many ≡ false
  addresses : bad ≡ None
  filters : filtered ≡ None

no_causes : (full many : Bool) (bad filtered : Option ℕ)
    → first_cause (cause_if full TooMany ∷ cause_if many TooManyEndpoints ∷ option_map BadAddressText bad ∷ option_map UnknownFilter filtered ∷ []) ≡ None
    → NoCause full many bad filtered
no_causes full many bad filtered none =
    let a = or_none_parts (cause_if full TooMany)
    (first_cause (cause_if many TooManyEndpoints ∷ option_map BadAddressText bad ∷ option_map UnknownFilter filtered ∷ [])) none in
    let b = or_none_parts (cause_if many TooManyEndpoints) (first_cause (option_map BadAddressText bad ∷ option_map UnknownFilter filtered ∷ [])) a.1 in
    let c = or_none_parts (option_map BadAddressText bad) (first_cause (option_map UnknownFilter filtered ∷ [])) b.1 in
    let d = or_none_parts (option_map UnknownFilter filtered) None c.1 in
    record {
      room = no_cause full TooMany a.0;
      few = no_cause many TooManyEndpoints b.0;
      addresses = unmapped BadAddressText bad c.0;
      filters = unmapped UnknownFilter filtered d.0;
    }

-- what is known of a service that can be added
record IsGood (filters : ℕ) (s : ServicePlan) : Type 0 where
  limits : (length s.endpoints ≤ 64) × All IsAddress s.endpoints
  filtered : HasFilters filters s

good-address : (e : EndpointPlan) → is_bad_address e ≡ false → IsAddress e
good-address e good =
    let parts = or_parts (length e.address == 0) (nat_lt 4096 (length e.address)) good in
    let some : length e.address ≡ 0 → ⊥ = eqb-false (length e.address) 0 parts.0 in
    let few : length e.address ≤ 4096 = ltb-false 4096 (length e.address) parts.1 in
    (omega arith, few)

good : (g : GraphData) (n : ℕ) (s : ServicePlan) → fault_of g n s ≡ None → IsGood n s
good g n s none =
    let said = no_causes (nat_le 1024 (node_count g)) (nat_lt 64 (length s.endpoints)) (position is_bad_address s.endpoints)
    (position (is_unknown_filter n) s.endpoints) none in
    let filters = no_position (is_unknown_filter n) s.endpoints said.filters in
    record {
      limits = (
        ltb-false 64 (length s.endpoints) said.few,
        λ k d lt. good-address (get_or s.endpoints k d) (no_position is_bad_address s.endpoints said.addresses k d lt),
      );
      filtered = λ k d lt. known n (get_or s.endpoints k d).filter (filters k d lt);
    }

-- a sound server stays so with a service that can be added
pub sound-push : (g : GraphData) (n : ℕ) (answers : List ServicePlan) (s : ServicePlan) → fault_of g n s ≡ None → IsSound g n answers
    → IsSound (with_node g s.name) n (answers ++ s ∷ [])
sound-push g n answers s none sound =
    let parts = good g n s none in
    record {
      names = ap (λ (names : List (List ℕ)). names ++ s.name ∷ []) sound.names ∙ sym (map_push (λ (x : ServicePlan). x.name) answers s);
      limits = All-push (λ (x : ServicePlan). (length x.endpoints ≤ 64) × All IsAddress x.endpoints) answers s sound.limits parts.limits;
      filtered = All-push (HasFilters n) answers s sound.filtered parts.filtered;
    }

more-filters : (n m : ℕ) (o : Option ℕ) → n ≤ m → IfSome o (λ f. f < n) → IfSome o (λ f. f < m)
more-filters n m None le h = tt
more-filters n m (Some f) le h = omega (arith, h)

-- a sound server stays so with more filters
pub sound-filters : (g : GraphData) (n m : ℕ) (answers : List ServicePlan) → n ≤ m → IsSound g n answers → IsSound g m answers
sound-filters g n m answers le sound = record {
  names = sound.names;
  limits = sound.limits;
  filtered = λ k d lt j e lf. more-filters n m (get_or (get_or answers k d).endpoints j e).filter le (sound.filtered k d lt j e lf);
}

-- ---- the first cause, step by step

-- where there is room, the other causes decide
pub fault-room : (g : GraphData) (n : ℕ) (s : ServicePlan) → node_count g < 1024 → fault_of g n s ≡ first_cause (endpoint_causes n s.endpoints)
fault-room g n s room = let free : nat_le 1024 (node_count g) ≡ false = lt-leb 1024 (node_count g) room in rw free refl

-- the server after a service was added
pub add-sound : {B : Type 0} (means : Ghosts B) (g h : GraphData) (n : ℕ) (old new : List B) (b : B) → h ≡ with_node g (means.named b) → new ≡ old ++ b ∷ []
    → fault_of g n (answer_of means b) ≡ None
    → IsSound g n (answers_of means old) → IsSound h n (answers_of means new)
add-sound means g h n old new b node added none sound =
    subst (λ (k : GraphData). IsSound k n (answers_of means new)) (sym node)
    (subst (λ (answers : List ServicePlan). IsSound (with_node g (means.named b)) n answers)
    (sym (ap (λ xs. answers_of means xs) added ∙ map_push (answer_of means) old b))
    (sound-push g n (answers_of means old) (answer_of means b) none sound))

-- ---- services one after the other

with_nodes-push : (g : GraphData) (names : List (List ℕ)) (name : List ℕ) → with_nodes g (names ++ name ∷ []) ≡ with_node (with_nodes g names) name
with_nodes-push g [] name = refl
with_nodes-push g (n ∷ names) name = with_nodes-push (with_node g n) names name

node_count-with_nodes : (g : GraphData) (names : List (List ℕ)) → node_count (with_nodes g names) ≡ node_count g + length names
node_count-with_nodes g [] = omega arith
node_count-with_nodes g (n ∷ names) = omega (arith, node_count-with_nodes (with_node g n) names, length-append g.names (n ∷ []))

handles_from-push : (n : ℕ) (names : List (List ℕ)) (name : List ℕ) (k : ℕ) → n + length names ≡ k
    → handles_from n (names ++ name ∷ []) ≡ handles_from n names ++ (record { id = k; name = name }) ∷ []
handles_from-push n [] name k at = let same : n ≡ k = omega arith in ap (λ (i : ℕ). handles_from i (name ∷ [])) same
handles_from-push n (x ∷ names) name k at = ap (λ rest. (record { id = n; name = x }) ∷ rest) (handles_from-push (n + 1) names name k (omega arith))

-- what stands first in the rest of a list
dropped : {B : Type 0} (more : List B) (n : ℕ) (b : B) (rest : List B) → drop n more ≡ b ∷ rest
    → (n < length more) × (slice_get more n ≡ Some b) × (drop (n + 1) more ≡ rest)
dropped [] zero b rest e = absurd (cc)
dropped (x ∷ xs) zero b rest e = (omega arith, first x xs b rest e, behind x xs b rest e)
  where
    first : {C : Type 0} (y : C) (ys : List C) (c : C) (zs : List C) → y ∷ ys ≡ c ∷ zs → slice_get (y ∷ ys) zero ≡ Some c
    first y ys c zs e = ap (λ (l : List _). slice_get l zero) e

    behind : {C : Type 0} (y : C) (ys : List C) (c : C) (zs : List C) → y ∷ ys ≡ c ∷ zs → drop (0 + 1) (y ∷ ys) ≡ zs
    behind y ys c zs e = ap (λ (l : List _). drop 1 l) e
dropped [] (suc n) b rest e = absurd (cc)
dropped (x ∷ xs) (suc n) b rest e =
    let inner = dropped xs n b rest e in
    let same : suc n + 1 ≡ suc (n + 1) = omega arith in
    (omega (arith, inner.0), inner.1, ap (λ (k : ℕ). drop k (x ∷ xs)) same ∙ inner.2)

-- what was popped from services that are left in reverse is the next of them
pub popped : {B : Type 0} (more left now : List B) (n : ℕ) (b : B) → left ≡ reverse (drop n more) → left ≡ now ++ b ∷ []
    → (n < length more) × (slice_get more n ≡ Some b) × (now ≡ reverse (drop (n + 1) more))
popped {B = B} more left now n b reversed taken =
    let front : drop n more ≡ b ∷ reverse now =
    sym (reverse-reverse (drop n more)) ∙ ap (λ (l : List B). reverse l) (sym reversed ∙ taken) ∙ reverse-append now (b ∷ []) in
    let inner = dropped more n b (reverse now) front in
    (inner.0, inner.1, sym (reverse-reverse now) ∙ ap (λ (l : List B). reverse l) (sym inner.2))

-- one service more is added
pub adds-more : {B : Type 0} (means : Ghosts B) (old g h : GraphData) (filters : ℕ) (there services now more : List B) (n m : ℕ) (b : B)
    (handles : List HandleData) (handle : HandleData)
    → AddsFirst means old g filters there services more n handles → n < length more → slice_get more n ≡ Some b → now ≡ services ++ b ∷ []
    → h ≡ with_node g (means.named b)
    → fault_of g filters (answer_of means b) ≡ None → handle ≡ record { id = node_count g; name = means.named b } → m ≡ n + 1
    → AddsFirst means old h filters there now more m (handles ++ handle ∷ [])
adds-more {B = B} means old g h filters there services now more n m b handles handle adds lt at pushed node none is step =
    let next : take m more ≡ take n more ++ b ∷ [] =
    ap (λ (k : ℕ). take k more) step ∙ take_more more n b lt ∙ ap (λ (x : B). take n more ++ x ∷ []) (get_or_from_slice_get more n b b at) in
    let names : map means.named (take m more) ≡ map means.named (take n more) ++ means.named b ∷ [] =
    ap (λ (xs : List B). map means.named xs) next ∙ map_push means.named (take n more) b in
    record {
      within = omega arith;
      added = pushed ∙ ap (λ (xs : List B). xs ++ b ∷ []) adds.added ∙ append_assoc there (take n more) (b ∷ []) ∙ ap (λ (xs : List B). there ++ xs) (sym next);
      nodes = node ∙ ap (λ (k : GraphData). with_node k (means.named b)) adds.nodes ∙ sym (with_nodes-push old (map means.named (take n more)) (means.named b))
          ∙ ap (λ (ns : List (List ℕ)). with_nodes old ns) (sym names);
      numbered =
          ap (λ (x : HandleData). handles ++ x ∷ []) is
          ∙ ap (λ (xs : List HandleData). xs ++ (record { id = node_count g; name = means.named b }) ∷ []) adds.numbered
          ∙ sym (handles_from-push (node_count old) (map means.named (take n more)) (means.named b) (node_count g)
          (sym (ap (λ (k : GraphData). node_count k) adds.nodes ∙ node_count-with_nodes old (map means.named (take n more)))))
          ∙ ap (λ (ns : List (List ℕ)). handles_from (node_count old) ns) (sym names);
      good = λ k c le here.
          elim (cases_lt k n) [
            | inl earlier ↦ adds.good k c earlier here
            | inr late ↦ (
                let same : k ≡ n = omega arith in
                let this : c ≡ b = same_Some c b (sym here ∙ ap (λ (i : ℕ). slice_get more i) same ∙ at) in
                ap (λ (i : ℕ). fault_of (with_nodes old (map means.named (take i more))) filters (answer_of means c)) same
                ∙ ap (λ (x : B). fault_of (with_nodes old (map means.named (take n more))) filters (answer_of means x)) this
                ∙ ap (λ (k' : GraphData). fault_of k' filters (answer_of means b)) (sym adds.nodes)
                ∙ none)
          ];
    }

-- the reason for which the next service isn't added
pub refuses-at : {B : Type 0} (means : Ghosts B) (g h : GraphData) (filters : ℕ) (more : List B) (n index : ℕ) (b : B) (reason : AddError)
    → slice_get more n ≡ Some b → index ≡ n → h ≡ g
    → IsReason (fault_of g filters (answer_of means b)) reason → RefusesAt means h filters more index reason
refuses-at means g h filters more n index b reason at same nodes (inl wanted) = inl wanted
refuses-at {B = B} means g h filters more n index b reason at same nodes (inr stands) =
    inr (
      b,
      ap (λ (i : ℕ). slice_get more i) same ∙ at,
      ap (λ (k : GraphData). fault_of k filters (answer_of means b)) nodes ∙ stands,
    )
