-- Against the services of an accepted script no cause stands.
use Rattle.std.proofs.Common.{◌≡◌, ℕ, zero, suc, Bool, true, false, cond, List, [], ◌∷◌, length, map, take, get_or, Option, None, inl, inr, refl, sym, ap, ◌∙◌, arith, ◌<◌, ◌≤◌, ◌+◌, All}
use Rattle.std.specs.Prelude.{nat_lt, nat_le, position, count_by}
use Rattle.std.specs.List.{position_or_len}
use Rattle.std.specs.Option.{option_map}
use Rattle.std.proofs.lemmas.Bool.{and_parts, ltb-true, leb-true, le-ltb, lt-leb, ne_eqb}
use Rattle.std.proofs.lemmas.List.{length-map, length-take-le}
use Rattle.std.proofs.lemmas.List.Sums.{sum_by-append}
use Rattle.svc_graph.specs.GraphData.{GraphData}
use Rattle.svc_graph.specs.Graphs.{node_count}
use Rattle.svc_graph.specs.declared.plan.EndpointPlan.{EndpointPlan}
use Rattle.svc_record.specs.declared.plan.ServicePlan.{ServicePlan}
use Rattle.svc_text.specs.declared.service.EndpointLine.{EndpointLine}
use Rattle.svc_text.specs.declared.service.ServiceLine.{ServiceLine}
use Rattle.svc_text.specs.Filters.{blocks, filter_number, blocked_lists}
use Rattle.svc_text.specs.ScriptPlans.{endpoint_of}
use Rattle.svc_text.specs.ServiceLines.{is_address}
use Rattle.svc_text.specs.Accepted.{AreAccepted, IsAccepted}
use Rattle.svc_server.specs.declared.server.refusals.AddError.{AddError}
use Rattle.svc_server.specs.declared.server.refusals.AddError.TheVariants.{TooMany, TooManyEndpoints, BadAddressText, UnknownFilter, NoMemory}
use Rattle.svc_server.specs.Additions.{fault_of, cause_if, first_cause, is_unknown_filter, is_bad_address, IsReason}
use Rattle.svc_services.specs.declared.script_filter.ScriptFilter.{ScriptFilter}
use Rattle.svc_services.specs.declared.services.Filtered.{Filtered}
use Rattle.svc_services.specs.declared.services.Filtered.TheVariants.{Blocking, Each}
use Rattle.svc_services.specs.BlockedLists.{blocked_by}
use Rattle.svc_services.specs.Filtered.{number_behind, AreEnough}
use Rattle.svc_services.specs.Services.{answered}
use Rattle.svc_services.proofs.ServerLemmas.{HasFirst}

good_address : (number : Option ℕ) (e : EndpointLine) → is_address e.address ≡ true → is_bad_address (endpoint_of number e) ≡ false
good_address number e h =
    let parts = and_parts (nat_lt 0 (length e.address)) (nat_le (length e.address) 4096) h in
    let some : 0 < length e.address = ltb-true 0 (length e.address) parts.0 in
    let few : length e.address ≤ 4096 = leb-true (length e.address) 4096 parts.1 in
    rw (ne_eqb (length e.address) 0 (omega arith), le-ltb 4096 (length e.address) few) refl

-- where no line's endpoint passes a test, none is found
past_all : (p : EndpointPlan → Bool) (number : Option ℕ) (lines : List EndpointLine) → All (λ e. p (endpoint_of number e) ≡ false) lines
    → position_or_len p (map (endpoint_of number) lines) ≡ length lines
past_all p number [] none = refl
past_all p number (e ∷ lines) none =
    let first : p (endpoint_of number e) ≡ false = none 0 e (omega arith) in
    let later = past_all p number lines (λ k d lt. none (suc k) d (omega arith)) in
    rw first (omega (arith, later))

found_none : (p : EndpointPlan → Bool) (number : Option ℕ) (lines : List EndpointLine) → All (λ e. p (endpoint_of number e) ≡ false) lines
    → position p (map (endpoint_of number) lines) ≡ None
found_none p number lines none =
    let past : length (map (endpoint_of number) lines) ≤ position_or_len p (map (endpoint_of number) lines) =
    omega (arith, past_all p number lines none, length-map lines (endpoint_of number)) in
    rw (le-ltb (position_or_len p (map (endpoint_of number) lines)) (length (map (endpoint_of number) lines)) past) refl

-- ---- the number of a filter is one of the filters

count_before : (lines : List ServiceLine) (k : ℕ) (line : ServiceLine) → k < length lines → line ≡ get_or lines k line → blocks line ≡ true
    → count_by blocks (take k lines) < length (blocked_lists lines)
count_before [] k line lt read h = absurd (omega arith)
count_before (x ∷ lines) zero line lt read h =
    let here : blocks x ≡ true = ap blocks (sym read) ∙ h in
    let all : length (blocked_lists (x ∷ lines)) ≡ suc (length (blocked_lists lines)) = rw here refl in
    omega (arith, all)
count_before (x ∷ lines) (suc k) line lt read h =
    by (blocks x) refl (count_before lines k line (omega arith) read h)
  where
    by : (b : Bool) → blocks x ≡ b → count_by blocks (take k lines) < length (blocked_lists lines)
        → count_by blocks (take (suc k) (x ∷ lines)) < length (blocked_lists (x ∷ lines))
    by b e rest =
        let front : count_by blocks (x ∷ take k lines) ≡ count_by blocks (x ∷ []) + count_by blocks (take k lines) =
        sum_by-append (λ y. cond (blocks y) 1 0) (x ∷ []) (take k lines) in
        omega (arith, front, one b e, rest)
      where
        one : (c : Bool) → blocks x ≡ c → length (blocked_lists (x ∷ lines)) ≡ count_by blocks (x ∷ []) + length (blocked_lists lines)
        one true is = rw is (omega arith)
        one false is = rw is (omega arith)

-- where the filters are enough, that of the line at index k is known
known_filter : (filtered : Filtered) (lines : List ServiceLine) (k : ℕ) (line : ServiceLine) (filters : ℕ) (e : EndpointLine) → k < length lines
    → line ≡ get_or lines k line → AreEnough filtered lines filters
    → is_unknown_filter filters (endpoint_of (number_behind filtered (take k lines) line) e) ≡ false
known_filter Each lines k line filters e lt read are =
    lt-leb filters (length (take k lines)) (omega (arith, are, length-take-le k lines (omega arith)))
known_filter Blocking lines k line filters e lt read are = by (blocks line) refl
  where
    by : (b : Bool) → blocks line ≡ b → is_unknown_filter filters (endpoint_of (filter_number (take k lines) line) e) ≡ false
    by true h =
        let below : count_by blocks (take k lines) < filters = omega (arith, count_before lines k line lt read h, are) in
        rw (h, lt-leb filters (count_by blocks (take k lines)) below) refl
    by false h = rw h refl

-- of these causes none stands
none_stands : (full many : Bool) (bad filtered : Option ℕ) → full ≡ false → many ≡ false → bad ≡ None → filtered ≡ None
    → first_cause (cause_if full TooMany ∷ cause_if many TooManyEndpoints ∷ option_map BadAddressText bad ∷ option_map UnknownFilter filtered ∷ []) ≡ None
none_stands full many bad filtered ef em eb ei = rw (ef, em, eb, ei) refl

-- no cause stands against the next service
no_cause : (filtered : Filtered) (lines : List ServiceLine) (k : ℕ) (line : ServiceLine) (g : GraphData) (filters : ℕ) (answers : List ServicePlan)
    → AreAccepted lines → AreEnough filtered lines filters → HasFirst (number_behind filtered) lines k g filters answers → k < length lines
    → line ≡ get_or lines k line → fault_of g filters (answered (number_behind filtered (take k lines) line) line) ≡ None
no_cause filtered lines k line g filters answers ok enough first lt read =
    let good : IsAccepted line = rw read (ok.each k line lt) in
    let number : Option ℕ = number_behind filtered (take k lines) line in
    let few : length (map (endpoint_of number) line.endpoints) ≤ 64 = omega (arith, good.few_endpoints, length-map line.endpoints (endpoint_of number)) in
    none_stands (nat_le 1024 (node_count g)) (nat_lt 64 (length (map (endpoint_of number) line.endpoints)))
    (position is_bad_address (map (endpoint_of number) line.endpoints))
    (position (is_unknown_filter filters) (map (endpoint_of number) line.endpoints))
    (lt-leb 1024 (node_count g) (omega (arith, first.nodes.count, ok.few)))
    (le-ltb 64 (length (map (endpoint_of number) line.endpoints)) few)
    (found_none is_bad_address number line.endpoints (λ i d below. good_address number (get_or line.endpoints i d) (good.addresses i d below)))
    (found_none (is_unknown_filter filters) number line.endpoints
    (λ i d below. known_filter filtered lines k line filters (get_or line.endpoints i d) lt read enough))

reason_is : (fault : Option AddError) (reason : AddError) → fault ≡ None → IsReason fault reason → reason ≡ NoMemory
reason_is fault reason none (inl memory) = memory
reason_is fault reason none (inr stands) = absurd (cc)

-- a service of the script is refused for want of memory alone
pub only_memory : (filtered : Filtered) (lines : List ServiceLine) (k : ℕ) (line : ServiceLine) (g : GraphData) (filters : ℕ) (answers : List ServicePlan)
    (plan : ServicePlan) (reason : AddError) → AreAccepted lines → AreEnough filtered lines filters
    → HasFirst (number_behind filtered) lines k g filters answers
    → k < length lines → line ≡ get_or lines k line → plan ≡ answered (number_behind filtered (take k lines) line) line
    → IsReason (fault_of g filters plan) reason → reason ≡ NoMemory
only_memory filtered lines k line g filters answers plan reason ok enough first lt read says r =
    reason_is (fault_of g filters plan) reason (ap (fault_of g filters) says ∙ no_cause filtered lines k line g filters answers ok enough first lt read) r

-- the filters of services that block addresses are enough
pub enough_filters : (lines : List ServiceLine) (filters : List ScriptFilter) → map blocked_by filters ≡ blocked_lists lines
    → length filters ≡ length (blocked_lists lines)
enough_filters lines filters are = sym (length-map filters blocked_by) ∙ ap length are
