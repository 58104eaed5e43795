-- When a visit of a started service tells something, by the record.
use Rattle.std.proofs.Common.{◌≤◌, ◌-◌, nat_lt, ℕ, Bool, true, false, ◌||◌, ◌&&◌, not, inl, inr, List, [], ◌∷◌, ◌≡◌, refl, ap, sym, ◌∙◌, arith, ◌<◌, length, Option, Some, if◌then◌else◌, nat_le}
use Rattle.std.specs.List.{list_any}
use Rattle.std.proofs.lemmas.Bool.{cases_Bool, and_from, and_parts, or_from}
use Rattle.std.proofs.lemmas.Option.{slice_get_cases}
use Rattle.std.proofs.lemmas.Bool.Decides.{nat_tests}
use Rattle.svc_base.proofs.Logic.{clash}
use Rattle.svc_record.specs.declared.plan.Plan.{Plan}
use Rattle.svc_record.specs.Record.{Record, now}
use Rattle.svc_record.specs.Plans.{services, service_count, endpoints, address, same_address, any_with, endpoint_numbers}
use Rattle.svc_record.specs.Descriptors.{has_live}
use Rattle.svc_record.specs.Asks.{is_ask_open}
use Rattle.svc_record.specs.Failed.{has_failed}
use Rattle.svc_record.specs.Starts.{is_started}
use Rattle.svc_record.specs.Endpoints.{is_held, is_busy, in_use_within, is_busy_elsewhere, is_at_work, waits_at, first_missing, endpoint_right_late}
use Rattle.svc_endpoints.specs.declared.states.EndpointStatus.{EndpointStatus}
use Rattle.svc_endpoints.specs.declared.states.EndpointStatus.TheVariants.{Idle, Binding, AddressInUse, Adopting, Holding, AdoptionFailed}
use Rattle.svc_endpoints.specs.declared.visit.Visit.{Visit}
use Rattle.svc_endpoints.specs.declared.visit.Visit.TheVariants.{Nothing, Binds, Adopts}
use Rattle.svc_endpoints.specs.EndpointsData.{EndpointsData}
use Rattle.svc_endpoints.specs.EndpointsState.{IsEndpointsSized, EndpointsStand, failed_at, last_at, numbers_with, is_asking}
use Rattle.svc_endpoints.specs.Effects.{has_open, first_of, not_empty}
use Rattle.svc_endpoints.specs.Visits.{busy_of, busy_in, any_busy, decide_at, adopt_or_bind, Visited}
use Rattle.svc_endpoints.specs.Calm.{IsServiceCalm}
use Rattle.svc_endpoints.specs.Dues.{AsksAt, is_silent}
use Rattle.svc_endpoints.proofs.BusyLemmas.{one-with}
use Rattle.svc_endpoints.proofs.CalmLemmas.{calm-none}
use Rattle.svc_endpoints.proofs.LiveLemmas.{same_self}
use Rattle.svc_endpoints.proofs.RangeLemmas.{get0, none0, any-grows}
use Rattle.svc_endpoints.proofs.StatesLemmas.{has_open-is}
use Rattle.svc_endpoints.proofs.VisitLemmas.{held-is, ask_open-is, any_busy-is}
use Rattle.svc_endpoints.proofs.VisitedLemmas.{missing_range, visit-leaves}

-- while no endpoint is busy at any moment, a visit tells the same at each
pub calm-with : (p : Plan) (d : EndpointsData) (a : Option (List ℕ)) (t : ℕ) → IsEndpointsSized p d
    → ((s : ℕ) → s < length d.rows → IsServiceCalm d s) → any_with p a (busy_in d t) ≡ false
calm-with p d a t sized calm =
    let same = sized.services in
    none0 (any_busy p d t a) (service_count p) (λ s lt. calm-none p d t a s (calm s (omega (arith, lt, same))))

pub calm-same : (p : Plan) (d : EndpointsData) (s t m : ℕ) → IsEndpointsSized p d
    → ((u : ℕ) → u < length d.rows → IsServiceCalm d u) → AsksAt p d s t → AsksAt p d s m
calm-same p d s t m sized calm due = record {
  free = due.free;
  at = due.at;
  first = due.first;
  asks = ap (λ b. is_silent (if is_asking (last_at d s due.at) then Nothing else adopt_or_bind b due.at (first_of (numbers_with d.table (address p s due.at)))))
      (calm-with p d (address p s due.at) m sized calm ∙ sym (calm-with p d (address p s due.at) t sized calm)) ∙ due.asks;
}

same-here : (p : Plan) (s i : ℕ) → i < length (endpoints p s) → same_address (address p s i) (address p s i) ≡ true
same-here p s i within = elim ((slice_get_cases (endpoints p s) i).1) [
  | inl found ↦ rw (found.2) (same_self (found.0.address))
  | inr past ↦ absurd (let far = past.0 in omega (arith, far, within))
]

silent_nothing : (v : Visit) → (is_silent v ≡ false → ⊥) → v ≡ Nothing
silent_nothing Nothing f = refl
silent_nothing (Binds i) f = absurd (f refl)
silent_nothing (Adopts i fd) f = absurd (f refl)

-- what a visit that tells something finds: no ask is open, and a live descriptor has the address or nobody is busy with it
finds : (asks kept : Bool) (j : ℕ) (fds : List ℕ) → is_silent (if asks then Nothing else adopt_or_bind kept j (first_of fds)) ≡ false
    → (asks ≡ false) × ((not_empty fds ≡ false) → kept ≡ false)
finds true kept j fds h = absurd (cc)
finds false true j [] h = absurd (cc)
finds false false j [] h = (refl, λ none. refl)
finds false kept j (x ∷ fds) h = (refl, λ none. absurd (cc))

pub asks-free : (p : Plan) (d : EndpointsData) (s t : ℕ) → (due : AsksAt p d s t) → (is_asking (last_at d s due.at) ≡ false)
    × ((has_open d.table (address p s due.at) ≡ false) → any_with p (address p s due.at) (busy_in d t) ≡ false)
asks-free p d s t due =
    finds (is_asking (last_at d s due.at)) (any_with p (address p s due.at) (busy_in d t)) due.at (numbers_with d.table (address p s due.at)) due.asks

module _ (p : Plan) (d : EndpointsData) (q : Record) (sized : IsEndpointsSized p d) (stand : EndpointsStand p d q) (s : ℕ) (inside : s < service_count p) where
  -- a visit that would tell nothing leaves the service right as it is
  pub left-right : (is_started q s ≡ true → AsksAt p d s (now q) → ⊥) → Visited p d s q []
  left-right none = visit-leaves p d s (is_started q s) q sized inside Nothing
      (record {
        off = λ f. refl;
        failed = λ f. refl;
        held = λ on free all. refl;
        first = λ on free j first. sym (silent_nothing (decide_at p d s (now q) j)
            (λ asks. none on (record { free = free; at = j; first = first; asks = asks })));
      }) refl stand

  not_busy : (asked free held w live : Bool) → asked ≡ false → live ≡ true → (asked || (((free && held) && w) && not live)) ≡ false
  not_busy asked free held w live a l = rw (a, l) (none free held w)
    where
      none : (f h w : Bool) → (((f && h) && w) && false) ≡ false
      none f h w = grind arith

  -- an endpoint at work and busy is busy
  elsewhere : (a : Option (List ℕ)) → any_with p a (is_busy p q) ≡ false → is_busy_elsewhere p q a ≡ false
  elsewhere a none = elim (cases_Bool (is_busy_elsewhere p q a)) [
    | inr off ↦ off
    | inl on ↦ absurd (
        let t = get0 (λ t. list_any (λ k. same_address (address p t k) a && (is_at_work p q t && is_busy p q t k)) (endpoint_numbers p t))
        (service_count p) on in
        let k = get0 (λ k. same_address (address p t.0 k) a && (is_at_work p q t.0 && is_busy p q t.0 k)) (length (endpoints p t.0)) t.2 in
        let both = and_parts (same_address (address p t.0 k.0) a) (is_at_work p q t.0 && is_busy p q t.0 k.0) k.2 in
        let busy = and_parts (is_at_work p q t.0) (is_busy p q t.0 k.0) both.1 in
        let there = one-with p a (is_busy p q) t.0 k.0 t.1 k.1 (and_from (same_address (address p t.0 k.0) a) (is_busy p q t.0 k.0) both.0 busy.1) in
        clash (any_with p a (is_busy p q)) there none)
  ]

  module _ (on : is_started q s ≡ true) (due : AsksAt p d s (now q)) where
    unheld : is_held p q s due.at ≡ false
    unheld = held-is p d q sized stand.kept stand.states s due.at inside due.first.within ∙ due.first.missing

    found : (is_asking (last_at d s due.at) ≡ false) × ((has_open d.table (address p s due.at) ≡ false)
        → any_with p (address p s due.at) (busy_in d (now q)) ≡ false)
    found = asks-free p d s (now q) due

    unasked : is_ask_open q s due.at ≡ false
    unasked = ask_open-is p d q sized stand.kept stand.states s due.at inside due.first.within ∙ found.0

    first-is : first_missing p q s (endpoint_numbers p s) ≡ Some due.at
    first-is =
        let within = due.first.within in
        missing_range p q s 0 (length (endpoints p s)) due.at (omega arith) (omega (arith, within))
        (λ k low lt. held-is p d q sized stand.kept stand.states s k inside (omega (arith, lt, within)) ∙ due.first.earlier k lt) unheld

    no_wait : waits_at p q s due.at ≡ false
    no_wait = elim (cases_Bool (has_live p q (address p s due.at))) [
      | inl live ↦ or_from (is_busy p q s due.at) (not (has_live p q (address p s due.at)) && is_busy_elsewhere p q (address p s due.at))
          (not_busy (is_ask_open q s due.at) (not (has_failed p q s)) (not (is_held p q s due.at)) (in_use_within (now q) q s due.at)
          (has_live p q (address p s due.at)) unasked live)
          (rw live refl)
      | inr none ↦ (
          let busy : any_with p (address p s due.at) (is_busy p q) ≡ false =
          any_busy-is p d q sized stand.kept stand.states (address p s due.at) none
          ∙ found.1 (has_open-is p d q stand.states (address p s due.at) ∙ none) in
          or_from (is_busy p q s due.at) (not (has_live p q (address p s due.at)) && is_busy_elsewhere p q (address p s due.at))
          (own busy) (rw (none, elsewhere (address p s due.at) busy) refl))
    ]
      where
        own : any_with p (address p s due.at) (is_busy p q) ≡ false → is_busy p q s due.at ≡ false
        own none = elim (cases_Bool (is_busy p q s due.at)) [
          | inr off ↦ off
          | inl busy ↦ absurd (clash (any_with p (address p s due.at) (is_busy p q))
              (one-with p (address p s due.at) (is_busy p q) s due.at inside due.first.within
              (and_from (same_address (address p s due.at) (address p s due.at)) (is_busy p q s due.at) (same-here p s due.at due.first.within) busy)) none)
        ]

    -- the service isn't right, so something is to be told of it
    pub due-wrong : endpoint_right_late p q s due.at ≡ false
    due-wrong =
        rw (on, sym (stand.states.failed_is s inside) ∙ due.free, unheld, first-is, no_wait) (last (nat_le due.at due.at))
      where
        last : (b : Bool) → (b && false) ≡ false
        last b = grind arith

earlier : (limit at m n : ℕ) → m ≤ n → nat_lt (n - at) limit ≡ true → nat_lt (m - at) limit ≡ true
earlier limit at m n le h = grind (arith, nat_tests)

busy_back : (failed : Bool) (x : EndpointStatus) (m n : ℕ) → m ≤ n → busy_of failed n x ≡ true → busy_of failed m x ≡ true
busy_back true (AddressInUse at) m n le h = absurd (cc)
busy_back false (AddressInUse at) m n le h = earlier 1000 at m n le h
busy_back failed Binding m n le h = refl
busy_back failed (Adopting fd) m n le h = refl
busy_back failed Idle m n le h = h
busy_back failed (Holding fd) m n le h = h
busy_back failed AdoptionFailed m n le h = h

-- once nobody is busy with the address, nobody is later
free_grows : (p : Plan) (d : EndpointsData) (a : Option (List ℕ)) (m n : ℕ) → m ≤ n → any_with p a (busy_in d m) ≡ false → any_with p a (busy_in d n) ≡ false
free_grows p d a m n le none = elim (cases_Bool (any_with p a (busy_in d n))) [
  | inr off ↦ off
  | inl on ↦ absurd (clash (any_with p a (busy_in d m))
      (any-grows (any_busy p d n a) (any_busy p d m a) (services p)
      (λ t. any-grows (λ k. same_address (address p t k) a && busy_in d n t k) (λ k. same_address (address p t k) a && busy_in d m t k) (endpoint_numbers p t)
      (λ k h. (let both = and_parts (same_address (address p t k) a) (busy_in d n t k) h in
      and_from (same_address (address p t k) a) (busy_in d m t k) both.0 (busy_back (failed_at d t) (last_at d t k) m n le both.1)))) on) none)
]

-- so a visit that tells something does later
told_grows : (asks a b : Bool) (j : ℕ) (fds : List ℕ) → (a ≡ false → b ≡ false) → is_silent (if asks then Nothing else adopt_or_bind a j (first_of fds)) ≡ false
    → is_silent (if asks then Nothing else adopt_or_bind b j (first_of fds)) ≡ false
told_grows true a b j fds f h = absurd (cc)
told_grows false true b j [] f h = absurd (cc)
told_grows false false b j [] f h = rw (f refl) refl
told_grows false a b j (x ∷ fds) f h = refl

pub asked-grows : (p : Plan) (d : EndpointsData) (s m n : ℕ) → m ≤ n → AsksAt p d s m → AsksAt p d s n
asked-grows p d s m n le due = record {
  free = due.free;
  at = due.at;
  first = due.first;
  asks = told_grows (is_asking (last_at d s due.at)) (any_with p (address p s due.at) (busy_in d m)) (any_with p (address p s due.at) (busy_in d n)) due.at
      (numbers_with d.table (address p s due.at)) (free_grows p d (address p s due.at) m n le) due.asks;
}
