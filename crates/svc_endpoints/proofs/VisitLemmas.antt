-- What a visit leaves.
use Rattle.std.proofs.Common.{ℕ, Bool, true, false, ◌||◌, ◌&&◌, not, inl, inr, List, ◌≡◌, refl, ap, sym, ◌∙◌, subst, arith, ◌<◌, length, Option, nat_lt, []}
use Rattle.std.proofs.lemmas.Bool.{cases_Bool, cases_lt, and_parts, or_cases, eq-eqb}
use Rattle.svc_record.specs.declared.plan.Plan.{Plan}
use Rattle.svc_record.specs.Record.{Record, now}
use Rattle.svc_record.specs.Plans.{service_count, endpoints, address, same_address, any_with}
use Rattle.svc_record.specs.Descriptors.{has_live}
use Rattle.svc_record.specs.Asks.{is_ask_open}
use Rattle.svc_record.specs.Endpoints.{is_held, held_numbers, holds, is_one_of, in_use_within, is_busy, is_at_work}
use Rattle.svc_endpoints.specs.declared.states.EndpointStatus.{EndpointStatus}
use Rattle.svc_endpoints.specs.declared.states.EndpointStatus.TheVariants.{Idle, Binding, AddressInUse, Adopting, Holding, AdoptionFailed}
use Rattle.svc_endpoints.specs.declared.visit.Visit.{Visit}
use Rattle.svc_endpoints.specs.EndpointsData.{EndpointsData}
use Rattle.svc_endpoints.specs.EndpointsState.{IsEndpointsSized, StatesKept, StatesStand, last_at, failed_at, is_binding, is_adopting, is_asking, is_holding, is_adoption_failed, is_touched, has_fd, fd_of, held_of, rests_in, tells_rest}
use Rattle.svc_endpoints.specs.Visits.{busy_of, busy_in, IsFirst, IsDecided, decide_at}
use Rattle.svc_endpoints.proofs.RangeLemmas.{same0}
use Rattle.svc_endpoints.proofs.LiveLemmas.{same_eq}

pub first_same : (p : Plan) (d : EndpointsData) (s j k : ℕ) → IsFirst p d s j → IsFirst p d s k → j ≡ k
first_same p d s j k a b = elim (cases_lt j k) [
  | inl lt ↦ absurd (let h = b.earlier j lt in let m = a.missing in cc)
  | inr ge ↦ elim (cases_lt k j) [
    | inl lt ↦ absurd (let h = a.earlier k lt in let m = b.missing in cc)
    | inr le ↦ omega arith
  ]
]

pub decided-at : (p : Plan) (d : EndpointsData) (s : ℕ) (on : Bool) (moment j : ℕ) (v : Visit) → on ≡ true → failed_at d s ≡ false → IsFirst p d s j
    → v ≡ decide_at p d s moment j → IsDecided p d s on moment v
decided-at p d s on moment j v begun free first e = record {
  off = λ f. absurd (cc);
  failed = λ f. absurd (cc);
  held = λ b f all. absurd (let h = all j first.within in let m = first.missing in cc);
  first = λ b f k other. e ∙ ap (decide_at p d s moment) (first_same p d s j k first other);
}

-- one endpoint's tests, from its state
held_is : (x : EndpointStatus) (l : List ℕ) → held_of x ≡ l → nat_lt 0 (length l) ≡ is_holding x
held_is (Holding fd) l e = rw (← e) refl
held_is Idle l e = rw (← e) refl
held_is Binding l e = rw (← e) refl
held_is (AddressInUse at) l e = rw (← e) refl
held_is (Adopting fd) l e = rw (← e) refl
held_is AdoptionFailed l e = rw (← e) refl

holds_one : (x : EndpointStatus) → is_holding x ≡ true → is_one_of (fd_of x) (held_of x) ≡ true
holds_one (Holding fd) e = rw (eq-eqb fd fd refl) refl
holds_one Idle e = absurd (cc)
holds_one Binding e = absurd (cc)
holds_one (AddressInUse at) e = absurd (cc)
holds_one (Adopting fd) e = absurd (cc)
holds_one AdoptionFailed e = absurd (cc)

holding_fd : (x : EndpointStatus) → is_holding x ≡ true → has_fd x ≡ true
holding_fd (Holding fd) e = refl
holding_fd Idle e = absurd (cc)
holding_fd Binding e = absurd (cc)
holding_fd (AddressInUse at) e = absurd (cc)
holding_fd (Adopting fd) e = absurd (cc)
holding_fd AdoptionFailed e = absurd (cc)

-- whether it is busy, from the state: where no live descriptor has the address
busy_one : (x : EndpointStatus) (failed held w live : Bool) (t : ℕ) → held ≡ is_holding x → live ≡ false → (tells_rest x ≡ true → rests_in x t ≡ w)
    → (is_adoption_failed x ≡ true → failed ≡ true)
    → ((is_binding x || is_adopting x) || (((not failed && not held) && w) && not live)) ≡ busy_of failed t x
busy_one Idle failed held w live t h l r g = rw (h, l, ← (r refl)) (grind arith)
busy_one Binding failed held w live t h l r g = refl
busy_one (AddressInUse at) failed held w live t h l r g = rw (h, l, ← (r refl)) (by_rest failed (rests_in (AddressInUse at) t))
  where
    by_rest : (f w : Bool) → (((not f && true) && w) && true) ≡ (not f && w)
    by_rest f w = grind arith
busy_one (Adopting fd) failed held w live t h l r g = refl
busy_one (Holding fd) failed held w live t h l r g = rw h (none failed w live)
  where
    none : (f w l : Bool) → (((not f && false) && w) && not l) ≡ (not f && false)
    none f w l = grind arith
busy_one AdoptionFailed failed held w live t h l r g = rw (g refl) refl

-- what is busy is of a started service that hasn't failed
touched_rest : (x : EndpointStatus) (t : ℕ) → rests_in x t ≡ true → is_touched x ≡ true
touched_rest Idle t e = absurd (cc)
touched_rest Binding t e = refl
touched_rest (AddressInUse at) t e = refl
touched_rest (Adopting fd) t e = refl
touched_rest (Holding fd) t e = refl
touched_rest AdoptionFailed t e = refl

touched_asking : (x : EndpointStatus) → is_asking x ≡ true → is_touched x ≡ true
touched_asking Idle e = absurd (cc)
touched_asking Binding e = refl
touched_asking (AddressInUse at) e = refl
touched_asking (Adopting fd) e = refl
touched_asking (Holding fd) e = refl
touched_asking AdoptionFailed e = refl

module _ (p : Plan) (d : EndpointsData) (q : Record) (sized : IsEndpointsSized p d) (kept : StatesKept p d) (was : StatesStand p d q) where
  pub held-is : (s i : ℕ) → s < service_count p → i < length (endpoints p s) → is_held p q s i ≡ is_holding (last_at d s i)
  held-is s i inside within = held_is (last_at d s i) (held_numbers p q s i) (was.each s i inside within).held_is

  pub ask_open-is : (s i : ℕ) → s < service_count p → i < length (endpoints p s) → is_ask_open q s i ≡ is_asking (last_at d s i)
  ask_open-is s i inside within = rw (← ((was.each s i inside within).binding_is), ← ((was.each s i inside within).adopting_is)) refl

  pub holds-is : d.loops ≡ [] → (s i : ℕ) → s < service_count p → i < length (endpoints p s) → failed_at d s ≡ false → is_holding (last_at d s i) ≡ true
      → holds p q s i ≡ true
  holds-is early s i inside within free h =
      rw (← (was.with_is (address p s i)), kept.live early s i free (holding_fd (last_at d s i) h), ← ((was.each s i inside within).held_is))
      (holds_one (last_at d s i) h)

  pub busy-is : (s i : ℕ) → s < service_count p → i < length (endpoints p s) → has_live p q (address p s i) ≡ false → is_busy p q s i ≡ busy_in d (now q) s i
  busy-is s i inside within none = rw (← ((was.each s i inside within).binding_is), ← ((was.each s i inside within).adopting_is), ← (was.failed_is s inside))
      (busy_one (last_at d s i) (failed_at d s) (is_held p q s i) (in_use_within (now q) q s i) (has_live p q (address p s i)) (now q)
      (held-is s i inside within) none (λ e. (was.each s i inside within).within_is e (now q)) (was.lost s i))

  -- the test of the code is the record's
  pub any_busy-is : (a : Option (List ℕ)) → has_live p q a ≡ false → any_with p a (is_busy p q) ≡ any_with p a (busy_in d (now q))
  any_busy-is a none =
      same0 _ _ (service_count p) (λ s inside. same0 _ _ (length (endpoints p s)) (λ i within. elim (cases_Bool (same_address (address p s i) a)) [
        | inl y ↦ rw y (busy-is s i inside within (subst (λ b. has_live p q b ≡ false) (sym (same_eq (address p s i) a y)) none))
        | inr n ↦ rw n refl
      ]))

  pub busy_counts : (s i : ℕ) → s < service_count p → i < length (endpoints p s) → has_live p q (address p s i) ≡ false → is_busy p q s i ≡ true
      → is_at_work p q s ≡ true
  busy_counts s i inside within none h =
      elim (or_cases (is_asking (last_at d s i)) (not (failed_at d s) && rests_in (last_at d s i) (now q)) (sym (busy-is s i inside within none) ∙ h)) [
        | inl asks ↦ rw ((was.each s i inside within).on_is (touched_asking (last_at d s i) asks), ← (was.failed_is s inside), kept.asking_free s i asks) refl
        | inr rest ↦ (let parts = and_parts (not (failed_at d s)) (rests_in (last_at d s i) (now q)) rest in
            rw ((was.each s i inside within).on_is (touched_rest (last_at d s i) (now q) parts.1), ← (was.failed_is s inside)) parts.0)
      ]
