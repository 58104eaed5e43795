-- A row of bits with one of them set or cleared; which services are calm as one fails; and of a calm one no endpoint is busy.
use Rattle.std.proofs.Common.{ℕ, Bool, true, false, not, ◌&&◌, ◌||◌, ◌==◌, inl, inr, List, [], ◌≡◌, ◌≢◌, refl, ap, sym, ◌∙◌, subst, arith, ◌<◌, length, Option, slice_set, slice_index_or}
use Rattle.std.proofs.lemmas.Bool.{cases_eq, or_right, eq-eqb, ne_eqb}
use Rattle.std.proofs.lemmas.List.{length-set, get_or-set_same, get_or-set_other}
use Rattle.svc_graph.specs.Bits.{is_set, HasRows}
use Rattle.svc_record.specs.declared.plan.Plan.{Plan}
use Rattle.svc_record.specs.Plans.{endpoints, address, same_address}
use Rattle.svc_endpoints.specs.declared.states.EndpointStatus.{EndpointStatus}
use Rattle.svc_endpoints.specs.declared.states.EndpointState.{EndpointState}
use Rattle.svc_endpoints.specs.EndpointsState.{idle, is_asking, rests_in}
use Rattle.svc_endpoints.specs.EndpointsData.{EndpointsData}
use Rattle.svc_endpoints.specs.Visits.{busy_of, busy_in, any_busy}
use Rattle.svc_endpoints.specs.Calm.{IsRowCalm, IsServiceCalm, AreBusyKnown}
use Rattle.svc_endpoints.proofs.RangeLemmas.{none0}
use Rattle.svc_endpoints.proofs.BusyLemmas.{and-none}

-- the bits of a row, as one of them is set or cleared
pub set-here : (was : Bool) (s : ℕ) → (was || ((0 == 0) && (s == s))) ≡ true
set-here was s = or_right was (s == s) (eq-eqb s s refl)

pub set-other : (was : Bool) (t s : ℕ) → t ≢ s → (was || ((0 == 0) && (t == s))) ≡ was
set-other was t s ne = rw (ne_eqb t s ne) (plain was)
  where
    plain : (b : Bool) → (b || false) ≡ b
    plain b = grind arith

pub clear-here : (was : Bool) (s : ℕ) → (was && not ((0 == 0) && (s == s))) ≡ false
clear-here was s = and-none was (not (s == s)) (ap not (eq-eqb s s refl))

pub clear-other : (was : Bool) (t s : ℕ) → t ≢ s → (was && not ((0 == 0) && (t == s))) ≡ was
clear-other was t s ne = rw (ne_eqb t s ne) (plain was)
  where
    plain : (b : Bool) → (b && true) ≡ b
    plain b = grind arith

module _ (rows : List (List EndpointState)) (failed : List Bool) (busy next : List ℕ) (s : ℕ) (known : AreBusyKnown rows failed busy)
    (same : length next ≡ length busy) (others : (t : ℕ) → t ≢ s → is_set next 0 t ≡ is_set busy 0 t) where
  bits_next : HasRows next 1
  bits_next = let old = known.bits in omega (arith, old, same)

  -- the service fails
  pub known-failed : s < length failed → (is_set next 0 s ≡ false → IsRowCalm true (slice_index_or rows s []))
      → AreBusyKnown rows (slice_set failed s true) next
  known-failed inside here = record {
    few = known.few;
    flags = length-set failed s true ∙ known.flags;
    bits = bits_next;
    calm = λ t off. elim (cases_eq t s) [
      | inl e ↦ subst (λ b. IsRowCalm b (slice_index_or rows t []))
          (sym (subst (λ u. slice_index_or (slice_set failed s true) u false ≡ true) (sym e) (get_or-set_same failed s true false inside)))
          (subst (λ u. IsRowCalm true (slice_index_or rows u [])) (sym e) (here (subst (λ u. is_set next 0 u ≡ false) e off)))
      | inr ne ↦ subst (λ b. IsRowCalm b (slice_index_or rows t [])) (sym (get_or-set_other failed s t true false ne)) (known.calm t (sym (others t ne) ∙ off))
    ];
  }

  -- one of its rows is another
  pub known-put : (row : List EndpointState) → s < length rows → (is_set next 0 s ≡ false → IsRowCalm false row)
      → AreBusyKnown (slice_set rows s row) failed next
  known-put row inside here = record {
    few = (let few = known.few in let size = length-set rows s row in omega arith);
    flags = known.flags ∙ sym (length-set rows s row);
    bits = bits_next;
    calm = λ t off. elim (cases_eq t s) [
      | inl e ↦ subst (λ (r : List EndpointState). IsRowCalm (slice_index_or failed t false) r)
          (sym (subst (λ u. slice_index_or (slice_set rows s row) u [] ≡ row) (sym e) (get_or-set_same rows s row [] inside)))
          (λ k moment. calmer (slice_index_or failed t false) moment (slice_index_or row k idle).last
          (here (subst (λ u. is_set next 0 u ≡ false) e off) k moment))
      | inr ne ↦ subst (λ (r : List EndpointState). IsRowCalm (slice_index_or failed t false) r) (sym (get_or-set_other rows s t row [] ne))
          (known.calm t (sym (others t ne) ∙ off))
    ];
  }
    where
      calmer : (b : Bool) (moment : ℕ) (x : EndpointStatus) → busy_of false moment x ≡ false → busy_of b moment x ≡ false
      calmer true moment x h = both (is_asking x) (rests_in x moment) h
        where
          both : (a c : Bool) → (a || (true && c)) ≡ false → (a || (false && c)) ≡ false
          both a c h = grind arith
      calmer false moment x h = h

-- of a calm service no endpoint is busy
pub calm-none : (p : Plan) (d : EndpointsData) (moment : ℕ) (a : Option (List ℕ)) (t : ℕ) → IsServiceCalm d t → any_busy p d moment a t ≡ false
calm-none p d moment a t calm = none0 (λ k. same_address (address p t k) a && busy_in d moment t k) (length (endpoints p t))
    (λ k lt. and-none (same_address (address p t k) a) (busy_in d moment t k) (calm k moment))
