-- A run that was tested ended as is right.
use Rattle.std.proofs.Common.{ℕ, zero, suc, Bool, true, false, ◌==◌, inl, inr, List, [], ◌∷◌, ◌≡◌, refl, ap, sym, ◌∙◌, subst, arith, ◌<◌, ◌≤◌, length, take, slice_index, if◌then◌else◌}
use Rattle.std.specs.Bool.{OnTrue, OnFalse}
use Rattle.std.specs.List.{list_any}
use Rattle.std.proofs.lemmas.List.{get_or-take}
use Rattle.std.proofs.lemmas.Bool.{and_parts, eqb-true, or_cases, or_from, cases_lt}
use Rattle.svc_record.specs.declared.plan.Plan.{Plan}
use Rattle.svc_record.specs.Plans.{service_count, endpoints}
use Rattle.svc_record.specs.Record.{Record, times}
use Rattle.svc_record.specs.Starts.{is_started, is_due, is_start}
use Rattle.svc_record.specs.Ends.{before_boot, is_visited, ends_tested, has_ended_early, TestedRight}
use Rattle.svc_record.specs.Endpoints.{endpoint_right_late}
use Rattle.svc_record.specs.Validity.{IsInOrder, IsStartupOrder}
use Rattle.svc_record.proofs.StartupLemmas.{startup-is, take-within}
use Rattle.svc_endpoints.specs.EndpointsData.{EndpointsData}
use Rattle.svc_boot.specs.BootData.{BootData}
use Rattle.svc_boot.specs.ForkState.{may_run, is_parent_over}
use Rattle.svc_boot.specs.BootState.{is_refused}
use Rattle.svc_boot.proofs.BootEnds.{early-is}
use Rattle.svc_boot.proofs.Settled.{free-on}
use Rattle.svc_boot.proofs.Begun.{may_begin-is}
use Rattle.svc_offer.specs.OfferData.{OfferData}
use Rattle.svc_drain.specs.DrainData.{DrainData}
use Rattle.svc_connections.specs.ConnectionsData.{ConnectionsData}
use Rattle.svc_core.specs.StartsData.{StartsData}
use Rattle.svc_core.specs.Passes.{Going, TestedAt, is_tested, is_boot_service}
use Rattle.svc_core.specs.Stands.{EndedSo}
use Rattle.svc_core.proofs.RecordLemmas.{not_true}
use Rattle.svc_core.proofs.StartsLemmas.{count-start}

-- what stands before the first service that bootstraps
record IsBefore (p : Plan) (q : Record) (xs : List ℕ) (s : ℕ) : Type 0 where
  place : ℕ
  within : place < length xs
  here : slice_index xs place ≡ s
  none : (i : ℕ) → i ≤ place → is_boot_service p q (slice_index xs i) ≡ false

before-more : (p : Plan) (q : Record) (x : ℕ) (xs : List ℕ) (s : ℕ) → is_boot_service p q x ≡ false → IsBefore p q xs s → IsBefore p q (x ∷ xs) s
before-more p q x xs s fails h = record {
  place = suc h.place;
  within = let lt = h.within in omega arith;
  here = h.here;
  none = λ i le. later i le;
}
  where
    later : (i : ℕ) → i ≤ suc h.place → is_boot_service p q (slice_index (x ∷ xs) i) ≡ false
    later zero le = fails
    later (suc i) le = h.none i (omega arith)

before-here : (p : Plan) (q : Record) (x : ℕ) (xs : List ℕ) (s : ℕ) → is_boot_service p q x ≡ false → (x == s) ≡ true → IsBefore p q (x ∷ xs) s
before-here p q x xs s off e = record { place = 0; within = omega arith; here = eqb-true x s e; none = only }
  where
    only : (i : ℕ) → i ≤ 0 → is_boot_service p q (slice_index (x ∷ xs) i) ≡ false
    only zero le = off
    only (suc i) le = absurd (omega arith)

before-cons : (p : Plan) (q : Record) (x : ℕ) (xs : List ℕ) (s : ℕ) (c : Bool) → is_boot_service p q x ≡ c
    → (list_any (λ n. n == s) (before_boot p q xs) ≡ true → IsBefore p q xs s)
    → list_any (λ n. n == s) (if c then [] else x ∷ before_boot p q xs) ≡ true → IsBefore p q (x ∷ xs) s
before-cons p q x xs s true e rest k = absurd (cc)
before-cons p q x xs s false e rest k = elim (or_cases (x == s) (list_any (λ n. n == s) (before_boot p q xs)) k) [
  | inl same ↦ before-here p q x xs s e same
  | inr more ↦ before-more p q x xs s e (rest more)
]

is-before : (p : Plan) (q : Record) (xs : List ℕ) (s : ℕ) → list_any (λ n. n == s) (before_boot p q xs) ≡ true → IsBefore p q xs s
is-before p q [] s h = absurd (cc)
is-before p q (x ∷ xs) s h = before-cons p q x xs s (is_boot_service p q x) refl (is-before p q xs s) h

module _ (p : Plan) (order : List ℕ) (least : IsStartupOrder p order) (in_order : IsInOrder p order) (st : StartsData) (d : EndpointsData) (b : BootData)
    (o : OfferData) (dr : DrainData) (cn : ConnectionsData) (q : Record)
    (going : Going p st d b o dr cn q) (k : ℕ) (at : TestedAt p order k q) where
  -- a service that was visited stands before that place
  visited-place : (s : ℕ) → is_visited p q s ≡ true → (j : ℕ) × (j < k) × (slice_index order j ≡ s)
  visited-place s h =
      let before =
      is-before p q (take (service_count p) order) s (subst (λ xs. list_any (λ n. n == s) (before_boot p q xs) ≡ true) (startup-is p order least) h) in
      let here : slice_index order before.place ≡ s =
      sym (get_or-take (service_count p) order before.place 0 (take-within (service_count p) order before.place before.within)) ∙ before.here in
      elim (cases_lt before.place k) [
        | inl below ↦ (before.place, below, here)
        | inr past ↦ absurd (
            let inside : k < length (take (service_count p) order) = (let w = before.within in omega arith) in
            let fails = sym (ap (is_boot_service p q) (get_or-take (service_count p) order k 0 (take-within (service_count p) order k inside)))
            ∙ before.none k past in
            let holds = at.boots in
            cc)
      ]

  counted : (s : ℕ) → is_visited p q s ≡ true → times (is_start s) q ≡ (if is_due p q s then 1 else 0)
  counted s h =
      let found = visited-place s h in
      let inside : s < service_count p =
      subst (λ n. n < service_count p) found.2 (in_order.inside found.0 (let lt = at.place in let less = found.1 in omega arith)) in
      count-start p q s going.entries.starts
      ∙ ap (λ c. if c then 1 else 0) (same (is_started q s) (is_due p q s) (going.started_due s inside)
      (λ due. subst (λ n. is_started q n ≡ true) found.2 (at.visited.due_started found.0 found.1 (subst (λ n. is_due p q n ≡ true) (sym found.2) due))))
    where
      same : (x y : Bool) → (x ≡ true → y ≡ true) → (y ≡ true → x ≡ true) → x ≡ y
      same true y f g = sym (f refl)
      same false true f g = g refl
      same false false f g = refl

  late : (s i : ℕ) → is_visited p q s ≡ true → i < length (endpoints p s) → endpoint_right_late p q s i ≡ true
  late s i h within =
      let found = visited-place s h in
      subst (λ n. i < length (endpoints p n) → endpoint_right_late p q n i ≡ true) found.2 (at.visited.late found.0 found.1 i) within

  on_false : (c : Bool) (A : Type 0) → A → OnFalse c A
  on_false true A a = tt
  on_false false A a = a

  on_true : (c : Bool) (A : Type 0) → A → OnTrue c A
  on_true true A a = a
  on_true false A a = tt

  pub tested-so : may_run p b.fork ≡ true → is_tested p b ≡ true → is_refused b.receiving ≡ false → EndedSo p q
  tested-so free tested goes = record {
    ended = record {
      early = not_true (has_ended_early p q) _
          (early-is p b q going.boot ∙ or_from (is_parent_over b.fork) (is_refused b.receiving) (free-on p b q going.boot free) goes);
      tested = on_true (ends_tested p q) _ (at.last, going.ends.closes);
    };
    tested = on_true (ends_tested p q) (TestedRight p q) (record {
      forked = may_begin-is p b q going.boot ∙ free;
      begun = going.begun_is ∙ (and_parts p.test b.begun tested).1;
      in_turn = going.entries.after_boot;
      starts = on_false p.eager _ counted;
      endpoints = on_false p.eager _ late;
    });
    may_end = at.may_end;
  }
