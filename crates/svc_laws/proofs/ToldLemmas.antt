-- What is told leaves as it is whatever speaks of events alone, and lets a count only grow.
use Rattle.std.proofs.Common.{Bool, true, false, ◌||◌, ◌+◌, ◌≤◌, inl, inr, List, [], ◌∷◌, ◌++◌, ◌≡◌, ◌∙◌, refl, sym, ap, arith, append_assoc}
use Rattle.std.proofs.lemmas.Bool.{cases_Bool, or_parts, or_right}
use Rattle.svc_base.proofs.Logic.{clash, false_where}
use Rattle.svc_record.specs.declared.action.Action.{Action}
use Rattle.svc_record.specs.declared.entry.Entry.{Entry}
use Rattle.svc_record.specs.declared.entry.Entry.TheVariants.{Told}
use Rattle.svc_record.specs.Record.{Record, has, times, tell, EachEntry}

pub kept : {X : Type 0} (F : Record → X) → ((a : Action) (q : Record) → F (Told a ∷ q) ≡ F q) → (told : List Action) (q : Record) → F (tell q told) ≡ F q
kept F same [] q = refl
kept F same (a ∷ more) q = kept F same more (Told a ∷ q) ∙ same a q

-- the record with what was told begins with the record
pub tell_front : (told : List Action) (q : Record) → (front : Record) × (tell q told ≡ front ++ q)
tell_front [] q = ([], refl)
tell_front (a ∷ more) q = let t = tell_front more (Told a ∷ q) in (t.0 ++ (Told a ∷ []), t.1 ∙ sym (append_assoc t.0 (Told a ∷ []) q))

pub entries_before : (P : Entry → Record → Type 0) (told : List Action) (q : Record) → EachEntry P (tell q told) → EachEntry P q
entries_before P [] q h = h
entries_before P (a ∷ more) q h = (entries_before P more (Told a ∷ q) h).1

pub has_more : (test : Entry → Bool) (told : List Action) (q : Record) → has test q ≡ true → has test (tell q told) ≡ true
has_more test [] q h = h
has_more test (a ∷ more) q h = has_more test more (Told a ∷ q) (or_right (test (Told a)) (has test q) h)

times_here : (test : Entry → Bool) (e : Entry) (q : Record) → test e ≡ true → times test (e ∷ q) ≡ times test q + 1
times_here test e q y = rw y refl

times_past : (test : Entry → Bool) (e : Entry) (q : Record) → test e ≡ false → times test (e ∷ q) ≡ times test q
times_past test e q n = rw n refl

pub times_more : (test : Entry → Bool) (told : List Action) (q : Record) → times test q ≤ times test (tell q told)
times_more test [] q = omega arith
times_more test (a ∷ more) q = let h = times_more test more (Told a ∷ q) in elim (cases_Bool (test (Told a))) [
  | inl y ↦ (let k = times_here test (Told a) q y in omega (arith, h, k))
  | inr n ↦ (let k = times_past test (Told a) q n in omega (arith, h, k))
]

-- where a count stays, what is told first isn't counted
pub not_first : (test : Entry → Bool) (a : Action) (more : List Action) (q : Record) → times test (tell q (a ∷ more)) ≡ times test q → test (Told a) ≡ true → ⊥
not_first test a more q same y =
    let h = times_more test more (Told a ∷ q) in
    let k = times_here test (Told a) q y in
    omega (arith, h, k, same)

-- where a count stays, so does whether one of those counted stands there
pub has_same : (test part : Entry → Bool) → ((e : Entry) → part e ≡ true → test e ≡ true) → (told : List Action) (q : Record)
    → times test (tell q told) ≡ times test q
    → has part (tell q told) ≡ has part q
has_same test part within [] q same = refl
has_same test part within (a ∷ more) q same = elim (cases_Bool (test (Told a))) [
  | inl y ↦ absurd (not_first test a more q same y)
  | inr n ↦ (let past : part (Told a) ≡ false = false_where (part (Told a)) (λ y. clash (test (Told a)) (within (Told a) y) n) in
      has_same test part within more (Told a ∷ q) (same ∙ sym (times_past test (Told a) q n)) ∙ ap (λ b. b || has part q) past)
]

pub none_counted : (test : Entry → Bool) (q : Record) → has test q ≡ false → times test q ≡ 0
none_counted test [] h = refl
none_counted test (e ∷ q) h = let parts = or_parts (test e) (has test q) h in rw parts.0 (none_counted test q parts.1)

-- what is counted stands there
pub counted_there : (test : Entry → Bool) (q : Record) → times test q ≡ 1 → has test q ≡ true
counted_there test q one = elim (cases_Bool (has test q)) [
  | inl y ↦ y
  | inr n ↦ (let k = none_counted test q n in absurd (omega (arith, one, k)))
]
