-- How far connections have come after one of them went on, ended or arrived.
use Rattle.std.proofs.Common.{ℕ, Bool, true, false, ◌&&◌, not, ◌==◌, inl, inr, List, [], ◌∷◌, ◌≡◌, refl, ap, sym, ◌∙◌, if◌then◌else◌, filter, nat_lt, Some, None, Option}
use Rattle.std.proofs.lemmas.Bool.{eqb-true, eq-eqb, ne_eqb, cases_Bool, or_parts}
use Rattle.svc_base.specs.NumberSets.{put_number, is_in}
use Rattle.svc_connections.specs.declared.stage.Connection.{Connection}
use Rattle.svc_connections.specs.declared.stage.Stage.{Stage}
use Rattle.svc_connections.specs.declared.stage.Stage.TheVariants.{Setting, Shaking, Serving}
use Rattle.svc_connections.specs.ConnectionsState.{numbers, stage_of, is_live, is_setting, is_shaking, is_serving}
use Rattle.svc_connections.specs.ConnectionsEffects.{put_connection, at_stage, without}

pub eqb-sym : (m n : ℕ) → (m == n) ≡ (n == m)
eqb-sym m n = elim (cases_Bool (m == n)) [
  | inl y ↦ y ∙ sym (eq-eqb n m (sym (eqb-true m n y)))
  | inr differ ↦ differ ∙ sym (ne_eqb n m (λ e. let y = eq-eqb m n (sym e) in cc))
]

-- a number that is c is no other
not-other : (k c n : ℕ) → (k == c) ≡ true → (c == n) ≡ false → (k == n) ≡ false
not-other k c n y differ = ap (λ m. m == n) (eqb-true k c y) ∙ differ

pub moved-other : (c n : ℕ) (stage : Stage) (live : List Connection) → (c == n) ≡ false → stage_of (at_stage c stage live) n ≡ stage_of live n
moved-other c n stage [] differ = refl
moved-other c n stage (x ∷ live) differ = elim (cases_Bool (x.number == c)) [
  | inl y ↦ rw (y, not-other x.number c n y differ) (moved-other c n stage live differ)
  | inr other ↦ rw other (ap (λ (t : Option Stage). if x.number == n then Some x.stage else t) (moved-other c n stage live differ))
]

pub moved-here : (c : ℕ) (stage : Stage) (live : List Connection) → is_live (stage_of live c) ≡ true → stage_of (at_stage c stage live) c ≡ Some stage
moved-here c stage [] h = cc
moved-here c stage (x ∷ live) h = elim (cases_Bool (x.number == c)) [
  | inl y ↦ rw (y, y) refl
  | inr other ↦ rw (other, other) (moved-here c stage live (rw other at h))
]

pub without-other : (c n : ℕ) (live : List Connection) → (c == n) ≡ false → stage_of (without c live) n ≡ stage_of live n
without-other c n [] differ = refl
without-other c n (x ∷ live) differ = elim (cases_Bool (x.number == c)) [
  | inl y ↦ rw (y, not-other x.number c n y differ) (without-other c n live differ)
  | inr other ↦ rw other (ap (λ (t : Option Stage). if x.number == n then Some x.stage else t) (without-other c n live differ))
]

pub without-here : (c : ℕ) (live : List Connection) → stage_of (without c live) c ≡ None
without-here c [] = refl
without-here c (x ∷ live) = elim (cases_Bool (x.number == c)) [
  | inl y ↦ rw y (without-here c live)
  | inr other ↦ rw (other, other) (without-here c live)
]

pub put-other : (x : Connection) (n : ℕ) (live : List Connection) → (x.number == n) ≡ false → stage_of (put_connection x live) n ≡ stage_of live n
put-other x n [] differ = rw differ refl
put-other x n (y ∷ live) differ = elim (cases_Bool (nat_lt x.number y.number)) [
  | inl below ↦ rw (below, differ) refl
  | inr above ↦ elim (cases_Bool (y.number == x.number)) [
    | inl same ↦ rw (above, same) refl
    | inr other ↦ rw (above, other) (ap (λ (t : Option Stage). if y.number == n then Some y.stage else t) (put-other x n live differ))
  ]
]

-- where no connection has the number
pub put-here : (x : Connection) (live : List Connection) → stage_of live x.number ≡ None → stage_of (put_connection x live) x.number ≡ Some x.stage
put-here x [] h = rw (eq-eqb x.number x.number refl) refl
put-here x (y ∷ live) h = elim (cases_Bool (nat_lt x.number y.number)) [
  | inl below ↦ rw (below, eq-eqb x.number x.number refl) refl
  | inr above ↦ elim (cases_Bool (y.number == x.number)) [
    | inl same ↦ absurd (let k : Some y.stage ≡ None = rw same at h in cc)
    | inr other ↦ rw (above, other, other) (put-here x live (rw other at h))
  ]
]

pub numbers-put : (x : Connection) (live : List Connection) → stage_of live x.number ≡ None
    → numbers (put_connection x live) ≡ put_number x.number (numbers live)
numbers-put x [] h = refl
numbers-put x (y ∷ live) h = elim (cases_Bool (nat_lt x.number y.number)) [
  | inl below ↦ rw below refl
  | inr above ↦ elim (cases_Bool (y.number == x.number)) [
    | inl same ↦ absurd (let k : Some y.stage ≡ None = rw same at h in cc)
    | inr other ↦ rw (above, other) (ap (λ (ns : List ℕ). y.number ∷ ns) (numbers-put x live (rw other at h)))
  ]
]

-- what a stage is that passes the test
pub setting-is : (s : Option Stage) → is_setting s ≡ true → s ≡ Some Setting
setting-is (Some Setting) h = refl
setting-is _ h = cc

pub shaking-is : (s : Option Stage) → is_shaking s ≡ true → s ≡ Some Shaking
shaking-is (Some Shaking) h = refl
shaking-is _ h = cc

pub serving-is : (s : Option Stage) → is_serving s ≡ true → s ≡ Some Serving
serving-is (Some Serving) h = refl
serving-is _ h = cc

pub none-is : (s : Option Stage) → is_live s ≡ false → s ≡ None
none-is None h = refl
none-is (Some stage) h = cc

-- what one of them leaves of those that pass
pub filter-less : (f g : ℕ → Bool) (c : ℕ) (ns : List ℕ) → ((n : ℕ) → g n ≡ (f n && not (n == c))) → filter (λ n. not (n == c)) (filter f ns) ≡ filter g ns
filter-less f g c [] h = refl
filter-less f g c (n ∷ ns) h = elim (cases_Bool (f n)) [
  | inl y ↦ elim (cases_Bool (n == c)) [
    | inl same ↦ (let out : g n ≡ false = h n ∙ (rw (y, same) refl) in rw (y, same, out) (filter-less f g c ns h))
    | inr other ↦ (let stays : g n ≡ true = h n ∙ (rw (y, other) refl) in rw (y, other, stays) (ap (λ (ms : List ℕ). n ∷ ms) (filter-less f g c ns h)))
  ]
  | inr differ ↦ (let out : g n ≡ false = h n ∙ (rw differ refl) in rw (differ, out) (filter-less f g c ns h))
]

-- tests that agree on each number but c, where c isn't among them
pub filter-same : (f g : ℕ → Bool) (c : ℕ) (ns : List ℕ) → is_in c ns ≡ false → ((n : ℕ) → (c == n) ≡ false → g n ≡ f n) → filter g ns ≡ filter f ns
filter-same f g c [] none h = refl
filter-same f g c (n ∷ ns) none h =
    let apart = or_parts (n == c) (is_in c ns) none in
    let same = h n (eqb-sym c n ∙ apart.0) in
    elim (cases_Bool (f n)) [
      | inl y ↦ rw (same, y) (ap (λ (ms : List ℕ). n ∷ ms) (filter-same f g c ns apart.1 h))
      | inr differ ↦ rw (same, differ) (filter-same f g c ns apart.1 h)
    ]
