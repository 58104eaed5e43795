-- A generation at its place in a chain, and the causes of refusals there.
use Rattle.std.proofs.Common.{ℕ, zero, suc, Bool, true, false, ◌&&◌, List, [], ◌∷◌, ◌++◌, ◌≡◌, ◌<◌, refl, ap, sym, ◌∙◌, subst, arith, length, map, get_or, set, Option, Some, None}
use Rattle.std.specs.Prelude.{slice_get, IfSome, OnErr, IfOk, Result, Ok, Err, ◌↔◌}
use Rattle.std.specs.Option.{option_map}
use Rattle.std.proofs.lemmas.Option.{slice_get-map, slice_get_read}
use Rattle.svc_record.specs.declared.plan.Plan.{Plan}
use Rattle.svc_record.specs.declared.action.StepEnd.{StepEnd}
use Rattle.svc_record.specs.declared.event.Event.{Event}
use Rattle.svc_record.specs.Record.{Record, has}
use Rattle.svc_record.specs.Boot.{is_open_receiver}
use Rattle.svc_record.specs.Fits.{Fits, fits}
use Rattle.svc_core.specs.Stands.{Represents}
use Rattle.svc_base.proofs.Logic.{bool_same}
use Rattle.svc_handover.specs.Channel.{reached, is_taken, is_receipt, is_sent, is_join}
use Rattle.svc_supervisor.specs.declared.generation.Generation.{Generation}
use Rattle.svc_supervisor.specs.declared.marks.Marks.{Marks}
use Rattle.svc_supervisor.specs.ChainData.{GenerationData}
use Rattle.svc_supervisor.specs.Chains.{may_come, may_come_at, may_come_to, generation_before, has_taken, has_taken_at, Steps, Launches}
use Rattle.svc_supervisor.specs.Generations.{Begins, Takes, Stands, AllStand, Linked, MayStep, MayLaunch, history, data_of}
use Rattle.svc_supervisor.proofs.GenerationLemmas.{begun, took}
use Rattle.svc_supervisor.proofs.LinkedLemmas.{stands-at, all-stand, linked-launch, linked-step, data-set}

-- the test of an event by the core is that by its record
pub fits-here : (g : Generation) (e : Event) (b : Bool) → ((q : Record) → Represents g.session.core q → (b ≡ true) ↔ Fits g.session.core.plan q e) → Stands g
    → b ≡ fits g.session.core.plan (history g) e
fits-here g e b means s = bool_same b (fits g.session.core.plan (history g) e) (means (history g) s.stands).0 (means (history g) s.stands).1

-- what holds of the one at a place
pub here-is : {X : Type 0} (xs : List X) (k : ℕ) (x : X) → k < length xs → x ≡ get_or xs k x → slice_get xs k ≡ Some x
here-is xs k x inside same = slice_get_read xs (length xs) k x refl inside same

pub at-place : {X : Type 0} (P : X → Type 0) (xs : List X) (k : ℕ) (x : X) → slice_get xs k ≡ Some x → IfSome (slice_get xs k) P → P x
at-place {X} P xs k x here h = let Q : Option X → Type 0 = λ o. IfSome o P in subst Q here h

pub stands-here : (gs : List Generation) (k : ℕ) (g : Generation) → slice_get gs k ≡ Some g → Linked gs → Stands g
stands-here gs k g here l = at-place Stands gs k g here (stands-at gs k l)

data-here : (gs : List Generation) (k : ℕ) (g : Generation) → slice_get gs k ≡ Some g → slice_get (map data_of gs) k ≡ Some (data_of g)
data-here gs k g here = slice_get-map data_of gs k ∙ ap (option_map data_of) here

data-before : (gs : List Generation) (k : ℕ) → generation_before (map data_of gs) k ≡ option_map data_of (generation_before gs k)
data-before gs zero = refl
data-before gs (suc k) = slice_get-map data_of gs k

-- whether the event may come, by the three
pub may-come-at : (gs : List Generation) (k : ℕ) (g : Generation) (e : Event) (b n : Option Generation) (r : Bool) → slice_get gs k ≡ Some g
    → b ≡ generation_before gs k → n ≡ slice_get gs (suc k)
    → (AllStand b g n → r ≡ may_come (option_map data_of b) (data_of g) (option_map data_of n) e) → Linked gs → r ≡ may_come_at (map data_of gs) k e
may-come-at gs k g e b n r here before next means l =
    means (subst (λ (x : Option Generation). AllStand x g n) (sym before)
    (subst (λ (y : Option Generation). AllStand (generation_before gs k) g y) (sym next) (all-stand gs k g here l)))
    ∙ ap (λ (x : Option Generation). may_come (option_map data_of x) (data_of g) (option_map data_of n) e) before
    ∙ ap (λ (y : Option Generation). may_come (option_map data_of (generation_before gs k)) (data_of g) (option_map data_of y) e) next
    ∙ ap (λ (x : Option GenerationData). may_come x (data_of g) (option_map data_of (slice_get gs (suc k))) e) (sym (data-before gs k))
    ∙ ap (λ (y : Option GenerationData). may_come (generation_before (map data_of gs) k) (data_of g) y e) (sym (slice_get-map data_of gs (suc k)))
    ∙ ap (λ (o : Option GenerationData). may_come_to (generation_before (map data_of gs) k) o (slice_get (map data_of gs) (suc k)) e)
    (sym (data-here gs k g here))

-- whether it has taken over
taken-is : (t s j l : Bool) → is_taken (reached t s j l) ≡ t
taken-is true s j l = refl
taken-is false true j l = refl
taken-is false false true l = refl
taken-is false false false true = refl
taken-is false false false false = refl

pub taken-first : (gs : List Generation) (k : ℕ) → k < length gs → k ≡ 0 → true ≡ has_taken_at (map data_of gs) k
taken-first [] k inside e = absurd (omega arith)
taken-first (g ∷ more) zero inside e = refl
taken-first (g ∷ more) (suc k) inside e = absurd (omega arith)

pub taken-later : (gs : List Generation) (k : ℕ) (g : Generation) → slice_get gs k ≡ Some g → (k ≡ 0 → ⊥) → Linked gs
    → g.marks.taken ≡ has_taken_at (map data_of gs) k
taken-later gs zero g here later l = absurd (later refl)
taken-later gs (suc k) g here later l = by (slice_get gs k) refl
  where
    by : (o : Option Generation) → slice_get gs k ≡ o → g.marks.taken ≡ has_taken_at (map data_of gs) (suc k)
    by None e = absurd (earlier gs k g here e)
      where
        earlier : (xs : List Generation) (j : ℕ) (x : Generation) → slice_get xs (suc j) ≡ Some x → slice_get xs j ≡ None → ⊥
        earlier [] j x h n = cc
        earlier (y ∷ ys) zero x h n = cc
        earlier (y ∷ ys) (suc j) x h n = earlier ys j x h n
    by (Some f) e = ap (λ (m : Marks). m.taken) (stands-here gs (suc k) g here l).marks
        ∙ sym (taken-is (has is_receipt (history g)) (has is_sent (history f)) (has is_join (history f)) (has is_open_receiver (history g)))
        ∙ ap (λ (o : Option GenerationData). has_taken o (Some (data_of g))) (sym (data-here gs k f e))
        ∙ ap (λ (o : Option GenerationData). has_taken (slice_get (map data_of gs) k) o) (sym (data-here gs (suc k) g here))

-- a step of the one at a place
pub steps-at : (gs : List Generation) (k : ℕ) (g next : Generation) (e : Event) (said : Bool) (end : StepEnd) → slice_get gs k ≡ Some g → MayStep gs k e
    → Takes g next e said end → Linked gs
    → Steps (map data_of gs) (map data_of (set gs k next)) k e said end
steps-at gs k g next e said end here may t l = record {
  was = data_of g;
  after = data_of next;
  here = data-here gs k g here;
  timely = may.timely l;
  may = may.may l;
  took = took g next e said end (stands-here gs k g here l) t;
  others = data-set gs k next;
}

pub linked-at : (gs : List Generation) (k : ℕ) (g next : Generation) (e : Event) (said : Bool) (end : StepEnd) → slice_get gs k ≡ Some g → MayStep gs k e
    → Takes g next e said end → Linked gs → Linked (set gs k next)
linked-at gs k g next e said end here may t l = linked-step g next e said end t gs k here (may.timely l) (may.may l) l

-- whether the event may come, by its parts
pub come-unfit : (b f x : Bool) → b ≡ false → b ≡ f → false ≡ (f && x)
come-unfit b f x h k = grind arith

pub come-held : (r f m x : Bool) → r ≡ false → r ≡ m → false ≡ (f && (m && x))
come-held r f m x h k = grind arith

pub come-next : (b f r m k x : Bool) → b ≡ true → b ≡ f → r ≡ true → r ≡ m → k ≡ x → k ≡ (f && (m && x))
come-next b f r m k x h i j l n = grind arith

-- what follows from either answer
pub ok-then : {X E : Type 0} (r : Result X E) (P Q : X → Type 0) → IfOk r P → ((x : X) → P x → Q x) → IfOk r Q
ok-then (Ok x) P Q h f = f x h
ok-then (Err e) P Q h f = h

pub err-then : {X E : Type 0} (r : Result X E) (P Q : Type 0) → OnErr r P → (P → Q) → OnErr r Q
err-then (Ok x) P Q h f = h
err-then (Err e) P Q h f = f h

pub either-way : {X E : Type 0} (r : Result X E) (P : X → Type 0) (Q L : Type 0) → IfOk r P → OnErr r Q → ((x : X) → P x → L) → (Q → L) → L
either-way (Ok x) P Q L h k f g = f x h
either-way (Err e) P Q L h k f g = g k

-- the chain as its data has as many
pub data-length : (gs : List Generation) → length (map data_of gs) ≡ length gs
data-length [] = refl
data-length (g ∷ more) = ap suc (data-length more)

pub data-more : (gs : List Generation) (g : Generation) → map data_of (gs ++ g ∷ []) ≡ map data_of gs ++ data_of g ∷ []
data-more [] g = refl
data-more (x ∷ more) g = ap (λ (ds : List GenerationData). data_of x ∷ ds) (data-more more g)

-- a generation that begins is one of its own plan
pub begins-own : (p : Plan) (g : Generation) → Begins p g → Begins g.session.core.plan g
begins-own p g b = subst (λ x. Begins x g) (sym b.begins.plan_is) b

pub launches-at : (gs : List Generation) (p : Plan) (g : Generation) → MayLaunch gs p g → Linked gs → Launches (map data_of gs) (map data_of (gs ++ g ∷ [])) p
launches-at gs p g m l = record {
  newest = data_of g;
  begun = begun p g m.begins;
  may = m.may;
  few = subst (λ n. n < 64) (sym (data-length gs)) m.few;
  ready = m.ready l;
  others = data-more gs g;
}

pub linked-more : (gs : List Generation) (p : Plan) (g : Generation) → MayLaunch gs p g → Linked gs → Linked (gs ++ g ∷ [])
linked-more gs p g m l = linked-launch gs g (begins-own p g m.begins) l
