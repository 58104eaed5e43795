-- Services that are handed over: which are left, and what the host tells of it.
use Rattle.std.proofs.Common.{ℕ, zero, suc, ◌≡◌, ◌<◌, ◌==◌, ◌||◌, Bool, true, false, List, [], ◌∷◌, map, set, Option, Some, None, refl, ap, sym, subst, ◌∙◌, inl, inr, eq-eqb, arith}
use Rattle.std.specs.Prelude.{slice_get, unwrap_or, IfSome}
use Rattle.std.specs.Option.{option_map}
use Rattle.std.proofs.lemmas.Bool.{false≢true}
use Rattle.std.proofs.lemmas.Option.{slice_get-map, slice_get_cases}
use Rattle.svc_record.specs.declared.plan.Plan.{Plan}
use Rattle.svc_record.specs.declared.plan.ServicePlan.{ServicePlan}
use Rattle.svc_record.specs.declared.entry.Entry.TheVariants.{Got, Told}
use Rattle.svc_record.specs.declared.action.Action.{Action}
use Rattle.svc_record.specs.declared.action.Action.TheVariants.{Start}
use Rattle.svc_record.specs.Plans.{service_count}
use Rattle.svc_record.specs.Record.{Record, tell}
use Rattle.svc_record.specs.Starts.{is_started}
use Rattle.svc_server.specs.Hosts.{Handed, Account, with_entry, with_handed, starts_of, MayTell}
use Rattle.svc_server.specs.Runs.{names_of, name_at, handed_of}
use Rattle.svc_server.specs.Handing.{left_of, account_of, Hands, DueStart, DueStarts}

slice_get-set_other : {X : Type 0} (xs : List X) (i j : ℕ) (x : X) → (j ≡ i → ⊥) → slice_get (set xs i x) j ≡ slice_get xs j
slice_get-set_other [] i j x other = refl
slice_get-set_other (y ∷ ys) zero zero x other = absurd (other refl)
slice_get-set_other (y ∷ ys) zero (suc j) x other = refl
slice_get-set_other (y ∷ ys) (suc i) zero x other = refl
slice_get-set_other (y ∷ ys) (suc i) (suc j) x other = slice_get-set_other ys i j x (λ e. other (ap suc e))

neither : (a b : Bool) → (a || b) ≡ false → (a ≡ false) × (b ≡ false)
neither true b e = absurd cc
neither false b e = (refl, e)

-- a service that isn't started is left as it was
left-at : (names : List (List ℕ)) (q : Record) (s : ℕ) → is_started q s ≡ false → slice_get (left_of names q) s ≡ slice_get (map Some names) s
left-at names [] s e = refl
left-at names (Got x ∷ before) s e = left-at names before s e
left-at names (Told (Start t) ∷ before) s e =
    let both = neither (t == s) (is_started before s) e in
    slice_get-set_other (left_of names before) t s None (λ same. false≢true (sym both.0 ∙ eq-eqb t s (sym same))) ∙ left-at names before s both.1
left-at names (Told a ∷ before) s e = left-at names before s e

name-at : (p : Plan) (s : ℕ) → s < service_count p → slice_get (map Some (names_of p)) s ≡ Some (Some (name_at p s))
name-at p s lt =
    elim (slice_get_cases p.services s).1 [
      | inl at ↦ (
          let read : slice_get (map Some (names_of p)) s ≡ option_map Some (option_map (λ (x : ServicePlan). x.name) (slice_get p.services s)) =
          slice_get-map Some (names_of p) s ∙ ap (option_map Some) (slice_get-map (λ (x : ServicePlan). x.name) p.services s) in
          read ∙ rw at.2 refl)
      | inr past ↦ absurd (let le = past.0 in omega arith)
    ]

-- what is taken out is the service that starts
pub start-name : (left : List (Option (List ℕ))) (account : Option Account) (p : Plan) (q : Record) (s : ℕ) (n : Option (List ℕ)) → Hands left account p q
    → s < service_count p → is_started q s ≡ false → n ≡ unwrap_or (slice_get left s) None → n ≡ Some (name_at p s)
start-name left account p q s n h lt fresh e =
    e ∙ ap (λ (o : Option (Option (List ℕ))). unwrap_or o None) (ap (λ xs. slice_get xs s) h.left_is ∙ left-at (names_of p) q s fresh ∙ name-at p s lt)

services-handed : (p : Plan) (q : Record) → map (λ (h : Handed). h.service) (handed_of p q) ≡ starts_of q
services-handed p [] = refl
services-handed p (Got e ∷ before) = services-handed p before
services-handed p (Told (Start s) ∷ before) = ap (λ xs. s ∷ xs) (services-handed p before)
services-handed p (Told a ∷ before) = services-handed p before

-- the start of a service that was handed over may be told
pub may-start : (account : Option Account) (p : Plan) (q : Record) (s : ℕ) (name : List ℕ) → IfSome account (λ a. a ≡ account_of p q)
    → IfSome (option_map (with_handed (record { service = s; name = name })) account) (MayTell (Start s))
may-start None p q s name h = tt
may-start (Some a) p q s name h =
    subst (λ (x : Account). map (λ (h : Handed). h.service) (record { service = s; name = name } ∷ x.handed) ≡ s ∷ starts_of x.entries) (sym h)
    (ap (λ xs. s ∷ xs) (services-handed p q))

started-told : (account : Option Account) (p : Plan) (q : Record) (s : ℕ) (name : List ℕ) → name ≡ name_at p s → IfSome account (λ a. a ≡ account_of p q)
    → IfSome (option_map (with_entry (Told (Start s))) (option_map (with_handed (record { service = s; name = name })) account))
    (λ a. a ≡ account_of p (Told (Start s) ∷ q))
started-told None p q s name e h = tt
started-told (Some a) p q s name e h =
    let step : Account → Account = λ x. with_entry (Told (Start s)) (with_handed (record { service = s; name = name }) x) in
    let named : List ℕ → Account = λ n. record { entries = Told (Start s) ∷ q; handed = record { service = s; name = n } ∷ handed_of p q } in
    ap step h ∙ ap named e

pub hands-same : (left now_left : List (Option (List ℕ))) (account now_account : Option Account) (p : Plan) (q : Record) → now_left ≡ left
    → now_account ≡ account → Hands left account p q → Hands now_left now_account p q
hands-same left now_left account now_account p q e f h = subst (λ xs. Hands xs now_account p q) (sym e) (subst (λ o. Hands left o p q) (sym f) h)

pub hands-start : (left : List (Option (List ℕ))) (account : Option Account) (p : Plan) (q : Record) (s : ℕ) (name : List ℕ) → Hands left account p q
    → name ≡ name_at p s
    → Hands (set left s None) (option_map (with_entry (Told (Start s))) (option_map (with_handed (record { service = s; name = name })) account)) p
    (Told (Start s) ∷ q)
hands-start left account p q s name h e = record { left_is = ap (λ xs. set xs s None) h.left_is; told_is = started-told account p q s name e h.told_is }

some-same : (a b : List ℕ) → ◌≡◌ {A = Option (List ℕ)} (Some a) (Some b) → a ≡ b
some-same a b e = cc

-- the host's accounts of a handing over and a start
pub hands-started : (left now_left : List (Option (List ℕ))) (account middle now_account : Option Account) (p : Plan) (q : Record) (s : ℕ) (name : List ℕ)
    → now_left ≡ set left s None → middle ≡ option_map (with_handed (record { service = s; name = name })) account
    → now_account ≡ option_map (with_entry (Told (Start s))) middle
    → Some name ≡ unwrap_or (slice_get left s) None → Hands left account p q → DueStart p q (Start s) → Hands now_left now_account p (Told (Start s) ∷ q)
hands-started left now_left account middle now_account p q s name e f k taken h due =
    let named : name ≡ name_at p s = some-same name (name_at p s) (start-name left account p q s (Some name) h due.0 due.1 taken) in
    hands-same (set left s None) now_left _ now_account p (Told (Start s) ∷ q) e (k ∙ ap (option_map (with_entry (Told (Start s)))) f)
    (hands-start left account p q s name h named)

pub none-taken : (left : List (Option (List ℕ))) (account : Option Account) (p : Plan) (q : Record) (s : ℕ) → Hands left account p q → DueStart p q (Start s)
    → None ≡ unwrap_or (slice_get left s) None → ⊥
none-taken left account p q s h due taken = let named = start-name left account p q s None h due.0 due.1 taken in cc

-- ---- the actions one by one

-- after some record the rest of the actions are due, and lead to the whole
pub record Leads (left : List (Option (List ℕ))) (account : Option Account) (p : Plan) (rest : List Action) (whole : Record) : Type 0 where
  pub told : Record
  pub hands : Hands left account p told
  pub due : DueStarts p told rest
  pub leads : tell told rest ≡ whole
