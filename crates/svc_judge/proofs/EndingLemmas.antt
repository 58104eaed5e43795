-- A record ends right where what is told at the end can be taken from it one by one.
use Rattle.std.proofs.Common.{ℕ, suc, ◌+◌, nat_lt, arith, false, List, [], ◌∷◌, ◌++◌, map, reverse, ◌≡◌, refl, sym, ap, ◌∙◌, inl, inr, Option, Some, None, append_assoc}
use Rattle.std.proofs.lemmas.Bool.{cases_Bool}
use Rattle.std.proofs.lemmas.List.{reverse-append}
use Rattle.std.specs.List.{insert, position_or_len}
use Rattle.svc_base.specs.NumberSets.{put_number, ascending}
use Rattle.svc_record.specs.declared.plan.Plan.{Plan}
use Rattle.svc_record.specs.declared.entry.Entry.TheVariants.{Told}
use Rattle.svc_record.specs.declared.action.Action.{Action}
use Rattle.svc_record.specs.declared.action.Action.TheVariants.{Phase, Cut, Close, Stop}
use Rattle.svc_record.specs.declared.action.ExecutionPhase.TheVariants.{ShutdownRuntimes, Terminated}
use Rattle.svc_record.specs.Record.{Record, tell, now}
use Rattle.svc_record.specs.Connections.{live_connections}
use Rattle.svc_record.specs.Drain.{is_told, begins_with, live_numbers, stop_seconds, last_actions, ends_right}
use Rattle.svc_judge.specs.Endings.{before_told, strip_told, strip_back, before_ends, is_there}

there-none : (acts : List Action) → is_there (strip_told acts None) ≡ false
there-none [] = refl
there-none (a ∷ acts) = there-none acts

-- the entries that tell these, the newest first
abbrev told : List Action → Record
told [] = []
told (a ∷ acts) = Told a ∷ told acts

begins : (acts : List Action) (q : Record) → begins_with (told acts) q ≡ is_there (strip_told acts (Some q))
begins [] q = refl
begins (a ∷ acts) [] = sym (there-none acts)
begins (a ∷ acts) (e ∷ q) = elim (cases_Bool (is_told a e)) [ inl h ↦ rw (h) (begins acts q) | inr h ↦ rw (h) (sym (there-none acts)) ]

pub strip_told-append : (acts bs : List Action) (r : Option Record) → strip_told (acts ++ bs) r ≡ strip_told bs (strip_told acts r)
strip_told-append [] bs r = refl
strip_told-append (a ∷ acts) bs r = strip_told-append acts bs (before_told a r)

-- the actions in the other order, before these
abbrev turned : List Action → List Action → List Action
turned [] done = done
turned (a ∷ acts) done = turned acts (a ∷ done)

tell-turned : (acts done : List Action) → tell (told done) acts ≡ told (turned acts done)
tell-turned [] done = refl
tell-turned (a ∷ acts) done = tell-turned acts (a ∷ done)

turned-append : (acts bs done : List Action) → turned (acts ++ bs) done ≡ turned bs (turned acts done)
turned-append [] bs done = refl
turned-append (a ∷ acts) bs done = turned-append acts bs (a ∷ done)

turned-reverse : (acts done : List Action) → turned acts done ≡ reverse acts ++ done
turned-reverse [] done = refl
turned-reverse (a ∷ acts) done =
    turned-reverse acts (a ∷ done) ∙ sym (append_assoc (reverse acts) (a ∷ []) done) ∙ sym (ap (λ x. x ++ done) (reverse-append (a ∷ []) acts))

strip_told-turned : (acts done : List Action) (r : Option Record) → strip_told (turned acts done) r ≡ strip_told done (strip_told (reverse acts) r)
strip_told-turned acts done r = ap (λ x. strip_told x r) (turned-reverse acts done) ∙ strip_told-append (reverse acts) done r

back : (acts : List Action) (r : Option Record) → strip_told (reverse acts) r ≡ strip_back acts r
back [] r = refl
back (a ∷ acts) r =
    ap (λ x. strip_told x r) (reverse-append (a ∷ []) acts) ∙ strip_told-append (reverse acts) (a ∷ []) r ∙ ap (before_told a) (back acts r)

-- the record ends right where each of the last actions can be taken from it
pub ends_by_strips : (p : Plan) (at r : Record)
    → ends_right p at r ≡ is_there (before_ends p at (ascending (live_connections at)) (ascending (live_numbers p at)) r)
ends_by_strips p at r =
    let first : List Action = Phase ShutdownRuntimes (now at) ∷ [] in
    let cuts : List Action = map Cut (ascending (live_connections at)) in
    let closes : List Action = map Close (ascending (live_numbers p at)) in
    let ends : List Action = Stop (stop_seconds p at) ∷ Phase Terminated (now at) ∷ [] in
    let opened : Option Record = before_told (Stop (stop_seconds p at)) (before_told (Phase Terminated (now at)) (Some r)) in
    ap (λ x. begins_with x r) (tell-turned (last_actions p at) [])
    ∙ begins (turned (last_actions p at) []) r
    ∙ ap (λ x. is_there (strip_told x (Some r))) (turned-append cuts (closes ++ ends) first ∙ turned-append closes ends (turned cuts first))
    ∙ ap is_there
    (strip_told-turned closes (turned cuts first) opened ∙ strip_told-turned cuts first (strip_told (reverse closes) opened)
    ∙ ap (before_told (Phase ShutdownRuntimes (now at))) (back cuts (strip_told (reverse closes) opened) ∙ ap (strip_back cuts) (back closes opened)))

insert-next : (m : ℕ) (more : List ℕ) (i n : ℕ) → insert (m ∷ more) (1 + i) n ≡ m ∷ insert more i n
insert-next m more i n = rw (next i) refl
  where
    next : (i : ℕ) → 1 + i ≡ suc i
    next i = omega arith

-- a number stands in its place
pub insert_place : (n : ℕ) (xs : List ℕ) → insert xs (position_or_len (λ m. nat_lt n m) xs) n ≡ put_number n xs
insert_place n [] = refl
insert_place n (m ∷ more) = elim (cases_Bool (nat_lt n m)) [
  | inl h ↦ rw (h) refl
  | inr h ↦ rw (h) (insert-next m more (position_or_len (λ m. nat_lt n m) more) n ∙ ap (λ w. m ∷ w) (insert_place n more))
]

-- the last number's action is taken first
pub strip_last : (f : ℕ → Action) (ns : List ℕ) (n : ℕ) (r : Option Record)
    → strip_back (map f (ns ++ (n ∷ []))) r ≡ strip_back (map f ns) (before_told (f n) r)
strip_last f [] n r = refl
strip_last f (m ∷ ns) n r = ap (before_told (f m)) (strip_last f ns n r)
