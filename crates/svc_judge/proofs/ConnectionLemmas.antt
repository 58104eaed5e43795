-- Connections and their settings, by other ways of looking.
use Rattle.std.proofs.Common.{ℕ, Bool, true, false, not, ◌==◌, ◌&&◌, ◌||◌, List, [], ◌∷◌, ◌++◌, filter, inl, inr, ◌≡◌, refl, sym, ap, ◌∙◌, Option, Some, None, eqb-true}
use Rattle.std.specs.List.{list_any}
use Rattle.std.proofs.lemmas.Bool.{cases_Bool}
use Rattle.svc_base.specs.declared.settings.Setting.{Setting}
use Rattle.svc_record.specs.declared.entry.Entry.TheVariants.{Got}
use Rattle.svc_record.specs.declared.event.Event.TheVariants.{Arrived}
use Rattle.svc_record.specs.Record.{Record, has}
use Rattle.svc_record.specs.Connections.{arrived_numbers, is_arrival, goes_on, is_cut, is_live_connection, same_setting, same_settings}
use Rattle.svc_judge.specs.ConnectionSteps.{without_front, is_done}

none-done : (xs : List Setting) → without_front xs None ≡ None
none-done [] = refl
none-done (x ∷ xs) = refl

-- settings are those of the list where they have nothing else behind them
pub fronts-same : (list told : List Setting) → is_done (without_front list (Some told)) ≡ same_settings told list
fronts-same [] [] = refl
fronts-same [] (y ∷ told) = refl
fronts-same (x ∷ list) [] = refl
fronts-same (x ∷ list) (y ∷ told) = elim (cases_Bool (same_setting y x)) [
  | inl h ↦ rw (h) (fronts-same list told)
  | inr h ↦ rw (h)
]

-- one list after the other
pub fronts-append : (xs ys : List Setting) (told : Option (List Setting)) → without_front (xs ++ ys) told ≡ without_front ys (without_front xs told)
fronts-append [] ys told = refl
fronts-append (x ∷ xs) [] None = refl
fronts-append (x ∷ xs) (y ∷ ys) None = refl
fronts-append (x ∷ xs) [] (Some []) = refl
fronts-append (x ∷ xs) (y ∷ ys) (Some []) = refl
fronts-append (x ∷ xs) ys (Some (t ∷ told)) = elim (cases_Bool (same_setting t x)) [
  | inl h ↦ rw (h) (fronts-append xs ys (Some told))
  | inr h ↦ rw (h) (sym (none-done ys))
]

and-false : (a b : Bool) → b ≡ false → (a && b) ≡ false
and-false true b h = h
and-false false b h = refl

among-next : (test : ℕ → Bool) (ns : List ℕ) (n c : ℕ) → list_any (λ m. m == c) (filter test ns) ≡ (list_any (λ m. m == c) ns && test c)
    → (n == c) ≡ true → list_any (λ m. m == c) (filter test (n ∷ ns)) ≡ (list_any (λ m. m == c) (n ∷ ns) && test c)
among-next test ns n c more same = elim (cases_Bool (test n)) [
  | inl passes ↦ (let t : test c ≡ true = ap test (sym (eqb-true n c same)) ∙ passes in rw (passes, same, t))
  | inr fails ↦
      (let t : test c ≡ false = ap test (sym (eqb-true n c same)) ∙ fails in rw (fails, same) (more ∙ and-false (list_any (λ m. m == c) ns) (test c) t ∙ sym t))
]

among-filter : (test : ℕ → Bool) (ns : List ℕ) (c : ℕ) → list_any (λ n. n == c) (filter test ns) ≡ (list_any (λ n. n == c) ns && test c)
among-filter test [] c = refl
among-filter test (n ∷ ns) c = elim (cases_Bool (n == c)) [
  | inl same ↦ among-next test ns n c (among-filter test ns c) same
  | inr other ↦ elim (cases_Bool (test n)) [ inl passes ↦ rw (passes, other) (among-filter test ns c) | inr fails ↦ rw (fails, other) (among-filter test ns c) ]
]

arrived-among : (q : Record) (c : ℕ) → list_any (λ n. n == c) (arrived_numbers q) ≡ has (is_arrival c) q
arrived-among [] c = refl
arrived-among (Got (Arrived s i n peer) ∷ q) c = ap (λ b. (n == c) || b) (arrived-among q c)
arrived-among (_ ∷ q) c = arrived-among q c

-- a live connection is one that arrived, and goes on
pub live_by_arrival : (q : Record) (c : ℕ) → is_live_connection q c ≡ (has (is_arrival c) q && (goes_on q c && not (has (is_cut c) q)))
live_by_arrival q c =
    among-filter (λ n. goes_on q n && not (has (is_cut n) q)) (arrived_numbers q) c
    ∙ ap (λ b. b && (goes_on q c && not (has (is_cut c) q))) (arrived-among q c)
