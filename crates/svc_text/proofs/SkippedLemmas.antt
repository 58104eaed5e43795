-- A skipped line is no event's, and no fault's.
use Rattle.std.proofs.Common.{◌≡◌, ℕ, true, false, List, [], ◌∷◌, None, refl, sym, subst}
use Rattle.std.proofs.lemmas.Bool.{eqb-true}
use Rattle.svc_text.specs.EventLines.{bare_event, event_of_one, event_of_two, event_of_three, event_of_four, event_of, is_fault}
use Rattle.svc_text.specs.Script.{is_skipped}

pub skipped_event : (ws : List (List ℕ)) → is_skipped ws ≡ true → event_of ws ≡ None
unfolding is_skipped event_of bare_event event_of_one event_of_two event_of_three event_of_four
skipped_event [] h = refl
skipped_event ([] ∷ ws) h = absurd cc
skipped_event ((b ∷ w) ∷ []) h = subst (λ (x : ℕ). event_of ((x ∷ w) ∷ []) ≡ None) (sym (eqb-true b 35 h)) refl
skipped_event ((b ∷ w) ∷ v ∷ []) h = subst (λ (x : ℕ). event_of ((x ∷ w) ∷ v ∷ []) ≡ None) (sym (eqb-true b 35 h)) refl
skipped_event ((b ∷ w) ∷ v ∷ u ∷ []) h = subst (λ (x : ℕ). event_of ((x ∷ w) ∷ v ∷ u ∷ []) ≡ None) (sym (eqb-true b 35 h)) refl
skipped_event ((b ∷ w) ∷ v ∷ u ∷ t ∷ []) h = subst (λ (x : ℕ). event_of ((x ∷ w) ∷ v ∷ u ∷ t ∷ []) ≡ None) (sym (eqb-true b 35 h)) refl
skipped_event ((b ∷ w) ∷ v ∷ u ∷ t ∷ s ∷ []) h = subst (λ (x : ℕ). event_of ((x ∷ w) ∷ v ∷ u ∷ t ∷ s ∷ []) ≡ None) (sym (eqb-true b 35 h)) refl
skipped_event ((b ∷ w) ∷ v ∷ u ∷ t ∷ s ∷ r ∷ ws) h = refl

pub skipped_is_no_fault : (ws : List (List ℕ)) → is_skipped ws ≡ true → is_fault ws ≡ false
unfolding is_skipped is_fault
skipped_is_no_fault [] h = refl
skipped_is_no_fault ([] ∷ ws) h = absurd cc
skipped_is_no_fault ((b ∷ w) ∷ []) h = subst (λ (x : ℕ). is_fault ((x ∷ w) ∷ []) ≡ false) (sym (eqb-true b 35 h)) refl
skipped_is_no_fault ((b ∷ w) ∷ v ∷ ws) h = refl
