-- How settings are read, one after the other.
use Rattle.std.proofs.Common.{◌≡◌, ℕ, List, [], ◌∷◌, ◌++◌, map, Option, Some, None, refl, sym, ap, ◌∙◌, append_assoc}
use Rattle.std.specs.Option.{option_map}
use Rattle.std.proofs.lemmas.List.{append-nil}
use Rattle.svc_base.specs.declared.settings.Setting.{Setting}
use Rattle.svc_base.specs.Options.{◌>>=◌}
use Rattle.svc_text.specs.NumberLists.{all_some}
use Rattle.svc_judging.specs.SettingWords.{setting_of, settings_of}

-- the settings so far, before those that are left
abbrev pub settings_after : List Setting → Option (List Setting) → Option (List Setting)
settings_after xs o = option_map (λ more. xs ++ more) o

pub settings_end : (xs : List Setting) → settings_after xs (settings_of []) ≡ Some xs
unfolding settings_of
settings_end xs = ap (λ (ys : List Setting). Some ys) (append-nil xs)

pushed : (xs : List Setting) (x : Setting) (o : Option (List Setting))
    → settings_after xs (option_map (λ more. x ∷ more) o) ≡ settings_after (xs ++ x ∷ []) o
pushed xs x None = refl
pushed xs x (Some more) = ap (λ (ys : List Setting). Some ys) (sym (append_assoc xs (x ∷ []) more))

consed : (x : Setting) (o : Option (List Setting)) → (o >>= λ xs. Some (x ∷ xs)) ≡ option_map (λ more. x ∷ more) o
consed x None = refl
consed x (Some xs) = refl

one_more : (x : Setting) (w : List ℕ) (ws : List (List ℕ)) → setting_of w ≡ Some x → settings_of (w ∷ ws) ≡ option_map (λ more. x ∷ more) (settings_of ws)
unfolding settings_of
one_more x w ws e = rw e (consed x (all_some (map setting_of ws)))

pub settings_more : (xs ys : List Setting) (x : Setting) (w : List ℕ) (ws : List (List ℕ)) → Some x ≡ setting_of w → ys ≡ xs ++ x ∷ []
    → settings_after xs (settings_of (w ∷ ws)) ≡ settings_after ys (settings_of ws)
settings_more xs ys x w ws e ey =
    ap (settings_after xs) (one_more x w ws (sym e)) ∙ pushed xs x (settings_of ws) ∙ ap (λ (zs : List Setting). settings_after zs (settings_of ws)) (sym ey)

pub settings_stop : (xs : List Setting) (w : List ℕ) (ws : List (List ℕ)) → None ≡ setting_of w → settings_after xs (settings_of (w ∷ ws)) ≡ None
unfolding settings_of
settings_stop xs w ws e = rw (← e) refl
