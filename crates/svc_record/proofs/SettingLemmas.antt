-- Words of settings, each with a space before it, are spaced as words of a line are.
use Rattle.std.proofs.Common.{◌≡◌, ℕ, List, [], ◌∷◌, ◌++◌, map, sym, ap}
use Rattle.std.specs.List.{join_with_byte, flat_map}
use Rattle.std.proofs.lemmas.List.{append-nil}
use Rattle.svc_base.specs.declared.settings.Setting.{Setting}
use Rattle.svc_record.specs.Text.{setting_word}

pub spaced_settings : (xs : List Setting) (word : List ℕ) → join_with_byte 32 (word ∷ map setting_word xs) ≡ word ++ flat_map (λ x. 32 ∷ setting_word x) xs
spaced_settings [] word = sym (append-nil word)
spaced_settings (x ∷ xs) word = ap (λ (t : List ℕ). word ++ (32 ∷ t)) (spaced_settings xs (setting_word x))
