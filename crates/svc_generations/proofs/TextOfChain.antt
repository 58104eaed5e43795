-- The text of a chain, one generation after the other.
use Rattle.std.proofs.Common.{◌≡◌, ℕ, zero, suc, ◌+◌, ◌<◌, List, [], ◌∷◌, ◌++◌, length, drop, refl, sym, ap, subst, ◌∙◌, arith, append_assoc, Option, Some}
use Rattle.std.specs.Prelude.{slice_get, reverse, IfSome}
use Rattle.std.proofs.lemmas.List.{reverse-reverse}
use Rattle.svc_record.specs.declared.entry.Entry.{Entry}
use Rattle.svc_record.specs.Text.{text_of}
use Rattle.svc_supervisor.specs.ChainData.{GenerationData}
use Rattle.svc_generations.specs.Serving.{number_line, chain_text}

-- the text so far, with that of the generations from n on
abbrev pub TextThen : List ℕ → ℕ → List GenerationData → Type 0
TextThen text n gs = text ++ chain_text n (drop n gs) ≡ chain_text 0 gs

same_here : (xs : Option GenerationData) (P : GenerationData → Type 0) (g : GenerationData) → xs ≡ Some g → IfSome xs P → P g
same_here xs P g e h = let Q : Option GenerationData → Type 0 = λ o. IfSome o P in subst Q e h

split_at : (n : ℕ) (gs : List GenerationData) → n < length gs → (g : GenerationData) × (slice_get gs n ≡ Some g) × (drop n gs ≡ g ∷ drop (suc n) gs)
split_at zero [] h = absurd (omega arith)
split_at zero (g ∷ gs) h = (g, refl, refl)
split_at (suc n) [] h = absurd (omega arith)
split_at (suc n) (g ∷ gs) h = split_at n gs (omega arith)

pub text_more : (text new : List ℕ) (n : ℕ) (gs : List GenerationData) (entries : List Entry) → n < length gs
    → IfSome (slice_get gs n) (λ g. g.history ≡ reverse entries) → new ≡ text ++ (number_line n ++ text_of entries) → TextThen text n gs
    → TextThen new (n + 1) gs
text_more text new n gs entries inside record_is written h =
    let at = split_at n gs inside in
    let g : GenerationData = at.0 in
    let entries_are : reverse g.history ≡ entries =
    ap (λ (r : List Entry). reverse r) (same_here (slice_get gs n) (λ (x : GenerationData). x.history ≡ reverse entries) g at.1 record_is)
    ∙ reverse-reverse entries in
    let next : drop (n + 1) gs ≡ drop (suc n) gs = (let at : n + 1 ≡ suc n = omega arith in ap (λ (k : ℕ). drop k gs) at) in
    ap (λ (t : List ℕ). t ++ chain_text (n + 1) (drop (n + 1) gs)) written
    ∙ ap (λ (xs : List GenerationData). (text ++ (number_line n ++ text_of entries)) ++ chain_text (n + 1) xs) next
    ∙ append_assoc text (number_line n ++ text_of entries) (chain_text (n + 1) (drop (suc n) gs))
    ∙ ap (λ (es : List Entry). text ++ ((number_line n ++ text_of es) ++ chain_text (n + 1) (drop (suc n) gs))) (sym entries_are)
    ∙ ap (λ (xs : List GenerationData). text ++ chain_text n xs) (sym at.2)
    ∙ h
