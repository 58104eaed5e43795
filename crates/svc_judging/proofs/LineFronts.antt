-- The words of a line that begins as a message's.
use Rattle.std.proofs.Common.{◌≡◌, ℕ, List, ◌∷◌, ◌++◌, codes, refl, ap, ◌∙◌, arith}
use Rattle.svc_base.specs.Words.{words}
use Rattle.svc_base.proofs.WordLemmas.{words-then}
use Rattle.svc_text.proofs.Visible.{visible_filled}

-- behind `received ` stand the message's words
pub message_front : (rest : List ℕ) → words (codes "received " ++ rest) ≡ codes "received" ∷ words rest
message_front rest = words-then (codes "received") 32 rest (omega arith) (visible_filled (codes "received") refl) refl

-- behind `received - ` stand its numbers
pub numbers_front : (rest : List ℕ) → words (codes "received - " ++ rest) ≡ codes "received" ∷ codes "-" ∷ words rest
numbers_front rest =
    message_front (codes "- " ++ rest)
    ∙ ap (λ (ws : List (List ℕ)). codes "received" ∷ ws) (words-then (codes "-") 32 rest (omega arith) (visible_filled (codes "-") refl) refl)
