-- What operators hear of an upgrade, and how far it is.
use Rattle.std.specs.Prelude.{ℕ, ◌≡◌, ◌==◌, ◌++◌, Bool, true, false, not, List, [], ◌∷◌, Option, Some, None, codes, filter}
use Rattle.svc_system.specs.declared.offer.AskRefused.{AskRefused}
use Rattle.svc_system.specs.declared.offer.AskRefused.TheVariants as refusals
use Rattle.svc_system.specs.declared.offer.UpgradeAnswer.{UpgradeAnswer}
use Rattle.svc_system.specs.declared.offer.UpgradeAnswer.TheVariants as answers
use Rattle.svc_system.specs.declared.offer.Offer.{Offer}
use Rattle.svc_system.specs.declared.offer.Offer.TheVariants as offers

-- the line of a refusal
abbrev pub refusal : AskRefused → List ℕ
refusal refusals.NotRunning = codes "refused: the server isn't running yet, or is ending" ++ 10 ∷ []
refusal refusals.UnderWay = codes "refused: an upgrade is under way" ++ 10 ∷ []
refusal refusals.NoListener = codes "refused: nothing listens that could be handed over" ++ 10 ∷ []
refusal refusals.TooMany = codes "refused: more than 32 listeners can't be handed over" ++ 10 ∷ []
refusal refusals.NotText = codes "refused: the path isn't UTF-8" ++ 10 ∷ []
refusal refusals.NoMemory = codes "refused: out of memory" ++ 10 ∷ []

-- a text without its line feeds
abbrev pub without_feeds : List ℕ → List ℕ
without_feeds text = filter (λ byte. not (byte == 10)) text

-- the line of another cause: its line feeds are left out
abbrev pub one_line : List ℕ → List ℕ
one_line cause = codes "refused: " ++ without_feeds cause ++ 10 ∷ []

-- what is heard of an answer, with the line of its cause
abbrev pub heard : UpgradeAnswer → List ℕ → List ℕ
heard (answers.Begun handover) cause = codes "ok upgrade" ++ 10 ∷ []
heard (answers.Refused text) cause = cause
heard answers.NoMemory cause = codes "refused: out of memory" ++ 10 ∷ []
heard answers.Unsupported cause = codes "refused: no newer server can be begun here" ++ 10 ∷ []

-- the operator who waits for an answer
abbrev pub waiting : Offer → Option ℕ
waiting (offers.Told operator) = Some operator
waiting offer = None

-- after this answer, where one is owed
abbrev pub after_answer : Offer → UpgradeAnswer → ℕ → Offer
after_answer (offers.Told operator) (answers.Begun handover) until = offers.Begun handover until
after_answer (offers.Told operator) answer until = offers.Idle
after_answer offer answer until = offer

-- a newer server was begun, and isn't there yet
abbrev pub is_begun : Offer → Bool
is_begun (offers.Begun handover until) = true
is_begun offer = false

-- a newer server receives, and is offered the sockets
abbrev pub is_offered : Offer → Bool
is_offered (offers.Offered handover) = true
is_offered offer = false

-- the sockets are the newer server's
abbrev pub has_sent : Offer → Bool
has_sent offers.Sent = true
has_sent offer = false

-- the one that was begun is offered the sockets
abbrev pub IsOffered : Offer → Offer → Type 0
IsOffered (offers.Begun handover until) now = now ≡ offers.Offered handover
IsOffered offer now = ⊥

-- the file that was asked for and wasn't told yet
abbrev pub taken : Offer → Option (List ℕ)
taken (offers.Asked asked) = Some asked.file
taken offer = None
