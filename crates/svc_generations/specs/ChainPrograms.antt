-- What the program of a chain answers, and why.
use Rattle.std.specs.Prelude.{◌≡◌, ◌≢◌, ◌⊎◌, ℕ, ◌+◌, ◌<◌, ◌≤◌, List, [], ◌∷◌, ◌++◌, length, take, map, slice_get, Option, Some, Ok, Err, IfSome}
use Rattle.std.specs.Io.KnownBytes.{Appends, IsAtEnd}
use Rattle.std.specs.Str.Lines.{lines}
use Rattle.svc_conf.specs.declared.server.configuration.key.Key.{Key}
use Rattle.svc_conf.specs.Configuration.{judged}
use Rattle.svc_text.specs.Dependencies.{RefusesAt, RefusesNone}
use Rattle.svc_text.specs.Script.{IsLineOf}
use Rattle.svc_main.specs.declared.outcome.StatusLine.TheVariants.{Words, Line, ReadFault, Run}
use Rattle.svc_main.specs.declared.outcome.RunEnd.TheVariants.{Config}
use Rattle.svc_main.specs.Program.{Faults as FaultsSo, WritesFrontOf}
use Rattle.svc_generations.specs.declared.outcome.ChainLine.{ChainLine}
use Rattle.svc_generations.specs.declared.outcome.ChainLine.TheVariants.{Unbegun, Chained, Step}
use Rattle.svc_generations.specs.declared.outcome.StepRefusal.{StepRefusal}
use Rattle.svc_generations.specs.declared.steps.Step.{Step as StepOf}
use Rattle.svc_supervisor.specs.ChainData.{GenerationData}
use Rattle.svc_supervisor.specs.Chains.{closed, AreClosed}
use Rattle.svc_generations.specs.ChainStatus.{status_line, status_of}
use Rattle.svc_generations.specs.Inputs.{BlockParts, InputParts, input_of}
use Rattle.svc_generations.specs.Serving.{RefusesStep, chain_text}
use Rattle.svc_generations.specs.ChainTells.{Leaves, StopsAt}

-- in no block are a service's dependencies refused
abbrev pub AllSound : List BlockParts → Type 0
AllSound [] = Unit {0}
AllSound (b ∷ more) = RefusesNone b.parts.services × AllSound more

-- line n of the input is that of the first service of the block whose dependencies are refused
pub record RefusesHere (b : BlockParts) (n : ℕ) : Type 0 where
  pub service : ℕ
  pub line : ℕ
  pub refused : RefusesAt b.parts.services service
  pub place : IsLineOf b.own service line
  pub number : n ≡ b.before + line

-- the same of the first such block
abbrev pub RefusesEdge : List BlockParts → ℕ → Type 0
RefusesEdge [] n = ⊥
RefusesEdge (b ∷ more) n = RefusesHere b n ⊎ (RefusesNone b.parts.services × RefusesEdge more n)

-- each configuration is accepted
abbrev pub AllAccepted : List BlockParts → Type 0
AllAccepted [] = Unit {0}
AllAccepted (b ∷ more) = (judged b.parts.conf ≡ Ok tt) × AllAccepted more

-- the first configuration that isn't is refused for this key
abbrev pub RefusesKey : List BlockParts → Key → Type 0
RefusesKey [] key = ⊥
RefusesKey (b ∷ more) key = (judged b.parts.conf ≡ Err key) ⊎ ((judged b.parts.conf ≡ Ok tt) × RefusesKey more key)

-- how the steps ended, by the status line
abbrev pub EndsSteps : InputParts → List GenerationData → ChainLine → Type 0
EndsSteps input gs Chained = Leaves input.blocks input.steps gs
EndsSteps input gs (Step k refusal) = StopsAt input.blocks input.steps gs k refusal
EndsSteps input gs (Unbegun line) = ⊥

-- the text prints the chain that the steps of an input leave, with what was open closed, and the status line
pub record PrintsChain (input : InputParts) (line : ChainLine) (out : List ℕ) : Type 0 where
  pub generations : List GenerationData
  pub ends : EndsSteps input generations line
  pub closes : AreClosed generations
  pub printed : out ≡ chain_text 0 (map closed generations) ++ status_line line

-- what is to be written for an input
abbrev pub AnswersInput : InputParts → ChainLine → List ℕ → Type 0
AnswersInput input (Unbegun (Line n)) out = (out ≡ status_line (Unbegun (Line n))) × RefusesEdge input.blocks n
AnswersInput input (Unbegun (Run (Config key))) out = (out ≡ status_line (Unbegun (Run (Config key)))) × AllSound input.blocks × RefusesKey input.blocks key
AnswersInput input (Unbegun line) out = ⊥
AnswersInput input line out = AllSound input.blocks × AllAccepted input.blocks × PrintsChain input line out

-- the bytes, within the limit, say this input, whose dependencies and configurations are accepted
pub record IsChainText (bytes : List ℕ) (input : InputParts) : Type 0 where
  pub short : length bytes ≤ 16777216
  pub says : input_of (lines bytes) ≡ Ok input
  pub edges : AllSound input.blocks
  pub accepted : AllAccepted input.blocks

-- a text that prints the chain of some input, which is the one that was read where the source tells its bytes
abbrev pub ChainText : Option (List ℕ) → ChainLine → List ℕ → Type 0
ChainText left line out = (input : InputParts) × (PrintsChain input line out × IfSome left (λ bytes. IsChainText bytes input))

-- the bytes say an input, in which a service's dependencies are refused at this line
abbrev pub RefusesService : List ℕ → ℕ → Type 0
RefusesService bytes n = (input : InputParts) × ((input_of (lines bytes) ≡ Ok input) × RefusesEdge input.blocks n)

-- the refused line of bytes within the limit: the first that doesn't fit; else that of the first service whose dependencies are refused
abbrev pub RefusesWithin : List ℕ → ℕ → Type 0
RefusesWithin bytes n = (length bytes ≤ 16777216) × ((input_of (lines bytes) ≡ Err n) ⊎ RefusesService bytes n)

-- the refused line of these bytes; 0 for a text that is too long
abbrev pub RefusesIn : List ℕ → ℕ → Type 0
RefusesIn bytes n = RefusesWithin bytes n ⊎ ((n ≡ 0) × (16777216 < length bytes))

-- the refused line, where the source tells its bytes
abbrev pub Refuses : Option (List ℕ) → ℕ → Type 0
Refuses left n = IfSome left (λ bytes. RefusesIn bytes n)

-- the bytes, within the limit, say an input, whose first configuration that isn't accepted is refused for this key
abbrev pub RefusesConf : List ℕ → Key → Type 0
RefusesConf bytes key = (length bytes ≤ 16777216)
    × ((input : InputParts) × ((input_of (lines bytes) ≡ Ok input) × AllSound input.blocks × RefusesKey input.blocks key))

-- what is to be written, by its status line
abbrev pub IsAnswer : List (List ℕ) → Option (List ℕ) → ChainLine → List ℕ → Type 0
IsAnswer words left (Unbegun Words) out = (words ≢ []) × (out ≡ status_line (Unbegun Words))
IsAnswer words left (Unbegun (Line n)) out = (words ≡ []) × (out ≡ status_line (Unbegun (Line n))) × Refuses left n
IsAnswer words left (Unbegun ReadFault) out = (words ≡ []) × (out ≡ status_line (Unbegun ReadFault))
IsAnswer words left (Unbegun (Run (Config key))) out = (words ≡ []) × (out ≡ status_line (Unbegun (Run (Config key))))
    × IfSome left (λ bytes. RefusesConf bytes key)
IsAnswer words left (Unbegun (Run end)) out = ⊥
IsAnswer words left line out = (words ≡ []) × ChainText left line out

-- the source was read to its end
abbrev pub Ends : ChainLine → Option (List ℕ) → Type 0
Ends (Unbegun Words) left = Unit {0}
Ends (Unbegun ReadFault) left = Unit {0}
Ends (Unbegun (Line n)) left = 0 < n → IsAtEnd left
Ends line left = IsAtEnd left

-- the source's count rose where the line says a fault
abbrev pub Faults : ChainLine → ℕ → ℕ → Type 0
Faults (Unbegun line) before now = FaultsSo line before now
Faults line before now = Unit {0}

-- the text of a refusal, of bytes that were read to the end unless they are too long
abbrev pub RefusedText : Option (List ℕ) → Option (List ℕ) → List ℕ → Type 0
RefusedText left now_left out = (n : ℕ) × (out ≡ status_line (Unbegun (Line n))) × Refuses left n × (0 < n → IsAtEnd now_left)

-- there are no words, the source was read to its end, and the sink took an answer with this status
pub record Answers (status : ℕ) (words : List (List ℕ)) (left now_left before now : Option (List ℕ)) : Type 0 where
  pub line : ChainLine
  pub out : List ℕ
  pub is : status_of line ≡ status
  pub none : words ≡ []
  pub answer : IsAnswer words left line out
  pub read : IsAtEnd now_left
  pub written : Appends before now out

-- the sink took a front of an answer that had its cause: of a read fault only where the source's count rose, and of all but refused words and a text
-- that is too long only where the source was read to its end
abbrev pub WritesFront : List (List ℕ) → Option (List ℕ) → Option (List ℕ) → ℕ → ℕ → Option (List ℕ) → Option (List ℕ) → Type 0
WritesFront words left now_left faults now_faults before now =
    WritesFrontOf (IsAnswer words left) (λ line. Ends line now_left) (λ line. Faults line faults now_faults) before now

-- no step is refused by the chain that those before it leave
abbrev pub RunsThrough : InputParts → Type 0
RunsThrough input = (before : ℕ) (step : StepOf) (gs : List GenerationData) (refusal : StepRefusal) → slice_get input.steps before ≡ Some step
    → Leaves input.blocks (take before input.steps) gs → RefusesStep input.blocks gs step refusal → ⊥

-- there are no words, the source tells bytes that say an input, whose dependencies and configurations are accepted, and of whose steps none is refused
pub record IsWholeText (words : List (List ℕ)) (bytes : List ℕ) (input : InputParts) : Type 0 where
  pub none : words ≡ []
  pub is_text : IsChainText bytes input
  pub through : RunsThrough input
