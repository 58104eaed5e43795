-- The answer to an input is the program's answer, and what a status says of it.
use Rattle.std.proofs.Common.{◌≡◌, ◌≤◌, inl, inr, ℕ, List, [], length, ◌∷◌, ◌++◌, map, Option, Some, None, Ok, IfSome, refl, sym, ap, subst, ◌∙◌, arith}
use Rattle.std.specs.Io.KnownBytes.{Appends, IsAtEnd}
use Rattle.std.specs.Str.Lines.{lines}
use Rattle.svc_base.specs.Streams.{Rose}
use Rattle.svc_conf.specs.declared.server.configuration.key.Key.{Key}
use Rattle.svc_main.specs.declared.outcome.RunEnd.TheVariants.{Served, Tested, Parent, Config, HostFault, Bootstrap, Stray, OutOfEvents}
use Rattle.svc_main.specs.declared.outcome.StatusLine.TheVariants.{Words, Line, ReadFault, Run}
use Rattle.svc_main.proofs.ScriptAnswerLemmas.{of_left}
use Rattle.svc_text.proofs.EdgeLemmas.{refused_some}
use Rattle.svc_generations.specs.declared.outcome.ChainLine.{ChainLine}
use Rattle.svc_generations.specs.declared.outcome.ChainLine.TheVariants.{Unbegun, Chained, Step}
use Rattle.svc_generations.specs.declared.outcome.StepRefusal.{StepRefusal}
use Rattle.svc_generations.specs.declared.serving.Serving.{Serving}
use Rattle.svc_generations.specs.ChainStatus.{status_line, status_of, line_of}
use Rattle.svc_generations.specs.Serving.{chain_text}
use Rattle.svc_generations.specs.Servings.{EndsAt}
use Rattle.svc_generations.specs.Inputs.{BlockParts, InputParts, input_of}
use Rattle.svc_generations.specs.ChainPrograms.{AllSound, AllAccepted, RefusesEdge, RefusesKey, EndsSteps, PrintsChain, AnswersInput, IsChainText, RefusesIn, RefusesConf, IsAnswer, Ends, Faults, Answers, RunsThrough, IsWholeText}
use Rattle.svc_supervisor.specs.ChainData.{GenerationData, ChainData}
use Rattle.svc_supervisor.specs.Chains.{closed, finished_chain, AreClosed}
use Rattle.svc_generations.specs.ChainTells.{StopsAt}

-- ---- the answer to an input

ends_so : (input : InputParts) (s : Serving) (end : Option (ℕ × StepRefusal)) → EndsAt input.blocks input.steps s end
    → EndsSteps input s.chain.generations (line_of end)
ends_so input s None h = h
ends_so input s (Some refused) h = h

-- the chain that the steps left is closed and printed
pub prints_chain : (input : InputParts) (s : Serving) (now : ChainData) (end : Option (ℕ × StepRefusal)) (line said : ChainLine) (out : List ℕ)
    → EndsAt input.blocks input.steps s end → AreClosed s.chain.generations → now ≡ finished_chain s.chain → line ≡ line_of end → said ≡ line
    → out ≡ chain_text 0 now.generations ++ status_line line → PrintsChain input said out
prints_chain input s now end line said out ends closes finished is same printed =
    subst (λ (l : ChainLine). PrintsChain input l out) (sym (same ∙ is)) (record {
      generations = s.chain.generations;
      ends = ends_so input s end ends;
      closes = closes;
      printed = printed ∙ ap (λ (c : ChainData). chain_text 0 c.generations ++ status_line line) finished
          ∙ ap (λ (l : ChainLine). chain_text 0 (map closed s.chain.generations) ++ status_line l) is;
    })

pub edge_answer : (input : InputParts) (n : ℕ) (line : ChainLine) (out : List ℕ) → RefusesEdge input.blocks n
    → (line ≡ Unbegun (Line n)) × (out ≡ status_line (Unbegun (Line n))) → AnswersInput input line out
edge_answer input n line out refused said = subst (λ (l : ChainLine). AnswersInput input l out) (sym said.0) (said.1, refused)

-- the answer to an input is the program's
pub input_answer : (words : List (List ℕ)) (left : Option (List ℕ)) (read : List ℕ) (input : InputParts) (line : ChainLine) (out : List ℕ) → words ≡ []
    → IfSome left (λ bytes. read ≡ bytes) → length read ≤ 16777216 → input_of (lines read) ≡ Ok input → AnswersInput input line out
    → IsAnswer words left line out
input_answer words left read input (Unbegun Words) out none same short says a = absurd a
input_answer words left read input (Unbegun (Line n)) out none same short says a =
    (none, a.0, of_left left read (λ bytes. RefusesIn bytes n) same (inl (short, inr (input, (says, a.1)))))
input_answer words left read input (Unbegun ReadFault) out none same short says a = absurd a
input_answer words left read input (Unbegun (Run Served)) out none same short says a = absurd a
input_answer words left read input (Unbegun (Run Tested)) out none same short says a = absurd a
input_answer words left read input (Unbegun (Run (Parent n))) out none same short says a = absurd a
input_answer words left read input (Unbegun (Run (Config key))) out none same short says a =
    (none, a.0, of_left left read (λ bytes. RefusesConf bytes key) same (short, (input, (says, a.1, a.2))))
input_answer words left read input (Unbegun (Run HostFault)) out none same short says a = absurd a
input_answer words left read input (Unbegun (Run (Bootstrap error))) out none same short says a = absurd a
input_answer words left read input (Unbegun (Run (Stray k))) out none same short says a = absurd a
input_answer words left read input (Unbegun (Run OutOfEvents)) out none same short says a = absurd a
input_answer words left read input Chained out none same short says a =
    (none, (input, (a.2, of_left left read (λ bytes. IsChainText bytes input) same (record { short = short; says = says; edges = a.0; accepted = a.1 }))))
input_answer words left read input (Step k refusal) out none same short says a =
    (none, (input, (a.2, of_left left read (λ bytes. IsChainText bytes input) same (record { short = short; says = says; edges = a.0; accepted = a.1 }))))

-- it was read to its end
pub input_ends : (input : InputParts) (line : ChainLine) (out : List ℕ) (left : Option (List ℕ)) → AnswersInput input line out → IsAtEnd left → Ends line left
input_ends input (Unbegun Words) out left a e = tt
input_ends input (Unbegun (Line n)) out left a e = λ _. e
input_ends input (Unbegun ReadFault) out left a e = tt
input_ends input (Unbegun (Run end)) out left a e = e
input_ends input Chained out left a e = e
input_ends input (Step k refusal) out left a e = e

-- and without a fault
pub input_faults : (input : InputParts) (line : ChainLine) (out : List ℕ) (before now : ℕ) → AnswersInput input line out → Faults line before now
input_faults input (Unbegun Words) out before now a = tt
input_faults input (Unbegun (Line n)) out before now a = tt
input_faults input (Unbegun ReadFault) out before now a = absurd a
input_faults input (Unbegun (Run end)) out before now a = tt
input_faults input Chained out before now a = tt
input_faults input (Step k refusal) out before now a = tt

-- where the status isn't that of the words, of a refused line or of a fault, there are no words and the source was read
pub answers_from : (status : ℕ) → (status ≡ 2 → ⊥) → (status ≡ 3 → ⊥) → (status ≡ 5 → ⊥)
    → (words : List (List ℕ)) (left now_left before now : Option (List ℕ)) (line : ChainLine) (out : List ℕ)
    → IsAnswer words left line out → Ends line now_left → Appends before now out → status_of line ≡ status → Answers status words left now_left before now
answers_from status two three five words left now_left before now (Unbegun Words) out a d p e = absurd (two (sym e))
answers_from status two three five words left now_left before now (Unbegun (Line n)) out a d p e = absurd (three (sym e))
answers_from status two three five words left now_left before now (Unbegun ReadFault) out a d p e = absurd (five (sym e))
answers_from status two three five words left now_left before now (Unbegun (Run Served)) out a d p e = absurd a
answers_from status two three five words left now_left before now (Unbegun (Run Tested)) out a d p e = absurd a
answers_from status two three five words left now_left before now (Unbegun (Run (Parent n))) out a d p e = absurd a
answers_from status two three five words left now_left before now (Unbegun (Run (Config key))) out a d p e =
    record { line = Unbegun (Run (Config key)); out = out; is = e; none = a.0; answer = a; read = d; written = p }
answers_from status two three five words left now_left before now (Unbegun (Run HostFault)) out a d p e = absurd a
answers_from status two three five words left now_left before now (Unbegun (Run (Bootstrap error))) out a d p e = absurd a
answers_from status two three five words left now_left before now (Unbegun (Run (Stray k))) out a d p e = absurd a
answers_from status two three five words left now_left before now (Unbegun (Run OutOfEvents)) out a d p e = absurd a
answers_from status two three five words left now_left before now Chained out a d p e =
    record { line = Chained; out = out; is = e; none = a.0; answer = a; read = d; written = p }
answers_from status two three five words left now_left before now (Step k refusal) out a d p e =
    record { line = Step k refusal; out = out; is = e; none = a.0; answer = a; read = d; written = p }

-- words are refused as such
pub refused_words : (words : List (List ℕ)) (left : Option (List ℕ)) (line : ChainLine) (out : List ℕ) → (words ≡ [] → ⊥) → IsAnswer words left line out
    → status_of line ≡ 2
refused_words words left (Unbegun Words) out refused a = refl
refused_words words left (Unbegun (Line n)) out refused a = absurd (refused a.0)
refused_words words left (Unbegun ReadFault) out refused a = absurd (refused a.0)
refused_words words left (Unbegun (Run Served)) out refused a = absurd a
refused_words words left (Unbegun (Run Tested)) out refused a = absurd a
refused_words words left (Unbegun (Run (Parent n))) out refused a = absurd a
refused_words words left (Unbegun (Run (Config key))) out refused a = absurd (refused a.0)
refused_words words left (Unbegun (Run HostFault)) out refused a = absurd a
refused_words words left (Unbegun (Run (Bootstrap error))) out refused a = absurd a
refused_words words left (Unbegun (Run (Stray k))) out refused a = absurd a
refused_words words left (Unbegun (Run OutOfEvents)) out refused a = absurd a
refused_words words left Chained out refused a = absurd (refused a.0)
refused_words words left (Step k refusal) out refused a = absurd (refused a.0)

-- ---- a whole input

one_input : (bytes : List ℕ) (i j : InputParts) → input_of (lines bytes) ≡ Ok i → input_of (lines bytes) ≡ Ok j → i ≡ j
one_input bytes i j e f = cc

no_edge : (blocks : List BlockParts) (n : ℕ) → AllSound blocks → RefusesEdge blocks n → ⊥
no_edge [] n sound refused = refused
no_edge (b ∷ more) n sound (inl here) = refused_some b.parts.services here.service here.refused sound.0
no_edge (b ∷ more) n sound (inr later) = no_edge more n sound.1 later.1

no_key : (blocks : List BlockParts) (key : Key) → AllAccepted blocks → RefusesKey blocks key → ⊥
no_key [] key accepted refused = refused
no_key (b ∷ more) key accepted (inl here) = (let fine = accepted.0 in cc)
no_key (b ∷ more) key accepted (inr later) = no_key more key accepted.1 later.1

-- its answer says that all steps were taken, or that the source failed
pub whole_is_chained : (words : List (List ℕ)) (bytes : List ℕ) (input : InputParts) (line : ChainLine) (out : List ℕ) (before now : ℕ)
    → IsWholeText words bytes input → IsAnswer words (Some bytes) line out → Faults line before now → (Rose before now → ⊥) → status_of line ≡ 0
whole_is_chained words bytes input (Unbegun Words) out before now w a f n = absurd (a.0 w.none)
whole_is_chained words bytes input (Unbegun (Line k)) out before now w a f n = absurd (by a.2)
  where
    by : RefusesIn bytes k → ⊥
    by (inl (short, inl refused)) = let said : input_of (lines bytes) ≡ Ok input = w.is_text.says in cc
    by (inl (short, inr edge)) =
        no_edge input.blocks k w.is_text.edges
        (subst (λ (i : InputParts). RefusesEdge i.blocks k) (one_input bytes edge.0 input edge.1.0 w.is_text.says) edge.1.1)
    by (inr long) = let short = w.is_text.short in omega (arith, long.1)
whole_is_chained words bytes input (Unbegun ReadFault) out before now w a f n = absurd (n f)
whole_is_chained words bytes input (Unbegun (Run Served)) out before now w a f n = absurd a
whole_is_chained words bytes input (Unbegun (Run Tested)) out before now w a f n = absurd a
whole_is_chained words bytes input (Unbegun (Run (Parent k))) out before now w a f n = absurd a
whole_is_chained words bytes input (Unbegun (Run (Config key))) out before now w a f n =
    let refused = a.2.1 in
    absurd (no_key input.blocks key w.is_text.accepted
    (subst (λ (i : InputParts). RefusesKey i.blocks key) (one_input bytes refused.0 input refused.1.0 w.is_text.says) refused.1.2))
whole_is_chained words bytes input (Unbegun (Run HostFault)) out before now w a f n = absurd a
whole_is_chained words bytes input (Unbegun (Run (Bootstrap error))) out before now w a f n = absurd a
whole_is_chained words bytes input (Unbegun (Run (Stray k))) out before now w a f n = absurd a
whole_is_chained words bytes input (Unbegun (Run OutOfEvents)) out before now w a f n = absurd a
whole_is_chained words bytes input Chained out before now w a f n = refl
whole_is_chained words bytes input (Step k refusal) out before now w a f n =
    let text = a.1 in
    let same : text.0 ≡ input = one_input bytes text.0 input text.1.1.says w.is_text.says in
    absurd (by text.0 same text.1.0.generations text.1.0.ends)
  where
    by : (i : InputParts) → i ≡ input → (gs : List GenerationData) → StopsAt i.blocks i.steps gs k refusal → ⊥
    by i e gs s = let t : RunsThrough i = subst RunsThrough (sym e) w.through in t s.before s.step gs refusal s.here s.leaves s.refuses
