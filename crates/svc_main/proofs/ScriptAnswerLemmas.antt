-- The answer to a script is the program's answer.
use Rattle.std.proofs.Common.{◌≡◌, ◌≤◌, ◌==◌, ℕ, Bool, true, List, [], ◌∷◌, map, arith, length, Option, Some, None, Result, Ok, Err, IfOk, OnOk, inl, inr, refl, sym, subst, ◌∙◌, IfSome}
use Rattle.std.specs.Io.KnownBytes.{Consumes}
use Rattle.std.specs.Str.Lines.{lines}
use Rattle.std.proofs.lemmas.Bool.{eqb-true}
use Rattle.svc_conf.specs.declared.server.configuration.Opt.{Opt}
use Rattle.svc_text.specs.Script.{Parts, IsLineOf, AreLines, script}
use Rattle.svc_text.specs.Dependencies.{RefusesNone}
use Rattle.svc_main.specs.declared.outcome.RunEnd.{RunEnd}
use Rattle.svc_main.specs.declared.outcome.RunEnd.TheVariants.{Served}
use Rattle.svc_main.specs.declared.outcome.StatusLine.{StatusLine}
use Rattle.svc_main.specs.declared.outcome.StatusLine.TheVariants.{Words, Line, ReadFault, Run}
use Rattle.svc_main.specs.CommandWords.{TakesWords, RefusesWords, made_size, flags_of}
use Rattle.svc_main.specs.Program.{IsScript, RanText, CountsText, RefusesIn, AnswersScript, IsAnswer, Ends, Faults}

-- what is so of the bytes that were read is so of those that the source tells
pub of_left : (left : Option (List ℕ)) (read : List ℕ) (P : List ℕ → Type 0) → IfSome left (λ bytes. read ≡ bytes) → P read → IfSome left P
of_left None read P e h = tt
of_left (Some bytes) read P e h = subst P e h

pub script_answer : (words : List (List ℕ)) (left : Option (List ℕ)) (read numbers : List ℕ) (opt : Opt) (parts : Parts) (line : StatusLine) (out : List ℕ)
    → TakesWords words → opt ≡ flags_of words → IfSome left (λ bytes. read ≡ bytes) → length read ≤ 16777216 → script read ≡ Ok parts
    → AreLines (lines read) (length parts.services) numbers
    → AnswersScript opt parts numbers line out → IsAnswer words left line out
script_answer words left read numbers opt parts (Run end) out takes flags same short says places (edges, ran) =
    inl (
      takes,
      (
        parts,
        (
          subst (λ (o : Opt). RanText o parts end out) flags ran,
          of_left left read (λ bytes. IsScript bytes parts) same
              (record { short = short; says = says; edges = edges }),
        ),
      ),
    )
script_answer words left read numbers opt parts (Line n) out takes flags same short says places (printed, refusal) =
    let k : ℕ = refusal.0 in
    let place : IsLineOf (lines read) k n = subst (IsLineOf (lines read) k) (sym refusal.1.1) (places.each k refusal.1.0.here) in
    (takes, printed, of_left left read (λ bytes. RefusesIn bytes n) same (inl (short, inr (parts, (says, (k, (refusal.1.0, place)))))))
script_answer words left read numbers opt parts Words out takes flags same short says places h = absurd h
script_answer words left read numbers opt parts ReadFault out takes flags same short says places h = absurd h

pub if_ok : {A B : Type 0} (P Q : A → Type 0) (r : Result A B) → IfOk r P → ((x : A) → P x → Q x) → IfOk r Q
if_ok P Q (Ok x) p f = f x p
if_ok P Q (Err e) p f = tt

pub on_ok : {A B : Type 0} (P : Type 0) (r : Result A B) → P → OnOk r P
on_ok P (Ok x) p = p
on_ok P (Err e) p = tt

-- of a source that wasn't read nothing is kept
pub unread : (left : Option (List ℕ)) (bytes : List ℕ) → bytes ≡ [] → Consumes left left bytes
unread None bytes e = tt
unread (Some xs) bytes e = rw e refl

-- the run of a script whose dependencies are sound answers it
pub ran_answer : (opt : Opt) (parts : Parts) (numbers : List ℕ) (line : StatusLine) (out : List ℕ) → RefusesNone parts.services
    → (end : RunEnd) × (line ≡ Run end) × RanText opt parts end out → AnswersScript opt parts numbers line out
ran_answer opt parts numbers line out edges (end, is, ran) = subst (λ (l : StatusLine). AnswersScript opt parts numbers l out) (sym is) (edges, ran)

-- the run of the generator answers words that ask for it
pub made_answer : (words : List (List ℕ)) (left : Option (List ℕ)) (n : ℕ) (line : StatusLine) (out : List ℕ) → made_size words ≡ Some n
    → (line ≡ Run Served) × CountsText n out → IsAnswer words left line out
made_answer words left n line out size (is, counts) = subst (λ (l : StatusLine). IsAnswer words left l out) (sym is) (inr (refl, (n, size, counts)))

pub made_ends : (words : List (List ℕ)) (left : Option (List ℕ)) (n : ℕ) (line : StatusLine) → made_size words ≡ Some n → line ≡ Run Served
    → Ends words line left
made_ends words left n line size is =
    subst (λ (l : StatusLine). Ends words l left) (sym is) (λ none. absurd (let never : ◌≡◌ {A = Option ℕ} (Some n) None = sym size ∙ none in cc))

pub made_faults : (line : StatusLine) (before now : ℕ) → line ≡ Run Served → Faults line before now
made_faults line before now is = subst (λ (l : StatusLine). Faults l before now) (sym is) tt

-- words aren't refused and taken
not_taken : (words : List (List ℕ)) → RefusesWords words → TakesWords words → ⊥
not_taken words (size, inl never) t = never t.run
not_taken words (size, inr refused) t = refused.fault t.flags

-- words don't ask for the generator and for none
pub none_made : (words : List (List ℕ)) (n : ℕ) (P : Type 0) → made_size words ≡ None → made_size words ≡ Some n → P
none_made words n P none size = absurd (let never : ◌≡◌ {A = Option ℕ} (Some n) None = sym size ∙ none in cc)

-- words that are refused get no other answer than that
pub refused_words : (words : List (List ℕ)) (left : Option (List ℕ)) (line : StatusLine) (out : List ℕ) → RefusesWords words → IsAnswer words left line out
    → line ≡ Words
refused_words words left Words out r a = refl
refused_words words left (Line n) out r a = absurd (not_taken words r a.0)
refused_words words left ReadFault out r a = absurd (not_taken words r a.0)
refused_words words left (Run end) out r (inl ran) = absurd (not_taken words r ran.0)
refused_words words left (Run end) out r (inr made) = none_made words made.1.0 (◌≡◌ {A = StatusLine} (Run end) Words) r.0 made.1.1

-- a list without elements has no words
pub no_words : {X : Type 0} (f : X → List ℕ) (xs : List X) (empty : Bool) → empty ≡ (length xs == 0) → empty ≡ true → map f xs ≡ []
no_words f [] empty is h = refl
no_words f (x ∷ xs) empty is h =
    absurd (let long : (length (x ∷ xs) == 0) ≡ true = sym is ∙ h in let none : length (x ∷ xs) ≡ 0 = eqb-true (length (x ∷ xs)) 0 long in omega arith)
