-- What a script says, of the lines that fit.
use Rattle.std.proofs.Common.{◌≡◌, ℕ, ◌+◌, ◌≤◌, Bool, true, false, not, ◌==◌, List, [], ◌∷◌, length, take, drop, Some, None, Result, Ok, Err, refl, sym, ap, subst, ◌∙◌, arith}
use Rattle.std.specs.Str.Lines.{lines}
use Rattle.std.proofs.lemmas.List.{length-drop, length-take-le}
use Rattle.std.proofs.Math.Seq.{take-length}
use Rattle.svc_conf.specs.declared.server.configuration.ServerConf.{ServerConf}
use Rattle.svc_conf.specs.declared.server.configuration.read_error.ReadError.{ReadError}
use Rattle.svc_conf.specs.Configuration.{defaults}
use Rattle.svc_conf.specs.ConfigurationText.{said_from, overridden_by, configuration}
use Rattle.svc_text.specs.declared.parsing.ScriptError.{ScriptError}
use Rattle.svc_text.specs.declared.parsing.ScriptError.TheVariants.{Line, NoMemory}
use Rattle.svc_text.specs.declared.reading.Reading.{Reading}
use Rattle.svc_text.specs.declared.front.ParsedPrefix.{ParsedPrefix}
use Rattle.svc_text.specs.Outcome.{Gives, SaysConf}
use Rattle.svc_text.specs.ConfTexts.{text_at, IsConfText}
use Rattle.svc_text.specs.Fronts.{HasSaid, IsFront, finished}
use Rattle.svc_text.specs.Script.{section_index, line_fits, begun, first_misfit, fitting, conf_in, refused_line, lines_before, judged, script_of, script, AreLines}
use Rattle.svc_text.proofs.ConfTextLemmas.{HasText}
use Rattle.svc_text.proofs.ScriptLemmas.{FitUpTo, misfit_none, misfit_at, HasRead, next_line, fits_next}

-- ---- the lines that fit

fitting_first : (ls : List (List ℕ)) (n : ℕ) → first_misfit ls ≡ Some n → fitting ls ≡ take n ls
unfolding fitting
fitting_first ls n e = rw e refl

fitting_all : (ls : List (List ℕ)) → first_misfit ls ≡ None → fitting ls ≡ ls
unfolding fitting
fitting_all ls e = rw e (take-length ls)

-- the next line doesn't fit
pub front_refused : (all rest line after : List ℕ) (n : ℕ) (r : Reading) (f : ParsedPrefix) → HasRead all rest n r → lines rest ≡ line ∷ lines after
    → line_fits (section_index r.part) r.eager r.services.items line ≡ false → HasText all rest (take n (lines all)) f.conf → n ≤ length all → f.number ≡ n
    → f.refused ≡ true → IsFront all f
front_refused all rest line after n r f h e never t short number refused =
    let next = next_line all rest line after n r h e in
    let m : first_misfit (lines all) ≡ Some n = misfit_at (lines all) n h.fit next.here (fits_next all rest line after n r h next ∙ never) in
    let front : fitting (lines all) ≡ take n (lines all) = fitting_first (lines all) n m in
    record {
      number = number ∙ sym (ap length front ∙ length-take-le n (lines all) h.within);
      short = omega (arith, number, short);
      whole = rw (m, refused) refl;
      conf = subst (λ (ls : List (List ℕ)). IsConfText all ls f.conf) (sym front) t.conf;
      said = λ k. absurd (let g = sym k ∙ refused in cc);
      places = λ k. absurd (let g = sym k ∙ refused in cc);
    }

ended : (ls : List (List ℕ)) (n : ℕ) → n ≤ length ls → drop n ls ≡ [] → (n ≡ length ls) × (take n ls ≡ ls)
ended ls n le d =
    let e : n ≡ length ls = omega (arith, length-drop n ls, ap length d) in
    (e, rw e (take-length ls))

-- all lines fit
pub front_whole : (all rest : List ℕ) (n : ℕ) (r : Reading) (f : ParsedPrefix) → HasRead all rest n r → lines rest ≡ []
    → HasText all rest (take n (lines all)) f.conf
    → AreLines (lines all) (length r.services.items) f.lines.items → n ≤ length all → f.number ≡ n → f.refused ≡ false → f.reading ≡ r → IsFront all f
front_whole all rest n r f h e t places short number refused same =
    let z = ended (lines all) n h.within (sym h.rest_is ∙ e) in
    let m : first_misfit (lines all) ≡ None = misfit_none (lines all) (subst (FitUpTo (lines all)) z.0 h.fit) in
    let front : fitting (lines all) ≡ take n (lines all) = fitting_all (lines all) m ∙ sym z.1 in
    record {
      number = number ∙ sym (ap length front ∙ length-take-le n (lines all) h.within);
      short = omega (arith, number, short);
      whole = rw (m, refused) refl;
      conf = subst (λ (ls : List (List ℕ)). IsConfText all ls f.conf) (sym front) t.conf;
      said = λ k. subst (λ (s : Reading). HasSaid (fitting (lines all)) s) (sym same) (subst (λ (ls : List (List ℕ)). HasSaid ls r) (sym front) h.said);
      places = λ k. subst (λ (s : Reading). AreLines (lines all) (length s.services.items) f.lines.items) (sym same) places;
    }

-- ---- what follows

conf_is : (all : List ℕ) (f : ParsedPrefix) → IsFront all f → conf_in (fitting (lines all)) ≡ configuration (text_at f.conf all)
unfolding conf_in configuration
conf_is all f h = ap (λ (ls : List (List ℕ)). overridden_by defaults (said_from [] ls)) (sym h.conf.says)

-- a line of the configuration is refused
pub conf_refused : (all : List ℕ) (f : ParsedPrefix) (error : ScriptError) → IsFront all f
    → SaysConf (Err error) f.conf.before (configuration (text_at f.conf all)) → Gives (Err error) (script all)
unfolding script script_of judged
conf_refused all f (Line n) h (e, is, number) =
    let c : conf_in (fitting (lines all)) ≡ Err e = conf_is all f h ∙ is in
    let at : lines_before (fitting (lines all)) + refused_line e ≡ n = ap (λ (m : ℕ). m + refused_line e) (sym h.conf.before) ∙ sym number in
    rw c (ap (λ (m : ℕ). Err m) at)
conf_refused all f NoMemory h said = tt

-- where the configuration is taken, what the lines that fit are followed by
behind : (all : List ℕ) (f : ParsedPrefix) (conf : ServerConf) → IsFront all f → SaysConf (Ok conf) f.conf.before (configuration (text_at f.conf all))
    → script all ≡ judged (not f.refused) (Ok conf) (fitting (lines all))
unfolding script script_of
behind all f conf h is =
    let c : conf_in (fitting (lines all)) ≡ Ok conf = conf_is all f h ∙ is in
    ap (λ (b : Bool). judged b (conf_in (fitting (lines all))) (fitting (lines all))) h.whole
    ∙ ap (λ (r : Result ServerConf ReadError). judged (not f.refused) r (fitting (lines all))) c

-- it is what is answered
pub finished_gives : (all : List ℕ) (f : ParsedPrefix) (conf : ServerConf) → IsFront all f
    → SaysConf (Ok conf) f.conf.before (configuration (text_at f.conf all)) → Gives (finished f conf) (script all)
unfolding judged
finished_gives all f conf h is = by_tests f.refused (section_index f.reading.part == 3) refl refl
  where
    by_tests : (r p : Bool) → f.refused ≡ r → (section_index f.reading.part == 3) ≡ p → Gives (finished f conf) (script all)
    by_tests true p e g =
        rw (behind all f conf h is, e) (ap (λ (m : ℕ). Err (m + 1)) (sym h.number))
    by_tests false false e g =
        let b : (begun (fitting (lines all)) == 3) ≡ false = ap (λ (k : ℕ). k == 3) (sym (h.said e).part) ∙ g in
        rw (behind all f conf h is, e, g, b) (ap (λ (m : ℕ). Err (m + 1)) (sym h.number))
    by_tests false true e g =
        let said = h.said e in
        let b : (begun (fitting (lines all)) == 3) ≡ true = ap (λ (k : ℕ). k == 3) (sym said.part) ∙ g in
        rw (behind all f conf h is, e, g, b, ← said.services, ← said.eager, ← said.items) refl
