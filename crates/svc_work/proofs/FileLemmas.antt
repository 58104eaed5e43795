-- Which line names a file of a service.
use Rattle.std.proofs.Common.{◌≡◌, ℕ, ◌+◌, ◌<◌, List, [], ◌∷◌, ◌++◌, length, take, get_or, Option, refl, sym, ap, ◌∙◌}
use Rattle.std.specs.Option.{option_or}
use Rattle.std.proofs.lemmas.List.{take_more}
use Rattle.svc_work.specs.declared.works.WorkFile.{WorkFile}
use Rattle.svc_work.specs.declared.works.WorkLine.{WorkLine}
use Rattle.svc_work.specs.Works.{path_in, path_after}

path_push : (file : WorkFile) (service : ℕ) (found : Option (List ℕ)) (works : List WorkLine) (line : WorkLine)
    → path_after file service found (works ++ line ∷ []) ≡ option_or (path_in file service line) (path_after file service found works)
path_push file service found [] line = refl
path_push file service found (x ∷ works) line = path_push file service (option_or (path_in file service x) found) works line

-- one line more
pub path_more : (file : WorkFile) (service : ℕ) (found : Option (List ℕ)) (works : List WorkLine) (line : WorkLine) (k : ℕ) → k < length works
    → line ≡ get_or works k line
    → path_after file service found (take (k + 1) works) ≡ option_or (path_in file service line) (path_after file service found (take k works))
path_more file service found works line k lt read =
    ap (path_after file service found) (take_more works k line lt ∙ ap (λ (x : WorkLine). take k works ++ x ∷ []) (sym read))
    ∙ path_push file service found (take k works) line
