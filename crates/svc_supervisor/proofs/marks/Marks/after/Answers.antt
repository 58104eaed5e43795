use Rattle.std.proofs.Common.{◌∷◌, [], ◌++◌, List, take, ap, sym, ◌∙◌}
use Rattle.std.specs.Prelude.{reverse}
use Rattle.std.proofs.lemmas.List.{take_more, take_all, reverse-append}
use Rattle.svc_record.specs.declared.entry.Entry.{Entry}
use Rattle.svc_supervisor.specs.Marks.{marks_of}
use Rattle.svc_supervisor.proofs.marks.Marks.after.Goals as goal

pub loop-entry-preserved : goal.loop-entry-preserved
loop-entry-preserved c q is =
    let es = c.args.entries.now in
    let i = c.loop-entry.entry-index in
    let e = c.entry-item.result in
    c.with-marks.ensures (reverse (take i es) ++ q) (c.loop-entry.invariant q is)
    ∙ ap (λ (xs : List Entry). marks_of (xs ++ q)) (sym (ap (λ (xs : List Entry). reverse xs)
    (take_more es i e c.loop-entry-test.true ∙ ap (λ (x : Entry). take i es ++ x ∷ []) (sym c.entry-item.is))
    ∙ reverse-append (take i es) (e ∷ [])))

pub returns : goal.returns
returns c q is =
    c.loop-entry.invariant q is
    ∙ ap (λ (xs : List Entry). marks_of (reverse xs ++ q)) (take_all c.loop-entry.entry-index c.args.entries.now c.loop-entry-test.false)
