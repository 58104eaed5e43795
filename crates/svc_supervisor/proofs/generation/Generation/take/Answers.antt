use Rattle.std.proofs.Common.{◌∷◌, ◌++◌, List, ap, sym, ◌∙◌, drop, length}
use Rattle.std.specs.Prelude.{reverse}
use Rattle.std.proofs.lemmas.List.{reverse-append, take_rest}
use Rattle.svc_record.specs.declared.entry.Entry.{Entry}
use Rattle.svc_record.specs.declared.entry.Entry.TheVariants.{Got}
use Rattle.svc_session.specs.Sessions.{told_entries}
use Rattle.svc_session.proofs.SessionLemmas.{added-entries}
use Rattle.svc_supervisor.specs.Marks.{marks_of}
use Rattle.svc_supervisor.proofs.generation.Generation.take.Goals as goal

pub returns-in-Ok-clause-takes : goal.returns-in-Ok-clause-takes
returns-in-Ok-clause-takes c =
    let was = c.args.self.now.session in
    let now = c.step.new.self in
    let e = c.args.event in
    let told = c.in-Ok.ensures.takes.0 in
    let took = c.in-Ok.ensures.takes.1 in
    let n = c.len-before.result in
    let added = take_rest c.as_slice.result.now n ∙ ap (drop n) (c.as_slice.ensures ∙ c.entries-in-Ok.ensures)
    ∙ added-entries was now e c.args.said c.in-Ok.end told took n (c.len-before.ensures ∙ ap (λ (xs : List Entry). length xs) c.entries.ensures) in
    record {
      told = told;
      takes = took;
      marks = λ stood. c.after-self.ensures (reverse was.entries) stood
          ∙ ap marks_of (ap (λ (xs : List Entry). reverse xs ++ reverse was.entries) added
          ∙ sym (ap (λ (xs : List Entry). reverse xs) took.entries ∙ reverse-append was.entries (Got e ∷ told_entries told)));
    }
