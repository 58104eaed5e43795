use Rattle.std.proofs.Common.{[], ap, ◌∙◌, List}
use Rattle.std.specs.Prelude.{reverse}
use Rattle.std.proofs.lemmas.List.{append-nil}
use Rattle.svc_record.specs.declared.entry.Entry.{Entry}
use Rattle.svc_supervisor.specs.Marks.{marks_of}
use Rattle.svc_supervisor.proofs.generation.Generation.begin.Goals as goal

pub returns : goal.returns
returns c = record {
  begins = record {
    told = c.in_ok-session.ensures.begins.0;
    begins = c.in_ok-session.ensures.begins.1;
    marks = c.after-marks.ensures [] c.new.ensures
        ∙ ap marks_of (append-nil (reverse c.as_slice.result.now) ∙ ap (λ (xs : List Entry). reverse xs) (c.as_slice.ensures ∙ c.entries.ensures));
    texts = c.read_addresses.ensures;
  };
}
