use Rattle.std.proofs.Common.{Err}
use Rattle.svc_text.specs.Outcome.{parts_of}
use Rattle.svc_generations.proofs.InputLemmas.{block_says, refuses_block}
use Rattle.svc_generations.proofs.BlockDaemonLemmas.{block_undaemonized}
use Rattle.svc_generations.proofs.input.read_block.Goals as goal

pub returns-in-Ok-script_of-clause-says : goal.returns-in-Ok-script_of-clause-says
returns-in-Ok-script_of-clause-says c = block_says _ _ _ _ c.in-Ok.ensures.lines c.in-Ok.ensures.daemon c.in-Ok-script_of.ensures.read

pub returns-in-Err-Line-clause-refused : goal.returns-in-Err-Line-clause-refused
returns-in-Err-Line-clause-refused c =
    refuses_block c.args.before c.in-Err-Line.n _ c.refused_behind.result
    (block_says _ _ _ (Err c.in-Err-Line.n) c.in-Ok.ensures.lines c.in-Ok.ensures.daemon (rw c.in-Err-Line.field-0-is at c.in-Err-Line.ensures.read))
    (rw c.in-Err-Line.field-0-is at c.refused_behind.ensures)

pub returns-in-Ok-script_of-clause-is_block : goal.returns-in-Ok-script_of-clause-is_block
returns-in-Ok-script_of-clause-is_block c = record {
  accepted = c.in-Ok-script_of.ensures.accepted;
  numbers = c.in-Ok-script_of.ensures.numbers;
  undaemonized = block_undaemonized c.args.text.now (parts_of c.in-Ok-script_of.script) (returns-in-Ok-script_of-clause-says c);
}
