use Rattle.std.proofs.Common.{subst, arith}
use Rattle.std.proofs.lemmas.Grind.{common_steps}
use Rattle.svc_record.specs.Text.{EntryFits}
use Rattle.svc_text.proofs.PieceLemmas.{all_more}
use Rattle.svc_text.proofs.printing.record_text.Goals as goal

pub loop-entry-preserved : goal.loop-entry-preserved
loop-entry-preserved c = (
  grind (arith, common_steps),
  all_more EntryFits c.args.entries.now c.loop-entry.entry-index c.entry-item.result c.loop-entry-test.true c.loop-entry.invariant.1
      (subst EntryFits c.entry-item.is c.read_entry.ensures),
)
