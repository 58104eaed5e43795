use Rattle.std.proofs.Common.{arith, sym, ap, ◌∙◌, ◌≡◌, Some, true, false}
use Rattle.svc_record.specs.Plans.{same_address}
use Rattle.svc_endpoints.specs.Effects.{first_of}
use Rattle.svc_endpoints.proofs.TableLemmas.{numbers-at, numbers-past}
use Rattle.svc_endpoints.proofs.table.find_in.Goals as goal

pub returns-then-has_address : goal.returns-then-has_address
returns-then-has_address c =
    let same : same_address c.entry-item.result.address (Some c.args.address.now) ≡ true = sym c.has_address.ensures ∙ c.if-has_address.true in
    ap first_of (sym (numbers-at c.args.table.now c.loop-entry.entry-index c.entry-item.result c.args.address.now (omega arith) c.entry-item.is same)
    ∙ c.loop-entry.invariant)

pub loop-entry-preserved : goal.loop-entry-preserved
loop-entry-preserved c =
    let other : same_address c.entry-item.result.address (Some c.args.address.now) ≡ false = sym c.has_address.ensures ∙ c.if-has_address.false in
    sym (numbers-past c.args.table.now c.loop-entry.entry-index c.entry-item.result c.args.address.now (omega arith) c.entry-item.is other)
    ∙ c.loop-entry.invariant
