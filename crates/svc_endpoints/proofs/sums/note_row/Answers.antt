use Rattle.std.proofs.Common.{◌≡◌, subst, arith, length}
use Rattle.svc_base.specs.Items.{list_of}
use Rattle.svc_record.specs.Plans.{endpoints}
use Rattle.svc_endpoints.specs.Sums.{AreNoted}
use Rattle.svc_endpoints.proofs.SumLemmas.{noted-next, noted-row}
use Rattle.svc_endpoints.proofs.sums.note_row.Goals as goal

pub loop-i-preserved : goal.loop-i-preserved
loop-i-preserved c =
    noted-next c.args.plan.now c.args.s c.loop-i.i c.sum_of.result c.address_of.result.now (list_of c.loop-i.seen) (list_of c.loop-i.shared)
    (list_of c.note.new.seen) (list_of c.note.new.shared)
    c.sum_of.ensures c.address_of.ensures c.in_ok-note.ensures.here c.in_ok-note.ensures.twice c.in_ok-note.ensures.seen c.in_ok-note.ensures.shared
    c.loop-i.invariant

pub returns : goal.returns
returns c =
    let end : c.loop-i.i ≡ length (endpoints c.args.plan.now c.args.s) = (let e = c.endpoint_count-i-end.ensures in omega arith) in
    noted-row c.args.plan.now c.args.s (list_of c.loop-i.seen) (list_of c.loop-i.shared) (list_of c.note_claims.new.shared)
    c.in_ok-note_claims.ensures.claimed c.in_ok-note_claims.ensures.kept
    (subst (λ n. AreNoted c.args.plan.now c.args.s n (list_of c.loop-i.seen) (list_of c.loop-i.shared)) end c.loop-i.invariant)
