use Rattle.std.proofs.Common.{List, Bool, filter, ap, ◌∙◌, length, arith}
use Rattle.svc_base.specs.Items.{list_of}
use Rattle.svc_base.specs.Blocks.{joined, rises_by}
use Rattle.svc_base.specs.NumberSets.{is_in, distinct}
use Rattle.svc_base.proofs.KeyLemmas.{rises-filter}
use Rattle.svc_endpoints.specs.declared.uses.UseCount.{UseCount}
use Rattle.svc_endpoints.specs.EndpointsState.{numbers_of_table}
use Rattle.svc_endpoints.specs.Counts.{counted_numbers}
use Rattle.svc_endpoints.proofs.UsesLemmas.{once-filter, filter-length}
use Rattle.svc_endpoints.proofs.uses.Uses.keep.Goals as goal

pub put_blocks-requires : goal.put_blocks-requires
put_blocks-requires c =
    let live : UseCount → Bool = λ (u : UseCount). is_in u.fd (numbers_of_table (list_of c.args.table.now)) in
    let size = ap length c.keep_blocks.ensures in
    let less = filter-length live (joined c.take_blocks-blocks.result.items) in
    let few = c.take_blocks-blocks.ensures.few in
    record {
      rise = ap (rises_by (λ (u : UseCount). u.fd)) c.keep_blocks.ensures
          ∙ rises-filter (λ (u : UseCount). u.fd) live (joined c.take_blocks-blocks.result.items) c.take_blocks-blocks.ensures.rise;
      few = omega (arith, size, less, few);
    }

pub invariant_of-self : goal.invariant_of-self
invariant_of-self c =
    let live : UseCount → Bool = λ (u : UseCount). is_in u.fd (numbers_of_table (list_of c.args.table.now)) in
    ap (λ (l : List UseCount). distinct (counted_numbers l)) (c.put_blocks.ensures ∙ c.keep_blocks.ensures
    ∙ ap (filter live) c.take_blocks-blocks.ensures.entries)
    ∙ once-filter live (list_of c.self.inside.counts) c.self.invariant
