use Rattle.std.proofs.Common.{ℕ, List, ap, ◌∙◌}
use Rattle.svc_base.specs.Items.{list_of}
use Rattle.svc_base.specs.NumberSets.{is_in}
use Rattle.svc_base.proofs.RangeLemmas.{found-in, absent-in}
use Rattle.svc_base.proofs.number_ranges.NumberRanges.has.Goals as goal

pub returns-in-Some : goal.returns-in-Some
returns-in-Some c =
    found-in c.args.number (list_of c.self.inside.ranges) c.in-Some.range.now c.self.invariant.apart c.in-Some.ensures.found
    ∙ ap (λ (x : List ℕ × ℕ). is_in c.args.number (list_of x)) c.self.view_is

pub returns-in-None : goal.returns-in-None
returns-in-None c =
    absent-in c.args.number (list_of c.self.inside.ranges) c.in-None.ensures.absent
    ∙ ap (λ (x : List ℕ × ℕ). is_in c.args.number (list_of x)) c.self.view_is
