use Rattle.std.proofs.Common.{ℕ, List, ap, ◌∙◌, ◌≡◌, sym, subst, false}
use Rattle.svc_base.specs.Items.{list_of}
use Rattle.svc_base.specs.NumberSets.{is_in, put_number}
use Rattle.svc_base.specs.NumberRanges.{range, are_apart, AreRanges, attached, numbers_of}
use Rattle.svc_base.proofs.RangeLemmas.{next-apart, with_number, with-numbers, with-ranges}
use Rattle.svc_base.proofs.number_ranges.NumberRanges.add.Goals as goal

pub attach-requires-clause-apart : goal.attach-requires-clause-apart
attach-requires-clause-apart c =
    ap are_apart c.take_next-last.ensures.rest ∙ next-apart c.args.number (list_of c.self.inside.ranges) c.self.invariant.apart

pub invariant_of-self : goal.invariant_of-self
invariant_of-self c =
    let old = list_of c.self.inside.ranges in
    let new : is_in c.args.number (numbers_of old) ≡ false = ap (λ (x : List ℕ × ℕ). is_in c.args.number (list_of x)) c.self.view_is ∙ c.requires.new in
    let after : list_of c.attach.new.ranges ≡ with_number c.args.number old =
    c.attach.ensures.ranges ∙ ap (λ (n : ℕ). attached (range c.args.number n) (list_of c.take_next-last.new.ranges)) c.take_next-last.ensures.last
    ∙ ap (attached (range c.args.number _)) c.take_next-last.ensures.rest in
    subst AreRanges (sym after) (with-ranges c.args.number old c.ranges.number.fits c.self.invariant new)

pub returns-clause-numbers : goal.returns-clause-numbers
returns-clause-numbers c =
    let old = list_of c.self.inside.ranges in
    let new : is_in c.args.number (numbers_of old) ≡ false = ap (λ (x : List ℕ × ℕ). is_in c.args.number (list_of x)) c.self.view_is ∙ c.requires.new in
    let after : list_of c.attach.new.ranges ≡ with_number c.args.number old =
    c.attach.ensures.ranges ∙ ap (λ (n : ℕ). attached (range c.args.number n) (list_of c.take_next-last.new.ranges)) c.take_next-last.ensures.last
    ∙ ap (attached (range c.args.number _)) c.take_next-last.ensures.rest in
    ap numbers_of after ∙ with-numbers c.args.number old c.self.invariant new
    ∙ ap (λ (x : List ℕ × ℕ). put_number c.args.number (list_of x)) c.self.view_is
