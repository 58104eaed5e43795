use Rattle.std.proofs.Common.{◌≡◌, ◌*◌, Some, sym, subst, ap, ◌∙◌, arith, ℕ, ◌+◌, ◌-◌, take, length, get_or}
use Rattle.std.specs.Str.Parse.{AllDigits, digits_value}
use Rattle.std.proofs.Math.Seq.{take-length}
use Rattle.svc_base.proofs.NumberLemmas.{value_small, value_more, value_is}
use Rattle.svc_base.proofs.decimals.short_number.Goals as goal

pub overflow_mul-value : goal.overflow_mul-value
overflow_mul-value c =
    let i = c.loop-digit.invariant in
    omega (arith, i.0, value_small c.args.word.now c.loop-digit.digit-index c.loop-digit-test.true i.2 i.1)

pub overflow_add-value : goal.overflow_add-value
overflow_add-value c =
    let i = c.loop-digit.invariant in
    omega (arith, i.0, value_small c.args.word.now c.loop-digit.digit-index c.loop-digit-test.true i.2 i.1)

pub loop-digit-preserved : goal.loop-digit-preserved
loop-digit-preserved c =
    let i = c.loop-digit.invariant in
    let more = value_more c.args.word.now c.loop-digit.digit-index c.loop-digit-test.true i.1 c.if-not-is_ascii_digit.ensures.bound in
    (ap (λ (n : ℕ). n * 10 + (get_or c.args.word.now c.loop-digit.digit-index 0 - 48)) i.0 ∙ more.0, more.1, i.2)

pub returns : goal.returns
returns c =
    let i = c.loop-digit.invariant in
    let end : c.loop-digit.digit-index ≡ length c.args.word.now = omega (arith, c.loop-digit-test.false, c.loop-digit.auto.digit-index-end) in
    let whole : take c.loop-digit.digit-index c.args.word.now ≡ c.args.word.now = rw end (take-length c.args.word.now) in
    value_is c.args.word.now (subst (AllDigits 10) whole i.1) (c.is_short.ensures.some c.if-not-is_short.false) i.2
    (c.is_short.ensures.plain c.if-not-is_short.false)
    ∙ ap (λ (n : ℕ). Some n) (ap (digits_value 10) (sym whole) ∙ sym i.0)
