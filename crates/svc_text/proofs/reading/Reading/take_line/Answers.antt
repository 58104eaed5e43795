use Rattle.std.proofs.Common.{◌≡◌, Bool, false, ap, sym, subst, ◌∙◌}
use Rattle.svc_base.specs.Words.{words}
use Rattle.svc_text.specs.Script.{is_skipped}
use Rattle.std.proofs.lemmas.Bool.{ne_eqb}
use Rattle.svc_text.specs.Outcome.{Tests}
use Rattle.svc_text.proofs.PlaceLemmas.{blank_skipped, fits_not_text, fits_header, fits_conf, fits_skipped, fits_item, on_ok, on_ok_said, after_header, after_conf, after_skipped, after_item}
use Rattle.svc_text.proofs.reading.Reading.take_line.Goals as goal

pub returns-in-Some-clause-test : goal.returns-in-Some-clause-test
returns-in-Some-clause-test c =
    subst (λ (b : Bool). Tests b c.begin.result) (fits_header _ _ _ c.args.line.now c.in-Some.part (cc) (cc)) c.begin.ensures.test

pub returns-in-Some-clause-after : goal.returns-in-Some-clause-after
returns-in-Some-clause-after c =
    on_ok _ c.begin.result c.begin.ensures.test c.begin.ensures.ok
    (λ t e. after_header c.args.self.now c.begin.new.self c.args.line.now c.in-Some.part (sym c.in-Some.ensures) t e)

pub returns-in_default-split_word-clause-test : goal.returns-in_default-split_word-clause-test
returns-in_default-split_word-clause-test c = fits_skipped _ _ _ c.args.line.now (cc) (cc) (blank_skipped _ c.in_default-split_word.ensures.first)

pub returns-in_default-split_word-clause-after : goal.returns-in_default-split_word-clause-after
returns-in_default-split_word-clause-after c = after_skipped c.args.self.now c.args.line.now (cc) (blank_skipped _ c.in_default-split_word.ensures.first)

pub returns-then-is_comment-clause-test : goal.returns-then-is_comment-clause-test
returns-then-is_comment-clause-test c =
    fits_skipped _ _ _ c.args.line.now (cc) (cc)
    (ap is_skipped c.in-Some-split_word.ensures.first ∙ sym (c.is_comment.ensures (words c.in-Some-split_word.rest.now)) ∙ c.if-is_comment.true)

pub returns-then-is_comment-clause-after : goal.returns-then-is_comment-clause-after
returns-then-is_comment-clause-after c =
    after_skipped c.args.self.now c.args.line.now (cc)
    (ap is_skipped c.in-Some-split_word.ensures.first ∙ sym (c.is_comment.ensures (words c.in-Some-split_word.rest.now)) ∙ c.if-is_comment.true)

pub returns-then-not-is_text_line-clause-test : goal.returns-then-not-is_text_line-clause-test
returns-then-not-is_text_line-clause-test c = fits_not_text _ _ _ c.args.line.now (cc)

pub returns-then-number-eq1-clause-test : goal.returns-then-number-eq1-clause-test
returns-then-number-eq1-clause-test c = fits_conf _ _ _ c.args.line.now (cc) (cc) (cc)

pub returns-then-number-eq1-clause-after : goal.returns-then-number-eq1-clause-after
returns-then-number-eq1-clause-after c = after_conf c.args.self.now c.args.line.now (cc) (cc)

pub returns-clause-test : goal.returns-clause-test
returns-clause-test c =
    let filled : is_skipped (words c.args.line.now) ≡ false =
    ap is_skipped c.in-Some-split_word.ensures.first ∙ sym (c.is_comment.ensures (words c.in-Some-split_word.rest.now)) ∙ c.if-is_comment.false in
    subst (λ (b : Bool). Tests b c.take_item.result)
    (fits_item _ _ _ c.args.line.now (cc) (cc) (ne_eqb _ 1 (λ e. c.if-number-eq1.false (c.number.ensures ∙ e))) filled) c.take_item.ensures.test

pub returns-clause-after : goal.returns-clause-after
returns-clause-after c =
    on_ok_said c.take_item.result c.take_item.ensures.said (λ said. after_item c.args.self.now c.take_item.new.self c.args.line.now (cc) said)
