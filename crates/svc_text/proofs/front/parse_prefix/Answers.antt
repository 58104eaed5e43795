use Rattle.std.proofs.Common.{ap, length, refl, subst, sym, ◌∙◌, arith, ◌≡◌}
use Rattle.std.proofs.lemmas.Str.{IsUtf8-from_is_utf8}
use Rattle.svc_text.specs.Fronts.{IsFront}
use Rattle.svc_text.proofs.ConfTextLemmas.{none_passed, one_line_more}
use Rattle.svc_text.proofs.ScriptLemmas.{none_read, reads_more, lines_none, lines_more}
use Rattle.svc_text.proofs.FrontLemmas.{front_refused, front_whole}
use Rattle.svc_text.proofs.Utf8Lines.{cut_text}
use Rattle.svc_text.proofs.front.parse_prefix.Goals as goal

pub loop-line-init : goal.loop-line-init
loop-line-init c = (
  none_read c.args.bytes.now c.new-reading.result c.new-reading.ensures.part c.new-reading.ensures.services c.new-reading.ensures.eager
      c.new-reading.ensures.items,
  omega arith,
  lines_none _ _ _ (ap length c.new-reading.ensures.services) c.new-lines.ensures.items,
  none_passed c.args.bytes.now,
  λ known. IsUtf8-from_is_utf8 c.args.bytes.now (sym c.is_text-known.ensures ∙ known),
)

pub take_line-requires : goal.take_line-requires
take_line-requires c =
    λ known. (cut_text c.loop-line.rest.now c.in-Some.line.now c.in-Some.after.now
    (c.loop-line.invariant.4 known) c.in-Some.ensures.first c.in-Some.ensures.cut).0

pub returns-in-Err-Refused : goal.returns-in-Err-Refused
returns-in-Err-Refused c =
    subst (IsFront c.args.bytes.now) (sym c.new.ensures)
    (front_refused c.args.bytes.now c.loop-line.rest.now c.in-Some.line.now c.in-Some.after.now c.loop-line.number c.loop-line.reading _ c.loop-line.invariant.0
    c.in-Some.ensures.first
    (rw c.in-Err-Refused.field-0-is at c.in-Err-Refused.ensures.test) c.loop-line.invariant.3 (let short = c.loop-line.invariant.1 in omega arith) refl refl)

pub loop-line-preserved : goal.loop-line-preserved
loop-line-preserved c =
    let read = reads_more c.args.bytes.now c.loop-line.rest.now c.in-Some.line.now c.in-Some.after.now c.loop-line.number c.loop-line.reading
    c.take_line.new.self c.loop-line.invariant.0 c.in-Some.ensures.first c.in-Ok.ensures.test c.in-Ok.ensures.after in
    let count : c.len.result ≡ length c.take_line.new.self.services.items = c.len.ensures ∙ c.take_line.new.self.services.ok.0 in (
      read,
      (let short = c.loop-line.invariant.1 in omega (arith, c.in-Some.ensures.shorter)),
      lines_more c.args.bytes.now c.loop-line.rest.now c.in-Some.after.now c.in-Some.line.now c.loop-line.number c.loop-line.reading c.take_line.new.self
          c.loop-line.lines.items _ c.loop-line.invariant.0 read
          c.in-Ok.ensures.after c.loop-line.invariant.2 (rw count at c.in-Ok-note_line.ensures),
      one_line_more c.args.bytes.now c.loop-line.rest.now c.in-Some.line.now c.in-Some.after.now c.loop-line.number c.loop-line.reading c.take_line.new.self
          c.loop-line.conf _ c.loop-line.invariant.0 c.in-Some.ensures.first c.in-Ok.ensures.test c.in-Ok.ensures.after c.loop-line.invariant.3
          c.in-Some.ensures.cut c.pass.ensures,
      λ known. (cut_text c.loop-line.rest.now c.in-Some.line.now c.in-Some.after.now
          (c.loop-line.invariant.4 known) c.in-Some.ensures.first c.in-Some.ensures.cut).1,
    )

pub returns : goal.returns
returns c =
    subst (IsFront c.args.bytes.now) (sym c.new-2.ensures)
    (front_whole c.args.bytes.now c.loop-line.rest.now c.loop-line.number c.loop-line.reading _ c.loop-line.invariant.0 c.in_default.ensures.first
    c.loop-line.invariant.3 c.loop-line.invariant.2
    (let short = c.loop-line.invariant.1 in omega arith) refl refl refl)
