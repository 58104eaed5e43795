use Rattle.std.proofs.Common.{◌≡◌, ◌+◌, ap, ◌∙◌, arith}
use Rattle.svc_conf.specs.declared.server.configuration.place.Place.{Place}
use Rattle.svc_conf.proofs.ConfigurationLemmas.{reads_none, reads_more, refuses, error_answers, passed-behind}
use Rattle.svc_conf.proofs.server.configuration.ServerConf.parse.Goals as goal

pub loop-line-init : goal.loop-line-init
loop-line-init c = (
  rw (c.as_bytes-rest.ensures.value, c.new-place.ensures, c.in_ok-conf.ensures) (reads_none c.args.text.now),
  rw
      (c.as_bytes-rest.ensures.value, c.new-place.ensures) (omega arith),
)

pub returns-in-Err : goal.returns-in-Err
returns-in-Err c =
    error_answers c.in-Err.error _ _
    (λ f h. refuses c.args.text.now c.loop-line.rest.now c.in-Some.line.now c.in-Some.after.now c.loop-line.place c.loop-line.conf f c.loop-line.invariant.0
    c.in-Some.ensures.first h)
    c.in-Err.ensures.said

pub loop-line-preserved : goal.loop-line-preserved
loop-line-preserved c =
    let one : c.take_line.new.place.passed ≡ c.loop-line.place.passed + 1 = ap (λ (p : Place). p.passed) c.in-Ok.ensures.place ∙ passed-behind _ _ in (
      reads_more c.args.text.now c.loop-line.rest.now c.in-Some.line.now c.in-Some.after.now c.loop-line.place c.take_line.new.place c.loop-line.conf
          c.take_line.new.self
          c.loop-line.invariant.0 c.in-Some.ensures.first c.in-Ok.ensures.said c.in-Ok.ensures.place,
      omega (arith, c.in-Some.ensures.shorter, c.loop-line.invariant.1),
    )
