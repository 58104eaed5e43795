use Rattle.std.proofs.Common.{◌∙◌, ap, sym}
use Rattle.svc_streams.specs.Handshakes.{shaken, passed_of}
use Rattle.svc_streams.proofs.listeners.handshake.UninitializedStream.poll_backend.Goals as goal

pub returns-clause-part : goal.returns-clause-part
returns-clause-part g c =
    let said = c.poll_handshake-said.result in
    let passed = c.passed-passed.ensures ∙ ap (λ state. passed_of state c.args.moment) (sym c.self.view_is) in
    rw (← c.self.view_is) (
      said,
      (
        c.poll_handshake-said.new.stream,
        (
          c.poll_handshake-said.ensures,
          c.keep.ensures.same ∙ c.shaken.ensures ∙ ap (λ p. shaken p said) passed,
          rw c.keep.ensures.same c.keep.ensures.kept,
        ),
      ),
    )
