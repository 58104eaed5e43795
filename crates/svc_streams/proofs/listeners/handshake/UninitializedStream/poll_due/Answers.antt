use Rattle.std.proofs.Common.{refl}
use Rattle.svc_streams.proofs.listeners.handshake.UninitializedStream.poll_due.Goals as goal

pub returns-clause-part : goal.returns-clause-part
returns-clause-part g c =
    rw (← c.self.view_is) (
      c.poll_callback-said.result,
      (
        c.poll_callback-said.new.stream,
        (
          rw c.due-callback.ensures at c.poll_callback-said.ensures.polled,
          c.stopped-early.ensures,
          rw (c.is_done-self-inside.ensures, c.unwrap_or-self-inside.ensures) refl,
        ),
      ),
    )
