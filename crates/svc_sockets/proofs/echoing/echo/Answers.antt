use Rattle.std.proofs.Common.{arith, ◌∙◌, ◌≡◌, ◌<◌, length, take}
use Rattle.std.proofs.lemmas.List.{length-take-le}
use Rattle.svc_sockets.proofs.EchoLemmas.{echoed_more, echoed_front}
use Rattle.svc_sockets.proofs.echoing.echo.Goals as goal

pub returns-in-Err : goal.returns-in-Err
returns-in-Err g c =
    echoed_front _ _ _ _ _ _ _ _ _ _ c.loop-turn._turn _ (take c.in-Got.count c.read.new.buffer) c.in-Err.ensures.front.0 c.loop-turn.invariant.0
    c.in-Err.ensures.front.1 c.in-Got.ensures.bytes c.in-Err.ensures.front.2 (rw c.loop-turn.invariant.2 at c.in-Err.ensures.fault)

pub loop-turn-preserved : goal.loop-turn-preserved
loop-turn-preserved g c =
    let whole : length (take c.in-Got.count c.read.new.buffer) ≡ c.in-Got.count =
    length-take-le c.in-Got.count c.read.new.buffer (omega (arith, c.in-Got.ensures.fits)) in
    let some : 0 < length (take c.in-Got.count c.read.new.buffer) = omega (arith, c.in-Got.ensures.fits) in (
      echoed_more _ _ _ _ _ _ c.loop-turn._turn
          (take c.in-Got.count c.read.new.buffer) c.loop-turn.invariant.0 some c.in-Got.ensures.bytes c.in-Ok.ensures.whole,
      c.in-Got.ensures.cause ∙ c.loop-turn.invariant.1,
      c.in-Ok.ensures.steady ∙ c.loop-turn.invariant.2,
    )
