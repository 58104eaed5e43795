use Rattle.svc_c.proofs.RoomLemmas.{close-fits}
use Rattle.svc_c.proofs.session.close_room.Goals as goal

pub returns : goal.returns
returns c = close-fits c.args.core.now _ _ _ _ _ c.step_room-most.ensures c.brought-more.ensures c.checked_add-room.ensures
