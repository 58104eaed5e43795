-- The states of the channel between an old and a new server.
use Rattle.svc_sockets.specs.declared.slot.Slot.{Slot}
use Rattle.svc_sockets.specs.declared.slot.Slot.TheVariants.{Missing, Listening, Connected, InFlight, Taken}

-- after the new server began to receive
abbrev pub opened : {T : Type 0} → Slot T → Slot T
opened Missing = Listening
opened Listening = Listening
opened Connected = Connected
opened (InFlight letter) = InFlight letter
opened Taken = Taken

-- after the old server tried to connect
abbrev pub connected : {T : Type 0} → Slot T → Slot T
connected Missing = Missing
connected Listening = Connected
connected Connected = Connected
connected (InFlight letter) = InFlight letter
connected Taken = Taken
