-- What a record says of its server's two handovers.
use Rattle.svc_record.specs.Record.{Record, has}
use Rattle.svc_record.specs.Boot.{is_open_receiver}
use Rattle.svc_handover.specs.declared.pair.ChannelState.{ChannelState}
use Rattle.svc_handover.specs.Channel.{is_receipt, is_join, is_sent, reached}
use Rattle.svc_supervisor.specs.declared.marks.Marks.{Marks}

-- whether it listens for the message, has received one, was joined by its successor, and has sent its own
abbrev pub marks_of : Record → Marks
marks_of q = record { listens = has is_open_receiver q; taken = has is_receipt q; joined = has is_join q; sent = has is_sent q }

-- how far the handover between two servers with these marks has come
abbrev pub channel_between : Marks → Marks → ChannelState
channel_between old new = reached new.taken old.sent old.joined new.listens
