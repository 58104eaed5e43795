-- The items of a script, packed, in blocks.
use Rattle.std.specs.Prelude.{List, ◌++◌, map, reverse, Vec}
use Rattle.svc_base.specs.Blocks.{joined}
use Rattle.svc_socket.specs.declared.peer.Peer.TheVariants as peers
use Rattle.svc_socket.specs.declared.peer.PeerAddr.TheVariants.{V4}
use Rattle.svc_record.specs.declared.event.Event.TheVariants as events
use Rattle.svc_record.specs.declared.item.Item.{Item}
use Rattle.svc_record.specs.declared.item.Item.TheVariants as items
use Rattle.svc_text.specs.declared.packed_item.PackedItem.{PackedItem}
use Rattle.svc_text.specs.declared.packed_item.PackedItem.TheVariants as packed

-- the item that was packed
abbrev pub unpacked : PackedItem → Item
unpacked packed.Fault = items.Fault
unpacked (packed.Moment n) = items.Event (events.Moment n)
unpacked (packed.Ready s) = items.Event (events.Ready s)
unpacked (packed.Ended s) = items.Event (events.Ended s)
unpacked (packed.Bound s i n) = items.Event (events.Bound s i n)
unpacked (packed.InUse s i) = items.Event (events.InUse s i)
unpacked (packed.BindFailed s i) = items.Event (events.BindFailed s i)
unpacked (packed.Adopted s i) = items.Event (events.Adopted s i)
unpacked (packed.AdoptFailed s i) = items.Event (events.AdoptFailed s i)
unpacked packed.NoSenderYet = items.Event events.NoSenderYet
unpacked packed.ReceiveFailed = items.Event events.ReceiveFailed
unpacked packed.Connected = items.Event events.Connected
unpacked packed.NotThere = items.Event events.NotThere
unpacked packed.StillConnecting = items.Event events.StillConnecting
unpacked packed.ConnectFailed = items.Event events.ConnectFailed
unpacked packed.Sent = items.Event events.Sent
unpacked packed.SendBusy = items.Event events.SendBusy
unpacked packed.SendFailed = items.Event events.SendFailed
unpacked (packed.Arrived s i c) = items.Event (events.Arrived s i c peers.Unknown)
unpacked (packed.ArrivedUnix s i c) = items.Event (events.Arrived s i c peers.Unix)
unpacked (packed.ArrivedV4 s i c ip port) = items.Event (events.Arrived s i c (peers.Inet (V4 ip port)))
unpacked (packed.AcceptFailed s i n) = items.Event (events.AcceptFailed s i n)
unpacked (packed.Set c ok) = items.Event (events.Set c ok)
unpacked (packed.Shaken c ok) = items.Event (events.Shaken c ok)
unpacked (packed.Finished c) = items.Event (events.Finished c)
unpacked (packed.LoopEnded s i n) = items.Event (events.LoopEnded s i n)
unpacked (packed.Signal kind) = items.Event (events.Signal kind)
unpacked (packed.Side side) = items.Event (events.Side side)
unpacked packed.ChildReady = items.Event events.ChildReady
unpacked packed.ChildGone = items.Event events.ChildGone
unpacked packed.DropFailed = items.Event events.DropFailed
unpacked (packed.Large event) = items.Event event.value

-- the items that are left: those of a block whose last one comes first, those of the blocks behind it, and those behind these
abbrev pub left_in : {Z : Type 0} → List PackedItem → List (Vec PackedItem Z) → List PackedItem → List Item
left_in front blocks last = map unpacked (reverse front ++ (joined blocks ++ last))
