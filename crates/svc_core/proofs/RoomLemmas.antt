-- The room for a step is enough for a close of all.
use Rattle.std.proofs.Common.{ℕ, Bool, true, false, not, List, [], ◌∷◌, ◌==◌, ◌+◌, ◌≤◌, ◌≡◌, nat_lt, length, map, arith, if◌then◌else◌}
use Rattle.std.proofs.lemmas.List.{length-map}
use Rattle.svc_endpoints.specs.declared.table.Open.{Open}
use Rattle.svc_socket.specs.declared.peer.Peer.{Peer}
use Rattle.svc_connections.specs.declared.stage.Connection.{Connection}
use Rattle.svc_connections.specs.declared.stage.Stage.{Stage}
use Rattle.svc_connections.specs.declared.stage.Stage.TheVariants.{Setting}
use Rattle.svc_connections.specs.ConnectionsData.{ConnectionsData}
use Rattle.svc_connections.specs.ConnectionsEffects.{put_connection, is_refused, arrived, moved, without, gone_on, finished}
use Rattle.svc_core.specs.CoreData.{CoreData, is_served}
use Rattle.svc_core.specs.Rooms.{close_room, tell_room, open_count, most_open}
use Rattle.svc_core.proofs.ConnectionLemmas.{with_connections}

few_open : (over : Bool) (table : List Open) → length (if over then [] else map (λ (o : Open). o.fd) table) ≤ length table
few_open true table = omega arith
few_open false table = let same = length-map table (λ (o : Open). o.fd) in omega (arith, same)

few_live : (over : Bool) (live : List Connection) → length (if over then [] else live) ≤ length live
few_live true live = omega arith
few_live false live = omega arith

-- no more are open than there are in the table and live
pub few-open : (core : CoreData) → open_count core ≤ most_open core
few-open core =
    let table = few_open (is_served core.end) core.endpoints.table in
    let live = few_live (is_served core.end) core.connections.live in
    omega (arith, table, live)

-- of connections there is one more at most
put-length : (x : Connection) (live : List Connection) → length (put_connection x live) ≤ length live + 1
put-length x [] = omega arith
put-length x (y ∷ more) = by (nat_lt x.number y.number) (y.number == x.number) (put-length x more)
  where
    by : (a b : Bool) → length (put_connection x more) ≤ length more + 1
        → length (if a then x ∷ y ∷ more else (if b then y ∷ more else y ∷ put_connection x more)) ≤ length (y ∷ more) + 1
    by true b h = omega arith
    by false true h = omega arith
    by false false h = omega (arith, h)

pub arrived-length : (c : ℕ) (peer : Peer) (said : Bool) (d new : ConnectionsData) → new ≡ arrived c peer said d → length new.live ≤ length d.live + 1
arrived-length c peer said d new after = rw after (by (is_refused peer said))
  where
    by : (refused : Bool) → length (if refused then d.live else put_connection (record { number = c; stage = Setting }) d.live) ≤ length d.live + 1
    by true = omega arith
    by false = put-length (record { number = c; stage = Setting }) d.live

without-length : (c : ℕ) (live : List Connection) → length (without c live) ≤ length live
without-length c [] = omega arith
without-length c (x ∷ live) = by (x.number == c) (without-length c live)
  where
    by : (gone : Bool) → length (without c live) ≤ length live → length (if not gone then x ∷ without c live else without c live) ≤ length (x ∷ live)
    by true h = omega (arith, h)
    by false h = omega (arith, h)

pub gone-length : (c : ℕ) (ok : Bool) (stage : Stage) (d new : ConnectionsData) → new ≡ gone_on c ok stage d → length new.live ≤ length d.live + 1
gone-length c true stage d new after = rw after (let same = length-map d.live (moved c stage) in omega (arith, same))
gone-length c false stage d new after = rw after (let less = without-length c d.live in omega (arith, less))

pub finished-length : (c : ℕ) (d new : ConnectionsData) → new ≡ finished c d → length new.live ≤ length d.live + 1
finished-length c d new after = rw after (let less = without-length c d.live in omega (arith, less))

-- a step that deals with a connection leaves room for a close of all
pub dealt-room : (core : CoreData) (cn : ConnectionsData) → length cn.live ≤ length core.connections.live + 1
    → close_room (with_connections cn core) + 2 ≤ tell_room core
dealt-room core cn few =
    let table = few_open (is_served core.end) core.endpoints.table in
    let live = few_live (is_served core.end) cn.live in
    omega (arith, few, table, live)
