-- The records that the part on connections stands for.
use Rattle.std.specs.Prelude.{ℕ, Bool, true, false, ◌==◌, ◌≡◌, not, ◌&&◌, ◌||◌, List, [], ◌∷◌, Option, Some, None, IfSome, map, nat_lt, if◌then◌else◌}
use Rattle.std.specs.List.{list_all}
use Rattle.svc_record.specs.declared.plan.Plan.{Plan}
use Rattle.svc_record.specs.Record.{Record, has, is_runtimes, EachEntry}
use Rattle.svc_record.specs.Asks.{is_settings_open, is_handshake_open, is_set, is_shaken}
use Rattle.svc_record.specs.Connections.{arrived_numbers, is_arrival, is_serve, is_cut, is_finished, goes_on, live_connections, ConnRight, connection_known}
use Rattle.svc_base.specs.NumberSets.{ascending, is_in, distinct}
use Rattle.svc_connections.specs.declared.stage.Connection.{Connection}
use Rattle.svc_connections.specs.declared.stage.Stage.{Stage}
use Rattle.svc_connections.specs.declared.stage.Stage.TheVariants.{Setting, Shaking, Serving}
use Rattle.svc_connections.specs.ConnectionsData.{ConnectionsData}

-- each number is below those behind it
abbrev pub climbs : List ℕ → Bool
climbs [] = true
climbs (n ∷ more) = list_all (λ m. nat_lt n m) more && climbs more

-- the numbers of connections
abbrev pub numbers : List Connection → List ℕ
numbers live = map (λ (x : Connection). x.number) live

-- how far the connection has come, if it is live
abbrev pub stage_of : List Connection → ℕ → Option Stage
stage_of [] c = None
stage_of (x ∷ more) c = if x.number == c then Some x.stage else stage_of more c

-- the live connections are in ascending number, and the latest of them, if it is known, has come so far
pub record IsLive (live : List Connection) (latest : Option Connection) : Type 0 where
  pub rise : climbs (numbers live) ≡ true
  pub latest_is : IfSome latest (λ x. stage_of live x.number ≡ Some x.stage)

-- each live connection arrived
abbrev pub all_came : List ℕ → List Connection → Bool
all_came came live = list_all (λ n. is_in n came) (numbers live)

-- its settings are being applied
abbrev pub is_setting : Option Stage → Bool
is_setting (Some Setting) = true
is_setting _ = false

-- its handshake is polled
abbrev pub is_shaking : Option Stage → Bool
is_shaking (Some Shaking) = true
is_shaking _ = false

-- the application has it
abbrev pub is_serving : Option Stage → Bool
is_serving (Some Serving) = true
is_serving _ = false

-- it is live
abbrev pub is_live : Option Stage → Bool
is_live (Some stage) = true
is_live None = false

-- no connection with this number arrived
abbrev pub is_new : ConnectionsData → ℕ → Bool
is_new d c = not (is_in c d.came)

-- the record says of the connection that it has come so far; what it didn't come to wasn't answered, and nothing of one that didn't arrive
pub record NumberStands (q : Record) (c : ℕ) (stage : Option Stage) : Type 0 where
  pub live_is : (has (is_arrival c) q && goes_on q c) ≡ is_live stage
  pub setting_is : is_settings_open q c ≡ is_setting stage
  pub shaking_is : is_handshake_open q c ≡ is_shaking stage
  pub serving_is : (has (is_serve c) q && goes_on q c) ≡ is_serving stage
  pub unset : (is_setting stage || not (has (is_arrival c) q)) ≡ true → has (is_set c) q ≡ false
  pub unshaken : ((is_setting stage || is_shaking stage) || not (has (is_arrival c) q)) ≡ true → has (is_shaken c) q ≡ false
  pub unfinished : has (is_arrival c) q ≡ false → has (is_finished c) q ≡ false
  pub uncut : has (is_cut c) q ≡ false

-- the part says what the record of a run that goes on says, and each connection is right in it
pub record ConnectionsStand (p : Plan) (d : ConnectionsData) (q : Record) : Type 0 where
  pub came_is : d.came ≡ ascending (arrived_numbers q)
  pub came_once : distinct (arrived_numbers q) ≡ true
  pub live_is : numbers d.live ≡ ascending (live_connections q)
  pub stages_are : (c : ℕ) → NumberStands q c (stage_of d.live c)
  pub right : ConnRight p q
  pub known : EachEntry (λ e before. connection_known p e before ≡ true) q
  pub goes_on : has is_runtimes q ≡ false
