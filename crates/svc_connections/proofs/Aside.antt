-- An entry on one connection says nothing of another.
use Rattle.std.proofs.Common.{ℕ, Bool, true, false, ◌==◌, ◌∷◌, ◌≡◌, refl, Option}
use Rattle.svc_record.specs.declared.plan.Plan.{Plan}
use Rattle.svc_record.specs.declared.entry.Entry.{Entry}
use Rattle.svc_record.specs.declared.entry.Entry.TheVariants.{Got, Told}
use Rattle.svc_record.specs.declared.action.Action.TheVariants.{Judged, Refuse, Settings as TellSettings, Handshake, Serve, Drop, Cut, Phase}
use Rattle.svc_record.specs.declared.action.ExecutionPhase.TheVariants.{ShutdownRuntimes}
use Rattle.svc_record.specs.declared.event.Event.TheVariants.{Arrived, Set, Shaken, Finished}
use Rattle.svc_record.specs.Record.{Record, is_runtimes}
use Rattle.svc_record.specs.Connections.{Arrival, connection_right}
use Rattle.svc_connections.specs.declared.stage.Stage.{Stage}
use Rattle.svc_connections.specs.ConnectionsState.{NumberStands}

-- the entry is on the connection with this number
abbrev pub is_about : ℕ → Entry → Bool
is_about n (Got (Arrived s i c peer)) = c == n
is_about n (Got (Set c ok)) = c == n
is_about n (Got (Shaken c ok)) = c == n
is_about n (Got (Finished c)) = c == n
is_about n (Told (Judged c said)) = c == n
is_about n (Told (Refuse c)) = c == n
is_about n (Told (TellSettings c list)) = c == n
is_about n (Told (Handshake c)) = c == n
is_about n (Told (Serve c)) = c == n
is_about n (Told (Drop c)) = c == n
is_about n (Told (Cut c)) = c == n
is_about n _ = false

pub aside : (q : Record) (n : ℕ) (stage : Option Stage) (e : Entry) → is_about n e ≡ false → NumberStands q n stage → NumberStands (e ∷ q) n stage
aside q n stage (Got (Arrived s i c peer)) h w = record {
  live_is = rw h w.live_is;
  setting_is = w.setting_is;
  shaking_is = w.shaking_is;
  serving_is = w.serving_is;
  unset = rw h w.unset;
  unshaken = rw h w.unshaken;
  unfinished = rw h w.unfinished;
  uncut = w.uncut;
}
aside q n stage (Got (Set c ok)) h w = record {
  live_is = w.live_is;
  setting_is = rw h w.setting_is;
  shaking_is = w.shaking_is;
  serving_is = w.serving_is;
  unset = rw h w.unset;
  unshaken = w.unshaken;
  unfinished = w.unfinished;
  uncut = w.uncut;
}
aside q n stage (Got (Shaken c ok)) h w = record {
  live_is = w.live_is;
  setting_is = w.setting_is;
  shaking_is = rw h w.shaking_is;
  serving_is = w.serving_is;
  unset = w.unset;
  unshaken = rw h w.unshaken;
  unfinished = w.unfinished;
  uncut = w.uncut;
}
aside q n stage (Got (Finished c)) h w = record {
  live_is = rw h w.live_is;
  setting_is = w.setting_is;
  shaking_is = w.shaking_is;
  serving_is = rw h w.serving_is;
  unset = w.unset;
  unshaken = w.unshaken;
  unfinished = rw h w.unfinished;
  uncut = w.uncut;
}
aside q n stage (Told (Refuse c)) h w = record {
  live_is = rw h w.live_is;
  setting_is = w.setting_is;
  shaking_is = w.shaking_is;
  serving_is = rw h w.serving_is;
  unset = w.unset;
  unshaken = w.unshaken;
  unfinished = w.unfinished;
  uncut = w.uncut;
}
aside q n stage (Told (TellSettings c list)) h w = record {
  live_is = w.live_is;
  setting_is = rw h w.setting_is;
  shaking_is = w.shaking_is;
  serving_is = w.serving_is;
  unset = w.unset;
  unshaken = w.unshaken;
  unfinished = w.unfinished;
  uncut = w.uncut;
}
aside q n stage (Told (Handshake c)) h w = record {
  live_is = w.live_is;
  setting_is = w.setting_is;
  shaking_is = rw h w.shaking_is;
  serving_is = w.serving_is;
  unset = w.unset;
  unshaken = w.unshaken;
  unfinished = w.unfinished;
  uncut = w.uncut;
}
aside q n stage (Told (Serve c)) h w = record {
  live_is = w.live_is;
  setting_is = w.setting_is;
  shaking_is = w.shaking_is;
  serving_is = rw h w.serving_is;
  unset = w.unset;
  unshaken = w.unshaken;
  unfinished = w.unfinished;
  uncut = w.uncut;
}
aside q n stage (Told (Drop c)) h w = record {
  live_is = rw h w.live_is;
  setting_is = w.setting_is;
  shaking_is = w.shaking_is;
  serving_is = rw h w.serving_is;
  unset = w.unset;
  unshaken = w.unshaken;
  unfinished = w.unfinished;
  uncut = w.uncut;
}
aside q n stage (Told (Cut c)) h w = record {
  live_is = w.live_is;
  setting_is = w.setting_is;
  shaking_is = w.shaking_is;
  serving_is = w.serving_is;
  unset = w.unset;
  unshaken = w.unshaken;
  unfinished = w.unfinished;
  uncut = rw h w.uncut;
}
aside q n stage _ h w = record {
  live_is = w.live_is;
  setting_is = w.setting_is;
  shaking_is = w.shaking_is;
  serving_is = w.serving_is;
  unset = w.unset;
  unshaken = w.unshaken;
  unfinished = w.unfinished;
  uncut = w.uncut;
}

pub right-aside : (p : Plan) (q : Record) (x : Arrival) (e : Entry) → is_about x.number e ≡ false → is_runtimes e ≡ false
    → connection_right p (e ∷ q) x ≡ connection_right p q x
right-aside p q x (Got (Set c true)) h on = rw h refl
right-aside p q x (Got (Set c false)) h on = rw h refl
right-aside p q x (Got (Shaken c true)) h on = rw h refl
right-aside p q x (Got (Shaken c false)) h on = rw h refl
right-aside p q x (Told (Judged c true)) h on = rw h refl
right-aside p q x (Told (Judged c false)) h on = rw h refl
right-aside p q x (Told (Refuse c)) h on = rw h refl
right-aside p q x (Told (TellSettings c list)) h on = rw h refl
right-aside p q x (Told (Handshake c)) h on = rw h refl
right-aside p q x (Told (Serve c)) h on = rw h refl
right-aside p q x (Told (Drop c)) h on = rw h refl
right-aside p q x (Told (Cut c)) h on = rw h refl
right-aside p q x (Told (Phase ShutdownRuntimes ms)) h on = cc
right-aside p q x _ h on = refl
