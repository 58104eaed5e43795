-- What contracts see of a dialer.
use Rattle.std.specs.Prelude.{◌≡◌, ℕ, List, [], ◌∷◌, Option}
use Rattle.svc_base.specs.Streams.{Rose}
use Rattle.svc_base.specs.Calls.{Adds, Stays}
use Rattle.svc_socket.specs.declared.connectors.dialer.DialAnswer.{DialAnswer}
use Rattle.svc_socket.specs.declared.connectors.dialer.DialAnswer.TheVariants.{Connected, Failed}
use Rattle.svc_socket.specs.declared.connectors.dialer.DialCall.{DialCall}

-- the dials that it was asked, the oldest first, where it tells them; for how many more dials it is sure to tell them; how often
-- one failed
pub record DialerData : Type 0 where
  pub called : Option (List DialCall)
  pub room : ℕ
  pub faults : ℕ

-- the count of faults rises at each answer but Connected, and stays where it was at that
abbrev pub DialFaults : DialAnswer → ℕ → ℕ → Type 0
DialFaults (Connected local) before now = now ≡ before
DialFaults (Failed fault local) before now = Rose before now

-- it was asked this dial; what was told stays told as long as there is room
pub record IsDialed (before now : DialerData) (call : DialCall) : Type 0 where
  pub called : Adds before.called now.called (call ∷ [])
  pub stays : Stays before.called now.called before.room now.room
  pub faults : DialFaults call.answer before.faults now.faults
