-- What is asked of a virtual socket, and what it answers.
use Rattle.std.specs.Prelude.{ℕ, ◌≤◌, Bool, List, [], ◌∷◌}
use Rattle.svc_socket.specs.declared.protocols.l4.virt.IoPoll.{IoPoll}
use Rattle.svc_socket.specs.declared.protocols.l4.virt.IoPoll.TheVariants.{Ready, Pending, Failed}
use Rattle.svc_socket.specs.declared.protocols.l4.virt.VirtualSockOpt.{VirtualSockOpt}

-- a call: a read with the buffer before and after it, a write with its bytes, a flush, a shutdown, an option; each with its answer
pub data SocketCall : Type 0 where
  read : (before after : List ℕ) → (answer : IoPoll) → SocketCall
  write : (bytes : List ℕ) → (answer : IoPoll) → SocketCall
  flush : (answer : IoPoll) → SocketCall
  shutdown : (answer : IoPoll) → SocketCall
  set_option : (option : VirtualSockOpt) → (answer : Bool) → SocketCall

-- the socket was called once, by its meaning: this call may come at first, and what may come after it, may come of the socket that it leaves
pub record IsCalled {S : Type 0} (may : S → List SocketCall → Type 0) (old new : S) (call : SocketCall) : Type 0 where
  pub comes : may old (call ∷ [])
  pub goes_on : (later : List SocketCall) → may new later → may old (call ∷ later)

-- no more bytes were moved than there are
abbrev pub MovedWithin : IoPoll → ℕ → Type 0
MovedWithin (Ready n) count = n ≤ count
MovedWithin Pending count = Unit {0}
MovedWithin Failed count = Unit {0}
