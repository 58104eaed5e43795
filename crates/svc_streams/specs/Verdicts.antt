-- What filters answer.
use Rattle.std.specs.Prelude.{ℕ, Bool, true, List, Option, slice_get, unwrap_or}
use Rattle.std.specs.Option.{option_map}
use Rattle.svc_socket.specs.declared.peer.PeerAddr.{PeerAddr}

-- what the filter with this number answers to a peer after it was asked these, by what each filter answers; yes where none has it
abbrev pub verdict_at : {F : Type 0} → (F → List (Option PeerAddr) → Option PeerAddr → Bool) → List F → ℕ → List (Option PeerAddr) → Option PeerAddr → Bool
verdict_at verdict filters number asked x = unwrap_or (option_map (λ f. verdict f asked x) (slice_get filters number)) true
