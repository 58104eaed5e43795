-- What stays as it was.
use Rattle.std.proofs.Common.{◌≡◌, refl, subst}
use Rattle.svc_sockets.specs.SocketsData.{SocketsData}

-- the same sockets are the same but for the next listener
pub same_but_next : (now before : SocketsData) → now ≡ before → now ≡ record before { next_listener = now.next_listener }
same_but_next now before same = subst (λ (then : SocketsData). now ≡ record then { next_listener = now.next_listener }) same refl
