use Rattle.svc_socket.proofs.PeerBack.{peer_nonempty, peer_visible}
use Rattle.svc_socket.proofs.laws.peers_are_words.Goals as goal

pub returns-clause-some : goal.returns-clause-some
returns-clause-some c = peer_nonempty

pub returns-clause-visible : goal.returns-clause-visible
returns-clause-visible c = peer_visible
