use Rattle.svc_socket.proofs.PeerBack.{peer_back}
use Rattle.svc_socket.proofs.laws.peers_read_back.Goals as goal

pub returns : goal.returns
returns c = peer_back
