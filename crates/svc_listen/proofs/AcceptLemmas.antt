-- Why there is no connection.
use Rattle.std.proofs.Common.{◌≡◌, ℕ, Bool, true, false, List, length, Option, Some, None, refl, ap, sym, subst}
use Rattle.svc_base.specs.Streams.{Rose}
use Rattle.svc_listen.specs.AcceptingData.{AcceptingData}
use Rattle.svc_listen.specs.Accepts.{Verdict, Judges, Accepts, none_yet, failed, refused, unset, taken, AcceptCause, HasGiven}
use Rattle.svc_socket.specs.declared.peer.Peer.{Peer}
use Rattle.svc_socket.specs.declared.peer.Peer.TheVariants as peers
use Rattle.svc_listen.specs.declared.listeners.l4.ServerAddress.{ServerAddress}
use Rattle.svc_listen.specs.declared.listeners.l4.arrivals.AcceptAnswer.{AcceptAnswer}
use Rattle.svc_listen.specs.declared.listeners.l4.arrivals.Given.{Given}

rose-between : (a b c d : ℕ) → b ≡ a → Rose b c → d ≡ c → Rose a d
rose-between a b c d e p f = subst (λ x. Rose a x) (sym f) (subst (λ x. Rose x c) e p)

pub accepts-cause : {A F : Type 0} (seen : A → AcceptingData) (verdict : Verdict F) (address : ServerAddress) (filter : Option ℕ) (with : Given) (a b : A)
    (old new : List F) (answer : AcceptAnswer)
    → Accepts seen verdict address filter with a b old new answer → AcceptCause answer (seen a) (seen b)
accepts-cause seen verdict address filter with a b old new answer (none_yet p e) = p.waits
accepts-cause seen verdict address filter with a b old new answer (failed n p e) = p.faults
accepts-cause seen verdict address filter with a b old new answer (refused c peer came p j r) = tt
accepts-cause seen verdict address filter with a b old new answer (unset c peer came tried p j s r) =
    rose-between (seen a).faults (seen came).faults (seen tried).faults (seen b).faults p.faults s.faults r.faults
accepts-cause seen verdict address filter with a b old new answer (taken c peer came p j s) = tt

judges-count : {F : Type 0} (verdict : Verdict F) (filter : Option ℕ) (peer : Peer) (old new : List F) (said : Bool) → Judges verdict filter peer old new said
    → length new ≡ length old
judges-count verdict None peer old new said p = ap length p.same
judges-count verdict (Some number) peers.Unknown old new said p = ap length p.same
judges-count verdict (Some number) peers.Unix old new said p = p.count
judges-count verdict (Some number) (peers.Inet addr) old new said p = p.count

-- the filters stay as many
pub accepts-count : {A F : Type 0} (seen : A → AcceptingData) (verdict : Verdict F) (address : ServerAddress) (filter : Option ℕ) (with : Given) (a b : A)
    (old new : List F) (answer : AcceptAnswer)
    → Accepts seen verdict address filter with a b old new answer → length new ≡ length old
accepts-count seen verdict address filter with a b old new answer (none_yet p e) = ap length e
accepts-count seen verdict address filter with a b old new answer (failed n p e) = ap length e
accepts-count seen verdict address filter with a b old new answer (refused c peer came p j r) = judges-count verdict filter peer old new false j
accepts-count seen verdict address filter with a b old new answer (unset c peer came tried p j s r) = judges-count verdict filter peer old new true j
accepts-count seen verdict address filter with a b old new answer (taken c peer came p j s) = judges-count verdict filter peer old new true j

pub accepts-given : {A F : Type 0} (seen : A → AcceptingData) (verdict : Verdict F) (address : ServerAddress) (filter : Option ℕ) (with : Given) (a b : A)
    (old new : List F) (answer : AcceptAnswer)
    → Accepts seen verdict address filter with a b old new answer → HasGiven with answer
accepts-given seen verdict address filter with a b old new answer (none_yet p e) = tt
accepts-given seen verdict address filter with a b old new answer (failed n p e) = tt
accepts-given seen verdict address filter with a b old new answer (refused c peer came p j r) = tt
accepts-given seen verdict address filter with a b old new answer (unset c peer came tried p j s r) = tt
accepts-given seen verdict address filter with a b old new answer (taken c peer came p j s) =
    record { tls = refl; buffer = refl; callback = refl; answer = refl }
