use Rattle.std.proofs.Common.{arith}
use Rattle.std.proofs.lemmas.List.Sorted.{IsNonDecreasingBy-from_sort}
use Rattle.svc_socket.specs.Peers.{ip6_number}
use Rattle.svc_socket.specs.declared.peer.PeerAddr.TheVariants.{V4, V6}
use Rattle.svc_text.proofs.BlockedLemmas.{reordered}
use Rattle.svc_text.proofs.blocked.in_order.Goals as goal

pub returns : goal.returns
returns c =
    let short = c.sort_unstable in
    let long = c.sort_unstable-2 in
    let before = c.loop-ip.invariant in
    record {
      rising4 = IsNonDecreasingBy-from_sort (λ n. n) short.new.self.items short.ensures.sorted;
      rising6 = IsNonDecreasingBy-from_sort (λ n. n) long.new.self.items long.ensures.sorted;
      numbers4 = λ n port. reordered (V4 n port) n c.args.blocked.now c.loop-ip.ip-index c.loop-ip.v4.items short.new.self.items
          (omega arith) short.ensures.permutation (before.numbers4 n port);
      numbers6 = λ high low port.
          let n = ip6_number high low in
          reordered (V6 high low port) n c.args.blocked.now c.loop-ip.ip-index c.loop-ip.v6.items long.new.self.items (omega arith) long.ensures.permutation
          (before.numbers6 high low port);
    }
