use Rattle.std.proofs.Common.{ℕ, ◌<◌, List, length, take, get_or, ap, sym, ◌∙◌}
use Rattle.std.proofs.lemmas.List.{take_more}
use Rattle.svc_sockets.specs.OpenSockets.{open_numbers, without}
use Rattle.svc_sockets.specs.Seen.{seen}
use Rattle.svc_sockets.specs.SocketsData.{SocketsData, without_all}
use Rattle.svc_sockets.proofs.NumberLemmas.{without_all-last}
use Rattle.svc_sockets.proofs.sockets.Sockets.close_all.Goals as goal

pub loop-fd-preserved : goal.loop-fd-preserved
loop-fd-preserved c =
    let at : ℕ = c.loop-fd.fd-index in
    let fds : List ℕ = c.args.fds.now in
    let numbers : List ℕ = open_numbers c.args.self.now.descriptors in
    let inside : at < length fds = c.loop-fd-test.true in
    c.close.ensures
    ∙ ap (λ (before : SocketsData). record before { listeners = without (get_or fds at 0) before.listeners }) c.loop-fd.invariant
    ∙ ap (λ (others : List ℕ). record (seen c.args.self.now) { listeners = others })
    (sym (ap (λ (front : List ℕ). without_all front numbers) (take_more fds at 0 inside) ∙ without_all-last (take at fds) (get_or fds at 0) numbers))
