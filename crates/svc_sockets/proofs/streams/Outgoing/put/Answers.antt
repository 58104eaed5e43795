use Rattle.std.proofs.Common.{rules, ◌≡◌, ◌≤◌, ◌++◌, List, ℕ, length, take, slice_range, ap, sym, ◌∙◌, arith, ◌+◌, ◌-◌}
use Rattle.std.proofs.lemmas.List.{length-take-le}
use borrow.Rule.Slice.PartMut.{put_mid}
use Rattle.svc_sockets.proofs.PendingLemmas.{filled}
use Rattle.svc_sockets.proofs.streams.Outgoing.put.Goals as goal

pub returns-clause-pending : goal.returns-clause-pending
returns-clause-pending c =
    let o = c.args.self.now in
    let n : ℕ = c.min-count.result in
    let piece : List ℕ = c.copy_from_slice.new.self in
    let same : piece ≡ take n c.args.piece.now = c.copy_from_slice.ensures.after in
    let few : n ≤ length c.args.piece.now = omega (arith, c.min-count.ensures) in
    let count : length piece ≡ n = ap length same ∙ length-take-le n c.args.piece.now few in
    ap (λ (k : ℕ). slice_range (put_mid o.to (o.to + n - o.to) o.bytes piece) o.from (o.to + k)) (sym count)
    ∙ (filled o.bytes piece o.from o.to (o.to + n - o.to) o.ordered (search rules) ∙ ap (λ (l : List ℕ). slice_range o.bytes o.from o.to ++ l) same)
