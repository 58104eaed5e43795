use Rattle.std.proofs.Common.{arith}
use Rattle.svc_base.proofs.Pieces.{taken_front}
use Rattle.svc_base.proofs.source.MemorySourceSource.read.Goals as goal

pub returns-clause-bytes : goal.returns-clause-bytes
returns-clause-bytes c =
    taken_front c.args.self.now.at c.min-count.result c.args.self.now.bytes.items c.copy_from_slice.new.self c.args.buffer.now
    (rw c.deref-2.ensures.value at c.copy_from_slice.ensures.after) (omega arith)
