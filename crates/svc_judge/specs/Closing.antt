-- The close of a descriptor that was opened.
use Rattle.std.specs.Prelude.{Bool}
use Rattle.svc_record.specs.declared.plan.Plan.{Plan}
use Rattle.svc_record.specs.Record.{Record}
use Rattle.svc_record.specs.Descriptors.{Descriptor}
use Rattle.svc_record.specs.Closes.{close_right}

-- the descriptor has one close if it is gone, else none
unfoldable pub close_kept : Plan → Record → Descriptor → Bool
close_kept p q d = close_right p q d.number
