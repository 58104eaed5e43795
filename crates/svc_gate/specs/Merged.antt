-- Ranges, from segments.
use Rattle.std.specs.Prelude.{Bool, not, if◌then◌else◌, List, [], ◌∷◌, unwrap_or}
use Rattle.svc_gate.specs.declared.counted.GateRange.{GateRange}
use Rattle.svc_gate.specs.declared.segments.Segment.{Segment}

-- both say yes, or both say no
abbrev pub is_same : Bool → Bool → Bool
is_same a b = if a then b else not b

-- a range from the beginning of each segment on where something else is said than before it
abbrev pub merged : Bool → Bool → List Segment → List GateRange
merged default before [] = []
merged default before (segment ∷ segments) =
    if is_same (unwrap_or segment.allow default) before then merged default before segments
    else record { from = segment.from; allow = unwrap_or segment.allow default } ∷ merged default (unwrap_or segment.allow default) segments
