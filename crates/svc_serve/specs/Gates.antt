-- The gate that a file says.
use Rattle.std.specs.Prelude.{ℕ, List}
use Rattle.svc_gate.specs.declared.gate.Gate.{Gate}
use Rattle.svc_gate.specs.declared.rules.GateRules.{GateRules}
use Rattle.svc_gate.specs.Readings.{Said}
use Rattle.svc_gate.specs.Serving.{Implements}

-- the lines say rules, and the gate says of each address what they do
pub record IsGateOf (lines : List (List ℕ)) (gate : Gate) : Type 0 where
  pub rules : GateRules
  pub said : Said lines rules
  pub implements : Implements gate rules
