-- What rules say of an address.
use Rattle.std.specs.Prelude.{ℕ, ◌<◌, ◌^◌, Bool, true, false, not, ◌&&◌, nat_le, if◌then◌else◌, List, [], ◌∷◌, Option, Some, None, unwrap_or}
use Rattle.svc_socket.specs.declared.reading.IpNumber.{IpNumber}
use Rattle.svc_socket.specs.declared.reading.IpNumber.TheVariants.{V4, V6}
use Rattle.svc_gate.specs.declared.rules.GateRule.{GateRule}
use Rattle.svc_gate.specs.declared.rules.GateRules.{GateRules}

-- the rule is one of the family: of that with 128 bits, or of that with 32
abbrev pub is_of : Bool → GateRule → Bool
is_of v6 rule = if v6 then rule.v6 else not rule.v6

-- the rule is one of the family and holds the number
abbrev pub is_held : Bool → ℕ → GateRule → Bool
is_held v6 number rule = is_of v6 rule && nat_le rule.from number && nat_le number rule.to

-- what the first rule, in order, that holds the number says, if one does
abbrev pub first_allow : Bool → ℕ → List GateRule → Option Bool
first_allow v6 number [] = None
first_allow v6 number (rule ∷ rules) = if is_held v6 number rule then Some rule.allow else first_allow v6 number rules

-- what the rules say of an address: the default where no rule holds it
abbrev pub first_of : GateRules → IpNumber → Bool
first_of rules (V4 number) = unwrap_or (first_allow false number rules.rules) rules.default_allow
first_of rules (V6 number) = unwrap_or (first_allow true number rules.rules) rules.default_allow

-- the number is one of its family
abbrev pub IpFits : IpNumber → Type 0
IpFits (V4 number) = number < 2 ^ 32
IpFits (V6 number) = number < 2 ^ 128
