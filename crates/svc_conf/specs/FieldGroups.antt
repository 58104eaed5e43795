-- Which fields have a number or nothing as their value.
use Rattle.std.specs.Prelude.{Bool, true, false}
use Rattle.svc_conf.specs.declared.server.configuration.field.Field.{Field}
use Rattle.svc_conf.specs.declared.server.configuration.field.Field.TheVariants.{OptionalNumber}

-- the value is a number or unset
abbrev pub is_optional_number : Field → Bool
is_optional_number (OptionalNumber key) = true
is_optional_number _ = false
