-- What a script's server is run by, where its configuration is accepted or refused.
use Rattle.std.specs.Prelude.{◌≡◌, Option, Some, None, Result, Ok, Err}
use Rattle.svc_conf.specs.declared.server.configuration.key.Key.{Key}

-- a configuration that was judged so is refused for this key, or for none
abbrev pub IsRefused : Option Key → Result (Unit {0}) Key → Type 0
IsRefused (Some key) judged = judged ≡ Err key
IsRefused None judged = judged ≡ Ok tt
