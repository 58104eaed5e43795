-- Lines of texts whose parts are a script's.
use Rattle.std.specs.Prelude.{ℕ, ◌+◌, Bool, false, ◌&&◌, if◌then◌else◌, List, Result, Ok, Err}
use Rattle.std.specs.Str.{is_utf8}
use Rattle.svc_conf.specs.declared.server.configuration.ServerConf.{ServerConf}
use Rattle.svc_conf.specs.declared.server.configuration.read_error.ReadError.{ReadError}
use Rattle.svc_conf.specs.ConfigurationText.{configuration}
use Rattle.svc_text.specs.Script.{is_header}

-- how many parts have begun, with this line of a script
abbrev pub part_with : ℕ → List ℕ → ℕ
part_with part line = part + (if is_header line then 1 else 0)

-- the configuration has the flag `daemon`
abbrev pub has_daemon : Result ServerConf ReadError → Bool
has_daemon (Ok conf) = conf.daemon
has_daemon (Err error) = false

-- the line of the configuration sets that flag
unfoldable pub is_daemon : List ℕ → Bool
is_daemon line = is_utf8 line && has_daemon (configuration line)
