-- How a server is made of its flags.
use Rattle.std.specs.Prelude.{◌≡◌, List, ℕ, Option, Some, None, Result, Ok, Err}
use Rattle.svc_conf.specs.declared.server.configuration.ServerConf.{ServerConf}
use Rattle.svc_conf.specs.declared.server.configuration.Opt.{Opt}
use Rattle.svc_conf.specs.declared.server.configuration.read_error.ReadError.{ReadError}
use Rattle.svc_conf.specs.declared.server.configuration.read_error.ReadError.TheVariants.{NoMemory}
use Rattle.svc_conf.specs.Configuration.{defaults}
use Rattle.svc_server.specs.declared.server.Server.{Server}
use Rattle.svc_server.specs.Servers.{merged}

-- the path of the file that the flags name
abbrev pub conf_path : Option Opt → Option (List ℕ)
conf_path (Some opt) = opt.conf
conf_path None = None

-- a new configuration
abbrev pub fresh : ServerConf
fresh = record defaults { version = 1 }

-- the server has what was read, merged with the flags; or the refusal is that of what was read, unless memory ran out
abbrev pub Configures : {B F : Type 0} → Option Opt → Result ServerConf ReadError → Result (Server B F) ReadError → Type 0
Configures options read (Ok server) = (conf : ServerConf) × (read ≡ Ok conf) × (server.configuration ≡ merged options conf)
Configures options read (Err NoMemory) = Unit {0}
Configures options read (Err error) = read ≡ Err error
