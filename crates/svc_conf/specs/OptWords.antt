-- The command that reads a server's flags, and what its matches say.
use Rattle.std.specs.Prelude.{Bool, false, List, codes, Option, Some, None}
use Rattle.std.specs.Str.{bytes_eq}
use Rattle.clap.specs.Walk.{Row, Rule, Text, first_of}
use Rattle.clap.specs.Simple.{App, new_app, new_rule, with_rule}
use Rattle.clap.specs.declared.builder.action.ArgAction.TheVariants.{Set, SetTrue}
use Rattle.svc_conf.specs.declared.server.configuration.Opt.{Opt}

-- a flag with a long name
abbrev pub flag_rule : Text → Rule
flag_rule name = record (new_rule name) { long = Some name; action = Some SetTrue }

abbrev pub upgrade_rule : Rule
upgrade_rule = record (flag_rule (codes "upgrade")) { short = Some 117 }

abbrev pub daemon_rule : Rule
daemon_rule = record (flag_rule (codes "daemon")) { short = Some 100 }

abbrev pub nocapture_rule : Rule
nocapture_rule = flag_rule (codes "nocapture")

abbrev pub test_rule : Rule
test_rule = record (flag_rule (codes "test")) { short = Some 116 }

abbrev pub conf_rule : Rule
conf_rule = record (new_rule (codes "conf")) { long = Some (codes "conf"); short = Some 99; action = Some Set }

-- the command: -u --upgrade, -d --daemon, --nocapture, -t --test, and -c --conf with a value
abbrev pub opt_app : App
opt_app = with_rule (with_rule (with_rule (with_rule (with_rule (new_app (codes "basic")) upgrade_rule) daemon_rule) nocapture_rule) test_rule) conf_rule

abbrev pub is_true : Option Text → Bool
is_true None = false
is_true (Some text) = bytes_eq text (codes "true")

-- the flags that matches have
abbrev pub opt_of : List Row → Opt
opt_of rows = record {
  upgrade = is_true (first_of (codes "upgrade") rows);
  daemon = is_true (first_of (codes "daemon") rows);
  nocapture = is_true (first_of (codes "nocapture") rows);
  test = is_true (first_of (codes "test") rows);
  conf = first_of (codes "conf") rows;
}
