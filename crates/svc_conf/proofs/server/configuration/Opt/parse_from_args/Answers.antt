use Rattle.std.proofs.Common.{◌≡◌, map, sym, ◌∙◌}
use Rattle.std.specs.Rc.{rc_str_bytes}
use Rattle.clap.specs.Simple.{app_of}
use Rattle.svc_conf.proofs.OptLemmas.{words_taken, words_refused, words_give}
use Rattle.svc_conf.proofs.server.configuration.Opt.parse_from_args.Goals as goal

pub returns-in-Ok-opt-clause-taken : goal.returns-in-Ok-opt-clause-taken
returns-in-Ok-opt-clause-taken c =
    words_taken (app_of c.in-Ok.command) (map rc_str_bytes c.args.words.now) c.in-Ok.ensures c.in-Ok-try_get_matches_from.ensures.kinds

pub returns-in-Ok-opt-clause-opt : goal.returns-in-Ok-opt-clause-opt
returns-in-Ok-opt-clause-opt c =
    words_give (app_of c.in-Ok.command) (map rc_str_bytes c.args.words.now) _ c.in-Ok-opt.opt c.in-Ok.ensures c.in-Ok-try_get_matches_from.ensures.matches
    c.in-Ok-opt.ensures

pub returns-in_default-kind-clause-words : goal.returns-in_default-kind-clause-words
returns-in_default-kind-clause-words c = λ kind e.
    let q : c.kind-kind.result ≡ kind = cc in
    words_refused (app_of c.in-Ok.command) (map rc_str_bytes c.args.words.now) _ kind c.in-Ok.ensures (sym c.kind-kind.ensures ∙ q)
    (λ o. c.in_default-kind.not-OutOfMemory (c.kind-kind.ensures ∙ o)) c.in-Err.ensures.passes c.in-Err.ensures.kinds
