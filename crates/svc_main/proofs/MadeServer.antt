-- The server that the generator's services are in.
use Rattle.std.proofs.Common.{◌≡◌, ◌||◌, ℕ, Bool, false, List, length, Option, Some, ap, subst, sym, ◌∙◌}
use Rattle.svc_conf.specs.declared.server.configuration.ServerConf.{ServerConf}
use Rattle.svc_conf.specs.declared.server.configuration.Opt.{Opt}
use Rattle.svc_conf.specs.Configuration.{defaults}
use Rattle.svc_conf.specs.ConfigurationText.{merged}
use Rattle.svc_graph.specs.GraphData.{GraphData}
use Rattle.svc_record.specs.declared.plan.ServicePlan.{ServicePlan}
use Rattle.svc_text.specs.declared.service.ServiceLine.{ServiceLine}
use Rattle.svc_services.specs.declared.script_filter.ScriptFilter.{ScriptFilter}
use Rattle.svc_services.specs.Services.{HasLines, IsServerOf}
use Rattle.svc_services.proofs.ServerLemmas.{server_is}
use Rattle.svc_main.specs.Generator.{made_services, made_parts, no_flags}

pub made_lines : (n : ℕ) (lines : List ServiceLine) (g h : GraphData) (filters others : List ScriptFilter) (answers more : List ServicePlan)
    → lines ≡ made_services n → h ≡ g → others ≡ filters → more ≡ answers
    → HasLines lines (length lines) g filters answers → (services : List ServiceLine) × HasLines services (length services) h others more
made_lines n lines g h filters others answers more is same_graph same_filters same_answers old = (
  lines,
  subst (λ (x : GraphData). HasLines lines (length lines) x others more) (sym same_graph)
      (subst (λ (fs : List ScriptFilter). HasLines lines (length lines) g fs more) (sym same_filters)
      (subst (HasLines lines (length lines) g filters) (sym same_answers) old)),
)

pub made_server : (n : ℕ) (lines : List ServiceLine) (flags : Opt) (bare conf : ServerConf) (options : Option Opt) (before eager : Bool) (g h : GraphData)
    (filters others : List ScriptFilter) (answers more : List ServicePlan)
    → lines ≡ made_services n → flags ≡ no_flags → bare ≡ defaults → conf ≡ merged flags bare → options ≡ Some flags → before ≡ false
    → eager ≡ (before || false) → h ≡ g → others ≡ filters → more ≡ answers
    → HasLines lines (length lines) g filters answers → IsServerOf no_flags (made_parts n) conf options eager h others more
made_server n lines flags bare conf options before eager g h filters others answers more is f b c o e t same_graph same_filters same_answers old =
    server_is no_flags (made_parts n) conf options before eager g h filters others answers more
    (c ∙ ap (λ (x : Opt). merged x bare) f ∙ ap (merged no_flags) b) (o ∙ ap Some f) e t same_graph same_filters same_answers
    (subst (λ (xs : List ServiceLine). HasLines xs (length xs) g filters answers) is old)
