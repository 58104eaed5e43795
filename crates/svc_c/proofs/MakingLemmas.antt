-- The plan of a script that is accepted can be run.
use Rattle.std.proofs.Common.{ℕ, zero, suc, ◌≡◌, ◌<◌, ◌==◌, Bool, true, false, List, [], ◌∷◌, ◌++◌, take, drop, refl, sym, ◌∙◌, ap, subst, arith}
use Rattle.std.specs.Prelude.{Ok}
use Rattle.svc_conf.specs.declared.server.configuration.key.Key.{Key}
use Rattle.svc_conf.specs.declared.server.configuration.key.Key.TheVariants.{ListenerTasksPerFd}
use Rattle.svc_conf.specs.declared.server.configuration.Opt.{Opt}
use Rattle.svc_conf.specs.declared.server.configuration.ServerConf.{ServerConf}
use Rattle.svc_conf.specs.Configuration.{judged, rules_of, first_broken}
use Rattle.svc_conf.specs.ConfigurationText.{merged}
use Rattle.svc_record.specs.declared.plan.Plan.{Plan}
use Rattle.svc_record.specs.declared.plan.ServicePlan.{ServicePlan}
use Rattle.svc_record.specs.Validity.{IsValid}
use Rattle.svc_text.specs.Accepted.{AreAccepted}
use Rattle.svc_text.specs.Dependencies.{RefusesNone}
use Rattle.svc_text.specs.Script.{Parts}
use Rattle.svc_text.specs.ScriptPlans.{plans_from, settled, plan_of}
use Rattle.svc_text.proofs.PlanLemmas.{plan_valid}

-- the rule at this place isn't broken
unbroken : (before : List (Bool × Key)) (rule : Bool × Key) (more : List (Bool × Key)) → first_broken (before ++ rule ∷ more) ≡ Ok tt → rule.0 ≡ false
unbroken [] (true, key) more e = absurd (cc)
unbroken [] (false, key) more e = refl
unbroken ((true, key) ∷ before) rule more e = absurd (cc)
unbroken ((false, key) ∷ before) rule more e = unbroken before rule more e

not-zero : (n : ℕ) → (n == 0) ≡ false → 0 < n
not-zero zero e = absurd (cc)
not-zero (suc n) e = omega arith

-- the plan of a script's parts, whose configuration is accepted
pub valid-settled : (opt : Opt) (parts : Parts) (conf : ServerConf) (services : List ServicePlan) (plan : Plan) → conf ≡ merged opt parts.conf
    → judged conf ≡ Ok tt → services ≡ plans_from parts.services 0 parts.services
    → plan ≡ settled conf opt parts.eager services → AreAccepted parts.services → RefusesNone parts.services → IsValid plan
valid-settled opt parts conf services plan is_merged is_judged are is accepted edges =
    let tasks : 0 < conf.listener_tasks_per_fd =
    not-zero conf.listener_tasks_per_fd
    (unbroken (take 4 (rules_of conf)) (conf.listener_tasks_per_fd == 0, ListenerTasksPerFd) (drop 5 (rules_of conf)) is_judged) in
    let some : 0 < parts.conf.listener_tasks_per_fd = subst (λ (x : ServerConf). 0 < x.listener_tasks_per_fd) is_merged tasks in
    let same : plan ≡ plan_of opt parts =
    is ∙ ap (λ (x : ServerConf). settled x opt parts.eager services) is_merged ∙ ap (settled (merged opt parts.conf) opt parts.eager) are in
    subst IsValid (sym same) (plan_valid opt parts accepted edges some)
