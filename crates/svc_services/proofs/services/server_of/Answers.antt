use Rattle.std.proofs.Common.{ℕ, Option, arith, ap, ◌∙◌, length, subst, sym}
use Rattle.svc_server.specs.Servers.{answer_of}
use Rattle.svc_services.specs.Filtered.{number_behind, AreEnough}
use Rattle.svc_services.specs.Services.{answered}
use Rattle.svc_services.specs.contracts.script_service.ScriptServiceServiceWithDependents as services
use Rattle.svc_services.proofs.ServerLemmas.{first_none, first_more, first_all}
use Rattle.svc_services.proofs.AcceptedLemmas.{only_memory}
use Rattle.svc_services.proofs.services.server_of.Goals as goal

pub loop-k-init : goal.loop-k-init
loop-k-init g c =
    let bare = c.in-Ok.ensures in
    record {
      eager = bare.eager;
      filters = c.replace.ensures.after;
      first =
          first_none (answer_of services.TheImpl.ghosts) (number_behind c.args.filtered) c.args.lines.now _ _ _ _ bare.dependencies bare.services
          (ap length bare.filters) bare.sound;
    }

pub memory_alone-requires : goal.memory_alone-requires
memory_alone-requires g c =
    let says = ap (answer_of services.TheImpl.ghosts) c.in-Ok-new.ensures
    ∙ ap (λ (n : Option ℕ). answered n c.index-lines-k.result) c.number_behind-number.ensures in
    let enough : AreEnough c.args.filtered c.args.lines.now (length c.loop-k.server.filters) =
    subst (AreEnough c.args.filtered c.args.lines.now) (sym (ap length c.loop-k.invariant.filters)) c.requires.enough in
    only_memory c.args.filtered c.args.lines.now c.loop-k.k c.index-lines-k.result _ _ _ _ c.in-Err-add_service.refused.reason c.requires.accepted enough
    c.loop-k.invariant.first (omega arith) c.index-lines-k.is says c.in-Err-add_service.ensures.cause

pub loop-k-preserved : goal.loop-k-preserved
loop-k-preserved g c =
    let says = ap (answer_of services.TheImpl.ghosts) c.in-Ok-new.ensures
    ∙ ap (λ (n : Option ℕ). answered n c.index-lines-k.result) c.number_behind-number.ensures in
    record {
      eager = c.add_service.ensures.eager ∙ c.loop-k.invariant.eager;
      filters = c.add_service.ensures.filters ∙ c.loop-k.invariant.filters;
      first =
          first_more (answer_of services.TheImpl.ghosts) (number_behind c.args.filtered) c.args.lines.now c.loop-k.k c.index-lines-k.result _ _ _ _ _ _ _
          c.in-Ok-new.service c.loop-k.invariant.first (omega arith) c.index-lines-k.is
          says c.in-Ok-add_service.ensures.node c.in-Ok-add_service.ensures.added (c.add_service.ensures.sound c.loop-k.invariant.first.sound);
    }

pub returns-clause-services : goal.returns-clause-services
returns-clause-services g c = first_all (number_behind c.args.filtered) c.args.lines.now c.loop-k.k _ _ _ c.loop-k.invariant.first (omega arith)
