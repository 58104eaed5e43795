use Rattle.std.proofs.Common.{sym, subst}
use Rattle.svc_record.specs.Validity.{IsValid}
use Rattle.svc_echo.proofs.EchoPlanLemmas.{words_valid}
use Rattle.svc_echo.proofs.RunLemmas.{complete_from}
use Rattle.svc_echo.proofs.running.run_echo.Goals as goal

pub serve-requires-after_bounds : goal.serve-requires-after_bounds
serve-requires-after_bounds g c = λ bounds within. subst IsValid (sym c.in-Ok.ensures) (words_valid _ c.in-Some.turns (sym c.in-Some.ensures))

pub returns-in-Ok-clause-complete : goal.returns-in-Ok-clause-complete
returns-in-Ok-clause-complete g c = λ turns origin takes never legal ends.
    complete_from c.serve.result.status.0 c.serve.result.journal.items origin c.serve.ensures.others (λ e. (c.serve.ensures.unserved e).reports.stops)
    (λ e. never (c.serve.ensures.write_fault e)) legal ends
