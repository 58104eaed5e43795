use Rattle.std.proofs.Common.{◌∙◌, sym, ap}
use Rattle.svc_record.specs.Journal.{PostData}
use Rattle.svc_echo.specs.Endings.{stops}
use Rattle.svc_echo.proofs.RunLemmas.{last_stops}
use Rattle.svc_echo.proofs.journal.ends_with_stop.Goals as goal

pub returns-in-Some : goal.returns-in-Some
returns-in-Some c =
    c.stops.ensures ∙ ap stops c.as_slice.ensures ∙ ap (λ (q : PostData). stops q.actions) c.post.view_is
    ∙ sym (last_stops c.args.posts.now c.in-Some.post.now c.in-Some.ensures.value)
