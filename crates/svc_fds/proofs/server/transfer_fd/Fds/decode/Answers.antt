use Rattle.std.proofs.Common.{◌∙◌, length, ap, arith}
use Rattle.std.specs.List.{filter_map}
use Rattle.svc_fds.specs.Tables.{lookup}
use Rattle.svc_fds.proofs.PairLemmas.{lookups-empty}
use Rattle.svc_fds.proofs.server.transfer_fd.Fds.decode.Goals as goal

pub destroy_empty-requires : goal.destroy_empty-requires
destroy_empty-requires c =
    let none = c.in-Ok-deserialize.ensures.replaced ∙ ap (λ es. filter_map (λ bind. lookup bind es) c.in-Ok.binds.items) c.new-table.ensures.empty
    ∙ lookups-empty c.in-Ok.binds.items in
    omega (arith, c.in-Ok-deserialize.replaced.ok.0, ap length none)
