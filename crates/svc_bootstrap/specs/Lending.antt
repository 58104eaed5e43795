-- What is left of a value that lent a part.
use Rattle.std.specs.Borrow.{Lends, MutBor, Fml}
use Rattle.svc_fds.specs.FdTable.{FdTable}
use Rattle.svc_fds.specs.contracts.server.transfer_fd.Fds.{the_row as fds_row}
use Rattle.svc_bootstrap.specs.BootstrapData.{BootstrapData}
use Rattle.svc_bootstrap.specs.contracts.server.bootstrap_services.Bootstrap.{the_row}

-- s ends with the last table behind r
abbrev pub LendsFds : MutBor BootstrapData → MutBor FdTable → Fml
LendsFds s r = Lends the_row fds_row s r (λ w. record s.now { fds = w })
