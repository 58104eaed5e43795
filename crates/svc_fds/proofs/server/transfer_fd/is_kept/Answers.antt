use Rattle.std.proofs.Common.{◌∙◌}
use Rattle.svc_fds.proofs.TableLemmas.{kept-tested}
use Rattle.svc_fds.proofs.server.transfer_fd.is_kept.Goals as goal

pub returns : goal.returns
returns c = c.contains.ensures ∙ kept-tested c.args.bind.now c.args.keep.now.keys
