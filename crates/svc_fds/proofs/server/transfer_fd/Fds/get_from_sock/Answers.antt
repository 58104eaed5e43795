use Rattle.std.proofs.Common.{◌≤◌, sym, subst, arith, length}
use Rattle.svc_fds.specs.declared.errors.DecodeError.TheVariants as errors
use Rattle.svc_base.specs.Calls.{Adds}
use Rattle.svc_fds.specs.Messages.{words, DecodeRefusalFits}
use Rattle.svc_fds.specs.Transfers.{closes, nothing_came, turned_away}
use Rattle.svc_fds.proofs.LoadLemmas.{few-put, on_no_error}
use Rattle.svc_fds.proofs.server.transfer_fd.Fds.get_from_sock.Goals as goal

pub returns-in-Err-clause-refused : goal.returns-in-Err-clause-refused
returns-in-Err-clause-refused g c = nothing_came c.in-Err.error c.in-Err.ensures.refused

pub returns-then-is_err-clause-refused : goal.returns-then-is_err-clause-refused
returns-then-is_err-clause-refused g c =
    turned_away c.in-Ok.message.1 c.in-Ok.message.0.items
    (g.C.Channel.calls c.get_fds_from.new.channel) errors.NoMemory c.in-Ok.ensures.came tt c.close_all.ensures.told

pub take_in-requires-clause-room : goal.take_in-requires-clause-room
take_in-requires-clause-room g c =
    subst (λ es. length es ≤ c.reserve.new.self.spare) (sym c.in-Ok-decode.ensures.table)
    (let few = few-put (words c.as_slice.result.now) c.in-Ok.message.0.items in
    let room = on_no_error c.reserve.result _ c.if-is_err.ensures.value c.reserve.ensures.room in
    omega (arith, c.in-Ok.message.0.ok.0, c.len.ensures, room, few))

pub returns-clause-refused : goal.returns-clause-refused
returns-clause-refused g c =
    let fits = rw c.as_slice.ensures at c.in-Err-decode.ensures.refusal in
    rw c.from.ensures
    (turned_away c.in-Ok.message.1 c.in-Ok.message.0.items (g.C.Channel.calls c.get_fds_from.new.channel) c.in-Err-decode.refused.reason c.in-Ok.ensures.came
    (subst (λ n. DecodeRefusalFits c.in-Ok.message.1 n c.in-Err-decode.refused.reason) c.in-Ok.message.0.ok.0 fits)
    (subst (λ fds. Adds (g.C.Channel.calls c.get_fds_from.new.channel) (g.C.Channel.calls c.close_all-in-Err-decode.new.channel) (closes fds))
    c.in-Err-decode.ensures.back c.close_all-in-Err-decode.ensures.told))
