use Rattle.std.proofs.Common.{arith, ◌∙◌, ap}
use Rattle.svc_base.specs.Items.{list_of}
use Rattle.svc_endpoints.specs.declared.states.EndpointState.{EndpointState}
use Rattle.svc_endpoints.specs.EndpointsState.{idle, fd_of}
use Rattle.svc_endpoints.specs.Effects.{first_of}
use Rattle.svc_endpoints.specs.EndpointsState.{numbers_with}
use Rattle.svc_endpoints.proofs.OwnLemmas.{listed-more}
use Rattle.svc_endpoints.proofs.failing.note_all.Goals as goal

pub loop-i-preserved : goal.loop-i-preserved
loop-i-preserved c =
    let was = c.loop-i.invariant in
    record {
      len = c.note-in-loop-i.ensures.length ∙ c.note.ensures.length ∙ was.len;
      noted = listed-more c.args.plan.now c.args.row.now (list_of c.args.table.now) c.args.s c.loop-i.i c.loop-i.numbers c.note.new.numbers
          c.note-in-loop-i.new.numbers c.fd_of.result c.find.result was.noted
          (c.fd_of.ensures ∙ ap (λ (x : EndpointState). fd_of x.last) (c.get.ensures idle)) c.note.ensures.here c.note.ensures.others
          (c.find.ensures ∙ ap (λ a. first_of (numbers_with (list_of c.args.table.now) a)) c.address_of.ensures)
          c.note-in-loop-i.ensures.here c.note-in-loop-i.ensures.others;
      first = c.note-in-loop-i.ensures.others 0 (λ e. omega arith) ∙ c.note.ensures.others 0 (λ e. omega arith) ∙ was.first;
    }
