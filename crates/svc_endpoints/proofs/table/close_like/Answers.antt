use Rattle.std.proofs.Common.{length, map, ap, sym, ◌∙◌, arith, ◌++◌, subst, List}
use Rattle.std.proofs.lemmas.List.{append-nil}
use Rattle.svc_base.specs.Items.{list_of}
use Rattle.svc_record.specs.declared.action.Action.TheVariants.{Close}
use Rattle.svc_endpoints.specs.declared.table.Open.{Open}
use Rattle.svc_endpoints.specs.Firsts.{Follows}
use Rattle.svc_endpoints.proofs.FirstLemmas.{follows-out}
use Rattle.svc_endpoints.proofs.TableLemmas.{shorter, closing-next, like-none, unlike-none}
use Rattle.svc_endpoints.proofs.table.close_like.Goals as goal

pub put-requires : goal.put-requires
put-requires c =
    let less = shorter c.args.fd (list_of c.loop-closed.table)
    (list_of c.remove.new.self) c.in-Some.closed c.in-Some.ensures.removed.0 c.in-Some.ensures.removed.1 in
    let fits = c.loop-closed.invariant.closing.fits in
    omega arith

pub loop-closed-preserved : goal.loop-closed-preserved
loop-closed-preserved c =
    let s = c.in-Some.ensures.removed.0 in
    record {
      closing = closing-next c.args.fd (list_of c.args.table.now) (list_of c.loop-closed.table)
          (list_of c.remove.new.self) c.args.actions.now c.loop-closed.actions c.put.new.self c.in-Some.closed
          s c.in-Some.ensures.removed.1 c.put.ensures.items c.put.ensures.room c.loop-closed.invariant.closing;
      firsts = follows-out (list_of c.args.table.now) s.front s.back (list_of c.remove.new.self) c.in-Some.closed (list_of c.args.firsts.now)
          (list_of c.loop-closed.firsts) (list_of c.forget.new.firsts)
          (subst (λ (w : List Open). Follows (list_of c.args.table.now) w (list_of c.args.firsts.now) (list_of c.loop-closed.firsts)) s.is
          c.loop-closed.invariant.firsts)
          c.in-Some.ensures.removed.1 c.forget.ensures.firsts;
    }

pub loop-closed-preserved-in-Some : goal.loop-closed-preserved-in-Some
loop-closed-preserved-in-Some c =
    let s = c.in-Some.ensures.removed.0 in
    record {
      closing = closing-next c.args.fd (list_of c.args.table.now) (list_of c.loop-closed.table)
          (list_of c.remove.new.self) c.args.actions.now c.loop-closed.actions c.put.new.self c.in-Some.closed
          s c.in-Some.ensures.removed.1 c.put.ensures.items c.put.ensures.room c.loop-closed.invariant.closing;
      firsts = follows-out (list_of c.args.table.now) s.front s.back (list_of c.remove.new.self) c.in-Some.closed (list_of c.args.firsts.now)
          (list_of c.loop-closed.firsts) (list_of c.forget.new.firsts)
          (subst (λ (w : List Open). Follows (list_of c.args.table.now) w (list_of c.args.firsts.now) (list_of c.loop-closed.firsts)) s.is
          c.loop-closed.invariant.firsts)
          c.in-Some.ensures.removed.1 c.forget.ensures.firsts;
    }

pub loop-closed-smaller : goal.loop-closed-smaller
loop-closed-smaller c =
    let less = shorter c.args.fd (list_of c.loop-closed.table)
    (list_of c.remove.new.self) c.in-Some.closed c.in-Some.ensures.removed.0 c.in-Some.ensures.removed.1 in
    omega arith

pub returns : goal.returns
returns c =
    let none = like-none c.args.fd (list_of c.loop-closed.table) c.in_default.ensures.absent in
    let was = c.loop-closed.invariant.closing in
    record {
      after = ap list_of c.in_default.ensures.same ∙ unlike-none c.args.fd (list_of c.loop-closed.table) c.in_default.ensures.absent
          ∙ was.left;
      firsts = subst (λ (w : List Open). Follows (list_of c.args.table.now) w (list_of c.args.firsts.now) (list_of c.loop-closed.firsts))
          (sym (ap list_of c.in_default.ensures.same)) c.loop-closed.invariant.firsts;
      told = sym (append-nil (list_of c.loop-closed.actions)) ∙ ap (λ w. list_of c.loop-closed.actions ++ map Close w) (sym none)
          ∙ was.told;
      room = (let room = was.room in let size = ap length none in omega arith);
    }
