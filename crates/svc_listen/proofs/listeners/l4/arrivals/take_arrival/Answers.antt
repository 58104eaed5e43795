use Rattle.std.proofs.Common.{List, refl, subst}
use Rattle.svc_base.specs.declared.settings.Setting.{Setting}
use Rattle.svc_listen.specs.Accepts.{none_yet, failed, refused, unset, taken, AllSet, SetFails}
use Rattle.svc_listen.proofs.listeners.l4.arrivals.take_arrival.Goals as goal

pub returns-in-NotYet : goal.returns-in-NotYet
returns-in-NotYet g c = none_yet c.in-NotYet.ensures refl

pub returns-in-Failed : goal.returns-in-Failed
returns-in-Failed g c = failed c.in-Failed.number c.in-Failed.ensures refl

pub returns-then-not-judged : goal.returns-then-not-judged
returns-then-not-judged g c = refused c.in-Came.c c.in-Came.peer c.accept.new.self c.in-Came.ensures c.if-not-judged.ensures c.refuse.ensures

pub returns-then-not-set_given : goal.returns-then-not-set_given
returns-then-not-set_given g c =
    unset c.in-Came.c c.in-Came.peer c.accept.new.self c.set_given.new.from c.in-Came.ensures c.if-not-judged.ensures
    (subst (λ (s : List Setting). SetFails c.in-Came.c s (g.A.Accepting.seen c.accept.new.self) (g.A.Accepting.seen c.set_given.new.from))
    c.settings_for.ensures c.if-not-set_given.ensures)
    c.refuse-then-not-set_given.ensures

pub returns-else-not-set_given : goal.returns-else-not-set_given
returns-else-not-set_given g c =
    rw c.fresh.ensures
    (taken c.in-Came.c c.in-Came.peer c.accept.new.self c.in-Came.ensures c.if-not-judged.ensures
    (subst (λ (s : List Setting). AllSet c.in-Came.c s (g.A.Accepting.seen c.accept.new.self) (g.A.Accepting.seen c.set_given.new.from)) c.settings_for.ensures
    c.if-not-set_given.ensures))
