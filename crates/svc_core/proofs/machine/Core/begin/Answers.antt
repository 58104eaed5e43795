use Rattle.std.proofs.Common.{sym, ◌∙◌}
use Rattle.std.specs.Prelude.{None}
use Rattle.svc_base.specs.Items.{list_of}
use Rattle.svc_core.proofs.BeginLemmas.{begin-first}
use Rattle.svc_core.proofs.JudgedLemmas.{unjudged-bare, unjudged-copied}
use Rattle.svc_core.proofs.machine.Core.begin.Goals as goal

pub returns-then-is_daemon-clause-judged : goal.returns-then-is_daemon-clause-judged
returns-then-is_daemon-clause-judged c =
    unjudged-bare (list_of c.args.actions.now) (list_of c.ask_fork.new.actions) (rw c.in_ok-reserve.ensures.items at c.ask_fork.ensures.bare)

pub returns-clause-kept : goal.returns-clause-kept
returns-clause-kept c =
    begin-first c.args.self.now c.bootstrap.new.self (list_of c.args.actions.now) (list_of c.bootstrap.new.actions) c.bootstrap.result c.requires.first
    (sym c.is_daemon.ensures ∙ c.if-is_daemon.false) (rw c.in_ok-reserve.ensures.items at c.bootstrap.ensures.kept)

pub returns-clause-judged : goal.returns-clause-judged
returns-clause-judged c =
    unjudged-copied None (list_of c.args.actions.now) (list_of c.bootstrap.new.actions) (rw c.in_ok-reserve.ensures.items at c.bootstrap.ensures.copied)
