use Rattle.std.proofs.Common.{◌≡◌, ◌∙◌, refl, sym, ap, subst, Some}
use Rattle.std.specs.Prelude.{Option}
use Rattle.svc_core.specs.Dues.{TellsNothingBefore, TellsAt}
use Rattle.svc_c.specs.declared.handle.Handle.{Handle}
use Rattle.svc_c.specs.SessionData.{SessionData}
use Rattle.svc_c.specs.Exports.{Waits}
use Rattle.svc_c.proofs.svc_c_next_due.Goals as goal

pub returns : goal.returns
returns c =
    let held : SessionData = c.into_box-session.result.value in
    let due = c.next_due-moment.result in
    let old : c.args.handle.now.session ≡ Some held = sym (ap (λ (h : Handle). h.session) c.replace.ensures.value) ∙ c.into_box-session.ensures in
    subst (λ (s : Option SessionData). Waits s c.of.result.session c.unwrap_or.result) (sym old)
    (subst (λ (s : Option SessionData). Waits (Some held) s c.unwrap_or.result) (sym c.of.ensures) (
      refl,
      (
        due,
        (
          c.unwrap_or.ensures,
          (
            subst (λ (s : SessionData). TellsNothingBefore s.core due) c.deref.ensures c.next_due-moment.ensures.before,
            subst (λ (s : SessionData). TellsAt s.core due) c.deref.ensures c.next_due-moment.ensures.due,
          ),
        ),
      ),
    ))
