-- What the parent of a daemon does.
use Rattle.std.specs.Prelude.{if◌then◌else◌}
use Rattle.svc_moments.specs.Limits.{Limit, has_passed}
use Rattle.svc_moments.specs.declared.parent.ParentEvent.{ParentEvent}
use Rattle.svc_moments.specs.declared.parent.ParentEvent.TheVariants.{Ready, Gone, DropFailed, Moment}
use Rattle.svc_moments.specs.declared.parent.ParentNext.{ParentNext}
use Rattle.svc_moments.specs.declared.parent.ParentNext.TheVariants.{Wait, Exit}

-- it ends well once the child is ready, and badly where the child is gone, its rights can't be dropped, or its limit has passed
abbrev pub parent_next : Limit → ParentEvent → ParentNext
parent_next limit Ready = Exit 0
parent_next limit Gone = Exit 1
parent_next limit DropFailed = Exit 1
parent_next limit (Moment ms) = if has_passed limit ms then Exit 1 else Wait
