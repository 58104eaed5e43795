-- What a call told.
use Rattle.std.specs.Prelude.{List, [], ◌∷◌, ◌++◌, ◌≡◌}
use Rattle.svc_record.specs.declared.action.Action.{Action}
use Rattle.svc_record.specs.declared.action.Action.TheVariants.{Fail, Close}

-- a call appended actions to a list, and what it told meets Kept
pub record Tells (before after : List Action) (Kept : List Action → Type 0) : Type 0 where
  pub told : List Action
  pub appended : after ≡ before ++ told
  pub kept : Kept told

-- a call appended the same actions to two lists
abbrev pub TellsBoth : List Action → List Action → List Action → List Action → Type 0
TellsBoth before after before_again after_again = (told : List Action) × (after ≡ before ++ told) × (after_again ≡ before_again ++ told)

-- only services that are given up, and closes
abbrev pub IsGivingUp : List Action → Type 0
IsGivingUp [] = Unit {0}
IsGivingUp (Fail s ∷ more) = IsGivingUp more
IsGivingUp (Close fd ∷ more) = IsGivingUp more
IsGivingUp (_ ∷ more) = ⊥
