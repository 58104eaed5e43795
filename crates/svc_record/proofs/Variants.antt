-- Records that differ from a record in one place, and which of them are right.
use Rattle.std.proofs.Common.{Bool, List, [], ◌∷◌, map}
use Rattle.svc_record.specs.declared.plan.Plan.{Plan}
use Rattle.svc_record.specs.Record.{Record}
use Rattle.svc_record.specs.Right.{is_right}

-- each record that lacks one of its entries, the newest entry first
abbrev pub shortened : Record → List Record
shortened [] = []
shortened (e ∷ before) = before ∷ map (λ q. e ∷ q) (shortened before)

-- each record that has one of its entries twice
abbrev pub doubled : Record → List Record
doubled [] = []
doubled (e ∷ before) = (e ∷ e ∷ before) ∷ map (λ q. e ∷ q) (doubled before)

-- each record in which two neighbouring entries have changed places
abbrev pub swapped : Record → List Record
swapped [] = []
swapped (e ∷ []) = []
swapped (e ∷ f ∷ before) = (f ∷ e ∷ before) ∷ map (λ q. e ∷ q) (swapped (f ∷ before))

-- the record and what stands before each of its entries, the longest first
abbrev pub beginnings : Record → List Record
beginnings [] = [] ∷ []
beginnings (e ∷ before) = (e ∷ before) ∷ beginnings before

-- which of them are right
abbrev pub right_ones : Plan → List Record → List Bool
right_ones p rs = map (is_right p) rs
