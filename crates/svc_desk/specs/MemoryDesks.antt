-- What a desk in memory gives.
use Rattle.std.specs.Prelude.{◌≡◌, List, [], ◌∷◌, ◌++◌}
use Rattle.svc_desk.specs.declared.desk.DeskAnswer.{DeskAnswer}
use Rattle.svc_desk.specs.declared.desk.DeskAnswer.TheVariants as answers
use Rattle.svc_desk.specs.declared.memory_desk.DeskItem.{DeskItem}
use Rattle.svc_desk.specs.declared.memory_desk.DeskItem.TheVariants as items

-- the answer is the next item, which stands last, or says that there is none; where there is no memory for an entry, the item stays
abbrev pub GivesNext : DeskAnswer → List DeskItem → List DeskItem → Type 0
GivesNext (answers.Event e) before now = before ≡ now ++ items.Event e ∷ []
GivesNext answers.Nothing before now = before ≡ now ++ items.Nothing ∷ []
GivesNext answers.Closed before now = (before ≡ []) × (now ≡ [])
GivesNext answers.Failed before now = before ≡ now ++ items.Failed ∷ []
GivesNext answers.NoMemory before now = now ≡ before
