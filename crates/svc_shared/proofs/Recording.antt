-- The record of a journal with one post more.
use Rattle.std.proofs.Common.{◌≡◌, ℕ, Bool, true, List, [], ◌∷◌, ◌++◌, refl, sym, ap, ◌∙◌, subst}
use Rattle.std.proofs.lemmas.Bool.{and_from, and_parts}
use Rattle.svc_record.specs.declared.plan.Plan.{Plan}
use Rattle.svc_record.specs.declared.action.Action.{Action}
use Rattle.svc_record.specs.declared.action.StepEnd.{StepEnd}
use Rattle.svc_record.specs.declared.entry.Entry.TheVariants.{Got}
use Rattle.svc_record.specs.Record.{Record, tell}
use Rattle.svc_record.specs.Right.{Right}
use Rattle.svc_record.specs.Ends.{step_end}
use Rattle.svc_record.specs.Journal.{PostData, record_after, told_as_said, posts_as_said}
use Rattle.svc_record.specs.Judging.{judged_at, judgements, TellsJudged}
use Rattle.svc_core.specs.CoreData.{CoreData}
use Rattle.svc_core.specs.Stands.{Represents, StepKeeps, BeginKeeps}
use Rattle.svc_core.proofs.JudgedLemmas.{judged-said}
use Rattle.svc_shared.specs.BookData.{book}
use Rattle.svc_shared.specs.Journals.{record_of, IsLegal, end_after}

record-more : (q : Record) (ps : List PostData) (p : PostData) → record_after q (ps ++ p ∷ []) ≡ tell (Got p.event ∷ record_after q ps) p.actions
record-more q [] p = refl
record-more q (x ∷ xs) p = record-more (tell (Got x.event ∷ q) x.actions) xs p

said-more : (plan : Plan) (q : Record) (ps : List PostData) (p : PostData) → posts_as_said plan q ps ≡ true
    → told_as_said plan (Got p.event ∷ record_after q ps) p.said p.actions ≡ true → posts_as_said plan q (ps ++ p ∷ []) ≡ true
said-more plan q [] p all last = and_from (told_as_said plan (Got p.event ∷ q) p.said p.actions) true last refl
said-more plan q (x ∷ xs) p all last =
    let first : Bool = told_as_said plan (Got x.event ∷ q) x.said x.actions in
    let after : Record = tell (Got x.event ∷ q) x.actions in
    let parts = and_parts first (posts_as_said plan after xs) all in
    and_from first (posts_as_said plan after (xs ++ p ∷ [])) parts.0 (said-more plan after xs p parts.1 last)

-- what the book keeps
pub record Stays (core : CoreData) (opening : List Action) (limit : ℕ) (posts : List PostData) : Type 0 where
  pub stands : Represents core (record_of (book core.plan opening limit posts) posts)
  pub legal : IsLegal (book core.plan opening limit posts) posts

-- a book that has begun, without posts
fresh : (core : CoreData) (opening : List Action) (limit : ℕ) (end : StepEnd) → BeginKeeps core [] opening end → Stays core opening limit []
fresh core opening limit end keeps =
    let told : keeps.told ≡ opening = sym keeps.appended in
    record {
      stands = subst (λ (w : List Action). Represents core (tell [] w)) told keeps.kept.stands;
      legal = record {
        right = subst (λ (w : List Action). Right core.plan (tell [] w)) told keeps.kept.right;
        said = refl;
      };
    }

pub opens : (core : CoreData) (before opening : List Action) (limit : ℕ) (posts : List PostData) (end : StepEnd) → before ≡ [] → posts ≡ []
    → BeginKeeps core before opening end → Stays core opening limit posts
opens core before opening limit posts end untold empty keeps =
    subst (Stays core opening limit) (sym empty) (fresh core opening limit end (subst (λ (b : List Action). BeginKeeps core b opening end) untold keeps))

-- the same, and the answer of its last post
pub record Grows (core : CoreData) (opening : List Action) (limit : ℕ) (posts : List PostData) (end : StepEnd) : Type 0 where
  pub stays : Stays core opening limit posts
  pub end_is : end ≡ end_after (book core.plan opening limit posts) posts

pub grows : (old new : CoreData) (opening : List Action) (limit : ℕ) (posts posts' : List PostData) (p : PostData) (after : List Action) (end : StepEnd)
    → Stays old opening limit posts
    → StepKeeps old new p.event [] after end → TellsJudged (judged_at old.plan p.event p.said) [] after → new.plan ≡ old.plan → p.actions ≡ after
    → posts' ≡ posts ++ p ∷ [] → Grows new opening limit posts' end
grows old new opening limit posts posts' p after end was keeps judges plan kept more =
    let q : Record = record_of (book old.plan opening limit posts) posts in
    let told : keeps.told ≡ p.actions = sym keeps.appended ∙ sym kept in
    let right = keeps.kept q was.legal.right was.stands in
    let now : tell (Got p.event ∷ q) keeps.told ≡ record_after (tell [] opening) posts' =
    ap (tell (Got p.event ∷ q)) told ∙ (sym (record-more (tell [] opening) posts p) ∙ ap (record_after (tell [] opening)) (sym more)) in
    let as_said : told_as_said old.plan (Got p.event ∷ q) p.said p.actions ≡ true =
    judged-said old.plan q p.event p.said p.actions (ap judgements (kept ∙ judges.appended) ∙ judges.kept) in
    let said : posts_as_said old.plan (tell [] opening) (posts ++ p ∷ []) ≡ true = said-more old.plan (tell [] opening) posts p was.legal.said as_said in
    record {
      stays = record {
        stands = subst (Represents new) now right.stands;
        legal = record {
          right = subst (Right new.plan) now right.right;
          said = ap (λ (b : Plan). posts_as_said b (tell [] opening) posts') plan ∙ (ap (posts_as_said old.plan (tell [] opening)) more ∙ said);
        };
      };
      end_is = right.answer ∙ ap (step_end new.plan) now;
    }
