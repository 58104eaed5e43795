-- The phases told are those due, where they can be taken from the record one by one.
use Rattle.std.proofs.Common.{Bool, true, false, List, [], ◌∷◌, ◌++◌, ◌≡◌, refl, sym, ap, ◌∙◌, inl, inr, if◌then◌else◌, Option, Some, None}
use Rattle.std.proofs.lemmas.Bool.{cases_Bool}
use Rattle.svc_record.specs.declared.plan.Plan.{Plan}
use Rattle.svc_record.specs.declared.entry.Entry.TheVariants.{Told}
use Rattle.svc_record.specs.declared.action.Action.TheVariants.{Phase, Broadcast}
use Rattle.svc_record.specs.declared.action.ExecutionPhase.TheVariants.{Running, ShutdownRuntimes, Terminated}
use Rattle.svc_record.specs.Record.{Record, has, is_running}
use Rattle.svc_record.specs.Drain.{Mark, phase, broadcast, is_boot_phase, same_mark, same_marks, told_marks, due_marks, marks_if, wait_row, waits_are_over, phases_right}
use Rattle.svc_judge.specs.Marks.{before_mark, after_mark, strip, has_no_mark, is_spent}

pub strip_append : (xs ys : List Mark) (r : Option Record) → strip (xs ++ ys) r ≡ strip ys (strip xs r)
strip_append [] ys r = refl
strip_append (x ∷ xs) ys r = strip_append xs ys (after_mark x r)

strip-none : (xs : List Mark) → strip xs None ≡ None
strip-none [] = refl
strip-none (x ∷ xs) = strip-none xs

spent-none : (xs : List Mark) → is_spent (strip xs None) ≡ false
spent-none xs = ap is_spent (strip-none xs)

no-mark : (q : Record) → has_no_mark q ≡ same_marks (told_marks q) []
no-mark [] = refl
no-mark (Told (Phase x ms) ∷ q) = elim (cases_Bool (is_boot_phase x)) [ inl h ↦ rw (h) (no-mark q) | inr h ↦ rw (h) ]
no-mark (Told Broadcast ∷ q) = refl
no-mark (_ ∷ q) = no-mark q

step : (m : Mark) (xs : List Mark) → ((q : Record) → is_spent (strip xs (Some q)) ≡ same_marks (told_marks q) xs) → (q : Record)
    → is_spent (strip xs (before_mark m q)) ≡ same_marks (told_marks q) (m ∷ xs)
step m xs more [] = spent-none xs
step m xs more (Told (Phase x ms) ∷ q) = elim (cases_Bool (is_boot_phase x)) [
  | inl h ↦ rw (h) (step m xs more q)
  | inr h ↦ rw (h) (elim (cases_Bool (same_mark (phase x) m)) [ inl s ↦ rw (s) (more q) | inr s ↦ rw (s) (spent-none xs) ])
]
step m xs more (Told Broadcast ∷ q) = elim (cases_Bool (same_mark broadcast m)) [ inl s ↦ rw (s) (more q) | inr s ↦ rw (s) (spent-none xs) ]
step m xs more (_ ∷ q) = step m xs more q

-- the marks are those of the list where all of them can be taken, and none is left
pub strips-same : (xs : List Mark) (q : Record) → is_spent (strip xs (Some q)) ≡ same_marks (told_marks q) xs
strips-same [] q = no-mark q
strips-same (m ∷ xs) q = step m xs (strips-same xs) q

strip-if : (b : Bool) (xs : List Mark) (r : Option Record) → strip (marks_if b xs) r ≡ (if b then strip xs r else r)
strip-if true xs r = refl
strip-if false xs r = refl

-- the same of what is due
pub phases_by_strips : (p : Plan) (q : Record) → phases_right p q
    ≡ is_spent
    (let told = if waits_are_over p q then strip (phase Terminated ∷ phase ShutdownRuntimes ∷ []) (Some q) else Some q in
    let waited = strip (wait_row p q) told in
    if has is_running q then strip (phase Running ∷ []) waited else waited)
phases_by_strips p q =
    let over = marks_if (waits_are_over p q) (phase Terminated ∷ phase ShutdownRuntimes ∷ []) in
    let runs = marks_if (has is_running q) (phase Running ∷ []) in
    sym (strips-same (due_marks p q) q)
    ∙ ap is_spent
    (strip_append (over ++ wait_row p q) runs (Some q)
    ∙ strip-if (has is_running q) (phase Running ∷ []) (strip (over ++ wait_row p q) (Some q))
    ∙ ap (λ r. if has is_running q then strip (phase Running ∷ []) r else r)
    (strip_append over (wait_row p q) (Some q)
    ∙ ap (strip (wait_row p q)) (strip-if (waits_are_over p q) (phase Terminated ∷ phase ShutdownRuntimes ∷ []) (Some q))))
