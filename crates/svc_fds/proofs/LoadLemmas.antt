-- What comes through a channel is added to a table, one entry after another.
use Rattle.std.proofs.Common.{ℕ, ◌+◌, ◌≤◌, Bool, true, false, not, cond, List, [], ◌∷◌, ◌++◌, Option, Some, ◌≡◌, refl, sym, ap, subst, ◌∙◌, arith, append_assoc, length}
use Rattle.std.specs.Prelude.{is_some, Result, Ok, Err, OnOk}
use Rattle.std.specs.Result.{is_err}
use Rattle.std.specs.List.{zip}
use Rattle.std.specs.Ordering.{nat_cmp, match_ordering}
use Rattle.std.specs.declared.cmp.Ordering.{Ordering}
use Rattle.std.specs.declared.cmp.Ordering.TheVariants.{Less, Equal, Greater}
use Rattle.std.specs.Cmp.Lexicographic.{slice_cmp}
use Rattle.std.proofs.lemmas.List.{append-nil, map_push}
use Rattle.svc_fds.specs.declared.call.ChannelCall.{ChannelCall}
use Rattle.svc_fds.specs.declared.call.ChannelCall.TheVariants.{Close}
use Rattle.svc_fds.specs.Tables.{Entry, lookup, put, put_all, numbers, PrecedesAll}
use Rattle.svc_base.specs.Calls.{Adds}
use Rattle.svc_fds.specs.Transfers.{copies, fresh, closes}
use Rattle.svc_fds.proofs.TableLemmas.{differs, lookup-put}
use Rattle.svc_base.proofs.CallLemmas.{Adds-then}

-- a greater address is looked up as before
found-kept : (a : List ℕ) (n : ℕ) (t : List Entry) (b : List ℕ) → slice_cmp nat_cmp a b ≡ Less → lookup b (put a n t) ≡ lookup b t
found-kept a n t b less = lookup-put a n t b ∙ ap (λ c. cond c (Some n) (lookup b t)) (differs a b less)

fresh-kept : (a : List ℕ) (n : ℕ) (t es : List Entry) → PrecedesAll a es → fresh es (put a n t) ≡ fresh es t
fresh-kept a n t [] all = refl
fresh-kept a n t (e ∷ es) all =
    ap (λ o. cond (not (is_some o)) (e ∷ fresh es (put a n t)) (fresh es (put a n t))) (found-kept a n t e.0 all.0)
    ∙ ap (λ rest. cond (not (is_some (lookup e.0 t))) (e ∷ rest) rest) (fresh-kept a n t es all.1)

copies-kept : (a : List ℕ) (n : ℕ) (t es : List Entry) → PrecedesAll a es → copies es (put a n t) ≡ copies es t
copies-kept a n t [] all = refl
copies-kept a n t (e ∷ es) all =
    ap (λ o. cond (is_some o) (e ∷ copies es (put a n t)) (copies es (put a n t))) (found-kept a n t e.0 all.0)
    ∙ ap (λ rest. cond (is_some (lookup e.0 t)) (e ∷ rest) rest) (copies-kept a n t es all.1)

taken_by : (held : Bool) (a : List ℕ) (n : ℕ) (rest t now : List Entry) → PrecedesAll a rest → now ≡ cond held t (put a n t)
    → put_all (fresh rest now) now ≡ put_all (cond (not held) ((a, n) ∷ fresh rest t) (fresh rest t)) t
taken_by true a n rest t now all is = ap (λ x. put_all (fresh rest x) x) is
taken_by false a n rest t now all is = ap (λ x. put_all (fresh rest x) x) is ∙ ap (λ pairs. put_all pairs (put a n t)) (fresh-kept a n t rest all)

-- one entry more is taken
pub taken-added : (a : List ℕ) (n : ℕ) (es rest t now : List Entry) → es ≡ (a, n) ∷ rest → PrecedesAll a rest → now ≡ cond (is_some (lookup a t)) t (put a n t)
    → put_all (fresh rest now) now ≡ put_all (fresh es t) t
taken-added a n es rest t now first all is = taken_by (is_some (lookup a t)) a n rest t now all is ∙ ap (λ xs. put_all (fresh xs t) t) (sym first)

closed_by : (held : Bool) (a : List ℕ) (n : ℕ) (rest t now : List Entry) (x y z : Option (List ChannelCall)) (done : List ℕ) → PrecedesAll a rest
    → now ≡ cond held t (put a n t) → Adds x y (closes done) → Adds y z (cond held (Close n ∷ []) [])
    → (more : List ℕ) × Adds x z (closes more) × (more ++ numbers (copies rest now) ≡ done ++ numbers (cond held ((a, n) ∷ copies rest t) (copies rest t)))
closed_by true a n rest t now x y z done all is told closed = (
  done ++ n ∷ [],
  subst (λ calls. Adds x z calls) (sym (map_push (λ fd. Close fd) done n)) (Adds-then x y z (closes done) (Close n ∷ []) told closed),
  append_assoc done (n ∷ []) (numbers (copies rest now)) ∙ ap (λ s. done ++ (n ∷ numbers (copies rest s))) is,
)
closed_by false a n rest t now x y z done all is told closed = (
  done,
  subst (λ calls. Adds x z calls) (append-nil (closes done)) (Adds-then x y z (closes done) [] told closed),
  ap (λ s. done ++ numbers (copies rest s)) is ∙ ap (λ cs. done ++ numbers cs) (copies-kept a n t rest all),
)

pub taken-closed : (a : List ℕ) (n : ℕ) (es rest t now : List Entry) (x y z : Option (List ChannelCall)) (done ends : List ℕ) → es ≡ (a, n) ∷ rest
    → PrecedesAll a rest → now ≡ cond (is_some (lookup a t)) t (put a n t)
    → Adds x y (closes done) → done ++ numbers (copies es t) ≡ ends → Adds y z (cond (is_some (lookup a t)) (Close n ∷ []) [])
    → (more : List ℕ) × Adds x z (closes more) × (more ++ numbers (copies rest now) ≡ ends)
taken-closed a n es rest t now x y z done ends first all is told left closed =
    let next = closed_by (is_some (lookup a t)) a n rest t now x y z done all is told closed in
    (next.0, next.1, next.2 ∙ ap (λ xs. done ++ numbers (copies xs t)) (sym first) ∙ left)

length-put_by : (o : Ordering) (a : List ℕ) (n : ℕ) (e : Entry) (es : List Entry) → length (put a n es) ≤ length es + 1
    → length (match_ordering o (e ∷ put a n es) ((a, n) ∷ es) ((a, n) ∷ e ∷ es)) ≤ length (e ∷ es) + 1
length-put_by Less a n e es rest = omega arith
length-put_by Equal a n e es rest = omega arith
length-put_by Greater a n e es rest = omega arith

length-put : (a : List ℕ) (n : ℕ) (es : List Entry) → length (put a n es) ≤ length es + 1
length-put a n [] = omega arith
length-put a n (e ∷ es) = length-put_by (slice_cmp nat_cmp e.0 a) a n e es (length-put a n es)

length-put_all : (pairs es : List Entry) → length (put_all pairs es) ≤ length es + length pairs
length-put_all [] es = omega arith
length-put_all (p ∷ pairs) es = (let one = length-put p.0 p.1 es in let rest = length-put_all pairs (put p.0 p.1 es) in omega arith)

length-zip : (xs : List (List ℕ)) (ys : List ℕ) → length (zip xs ys) ≤ length ys
length-zip [] ys = omega arith
length-zip (x ∷ xs) [] = omega arith
length-zip (x ∷ xs) (y ∷ ys) = (let rest = length-zip xs ys in omega arith)

-- a table of pairs has at most as many entries
pub few-put : (xs : List (List ℕ)) (ys : List ℕ) → length (put_all (zip xs ys) []) ≤ length ys
few-put xs ys = (let all = length-put_all (zip xs ys) [] in let pairs = length-zip xs ys in omega arith)

-- what holds where nothing was refused
pub on_no_error : {T E : Type 0} (r : Result T E) (P : Type 0) → false ≡ is_err r → OnOk r P → P
on_no_error (Ok _) P none holds = holds
on_no_error (Err _) P none holds = absurd (cc)
