-- By the clause on each close, a number is closed at most once, and only if it was opened.
use Rattle.std.proofs.Common.{ℕ, Bool, true, false, ◌||◌, ◌+◌, ◌++◌, ◌≡◌, ◌==◌, List, [], ◌∷◌, refl, if◌then◌else◌, inl, inr, subst, ap, true≢false, eqb-true}
use Rattle.std.proofs.lemmas.Bool.{false≢true, not-true}
use Rattle.std.specs.List.{list_any}
use Rattle.svc_record.specs.declared.plan.Plan.{Plan}
use Rattle.svc_record.specs.declared.entry.Entry.{Entry}
use Rattle.svc_record.specs.declared.entry.Entry.TheVariants.{Told}
use Rattle.svc_record.specs.declared.action.Action.TheVariants.{Close}
use Rattle.svc_record.specs.Record.{Record, has, times, EachEntry}
use Rattle.svc_record.specs.Descriptors.{Descriptor, descriptors_of, opened_descriptors, has_number, is_opened, is_close}
use Rattle.svc_record.specs.Closes.{close_once}
use Rattle.svc_record.proofs.Sound.{both, either}
use Rattle.svc_record.proofs.Complete.{or_right}

not_yet : (p : Plan) (fd : ℕ) (e : Entry) (before : Record) → close_once p e before ≡ true → is_close fd e ≡ true
    → (is_opened p before fd ≡ true) × (has (is_close fd) before ≡ false)
not_yet p fd (Told (Close n)) before h a = let k = both (is_opened p before n) _ h in
    subst (λ m. (is_opened p before m ≡ true) × (has (is_close m) before ≡ false)) (eqb-true n fd a) (k.0, not-true _ k.1)
not_yet p fd _ before h a = absurd (false≢true a)

one_or_none : (a b : Bool) (n : ℕ) → (a ≡ true → b ≡ false) → n ≡ (if b then 1 else 0) → (if a then n + 1 else n) ≡ (if a || b then 1 else 0)
one_or_none true true n f e = absurd (true≢false (f refl))
one_or_none true false n f e = ap (λ m. m + 1) e
one_or_none false b n f e = e

-- a number has one close, or none
pub closed_once : (p : Plan) (q : Record) (fd : ℕ) → EachEntry (λ e before. close_once p e before ≡ true) q
    → times (is_close fd) q ≡ (if has (is_close fd) q then 1 else 0)
closed_once p [] fd h = refl
closed_once p (e ∷ before) fd h =
    one_or_none (is_close fd e) (has (is_close fd) before) (times (is_close fd) before) (λ a. (not_yet p fd e before h.0 a).1) (closed_once p before fd h.1)

pub any_later : (fd : ℕ) (new old : List Descriptor) → list_any (has_number fd) old ≡ true → list_any (has_number fd) (new ++ old) ≡ true
any_later fd [] old e = e
any_later fd (d ∷ more) old e = or_right (d.number == fd) (list_any (has_number fd) (more ++ old)) (any_later fd more old e)

-- what was closed was opened
pub closed_was_opened : (p : Plan) (q : Record) (fd : ℕ) → EachEntry (λ e before. close_once p e before ≡ true) q → has (is_close fd) q ≡ true
    → is_opened p q fd ≡ true
closed_was_opened p [] fd h c = absurd (false≢true c)
closed_was_opened p (e ∷ before) fd h c = any_later fd (descriptors_of p e) (opened_descriptors p before)
    (elim (either (is_close fd e) (has (is_close fd) before) c)
    [ inl now ↦ (not_yet p fd e before h.0 now).0 | inr earlier ↦ closed_was_opened p before fd h.1 earlier ])
