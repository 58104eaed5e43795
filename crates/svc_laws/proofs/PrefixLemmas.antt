-- What holds of each entry of a record holds of each entry of what it begins with.
use Rattle.std.proofs.Common.{Bool, true, ◌≤◌, inl, inr, [], ◌∷◌, ◌++◌, ◌≡◌, sym, subst, arith}
use Rattle.std.proofs.lemmas.Bool.{cases_Bool, or_right}
use Rattle.svc_record.specs.declared.entry.Entry.{Entry}
use Rattle.svc_record.specs.declared.entry.Entry.TheVariants.{Got}
use Rattle.svc_record.specs.Record.{Record, has, times, EachEntry}
use Rattle.svc_record.specs.Facts.{Settled}

pub entries-behind : (P : Entry → Record → Type 0) (more q : Record) → EachEntry P (more ++ q) → EachEntry P q
entries-behind P [] q h = h
entries-behind P (e ∷ more) q h = entries-behind P more q h.1

pub entries-settled : (P : Entry → Record → Type 0) (r q : Record) → EachEntry P r → Settled q r → EachEntry P q
entries-settled P r q h (inl same) = subst (EachEntry P) (sym same) h
entries-settled P r q h (inr s) = (entries-behind P s.1.0 (Got s.0 ∷ q) (subst (EachEntry P) s.1.1 h)).1

pub has-behind : (test : Entry → Bool) (more q : Record) → has test q ≡ true → has test (more ++ q) ≡ true
has-behind test [] q h = h
has-behind test (e ∷ more) q h = or_right (test e) (has test (more ++ q)) (has-behind test more q h)

pub times-behind : (test : Entry → Bool) (more q : Record) → times test q ≤ times test (more ++ q)
times-behind test [] q = omega arith
times-behind test (e ∷ more) q =
    let h = times-behind test more q in
    elim (cases_Bool (test e)) [
      | inl y ↦ rw y (omega (arith, h))
      | inr n ↦ rw n h
    ]
