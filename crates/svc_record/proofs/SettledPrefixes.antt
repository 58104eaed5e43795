-- The settled prefixes by recursion are those of the words: the record itself, and what stands before each event.
use Rattle.std.proofs.Common.{[], ◌∷◌, ◌++◌, ◌≡◌, refl, subst, sym, ap, inl, inr}
use Rattle.svc_record.specs.declared.entry.Entry.TheVariants.{Got, Told}
use Rattle.svc_record.specs.declared.event.Event.{Event}
use Rattle.svc_record.specs.Record.{Record, EachEarlier, EachSettled}
use Rattle.svc_record.specs.Facts.{Settled}

earlier_from : (P : Record → Type 0) (r : Record) → ((e : Event) (more q : Record) → r ≡ more ++ (Got e ∷ q) → P q) → EachEarlier P r
earlier_from P [] f = tt
earlier_from P (Got e ∷ before) f = (f e [] before refl, earlier_from P before (λ g more q h. f g (Got e ∷ more) q (ap (λ z. Got e ∷ z) h)))
earlier_from P (Told a ∷ before) f = earlier_from P before (λ g more q h. f g (Told a ∷ more) q (ap (λ z. Told a ∷ z) h))

-- P of each settled prefix gives the recursion
pub settled_from : (P : Record → Type 0) (r : Record) → ((q : Record) → Settled q r → P q) → EachSettled P r
settled_from P r f = (f r (inl refl), earlier_from P r (λ e more q h. f q (inr (e, (more, h)))))

earlier_at : (P : Record → Type 0) (e : Event) (more q : Record) → EachEarlier P (more ++ (Got e ∷ q)) → P q
earlier_at P e [] q h = h.0
earlier_at P e (Got g ∷ more) q h = earlier_at P e more q h.1
earlier_at P e (Told a ∷ more) q h = earlier_at P e more q h

-- the recursion gives P of each settled prefix
pub settled_at : (P : Record → Type 0) (r q : Record) → EachSettled P r → Settled q r → P q
settled_at P r q h (inl same) = subst P (sym same) h.0
settled_at P r q h (inr s) = earlier_at P s.0 s.1.0 q (subst (EachEarlier P) s.1.1 h.1)
