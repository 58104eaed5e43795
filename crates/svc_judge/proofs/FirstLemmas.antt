-- The first breach is the first.
use Rattle.std.proofs.Common.{ℕ, true, ◌+◌, ◌⊎◌, inl, inr, [], ◌∷◌, length, ◌≡◌, refl, ap, Option, Some, None, arith}
use Rattle.svc_record.specs.declared.plan.Plan.{Plan}
use Rattle.svc_record.specs.declared.entry.Entry.{Entry}
use Rattle.svc_record.specs.declared.entry.Entry.TheVariants.{Got, Told}
use Rattle.svc_record.specs.Record.{Record, each_earlier}
use Rattle.svc_record.specs.Right.{is_right}
use Rattle.svc_judge.specs.declared.judging.Rule.{Rule}
use Rattle.svc_judge.specs.declared.judging.Breach.{Breach}
use Rattle.svc_judge.specs.Firsts.{first_of}
use Rattle.svc_judge.specs.Verdicts.{at, entry_breach, step_breach, breach_below, breach_of, FirstBreach}
use Rattle.svc_judge.proofs.VerdictLemmas.{nowhere, right_from_none, and}

pick : {A : Type 0} (x y : Option A) (b : A) → first_of x y ≡ Some b → (x ≡ Some b) ⊎ ((x ≡ None) × (y ≡ Some b))
pick (Some x) y b h = inl h
pick None y b h = inr (refl, h)

placed : (n : ℕ) (r : Option Rule) (b : Breach) → at n r ≡ Some b → (r ≡ Some b.rule) × (n ≡ b.entry)
placed n (Some rule) b h = (cc, cc)
placed n None b h = cc

-- where no entry breaks a rule, nor what stands before an event, all of that is right
all_earlier : (p : Plan) (q : Record) → breach_below p q ≡ None → each_earlier (is_right p) q ≡ true
all_earlier p [] h = refl
all_earlier p (Got e ∷ c) h =
    let cut = split (breach_below p c) _ h in
    let last = split (at (length c) (step_breach p c)) _ cut.1 in
    and _ _ (right_from_none p c (nowhere _ _ cut.0 last.0)) (all_earlier p c cut.0)
  where
    split : {A : Type 0} (x y : Option A) → first_of x y ≡ None → (x ≡ None) × (y ≡ None)
    split (Some x) y h = cc
    split None y h = (refl, h)
all_earlier p (Told a ∷ c) h = all_earlier p c (split (breach_below p c) _ h)
  where
    split : {A : Type 0} (x y : Option A) → first_of x y ≡ None → x ≡ None
    split (Some x) y h = cc
    split None y h = refl

longer : (p : Plan) (e : Entry) (q : Record) (b : Breach) → FirstBreach p q b → FirstBreach p (e ∷ q) b
longer p e q b f = record {
  at_place = f.at_place;
  more = e ∷ f.more;
  is = ap (λ x. e ∷ x) f.is;
  place = f.place;
  broken = f.broken;
  earlier = f.earlier;
}

by_step : (p : Plan) (q : Record) (b : Breach) → breach_below p q ≡ None → at (length q) (step_breach p q) ≡ Some b → FirstBreach p q b
by_step p q b none h =
    let found = placed (length q) (step_breach p q) b h in
    record { at_place = q; more = []; is = refl; place = found.1; broken = inr (found.0, none); earlier = all_earlier p q none }

first_below : (p : Plan) (q : Record) (b : Breach) → breach_below p q ≡ Some b → FirstBreach p q b
first_below p [] b h = cc
first_below p (Got e ∷ c) b h = elim (pick (breach_below p c) _ b h) [
  | inl there ↦ longer p (Got e) c b (first_below p c b there)
  | inr here ↦
      elim (pick (at (length c) (step_breach p c)) _ b here.1) [
        | inl step ↦ longer p (Got e) c b (by_step p c b here.0 step)
        | inr entry ↦
            (let found = placed (length c + 1) (entry_breach p (Got e) c) b entry.1 in
            record {
              at_place = Got e ∷ c;
              more = [];
              is = refl;
              place = (let n : length c + 1 ≡ b.entry = found.1 in omega arith);
              broken = inl (found.0, here.0);
              earlier = and _ _ (right_from_none p c (nowhere _ _ here.0 entry.0)) (all_earlier p c here.0);
            })
      ]
]
first_below p (Told a ∷ c) b h = elim (pick (breach_below p c) _ b h) [
  | inl there ↦ longer p (Told a) c b (first_below p c b there)
  | inr here ↦
      (let found = placed (length c + 1) (entry_breach p (Told a) c) b here.1 in
      record {
        at_place = Told a ∷ c;
        more = [];
        is = refl;
        place = (let n : length c + 1 ≡ b.entry = found.1 in omega arith);
        broken = inl (found.0, here.0);
        earlier = all_earlier p c here.0;
      })
]

-- the breach is the first: it is broken at its place, and all before it is right
pub first_breach : (p : Plan) (r : Record) (b : Breach) → breach_of p r ≡ Some b → FirstBreach p r b
first_breach p r b h = elim (pick (breach_below p r) _ b h) [ inl there ↦ first_below p r b there | inr here ↦ by_step p r b here.0 here.1 ]
