-- Where no rule is broken up to the settled prefix before it, one breaks the rules that it breaks in what is looked at anew.
use Rattle.std.proofs.Common.{Bool, true, false, ◌&&◌, ◌||◌, ◌⊎◌, inl, inr, List, [], ◌∷◌, ◌≡◌, refl, sym, ap, ◌∙◌}
use Rattle.std.proofs.lemmas.Bool.{false≢true, cases_Bool, eq-eqb}
use Rattle.std.proofs.Math.Bool.{or-true, and-true}
use Rattle.std.specs.List.{list_all}
use Rattle.svc_record.specs.declared.plan.Plan.{Plan}
use Rattle.svc_record.specs.declared.entry.Entry.{Entry}
use Rattle.svc_record.specs.declared.entry.Entry.TheVariants.{Got, Told}
use Rattle.svc_record.specs.declared.event.Event.TheVariants.{Arrived, Set, Shaken, Finished}
use Rattle.svc_record.specs.declared.action.Action.TheVariants.{Judged, Refuse, Settings as TellSettings, Handshake, Serve, Drop, Cut, Phase}
use Rattle.svc_record.specs.declared.action.ExecutionPhase.TheVariants.{ShutdownRuntimes}
use Rattle.svc_record.specs.Record.{Record, each_entry}
use Rattle.svc_record.specs.Connections.{Arrival, arrivals, connection_right}
use Rattle.svc_judge.specs.Anew.{earlier, each_new, touches, is_touched, is_connection_kept, connections_kept}

pub neither_holds : (a b : Bool) → (a || b) ≡ false → (a ≡ false) × (b ≡ false)
neither_holds true b h = absurd (false≢true (sym h))
neither_holds false b h = (refl, h)

-- an entry that doesn't touch a connection leaves what is asked of it
untouched_by : (p : Plan) (e : Entry) (q : Record) (x : Arrival) → touches x.number e ≡ false → connection_right p (e ∷ q) x ≡ connection_right p q x
untouched_by p (Got (Arrived s i n peer)) q x h = refl
untouched_by p (Got (Set n true)) q x h = rw (h)
untouched_by p (Got (Set n false)) q x h = rw (h)
untouched_by p (Got (Shaken n true)) q x h = rw (h)
untouched_by p (Got (Shaken n false)) q x h = rw (h)
untouched_by p (Got (Finished n)) q x h = refl
untouched_by p (Told (Judged n true)) q x h = rw (h)
untouched_by p (Told (Judged n false)) q x h = rw (h)
untouched_by p (Told (Refuse n)) q x h = rw (h)
untouched_by p (Told (TellSettings n list)) q x h = rw (h)
untouched_by p (Told (Handshake n)) q x h = rw (h)
untouched_by p (Told (Serve n)) q x h = rw (h)
untouched_by p (Told (Drop n)) q x h = rw (h)
untouched_by p (Told (Cut n)) q x h = rw (h)
untouched_by p (Told (Phase ShutdownRuntimes ms)) q x h = absurd (false≢true (sym h))
untouched_by p _ q x h = refl

untouched : (p : Plan) (q : Record) (x : Arrival) → is_touched x.number q ≡ false → connection_right p q x ≡ connection_right p (earlier q) x
untouched p [] x h = refl
untouched p (Got e ∷ q) x h = untouched_by p (Got e) q x h
untouched p (Told a ∷ q) x h =
    let parts = neither_holds (touches x.number (Told a)) (is_touched x.number q) h in
    untouched_by p (Told a) q x parts.0 ∙ untouched p q x parts.1

-- the connections are those before the last event, and one that it brought
record Newest (q : Record) : Type 0 where
  first : Arrival
  is : arrivals q ≡ first ∷ arrivals (earlier q)
  touched : is_touched first.number q ≡ true

newest : (q : Record) → (arrivals q ≡ arrivals (earlier q)) ⊎ Newest q
newest [] = inl refl
newest (Got (Arrived s i n peer) ∷ q) =
    inr (record { first = record { service = s; endpoint = i; number = n; peer = peer }; is = refl; touched = eq-eqb n n refl })
newest (Got e ∷ q) = inl refl
newest (Told a ∷ q) = elim (newest q) [
  | inl same ↦ inl same
  | inr f ↦ inr (record { first = f.first; is = f.is; touched = rw (f.touched) (or-true (touches f.first.number (Told a))) })
]

kept_in : (p : Plan) (q : Record) (xs : List Arrival) → list_all (connection_right p (earlier q)) xs ≡ true
    → list_all (is_connection_kept p q) xs ≡ list_all (connection_right p q) xs
unfolding is_connection_kept
kept_in p q [] h = refl
kept_in p q (x ∷ xs) h = elim (cases_Bool (is_touched x.number q)) [
  | inl named ↦ rw (named) (ap (λ b. connection_right p q x && b) (kept_in p q xs (all_behind (connection_right p (earlier q) x) _ h)))
  | inr apart ↦
      (let same : connection_right p q x ≡ true = untouched p q x apart ∙ front (connection_right p (earlier q) x) _ h in
      rw (apart, same) (kept_in p q xs (all_behind (connection_right p (earlier q) x) _ h)))
]
  where
    all_behind : (a b : Bool) → (a && b) ≡ true → b ≡ true
    all_behind true b g = g
    all_behind false b g = absurd (false≢true g)

    front : (a b : Bool) → (a && b) ≡ true → a ≡ true
    front true b g = refl
    front false b g = absurd (false≢true g)

-- where each connection was right before the last event, each is right that is touched since
pub connections_by_touched : (p : Plan) (q : Record) → list_all (connection_right p (earlier q)) (arrivals (earlier q)) ≡ true
    → list_all (connection_right p q) (arrivals q) ≡ connections_kept p q
unfolding is_connection_kept
connections_by_touched p q h = elim (newest q) [
  | inl same ↦ rw (same) (sym (kept_in p q (arrivals (earlier q)) h))
  | inr f ↦ rw (f.is, f.touched) (ap (λ b. connection_right p q f.first && b) (sym (kept_in p q (arrivals (earlier q)) h)))
]

-- where each entry before the last event passed the test, each passes it where those since do
pub each_by_new : (test : Entry → Record → Bool) (q : Record) → each_entry test (earlier q) ≡ true → each_entry test q ≡ each_new test q
each_by_new test [] h = refl
each_by_new test (Got e ∷ q) h = rw (h) (and-true (test (Got e) q))
each_by_new test (Told a ∷ q) h = ap (λ b. test (Told a) q && b) (each_by_new test q h)
