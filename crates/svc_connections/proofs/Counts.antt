-- Entries that no test passes.
use Rattle.std.proofs.Common.{ℕ, Bool, true, false, [], ◌∷◌, ◌≡◌, refl}
use Rattle.std.proofs.lemmas.Bool.{or_parts}
use Rattle.svc_record.specs.declared.entry.Entry.{Entry}
use Rattle.svc_record.specs.declared.entry.Entry.TheVariants.{Got}
use Rattle.svc_record.specs.declared.event.Event.TheVariants.{Set, Shaken}
use Rattle.svc_record.specs.Record.{Record, has, times}
use Rattle.svc_record.specs.Asks.{is_set, is_shaken}
use Rattle.svc_record.specs.Connections.{is_set_as, is_shaken_as}

-- entries that none passes are counted 0 times
pub none-times : (test : Entry → Bool) (q : Record) → has test q ≡ false → times test q ≡ 0
none-times test [] h = refl
none-times test (e ∷ q) h = let apart = or_parts (test e) (has test q) h in rw apart.0 (none-times test q apart.1)

-- a narrower test is passed by none too
pub narrower : (wide narrow : Entry → Bool) (q : Record) → ((e : Entry) → wide e ≡ false → narrow e ≡ false) → has wide q ≡ false → has narrow q ≡ false
narrower wide narrow [] f h = refl
narrower wide narrow (e ∷ q) f h = let apart = or_parts (wide e) (has wide q) h in rw (f e apart.0) (narrower wide narrow q f apart.1)

pub unset-as : (b : Bool) (c : ℕ) (q : Record) → has (is_set c) q ≡ false → has (is_set_as b c) q ≡ false
unset-as b c q h = narrower (is_set c) (is_set_as b c) q (by b) h
  where
    by : (b : Bool) (e : Entry) → is_set c e ≡ false → is_set_as b c e ≡ false
    by true (Got (Set n true)) h = h
    by true (Got (Set n false)) h = refl
    by false (Got (Set n true)) h = refl
    by false (Got (Set n false)) h = h
    by true _ h = refl
    by false _ h = refl

pub unshaken-as : (b : Bool) (c : ℕ) (q : Record) → has (is_shaken c) q ≡ false → has (is_shaken_as b c) q ≡ false
unshaken-as b c q h = narrower (is_shaken c) (is_shaken_as b c) q (by b) h
  where
    by : (b : Bool) (e : Entry) → is_shaken c e ≡ false → is_shaken_as b c e ≡ false
    by true (Got (Shaken n true)) h = h
    by true (Got (Shaken n false)) h = refl
    by false (Got (Shaken n true)) h = refl
    by false (Got (Shaken n false)) h = h
    by true _ h = refl
    by false _ h = refl
