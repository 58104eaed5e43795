-- Laws on records and what is told in them.
use Rattle.std.proofs.Common.{Bool, true, false, ◌||◌, List, [], ◌∷◌, ◌≡◌, refl, ap, ◌∙◌, Some, None}
use Rattle.std.specs.Prelude.{Option, is_some}
use Rattle.std.specs.Bool.{OnTrue, OnFalse}
use Rattle.std.proofs.lemmas.Bool.{or_right}
use Rattle.svc_record.specs.declared.entry.Entry.{Entry}
use Rattle.svc_record.specs.declared.entry.Entry.TheVariants.{Got, Told}
use Rattle.svc_record.specs.declared.action.Action.{Action}
use Rattle.svc_record.specs.declared.event.Event.TheVariants.{Signal}
use Rattle.svc_record.specs.declared.event.ShutdownSignal.{ShutdownSignal}
use Rattle.svc_record.specs.Record.{Record, has, tell, now, signal_of, first_or, is_signal, EachEntry, EachEarlier}

-- a test of events doesn't see what is told
pub has-tell : (test : Entry → Bool) → ((a : Action) → test (Told a) ≡ false) → (q : Record) (told : List Action) → has test (tell q told) ≡ has test q
has-tell test f q [] = refl
has-tell test f q (a ∷ told) = has-tell test f (Told a ∷ q) told ∙ ap (λ b. b || has test q) (f a)

-- what was told stays told
pub has-stays : (test : Entry → Bool) (q : Record) (told : List Action) → has test q ≡ true → has test (tell q told) ≡ true
has-stays test q [] h = h
has-stays test q (a ∷ told) h = has-stays test (Told a ∷ q) told (or_right (test (Told a)) (has test q) h)

pub EachEarlier-tell : (P : Record → Type 0) (q : Record) (told : List Action) → EachEarlier P q → EachEarlier P (tell q told)
EachEarlier-tell P q [] h = h
EachEarlier-tell P q (a ∷ told) h = EachEarlier-tell P (Told a ∷ q) told h

pub EachEarlier-weaker : (P Q : Record → Type 0) → ((q : Record) → P q → Q q) → (q : Record) → EachEarlier P q → EachEarlier Q q
EachEarlier-weaker P Q f [] h = h
EachEarlier-weaker P Q f (Got e ∷ q) h = (f q h.0, EachEarlier-weaker P Q f q h.1)
EachEarlier-weaker P Q f (Told a ∷ q) h = EachEarlier-weaker P Q f q h

pub EachEntry-weaker : (P Q : Entry → Record → Type 0) → ((e : Entry) (b : Record) → P e b → Q e b) → (q : Record) → EachEntry P q → EachEntry Q q
EachEntry-weaker P Q f [] h = h
EachEntry-weaker P Q f (e ∷ q) h = (f e q h.0, EachEntry-weaker P Q f q h.1)

-- what is told brings no moment
pub now-tell : (q : Record) (told : List Action) → now (tell q told) ≡ now q
now-tell q [] = refl
now-tell q (a ∷ told) = now-tell (Told a ∷ q) told

pub signal-none : (q : Record) → has is_signal q ≡ false → signal_of q ≡ None
signal-none [] h = refl
signal-none (Got (Signal kind) ∷ q) h = absurd (cc)
signal-none (Got e ∷ q) h = signal-none q h
signal-none (Told a ∷ q) h = signal-none q h

first-some : (x : Option ShutdownSignal) (kind : ShutdownSignal) → true ≡ is_some (first_or x kind)
first-some (Some earlier) kind = refl
first-some None kind = refl

-- a signal came exactly where there is a first one
pub signal-is : (q : Record) → has is_signal q ≡ is_some (signal_of q)
signal-is [] = refl
signal-is (Got (Signal kind) ∷ q) = first-some (signal_of q) kind
signal-is (Got e ∷ q) = signal-is q
signal-is (Told a ∷ q) = signal-is q

pub on_false : (b : Bool) (P : Type 0) → b ≡ false → OnFalse b P → P
on_false true P e h = absurd (cc)
on_false false P e h = h

pub on_true : (b : Bool) (P : Type 0) → b ≡ true → OnTrue b P → P
on_true true P e h = h
on_true false P e h = absurd (cc)

pub to_false : (b : Bool) (P : Type 0) → P → OnFalse b P
to_false true P h = tt
to_false false P h = h

pub to_true : (b : Bool) (P : Type 0) → P → OnTrue b P
to_true true P h = h
to_true false P h = tt

pub not_false : (b : Bool) (P : Type 0) → b ≡ true → OnFalse b P
not_false true P e = tt
not_false false P e = absurd (cc)

pub not_true : (b : Bool) (P : Type 0) → b ≡ false → OnTrue b P
not_true true P e = absurd (cc)
not_true false P e = tt
