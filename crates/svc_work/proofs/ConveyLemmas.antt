-- What went on so far, and more.
use Rattle.std.proofs.Common.{◌≡◌, ℕ, ◌+◌, ◌-◌, ◌≤◌, List, [], ◌++◌, Option, length, take, drop, refl, sym, ap, ◌∙◌, append_assoc, length-append, arith}
use Rattle.std.proofs.lemmas.List.{append-nil, take-append-drop, take_rest}
use Rattle.std.proofs.KnownBytes.{Appends-trans, Consumes-trans, Appends-nil, Consumes-nil}
use Rattle.std.specs.Io.KnownBytes.{Appends}
use Rattle.svc_work.specs.Conveying.{Conveys, EndsRight, Flushes, GoesOn, Keeps, Waits}
use Rattle.svc_work.specs.declared.conveying.Conveyed.{Conveyed}
use Rattle.svc_work.specs.declared.conveying.Conveyed.TheVariants as outcomes

-- some came and some went on, and the rest waits
abbrev pub SoFar : (left left' written written' : Option (List ℕ)) (waiting waiting' : List ℕ) → Type 0
SoFar left left' written written' waiting waiting' = Conveys left left' written written' waiting waiting' outcomes.More

-- nothing yet
pub nothing_yet : (left written : Option (List ℕ)) (waiting : List ℕ) → SoFar left left written written waiting waiting
nothing_yet left written waiting = record {
  came = [];
  went = [];
  rest = waiting;
  taken = Consumes-nil left;
  wrote = Appends-nil written;
  whole = append-nil waiting;
  waits = refl;
  ends = tt;
}

-- nothing any more
pub nothing_more : (left written : Option (List ℕ)) (waiting : List ℕ) → Conveys left left written written waiting waiting outcomes.Over
nothing_more left written waiting = record {
  came = [];
  went = [];
  rest = waiting;
  taken = Consumes-nil left;
  wrote = Appends-nil written;
  whole = append-nil waiting;
  waits = refl;
  ends = tt;
}

-- the rest of what came first, and what came then
whole_of : (waiting came went middle came' went' rest : List ℕ) → waiting ++ came ≡ went ++ middle → middle ++ came' ≡ went' ++ rest
    → waiting ++ (came ++ came') ≡ (went ++ went') ++ rest
whole_of waiting came went middle came' went' rest p q =
    sym (append_assoc waiting came came')
    ∙ (ap (λ (l : List ℕ). l ++ came') p ∙ (append_assoc went middle came' ∙ (ap (λ (l : List ℕ). went ++ l) q ∙ sym (append_assoc went went' rest))))

-- and then more
pub conveys_more : (a b c v w x : Option (List ℕ)) (waiting middle after : List ℕ) (outcome : Conveyed) → SoFar a b v w waiting middle
    → Conveys b c w x middle after outcome → Conveys a c v x waiting after outcome
conveys_more a b c v w x waiting middle after outcome first more = record {
  came = first.came ++ more.came;
  went = first.went ++ more.went;
  rest = more.rest;
  taken = Consumes-trans a b c first.came more.came first.taken more.taken;
  wrote = Appends-trans v w x first.went more.went first.wrote more.wrote;
  whole = whole_of waiting first.came first.went middle more.came more.went more.rest
      (first.whole ∙ ap (λ (l : List ℕ). first.went ++ l) (sym first.waits)) more.whole;
  waits = more.waits;
  ends = more.ends;
}

-- what goes on ends nothing
ends_nothing : (outcome : Conveyed) (left : Option (List ℕ)) (waiting : List ℕ) → GoesOn outcome → EndsRight outcome left waiting
ends_nothing outcomes.End left waiting on = absurd on
ends_nothing outcomes.Over left waiting on = absurd on
ends_nothing outcomes.NoMemory left waiting on = tt
ends_nothing outcomes.More left waiting on = tt
ends_nothing outcomes.ReadFault left waiting on = tt
ends_nothing outcomes.WriteFault left waiting on = tt

-- a call of the sink alone
pub flushed : (left w x : Option (List ℕ)) (waiting after : List ℕ) (outcome : Conveyed) → Flushes w x waiting after outcome
    → Conveys left left w x waiting after outcome
flushed left w x waiting after outcome flushes = record {
  came = [];
  went = flushes.went;
  rest = flushes.rest;
  taken = Consumes-nil left;
  wrote = flushes.wrote;
  whole = append-nil waiting ∙ flushes.whole;
  waits = flushes.waits;
  ends = ends_nothing outcome left after flushes.on;
}

-- what waits is no more than the rest
few_wait : (outcome : Conveyed) (waiting rest : List ℕ) → Waits outcome waiting rest → length waiting ≤ length rest
few_wait outcomes.NoMemory waiting rest h = omega (arith, ap length h)
few_wait outcomes.More waiting rest h = omega (arith, ap length h)
few_wait outcomes.ReadFault waiting rest h = omega (arith, ap length h)
few_wait outcomes.WriteFault waiting rest h = omega (arith, ap length h)
few_wait outcomes.End waiting rest h = omega (arith, ap length h)
few_wait outcomes.Over waiting rest h = omega (arith, ap length h)

-- nor than there was
pub flushes_few : (w x : Option (List ℕ)) (bytes waiting : List ℕ) (outcome : Conveyed) → Flushes w x bytes waiting outcome
    → length waiting ≤ length bytes
flushes_few w x bytes waiting outcome flushes =
    let few : length waiting ≤ length flushes.rest = few_wait outcome waiting flushes.rest flushes.waits in
    let whole : length bytes ≡ length flushes.went + length flushes.rest = ap length flushes.whole ∙ length-append flushes.went flushes.rest in
    omega arith

-- what is kept behind a front that was taken waits
kept_waits : (outcome : Conveyed) (waiting rest : List ℕ) → Keeps waiting rest outcomes.More outcome → Waits outcome waiting rest
kept_waits outcomes.NoMemory waiting rest keeps = keeps
kept_waits outcomes.More waiting rest keeps = keeps.0
kept_waits outcomes.ReadFault waiting rest keeps = keeps.0
kept_waits outcomes.WriteFault waiting rest keeps = keeps.0
kept_waits outcomes.End waiting rest keeps = keeps.0
kept_waits outcomes.Over waiting rest keeps = keeps.0

kept_goes_on : (outcome : Conveyed) (waiting rest : List ℕ) → Keeps waiting rest outcomes.More outcome → GoesOn outcome
kept_goes_on outcomes.NoMemory waiting rest keeps = tt
kept_goes_on outcomes.More waiting rest keeps = tt
kept_goes_on outcomes.ReadFault waiting rest keeps = tt
kept_goes_on outcomes.WriteFault waiting rest keeps = tt
kept_goes_on outcomes.End waiting rest keeps = cc (keeps.1)
kept_goes_on outcomes.Over waiting rest keeps = cc (keeps.1)

-- a front was taken, and the rest kept
pub front_taken : (w x : Option (List ℕ)) (bytes waiting : List ℕ) (count : ℕ) (outcome : Conveyed) → Appends w x (take count bytes)
    → Keeps waiting (take (length bytes - count) (drop count bytes)) outcomes.More outcome → Flushes w x bytes waiting outcome
front_taken w x bytes waiting count outcome wrote keeps = record {
  went = take count bytes;
  rest = take (length bytes - count) (drop count bytes);
  whole = sym (ap (λ (l : List ℕ). take count bytes ++ l) (take_rest bytes count) ∙ take-append-drop count bytes);
  wrote = wrote;
  waits = kept_waits outcome waiting (take (length bytes - count) (drop count bytes)) keeps;
  on = kept_goes_on outcome waiting (take (length bytes - count) (drop count bytes)) keeps;
}
