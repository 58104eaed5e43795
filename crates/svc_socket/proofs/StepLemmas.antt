-- Options that were set one after the other.
use Rattle.std.proofs.Common.{◌≡◌, ℕ, ◌+◌, ◌<◌, ◌≤◌, true, false, List, [], ◌∷◌, ◌++◌, length, get_or, take, drop, Option, Some, None, Result, Ok, Err, refl, sym, ap, subst, ◌∙◌, append_assoc, arith, inl, inr}
use Rattle.std.specs.List.{cons_option}
use Rattle.std.specs.Option.{option_to_list}
use Rattle.std.proofs.lemmas.List.{take_more, take-append-drop, length-append}
use Rattle.std.proofs.lemmas.List.Elements.{filter_map-append}
use Rattle.svc_base.specs.Streams.{Rose}
use Rattle.svc_base.specs.Calls.{Adds}
use Rattle.svc_base.proofs.CallLemmas.{Adds-then, Stays-then}
use Rattle.svc_socket.specs.OptionsData.{OptionsData, IsAsked}
use Rattle.svc_socket.specs.Steps.{Steps, given, set_calls, AllSet, Sets}
use Rattle.svc_socket.specs.declared.options.SockOption.{SockOption}
use Rattle.svc_socket.specs.declared.options.OptionCall.{OptionCall}
use Rattle.svc_socket.specs.declared.protocols.l4.ext.OptionError.{OptionError}

abbrev pub Answer : Type 0
Answer = Result (Unit {0}) OptionError

set_calls-append : (xs ys : Steps) → set_calls (xs ++ ys) ≡ set_calls xs ++ set_calls ys
set_calls-append [] ys = refl
set_calls-append (x ∷ xs) ys = ap (λ (zs : List OptionCall). record { option = x.0; set = true } ∷ zs) (set_calls-append xs ys)

-- the places that both took
pub places : {X : Type 0} (xs ys : List X) (a b c : ℕ) → a ≤ b + length xs → b ≤ c + length ys → a ≤ c + length (xs ++ ys)
places xs ys a b c p q = let e : length (xs ++ ys) ≡ length xs + length ys = length-append xs ys in omega (arith, p, q, e)

all_then : (xs ys : Steps) (last : Answer) (a b c : OptionsData) (r : Answer) → AllSet xs (Ok tt) a b (Ok tt) → Sets ys last b c r → Sets (xs ++ ys) last a c r
all_then xs ys last a b c r p (inl q) =
    inl (record {
      called = subst (Adds a.called c.called) (sym (set_calls-append xs ys)) (Adds-then a.called b.called c.called _ _ p.called q.called);
      stays = Stays-then p.stays q.stays;
      place = places xs ys a.room b.room c.room p.place q.place;
      family = q.family ∙ p.family;
      faults = q.faults ∙ p.faults;
      answer_is = q.answer_is;
    })
all_then xs ys last a b c r p (inr q) =
    let last_call : List OptionCall = record { option = q.failed.0; set = false } ∷ [] in
    inr (record {
      front = xs ++ q.front;
      failed = q.failed;
      back = q.back;
      all = ap (λ (zs : Steps). xs ++ zs) q.all ∙ sym (append_assoc xs q.front (q.failed ∷ q.back));
      called = subst (Adds a.called c.called)
          (sym (append_assoc (set_calls xs) (set_calls q.front) last_call) ∙ ap (λ (zs : List OptionCall). zs ++ last_call) (sym (set_calls-append xs q.front)))
          (Adds-then a.called b.called c.called _ _ p.called q.called);
      stays = Stays-then p.stays q.stays;
      place = places xs ys a.room b.room c.room p.place q.place;
      family = q.family ∙ p.family;
      faults = subst (λ (n : ℕ). Rose n c.faults) p.faults q.faults;
      answer_is = q.answer_is;
    })

-- these, all of which were set, and then those
pub Sets-then : (xs ys : Steps) (last : Answer) (a b c : OptionsData) (r : Answer) → Sets xs (Ok tt) a b (Ok tt) → Sets ys last b c r
    → Sets (xs ++ ys) last a c r
Sets-then xs ys last a b c r (inl p) q = all_then xs ys last a b c r p q
Sets-then xs ys last a b c r (inr p) q = absurd (cc (p.answer_is))

-- where one failed, the later ones weren't tried
pub Sets-rest : (xs ys : Steps) (last : Answer) (a b : OptionsData) (e : OptionError) → Sets xs (Ok tt) a b (Err e) → Sets (xs ++ ys) last a b (Err e)
Sets-rest xs ys last a b e (inl p) = absurd (cc (p.answer_is))
Sets-rest xs ys last a b e (inr p) =
    inr (record {
      front = p.front;
      failed = p.failed;
      back = p.back ++ ys;
      all = ap (λ (zs : Steps). zs ++ ys) p.all ∙ append_assoc p.front (p.failed ∷ p.back) ys;
      called = p.called;
      stays = p.stays;
      place = let e : length (xs ++ ys) ≡ length xs + length ys = length-append xs ys in omega (arith, p.place, e);
      family = p.family;
      faults = p.faults;
      answer_is = p.answer_is;
    })

one_given : {A : Type 0} (o : Option A) → cons_option o [] ≡ option_to_list o
one_given None = refl
one_given (Some x) = refl

given-more : (steps : List (Option (SockOption × OptionError))) (n : ℕ) (d : Option (SockOption × OptionError)) → n < length steps
    → given (take (n + 1) steps) ≡ given (take n steps) ++ option_to_list (get_or steps n d)
given-more steps n d h =
    ap given (take_more steps n d h) ∙ filter_map-append (λ step. step) (take n steps) (get_or steps n d ∷ [])
    ∙ ap (λ (zs : Steps). given (take n steps) ++ zs) (one_given (get_or steps n d))

given-front : (steps : List (Option (SockOption × OptionError))) (n : ℕ) → given steps ≡ given (take n steps) ++ given (drop n steps)
given-front steps n = ap given (sym (take-append-drop n steps)) ∙ filter_map-append (λ step. step) (take n steps) (drop n steps)

pub sets_more : (steps : List (Option (SockOption × OptionError))) (n : ℕ) (d : Option (SockOption × OptionError)) (a b c : OptionsData) (r : Answer)
    → n < length steps
    → Sets (given (take n steps)) (Ok tt) a b (Ok tt) → Sets (option_to_list (get_or steps n d)) (Ok tt) b c r → Sets (given (take (n + 1) steps)) (Ok tt) a c r
sets_more steps n d a b c r h p q =
    subst (λ (zs : Steps). Sets zs (Ok tt) a c r) (sym (given-more steps n d h))
    (Sets-then (given (take n steps)) (option_to_list (get_or steps n d)) (Ok tt) a b c r p q)

pub sets_front : (steps : List (Option (SockOption × OptionError))) (n : ℕ) (last : Answer) (a c : OptionsData) (e : OptionError)
    → Sets (given (take n steps)) (Ok tt) a c (Err e) → Sets (given steps) last a c (Err e)
sets_front steps n last a c e p =
    subst (λ (zs : Steps). Sets zs last a c (Err e)) (sym (given-front steps n)) (Sets-rest (given (take n steps)) (given (drop n steps)) last a c e p)

-- one option that couldn't be set
pub step_failed : (step : Option (SockOption × OptionError)) (x : SockOption × OptionError) (b c : OptionsData) → step ≡ Some x → IsAsked b c x.0 false
    → Sets (option_to_list step) (Ok tt) b c (Err x.1)
step_failed step x b c e h =
    subst (λ (s : Option (SockOption × OptionError)). Sets (option_to_list s) (Ok tt) b c (Err x.1)) (sym e)
    (inr (record {
      front = [];
      failed = x;
      back = [];
      all = refl;
      called = h.called;
      stays = h.stays;
      place = h.place;
      family = h.family;
      faults = h.faults;
      answer_is = refl;
    }))

-- ---- what is answered behind them

failed_so : (xs : Steps) (last : Answer) (a b : OptionsData) (e : OptionError) → Sets xs (Ok tt) a b (Err e) → Sets xs last a b (Err e)
failed_so xs last a b e (inl p) = absurd (cc (p.answer_is))
failed_so xs last a b e (inr p) = inr p

ended_so : (xs : Steps) (last : Answer) (a b : OptionsData) → Sets xs (Ok tt) a b (Ok tt) → Sets xs last a b last
ended_so xs last a b (inl p) = inl (record { called = p.called; stays = p.stays; place = p.place; family = p.family; faults = p.faults; answer_is = refl })
ended_so xs last a b (inr p) = absurd (cc (p.answer_is))

pub Sets-failed : (xs ys : Steps) (last : Answer) (a b : OptionsData) (e : OptionError) → xs ≡ ys → Sets xs (Ok tt) a b (Err e) → Sets ys last a b (Err e)
Sets-failed xs ys last a b e s p = subst (λ (zs : Steps). Sets zs last a b (Err e)) s (failed_so xs last a b e p)

pub Sets-ended : (xs ys : Steps) (r last : Answer) (a b : OptionsData) → xs ≡ ys → r ≡ last → Sets xs (Ok tt) a b (Ok tt) → Sets ys last a b r
Sets-ended xs ys r last a b s t p =
    subst (λ (x : Answer). Sets ys last a b x) (sym t) (subst (λ (zs : Steps). Sets zs last a b last) s (ended_so xs last a b p))
