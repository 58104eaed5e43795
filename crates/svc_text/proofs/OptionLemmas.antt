-- The options of a line's endpoints.
use Rattle.std.proofs.Common.{◌≡◌, ℕ, zero, suc, ◌+◌, ◌<◌, Bool, true, false, cond, List, [], ◌∷◌, ◌++◌, length, get_or, take, set, All, Option, Some, None, IfSome, OnOk, Ok, Err, refl, sym, ap, subst, ◌∙◌, arith, add-zero, zero-add}
use Rattle.std.specs.Prelude.{Result}
use Rattle.std.specs.Option.{option_or}
use Rattle.std.proofs.lemmas.List.{take_more, length-take-le}
use Rattle.svc_base.specs.declared.settings.Setting.{Setting}
use Rattle.svc_text.specs.declared.service.EndpointLine.{EndpointLine}
use Rattle.svc_text.specs.ServiceLines.{is_address}
use Rattle.svc_text.specs.EndpointOptions.{last_tcp_from, with_option, with_option_at}

pub with_option_at-length : (k : ℕ) (option : Setting) (es : List EndpointLine) → length (with_option_at k option es) ≡ length es
with_option_at-length k option [] = refl
with_option_at-length zero option (e ∷ es) = refl
with_option_at-length (suc k) option (e ∷ es) = ap suc (with_option_at-length k option es)

-- the addresses stay
pub with_option_at-addresses : (k : ℕ) (option : Setting) (es : List EndpointLine) → All (λ (e : EndpointLine). is_address e.address ≡ true) es
    → All (λ (e : EndpointLine). is_address e.address ≡ true) (with_option_at k option es)
with_option_at-addresses k option [] h i d lt = h i d lt
with_option_at-addresses zero option (e ∷ es) h zero d lt = h 0 e (omega arith)
with_option_at-addresses zero option (e ∷ es) h (suc i) d lt = h (suc i) d (omega arith)
with_option_at-addresses (suc k) option (e ∷ es) h zero d lt = h 0 e (omega arith)
with_option_at-addresses (suc k) option (e ∷ es) h (suc i) d lt =
    with_option_at-addresses k option es (λ j x below. h (suc j) x (omega arith)) i d (omega arith)

-- a write of the endpoint with the option
pub with_option_at-set : (k : ℕ) (option : Setting) (es : List EndpointLine) (e : EndpointLine) → k < length es → e ≡ get_or es k e
    → set es k (with_option option e) ≡ with_option_at k option es
with_option_at-set k option [] e lt is = absurd (omega arith)
with_option_at-set zero option (x ∷ es) e lt is = ap (λ (y : EndpointLine). with_option option y ∷ es) is
with_option_at-set (suc k) option (x ∷ es) e lt is = ap (λ (more : List EndpointLine). x ∷ more) (with_option_at-set k option es e (omega arith) is)

-- the same, where memory was found for the option
pub option_added : {A E : Type 0} (k : ℕ) (option : Setting) (es now : List EndpointLine) (e : EndpointLine) (options : List Setting) (r : Result A E)
    → es ≡ now → k < length now → e ≡ get_or es k e → OnOk r (options ≡ e.options ++ option ∷ [])
    → OnOk r (set es k (record { address = e.address; unix = e.unix; options = options }) ≡ with_option_at k option now)
option_added k option es now e options (Err x) same lt is h = tt
option_added k option es now e options (Ok x) same lt is h =
    let inside : k < length es = omega (arith, ap length same) in
    ap (λ (os : List Setting). set es k (record { address = e.address; unix = e.unix; options = os })) h ∙ with_option_at-set k option es e inside is
    ∙ ap (with_option_at k option) same

-- one more endpoint behind the others
last_push : (n : ℕ) (es : List EndpointLine) (e : EndpointLine) → last_tcp_from n (es ++ e ∷ []) ≡ cond e.unix (last_tcp_from n es) (Some (n + length es))
last_push n [] e = by e.unix
  where
    by : (b : Bool) → option_or None (cond b None (Some n)) ≡ cond b None (Some (n + 0))
    by true = refl
    by false = ap Some (sym (add-zero n))
last_push n (x ∷ es) e = ap (λ (o : Option ℕ). option_or o (cond x.unix None (Some n))) (last_push (n + 1) es e) ∙ by e.unix
  where
    by : (b : Bool)
        → option_or (cond b (last_tcp_from (n + 1) es) (Some ((n + 1) + length es))) (cond x.unix None (Some n))
        ≡ cond b (last_tcp_from n (x ∷ es)) (Some (n + length (x ∷ es)))
    by true = refl
    by false = ap Some (omega arith)

-- one more step of a loop over the endpoints
last_more : (es : List EndpointLine) (k : ℕ) (e : EndpointLine) → k < length es → e ≡ get_or es k e
    → last_tcp_from 0 (take (k + 1) es) ≡ cond e.unix (last_tcp_from 0 (take k es)) (Some k)
last_more es k e lt is =
    let cut : take (k + 1) es ≡ take k es ++ e ∷ [] = take_more es k e lt ∙ ap (λ (x : EndpointLine). take k es ++ x ∷ []) (sym is) in
    let count : length (take k es) ≡ k = length-take-le k es (omega arith) in
    ap (last_tcp_from 0) cut ∙ last_push 0 (take k es) e
    ∙ ap (λ (n : ℕ). cond e.unix (last_tcp_from 0 (take k es)) (Some n)) (zero-add (length (take k es)) ∙ count)

-- what the loop keeps
pub record IsLast (es : List EndpointLine) (k : ℕ) (last : Option ℕ) : Type 0 where
  pub number : last ≡ last_tcp_from 0 (take k es)
  pub within : IfSome last (λ j. j < k)

within_more : (k : ℕ) (o : Option ℕ) → IfSome o (λ j. j < k) → IfSome o (λ j. j < k + 1)
within_more k None h = tt
within_more k (Some j) h = omega (arith, h)

-- a TCP endpoint, and a Unix one
pub last_taken : (es : List EndpointLine) (k : ℕ) (e : EndpointLine) (last : Option ℕ) → k < length es → e ≡ get_or es k e → e.unix ≡ false → last ≡ Some k
    → IsLast es (k + 1) last
last_taken es k e last lt is tcp now = record {
  number = now ∙ sym (last_more es k e lt is ∙ ap (λ (b : Bool). cond b (last_tcp_from 0 (take k es)) (Some k)) tcp);
  within = subst (λ (o : Option ℕ). IfSome o (λ j. j < k + 1)) (sym now) (omega arith);
}

pub last_passed : (es : List EndpointLine) (k : ℕ) (e : EndpointLine) (last before : Option ℕ) → k < length es → e ≡ get_or es k e → e.unix ≡ true
    → last ≡ before → IsLast es k before → IsLast es (k + 1) last
last_passed es k e last before lt is unix now h = record {
  number = now ∙ h.number ∙ sym (last_more es k e lt is ∙ ap (λ (b : Bool). cond b (last_tcp_from 0 (take k es)) (Some k)) unix);
  within = subst (λ (o : Option ℕ). IfSome o (λ j. j < k + 1)) (sym now) (within_more k before h.within);
}
