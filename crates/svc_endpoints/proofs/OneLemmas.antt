-- One endpoint's state at each entry.
use Rattle.std.proofs.Common.{ℕ, Bool, true, false, ◌&&◌, not, List, [], ◌∷◌, ◌++◌, ◌≡◌, refl, ap, sym, ◌∙◌, ◌-◌, nat_lt, if◌then◌else◌}
use Rattle.svc_endpoints.specs.declared.states.EndpointStatus.{EndpointStatus}
use Rattle.svc_endpoints.specs.declared.states.EndpointStatus.TheVariants.{Idle, Binding, AddressInUse, Adopting, Holding, AdoptionFailed}
use Rattle.svc_endpoints.specs.EndpointsState.{OneStands, is_binding, is_adopting, is_asking, held_of, fd_of, is_touched}

module _ (x : EndpointStatus) (b a : Bool) (h ad : List ℕ) (w : ℕ → Bool) (on : Bool) (was : OneStands x b a h ad w on) where
  pub one-bind : (here : Bool) → (here ≡ true → (is_adopting x ≡ false) × (held_of x ≡ []) × (on ≡ true))
      → OneStands (if here then Binding else x) (if here then true else b) a h ad (λ t. if here then false else w t) on
  one-bind true f = record {
    binding_is = refl;
    adopting_is = sym (f refl).0 ∙ was.adopting_is;
    held_is = sym (f refl).1 ∙ was.held_is;
    adopts_is = λ e. absurd (cc);
    within_is = λ e t. refl;
    on_is = λ e. (f refl).2;
  }
  one-bind false f = was

  pub one-adopt : (here : Bool) (fd : ℕ) → (here ≡ true → (is_binding x ≡ false) × (held_of x ≡ []) × (on ≡ true))
      → OneStands (if here then Adopting fd else x) b (if here then true else a) h (if here then fd ∷ [] else ad) w on
  one-adopt true fd f = record {
    binding_is = sym (f refl).0 ∙ was.binding_is;
    adopting_is = refl;
    held_is = sym (f refl).1 ∙ was.held_is;
    adopts_is = λ e. refl;
    within_is = λ e t. absurd (cc);
    on_is = λ e. (f refl).2;
  }
  one-adopt false fd f = was

binding_not_adopting : (x : EndpointStatus) → is_binding x ≡ true → is_adopting x ≡ false
binding_not_adopting Binding e = refl
binding_not_adopting Idle e = absurd (cc)
binding_not_adopting (AddressInUse at) e = absurd (cc)
binding_not_adopting (Adopting fd) e = absurd (cc)
binding_not_adopting (Holding fd) e = absurd (cc)
binding_not_adopting AdoptionFailed e = absurd (cc)

pub asking_holds_none : (x : EndpointStatus) → is_asking x ≡ true → held_of x ≡ []
asking_holds_none Binding e = refl
asking_holds_none Idle e = refl
asking_holds_none (AddressInUse at) e = refl
asking_holds_none (Adopting fd) e = refl
asking_holds_none (Holding fd) e = absurd (cc)
asking_holds_none AdoptionFailed e = refl

pub binding_asks : (x : EndpointStatus) → is_binding x ≡ true → is_asking x ≡ true
binding_asks x e = rw e refl

adopting_not_binding : (x : EndpointStatus) → is_adopting x ≡ true → is_binding x ≡ false
adopting_not_binding (Adopting fd) e = refl
adopting_not_binding Idle e = absurd (cc)
adopting_not_binding (AddressInUse at) e = absurd (cc)
adopting_not_binding Binding e = absurd (cc)
adopting_not_binding (Holding fd) e = absurd (cc)
adopting_not_binding AdoptionFailed e = absurd (cc)

adopting_asks : (x : EndpointStatus) → is_adopting x ≡ true → is_asking x ≡ true
adopting_asks x e = rw (e, adopting_not_binding x e) refl

binding_touched : (x : EndpointStatus) → is_binding x ≡ true → is_touched x ≡ true
binding_touched Binding e = refl
binding_touched Idle e = absurd (cc)
binding_touched (AddressInUse at) e = refl
binding_touched (Adopting fd) e = refl
binding_touched (Holding fd) e = refl
binding_touched AdoptionFailed e = refl

adopting_touched : (x : EndpointStatus) → is_adopting x ≡ true → is_touched x ≡ true
adopting_touched Idle e = absurd (cc)
adopting_touched Binding e = refl
adopting_touched (AddressInUse at) e = refl
adopting_touched (Adopting fd) e = refl
adopting_touched (Holding fd) e = refl
adopting_touched AdoptionFailed e = refl

module _ (x : EndpointStatus) (b a : Bool) (h ad : List ℕ) (w : ℕ → Bool) (on : Bool) (was : OneStands x b a h ad w on) where
  pub one-in_use : (here : Bool) (now : ℕ) → (here ≡ true → is_binding x ≡ true)
      → OneStands (if here then AddressInUse now else x) (if here then false else b) a h ad (λ t. if here then nat_lt (t - now) 1000 else w t) on
  one-in_use true now f = record {
    binding_is = refl;
    adopting_is = sym (binding_not_adopting x (f refl)) ∙ was.adopting_is;
    held_is = sym (asking_holds_none x (binding_asks x (f refl))) ∙ was.held_is;
    adopts_is = λ e. absurd (cc);
    within_is = λ e t. refl;
    on_is = λ e. was.on_is (binding_touched x (f refl));
  }
  one-in_use false now f = was

  pub one-bind_failed : (here : Bool) → (here ≡ true → is_binding x ≡ true)
      → OneStands (if here then Idle else x) (if here then false else b) a h ad (λ t. if here then false else w t) on
  one-bind_failed true f = record {
    binding_is = refl;
    adopting_is = sym (binding_not_adopting x (f refl)) ∙ was.adopting_is;
    held_is = sym (asking_holds_none x (binding_asks x (f refl))) ∙ was.held_is;
    adopts_is = λ e. absurd (cc);
    within_is = λ e t. refl;
    on_is = λ e. absurd (cc);
  }
  one-bind_failed false f = was

  pub one-bound : (here doubled : Bool) (fd : ℕ) → (here ≡ true → is_binding x ≡ true)
      → OneStands (if here then (if doubled then Idle else Holding fd) else x) (if here then false else b) a
      ((if here && not doubled then fd ∷ [] else []) ++ h) ad (λ t. if here then false else w t) on
  one-bound true true fd f = record {
    binding_is = refl;
    adopting_is = sym (binding_not_adopting x (f refl)) ∙ was.adopting_is;
    held_is = sym (asking_holds_none x (binding_asks x (f refl))) ∙ was.held_is;
    adopts_is = λ e. absurd (cc);
    within_is = λ e t. refl;
    on_is = λ e. absurd (cc);
  }
  one-bound true false fd f = record {
    binding_is = refl;
    adopting_is = sym (binding_not_adopting x (f refl)) ∙ was.adopting_is;
    held_is = ap (λ (l : List ℕ). fd ∷ l) (sym (asking_holds_none x (binding_asks x (f refl))) ∙ was.held_is);
    adopts_is = λ e. absurd (cc);
    within_is = λ e t. absurd (cc);
    on_is = λ e. was.on_is (binding_touched x (f refl));
  }
  one-bound false doubled fd f = was

  pub one-adopted : (here : Bool) (fd : ℕ) → (here ≡ true → (is_adopting x ≡ true) × (fd_of x ≡ fd ∷ []))
      → OneStands (if here then Holding fd else x) b (if here then false else a) ((if here then ad else []) ++ h) ad w on
  one-adopted true fd f = record {
    binding_is = sym (adopting_not_binding x (f refl).0) ∙ was.binding_is;
    adopting_is = refl;
    held_is = sym (f refl).1 ∙ was.adopts_is (f refl).0 ∙ sym (append-nil ad h (sym was.held_is ∙ asking_holds_none x (adopting_asks x (f refl).0)));
    adopts_is = λ e. absurd (cc);
    within_is = λ e t. absurd (cc);
    on_is = λ e. was.on_is (adopting_touched x (f refl).0);
  }
    where
      append-nil : (xs ys : List ℕ) → ys ≡ [] → xs ++ ys ≡ xs
      append-nil [] ys e = e
      append-nil (z ∷ xs) ys e = ap (λ (l : List ℕ). z ∷ l) (append-nil xs ys e)
  one-adopted false fd f = was

  pub one-adopt_failed : (here : Bool) → (here ≡ true → is_adopting x ≡ true)
      → OneStands (if here then AdoptionFailed else x) b (if here then false else a) h ad w on
  one-adopt_failed true f = record {
    binding_is = sym (adopting_not_binding x (f refl)) ∙ was.binding_is;
    adopting_is = refl;
    held_is = sym (asking_holds_none x (adopting_asks x (f refl))) ∙ was.held_is;
    adopts_is = λ e. absurd (cc);
    within_is = λ e t. absurd (cc);
    on_is = λ e. was.on_is (adopting_touched x (f refl));
  }
  one-adopt_failed false f = was
