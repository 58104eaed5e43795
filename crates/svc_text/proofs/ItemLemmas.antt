-- How `with_items` goes along the words of a line.
use Rattle.std.proofs.Common.{◌≡◌, ℕ, Bool, true, false, List, [], ◌∷◌, Option, Some, None, refl}
use Rattle.svc_text.specs.declared.service.ServiceLine.{ServiceLine}
use Rattle.svc_text.specs.ServiceLines.{Takes, with_undeclared, with_item, is_undeclared, with_items}

pub items_end : (s : ServiceLine) (ws : List (List ℕ)) → ws ≡ [] → with_items s ws ≡ Some s
unfolding with_items
items_end s ws e = rw e refl

-- of the words that they are
pub items_of : (s : ServiceLine) (key : List ℕ) (ws vs : List (List ℕ)) (o : Option ServiceLine) → ws ≡ key ∷ vs → with_items s (key ∷ vs) ≡ o
    → with_items s ws ≡ o
items_of s key ws vs o e h = rw e h

pub undeclared_not : (s : ServiceLine) (key : List ℕ) (ws : List (List ℕ)) → is_undeclared key ≡ true → with_undeclared s ≡ None
    → with_items s (key ∷ ws) ≡ None
unfolding with_items
undeclared_not s key [] h e = rw (h, e) refl
undeclared_not s key (value ∷ more) h e = rw (h, e) refl

pub undeclared_taken : (s t : ServiceLine) (key : List ℕ) (ws : List (List ℕ)) → is_undeclared key ≡ true → with_undeclared s ≡ Some t
    → with_items s (key ∷ ws) ≡ with_items t ws
unfolding with_items
undeclared_taken s t key [] h e = rw (h, e) refl
undeclared_taken s t key (value ∷ more) h e = rw (h, e) refl

pub pair_odd : (s : ServiceLine) (key : List ℕ) (ws : List (List ℕ)) → is_undeclared key ≡ false → ws ≡ [] → with_items s (key ∷ ws) ≡ None
unfolding with_items
pair_odd s key ws h e = rw (e, h) refl

pub pair_not : (s : ServiceLine) (key value : List ℕ) (ws more : List (List ℕ)) → is_undeclared key ≡ false → ws ≡ value ∷ more → with_item s key value ≡ None
    → with_items s (key ∷ ws) ≡ None
unfolding with_items
pair_not s key value ws more h e f = rw (e, h, f) refl

pub pair_taken : (s t : ServiceLine) (key value : List ℕ) (ws more : List (List ℕ)) → is_undeclared key ≡ false → ws ≡ value ∷ more
    → with_item s key value ≡ Some t → with_items s (key ∷ ws) ≡ with_items t more
unfolding with_items
pair_taken s t key value ws more h e f = rw (e, h, f) refl

pub not_taken : (b : Bool) (o : Option ServiceLine) (s : ServiceLine) → b ≡ false → Takes b o s → o ≡ None
not_taken false o s e h = h
not_taken true o s e h = absurd cc

pub taken : (b : Bool) (o : Option ServiceLine) (s : ServiceLine) → b ≡ true → Takes b o s → o ≡ Some s
taken true o s e h = h
taken false o s e h = absurd cc
