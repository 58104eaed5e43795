-- How an address came to its descriptor.
use Rattle.std.proofs.Common.{◌≡◌, ℕ, true, false, List, Some, None, Ok, Err, refl, sym, subst, ap, ◌∙◌}
use Rattle.svc_fds.specs.Tables.{Entry, lookup, put}
use Rattle.svc_listen.specs.Addresses.{text_of}
use Rattle.svc_listen.specs.BinderData.{BinderData, IsAdopted}
use Rattle.svc_listen.specs.Binding.{Tried, Reaches, adopted, not_adopted, bound, no_memory}
use Rattle.svc_listen.specs.declared.listeners.l4.ServerAddress.{ServerAddress}
use Rattle.svc_listen.specs.declared.listeners.l4.binding.BindErrorKind.TheVariants.{AdoptFailed}
use Rattle.svc_listen.specs.declared.listeners.l4.binding.ListenError.TheVariants.{BindError, NoMemory}

pub reaches-adopted : {S : Type 0} (seen : S → BinderData) (address : ServerAddress) (entries : List Entry) (a b : S) (text : List ℕ) (fd : ℕ)
    → text ≡ text_of address → Some fd ≡ lookup text entries
    → IsAdopted (seen a) (seen b) address fd true → Reaches seen address (Some entries) a b (Some entries) (Ok fd)
reaches-adopted seen address entries a b text fd t found p = adopted fd (ap (λ x. lookup x entries) (sym t) ∙ sym found) p

pub reaches-not_adopted : {S : Type 0} (seen : S → BinderData) (address : ServerAddress) (entries : List Entry) (a b : S) (text : List ℕ) (fd : ℕ)
    → text ≡ text_of address → Some fd ≡ lookup text entries
    → IsAdopted (seen a) (seen b) address fd false → Reaches seen address (Some entries) a b (Some entries) (Err (BindError AdoptFailed))
reaches-not_adopted seen address entries a b text fd t found p = not_adopted fd (ap (λ x. lookup x entries) (sym t) ∙ sym found) p

pub reaches-nothing : {S : Type 0} (seen : S → BinderData) (address : ServerAddress) (entries now : List Entry) (a : S) (text : List ℕ) → text ≡ text_of address
    → None ≡ lookup text entries → now ≡ entries
    → Reaches seen address (Some entries) a a (Some now) (Err NoMemory)
reaches-nothing seen address entries now a text t found e =
    subst (λ (x : List Entry). Reaches seen address (Some entries) a a (Some x) (Err NoMemory)) (sym e)
    (no_memory entries refl (ap (λ x. lookup x entries) (sym t) ∙ sym found) refl)

pub reaches-bound : {S : Type 0} (seen : S → BinderData) (address : ServerAddress) (entries now : List Entry) (a b : S) (text : List ℕ) (fd number : ℕ)
    → lookup (text_of address) entries ≡ None → text ≡ text_of address
    → Tried (seen a) (seen b) address (Ok fd) → now ≡ put text fd entries → number ≡ fd → Reaches seen address (Some entries) a b (Some now) (Ok number)
reaches-bound seen address entries now a b text fd number free t p e n =
    subst (λ (x : ℕ). Reaches seen address (Some entries) a b (Some now) (Ok x)) (sym n)
    (subst (λ (x : List Entry). Reaches seen address (Some entries) a b (Some x) (Ok fd)) (sym (e ∙ ap (λ x. put x fd entries) t)) (bound fd free p))
