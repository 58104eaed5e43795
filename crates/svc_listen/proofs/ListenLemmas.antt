-- What came of listening.
use Rattle.std.proofs.Common.{◌≡◌, ℕ, List, Option, Some, None, Ok, Err, not, refl, sym, subst, suc, ◌+◌, ◌^◌, ◌-◌, ◌≤◌, min, arith, add-one}
use Rattle.std.specs.Prelude.{is_some, Result}
use Rattle.svc_fds.specs.Tables.{Entry}
use Rattle.svc_listen.specs.BinderData.{BinderData}
use Rattle.svc_listen.specs.Binding.{RoseBy, Tried, Reaches, adopted, not_adopted, bound, not_bound, no_memory}
use Rattle.svc_listen.specs.ListeningData.{BuilderData, ListeningData}
use Rattle.svc_listen.specs.Listening.{Listens, no_address, reaches, listening, ListenCause}
use Rattle.svc_listen.specs.declared.listeners.l4.ServerAddress.{ServerAddress}
use Rattle.svc_listen.specs.declared.listeners.l4.binding.ListenError.{ListenError}
use Rattle.svc_listen.specs.declared.listeners.l4.binding.ListenError.TheVariants.{NoAddress, BindError}
use Rattle.svc_listen.specs.declared.listeners.l4.binding.BindErrorKind.{BindErrorKind}
use Rattle.svc_listen.specs.declared.listeners.l4.binding.BindErrorKind.TheVariants.{AdoptFailed, Failed, StillInUse}
use Rattle.svc_base.specs.Streams.{Rose}

pub listens-no_address : {S : Type 0} (seen : S → BinderData) (builder : BuilderData) (table : Option (List Entry)) (a : S) (given : Option ServerAddress)
    (filter : Option ℕ) (reason : ListenError)
    → record { address = given; filter = filter } ≡ builder → given ≡ None → reason ≡ NoAddress → Listens seen builder table a a table (Err reason)
listens-no_address seen builder table a given filter reason view none is =
    subst (λ (b : BuilderData). Listens seen b table a a table (Err reason)) view
    (subst (λ (r : ListenError). Listens seen (record { address = given; filter = filter }) table a a table (Err r)) (sym is) (no_address none refl))

pub listens-ok : {S : Type 0} (seen : S → BinderData) (builder : BuilderData) (table after : Option (List Entry)) (a b : S) (given : Option ServerAddress)
    (filter : Option ℕ) (address : ServerAddress) (fd : ℕ) (endpoint : ListeningData)
    → record { address = given; filter = filter } ≡ builder → given ≡ Some address → Reaches seen address table a b after (Ok fd)
    → endpoint ≡ record { address = address; fd = fd; owned = not (is_some table); filter = filter } → Listens seen builder table a b after (Ok endpoint)
listens-ok seen builder table after a b given filter address fd endpoint view some p is =
    subst (λ (x : BuilderData). Listens seen x table a b after (Ok endpoint)) view
    (subst (λ (e : ListeningData). Listens seen (record { address = given; filter = filter }) table a b after (Ok e)) (sym is)
    (reaches address after (Ok fd) some p))

pub listens-err : {S : Type 0} (seen : S → BinderData) (builder : BuilderData) (table after : Option (List Entry)) (a b : S) (given : Option ServerAddress)
    (filter : Option ℕ) (address : ServerAddress) (reason reason' : ListenError)
    → record { address = given; filter = filter } ≡ builder → given ≡ Some address → Reaches seen address table a b after (Err reason) → reason' ≡ reason
    → Listens seen builder table a b after (Err reason')
listens-err seen builder table after a b given filter address reason reason' view some p is =
    subst (λ (x : BuilderData). Listens seen x table a b after (Err reason')) view
    (subst (λ (e : ListenError). Listens seen (record { address = given; filter = filter }) table a b after (Err e)) (sym is)
    (reaches address after (Err reason) some p))

-- ---- why there is no endpoint

rose_once : (m k before now : ℕ) → min (before + suc k) m ≤ now → min (before + 1) m ≤ now
rose_once m k before now h = omega arith

rose_of : (busy before now : ℕ) → RoseBy (busy + 1) before now → Rose before now
rose_of busy before now h = rose_once (2 ^ 64 - 1) busy before now (rw add-one at h)

tries-cause : (before now : BinderData) (address : ServerAddress) (kind : BindErrorKind) (endpoint : Result ListeningData ListenError)
    → endpoint ≡ Err (BindError kind) → Tried before now address (Err kind) → ListenCause endpoint before now
tries-cause before now address AdoptFailed endpoint e p = absurd p
tries-cause before now address Failed endpoint e p = subst (λ (r : Result ListeningData ListenError). ListenCause r before now) (sym e) p.faults
tries-cause before now address StillInUse endpoint e p =
    subst (λ (r : Result ListeningData ListenError). ListenCause r before now) (sym e) (rose_of p.busy before.waits now.waits p.waits)

reaches-cause : {S : Type 0} (seen : S → BinderData) (builder : BuilderData) (address : ServerAddress) (table : Option (List Entry)) (a b : S)
    (after : Option (List Entry)) (reached : Result ℕ ListenError)
    → Reaches seen address table a b after reached → ListenCause (listening builder address table reached) (seen a) (seen b)
reaches-cause seen builder address table a b after reached (adopted fd h p) = tt
reaches-cause seen builder address table a b after reached (not_adopted fd h p) = p.faults
reaches-cause seen builder address table a b after reached (bound fd h p) = tt
reaches-cause seen builder address table a b after reached (not_bound kind h p) = tries-cause (seen a) (seen b) address kind _ refl p
reaches-cause seen builder address table a b after reached (no_memory entries t h e) = tt

pub listens-cause : {S : Type 0} (seen : S → BinderData) (builder : BuilderData) (table : Option (List Entry)) (a b : S) (after : Option (List Entry))
    (result : Result ListeningData ListenError)
    → Listens seen builder table a b after result → ListenCause result (seen a) (seen b)
listens-cause seen builder table a b after result (no_address e f) = tt
listens-cause seen builder table a b after result (reaches address after' reached e p) = reaches-cause seen builder address table a b after' reached p
