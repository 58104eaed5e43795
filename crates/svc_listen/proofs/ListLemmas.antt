-- Endpoints, one after another.
use Rattle.std.proofs.Common.{◌≡◌, ℕ, List, [], ◌∷◌, ◌++◌, map, Option, Some, refl}
use Rattle.std.specs.List.{AllByRecursion}
use Rattle.svc_listen.specs.EndpointData.{ConfigData, EndpointData, ListenersData}
use Rattle.svc_listen.specs.Endpoints.{filtered, called_back, with_filter, with_callback, AreInForce, endpoint_of, added, all_added, AreFiltered, AreCalledBack}

filtered_all : (filter : ℕ) (before callback : Option ℕ) (es : List EndpointData) → AllByRecursion (λ e. (e.filter ≡ before) × (e.callback ≡ callback)) es
    → AllByRecursion (λ e. (e.filter ≡ Some filter) × (e.callback ≡ callback)) (map (filtered filter) es)
filtered_all filter before callback [] h = tt
filtered_all filter before callback (e ∷ es) h = ((refl, h.0.1), filtered_all filter before callback es h.1)

called_back_all : (callback : ℕ) (filter before : Option ℕ) (es : List EndpointData) → AllByRecursion (λ e. (e.filter ≡ filter) × (e.callback ≡ before)) es
    → AllByRecursion (λ e. (e.filter ≡ filter) × (e.callback ≡ Some callback)) (map (called_back callback) es)
called_back_all callback filter before [] h = tt
called_back_all callback filter before (e ∷ es) h = ((h.0.0, refl), called_back_all callback filter before es h.1)

pub in_force-filter : (filter : ℕ) (listeners : ListenersData) → AreInForce listeners → AreInForce (with_filter filter listeners)
in_force-filter filter listeners h = filtered_all filter listeners.filter listeners.callback listeners.endpoints h

pub in_force-callback : (callback : ℕ) (listeners : ListenersData) → AreInForce listeners → AreInForce (with_callback callback listeners)
in_force-callback callback listeners h = called_back_all callback listeners.filter listeners.callback listeners.endpoints h

-- ---- a filter or a callback reaches all

all-append : (P : EndpointData → Type 0) (es : List EndpointData) (e : EndpointData) → AllByRecursion P es → P e → AllByRecursion P (es ++ e ∷ [])
all-append P [] e h p = (p, tt)
all-append P (x ∷ es) e h p = (h.0, all-append P es e h.1 p)

filter_stays : (filter : ℕ) (listeners : ListenersData) (later : List ConfigData) → listeners.filter ≡ Some filter → AreFiltered filter listeners
    → AreFiltered filter (all_added listeners later)
filter_stays filter listeners [] is h = h
filter_stays filter listeners (config ∷ later) is h =
    filter_stays filter (added listeners config) later is
    (all-append (λ e. e.filter ≡ Some filter) listeners.endpoints (endpoint_of config listeners.filter listeners.callback) h is)

callback_stays : (callback : ℕ) (listeners : ListenersData) (later : List ConfigData) → listeners.callback ≡ Some callback → AreCalledBack callback listeners
    → AreCalledBack callback (all_added listeners later)
callback_stays callback listeners [] is h = h
callback_stays callback listeners (config ∷ later) is h =
    callback_stays callback (added listeners config) later is
    (all-append (λ e. e.callback ≡ Some callback) listeners.endpoints (endpoint_of config listeners.filter listeners.callback) h is)

filtered_now : (filter : ℕ) (es : List EndpointData) → AllByRecursion (λ e. e.filter ≡ Some filter) (map (filtered filter) es)
filtered_now filter [] = tt
filtered_now filter (e ∷ es) = (refl, filtered_now filter es)

called_back_now : (callback : ℕ) (es : List EndpointData) → AllByRecursion (λ e. e.callback ≡ Some callback) (map (called_back callback) es)
called_back_now callback [] = tt
called_back_now callback (e ∷ es) = (refl, called_back_now callback es)

pub filter_reaches : (listeners : ListenersData) (filter : ℕ) (later : List ConfigData) → AreFiltered filter (all_added (with_filter filter listeners) later)
filter_reaches listeners filter later = filter_stays filter (with_filter filter listeners) later refl (filtered_now filter listeners.endpoints)

pub callback_reaches : (listeners : ListenersData) (callback : ℕ) (later : List ConfigData)
    → AreCalledBack callback (all_added (with_callback callback listeners) later)
callback_reaches listeners callback later = callback_stays callback (with_callback callback listeners) later refl (called_back_now callback listeners.endpoints)
