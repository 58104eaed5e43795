-- What one more event leaves of a host's entries.
use Rattle.std.proofs.Common.{◌≡◌, ℕ, List, [], ◌∷◌, ◌++◌, length, reverse, refl, ap, ◌∙◌}
use Rattle.std.specs.Prelude.{Option, Some, slice_get}
use Rattle.std.proofs.lemmas.List.{reverse-append}
use Rattle.svc_record.specs.declared.entry.Entry.{Entry}
use Rattle.svc_record.specs.declared.entry.Entry.TheVariants.{Got}
use Rattle.svc_record.specs.declared.event.Event.{Event}
use Rattle.svc_record.specs.Record.{Record}
use Rattle.svc_server.specs.Hosts.{Handed, Account}
use Rattle.svc_server.specs.ScriptHosts.{got_event, last_event}

get-end : (xs : List Entry) (x : Entry) → slice_get (xs ++ x ∷ []) (length xs) ≡ Some x
get-end [] x = refl
get-end (y ∷ ys) x = get-end ys x

-- the event that was put last
pub last-put : (old now slice : List Entry) (e : Event) → slice ≡ old → now ≡ old ++ Got e ∷ [] → last_event now (Some (length slice)) ≡ Some e
last-put old now slice e same put =
    ap (λ (n : ℕ). last_event now (Some n)) (ap (λ (xs : List Entry). length xs) same) ∙ ap (λ (xs : List Entry). last_event xs (Some (length old))) put
    ∙ ap got_event (get-end old (Got e))

-- the account with it
pub told-put : (old now : List Entry) (e : Event) (handed : List Handed) → now ≡ old ++ Got e ∷ []
    → ◌≡◌ {A = Option Account} (Some (record { entries = reverse now; handed = handed })) (Some (record { entries = Got e ∷ reverse old; handed = handed }))
told-put old now e handed put = ap (λ (r : Record). account r) (ap (λ (xs : List Entry). reverse xs) put ∙ reverse-append old (Got e ∷ []))
  where
    account : Record → Option Account
    account r = Some (record { entries = r; handed = handed })
