-- What was on offer, by its numbers.
use Rattle.std.proofs.Common.{ℕ, suc, sym, arith, true, ◌==◌, ◌||◌, List, [], ◌∷◌, length, ◌≡◌, refl, ap}
use Rattle.std.specs.List.{list_any}
use Rattle.std.proofs.lemmas.Bool.{ne_eqb}
use Rattle.svc_record.specs.declared.entry.Entry.TheVariants.{Got}
use Rattle.svc_record.specs.declared.event.Event.TheVariants.{Signal}
use Rattle.svc_record.specs.Record.{Record, has, is_signal, signal_of}
use Rattle.svc_fds.specs.Tables.{Entry, numbers}
use Rattle.svc_record.specs.Offer.{is_empty_table, is_upgrade}

none-above : (k : ℕ) → suc k ≡ 0 → ⊥
none-above k h = omega arith

-- nothing is offered where no number is
pub offers_by_numbers : (table : List Entry) → is_empty_table table ≡ (length (numbers table) == 0)
offers_by_numbers [] = refl
offers_by_numbers (x ∷ more) = sym (ne_eqb (length (numbers (x ∷ more))) 0 (λ h. none-above (length (numbers more)) h))

-- the descriptor is offered where its number is
pub offered_by_numbers : (fd : ℕ) (table : List Entry) → list_any (λ (x : Entry). x.1 == fd) table ≡ list_any (λ n. n == fd) (numbers table)
offered_by_numbers fd [] = refl
offered_by_numbers fd (x ∷ more) = ap (λ b. (x.1 == fd) || b) (offered_by_numbers fd more)

-- where the first signal is an upgrade, a signal came
pub upgrade_came : (q : Record) → is_upgrade (signal_of q) ≡ true → has is_signal q ≡ true
upgrade_came [] h = cc
upgrade_came (Got (Signal kind) ∷ q) h = refl
upgrade_came (_ ∷ q) h = upgrade_came q h
