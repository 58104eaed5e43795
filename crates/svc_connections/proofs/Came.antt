-- Each live connection is one that arrived.
use Rattle.std.proofs.Common.{ℕ, true, false, not, ◌==◌, inl, inr, List, [], ◌∷◌, ◌≡◌, refl, ap, sym, ◌∙◌, None}
use Rattle.std.specs.List.{list_all}
use Rattle.std.proofs.lemmas.Bool.{eqb-true, eq-eqb, and_parts, or_left, or_right, cases_Bool}
use Rattle.svc_base.specs.NumberSets.{is_in, put_number}
use Rattle.svc_base.proofs.NumberSetLemmas.{any-put, all-filter, all-grows}
use Rattle.svc_connections.specs.declared.stage.Connection.{Connection}
use Rattle.svc_connections.specs.declared.stage.Stage.{Stage}
use Rattle.svc_connections.specs.ConnectionsState.{numbers, stage_of, all_came}
use Rattle.svc_connections.specs.ConnectionsEffects.{put_connection, at_stage, without}
use Rattle.svc_connections.proofs.LiveLemmas.{all-put, numbers-moved, numbers-without}

-- so one that didn't arrive isn't live
pub new-stage : (c : ℕ) (came : List ℕ) (live : List Connection) → all_came came live ≡ true → not (is_in c came) ≡ true → stage_of live c ≡ None
new-stage c came [] all new = refl
new-stage c came (x ∷ live) all new =
    let parts = and_parts (is_in x.number came) (all_came came live) all in
    elim (cases_Bool (x.number == c)) [
      | inl same ↦ absurd (let here : is_in c came ≡ true = ap (λ n. is_in n came) (sym (eqb-true x.number c same)) ∙ parts.0 in
          let k : false ≡ true = sym (ap not here) ∙ new in cc)
      | inr other ↦ rw other (new-stage c came live parts.1 new)
    ]

-- what arrives, goes on and ends leaves that so
pub came-more : (c : ℕ) (came : List ℕ) (live : List Connection) → all_came came live ≡ true → all_came (put_number c came) live ≡ true
came-more c came live all = all-grows (λ n. is_in n came) (λ n. is_in n (put_number c came)) (numbers live)
    (λ n h. any-put (λ m. m == n) c came ∙ or_right (c == n) (is_in n came) h) all

pub came-put : (x : Connection) (came : List ℕ) (live : List Connection) → all_came came live ≡ true
    → all_came (put_number x.number came) (put_connection x live) ≡ true
came-put x came live all = all-put (λ n. is_in n (put_number x.number came)) x live
    (any-put (λ m. m == x.number) x.number came ∙ or_left (x.number == x.number) (is_in x.number came) (eq-eqb x.number x.number refl))
    (came-more x.number came live all)

pub came-moved : (c : ℕ) (stage : Stage) (came : List ℕ) (live : List Connection) → all_came came live ≡ true → all_came came (at_stage c stage live) ≡ true
came-moved c stage came live all = ap (list_all (λ n. is_in n came)) (numbers-moved c stage live) ∙ all

pub came-without : (c : ℕ) (came : List ℕ) (live : List Connection) → all_came came live ≡ true → all_came came (without c live) ≡ true
came-without c came live all =
    ap (list_all (λ n. is_in n came)) (numbers-without c live) ∙ all-filter (λ n. is_in n came) (λ n. not (n == c)) (numbers live) all
