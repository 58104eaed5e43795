-- Of a connection that didn't arrive nothing was told.
use Rattle.std.proofs.Common.{ℕ, Bool, true, false, ◌==◌, ◌||◌, List, [], ◌∷◌, ◌≡◌, refl, subst}
use Rattle.std.proofs.lemmas.Bool.{ne_eqb, or_parts, or_from, and_left}
use Rattle.svc_base.specs.declared.settings.Setting.{Setting}
use Rattle.svc_record.specs.declared.plan.Plan.{Plan}
use Rattle.svc_record.specs.declared.entry.Entry.{Entry}
use Rattle.svc_record.specs.declared.entry.Entry.TheVariants.{Got, Told}
use Rattle.svc_record.specs.declared.action.Action.TheVariants.{Judged, Refuse, Settings as TellSettings, Handshake, Serve, Drop, Cut}
use Rattle.svc_record.specs.declared.event.Event.TheVariants.{Arrived}
use Rattle.svc_record.specs.Record.{Record, has, times, EachEntry}
use Rattle.svc_record.specs.Asks.{is_settings, is_handshake}
use Rattle.svc_record.specs.Connections.{same_settings, is_arrival, connection_known, is_judged, is_judged_as, is_refuse, is_settings_of, is_serve, is_drop}
use Rattle.svc_connections.proofs.Counts.{none-times, narrower}

-- the entry tells something of the connection
abbrev pub is_told_of : ℕ → Entry → Bool
is_told_of c (Told (Judged n said)) = n == c
is_told_of c (Told (Refuse n)) = n == c
is_told_of c (Told (TellSettings n list)) = n == c
is_told_of c (Told (Handshake n)) = n == c
is_told_of c (Told (Serve n)) = n == c
is_told_of c (Told (Drop n)) = n == c
is_told_of c (Told (Cut n)) = n == c
is_told_of c _ = false

told-apart : (n c : ℕ) (q : Record) (rest : Bool) → has (is_arrival n) q ≡ true → has (is_arrival c) q ≡ false → rest ≡ false → ((n == c) || rest) ≡ false
told-apart n c q rest there none h = or_from (n == c) rest (ne_eqb n c (λ e. let here = subst (λ (m : ℕ). has (is_arrival m) q ≡ true) e there in cc)) h

pub untold : (p : Plan) (q : Record) (c : ℕ) → EachEntry (λ e before. connection_known p e before ≡ true) q → has (is_arrival c) q ≡ false
    → has (is_told_of c) q ≡ false
untold p [] c known none = refl
untold p (Told (Judged n said) ∷ q) c known none = told-apart n c q (has (is_told_of c) q) known.0 none (untold p q c known.1 none)
untold p (Told (Refuse n) ∷ q) c known none = told-apart n c q (has (is_told_of c) q) known.0 none (untold p q c known.1 none)
untold p (Told (TellSettings n list) ∷ q) c known none = told-apart n c q (has (is_told_of c) q) known.0 none (untold p q c known.1 none)
untold p (Told (Handshake n) ∷ q) c known none = told-apart n c q (has (is_told_of c) q) known.0 none (untold p q c known.1 none)
untold p (Told (Serve n) ∷ q) c known none = told-apart n c q (has (is_told_of c) q) known.0 none (untold p q c known.1 none)
untold p (Told (Drop n) ∷ q) c known none = told-apart n c q (has (is_told_of c) q) known.0 none (untold p q c known.1 none)
untold p (Told (Cut n) ∷ q) c known none = told-apart n c q (has (is_told_of c) q) known.0 none (untold p q c known.1 none)
untold p (Got (Arrived s i n peer) ∷ q) c known none = untold p q c known.1 (or_parts (n == c) (has (is_arrival c) q) none).1
untold p (e ∷ q) c known none = untold p q c known.1 none

judged-told : (c : ℕ) (e : Entry) → is_told_of c e ≡ false → is_judged c e ≡ false
judged-told c (Told (Judged n said)) h = h
judged-told c _ h = refl

judged-no-told : (c : ℕ) (e : Entry) → is_told_of c e ≡ false → is_judged_as false c e ≡ false
judged-no-told c (Told (Judged n true)) h = refl
judged-no-told c (Told (Judged n false)) h = h
judged-no-told c _ h = refl

refuse-told : (c : ℕ) (e : Entry) → is_told_of c e ≡ false → is_refuse c e ≡ false
refuse-told c (Told (Refuse n)) h = h
refuse-told c _ h = refl

settings-told : (c : ℕ) (e : Entry) → is_told_of c e ≡ false → is_settings c e ≡ false
settings-told c (Told (TellSettings n list)) h = h
settings-told c _ h = refl

settings_of-told : (list : List Setting) (c : ℕ) (e : Entry) → is_told_of c e ≡ false → is_settings_of list c e ≡ false
settings_of-told list c (Told (TellSettings n told)) h = and_left (n == c) (same_settings told list) h
settings_of-told list c _ h = refl

handshake-told : (c : ℕ) (e : Entry) → is_told_of c e ≡ false → is_handshake c e ≡ false
handshake-told c (Told (Handshake n)) h = h
handshake-told c _ h = refl

serve-told : (c : ℕ) (e : Entry) → is_told_of c e ≡ false → is_serve c e ≡ false
serve-told c (Told (Serve n)) h = h
serve-told c _ h = refl

drop-told : (c : ℕ) (e : Entry) → is_told_of c e ≡ false → is_drop c e ≡ false
drop-told c (Told (Drop n)) h = h
drop-told c _ h = refl

-- nothing was told of the connection
pub record Unheard (q : Record) (c : ℕ) : Type 0 where
  pub judged : times (is_judged c) q ≡ 0
  pub not_refused : has (is_judged_as false c) q ≡ false
  pub refuses : times (is_refuse c) q ≡ 0
  pub no_refuse : has (is_refuse c) q ≡ false
  pub settings : times (is_settings c) q ≡ 0
  pub settings_of : (list : List Setting) → times (is_settings_of list c) q ≡ 0
  pub handshakes : times (is_handshake c) q ≡ 0
  pub serves : times (is_serve c) q ≡ 0
  pub no_serve : has (is_serve c) q ≡ false
  pub drops : times (is_drop c) q ≡ 0
  pub no_drop : has (is_drop c) q ≡ false

pub unheard : (q : Record) (c : ℕ) → has (is_told_of c) q ≡ false → Unheard q c
unheard q c h =
    let refuse = narrower (is_told_of c) (is_refuse c) q (refuse-told c) h in
    let serve = narrower (is_told_of c) (is_serve c) q (serve-told c) h in
    let drop = narrower (is_told_of c) (is_drop c) q (drop-told c) h in
    record {
      judged = none-times (is_judged c) q (narrower (is_told_of c) (is_judged c) q (judged-told c) h);
      not_refused = narrower (is_told_of c) (is_judged_as false c) q (judged-no-told c) h;
      refuses = none-times (is_refuse c) q refuse;
      no_refuse = refuse;
      settings = none-times (is_settings c) q (narrower (is_told_of c) (is_settings c) q (settings-told c) h);
      settings_of = λ list. none-times (is_settings_of list c) q (narrower (is_told_of c) (is_settings_of list c) q (settings_of-told list c) h);
      handshakes = none-times (is_handshake c) q (narrower (is_told_of c) (is_handshake c) q (handshake-told c) h);
      serves = none-times (is_serve c) q serve;
      no_serve = serve;
      drops = none-times (is_drop c) q drop;
      no_drop = drop;
    }
