-- What a core tells can be told twice.
use Rattle.std.proofs.Common.{ℕ, Bool, true, false, ◌≡◌, ◌-◌, ◌==◌, ◌&&◌, not, List, [], ◌∷◌, ◌++◌, length, map, take, drop, refl, sym, ap, subst, ◌∙◌, append-nil, append_assoc, if◌then◌else◌}
use Rattle.std.specs.Prelude.{Option, Some, None, bytes_eq}
use Rattle.std.proofs.Math.Seq.{drop-append_seam}
use Rattle.std.proofs.lemmas.Bool.{eqb-true, and_from, and_parts}
use Rattle.std.proofs.lemmas.List.{take_rest}
use Rattle.std.proofs.lemmas.List.Folds.{list_all-append}
use Rattle.std.proofs.lemmas.Slice.Eq.{bytes_eq-Decides}
use Rattle.svc_base.specs.declared.settings.TcpKeepalive.{TcpKeepalive}
use Rattle.svc_base.specs.declared.settings.Setting.{Setting}
use Rattle.svc_base.specs.declared.settings.Setting.TheVariants.{NoDelay, KeepAlive, Dscp, SndBuf, RcvBuf}
use Rattle.svc_fds.specs.declared.encoding.Message.{Message}
use Rattle.svc_socket.specs.declared.peer.Peer.{Peer}
use Rattle.svc_record.specs.declared.plan.Plan.{Plan}
use Rattle.svc_record.specs.declared.action.Action.{Action}
use Rattle.svc_record.specs.declared.action.Action.TheVariants.{Fail, Close, Cut, Connect, Send, Broadcast, Phase, Judged, Refuse, Settings as TellSettings, Rest, Stop}
use Rattle.svc_record.specs.declared.action.ExecutionPhase.TheVariants.{Terminated}
use Rattle.svc_record.specs.Connections.{is_known, same_keepalive, same_setting, same_settings}
use Rattle.svc_record.specs.Offer.{is_message}
use Rattle.svc_record.specs.Told.{IsGivingUp}
use Rattle.svc_boot.specs.BootData.{BootData}
use Rattle.svc_boot.specs.BootEffects.{begin_more, told_from, complete_told, try_told}
use Rattle.svc_offer.specs.OfferData.{OfferData}
use Rattle.svc_offer.specs.OfferState.{is_connect_due, is_send_due}
use Rattle.svc_offer.specs.OfferEffects.{send_told, ask_with}
use Rattle.svc_offer.specs.OfferFacts.{is_offer_action, has_no_offer_action}
use Rattle.svc_drain.specs.DrainData.{DrainData}
use Rattle.svc_drain.specs.DrainEffects.{run_told, row_told, stop_after, end_told}
use Rattle.svc_connections.specs.ConnectionsEffects.{is_refused, arrived_told, set_told, shaken_told, rest_told}
use Rattle.svc_connections.proofs.Arrivals.{same-list}
use Rattle.svc_core.specs.declared.copies.OwnedPayload.{OwnedPayload}
use Rattle.svc_core.specs.declared.copies.OwnedPayload.TheVariants.{Nothing, OfMessage, OfSettings}
use Rattle.svc_core.specs.Copies.{is_bare, are_bare, TellsBare, is_copied, left_of, are_copied, TellsCopied, copy_of}
use Rattle.svc_core.proofs.LateLemmas.{is_late, are_late, row-late, row-other}

pub bare-none : (xs : List Action) → TellsBare xs xs
bare-none xs = record { told = []; appended = sym (append-nil xs); kept = refl }

pub bare-these : (xs ys told : List Action) → ys ≡ xs ++ told → are_bare told ≡ true → TellsBare xs ys
bare-these xs ys told e h = record { told = told; appended = e; kept = h }

both-bare : (xs ys : List Action) → are_bare xs ≡ true → are_bare ys ≡ true → are_bare (xs ++ ys) ≡ true
both-bare xs ys h k = list_all-append is_bare xs ys ∙ and_from (are_bare xs) (are_bare ys) h k

pub bare-then : (xs ys zs : List Action) → TellsBare xs ys → TellsBare ys zs → TellsBare xs zs
bare-then xs ys zs a b = record {
  told = a.told ++ b.told;
  appended = b.appended ∙ (ap (λ (l : List Action). l ++ b.told) a.appended ∙ append_assoc xs a.told b.told);
  kept = both-bare a.told b.told a.kept b.kept;
}

pub giving-bare : (told : List Action) → IsGivingUp told → are_bare told ≡ true
giving-bare [] h = refl
giving-bare (Fail s ∷ more) h = giving-bare more h
giving-bare (Close fd ∷ more) h = giving-bare more h
giving-bare (_ ∷ more) h = absurd h

-- an answer of the endpoints, and what follows from it
pub bare-answer : (xs ys zs told : List Action) → ys ≡ xs ++ told → IsGivingUp told → TellsBare ys zs → TellsBare xs zs
bare-answer xs ys zs told e h = bare-then xs ys zs (bare-these xs ys told e (giving-bare told h))

more-bare : (test notify upgrade : Bool) (ms : ℕ) → are_bare (begin_more test notify upgrade ms) ≡ true
more-bare true notify upgrade ms = refl
more-bare false true true ms = refl
more-bare false true false ms = refl
more-bare false false true ms = refl
more-bare false false false ms = refl

begun-bare : (begun test notify upgrade : Bool) (d : BootData) (ms : ℕ) → d.begun ≡ begun → are_bare (told_from test notify upgrade d ms) ≡ true
begun-bare true test notify upgrade d ms e = rw e refl
begun-bare false test notify upgrade d ms e = rw e (more-bare test notify upgrade ms)

pub begin-bare : (test notify upgrade : Bool) (d : BootData) (ms : ℕ) → are_bare (told_from test notify upgrade d ms) ≡ true
begin-bare test notify upgrade d ms = begun-bare d.begun test notify upgrade d ms refl

pub complete-bare : (due : Bool) (ms : ℕ) → are_bare (complete_told due ms) ≡ true
complete-bare true ms = refl
complete-bare false ms = refl

pub try-bare : (due : Bool) → are_bare (try_told due) ≡ true
try-bare true = refl
try-bare false = refl

running-bare : (running : Bool) (d : DrainData) → d.running ≡ running → are_bare (run_told d) ≡ true
running-bare true d e = rw e refl
running-bare false d e = rw e refl

pub run-bare : (d : DrainData) → are_bare (run_told d) ≡ true
run-bare d = running-bare d.running d refl

-- what isn't sent is copied as it is
bare-is : (copy : OwnedPayload) (a : Action) → is_bare a ≡ true → (is_copied copy a ≡ true) × (left_of copy a ≡ copy)
bare-is copy (Send bytes fds) h = absurd (cc)
bare-is copy (TellSettings c list) h = absurd (cc)
bare-is copy (Judged c said) h = absurd (cc)
bare-is copy _ h = (h, refl)

pub bare-copied : (copy : OwnedPayload) (told : List Action) → are_bare told ≡ true → are_copied copy told ≡ true
bare-copied copy [] h = refl
bare-copied copy (a ∷ told) h =
    let parts = and_parts (is_bare a) (are_bare told) h in
    let here = bare-is copy a parts.0 in
    and_from (is_copied copy a) (are_copied (left_of copy a) told) here.0 (subst (λ c. are_copied c told ≡ true) (sym here.1) (bare-copied copy told parts.1))

-- bare actions before and after
before-copied : (copy : OwnedPayload) (xs ys : List Action) → are_bare xs ≡ true → are_copied copy ys ≡ true → are_copied copy (xs ++ ys) ≡ true
before-copied copy [] ys h k = k
before-copied copy (a ∷ xs) ys h k =
    let parts = and_parts (is_bare a) (are_bare xs) h in
    let here = bare-is copy a parts.0 in
    and_from (is_copied copy a) (are_copied (left_of copy a) (xs ++ ys)) here.0
    (subst (λ c. are_copied c (xs ++ ys) ≡ true) (sym here.1) (before-copied copy xs ys parts.1 k))

after-copied : (copy : OwnedPayload) (xs ys : List Action) → are_copied copy xs ≡ true → are_bare ys ≡ true → are_copied copy (xs ++ ys) ≡ true
after-copied copy [] ys h k = bare-copied copy ys k
after-copied copy (a ∷ xs) ys h k =
    let parts = and_parts (is_copied copy a) (are_copied (left_of copy a) xs) h in
    and_from (is_copied copy a) (are_copied (left_of copy a) (xs ++ ys)) parts.0 (after-copied (left_of copy a) xs ys parts.1 k)

pub copied-bare : (copy : OwnedPayload) (xs ys : List Action) → TellsBare xs ys → TellsCopied copy xs ys
copied-bare copy xs ys h = record { told = h.told; appended = h.appended; kept = bare-copied copy h.told h.kept }

-- bare actions, and then others
pub bare-first : (copy : OwnedPayload) (xs ys zs : List Action) → TellsBare xs ys → TellsCopied copy ys zs → TellsCopied copy xs zs
bare-first copy xs ys zs a b = record {
  told = a.told ++ b.told;
  appended = b.appended ∙ (ap (λ (l : List Action). l ++ b.told) a.appended ∙ append_assoc xs a.told b.told);
  kept = before-copied copy a.told b.told a.kept b.kept;
}

pub bare-last : (copy : OwnedPayload) (xs ys zs : List Action) → TellsCopied copy xs ys → TellsBare ys zs → TellsCopied copy xs zs
bare-last copy xs ys zs a b = record {
  told = a.told ++ b.told;
  appended = b.appended ∙ (ap (λ (l : List Action). l ++ b.told) a.appended ∙ append_assoc xs a.told b.told);
  kept = after-copied copy a.told b.told a.kept b.kept;
}

-- without a copy each action is bare
none-bare : (a : Action) → is_copied Nothing a ≡ true → is_bare a ≡ true
none-bare (Send bytes fds) h = absurd (cc)
none-bare (TellSettings c list) h = absurd (cc)
none-bare (Judged c said) h = absurd (cc)
none-bare _ h = h

none-left : (a : Action) → left_of Nothing a ≡ Nothing
none-left (Send bytes fds) = refl
none-left (TellSettings c list) = refl
none-left _ = refl

all-bare : (told : List Action) → are_copied Nothing told ≡ true → are_bare told ≡ true
all-bare [] h = refl
all-bare (a ∷ told) h =
    let parts = and_parts (is_copied Nothing a) (are_copied (left_of Nothing a) told) h in
    and_from (is_bare a) (are_bare told) (none-bare a parts.0) (all-bare told (subst (λ c. are_copied c told ≡ true) (none-left a) parts.1))

pub bare-all : (xs ys : List Action) → TellsCopied Nothing xs ys → TellsBare xs ys
bare-all xs ys h = record { told = h.told; appended = h.appended; kept = all-bare h.told h.kept }

-- an ask of the offer
message-same : (w : Message) → is_message w.bytes w.fds (Some w) ≡ true
message-same w = and_from (bytes_eq w.bytes w.bytes) (bytes_eq w.fds w.fds) (same w.bytes) (same w.fds)
  where
    same : (ns : List ℕ) → bytes_eq ns ns ≡ true
    same ns = (bytes_eq-Decides ns ns).1 refl

send-copied : (copy : Option Message) → are_copied (copy_of copy) (send_told copy) ≡ true
send-copied (Some w) = and_from (is_message w.bytes w.fds (Some w)) true (message-same w) refl
send-copied None = refl

pub ask-copied : (copy : Option Message) (o : OfferData) (t : ℕ) → are_copied (copy_of copy) (ask_with copy o t) ≡ true
ask-copied copy o t = by (is_connect_due o.state t) (is_send_due o.state t)
  where
    by : (c s : Bool) → are_copied (copy_of copy) (if c then Connect ∷ [] else (if s then send_told copy else [])) ≡ true
    by true s = refl
    by false true = send-copied copy
    by false false = refl

-- what follows a signal
late-bare : (m : ℕ) (a : Action) → is_late m a ≡ true → not (is_offer_action a) ≡ true → is_bare a ≡ true
late-bare m Connect h k = absurd (cc)
late-bare m (Send bytes fds) h k = absurd (cc)
late-bare m Broadcast h k = refl
late-bare m (Phase x ms) h k = refl
late-bare m _ h k = absurd (cc)

lates-bare : (m : ℕ) (told : List Action) → are_late m told ≡ true → has_no_offer_action told ≡ true → are_bare told ≡ true
lates-bare m [] h k = refl
lates-bare m (a ∷ told) h k =
    let late = and_parts (is_late m a) (are_late m told) h in
    let other = and_parts (not (is_offer_action a)) (has_no_offer_action told) k in
    and_from (is_bare a) (are_bare told) (late-bare m a late.0 other.0) (lates-bare m told late.1 other.1)

pub row-bare : (dr : DrainData) (over : Option ℕ) → are_bare (row_told dr over) ≡ true
row-bare dr over = lates-bare dr.moment (row_told dr over) (row-late dr over) (row-other dr over)

-- the end
stops-bare : (n m : ℕ) (cs fds : List ℕ) → are_bare (map Cut cs ++ (map Close fds ++ Stop n ∷ Phase Terminated m ∷ [])) ≡ true
stops-bare n m [] [] = refl
stops-bare n m [] (fd ∷ fds) = stops-bare n m [] fds
stops-bare n m (c ∷ cs) fds = stops-bare n m cs fds

pub end-bare : (p : Plan) (dr : DrainData) (cs fds : List ℕ) → are_bare (end_told p dr cs fds) ≡ true
end-bare p dr cs fds = stops-bare (stop_after p dr) dr.moment cs fds

-- what follows the signal, and an ask of the offer
pub answer-copied : (copy : Option Message) (xs ys zs : List Action) (o : OfferData) (t : ℕ) (dr : DrainData) (over : Option ℕ) → ys ≡ xs ++ row_told dr over
    → zs ≡ ys ++ ask_with copy o t → TellsCopied (copy_of copy) xs zs
answer-copied copy xs ys zs o t dr over first next =
    bare-first (copy_of copy) xs ys zs (bare-these xs ys (row_told dr over) first (row-bare dr over))
    (record { told = ask_with copy o t; appended = next; kept = ask-copied copy o t })

-- what stands after a place up to which nothing was told
pub rest-copied : (copy : OwnedPayload) (before after : List Action) (from : ℕ) → TellsCopied copy before after → from ≡ length before
    → are_copied copy (take (length after - from) (drop from after)) ≡ true
rest-copied copy before after from h e =
    let rest : drop from after ≡ h.told = ap (λ (n : ℕ). drop n after) e ∙ (ap (drop (length before)) h.appended ∙ drop-append_seam before h.told) in
    ap (are_copied copy) (take_rest after from ∙ rest) ∙ h.kept

-- settings that count as the same are equal
keepalive-same : (a b : TcpKeepalive) → same_keepalive a b ≡ true → a ≡ b
keepalive-same a b h =
    let parts = and_parts (a.idle == b.idle && a.interval == b.interval) (a.count == b.count && a.user_timeout == b.user_timeout) h in
    let first = and_parts (a.idle == b.idle) (a.interval == b.interval) parts.0 in
    let second = and_parts (a.count == b.count) (a.user_timeout == b.user_timeout) parts.1 in
    ap (λ (n : ℕ). record { idle = n; interval = a.interval; count = a.count; user_timeout = a.user_timeout }) (eqb-true a.idle b.idle first.0)
    ∙ (ap (λ (n : ℕ). record { idle = b.idle; interval = n; count = a.count; user_timeout = a.user_timeout }) (eqb-true a.interval b.interval first.1)
    ∙ (ap (λ (n : ℕ). record { idle = b.idle; interval = b.interval; count = n; user_timeout = a.user_timeout }) (eqb-true a.count b.count second.0)
    ∙ ap (λ (n : ℕ). record { idle = b.idle; interval = b.interval; count = b.count; user_timeout = n }) (eqb-true a.user_timeout b.user_timeout second.1)))

setting-same : (a b : Setting) → same_setting a b ≡ true → a ≡ b
setting-same NoDelay NoDelay h = refl
setting-same (KeepAlive a) (KeepAlive b) h = ap KeepAlive (keepalive-same a b h)
setting-same (Dscp a) (Dscp b) h = ap Dscp (eqb-true a b h)
setting-same (SndBuf a) (SndBuf b) h = ap SndBuf (eqb-true a b h)
setting-same (RcvBuf a) (RcvBuf b) h = ap RcvBuf (eqb-true a b h)
setting-same _ _ h = absurd (cc)

pub settings-same : (xs ys : List Setting) → same_settings xs ys ≡ true → xs ≡ ys
settings-same [] [] h = refl
settings-same (a ∷ xs) (b ∷ ys) h =
    let parts = and_parts (same_setting a b) (same_settings xs ys) h in
    ap (λ (x : Setting). x ∷ xs) (setting-same a b parts.0) ∙ ap (λ (l : List Setting). b ∷ l) (settings-same xs ys parts.1)
settings-same _ _ h = absurd (cc)

-- where settings are told, the copy is of them
pub of-settings : (copy : OwnedPayload) (a : Action) (c : ℕ) (told : List Setting) → is_copied copy a ≡ true → a ≡ TellSettings c told
    → (list : List Setting) × (copy ≡ OfSettings list)
of-settings (OfSettings list) a c told h is = (list, refl)
of-settings (OfMessage w) a c told h is = absurd (let same = rw is at h in cc)
of-settings Nothing a c told h is = absurd (let same = rw is at h in cc)

pub settings-told : (copy : OwnedPayload) (a : Action) (c : ℕ) (told list : List Setting) → is_copied copy a ≡ true → a ≡ TellSettings c told
    → copy ≡ OfSettings list → TellSettings c list ≡ a
settings-told copy a c told list h is of =
    let same = rw (is, of) at h in ap (λ (l : List Setting). TellSettings c l) (sym (settings-same told list same)) ∙ sym is

-- what the part on connections tells
pub arrived-copied : (c : ℕ) (peer : Peer) (said : Bool) (list : List Setting) → are_copied (OfSettings list) (arrived_told c peer said list) ≡ true
arrived-copied c peer said list = by (is_known peer) (is_refused peer said)
  where
    by : (known refused : Bool)
        → are_copied (OfSettings list) ((if known then Judged c said ∷ [] else []) ++ (if refused then Refuse c ∷ [] else TellSettings c list ∷ [])) ≡ true
    by true true = refl
    by true false = and_from (same_settings list list) true (same-list list) refl
    by false true = refl
    by false false = and_from (same_settings list list) true (same-list list) refl

pub set-bare : (c : ℕ) (ok : Bool) → are_bare (set_told c ok) ≡ true
set-bare c true = refl
set-bare c false = refl

pub shaken-bare : (c : ℕ) (ok : Bool) → are_bare (shaken_told c ok) ≡ true
shaken-bare c true = refl
shaken-bare c false = refl

pub rest-bare : (s i n : ℕ) → are_bare (rest_told s i n) ≡ true
rest-bare s i n = by (n == 24)
  where
    by : (full : Bool) → are_bare (if full then Rest s i ∷ [] else []) ≡ true
    by true = refl
    by false = refl
