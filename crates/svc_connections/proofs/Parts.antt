-- What is right of a connection, part by part.
use Rattle.std.proofs.Common.{Bool, true, false, not, ◌||◌, ◌≡◌}
use Rattle.std.proofs.lemmas.Bool.{and_parts, and_from}
use Rattle.svc_record.specs.declared.plan.Plan.{Plan}
use Rattle.svc_record.specs.Record.{Record, has, once_if}
use Rattle.svc_record.specs.Asks.{is_settings, is_handshake}
use Rattle.svc_record.specs.Connections.{Arrival, connection_right, is_known, has_filter, settings_list, is_judged, is_judged_as, is_refuse, is_settings_of, is_set_as, is_shaken_as, is_serve, is_drop, is_cut, is_cut_off}

-- all but the cut
pub record Parts (p : Plan) (q : Record) (x : Arrival) : Type 0 where
  pub judged : once_if (is_known x.peer) (is_judged x.number) q ≡ true
  pub filtered : (has_filter p x.service x.endpoint || not (has (is_judged_as false x.number) q)) ≡ true
  pub refused : once_if (has (is_judged_as false x.number) q) (is_refuse x.number) q ≡ true
  pub set_up : once_if (not (has (is_judged_as false x.number) q)) (is_settings x.number) q ≡ true
  pub set_so : once_if (not (has (is_judged_as false x.number) q)) (is_settings_of (settings_list p x.service x.endpoint) x.number) q ≡ true
  pub shakes : once_if (has (is_set_as true x.number) q) (is_handshake x.number) q ≡ true
  pub serves : once_if (has (is_shaken_as true x.number) q) (is_serve x.number) q ≡ true
  pub drops : once_if (has (is_set_as false x.number) q || has (is_shaken_as false x.number) q) (is_drop x.number) q ≡ true

-- the cut
abbrev pub cut_right : Record → Arrival → Bool
cut_right q x = once_if (is_cut_off q x.number) (is_cut x.number) q

pub parts : (p : Plan) (q : Record) (x : Arrival) → connection_right p q x ≡ true → Parts p q x
parts p q x h =
    let all = and_parts _ _ h in
    let early = and_parts _ _ all.0 in
    let begun = and_parts _ _ early.0 in
    let told = and_parts _ _ begun.0 in
    let judged = and_parts _ _ told.0 in
    let set = and_parts _ _ begun.1 in
    let asked = and_parts _ _ early.1 in
    let ended = and_parts _ _ all.1 in
    record { judged = judged.0; filtered = judged.1; refused = told.1; set_up = set.0; set_so = set.1; shakes = asked.0; serves = asked.1; drops = ended.0 }

pub cut-part : (p : Plan) (q : Record) (x : Arrival) → connection_right p q x ≡ true → cut_right q x ≡ true
cut-part p q x h = let all = and_parts _ _ h in (and_parts _ _ all.1).1

pub joined : (p : Plan) (q : Record) (x : Arrival) → Parts p q x → cut_right q x ≡ true → connection_right p q x ≡ true
joined p q x w cut =
    and_from _ _
    (and_from _ _ (and_from _ _ (and_from _ _ (and_from _ _ w.judged w.filtered) w.refused) (and_from _ _ w.set_up w.set_so))
    (and_from _ _ w.shakes w.serves)) (and_from _ _ w.drops cut)
