-- What a script takes as a service is accepted.
use Rattle.std.proofs.Common.{◌≡◌, ℕ, ◌<◌, Bool, true, false, ◌||◌, ◌==◌, ltb, cond, List, [], ◌∷◌, ◌++◌, length, Option, Some, None, is_none, refl, sym, ap, subst, ◌∙◌, inl, inr, arith}
use Rattle.std.specs.Option.{option_map, option_to_list}
use Rattle.std.specs.List.{list_any}
use Rattle.std.specs.Str.{is_utf8}
use Rattle.std.proofs.lemmas.Bool.{ltb-true, eqb-true, and_parts, cases_Bool, both_ways}
use Rattle.std.proofs.lemmas.List.{append-nil, length-append}
use Rattle.std.proofs.lemmas.List.Elements.{All-push}
use Rattle.svc_base.specs.declared.settings.Setting.{Setting}
use Rattle.svc_text.specs.declared.service.EndpointLine.{EndpointLine}
use Rattle.svc_text.specs.declared.service.ServiceLine.{ServiceLine}
use Rattle.svc_text.specs.Words.{text_in}
use Rattle.svc_base.specs.Options.{◌>>=◌}
use Rattle.svc_base.specs.Words.{words}
use Rattle.svc_text.specs.EndpointOptions.{same_sort, option_of, last_tcp_from, options_at, with_option_at}
use Rattle.svc_text.proofs.OptionLemmas.{with_option_at-length, with_option_at-addresses}
use Rattle.svc_text.specs.ServiceLines.{name_of, kind_of, boots, numbers_of, is_address, address_of, with_after, endpoint_at, with_endpoint, with_claim, with_undeclared, ip_in, with_block, with_option_of, with_setting, with_address, with_item, is_undeclared, with_items, bare, service_of, is_eager}
use Rattle.svc_text.specs.declared.part.Section.{Section}
use Rattle.svc_text.specs.Script.{header_of, is_next, is_skipped, says_service, says_item, place_fits, line_fits, said_services}
use Rattle.svc_text.proofs.PlaceLemmas.{skipped_service, eager_service, header_says, item_says}
use Rattle.svc_text.specs.Accepted.{IsAccepted, AreAccepted}

-- ---- what one line says

pub then_some : {A B : Type 0} (o : Option A) (f : A → Option B) (y : B) → (o >>= f) ≡ Some y → (x : A) × (o ≡ Some x) × (f x ≡ Some y)
then_some None f y e = absurd cc
then_some (Some x) f y e = (x, refl, e)

mapped_some : {A B : Type 0} (f : A → B) (o : Option A) (y : B) → option_map f o ≡ Some y → (x : A) × (o ≡ Some x) × (f x ≡ y)
mapped_some f None y e = absurd cc
mapped_some f (Some x) y e = (x, refl, cc)

-- what is chosen, where both choices keep P
either_some : {A : Type 0} (P : A → Type 0) (b : Bool) (x y : Option A) (z : A) → (x ≡ Some z → P z) → (y ≡ Some z → P z) → cond b x y ≡ Some z → P z
either_some P true x y z f g e = f e
either_some P false x y z f g e = g e

chosen_some : {A : Type 0} (b : Bool) (x : Option A) (z : A) → cond b x None ≡ Some z → (b ≡ true) × (x ≡ Some z)
chosen_some true x z e = (refl, e)
chosen_some false x z e = absurd cc

refused_some : {A : Type 0} (b : Bool) (x : Option A) (z : A) → cond b None x ≡ Some z → (b ≡ false) × (x ≡ Some z)
refused_some true x z e = absurd cc
refused_some false x z e = (refl, e)

neither : (a b : Bool) → (a || b) ≡ false → b ≡ false
neither true b e = absurd cc
neither false b e = e

address_is : (value a : List ℕ) → address_of value ≡ Some a → is_address a ≡ true
unfolding address_of text_in
address_is value a e =
    let c = chosen_some (is_address value) (text_in value) a e in
    let d = chosen_some (is_utf8 value) (Some value) a c.1 in
    let same : value ≡ a = cc in
    ap is_address (sym same) ∙ c.0

after_keeps : (s t : ServiceLine) (value : List ℕ) → IsAccepted s → with_after s value ≡ Some t → IsAccepted t
unfolding with_after
after_keeps s t value h e =
    let c = chosen_some (is_none s.after) (option_map (λ numbers. record s { after = Some numbers }) (numbers_of value)) t e in
    let m = mapped_some (λ numbers. record s { after = Some numbers }) (numbers_of value) t c.1 in
    subst IsAccepted m.2 (record { boots_alone = h.boots_alone; few_endpoints = h.few_endpoints; addresses = h.addresses; claims = h.claims })

endpoint_keeps : (s t : ServiceLine) (unix : Bool) (value : List ℕ) → boots s.kind ≡ false → IsAccepted s → with_endpoint s unix value ≡ Some t → IsAccepted t
unfolding with_endpoint
endpoint_keeps s t unix value k h e =
    let c = chosen_some (ltb (length s.endpoints) 64)
    (option_map (λ address. record s { endpoints = s.endpoints ++ endpoint_at unix address ∷ [] }) (address_of value)) t e in
    let m = mapped_some (λ address. record s { endpoints = s.endpoints ++ endpoint_at unix address ∷ [] }) (address_of value) t c.1 in
    let few : length s.endpoints < 64 = ltb-true (length s.endpoints) 64 c.0 in
    subst IsAccepted m.2 (record {
      boots_alone = λ b. absurd (both_ways (boots s.kind) k b);
      few_endpoints = omega (arith, length-append s.endpoints (endpoint_at unix m.0 ∷ []));
      addresses = All-push (λ (x : EndpointLine). is_address x.address ≡ true) s.endpoints (endpoint_at unix m.0) h.addresses (address_is value m.0 m.1);
      claims = h.claims;
    })

claim_keeps : (s t : ServiceLine) (value : List ℕ) → boots s.kind ≡ false → IsAccepted s → with_claim s value ≡ Some t → IsAccepted t
unfolding with_claim
claim_keeps s t value k h e =
    let m = mapped_some (λ address. record s { claims = s.claims ++ address ∷ [] }) (address_of value) t e in
    subst IsAccepted m.2 (record {
      boots_alone = λ b. absurd (both_ways (boots s.kind) k b);
      few_endpoints = h.few_endpoints;
      addresses = h.addresses;
      claims = All-push (λ (address : List ℕ). is_address address ≡ true) s.claims m.0 h.claims (address_is value m.0 m.1);
    })

block_keeps : (s t : ServiceLine) (value : List ℕ) → boots s.kind ≡ false → IsAccepted s → with_block s value ≡ Some t → IsAccepted t
unfolding with_block
block_keeps s t value k h e =
    let m = mapped_some (λ ip. record s { blocked = s.blocked ++ ip ∷ [] }) (ip_in value) t e in
    subst IsAccepted m.2 (record {
      boots_alone = λ b. absurd (both_ways (boots s.kind) k b);
      few_endpoints = h.few_endpoints;
      addresses = h.addresses;
      claims = h.claims;
    })

option_keeps : (s t : ServiceLine) (option : Setting) (n : ℕ) → boots s.kind ≡ false → IsAccepted s → with_option_of s option n ≡ Some t → IsAccepted t
unfolding with_option_of
option_keeps s t option n k h e =
    let c = refused_some (list_any (same_sort option) (options_at n s.endpoints)) (Some (record s { endpoints = with_option_at n option s.endpoints })) t e in
    let same : record s { endpoints = with_option_at n option s.endpoints } ≡ t = cc in
    subst IsAccepted same (record {
      boots_alone = λ b. absurd (both_ways (boots s.kind) k b);
      few_endpoints = omega (arith, with_option_at-length n option s.endpoints, h.few_endpoints);
      addresses = with_option_at-addresses n option s.endpoints h.addresses;
      claims = h.claims;
    })

setting_keeps : (s t : ServiceLine) (key value : List ℕ) → boots s.kind ≡ false → IsAccepted s → with_setting s key value ≡ Some t → IsAccepted t
unfolding with_setting
setting_keeps s t key value k h e =
    let o = then_some (option_of key value) (λ option. last_tcp_from 0 s.endpoints >>= λ n. with_option_of s option n) t e in
    let n = then_some (last_tcp_from 0 s.endpoints) (λ n. with_option_of s o.0 n) t o.2 in
    option_keeps s t o.0 n.0 k h n.2

undeclared_keeps : (s t : ServiceLine) → IsAccepted s → with_undeclared s ≡ Some t → IsAccepted t
unfolding with_undeclared
undeclared_keeps s t h e =
    let c = refused_some (s.undeclared || boots s.kind) (Some (record s { undeclared = true })) t e in
    let k : boots s.kind ≡ false = neither s.undeclared (boots s.kind) c.0 in
    let same : record s { undeclared = true } ≡ t = cc in
    subst IsAccepted same (record {
      boots_alone = λ b. absurd (both_ways (boots s.kind) k b);
      few_endpoints = h.few_endpoints;
      addresses = h.addresses;
      claims = h.claims;
    })

address_keeps : (s t : ServiceLine) (key value : List ℕ) → boots s.kind ≡ false → IsAccepted s → with_address s key value ≡ Some t → IsAccepted t
unfolding with_address
address_keeps s t key value k h e =
    either_some IsAccepted _ (with_endpoint s false value) _ t (endpoint_keeps s t false value k h)
    (either_some IsAccepted _ (with_endpoint s true value) _ t (endpoint_keeps s t true value k h)
    (either_some IsAccepted _ (with_claim s value) _ t (claim_keeps s t value k h)
    (either_some IsAccepted _ (with_block s value) _ t (block_keeps s t value k h) (setting_keeps s t key value k h)))) e

item_keeps : (s t : ServiceLine) (key value : List ℕ) → IsAccepted s → with_item s key value ≡ Some t → IsAccepted t
unfolding with_item
item_keeps s t key value h e =
    either_some IsAccepted _ (with_after s value) _ t (after_keeps s t value h)
    (λ f. let c = refused_some (boots s.kind) (with_address s key value) t f in address_keeps s t key value c.0 h c.1) e

items_keep : (ws : List (List ℕ)) (s t : ServiceLine) → IsAccepted s → with_items s ws ≡ Some t → IsAccepted t
unfolding with_items
items_keep [] s t h e = let same : s ≡ t = cc in subst IsAccepted same h
items_keep (key ∷ []) s t h e = undeclared_keeps s t h (chosen_some (is_undeclared key) (with_undeclared s) t e).1
items_keep (key ∷ value ∷ more) s t h e =
    either_some IsAccepted (is_undeclared key) (with_undeclared s >>= λ u. with_items u (value ∷ more)) (with_item s key value >>= λ u. with_items u more) t
    (λ f. let m = then_some (with_undeclared s) (λ u. with_items u (value ∷ more)) t f in items_keep (value ∷ more) m.0 t (undeclared_keeps s m.0 h m.1) m.2)
    (λ f. let m = then_some (with_item s key value) (λ u. with_items u more) t f in items_keep more m.0 t (item_keeps s m.0 key value h m.1) m.2) e

-- what a line says as a service
pub said_accepted : (ws : List (List ℕ)) (s : ServiceLine) → service_of ws ≡ Some s → IsAccepted s
unfolding service_of
said_accepted [] s e = absurd cc
said_accepted (name ∷ []) s e = absurd cc
said_accepted (name ∷ kind ∷ items) s e =
    let n = then_some (name_of name) (λ n. kind_of kind >>= λ k. with_items (bare n k) items) s e in
    let k = then_some (kind_of kind) (λ k. with_items (bare n.0 k) items) s n.2 in
    items_keep items (bare n.0 k.0) s
    (record {
      boots_alone = λ b. (refl, refl, refl, refl);
      few_endpoints = omega arith;
      addresses = λ i d lt. absurd (omega arith);
      claims = λ i d lt. absurd (omega arith);
    }) k.2

-- ---- one more service

pub accepted_none : AreAccepted []
accepted_none = record { few = omega arith; each = λ k d lt. absurd (omega arith) }

pub accepted_push : (xs : List ServiceLine) (s : ServiceLine) → AreAccepted xs → length xs < 1024 → IsAccepted s → AreAccepted (xs ++ s ∷ [])
accepted_push xs s h few said = record {
  few = omega (arith, length-append xs (s ∷ []));
  each = All-push IsAccepted xs s h.each said;
}

-- ---- one more line

-- a line that says a service is neither skipped nor `eager`
not_skipped : (ws : List (List ℕ)) (s : ServiceLine) → service_of ws ≡ Some s → is_skipped ws ≡ false
not_skipped ws s e =
    elim (cases_Bool (is_skipped ws)) [
      | inl skipped ↦ let none = skipped_service ws skipped in absurd cc
      | inr said ↦ said
    ]

not_eager : (ws : List (List ℕ)) (s : ServiceLine) → service_of ws ≡ Some s → is_eager ws ≡ false
not_eager ws s e =
    elim (cases_Bool (is_eager ws)) [
      | inl eager ↦ let none = eager_service ws eager in absurd cc
      | inr said ↦ said
    ]

next_few : (xs : List ServiceLine) (o : Option ServiceLine) → is_next xs o ≡ true → length xs < 1024
next_few xs o h = ltb-true (length xs) 1024 (and_parts _ _ h).1

-- a line of no header that fits and says a service, in the part of the services
fits_next : (part : ℕ) (eager : Bool) (xs : List ServiceLine) (line : List ℕ) (s : ServiceLine) → header_of line ≡ None → (part == 2) ≡ true
    → service_of (words line) ≡ Some s
    → line_fits part eager xs line ≡ true → is_next xs (service_of (words line)) ≡ true
unfolding line_fits place_fits says_item says_service
fits_next part eager xs line s h two e f =
    let is : part ≡ 2 = eqb-true part 2 two in
    let other : (part == 1) ≡ false = ap (λ (n : ℕ). n == 1) is in
    let skipped : is_skipped (words line) ≡ false = not_skipped (words line) s e in
    let plain : is_eager (words line) ≡ false = not_eager (words line) s e in
    let p = and_parts (is_utf8 line) _ f in
    rw (h, other, skipped, two, plain) at p.1

said_one : (xs : List ServiceLine) (o : Option ServiceLine) → AreAccepted xs → ((s : ServiceLine) → o ≡ Some s → AreAccepted (xs ++ s ∷ []))
    → AreAccepted (xs ++ option_to_list o)
said_one xs None h f = subst AreAccepted (sym (append-nil xs)) h
said_one xs (Some s) h f = f s refl

said_if : (b : Bool) (xs ys : List ServiceLine) → AreAccepted xs → (b ≡ true → AreAccepted (xs ++ ys)) → AreAccepted (xs ++ cond b ys [])
said_if false xs ys h f = subst AreAccepted (sym (append-nil xs)) h
said_if true xs ys h f = f refl

-- a line that fits leaves the services accepted
pub accepted_line : (part : ℕ) (eager : Bool) (xs : List ServiceLine) (line : List ℕ) → AreAccepted xs → line_fits part eager xs line ≡ true
    → AreAccepted (xs ++ said_services part line)
accepted_line part eager xs line h f = by_header (header_of line) refl
  where
    by_header : (o : Option Section) → header_of line ≡ o → AreAccepted (xs ++ said_services part line)
    by_header (Some p) e =
        subst (λ (ys : List ServiceLine). AreAccepted (xs ++ ys)) (sym (header_says part line p e).0) (subst AreAccepted (sym (append-nil xs)) h)
    by_header None e =
        subst (λ (ys : List ServiceLine). AreAccepted (xs ++ ys)) (sym (item_says part line e).0)
        (said_if (part == 2) xs (option_to_list (service_of (words line))) h (λ two.
        said_one xs (service_of (words line)) h (λ s said.
        let few : length xs < 1024 = next_few xs (service_of (words line)) (fits_next part eager xs line s e two said f) in
        accepted_push xs s h few (said_accepted (words line) s said))))
