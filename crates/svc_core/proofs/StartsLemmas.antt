-- Laws on what is started, ready and due.
use Rattle.std.proofs.Common.{ℕ, suc, Bool, true, false, ◌||◌, ◌&&◌, not, ◌==◌, inl, inr, List, [], ◌∷◌, ◌≡◌, refl, ap, sym, ◌∙◌, arith, ◌<◌, ◌+◌, subst, if◌then◌else◌, length, slice_index_or, slice_set}
use Rattle.std.specs.List.{list_all, list_any}
use Rattle.std.proofs.lemmas.Bool.{eqb-true, eq-eqb, ne_eqb, and_parts, and_from, or_parts, cases_eq}
use Rattle.std.proofs.lemmas.List.{get_or-set_same, get_or-set_other}
use Rattle.svc_graph.specs.declared.plan.Kind.TheVariants.{Plain, Bootstrap}
use Rattle.svc_record.specs.declared.plan.Plan.{Plan}
use Rattle.svc_record.specs.declared.entry.Entry.{Entry}
use Rattle.svc_record.specs.declared.entry.Entry.TheVariants.{Got, Told}
use Rattle.svc_record.specs.declared.action.Action.{Action}
use Rattle.svc_record.specs.declared.action.Action.TheVariants.{Start}
use Rattle.svc_record.specs.declared.event.Event.{Event}
use Rattle.svc_record.specs.declared.event.Event.TheVariants.{Ready, Ended}
use Rattle.svc_record.specs.Record.{Record, has, times, tell, is_bootstrap_complete, EachEntry}
use Rattle.svc_record.specs.Failed.{has_failed}
use Rattle.svc_record.specs.Starts.{is_start, is_ready_event, is_ended_event, is_started, is_ready, is_due, start_due}
use Rattle.svc_record.specs.Plans.{depends, has_kind, service_count}
use Rattle.svc_record.specs.Validity.{IsValid, depends_on}
use Rattle.svc_core.specs.StartsData.{StartsData}
use Rattle.svc_core.specs.StartsState.{IsStartsSized, StartsStand, AreFailed, is_flagged, ready_now, due_now, starts_now, start_if, word_taken, end_taken}
use Rattle.svc_endpoints.proofs.GrowLemmas.{failed-grows}

-- what holds of every number that passes
list_all-weaker : (P Q : ℕ → Bool) → ((x : ℕ) → P x ≡ true → Q x ≡ true) → (xs : List ℕ) → list_all P xs ≡ true → list_all Q xs ≡ true
list_all-weaker P Q f [] h = refl
list_all-weaker P Q f (x ∷ xs) h =
    let parts = and_parts (P x) (list_all P xs) h in
    and_from (Q x) (list_all Q xs) (f x parts.0) (list_all-weaker P Q f xs parts.1)

-- two tests that agree on the list's numbers
list_all-same : (P Q : ℕ → Bool) (xs : List ℕ) → ((k d : ℕ) → k < length xs → P (slice_index_or xs k d) ≡ Q (slice_index_or xs k d))
    → list_all P xs ≡ list_all Q xs
list_all-same P Q [] f = refl
list_all-same P Q (x ∷ xs) f = rw (f 0 0 (omega arith), list_all-same P Q xs (λ k d lt. f (suc k) d (omega arith))) refl

-- Boolean algebra, over plain variables
or_grows : (a b x y i d m k c z f g : Bool) → (((b || y) || f) || (d && (i || (k && c)))) ≡ true → (f ≡ true → g ≡ true)
    → ((((a || b) || (x || y)) || g) || ((m || d) && (i || (k && (z || c))))) ≡ true
or_grows a b x y i d m k c z f g h e = grind (arith, e)

ready-grows : (p : Plan) (q : Record) (e : Entry) (s : ℕ) → is_ready p q s ≡ true → is_ready p (e ∷ q) s ≡ true
ready-grows p q e s h =
    or_grows (is_ready_event s e) (has (is_ready_event s) q) (is_ended_event s e) (has (is_ended_event s) q) (has_kind p Plain s) (is_started q s)
    (is_start s e)
    (has_kind p Bootstrap s) (has is_bootstrap_complete q) (is_bootstrap_complete e)
    (has_failed p q s) (has_failed p (e ∷ q) s) h (failed-grows p q e s)

pub is_due-grows : (p : Plan) (q : Record) (e : Entry) (s : ℕ) → is_due p q s ≡ true → is_due p (e ∷ q) s ≡ true
is_due-grows p q e s h = list_all-weaker (is_ready p q) (is_ready p (e ∷ q)) (ready-grows p q e) (depends p s) h

one_more : (here before : Bool) (n : ℕ) → n ≡ (if before then 1 else 0) → (here ≡ true → before ≡ false)
    → (if here then n + 1 else n) ≡ (if here || before then 1 else 0)
one_more here before n e f = grind (arith, f)

not_eqb : (s x : ℕ) → (x == s) ≡ false → (s == x) ≡ false
not_eqb s x h = ne_eqb s x (λ e. let k = eq-eqb x s (sym e) in cc)

-- a start changes nothing for those that do not depend on it
all_ready_others : (p : Plan) (q : Record) (s : ℕ) (xs : List ℕ) → list_any (λ x. x == s) xs ≡ false
    → list_all (is_ready p (Told (Start s) ∷ q)) xs ≡ list_all (is_ready p q) xs
all_ready_others p q s [] h = refl
all_ready_others p q s (x ∷ xs) h =
    let parts = or_parts (x == s) (list_any (λ y. y == s) xs) h in
    rw (not_eqb s x parts.0, all_ready_others p q s xs parts.1) refl

pub is_due-start : (p : Plan) (q : Record) (s t : ℕ) → depends_on p t s ≡ false
    → is_due p (Told (Start s) ∷ q) t ≡ is_due p q t
is_due-start p q s t h = all_ready_others p q s (depends p t) h

not_started : (b d : Bool) → (not b && d) ≡ true → b ≡ false
not_started b d h = grind arith

-- each service is started at most once
count_step : (p : Plan) (q : Record) (s : ℕ) (a : Action) → times (is_start s) q ≡ (if is_started q s then 1 else 0)
    → start_due p (Told a) q ≡ true → times (is_start s) (Told a ∷ q) ≡ (if is_started (Told a ∷ q) s then 1 else 0)
count_step p q s (Start t) n due =
    one_more (t == s) (is_started q s) (times (is_start s) q) n
    (λ e. subst (λ k. is_started q k ≡ false) (eqb-true t s e) (not_started (is_started q t) (is_due p q t) due))
count_step p q s _ n due = n

pub count-start : (p : Plan) (q : Record) (s : ℕ) → EachEntry (λ e before. start_due p e before ≡ true) q
    → times (is_start s) q ≡ (if is_started q s then 1 else 0)
count-start p [] s h = refl
count-start p (Got e ∷ q) s h = count-start p q s h.1
count-start p (Told a ∷ q) s h = count_step p q s a (count-start p q s h.1) h.0

-- a flag that is set
pub flag-set : (flags : List Bool) (s t : ℕ) → s < length flags → is_flagged (slice_set flags s true) t ≡ ((s == t) || is_flagged flags t)
flag-set flags s t lt = elim (cases_eq t s) [
  | inl e ↦ subst (λ u. is_flagged (slice_set flags s true) u ≡ ((s == u) || is_flagged flags u)) (sym e)
      (get_or-set_same flags s true false lt ∙ sym (ap (λ b. b || is_flagged flags s) (eq-eqb s s refl)))
  | inr ne ↦ get_or-set_other flags s t true false ne ∙ sym (ap (λ b. b || is_flagged flags t) (ne_eqb s t (λ e. ne (sym e))))
]

pub stands-start : (p : Plan) (st : StartsData) (q : Record) (s : ℕ) → IsStartsSized p st → s < service_count p → StartsStand p st q
    → StartsStand p (start_if true s st) (Told (Start s) ∷ q)
stands-start p st q s sized inside h = record {
  started_is = λ t lt. flag-set st.started s t (let e = sized.started in omega arith) ∙ ap (λ b. (s == t) || b) (h.started_is t lt);
  ready_is = h.ready_is;
  ended_is = h.ended_is;
}

pub stands-word : (p : Plan) (st : StartsData) (q : Record) (s : ℕ) → IsStartsSized p st → s < service_count p → StartsStand p st q
    → StartsStand p (word_taken s st) (Got (Ready s) ∷ q)
stands-word p st q s sized inside h = record {
  started_is = h.started_is;
  ready_is = λ t lt. flag-set st.ready s t (let e = sized.ready in omega arith) ∙ ap (λ b. (s == t) || b) (h.ready_is t lt);
  ended_is = h.ended_is;
}

pub stands-end : (p : Plan) (st : StartsData) (q : Record) (s : ℕ) → IsStartsSized p st → s < service_count p → StartsStand p st q
    → StartsStand p (end_taken s st) (Got (Ended s) ∷ q)
stands-end p st q s sized inside h = record {
  started_is = h.started_is;
  ready_is = h.ready_is;
  ended_is = λ t lt. flag-set st.ended s t (let e = sized.ended in omega arith) ∙ ap (λ b. (s == t) || b) (h.ended_is t lt);
}

-- the part's own tests are the record's
pub ready-is : (p : Plan) (st : StartsData) (failed : List Bool) (complete : Bool) (q : Record) (s : ℕ) → s < service_count p → StartsStand p st q
    → AreFailed p failed q → complete ≡ has is_bootstrap_complete q
    → ready_now p st failed complete s ≡ is_ready p q s
ready-is p st failed complete q s inside h f c = rw (h.ready_is s inside, h.ended_is s inside, h.started_is s inside, f s inside, c) refl

pub due-is : (p : Plan) (st : StartsData) (failed : List Bool) (complete : Bool) (q : Record) (s : ℕ) → IsValid p → s < service_count p → StartsStand p st q
    → AreFailed p failed q → complete ≡ has is_bootstrap_complete q
    → due_now p st failed complete s ≡ is_due p q s
due-is p st failed complete q s valid inside h f c =
    list_all-same (ready_now p st failed complete) (is_ready p q) (depends p s)
    (λ k d lt. ready-is p st failed complete q (slice_index_or (depends p s) k d) (valid.inside s inside k d lt) h f c)

pub starts-is : (p : Plan) (st : StartsData) (failed : List Bool) (complete : Bool) (q : Record) (s : ℕ) → IsValid p → s < service_count p → StartsStand p st q
    → AreFailed p failed q → complete ≡ has is_bootstrap_complete q
    → starts_now p st failed complete s ≡ (not (is_started q s) && is_due p q s)
starts-is p st failed complete q s valid inside h f c = rw (h.started_is s inside, due-is p st failed complete q s valid inside h f c) refl

pub is_due-tell : (p : Plan) (q : Record) (told : List Action) (s : ℕ) → is_due p q s ≡ true → is_due p (tell q told) s ≡ true
is_due-tell p q [] s h = h
is_due-tell p q (a ∷ told) s h = is_due-tell p (Told a ∷ q) told s (is_due-grows p q (Told a) s h)

-- the event is a service's word, or the end of its work
abbrev pub is_word : Event → Bool
is_word (Ready s) = true
is_word (Ended s) = true
is_word _ = false

pub starts-got : (p : Plan) (st : StartsData) (q : Record) (e : Event) → is_word e ≡ false → StartsStand p st q → StartsStand p st (Got e ∷ q)
starts-got p st q (Ready s) other h = absurd (cc)
starts-got p st q (Ended s) other h = absurd (cc)
starts-got p st q _ other h = record { started_is = h.started_is; ready_is = h.ready_is; ended_is = h.ended_is }
