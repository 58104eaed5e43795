-- What the counts of missing dependencies say of services that are ready and that are due, and how services become ready.
use Rattle.std.proofs.Common.{ℕ, Bool, true, false, not, ◌||◌, ◌&&◌, ◌==◌, ◌⊎◌, inl, inr, List, ◌≡◌, refl, ap, sym, ◌∙◌, subst, arith, ◌<◌, ◌+◌, length, length-set, take, slice_index, slice_set}
use Rattle.std.proofs.lemmas.Bool.{and_left, and_right, eq-eqb, ne_eqb, or_left, or_right, or_cases, eqb-true, cases_eq, cases_Bool}
use Rattle.std.proofs.lemmas.List.Folds.{list_any_more}
use Rattle.std.proofs.lemmas.List.Sums.{AllPass-from_list_all, list_all-from_AllPass}
use Rattle.svc_graph.specs.Bits.{is_set}
use Rattle.svc_graph.specs.Counts.{count_below}
use Rattle.svc_graph.specs.Graphs.{is_in_row, is_listed}
use Rattle.svc_graph.specs.Marks.{is_marked}
use Rattle.svc_graph.specs.WaitingData.{WaitingData}
use Rattle.svc_graph.specs.Waitings.{missing_of, waits_for}
use Rattle.svc_graph.specs.declared.plan.Kind.TheVariants.{Plain, Bootstrap}
use Rattle.svc_graph.proofs.Counts.{count-none, count-same, count-zero}
use Rattle.svc_graph.proofs.Lists.{All-listed, All-from_listed}
use Rattle.svc_record.specs.declared.plan.Plan.{Plan}
use Rattle.svc_record.specs.Plans.{service_count, depends, has_kind}
use Rattle.svc_record.specs.Validity.{IsValid, depends_on}
use Rattle.svc_core.specs.StartsData.{StartsData}
use Rattle.svc_core.specs.StartsState.{is_flagged, ready_now, due_now, start_if, word_taken, end_taken}
use Rattle.svc_core.specs.WaitsData.{WaitsData}
use Rattle.svc_core.specs.WaitsState.{Lacks, KnowsReady, IsSound, CountsPlan, MarksOnly, IsMarked, IsDueAt, StartsOnly, is_open}
use Rattle.svc_core.proofs.StartsLemmas.{flag-set}

-- Boolean algebra, over plain variables
pub and_clash : (a : Bool) → a ≡ true → a ≡ false → (A : Type 0) → A
and_clash a on off A = absurd (cc)

not_off : (a : Bool) → a ≡ true → not a ≡ false
not_off a h = grind arith

off_on : (a b : Bool) → (a && not b) ≡ false → a ≡ true → b ≡ true
off_on a b h on = grind arith

-- each dependency is ready where all are
ready_each : (p : Plan) (st : StartsData) (failed : List Bool) (complete : Bool) (s b : ℕ) → due_now p st failed complete s ≡ true → depends_on p s b ≡ true
    → ready_now p st failed complete b ≡ true
ready_each p st failed complete s b due on =
    All-listed (λ d. ready_now p st failed complete d ≡ true) (depends p s) b (AllPass-from_list_all (ready_now p st failed complete) (depends p s) due) on

-- a service that lacks a dependency isn't due
pub not-due : (p : Plan) (st : StartsData) (failed : List Bool) (complete : Bool) (w : WaitsData) (s : ℕ) → s < service_count p
    → length w.counts.marks ≡ service_count p → CountsPlan p w → KnowsReady p st failed complete w → Lacks w s
    → due_now p st failed complete s ≡ false
not-due p st failed complete w s inside count edges knows lacks = elim (cases_Bool (due_now p st failed complete s)) [
  | inl due ↦ absurd (lacks (count-none (λ b. waits_for w.counts s b && not (is_marked w.counts.marks b)) (length w.counts.marks)
      (λ b lt. none b (let n = count in omega arith) due)))
  | inr off ↦ off
]
  where
    none : (b : ℕ) → b < service_count p → due_now p st failed complete s ≡ true → (waits_for w.counts s b && not (is_marked w.counts.marks b)) ≡ false
    none b lt due = elim (cases_Bool (waits_for w.counts s b)) [
      | inl on ↦ and_right (waits_for w.counts s b) (not (is_marked w.counts.marks b))
          (not_off (is_marked w.counts.marks b) (knows b lt (ready_each p st failed complete s b due (sym (edges s b inside) ∙ on))))
      | inr off ↦ and_left (waits_for w.counts s b) (not (is_marked w.counts.marks b)) off
    ]

-- one that lacks none is
pub due-none : (p : Plan) (st : StartsData) (failed : List Bool) (complete : Bool) (w : WaitsData) (s : ℕ) → IsValid p → s < service_count p
    → length w.counts.marks ≡ service_count p → CountsPlan p w → IsSound p st failed complete w → missing_of w.counts s ≡ 0
    → due_now p st failed complete s ≡ true
due-none p st failed complete w s valid inside count edges sound none =
    list_all-from_AllPass (ready_now p st failed complete) (depends p s)
    (All-from_listed (λ d. ready_now p st failed complete d ≡ true) (depends p s) each)
  where
    each : (b : ℕ) → depends_on p s b ≡ true → ready_now p st failed complete b ≡ true
    each b on =
        let lt : b < service_count p = All-listed (λ d. d < service_count p) (depends p s) b (valid.inside s inside) on in
        sound b lt (off_on (waits_for w.counts s b) (is_marked w.counts.marks b)
        (count-zero (λ d. waits_for w.counts s d && not (is_marked w.counts.marks d)) (length w.counts.marks) none b (omega arith)) (edges s b inside ∙ on))

-- a visit at a place that isn't left out starts what isn't started
pub due-at : (p : Plan) (st : StartsData) (failed : List Bool) (complete : Bool) (w : WaitsData) (s : ℕ) → IsValid p → s < service_count p
    → length w.counts.marks ≡ service_count p → CountsPlan p w → IsSound p st failed complete w
    → (is_flagged st.started s ≡ true) ⊎ (missing_of w.counts s ≡ 0) → IsDueAt p st failed complete s
due-at p st failed complete w s valid inside count edges sound (inl on) = inl on
due-at p st failed complete w s valid inside count edges sound (inr none) = inr (due-none p st failed complete w s valid inside count edges sound none)

-- what is ready stays so: by a word, by an end, by a start, by a failure, and as bootstrapping is complete
more_word : (x r e f o : Bool) → (((r || e) || f) || o) ≡ true → ((((x || r) || e) || f) || o) ≡ true
more_word x r e f o h = grind arith

more_end : (x r e f o : Bool) → (((r || e) || f) || o) ≡ true → (((r || (x || e)) || f) || o) ≡ true
more_end x r e f o h = grind arith

more_start : (x a s k : Bool) → (a || (s && k)) ≡ true → (a || ((x || s) && k)) ≡ true
more_start x a s k h = grind arith

more_failed : (a f g o : Bool) → (f ≡ true → g ≡ true) → ((a || f) || o) ≡ true → ((a || g) || o) ≡ true
more_failed a true g o more h = rw (more refl) (or_left (a || true) o (or_right a true refl))
more_failed a false g o more h = left_failed a g o h
  where
    left_failed : (a g o : Bool) → ((a || false) || o) ≡ true → ((a || g) || o) ≡ true
    left_failed a g o h = grind arith

more_complete : (a s k b c d : Bool) → (c ≡ true → d ≡ true) → (a || (s && (k || (b && c)))) ≡ true → (a || (s && (k || (b && d)))) ≡ true
more_complete a s k b true d more h = subst (λ x. (a || (s && (k || (b && x)))) ≡ true) (sym (more refl)) h
more_complete a s k b false d more h = left_complete a s k b d h
  where
    left_complete : (a s k b d : Bool) → (a || (s && (k || (b && false)))) ≡ true → (a || (s && (k || (b && d)))) ≡ true
    left_complete a s k b d h = grind arith

word_on : (x e f o : Bool) → x ≡ true → (((x || e) || f) || o) ≡ true
word_on x e f o h = grind arith

end_on : (r x f o : Bool) → x ≡ true → (((r || x) || f) || o) ≡ true
end_on r x f o h = grind arith

failed_on : (a x o : Bool) → x ≡ true → ((a || x) || o) ≡ true
failed_on a x o h = grind arith

module _ (p : Plan) (st : StartsData) (failed : List Bool) (complete : Bool) where
  pub grows-word : (s t : ℕ) → s < length st.ready → ready_now p st failed complete t ≡ true → ready_now p (word_taken s st) failed complete t ≡ true
  grows-word s t lt on =
      subst (λ b. (((b || is_flagged st.ended t) || is_flagged failed t)
      || (is_flagged st.started t && (has_kind p Plain t || (has_kind p Bootstrap t && complete)))) ≡ true) (sym (flag-set st.ready s t lt))
      (more_word (s == t) (is_flagged st.ready t) (is_flagged st.ended t) (is_flagged failed t)
      (is_flagged st.started t && (has_kind p Plain t || (has_kind p Bootstrap t && complete))) on)

  pub grows-end : (s t : ℕ) → s < length st.ended → ready_now p st failed complete t ≡ true → ready_now p (end_taken s st) failed complete t ≡ true
  grows-end s t lt on =
      subst (λ b. (((is_flagged st.ready t || b) || is_flagged failed t)
      || (is_flagged st.started t && (has_kind p Plain t || (has_kind p Bootstrap t && complete)))) ≡ true) (sym (flag-set st.ended s t lt))
      (more_end (s == t) (is_flagged st.ready t) (is_flagged st.ended t) (is_flagged failed t)
      (is_flagged st.started t && (has_kind p Plain t || (has_kind p Bootstrap t && complete))) on)

  grows_start : (s t : ℕ) (starts : Bool) → s < length st.started → ready_now p st failed complete t ≡ true
      → ready_now p (start_if starts s st) failed complete t ≡ true
  grows_start s t true lt on =
      subst (λ b. (((is_flagged st.ready t || is_flagged st.ended t) || is_flagged failed t)
      || (b && (has_kind p Plain t || (has_kind p Bootstrap t && complete)))) ≡ true) (sym (flag-set st.started s t lt))
      (more_start (s == t) ((is_flagged st.ready t || is_flagged st.ended t) || is_flagged failed t) (is_flagged st.started t)
      (has_kind p Plain t || (has_kind p Bootstrap t && complete)) on)
  grows_start s t false lt on = on

  pub grows-start : (st' : StartsData) (was : Bool) (s t : ℕ) → s < length st.started → StartsOnly p failed was s st st'
      → ready_now p st failed complete t ≡ true → ready_now p st' failed complete t ≡ true
  grows-start st' was s t lt only on =
      subst (λ x. ready_now p x failed complete t ≡ true) (sym only.after) (grows_start s t only.starts lt on)

  pub grows-failed : (failed' : List Bool) (t : ℕ) → (is_flagged failed t ≡ true → is_flagged failed' t ≡ true) → ready_now p st failed complete t ≡ true
      → ready_now p st failed' complete t ≡ true
  grows-failed failed' t more on =
      more_failed (is_flagged st.ready t || is_flagged st.ended t) (is_flagged failed t) (is_flagged failed' t)
      (is_flagged st.started t && (has_kind p Plain t || (has_kind p Bootstrap t && complete))) more on

  pub grows-complete : (complete' : Bool) (t : ℕ) → (complete ≡ true → complete' ≡ true) → ready_now p st failed complete t ≡ true
      → ready_now p st failed complete' t ≡ true
  grows-complete complete' t more on =
      more_complete ((is_flagged st.ready t || is_flagged st.ended t) || is_flagged failed t) (is_flagged st.started t) (has_kind p Plain t)
      (has_kind p Bootstrap t) complete complete' more on

  -- and the service itself is ready then
  pub ready-word : (s : ℕ) → s < length st.ready → ready_now p (word_taken s st) failed complete s ≡ true
  ready-word s lt =
      word_on (is_flagged (word_taken s st).ready s) (is_flagged st.ended s) (is_flagged failed s)
      (is_flagged st.started s && (has_kind p Plain s || (has_kind p Bootstrap s && complete)))
      (flag-set st.ready s s lt ∙ or_left (s == s) (is_flagged st.ready s) (eq-eqb s s refl))

  pub ready-end : (s : ℕ) → s < length st.ended → ready_now p (end_taken s st) failed complete s ≡ true
  ready-end s lt =
      end_on (is_flagged st.ready s) (is_flagged (end_taken s st).ended s) (is_flagged failed s)
      (is_flagged st.started s && (has_kind p Plain s || (has_kind p Bootstrap s && complete)))
      (flag-set st.ended s s lt ∙ or_left (s == s) (is_flagged st.ended s) (eq-eqb s s refl))

  pub ready-failed : (s : ℕ) → is_flagged failed s ≡ true → ready_now p st failed complete s ≡ true
  ready-failed s on =
      failed_on (is_flagged st.ready s || is_flagged st.ended s) (is_flagged failed s)
      (is_flagged st.started s && (has_kind p Plain s || (has_kind p Bootstrap s && complete))) on

-- a service that is ready was marked, and what is ready stays so
pub sound-marked : (p : Plan) (order : List ℕ) (st st' : StartsData) (failed failed' : List Bool) (complete : Bool) (s : ℕ) (w v : WaitsData)
    → IsMarked order s w v
    → ((t : ℕ) → ready_now p st failed complete t ≡ true → ready_now p st' failed' complete t ≡ true) → ready_now p st' failed' complete s ≡ true
    → IsSound p st failed complete w → IsSound p st' failed' complete v
sound-marked p order st st' failed failed' complete s w v m grows here sound = λ t inside on.
    elim (cases_eq s t) [
      | inl same ↦ subst (λ u. ready_now p st' failed' complete u ≡ true) same here
      | inr ne ↦ grows t (sound t inside (ap (λ b. b || is_flagged w.counts.marks t) (sym (ne_eqb s t ne)) ∙ sym (m.marks t) ∙ on))
    ]

-- only services that are ready were marked
pub sound-only : (p : Plan) (st : StartsData) (failed : List Bool) (complete : Bool) (w v : WaitsData) → MarksOnly (ready_now p st failed complete) w v
    → IsSound p st failed complete w → IsSound p st failed complete v
sound-only p st failed complete w v only sound = λ t inside on. elim (only t on) [ inl was ↦ sound t inside was | inr ready ↦ ready ]

-- one mark more: what lacks nothing by it waited for the service, and its place was opened
pub marked-by : (order : List ℕ) (s : ℕ) (w v : WaitsData) → s < length w.counts.marks → v.counts.depends ≡ w.counts.depends
    → v.counts.marks ≡ slice_set w.counts.marks s true → ((a b : ℕ) → is_set w.bits a b ≡ true → is_set v.bits a b ≡ true)
    → ((k : ℕ) → k < length order → waits_for v.counts (slice_index order k) s ≡ true → missing_of v.counts (slice_index order k) ≡ 0 → is_open v k ≡ true)
    → v.fresh ≡ w.fresh → v.complete ≡ w.complete → v.until ≡ w.until → IsMarked order s w v
marked-by order s w v lt depends marks kept opened fresh complete until = record {
  opens = record {
    count = size;
    depends = depends;
    kept = λ t on. flag t ∙ or_right (s == t) (is_flagged w.counts.marks t) on;
    waits = kept;
    opened = λ k inside lacks none. elim (cases_Bool (waits_for v.counts (slice_index order k) s)) [
      | inl on ↦ opened k inside on none
      | inr off ↦ absurd (lacks (same_missing (slice_index order k) off ∙ none))
    ];
    until = until;
  };
  marks = flag;
  fresh = fresh;
  complete = complete;
}
  where
    size : length v.counts.marks ≡ length w.counts.marks
    size = ap (λ m. length m) marks ∙ length-set w.counts.marks s true

    flag : (t : ℕ) → is_flagged v.counts.marks t ≡ ((s == t) || is_flagged w.counts.marks t)
    flag t = ap (λ m. is_flagged m t) marks ∙ flag-set w.counts.marks s t lt

    edge : (a b : ℕ) → waits_for v.counts a b ≡ waits_for w.counts a b
    edge a b = ap (λ rows. is_in_row rows a b) depends

    one : (a b : ℕ) → waits_for v.counts a s ≡ false
        → (waits_for w.counts a b && not (is_marked w.counts.marks b)) ≡ (waits_for v.counts a b && not (is_marked v.counts.marks b))
    one a b off = elim (cases_eq s b) [
      | inl same ↦
          (let none : waits_for v.counts a b ≡ false = subst (λ x. waits_for v.counts a x ≡ false) same off in
          and_left (waits_for w.counts a b) (not (is_marked w.counts.marks b)) (sym (edge a b) ∙ none)
          ∙ sym (and_left (waits_for v.counts a b) (not (is_marked v.counts.marks b)) none))
      | inr ne ↦ ap (λ e. e && not (is_marked w.counts.marks b)) (sym (edge a b))
          ∙ ap (λ m. waits_for v.counts a b && not m) (sym (flag b ∙ ap (λ x. x || is_flagged w.counts.marks b) (ne_eqb s b ne)))
    ]

    same_missing : (a : ℕ) → waits_for v.counts a s ≡ false → missing_of w.counts a ≡ missing_of v.counts a
    same_missing a off =
        count-same (λ b. waits_for w.counts a b && not (is_marked w.counts.marks b)) (λ b. waits_for v.counts a b && not (is_marked v.counts.marks b))
        (length w.counts.marks) (λ b _. one a b off)
        ∙ ap (λ n. count_below (λ b. waits_for v.counts a b && not (is_marked v.counts.marks b)) n) (sym size)

-- a service that is marked already
pub marked-already : (order : List ℕ) (s : ℕ) (w : WaitsData) → is_flagged w.counts.marks s ≡ true → IsMarked order s w w
marked-already order s w on = record {
  opens = record {
    count = refl;
    depends = refl;
    kept = λ t there. there;
    waits = λ a b there. there;
    opened = λ k inside lacks none. absurd (lacks none);
    until = refl;
  };
  marks = λ t. elim (cases_eq s t) [
    | inl same ↦ subst (λ u. is_flagged w.counts.marks u ≡ ((s == u) || is_flagged w.counts.marks u)) same
        (on ∙ sym (or_right (s == s) (is_flagged w.counts.marks s) on))
    | inr ne ↦ sym (ap (λ b. b || is_flagged w.counts.marks t) (ne_eqb s t ne))
  ];
  fresh = refl;
  complete = refl;
}

-- of the places of the first so many that were freed, one more is open
pub freed-next : (order row : List ℕ) (i : ℕ) (counts : WaitingData) (old new : List ℕ) → i < length row
    → ((a b : ℕ) → is_set old a b ≡ true → is_set new a b ≡ true)
    → ((k : ℕ) → k < length order → is_listed (take i row) (slice_index order k) ≡ true → missing_of counts (slice_index order k) ≡ 0 → is_set old 0 k ≡ true)
    → (missing_of counts (slice_index row i) ≡ 0 → (k : ℕ) → k < length order → slice_index order k ≡ slice_index row i → is_set new 0 k ≡ true)
    → (k : ℕ) → k < length order → is_listed (take (i + 1) row) (slice_index order k) ≡ true → missing_of counts (slice_index order k) ≡ 0
    → is_set new 0 k ≡ true
freed-next order row i counts old new lt kept was opens k inside listed none =
    elim (or_cases (is_listed (take i row) (slice_index order k)) (slice_index row i == slice_index order k)
    (sym (list_any_more (λ x. x == slice_index order k) row i 0 lt) ∙ listed)) [
      | inl early ↦ kept 0 k (was k inside early none)
      | inr here ↦ (let same : slice_index row i ≡ slice_index order k = eqb-true (slice_index row i) (slice_index order k) here in
          opens (ap (λ a. missing_of counts a) same ∙ none) k inside (sym same))
    ]

-- what a look at the service marks
pub only-marked : (p : Plan) (order : List ℕ) (st : StartsData) (failed : List Bool) (complete : Bool) (s : ℕ) (w v : WaitsData)
    → ready_now p st failed complete s ≡ true → IsMarked order s w v → MarksOnly (ready_now p st failed complete) w v
only-marked p order st failed complete s w v ready m t on = elim (cases_eq s t) [
  | inl same ↦ inr (subst (λ u. ready_now p st failed complete u ≡ true) same ready)
  | inr ne ↦ inl (ap (λ b. b || is_flagged w.counts.marks t) (sym (ne_eqb s t ne)) ∙ sym (m.marks t) ∙ on)
]

pub only-then : (test : ℕ → Bool) (u v w : WaitsData) → MarksOnly test u v → MarksOnly test v w → MarksOnly test u w
only-then test u v w first next t on = elim (next t on) [ inl early ↦ first t early | inr late ↦ inr late ]
