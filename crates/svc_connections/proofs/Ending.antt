-- After the end each live connection was cut, once, and all is right.
use Rattle.std.proofs.Common.{ℕ, Bool, true, false, not, ◌==◌, ◌&&◌, ◌||◌, ◌+◌, ◌++◌, List, [], ◌∷◌, map, filter, ◌≡◌, refl, ap, sym, ◌∙◌, subst, arith, zero-add, if◌then◌else◌}
use Rattle.std.specs.List.{list_all}
use Rattle.std.proofs.lemmas.Bool.{eqb-true, eq-eqb, and_parts, or_left, or_right}
use Rattle.svc_record.specs.declared.plan.Plan.{Plan}
use Rattle.svc_record.specs.declared.entry.Entry.TheVariants.{Told}
use Rattle.svc_record.specs.declared.action.Action.{Action}
use Rattle.svc_record.specs.declared.action.Action.TheVariants.{Phase, Cut, Close, Stop}
use Rattle.svc_record.specs.declared.action.ExecutionPhase.TheVariants.{ShutdownRuntimes, Terminated}
use Rattle.svc_record.specs.Record.{Record, has, times, tell, now, before_runtimes, EachEntry}
use Rattle.svc_record.specs.Connections.{Arrival, arrivals, arrived_numbers, is_arrival, is_cut, is_cut_off, goes_on, live_connections, connection_right, connection_known, ConnRight, rests_right, rest_due}
use Rattle.svc_record.specs.Drain.{live_numbers, stop_seconds, last_actions}
use Rattle.svc_base.specs.NumberSets.{ascending, is_in, distinct}
use Rattle.svc_record.proofs.Closing.{arrival-in}
use Rattle.svc_record.proofs.Tallies.{one_if, tally, tally-ascending, if_kept, tally-filter, is_in-same, is_in-filter, each_in}
use Rattle.svc_connections.specs.ConnectionsData.{ConnectionsData}
use Rattle.svc_connections.specs.ConnectionsState.{ConnectionsStand}
use Rattle.svc_connections.proofs.Parts.{Parts, parts, joined, cut_right}
use Rattle.svc_connections.proofs.Counts.{none-times}
use Rattle.svc_connections.proofs.Foreign.{all-grows}

-- the action is one that the end tells
abbrev pub is_last : Action → Bool
is_last (Phase x ms) = true
is_last (Cut c) = true
is_last (Close fd) = true
is_last (Stop n) = true
is_last _ = false

-- entries that change nothing but the cuts
record Same (p : Plan) (q r : Record) : Type 0 where
  arrived : arrivals r ≡ arrivals q
  parts_are : (x : Arrival) → Parts p q x → Parts p r x
  rests : rests_right r ≡ rests_right q
  turns : EachEntry (λ e before. rest_due e before ≡ true) q → EachEntry (λ e before. rest_due e before ≡ true) r

same-told : (p : Plan) (q : Record) (a : Action) → is_last a ≡ true → Same p q (Told a ∷ q)
same-told p q (Phase phase ms) h =
    record {
      arrived = refl;
      parts_are = λ x w.
          record {
            judged = w.judged;
            filtered = w.filtered;
            refused = w.refused;
            set_up = w.set_up;
            set_so = w.set_so;
            shakes = w.shakes;
            serves = w.serves;
            drops = w.drops;
          };
      rests = refl;
      turns = λ t. (refl, t);
    }
same-told p q (Cut c) h =
    record {
      arrived = refl;
      parts_are = λ x w.
          record {
            judged = w.judged;
            filtered = w.filtered;
            refused = w.refused;
            set_up = w.set_up;
            set_so = w.set_so;
            shakes = w.shakes;
            serves = w.serves;
            drops = w.drops;
          };
      rests = refl;
      turns = λ t. (refl, t);
    }
same-told p q (Close fd) h =
    record {
      arrived = refl;
      parts_are = λ x w.
          record {
            judged = w.judged;
            filtered = w.filtered;
            refused = w.refused;
            set_up = w.set_up;
            set_so = w.set_so;
            shakes = w.shakes;
            serves = w.serves;
            drops = w.drops;
          };
      rests = refl;
      turns = λ t. (refl, t);
    }
same-told p q (Stop n) h =
    record {
      arrived = refl;
      parts_are = λ x w.
          record {
            judged = w.judged;
            filtered = w.filtered;
            refused = w.refused;
            set_up = w.set_up;
            set_so = w.set_so;
            shakes = w.shakes;
            serves = w.serves;
            drops = w.drops;
          };
      rests = refl;
      turns = λ t. (refl, t);
    }
same-told p q _ h = cc

same-tell : (p : Plan) (q : Record) (told : List Action) → list_all is_last told ≡ true → Same p q (tell q told)
same-tell p q [] h = record { arrived = refl; parts_are = λ x w. w; rests = refl; turns = λ t. t }
same-tell p q (a ∷ told) h =
    let both = and_parts (is_last a) (list_all is_last told) h in
    let one = same-told p q a both.0 in
    let more = same-tell p (Told a ∷ q) told both.1 in
    record {
      arrived = more.arrived ∙ one.arrived;
      parts_are = λ x w. more.parts_are x (one.parts_are x w);
      rests = more.rests
          ∙ one.rests;
      turns = λ t. more.turns (one.turns t);
    }

-- what stands after the cuts
abbrev rest : List ℕ → ℕ → ℕ → List Action
rest fds n t = map Close fds ++ (Stop n ∷ Phase Terminated t ∷ [])

all-last : (cs fds : List ℕ) (n t : ℕ) → list_all is_last (map Cut cs ++ rest fds n t) ≡ true
all-last [] [] n t = refl
all-last [] (fd ∷ fds) n t = all-last [] fds n t
all-last (c ∷ cs) fds n t = all-last cs fds n t

before-last : (cs fds : List ℕ) (n t : ℕ) (r : Record) → before_runtimes (tell r (map Cut cs ++ rest fds n t)) ≡ before_runtimes r
before-last [] [] n t r = refl
before-last [] (fd ∷ fds) n t r = before-last [] fds n t (Told (Close fd) ∷ r)
before-last (c ∷ cs) fds n t r = before-last cs fds n t (Told (Cut c) ∷ r)

-- each cut is counted once
counted-more : (s : Bool) (k t r : ℕ) → k ≡ t + (if s then r + 1 else r) → k ≡ (one_if s + t) + r
counted-more true k t r e = omega (arith, e)
counted-more false k t r e = omega (arith, e)

times-cut : (c : ℕ) (cs fds : List ℕ) (n t : ℕ) (r : Record) → times (is_cut c) (tell r (map Cut cs ++ rest fds n t)) ≡ tally c cs + times (is_cut c) r
times-cut c [] [] n t r = sym (zero-add (times (is_cut c) r))
times-cut c [] (fd ∷ fds) n t r = times-cut c [] fds n t (Told (Close fd) ∷ r)
times-cut c (m ∷ cs) fds n t r = counted-more (m == c) _ (tally c cs) (times (is_cut c) r) (times-cut c cs fds n t (Told (Cut m) ∷ r))

one-sum : (b i : Bool) (k : ℕ) → k ≡ one_if i → (b ≡ true → i ≡ false) → one_if b + k ≡ one_if (b || i)
one-sum true i k e f = ap (λ (x : ℕ). 1 + x) (e ∙ ap one_if (f refl))
one-sum false i k e f = zero-add k ∙ e

plain : (b : Bool) → not b ≡ true → b ≡ false
plain b h = grind arith

tally-once : (c : ℕ) (ns : List ℕ) → distinct ns ≡ true → tally c ns ≡ one_if (is_in c ns)
tally-once c [] h = refl
tally-once c (n ∷ ns) h = let both = and_parts (not (is_in n ns)) (distinct ns) h in
    one-sum (n == c) (is_in c ns) (tally c ns) (tally-once c ns both.1)
    (λ y. subst (λ (m : ℕ). is_in m ns ≡ false) (eqb-true n c y) (plain (is_in n ns) both.0))

kept-once : (a g : Bool) → if_kept (g && true) (one_if a) + 0 ≡ (if a && g then 1 else 0)
kept-once true true = refl
kept-once true false = refl
kept-once false true = refl
kept-once false false = refl

goes-last : (c : ℕ) (cs fds : List ℕ) (n t : ℕ) (r : Record) → goes_on (tell r (map Cut cs ++ rest fds n t)) c ≡ goes_on r c
goes-last c [] [] n t r = refl
goes-last c [] (fd ∷ fds) n t r = goes-last c [] fds n t (Told (Close fd) ∷ r)
goes-last c (m ∷ cs) fds n t r = goes-last c cs fds n t (Told (Cut m) ∷ r)

cut-last : (c : ℕ) (cs fds : List ℕ) (n t : ℕ) (r : Record) → has (is_cut c) (tell r (map Cut cs ++ rest fds n t)) ≡ (is_in c cs || has (is_cut c) r)
cut-last c [] [] n t r = refl
cut-last c [] (fd ∷ fds) n t r = cut-last c [] fds n t (Told (Close fd) ∷ r)
cut-last c (m ∷ cs) fds n t r = cut-last c cs fds n t (Told (Cut m) ∷ r) ∙ first (is_in c cs) (m == c) (has (is_cut c) r)
  where
    first : (a b h : Bool) → (a || (b || h)) ≡ ((b || a) || h)
    first a b h = grind arith

filter-none : (test : ℕ → Bool) (ns : List ℕ) → ((c : ℕ) → is_in c ns ≡ true → test c ≡ false) → filter test ns ≡ []
filter-none test [] f = refl
filter-none test (n ∷ ns) f = rw (f n (or_left (n == n) (is_in n ns) (eq-eqb n n refl))) (filter-none test ns (λ c h. f c (or_right (n == c) (is_in c ns) h)))

-- the cuts of the end are those that are due
module _ (p : Plan) (d : ConnectionsData) (q : Record) (w : ConnectionsStand p d q) where
  abbrev cs : List ℕ
  cs = ascending (live_connections q)

  abbrev fds : List ℕ
  fds = ascending (live_numbers p q)

  abbrev phase : Record
  phase = Told (Phase ShutdownRuntimes (now q)) ∷ q

  abbrev end : Record
  end = tell q (last_actions p q)

  counted : (c : ℕ) → times (is_cut c) end ≡ (if has (is_arrival c) q && goes_on q c then 1 else 0)
  counted c =
      let at = w.stages_are c in
      times-cut c cs fds (stop_seconds p q) (now q) phase
      ∙ ap (λ (k : ℕ). k + times (is_cut c) q)
      (tally-ascending c (live_connections q) ∙ tally-filter c (λ n. goes_on q n && not (has (is_cut n) q)) (arrived_numbers q)
      ∙ ap (if_kept (goes_on q c && not (has (is_cut c) q))) (tally-once c (arrived_numbers q) w.came_once ∙ ap one_if (sym (arrival-in c q))))
      ∙ ap (λ (k : ℕ). if_kept (goes_on q c && not (has (is_cut c) q)) (one_if (has (is_arrival c) q)) + k) (none-times (is_cut c) q at.uncut)
      ∙ ap (λ b. if_kept (goes_on q c && not b) (one_if (has (is_arrival c) q)) + 0) at.uncut
      ∙ kept-once (has (is_arrival c) q) (goes_on q c)

  off-is : (c : ℕ) → is_cut_off end c ≡ (has (is_arrival c) q && goes_on q c)
  off-is c = ap (λ (r : Record). has (is_arrival c) r && goes_on r c) (before-last cs fds (stop_seconds p q) (now q) phase)

  cut-once : (x : Arrival) → cut_right end x ≡ true
  cut-once x =
      eq-eqb (times (is_cut x.number) end) (if is_cut_off end x.number then 1 else 0) (counted x.number ∙ ap (λ b. if b then 1 else 0) (sym (off-is x.number)))

  same-end : Same p q end
  same-end = same-tell p q (last_actions p q) (all-last cs fds (stop_seconds p q) (now q))

  pub cut-right : ConnRight p end
  cut-right = record {
    each = ap (list_all (connection_right p end)) same-end.arrived
        ∙ all-grows (connection_right p q) (connection_right p end) (arrivals q)
        (λ x h. joined p end x (same-end.parts_are x (parts p q x h)) (cut-once x)) w.right.each;
    rests = same-end.rests ∙ w.right.rests;
    in_turn = same-end.turns w.right.in_turn;
  }

  cut-of : (c : ℕ) → is_in c cs ≡ ((goes_on q c && not (has (is_cut c) q)) && is_in c (arrived_numbers q))
  cut-of c = is_in-same c cs (live_connections q) (tally-ascending c (live_connections q))
      ∙ is_in-filter c (λ n. goes_on q n && not (has (is_cut n) q)) (arrived_numbers q)

  off-live : (c : ℕ) → is_in c (arrived_numbers q) ≡ true → (goes_on end c && not (has (is_cut c) end)) ≡ false
  off-live c came =
      ap (λ b. b && not (has (is_cut c) end)) (goes-last c cs fds (stop_seconds p q) (now q) phase)
      ∙ ap (λ b. goes_on q c && not b) (cut-last c cs fds (stop_seconds p q) (now q) phase)
      ∙ gone (goes_on q c) (has (is_cut c) q) (is_in c cs) (is_in c (arrived_numbers q)) (cut-of c) came
    where
      gone : (g u i a : Bool) → i ≡ ((g && not u) && a) → a ≡ true → (g && not (i || u)) ≡ false
      gone g u i a e came = grind arith

  -- after the end no connection is live
  pub none-live : live_connections end ≡ []
  none-live = ap (λ (xs : List Arrival). filter (λ c. goes_on end c && not (has (is_cut c) end)) (map (λ (x : Arrival). x.number) xs)) same-end.arrived
      ∙ filter-none (λ c. goes_on end c && not (has (is_cut c) end)) (arrived_numbers q) off-live

  -- what is cut arrived
  arrived-all : list_all (λ c. has (is_arrival c) q) cs ≡ true
  arrived-all = each_in (λ c. has (is_arrival c) q) cs (λ c h.
      let there = sym (cut-of c) ∙ h in
      arrival-in c q ∙ (and_parts (goes_on q c && not (has (is_cut c) q)) (is_in c (arrived_numbers q)) there).1)

known-last : (p : Plan) (cs fds : List ℕ) (n t : ℕ) (r : Record) → list_all (λ c. has (is_arrival c) r) cs ≡ true
    → EachEntry (λ e before. connection_known p e before ≡ true) r
    → EachEntry (λ e before. connection_known p e before ≡ true) (tell r (map Cut cs ++ rest fds n t))
known-last p [] [] n t r h w = (refl, (refl, w))
known-last p [] (fd ∷ fds) n t r h w = known-last p [] fds n t (Told (Close fd) ∷ r) refl (refl, w)
known-last p (c ∷ cs) fds n t r h w =
    let both = and_parts (has (is_arrival c) r) (list_all (λ m. has (is_arrival m) r) cs) h in known-last p cs fds n t (Told (Cut c) ∷ r) both.1 (both.0, w)

-- and each entry of the end is on a connection that arrived
pub known-end : (p : Plan) (d : ConnectionsData) (q : Record) → ConnectionsStand p d q
    → EachEntry (λ e before. connection_known p e before ≡ true) (tell q (last_actions p q))
known-end p d q w =
    known-last p (ascending (live_connections q)) (ascending (live_numbers p q)) (stop_seconds p q) (now q) (Told (Phase ShutdownRuntimes (now q)) ∷ q)
    (arrived-all p d q w) (refl, w.known)
