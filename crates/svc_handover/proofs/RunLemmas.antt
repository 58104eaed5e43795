-- The run of a schedule: how it begins, how it grows by a step, and what it gives.
use Rattle.std.proofs.Common.{ℕ, Bool, true, false, ◌+◌, ◌<◌, List, [], ◌∷◌, ◌++◌, ◌≡◌, ◌&&◌, ◌↔◌, suc, refl, ap, sym, ◌∙◌, subst, arith, length, take, drop, get_or, drop-cons, if◌then◌else◌}
use Rattle.std.specs.Prelude.{reverse, Result, Ok, Err, Option, Some, None}
use Rattle.std.proofs.lemmas.List.{reverse-reverse, take-append-drop, length-take-le}
use Rattle.svc_record.specs.declared.plan.Plan.{Plan}
use Rattle.svc_record.specs.declared.action.Action.{Action}
use Rattle.svc_record.specs.declared.action.StepEnd.{StepEnd}
use Rattle.svc_record.specs.declared.entry.Entry.{Entry}
use Rattle.svc_record.specs.declared.entry.Entry.TheVariants.{Got}
use Rattle.svc_record.specs.Record.{Record, tell}
use Rattle.svc_record.specs.Judging.{judged_at, judgements}
use Rattle.svc_record.specs.Right.{Right}
use Rattle.svc_record.specs.Fits.{Fits, fits}
use Rattle.svc_record.specs.declared.event.Event.{Event}
use Rattle.svc_core.specs.Stands.{Represents}
use Rattle.svc_core.specs.CoreData.{CoreData}
use Rattle.svc_session.specs.SessionData.{SessionData}
use Rattle.svc_session.specs.Sessions.{Begins, Takes}
use Rattle.svc_session.proofs.SessionLemmas.{begun-record, taken-record}
use Rattle.svc_handover.specs.declared.pair.PairStep.{PairStep}
use Rattle.svc_handover.specs.declared.pair.ChannelState.{ChannelState}
use Rattle.svc_handover.specs.declared.pair.ChannelState.TheVariants.{Missing}
use Rattle.svc_handover.specs.declared.pair.PairRun.{PairRun}
use Rattle.svc_handover.specs.declared.pair.PairRefused.{PairRefused}
use Rattle.svc_handover.specs.declared.pair.PairRefused.TheVariants.{Stray, NoMemory}
use Rattle.svc_handover.specs.declared.servers.Servers.{Servers}
use Rattle.svc_handover.specs.Channel.{after_old, after_new, after_told}
use Rattle.svc_handover.specs.Pair.{World, PairMove, first_world, old_step, new_step, pair_step, world_after, is_allowed, IsAsSaid}
use Rattle.svc_handover.specs.Handover.{IsKept}
use Rattle.svc_handover.specs.Operator.{KeepsReachable}
use Rattle.svc_handover.specs.Law.{PairStands, HasTexts, Gives, RefusesAt}
use Rattle.svc_handover.specs.Runs.{Runs, Grows}
use Rattle.svc_handover.proofs.LawLemmas.{law-holds, stands-first, stands-old, stands-new, world-more, allowed-more, each-more, said-more, steps-more}
use Rattle.svc_handover.proofs.OperatorLaw.{keeps-reachable}

-- both laws, in a world
abbrev pub Laws : Plan → Plan → World → Type 0
Laws p n w = IsKept p n w × KeepsReachable p n w

laws-at : (p n : Plan) (old new : CoreData) (w : World) → old.plan ≡ p → new.plan ≡ n → PairStands old new w → Laws p n w
laws-at p n old new w old_plan new_plan s = subst (λ (x : Plan). Laws x n w) old_plan (subst (λ (y : Plan). Laws old.plan y w) new_plan
    (law-holds old new w s, keeps-reachable old new w s))

-- both servers have begun
pub runs-first : (p n : Plan) (servers : Servers) (told_old told_new : List Action) → Begins p servers.predecessor told_old
    → Begins n servers.successor told_new → servers.channel ≡ after_told told_new Missing → HasTexts p → Runs p n [] servers
runs-first p n servers told_old told_new by_old by_new channel texts =
    let w : World = first_world by_old.begun.told by_new.begun.told in
    let stands : PairStands servers.predecessor.core servers.successor.core w =
    stands-first servers.predecessor.core servers.predecessor.core servers.successor.core servers.successor.core [] told_old [] told_new by_old.end
    by_new.end by_old.begun by_new.begun
    (subst HasTexts (sym by_old.plan_is) texts) in
    let laws = laws-at p n servers.predecessor.core servers.successor.core w by_old.plan_is by_new.plan_is stands in
    record {
      world = w;
      over = record {
        leaves = record {
          begun_old = by_old.begun.told;
          begun_new = by_new.begun.told;
          moves = [];
          steps = refl;
          allowed = refl;
          world = refl;
          said = tt;
          right_old = subst (λ (x : Plan). Right x w.old) by_old.plan_is stands.old_right;
          right_new = subst (λ (x : Plan). Right x w.new) by_new.plan_is stands.new_right;
        };
        kept = laws.0;
        reachable = laws.1;
      };
      stands = stands;
      old_plan = by_old.plan_is;
      new_plan = by_new.plan_is;
      old_is = begun-record p servers.predecessor told_old by_old;
      new_is = begun-record n servers.successor told_new by_new;
      channel_is = channel ∙ ap (λ t. after_told t Missing) by_new.begun.appended;
    }

decided : (b x : Bool) → ((b ≡ true) ↔ (x ≡ true)) → b ≡ x
decided true x h = sym (h.0 refl)
decided false true h = h.1 refl
decided false false h = refl

-- a server's test of an event is that of its record
pub fits-old : (p n : Plan) (before : List PairStep) (servers : Servers) (runs : Runs p n before servers) (e : Event) (b : Bool)
    → ((q : Record) → Represents servers.predecessor.core q → (b ≡ true) ↔ Fits servers.predecessor.core.plan q e) → b ≡ fits p runs.world.old e
fits-old p n before servers runs e b means =
    decided b (fits servers.predecessor.core.plan runs.world.old e) (means runs.world.old runs.stands.old_stands)
    ∙ ap (λ x. fits x runs.world.old e) runs.old_plan

pub fits-new : (p n : Plan) (before : List PairStep) (servers : Servers) (runs : Runs p n before servers) (e : Event) (b : Bool)
    → ((q : Record) → Represents servers.successor.core q → (b ≡ true) ↔ Fits servers.successor.core.plan q e) → b ≡ fits n runs.world.new e
fits-new p n before servers runs e b means =
    decided b (fits servers.successor.core.plan runs.world.new e) (means runs.world.new runs.stands.new_stands)
    ∙ ap (λ x. fits x runs.world.new e) runs.new_plan

-- where the event doesn't fit, the step isn't allowed
pub unfit : (b f m : Bool) → b ≡ false → b ≡ f → b ≡ (f && m)
unfit b f m x y = grind arith

-- and else the channel decides
pub fit : (b f m k : Bool) → b ≡ true → b ≡ f → m ≡ k → m ≡ (f && k)
fit b f m k x y z = grind arith

-- one move more: what is kept of the world that it makes is the run of a longer schedule
grows-by : (p n : Plan) (before : List PairStep) (old new : Servers) (runs : Runs p n before old) (m : PairMove) → is_allowed p n runs.world m.step ≡ true
    → IsAsSaid p n m
    → PairStands new.predecessor.core new.successor.core (pair_step runs.world m.step m.told) → new.predecessor.core.plan ≡ p → new.successor.core.plan ≡ n
    → reverse new.predecessor.entries ≡ (pair_step runs.world m.step m.told).old
    → reverse new.successor.entries ≡ (pair_step runs.world m.step m.told).new → new.channel ≡ (pair_step runs.world m.step m.told).channel
    → Runs p n (before ++ m.step ∷ []) new
grows-by p n before old new runs m allowed said stands old_plan new_plan old_is new_is channel =
    let l = runs.over.leaves in
    let first : World = first_world l.begun_old l.begun_new in
    let next : World = pair_step runs.world m.step m.told in
    let at : pair_step (world_after first l.moves) m.step m.told ≡ next = ap (λ v. pair_step v m.step m.told) (sym l.world) in
    let laws = laws-at p n new.predecessor.core new.successor.core next old_plan new_plan stands in
    record {
      world = next;
      over = record {
        leaves = record {
          begun_old = l.begun_old;
          begun_new = l.begun_new;
          moves = l.moves ++ m ∷ [];
          steps = steps-more l.moves m ∙ ap (λ xs. xs ++ m.step ∷ []) l.steps;
          allowed = allowed-more p n first l.moves m l.allowed (subst (λ v. is_allowed p n v m.step ≡ true) l.world allowed);
          world = sym at ∙ sym (world-more first l.moves m);
          said = said-more p n l.moves m l.said said;
          right_old = subst (λ (x : Plan). Right x next.old) old_plan stands.old_right;
          right_new = subst (λ (x : Plan). Right x next.new) new_plan stands.new_right;
        };
        kept = each-more (IsKept p n) first l.moves m runs.over.kept (subst (IsKept p n) (sym at) laws.0);
        reachable = each-more (KeepsReachable p n) first l.moves m runs.over.reachable (subst (KeepsReachable p n) (sym at) laws.1);
      };
      stands = stands;
      old_plan = old_plan;
      new_plan = new_plan;
      old_is = old_is;
      new_is = new_is;
      channel_is = channel;
    }

-- a step of the old server
pub grows-old : (old new : Servers) (step : PairStep) (end : StepEnd) (told : List Action) → step.old ≡ true
    → Takes old.predecessor new.predecessor step.event step.said end told → new.successor ≡ old.successor
    → new.channel ≡ after_old step.event old.channel → Grows old new step
grows-old old new step end told side t same channel p n before runs allowed =
    let w : World = runs.world in
    let moved : pair_step w step t.keeps.told ≡ old_step w step t.keeps.told =
    ap (λ b. if b then old_step w step t.keeps.told else new_step w step t.keeps.told) side in
    let may : is_allowed old.predecessor.core.plan old.successor.core.plan w step ≡ true =
    ap (λ x. is_allowed x old.successor.core.plan w step) runs.old_plan ∙ ap (λ y. is_allowed p y w step) runs.new_plan ∙ allowed in
    let stood : PairStands new.predecessor.core old.successor.core (old_step w step t.keeps.told) =
    stands-old old.predecessor.core new.predecessor.core old.successor.core w step [] told end side t.plan_is runs.stands may t.keeps in
    let stands : PairStands new.predecessor.core new.successor.core (pair_step w step t.keeps.told) =
    subst (λ v. PairStands new.predecessor.core new.successor.core v) (sym moved)
    (subst (λ (r : SessionData). PairStands new.predecessor.core r.core (old_step w step t.keeps.told)) (sym same) stood) in
    let said : judgements t.keeps.told ≡ judged_at (if step.old then p else n) step.event step.said =
    ap judgements (sym t.keeps.appended) ∙ t.judged ∙ ap (λ x. judged_at x step.event step.said) (runs.old_plan ∙ sym (ap (λ b. if b then p else n) side)) in
    grows-by p n before old new runs (record { step = step; told = t.keeps.told }) allowed said stands (t.plan_is ∙ runs.old_plan)
    (ap (λ (r : SessionData). r.core.plan) same ∙ runs.new_plan)
    (taken-record old.predecessor new.predecessor step.event step.said end told t ∙ ap (λ (q : Record). tell (Got step.event ∷ q) t.keeps.told) runs.old_is
    ∙ ap (λ (v : World). v.old) (sym moved))
    (ap (λ (r : SessionData). reverse r.entries) same ∙ runs.new_is ∙ ap (λ (v : World). v.new) (sym moved))
    (channel ∙ ap (after_old step.event) runs.channel_is ∙ ap (λ (v : World). v.channel) (sym moved))

-- a step of the new server
pub grows-new : (old new : Servers) (step : PairStep) (end : StepEnd) (told : List Action) → step.old ≡ false
    → Takes old.successor new.successor step.event step.said end told → new.predecessor ≡ old.predecessor
    → new.channel ≡ after_told told (after_new step.event old.channel) → Grows old new step
grows-new old new step end told side t same channel p n before runs allowed =
    let w : World = runs.world in
    let moved : pair_step w step t.keeps.told ≡ new_step w step t.keeps.told =
    ap (λ b. if b then old_step w step t.keeps.told else new_step w step t.keeps.told) side in
    let may : is_allowed old.predecessor.core.plan old.successor.core.plan w step ≡ true =
    ap (λ x. is_allowed x old.successor.core.plan w step) runs.old_plan ∙ ap (λ y. is_allowed p y w step) runs.new_plan ∙ allowed in
    let stood : PairStands old.predecessor.core new.successor.core (new_step w step t.keeps.told) =
    stands-new old.predecessor.core old.successor.core new.successor.core w step [] told end side runs.stands may t.keeps in
    let stands : PairStands new.predecessor.core new.successor.core (pair_step w step t.keeps.told) =
    subst (λ v. PairStands new.predecessor.core new.successor.core v) (sym moved)
    (subst (λ (r : SessionData). PairStands r.core new.successor.core (new_step w step t.keeps.told)) (sym same) stood) in
    let said : judgements t.keeps.told ≡ judged_at (if step.old then p else n) step.event step.said =
    ap judgements (sym t.keeps.appended) ∙ t.judged ∙ ap (λ x. judged_at x step.event step.said) (runs.new_plan ∙ sym (ap (λ b. if b then p else n) side)) in
    grows-by p n before old new runs (record { step = step; told = t.keeps.told })
    allowed said stands (ap (λ (r : SessionData). r.core.plan) same ∙ runs.old_plan)
    (t.plan_is ∙ runs.new_plan)
    (ap (λ (r : SessionData). reverse r.entries) same ∙ runs.old_is ∙ ap (λ (v : World). v.old) (sym moved))
    (taken-record old.successor new.successor step.event step.said end told t ∙ ap (λ (q : Record). tell (Got step.event ∷ q) t.keeps.told) runs.new_is
    ∙ ap (λ (v : World). v.new) (sym moved))
    (channel ∙ ap (after_told told) (ap (after_new step.event) runs.channel_is) ∙ ap (λ t. after_told t (after_new step.event w.channel)) t.keeps.appended
    ∙ ap (λ (v : World). v.channel) (sym moved))

-- the first step that isn't allowed
pub refuses : (p n : Plan) (schedule : List PairStep) (servers : Servers) (index : ℕ) (step : PairStep) → index < length schedule
    → step ≡ get_or schedule index step → (runs : Runs p n (take index schedule) servers)
    → is_allowed p n runs.world step ≡ false → (k : ℕ) → k ≡ index + 1 → RefusesAt p n schedule k
refuses p n schedule servers index step inside here runs refused k place = record {
  earlier = index;
  place = place;
  before = take index schedule;
  step = step;
  rest = drop (suc index) schedule;
  parts = sym (take-append-drop index schedule)
      ∙ ap (λ xs. take index schedule ++ xs) (drop-cons schedule index step inside ∙ ap (λ x. x ∷ drop (suc index) schedule) (sym here));
  count = length-take-le index schedule (omega arith);
  stray = record { world = runs.world; leaves = runs.over.leaves; refused = refused };
}

-- what the whole schedule leaves
pub gives : (p n : Plan) (schedule : List PairStep) (servers : Servers) (old new : List Entry) (channel : ChannelState) → Runs p n schedule servers
    → old ≡ servers.predecessor.entries → new ≡ servers.successor.entries → channel ≡ servers.channel
    → Gives p n schedule old new channel
gives p n schedule servers old new channel runs old_is new_is channel_is = record {
  world = runs.world;
  run = runs.over;
  old_is = old_is ∙ sym (reverse-reverse servers.predecessor.entries) ∙ ap (λ (xs : List Entry). reverse xs) runs.old_is;
  new_is = new_is ∙ sym (reverse-reverse servers.successor.entries) ∙ ap (λ (xs : List Entry). reverse xs) runs.new_is;
  channel_is = channel_is ∙ runs.channel_is;
}

-- which number an answer names, if it is that of a stray step
abbrev number_of : Result PairRun PairRefused → Option ℕ
number_of (Err (Stray k)) = Some k
number_of (Err NoMemory) = None
number_of (Ok run) = None

pub same-number : (j k : ℕ) → ◌≡◌ {A = Result PairRun PairRefused} (Err (Stray j)) (Err (Stray k)) → k ≡ j
same-number j k e = let same : Some k ≡ Some j = ap number_of (sym e) in cc

pub no-memory-strays : (k : ℕ) → ◌≡◌ {A = Result PairRun PairRefused} (Err NoMemory) (Err (Stray k)) → ⊥
no-memory-strays k e = let other : ◌≡◌ {A = Option ℕ} None (Some k) = ap number_of e in cc

pub ok-strays : (run : PairRun) (k : ℕ) → ◌≡◌ {A = Result PairRun PairRefused} (Ok run) (Err (Stray k)) → ⊥
ok-strays run k e = let other : ◌≡◌ {A = Option ℕ} None (Some k) = ap number_of e in cc
