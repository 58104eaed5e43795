-- What `handover_law` promises, and what it keeps from step to step.
use Rattle.std.specs.Prelude.{Option, Some, None, ℕ, true, false, ◌≡◌, ◌+◌, List, ◌∷◌, ◌++◌, length, reverse, All}
use Rattle.std.specs.Str.{IsUtf8}
use Rattle.svc_graph.specs.declared.plan.EndpointPlan.{EndpointPlan}
use Rattle.svc_record.specs.declared.plan.Plan.{Plan}
use Rattle.svc_record.specs.declared.entry.Entry.{Entry}
use Rattle.svc_record.specs.Record.{has}
use Rattle.svc_record.specs.Plans.{address}
use Rattle.svc_record.specs.Boot.{is_bad_message}
use Rattle.svc_record.specs.Right.{Right}
use Rattle.svc_core.specs.CoreData.{CoreData}
use Rattle.svc_core.specs.Stands.{Represents}
use Rattle.svc_handover.specs.declared.pair.PairStep.{PairStep}
use Rattle.svc_handover.specs.declared.pair.ChannelState.{ChannelState}
use Rattle.svc_handover.specs.Channel.{channel_of, is_receipt, receipt_of, sent_message, is_as_sent}
use Rattle.svc_handover.specs.Pair.{World, Leaves, IsStray, first_world, EachWorld}
use Rattle.svc_handover.specs.Handover.{IsKept}
use Rattle.svc_handover.specs.Operator.{KeepsReachable}

-- a run: the schedule leaves this world, of which both records are right; and at the start and after each step the law of a handover holds, and that
-- of its operator
pub record HandsOver (p n : Plan) (schedule : List PairStep) (w : World) : Type 0 where
  pub leaves : Leaves p n schedule w
  pub kept : EachWorld (IsKept p n) (first_world leaves.begun_old leaves.begun_new) leaves.moves
  pub reachable : EachWorld (KeepsReachable p n) (first_world leaves.begun_old leaves.begun_new) leaves.moves

-- the same of what the call gives: the entries of both sides, the first one first, and the channel
pub record Gives (p n : Plan) (schedule : List PairStep) (old new : List Entry) (channel : ChannelState) : Type 0 where
  pub world : World
  pub run : HandsOver p n schedule world
  pub old_is : old ≡ reverse world.old
  pub new_is : new ≡ reverse world.new
  pub channel_is : channel ≡ world.channel

-- step k, from one, is the first that isn't allowed
pub record RefusesAt (p n : Plan) (schedule : List PairStep) (k : ℕ) : Type 0 where
  pub earlier : ℕ
  pub place : k ≡ earlier + 1
  pub before : List PairStep
  pub step : PairStep
  pub rest : List PairStep
  pub parts : schedule ≡ before ++ (step ∷ rest)
  pub count : length before ≡ earlier
  pub stray : IsStray p n before step

-- an address, where there is one, is a text
abbrev pub IsTextOr : Option (List ℕ) → Type 0
IsTextOr None = Unit {0}
IsTextOr (Some a) = IsUtf8 a

-- the addresses of these endpoints are texts
abbrev pub AreTextual : List EndpointPlan → Type 0
AreTextual es = All (λ (e : EndpointPlan). IsUtf8 e.address) es

-- the addresses of the plan's endpoints are texts
abbrev pub HasTexts : Plan → Type 0
HasTexts p = (s i : ℕ) → IsTextOr (address p s i)

-- what is kept of the pair: both cores stand for their records, which are right; the channel is the one read off them; what was received is what was
-- sent, and can be read; and the old plan's addresses are texts
pub record PairStands (old new : CoreData) (w : World) : Type 0 where
  pub old_stands : Represents old w.old
  pub new_stands : Represents new w.new
  pub old_right : Right old.plan w.old
  pub new_right : Right new.plan w.new
  pub channel : w.channel ≡ channel_of w.old w.new
  pub taken : has is_receipt w.new ≡ true → is_as_sent (receipt_of w.new).bytes (receipt_of w.new).fds (sent_message w.old) ≡ true
  pub read : has is_bad_message w.new ≡ false
  pub texts : HasTexts old.plan
