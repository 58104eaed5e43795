-- What stands behind the last finished step of a run that ended otherwise than by its shutdown.
use Rattle.std.specs.Prelude.{ℕ, Bool, true, false, ◌==◌, ◌≡◌, ◌&&◌, List, take, drop, length, nat_lt, is_none, Option, Some, None, if◌then◌else◌}
use Rattle.std.specs.List.{list_all, list_any, prefix_len, find, range_with_len}
use Rattle.svc_record.specs.declared.plan.Plan.{Plan}
use Rattle.svc_record.specs.declared.entry.Entry.{Entry}
use Rattle.svc_record.specs.declared.entry.Entry.TheVariants.{Told}
use Rattle.svc_record.specs.declared.action.Action.{Action}
use Rattle.svc_record.specs.declared.action.Action.TheVariants.{Cut, Close}
use Rattle.svc_record.specs.declared.event.Event.{Event}
use Rattle.svc_record.specs.Record.{Record, tell, times}
use Rattle.svc_record.specs.Descriptors.{is_close}
use Rattle.svc_record.specs.Connections.{live_connections, is_live_connection, is_cut}
use Rattle.svc_record.specs.Tail.{numbers_in, with_event, tail_right}
use Rattle.svc_record.specs.Right.{is_right}
use Rattle.svc_judge.specs.Verdicts.{unless, at, breach_of}
use Rattle.svc_judge.specs.declared.judging.Rule.{Rule}
use Rattle.svc_judge.specs.declared.judging.Rule.TheVariants as rules
use Rattle.svc_judge.specs.declared.judging.Breach.{Breach}

-- the entry cuts a connection or closes a descriptor
abbrev pub lets_go : Entry → Bool
lets_go (Told (Cut c)) = true
lets_go (Told (Close fd)) = true
lets_go _ = false

-- how many of the newest entries do
abbrev pub tail_len : Record → ℕ
tail_len r = prefix_len lets_go r

-- the entry cuts what is live in the finished record, or closes what an event before the tail brought
abbrev pub has_cause : Record → Record → Entry → Bool
has_cause finished before (Told (Cut c)) = is_live_connection finished c
has_cause finished before (Told (Close fd)) = list_any (λ n. n == fd) (numbers_in before)
has_cause finished before _ = false

-- the tail cuts the connection once
abbrev pub is_cut_once : Record → ℕ → Bool
is_cut_once tail c = times (is_cut c) tail == 1

-- the whole record closes the descriptor once
abbrev pub is_closed_in : Record → ℕ → Bool
is_closed_in whole fd = times (is_close fd) whole == 1

-- the rule that the tail of a whole record breaks behind a finished one, where `before` is that, perhaps with an event that wasn't taken
abbrev pub tail_rule : Record → Record → Record → Record → Option Rule
tail_rule finished before tail whole =
    unless (list_all (has_cause finished before) tail) rules.CloseOnce
    (unless (list_all (is_cut_once tail) (live_connections finished) && list_all (is_closed_in whole) (numbers_in before)) rules.Closes None)

-- the breach of a tail of so many entries, where so many events right before it weren't taken
abbrev pub tail_breach : Record → ℕ → ℕ → Option Breach
tail_breach r count strays = at (length r) (tail_rule (drop strays (drop count r)) (drop count r) (take count r) r)

-- what stands before so many entries is right
abbrev pub is_right_before : Plan → Record → ℕ → Bool
is_right_before p r n = is_none (breach_of p (drop n r))

-- the breach, where no shorter tail stands behind a right record, or else that of the shortest that does
abbrev pub shorter_breach : Record → Breach → Option ℕ → Option Breach
shorter_breach r b None = Some b
shorter_breach r b (Some n) = tail_breach r n 0

-- the same, where the tail is all that lets go, by the breach of what stands before it
abbrev pub closed_by : Plan → Record → ℕ → Option Breach → Option Breach
closed_by p r most None = tail_breach r most 0
closed_by p r most (Some b) =
    if nat_lt b.entry (length (drop most r)) then Some b else shorter_breach r b (find (is_right_before p r) (range_with_len 0 most))

-- the breach of the record of a run that ended otherwise than by its shutdown: what stands before its tail is right, and the tail lets go of all
-- that is open. The tail is all that the newest entries cut and close, unless the last step closed some of it.
abbrev pub closed_breach : Plan → Record → Option Breach
closed_breach p r = closed_by p r (tail_len r) (breach_of p (drop (tail_len r) r))

-- the rule is that an event may come
abbrev pub is_fits : Rule → Bool
is_fits rules.Fits = true
is_fits _ = false

-- the breach, unless it is that the newest entry before the tail doesn't fit, and then the tail's
abbrev pub stray_by : Record → ℕ → Option Breach → Option Breach
stray_by r most None = Some (record { entry = length (drop most r); rule = rules.Fits })
stray_by r most (Some b) = if is_fits b.rule && b.entry == length (drop most r) then tail_breach r most 1 else Some b

-- the breach of the record of a run whose last event didn't fit
abbrev pub stray_breach : Plan → Record → Option Breach
stray_breach p r = stray_by r (tail_len r) (breach_of p (drop (tail_len r) r))

-- a right record, perhaps an event that wasn't taken, and then only cuts of what is live and closes, so that each is cut, and each descriptor closed, once
pub record IsClosedRight (p : Plan) (r finished : Record) (also : Option Event) (told : List Action) : Type 0 where
  pub is : r ≡ tell (with_event also finished) told
  pub right : is_right p finished ≡ true
  pub closed_once : tail_right finished also told ≡ true
