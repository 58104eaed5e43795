-- What the part on starts stands for, and what it does.
use Rattle.std.specs.Prelude.{ℕ, Bool, true, false, ◌≡◌, ◌<◌, ◌||◌, ◌&&◌, not, List, [], ◌∷◌, length, slice_index_or, slice_set}
use Rattle.std.specs.List.{list_all}
use Rattle.svc_graph.specs.declared.plan.Kind.TheVariants.{Plain, Bootstrap}
use Rattle.svc_record.specs.declared.plan.Plan.{Plan}
use Rattle.svc_record.specs.declared.action.Action.{Action}
use Rattle.svc_record.specs.declared.action.Action.TheVariants.{Start}
use Rattle.svc_record.specs.Plans.{service_count, depends, has_kind}
use Rattle.svc_record.specs.Record.{Record, has}
use Rattle.svc_record.specs.Failed.{has_failed}
use Rattle.svc_record.specs.Starts.{is_started, is_ready_event, is_ended_event}
use Rattle.svc_core.specs.StartsData.{StartsData}

-- the flag of this service
abbrev pub is_flagged : List Bool → ℕ → Bool
is_flagged flags s = slice_index_or flags s false

-- one flag of each sort for each service
pub record IsStartsSized (p : Plan) (st : StartsData) : Type 0 where
  pub started : length st.started ≡ service_count p
  pub ready : length st.ready ≡ service_count p
  pub ended : length st.ended ≡ service_count p

-- no flag is set
pub record IsBlank (st : StartsData) : Type 0 where
  pub started : (s : ℕ) → is_flagged st.started s ≡ false
  pub ready : (s : ℕ) → is_flagged st.ready s ≡ false
  pub ended : (s : ℕ) → is_flagged st.ended s ≡ false

-- the flags say what was started, whose word came, and whose work is done
pub record StartsStand (p : Plan) (st : StartsData) (q : Record) : Type 0 where
  pub started_is : (s : ℕ) → s < service_count p → is_flagged st.started s ≡ is_started q s
  pub ready_is : (s : ℕ) → s < service_count p → is_flagged st.ready s ≡ has (is_ready_event s) q
  pub ended_is : (s : ℕ) → s < service_count p → is_flagged st.ended s ≡ has (is_ended_event s) q

-- the flags say which services have failed
abbrev pub AreFailed : Plan → List Bool → Record → Type 0
AreFailed p failed q = (s : ℕ) → s < service_count p → is_flagged failed s ≡ has_failed p q s

-- the service is ready: its word came, or its work is done, or it has failed, or it is started and plain, or it is started, bootstraps, and
-- bootstrapping is complete
abbrev pub ready_now : Plan → StartsData → List Bool → Bool → ℕ → Bool
ready_now p st failed complete s = ((is_flagged st.ready s || is_flagged st.ended s) || is_flagged failed s)
    || (is_flagged st.started s && (has_kind p Plain s || (has_kind p Bootstrap s && complete)))

-- all that it depends on is
abbrev pub due_now : Plan → StartsData → List Bool → Bool → ℕ → Bool
due_now p st failed complete s = list_all (ready_now p st failed complete) (depends p s)

-- a visit starts it
abbrev pub starts_now : Plan → StartsData → List Bool → Bool → ℕ → Bool
starts_now p st failed complete s = not (is_flagged st.started s) && due_now p st failed complete s

-- the part after the visit
abbrev pub start_if : Bool → ℕ → StartsData → StartsData
start_if true s st = record { started = slice_set st.started s true; ready = st.ready; ended = st.ended }
start_if false s st = st

-- what the visit tells
abbrev pub start_told : Bool → ℕ → List Action
start_told true s = Start s ∷ []
start_told false s = []

-- the part after the service's word
abbrev pub word_taken : ℕ → StartsData → StartsData
word_taken s st = record { started = st.started; ready = slice_set st.ready s true; ended = st.ended }

-- the part after the end of the service's work
abbrev pub end_taken : ℕ → StartsData → StartsData
end_taken s st = record { started = st.started; ready = st.ready; ended = slice_set st.ended s true }
