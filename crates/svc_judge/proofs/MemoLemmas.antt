-- Entries of connections leave whether the run has ended, whether anything rests, and whether an endpoint accepts.
use Rattle.std.proofs.Common.{ℕ, true, ◌∷◌, ◌≡◌, refl, ◌∙◌}
use Rattle.std.proofs.lemmas.Bool.{false≢true}
use Rattle.svc_record.specs.declared.plan.Plan.{Plan}
use Rattle.svc_record.specs.declared.entry.Entry.{Entry}
use Rattle.svc_record.specs.declared.entry.Entry.TheVariants.{Got, Told}
use Rattle.svc_record.specs.declared.event.Event.TheVariants.{Ready, Ended, Bound, InUse, BindFailed, Adopted, AdoptFailed}
use Rattle.svc_record.specs.declared.action.Action.TheVariants.{Start, Fail, Bind, Adopt, Close}
use Rattle.svc_record.specs.Record.{Record}
use Rattle.svc_record.specs.Ends.{has_ended}
use Rattle.svc_record.specs.Fits.{accepts}
use Rattle.svc_judge.specs.declared.memo.Memo.{Memo}
use Rattle.svc_judge.specs.Anew.{is_of_connection}
use Rattle.svc_judge.specs.Still.{is_still}
use Rattle.svc_judge.specs.Stirred.{is_in_run}
use Rattle.svc_judge.specs.Memos.{IsMemo, is_of_service, ended_alone}
use Rattle.svc_judge.proofs.QuietLemmas.{Ignores, ignores, ignores_waits, ignores_tested, ignores_early}

ignores_accepts : (p : Plan) (s i : ℕ) → Ignores (λ q. accepts p q s i)
ignores_accepts p s i =
    ignores (λ q. accepts p q s i) (λ t k n peer q. refl) (λ n ok q. refl) (λ n ok q. refl) (λ n q. refl) (λ n said q. refl) (λ n q. refl) (λ n list q. refl)
    (λ n q. refl) (λ n q. refl) (λ n q. refl)

ignores_ended : (p : Plan) → Ignores (has_ended p)
ignores_ended p = λ e q h. rw (ignores_waits p e q h, ignores_tested p e q h, ignores_early p e q h)

ignores_still : Ignores is_still
ignores_still =
    ignores is_still (λ t k n peer q. refl) (λ n ok q. refl) (λ n ok q. refl) (λ n q. refl) (λ n said q. refl) (λ n q. refl) (λ n list q. refl)
    (λ n q. refl) (λ n q. refl) (λ n q. refl)

ignores_in_run : (p : Plan) → Ignores (is_in_run p)
ignores_in_run p =
    ignores (is_in_run p) (λ t k n peer q. refl) (λ n ok q. refl) (λ n ok q. refl) (λ n q. refl) (λ n said q. refl) (λ n q. refl) (λ n list q. refl)
    (λ n q. refl) (λ n q. refl) (λ n q. refl)

-- what was known with an entry of a connection is so without it
pub memo_before : (m : Memo) (p : Plan) (e : Entry) (q : Record) → is_of_connection e ≡ true → IsMemo m p (e ∷ q) → IsMemo m p q
memo_before m p e q h k = record {
  ended = λ b g. k.ended b g ∙ ignores_ended p e q h;
  still = λ b g. k.still b g ∙ ignores_still e q h;
  in_run = λ b g. k.in_run b g ∙ ignores_in_run p e q h;
  accepting = λ a g. k.accepting a g ∙ ignores_accepts p a.service a.endpoint e q h;
}

service_ended : (p : Plan) (e : Entry) (q : Record) → is_of_service e ≡ true → has_ended p (e ∷ q) ≡ has_ended p q
service_ended p (Got (Ready s)) q h = refl
service_ended p (Got (Ended s)) q h = refl
service_ended p (Got (Bound s i fd)) q h = refl
service_ended p (Got (InUse s i)) q h = refl
service_ended p (Got (BindFailed s i)) q h = refl
service_ended p (Got (Adopted s i)) q h = refl
service_ended p (Got (AdoptFailed s i)) q h = refl
service_ended p (Told (Start s)) q h = refl
service_ended p (Told (Fail s)) q h = refl
service_ended p (Told (Bind s i)) q h = refl
service_ended p (Told (Adopt s i fd)) q h = refl
service_ended p (Told (Close fd)) q h = refl
service_ended p _ q h = absurd (false≢true h)

service_in_run : (p : Plan) (e : Entry) (q : Record) → is_of_service e ≡ true → is_in_run p (e ∷ q) ≡ is_in_run p q
service_in_run p (Got (Ready s)) q h = refl
service_in_run p (Got (Ended s)) q h = refl
service_in_run p (Got (Bound s i fd)) q h = refl
service_in_run p (Got (InUse s i)) q h = refl
service_in_run p (Got (BindFailed s i)) q h = refl
service_in_run p (Got (Adopted s i)) q h = refl
service_in_run p (Got (AdoptFailed s i)) q h = refl
service_in_run p (Told (Start s)) q h = refl
service_in_run p (Told (Fail s)) q h = refl
service_in_run p (Told (Bind s i)) q h = refl
service_in_run p (Told (Adopt s i fd)) q h = refl
service_in_run p (Told (Close fd)) q h = refl
service_in_run p _ q h = absurd (false≢true h)

-- whether the run has ended is so without an entry of a service
pub memo_service : (m : Memo) (p : Plan) (e : Entry) (q : Record) → is_of_service e ≡ true → IsMemo m p (e ∷ q) → IsMemo (ended_alone m) p q
memo_service m p e q h k = record {
  ended = λ b g. k.ended b g ∙ service_ended p e q h;
  still = λ b g. cc;
  in_run = λ b g. k.in_run b g ∙ service_in_run p e q h;
  accepting = λ a g. cc;
}
