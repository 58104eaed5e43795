-- What is told after a message, and how much.
use Rattle.std.proofs.Common.{ℕ, Bool, true, false, ◌==◌, List, [], ◌∷◌, ◌++◌, ◌≡◌, refl, ap, sym, ◌∙◌, subst, arith, ◌+◌, length, length-append, map, Option, Some, None}
use Rattle.svc_record.specs.declared.plan.Plan.{Plan}
use Rattle.svc_record.specs.declared.entry.Entry.TheVariants.{Got}
use Rattle.svc_record.specs.declared.action.Action.{Action}
use Rattle.svc_record.specs.declared.action.Action.TheVariants.{Close}
use Rattle.svc_record.specs.declared.event.Event.TheVariants.{Received}
use Rattle.svc_record.specs.Boot.{is_read}
use Rattle.svc_record.specs.Record.{Record, tell}
use Rattle.svc_record.specs.Message.{decode}
use Rattle.svc_record.specs.Descriptors.{words_or_none}
use Rattle.svc_base.specs.NumberSets.{ascending, distinct}
use Rattle.svc_record.specs.Told.{Tells, IsGivingUp}
use Rattle.svc_endpoints.specs.declared.table.Open.{Open}
use Rattle.svc_endpoints.specs.EndpointsData.{EndpointsData}
use Rattle.svc_endpoints.specs.EndpointsState.{EndpointsStand, all_new}
use Rattle.svc_endpoints.specs.Effects.{passes, turns_away, turned_away, received, opens_of, numbers_out, without_numbers, put_numbers}
use Rattle.svc_base.proofs.NumberSetLemmas.{any-ascending}
use Rattle.svc_endpoints.proofs.RestLemmas.{rest-out-length, part-by-number}
use Rattle.svc_endpoints.proofs.AnswerLemmas.{giving-closes}
use Rattle.svc_endpoints.proofs.GatherLemmas.{puts-none, length-puts, length-ascending, length-opens, numbers-opens}
use Rattle.svc_endpoints.proofs.ReceivedLists.{new-apart, without-same}
use Rattle.svc_endpoints.proofs.ReceivedStands.{stands-received}

-- the numbers that were gathered
pub away-is : (gone : List ℕ → Bool) (fds : List ℕ) (read words : List (List ℕ)) (start out : List ℕ) → read ≡ words → start ≡ []
    → out ≡ put_numbers (numbers_out gone (opens_of fds read)) start → out ≡ ascending (numbers_out gone (opens_of fds words))
away-is gone fds read words start out same none is =
    is ∙ ap (λ w. put_numbers (numbers_out gone (opens_of fds w)) start) same ∙ ap (put_numbers (numbers_out gone (opens_of fds words))) none
    ∙ puts-none (numbers_out gone (opens_of fds words))

-- without words none is turned away
none_away : (gone : List ℕ → Bool) (fds : List ℕ) → numbers_out gone (opens_of fds []) ≡ []
none_away gone [] = refl
none_away gone (fd ∷ fds) = none_away gone fds

unread_none : (found : Option (List (List ℕ))) → is_read found ≡ false → words_or_none found ≡ []
unread_none (Some words) h = absurd (cc)
unread_none None h = refl

pub received-tells : (p : Plan) (d new : EndpointsData) (bytes fds : List ℕ) (words : List (List ℕ)) (good : Bool) (before after : List Action)
    → all_new d.came fds ≡ true
    → words ≡ words_or_none (decode bytes (length fds)) → good ≡ is_read (decode bytes (length fds)) → new ≡ received p d words fds
    → after ≡ before ++ map Close (turned_away p d words fds)
    → Tells before after
    (λ told. IsGivingUp told × (good ≡ false → told ≡ [])
    × ((q : Record) → EndpointsStand p d q → EndpointsStand p new (tell (Got (Received bytes fds) ∷ q) told)))
received-tells p d new bytes fds words good before after fresh read is left appended = record {
  told = map Close (turned_away p d words fds);
  appended = appended;
  kept = (
    giving-closes (turned_away p d words fds),
    λ bad. ap (λ w. map Close (turned_away p d w fds)) (read ∙ unread_none (decode bytes (length fds)) (sym is ∙ bad))
        ∙ ap (λ w. map Close (ascending w)) (none_away (turns_away p d) fds),
    λ q stand. subst (λ (m : EndpointsData). EndpointsStand p m (tell (Got (Received bytes fds) ∷ q) (map Close (turned_away p d words fds)))) (sym left)
        (subst (λ (w : List (List ℕ)). EndpointsStand p (received p d w fds) (tell (Got (Received bytes fds) ∷ q) (map Close (turned_away p d w fds))))
        (sym read) (stands-received p d q bytes fds fresh stand)),
  );
}

-- each is told closed, or in the table
pub received-few : (p : Plan) (d : EndpointsData) (fds : List ℕ) (words : List (List ℕ)) → all_new d.came fds ≡ true
    → length (turned_away p d words fds) + length (received p d words fds).table ≡ length d.table + length fds
received-few p d fds words fresh =
    let os = opens_of fds words in
    let gone = turns_away p d in
    let out = numbers_out gone os in
    let kept : without_numbers (turned_away p d words fds) os ≡ _ = without-same out (turned_away p d words fds) os (λ g. any-ascending (λ n. n == g) out)
    ∙ part-by-number (λ (o : Open). passes gone o.address) os (ap distinct (numbers-opens fds words) ∙ new-apart d.came fds fresh) in
    let a = length-puts (without_numbers (turned_away p d words fds) os) d.table in
    let b = ap length kept in
    let c = rest-out-length gone os in
    let e = length-opens fds words in
    let f = length-ascending out in
    omega (arith, a, b, c, e, f)

length_closes : (ns : List ℕ) → length (map Close ns) ≡ length ns
length_closes [] = refl
length_closes (n ∷ ns) = let h = length_closes ns in omega (arith, h)

pub told-length : (before after : List Action) (ns : List ℕ) → after ≡ before ++ map Close ns → length after ≡ length before + length ns
told-length before after ns e = let a = ap length e in let b = length-append before (map Close ns) in let c = length_closes ns in omega (arith, a, b, c)
