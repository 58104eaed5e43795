-- An event of a script brings at most 32 descriptors.
use Rattle.std.proofs.Common.{ℕ, zero, suc, ◌≤◌, Bool, true, false, leb, cond, List, [], ◌∷◌, length, Option, Some, None, inl, inr, arith, All, ◌^◌}
use Rattle.std.specs.Option.{option_map, option_to_list}
use Rattle.std.proofs.lemmas.Bool.{cases_Bool, leb-true}
use Rattle.svc_record.specs.declared.event.Event.{Event}
use Rattle.svc_record.specs.declared.event.Event.TheVariants as events
use Rattle.svc_record.specs.declared.entry.Entry.TheVariants.{Got}
use Rattle.svc_record.specs.declared.item.Item.{Item}
use Rattle.svc_record.specs.declared.item.Item.TheVariants as items
use Rattle.svc_record.specs.Descriptors.{numbers_of}
use Rattle.svc_socket.specs.ReadPeers.{peer_of}
use Rattle.svc_base.specs.Options.{◌>>=◌}
use Rattle.svc_base.specs.Words.{words, number_of}
use Rattle.svc_text.specs.EventLines.{signal_of, side_of, ok_of, bytes_of, listed_of, descriptors_of, bare_event, event_of_one, event_of_two, event_of_three, event_of_four, received_of, event_of, is_fault, item_of}
use Rattle.svc_text.specs.Accepted.{BringsFew}
use Rattle.svc_text.specs.Script.{said_items}

abbrev FewIn : Option Event → Type 0
FewIn None = Unit {0}
FewIn (Some e) = length (numbers_of (Got e)) ≤ 32

-- it is some few, or none
record IsFew (o : Option Event) : Type 0 where
  few : FewIn o

none_few : IsFew None
none_few = record { few = tt }

one_few : (e : Event) → FewIn (Some e) → IsFew (Some e)
one_few e h = record { few = h }

either : (b : Bool) (x y : Option Event) → IsFew x → IsFew y → IsFew (cond b x y)
either true x y p q = p
either false x y p q = q

after : {A : Type 0} (o : Option A) (f : A → Option Event) → ((a : A) → IsFew (f a)) → IsFew (o >>= f)
after None f h = none_few
after (Some a) f h = h a

few_bare : (key : List ℕ) → IsFew (bare_event key)
unfolding bare_event
few_bare key =
    either _ _ _ (one_few (events.NoSenderYet) (omega arith))
    (either _ _ _ (one_few (events.ReceiveFailed) (omega arith))
    (either _ _ _ (one_few (events.Connected) (omega arith)) (either _ _ _ (one_few (events.NotThere) (omega arith))
    (either _ _ _ (one_few (events.StillConnecting) (omega arith))
    (either _ _ _ (one_few (events.ConnectFailed) (omega arith))
    (either _ _ _ (one_few (events.Sent) (omega arith)) (either _ _ _ (one_few (events.SendBusy) (omega arith))
    (either _ _ _ (one_few (events.SendFailed) (omega arith))
    (either _ _ _ (one_few (events.ChildReady) (omega arith))
    (either _ _ _ (one_few (events.ChildGone) (omega arith)) (either _ _ _ (one_few (events.DropFailed) (omega arith)) none_few)))))))))))

few_of_one : (key first : List ℕ) → IsFew (event_of_one key first)
unfolding event_of_one
few_of_one key first =
    either _ _ _ (after (number_of (2 ^ 64) first) _ (λ n. one_few (events.Moment n) (omega arith)))
    (either _ _ _ (after (number_of (2 ^ 32) first) _ (λ n. one_few (events.Ready n) (omega arith)))
    (either _ _ _ (after (number_of (2 ^ 32) first) _ (λ n. one_few (events.Ended n) (omega arith)))
    (either _ _ _ (after (number_of (2 ^ 64) first) _ (λ n. one_few (events.Finished n) (omega arith)))
    (either _ _ _ (after (signal_of first) _ (λ n. one_few (events.Signal n) (omega arith)))
    (either _ _ _ (after (side_of first) _ (λ n. one_few (events.Side n) (omega arith))) none_few)))))

few_of_two : (key first second : List ℕ) → IsFew (event_of_two key first second)
unfolding event_of_two
few_of_two key first second =
    either _ _ _ (after (number_of (2 ^ 32) first) _ (λ s. after (number_of (2 ^ 32) second) _ (λ i. one_few (events.InUse s i) (omega arith))))
    (either _ _ _ (after (number_of (2 ^ 32) first) _ (λ s. after (number_of (2 ^ 32) second) _ (λ i. one_few (events.BindFailed s i) (omega arith))))
    (either _ _ _ (after (number_of (2 ^ 32) first) _ (λ s. after (number_of (2 ^ 32) second) _ (λ i. one_few (events.Adopted s i) (omega arith))))
    (either _ _ _ (after (number_of (2 ^ 32) first) _ (λ s. after (number_of (2 ^ 32) second) _ (λ i. one_few (events.AdoptFailed s i) (omega arith))))
    (either _ _ _ (after (number_of (2 ^ 64) first) _ (λ s. after (ok_of second) _ (λ i. one_few (events.Set s i) (omega arith))))
    (either _ _ _ (after (number_of (2 ^ 64) first) _ (λ s. after (ok_of second) _ (λ i. one_few (events.Shaken s i) (omega arith)))) none_few)))))

few_of_three : (key first second third : List ℕ) → IsFew (event_of_three key first second third)
unfolding event_of_three
few_of_three key first second third =
    either _ _ _
    (after (number_of (2 ^ 32) first) _
    (λ s. after (number_of (2 ^ 32) second) _ (λ i. after (number_of (2 ^ 64) third) _ (λ n. one_few (events.Bound s i n) (omega arith)))))
    (either _ _ _
    (after (number_of (2 ^ 32) first) _
    (λ s. after (number_of (2 ^ 32) second) _ (λ i. after (number_of (2 ^ 32) third) _ (λ n. one_few (events.AcceptFailed s i n) (omega arith)))))
    (either _ _ _
    (after (number_of (2 ^ 32) first) _
    (λ s. after (number_of (2 ^ 32) second) _ (λ i. after (number_of (2 ^ 64) third) _ (λ n. one_few (events.LoopEnded s i n) (omega arith)))))
    none_few))

few_of_four : (key first second third fourth : List ℕ) → IsFew (event_of_four key first second third fourth)
unfolding event_of_four
few_of_four key first second third fourth =
    either _ _ _
    (after (number_of (2 ^ 32) first) _
    (λ s. after (number_of (2 ^ 32) second) _
    (λ i. after (number_of (2 ^ 64) third) _ (λ n. after (peer_of fourth) _ (λ p. one_few (events.Arrived s i n p) (omega arith)))))) none_few

few_descriptors : (bytes : List ℕ) (o : Option (List ℕ))
    → IsFew ((o >>= λ fds. cond (leb (length fds) 32) (Some fds) None) >>= λ fds. Some (events.Received bytes fds))
few_descriptors bytes None = none_few
few_descriptors bytes (Some fds) =
    elim (cases_Bool (leb (length fds) 32)) [
      | inl t ↦ rw t (one_few (events.Received bytes fds) (leb-true (length fds) 32 t))
      | inr f ↦ rw f none_few
    ]

few_received : (first second : List ℕ) → IsFew (received_of first second)
unfolding received_of descriptors_of
few_received first second = after (bytes_of first) _ (λ bytes. few_descriptors bytes (listed_of second))

few_event : (ws : List (List ℕ)) → IsFew (event_of ws)
unfolding event_of
few_event [] = none_few
few_event (key ∷ []) = few_bare key
few_event (key ∷ first ∷ []) = few_of_one key first
few_event (key ∷ first ∷ second ∷ []) = either _ _ _ (few_received first second) (few_of_two key first second)
few_event (key ∷ first ∷ second ∷ third ∷ []) = few_of_three key first second third
few_event (key ∷ first ∷ second ∷ third ∷ fourth ∷ []) = few_of_four key first second third fourth
few_event (key ∷ first ∷ second ∷ third ∷ fourth ∷ fifth ∷ more) = none_few

pub few_none : All BringsFew []
few_none k d lt = absurd (omega arith)

few_one : (x : Item) → BringsFew x → All BringsFew (x ∷ [])
few_one x h zero d lt = h
few_one x h (suc k) d lt = absurd (omega arith)

few_listed : (o : Option Event) → IsFew o → All BringsFew (option_to_list (option_map items.Event o))
few_listed None h = few_none
few_listed (Some e) h = few_one (items.Event e) h.few

few_either : (b : Bool) (o : Option Event) → IsFew o → All BringsFew (option_to_list (cond b (Some items.Fault) (option_map items.Event o)))
few_either true o h = few_one items.Fault tt
few_either false o h = few_listed o h

few_item : (ws : List (List ℕ)) → All BringsFew (option_to_list (item_of ws))
unfolding item_of
few_item ws = few_either (is_fault ws) (event_of ws) (few_event ws)

few_if : (b : Bool) (xs : List Item) → All BringsFew xs → All BringsFew (cond b xs [])
few_if true xs h = h
few_if false xs h = few_none

pub few_said : (part : ℕ) (line : List ℕ) → All BringsFew (said_items part line)
unfolding said_items
few_said part line = few_if _ (option_to_list (item_of (words line))) (few_item (words line))
