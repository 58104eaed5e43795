-- Runs that end since what was received is no message: nothing more is told, and all that came is closed.
use Rattle.std.proofs.Common.{ℕ, true, false, List, [], ◌∷◌, None, codes, ◌≡◌, refl}
use Rattle.std.specs.Str.{is_utf8, chars}
use lib.Utf8.{encode}
use Rattle.svc_fds.specs.Messages.{is_well_formed, words}
use Rattle.svc_record.specs.declared.entry.Entry.TheVariants.{Got}
use Rattle.svc_record.specs.declared.event.Event.TheVariants.{Moment, Received}
use Rattle.svc_record.specs.declared.action.Action.TheVariants.{Close}
use Rattle.svc_record.specs.declared.action.StepEnd.TheVariants.{Ended}
use Rattle.svc_record.specs.declared.action.BootstrapError.TheVariants.{BadMessage}
use Rattle.svc_record.specs.Record.{Record}
use Rattle.svc_record.specs.Ends.{step_end}
use Rattle.svc_record.specs.Fits.{fits}
use Rattle.svc_record.specs.Right.{Right, is_served}
use Rattle.svc_record.specs.Tail.{closing_actions, tail_right}
use Rattle.svc_record.proofs.Sound.{right_from_test}
use Rattle.svc_record.proofs.InheritedSockets.{one_address, begun}
use Rattle.svc_record.proofs.Variants.{shortened, right_ones}

-- these bytes came with these descriptors
abbrev pub received : List ℕ → List ℕ → Record
received bytes fds = Got (Received bytes fds) ∷ begun

-- one address twice
abbrev pub repeated : Record
repeated = received (codes "a:1 a:1") (3 ∷ 4 ∷ [])

repeated-right : Right one_address repeated
unfolding is_utf8 chars encode is_well_formed words
repeated-right = right_from_test one_address repeated refl

repeated-ends : step_end one_address repeated ≡ Ended BadMessage
unfolding is_utf8 chars encode is_well_formed words
repeated-ends = refl

repeated-served : is_served one_address repeated ≡ false
unfolding is_utf8 chars encode is_well_formed words
repeated-served = refl

repeated-closes : closing_actions one_address repeated None ≡ Close 3 ∷ Close 4 ∷ []
unfolding is_utf8 chars encode is_well_formed words
repeated-closes = refl

repeated-tail : tail_right repeated None (Close 3 ∷ Close 4 ∷ []) ≡ true
unfolding is_utf8 chars encode is_well_formed words
repeated-tail = refl

-- without the message the run goes on; nothing else may be missing
repeated-shortened : right_ones one_address (shortened repeated) ≡ true ∷ false ∷ false ∷ false ∷ []
unfolding is_utf8 chars encode is_well_formed words
repeated-shortened = refl

-- no event comes after it
repeated-ended : fits one_address repeated (Moment 0) ≡ false
unfolding is_utf8 chars encode is_well_formed words
repeated-ended = refl

-- fewer descriptors than addresses
abbrev pub too_few : Record
too_few = received (codes "a:1 b:2") (3 ∷ [])

too_few-right : Right one_address too_few
unfolding is_utf8 chars encode is_well_formed words
too_few-right = right_from_test one_address too_few refl

too_few-ends : step_end one_address too_few ≡ Ended BadMessage
unfolding is_utf8 chars encode is_well_formed words
too_few-ends = refl

too_few-closes : closing_actions one_address too_few None ≡ Close 3 ∷ []
unfolding is_utf8 chars encode is_well_formed words
too_few-closes = refl

-- bytes that aren't UTF-8
abbrev pub no_text : Record
no_text = received (255 ∷ []) (3 ∷ [])

no_text-right : Right one_address no_text
unfolding is_utf8 chars encode is_well_formed words
no_text-right = right_from_test one_address no_text refl

no_text-ends : step_end one_address no_text ≡ Ended BadMessage
unfolding is_utf8 chars encode is_well_formed words
no_text-ends = refl

no_text-closes : closing_actions one_address no_text None ≡ Close 3 ∷ []
unfolding is_utf8 chars encode is_well_formed words
no_text-closes = refl

-- a descriptor without an address
abbrev pub no_address : Record
no_address = received [] (3 ∷ [])

no_address-right : Right one_address no_address
unfolding is_utf8 chars encode is_well_formed words
no_address-right = right_from_test one_address no_address refl

no_address-ends : step_end one_address no_address ≡ Ended BadMessage
unfolding is_utf8 chars encode is_well_formed words
no_address-ends = refl

no_address-closes : closing_actions one_address no_address None ≡ Close 3 ∷ []
unfolding is_utf8 chars encode is_well_formed words
no_address-closes = refl
