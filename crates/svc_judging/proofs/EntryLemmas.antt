-- Each entry is read back from its line.
use Rattle.std.proofs.Common.{◌≡◌, ℕ, zero, suc, ◌^◌, ◌<◌, ◌≤◌, Bool, true, false, List, [], ◌∷◌, length, map, All, Some, None, leb, ltb, codes, refl, sym, ap, ◌∙◌, arith}
use Rattle.std.specs.List.{AllByRecursion, position, position_or_len}
use Rattle.std.specs.Str.{bytes_eq}
use Rattle.std.proofs.lemmas.Bool.{le-leb, lt-ltb}
use Rattle.std.proofs.lemmas.Slice.Eq.{bytes_eq-Decides}
use Rattle.svc_base.specs.declared.settings.Setting.{Setting}
use Rattle.svc_base.specs.declared.settings.Setting.TheVariants.{NoDelay, KeepAlive, Dscp, SndBuf, RcvBuf}
use Rattle.svc_base.specs.Words.{words}
use Rattle.svc_base.proofs.WordLemmas.{words-last}
use Rattle.svc_socket.proofs.PeerBack.{peer_back}
use Rattle.svc_record.specs.declared.action.ExecutionPhase.{ExecutionPhase}
use Rattle.svc_record.specs.declared.action.ExecutionPhase.TheVariants as phases
use Rattle.svc_record.specs.declared.event.Event.{Event}
use Rattle.svc_record.specs.declared.event.Event.TheVariants as events
use Rattle.svc_record.specs.declared.action.Action.{Action}
use Rattle.svc_record.specs.declared.action.Action.TheVariants as actions
use Rattle.svc_record.specs.declared.entry.Entry.{Entry}
use Rattle.svc_record.specs.declared.entry.Entry.TheVariants.{Got, Told}
use Rattle.svc_record.specs.Text.{yes_word, phase_word, numbers_word, setting_word, event_words, action_words, entry_words, SettingFits, EventFits, ActionFits, EntryFits}
use Rattle.svc_text.specs.EventLines.{bare_event, event_of_one, event_of_two, event_of_three, event_of_four, received_of, descriptors_of, event_of}
use Rattle.svc_text.proofs.PieceLemmas.{by_recursion}
use Rattle.svc_text.proofs.Visible.{IsWord, visible_filled, words_spaced}
use Rattle.svc_text.proofs.WordBack.{n8, n32, n64, ok_back, signal_back, side_back, bytes_back, listed_back, numbers_fit}
use Rattle.svc_text.proofs.EventBack.{event_fits}
use Rattle.svc_text.proofs.ActionBack.{action_fits}
use Rattle.svc_judging.specs.SettingWords.{is_equals, four_numbers, keepalive_of, named_setting, setting_of, settings_of}
use Rattle.svc_judging.specs.ActionLines.{yes_of, early_phase, phase_of, bare_action, service_action, action_of_one, action_of_two, action_of_three, plain_action, sent_of, message_of, settings_action, action_of}
use Rattle.svc_judging.specs.EntryLines.{entry_of, entry_text, IsShort, IsNoEntry}

-- ---- events

few_back : (fds : List ℕ) → AllByRecursion (λ n. n < 2 ^ 64) fds → length fds ≤ 32 → descriptors_of (numbers_word fds) ≡ Some fds
unfolding descriptors_of
few_back fds h few = let small : leb (length fds) 32 ≡ true = le-leb (length fds) 32 few in rw (listed_back fds h, small) refl

event_read : (e : Event) → EventFits e → IsShort (Got e) → event_of (event_words e) ≡ Some e
unfolding event_of bare_event event_of_one event_of_two event_of_three event_of_four received_of
event_read (events.Moment ms) h s = rw (n64 ms h) refl
event_read (events.Ready n) h s = rw (n32 n h) refl
event_read (events.Ended n) h s = rw (n32 n h) refl
event_read (events.Bound n i fd) h s = rw (n32 n h.0, n32 i h.1, n64 fd h.2) refl
event_read (events.InUse n i) h s = rw (n32 n h.0, n32 i h.1) refl
event_read (events.BindFailed n i) h s = rw (n32 n h.0, n32 i h.1) refl
event_read (events.Adopted n i) h s = rw (n32 n h.0, n32 i h.1) refl
event_read (events.AdoptFailed n i) h s = rw (n32 n h.0, n32 i h.1) refl
event_read (events.Received bytes fds) h s = rw (bytes_back bytes (by_recursion _ bytes h.0), few_back fds (by_recursion _ fds h.1) s) refl
event_read events.NoSenderYet h s = refl
event_read events.ReceiveFailed h s = refl
event_read events.Connected h s = refl
event_read events.NotThere h s = refl
event_read events.StillConnecting h s = refl
event_read events.ConnectFailed h s = refl
event_read events.Sent h s = refl
event_read events.SendBusy h s = refl
event_read events.SendFailed h s = refl
event_read (events.Arrived n i c peer) h s = rw (n32 n h.0, n32 i h.1, n64 c h.2, peer_back peer h.3) refl
event_read (events.AcceptFailed n i k) h s = rw (n32 n h.0, n32 i h.1, n32 k h.2) refl
event_read (events.Set c ok) h s = rw (n64 c h, ok_back ok) refl
event_read (events.Shaken c ok) h s = rw (n64 c h, ok_back ok) refl
event_read (events.Finished c) h s = rw (n64 c h) refl
event_read (events.LoopEnded n i j) h s = rw (n32 n h.0, n32 i h.1, n64 j h.2) refl
event_read (events.Signal kind) h s = rw (signal_back kind) refl
event_read (events.Side side) h s = rw (side_back side) refl
event_read events.ChildReady h s = refl
event_read events.ChildGone h s = refl
event_read events.DropFailed h s = refl

-- ---- what actions have besides numbers

yes_read : (said : Bool) → yes_of (yes_word said) ≡ Some said
unfolding yes_of
yes_read true = refl
yes_read false = refl

phase_read : (p : ExecutionPhase) → phase_of (phase_word p) ≡ Some p
unfolding phase_of early_phase
phase_read phases.Setup = refl
phase_read phases.Bootstrap = refl
phase_read phases.BootstrapComplete = refl
phase_read phases.Running = refl
phase_read phases.GracefulUpgradeTransferringFds = refl
phase_read phases.GracefulUpgradeCloseTimeout = refl
phase_read phases.GracefulTerminate = refl
phase_read phases.ShutdownStarted = refl
phase_read phases.ShutdownGracePeriod = refl
phase_read phases.ShutdownRuntimes = refl
phase_read phases.Terminated = refl

one_word : (w : List ℕ) → IsWord w → words w ≡ w ∷ []
one_word w h = words-last w h.some (visible_filled w h.visible)

no_bytes : All (λ b. b < 2 ^ 8) []
no_bytes k d lt = absurd (omega arith)

-- four numbers are read as those of a message
four_read : (ns : List ℕ) → All (λ n. n < 2 ^ 64) ns → length ns ≤ 32
    → event_of (codes "received" ∷ codes "-" ∷ words (numbers_word ns)) ≡ Some (events.Received [] ns)
four_read ns h few = rw (one_word (numbers_word ns) (numbers_fit ns)) (event_read (events.Received [] ns) (no_bytes, h) few)

from_parts : (a b c d : ℕ) → a < 2 ^ 64 → b < 2 ^ 64 → c < 2 ^ 64 → d < 2 ^ 64 → All (λ n. n < 2 ^ 64) (a ∷ b ∷ c ∷ d ∷ [])
from_parts a b c d ha hb hc hd zero k lt = ha
from_parts a b c d ha hb hc hd (suc zero) k lt = hb
from_parts a b c d ha hb hc hd (suc (suc zero)) k lt = hc
from_parts a b c d ha hb hc hd (suc (suc (suc zero))) k lt = hd
from_parts a b c d ha hb hc hd (suc (suc (suc (suc n)))) k lt = absurd (omega arith)

-- the name of a setting ends at the first byte of its sort
name_ends : (word : List ℕ) (n : ℕ) → position_or_len is_equals word ≡ n → n < length word → position is_equals word ≡ Some n
name_ends word n e lt =
    let t : ltb (position_or_len is_equals word) (length word) ≡ true = lt-ltb (position_or_len is_equals word) (length word) (omega (arith, e)) in
    rw t (ap (λ (m : ℕ). Some m) e)

setting_read : (x : Setting) → SettingFits x → setting_of (setting_word x) ≡ Some x
unfolding setting_of named_setting keepalive_of four_numbers
setting_read NoDelay h = refl
setting_read (KeepAlive k) h =
    let parts : All (λ n. n < 2 ^ 64) (k.idle ∷ k.interval ∷ k.count ∷ k.user_timeout ∷ []) =
    from_parts k.idle k.interval k.count k.user_timeout h.0 h.1 h.2 h.3 in
    rw (name_ends (setting_word (KeepAlive k)) 9 refl (omega arith), four_read (k.idle ∷ k.interval ∷ k.count ∷ k.user_timeout ∷ []) parts (omega arith)) refl
setting_read (Dscp n) h = rw (name_ends (setting_word (Dscp n)) 4 refl (omega arith), n8 n h) refl
setting_read (SndBuf n) h = rw (name_ends (setting_word (SndBuf n)) 6 refl (omega arith), n64 n h) refl
setting_read (RcvBuf n) h = rw (name_ends (setting_word (RcvBuf n)) 6 refl (omega arith), n64 n h) refl

settings_read : (xs : List Setting) → AllByRecursion SettingFits xs → settings_of (map setting_word xs) ≡ Some xs
unfolding settings_of
settings_read [] h = refl
settings_read (x ∷ xs) h = rw (setting_read x h.0, settings_read xs h.1) refl

-- ---- actions

action_read : (a : Action) → ActionFits a → IsShort (Told a) → action_of (action_words a) ≡ Some a
unfolding action_of settings_action message_of sent_of plain_action bare_action service_action action_of_one action_of_two action_of_three
action_read (actions.Start n) h s = rw (n32 n h) refl
action_read (actions.Fail n) h s = rw (n32 n h) refl
action_read (actions.Bind n i) h s = rw (n32 n h.0, n32 i h.1) refl
action_read (actions.Adopt n i fd) h s = rw (n32 n h.0, n32 i h.1, n64 fd h.2) refl
action_read (actions.Close fd) h s = rw (n64 fd h) refl
action_read actions.OpenReceiver h s = refl
action_read actions.TryReceive h s = refl
action_read actions.NotifyParent h s = refl
action_read actions.Connect h s = refl
action_read (actions.Send bytes fds) h s = rw (event_read (events.Received bytes fds) h s) refl
action_read (actions.Phase p ms) h s = rw (phase_read p, n64 ms h) refl
action_read actions.Broadcast h s = refl
action_read (actions.Judged c said) h s = rw (n64 c h, yes_read said) refl
action_read (actions.Refuse c) h s = rw (n64 c h) refl
action_read (actions.Settings c list) h s = rw (n64 c h.0, settings_read list (by_recursion _ list h.1)) refl
action_read (actions.Handshake c) h s = rw (n64 c h) refl
action_read (actions.Serve c) h s = rw (n64 c h) refl
action_read (actions.Drop c) h s = rw (n64 c h) refl
action_read (actions.Rest n i) h s = rw (n32 n h.0, n32 i h.1) refl
action_read (actions.Cut c) h s = rw (n64 c h) refl
action_read (actions.Stop seconds) h s = rw (n64 seconds h) refl
action_read actions.Daemonize h s = refl

-- ---- entries

-- the first word of an action isn't `got`
told_read : (a : Action) → ActionFits a → IsShort (Told a) → entry_of (action_words a) ≡ Some (Told a)
unfolding entry_of
told_read (actions.Start n) h s = rw (action_read (actions.Start n) h s) refl
told_read (actions.Fail n) h s = rw (action_read (actions.Fail n) h s) refl
told_read (actions.Bind n i) h s = rw (action_read (actions.Bind n i) h s) refl
told_read (actions.Adopt n i fd) h s = rw (action_read (actions.Adopt n i fd) h s) refl
told_read (actions.Close fd) h s = rw (action_read (actions.Close fd) h s) refl
told_read actions.OpenReceiver h s = rw (action_read actions.OpenReceiver h s) refl
told_read actions.TryReceive h s = rw (action_read actions.TryReceive h s) refl
told_read actions.NotifyParent h s = rw (action_read actions.NotifyParent h s) refl
told_read actions.Connect h s = rw (action_read actions.Connect h s) refl
told_read (actions.Send bytes fds) h s = rw (action_read (actions.Send bytes fds) h s) refl
told_read (actions.Phase p ms) h s = rw (action_read (actions.Phase p ms) h s) refl
told_read actions.Broadcast h s = rw (action_read actions.Broadcast h s) refl
told_read (actions.Judged c said) h s = rw (action_read (actions.Judged c said) h s) refl
told_read (actions.Refuse c) h s = rw (action_read (actions.Refuse c) h s) refl
told_read (actions.Settings c list) h s = rw (action_read (actions.Settings c list) h s) refl
told_read (actions.Handshake c) h s = rw (action_read (actions.Handshake c) h s) refl
told_read (actions.Serve c) h s = rw (action_read (actions.Serve c) h s) refl
told_read (actions.Drop c) h s = rw (action_read (actions.Drop c) h s) refl
told_read (actions.Rest n i) h s = rw (action_read (actions.Rest n i) h s) refl
told_read (actions.Cut c) h s = rw (action_read (actions.Cut c) h s) refl
told_read (actions.Stop seconds) h s = rw (action_read (actions.Stop seconds) h s) refl
told_read actions.Daemonize h s = rw (action_read actions.Daemonize h s) refl

words_read : (e : Entry) → EntryFits e → IsShort e → entry_of (entry_words e) ≡ Some e
unfolding entry_of
words_read (Got e) h s = rw (event_read e h s) refl
words_read (Told a) h s = told_read a h s

are_words : (e : Entry) → EntryFits e → AllByRecursion IsWord (entry_words e)
are_words (Got e) h = (record { visible = refl; some = omega arith }, event_fits e h)
are_words (Told a) h = action_fits a

-- an entry is read back from its line
line_read : (e : Entry) → EntryFits e → IsShort e → entry_of (words (entry_text e)) ≡ Some e
line_read e h s = ap entry_of (words_spaced (entry_words e) (are_words e h)) ∙ words_read e h s

-- a line that can't be read is no entry's
pub unread : (line : List ℕ) → None ≡ entry_of (words line) → IsNoEntry line
unread line none e h s is =
    let read : entry_of (words line) ≡ Some e = ap (λ (l : List ℕ). entry_of (words l)) is ∙ line_read e h s in
    let clash : None ≡ Some e = none ∙ read in
    absurd cc

-- a line that isn't printed as it was read is no entry's
pub unprinted : (line : List ℕ) (found : Entry) → Some found ≡ entry_of (words line) → bytes_eq (entry_text found) line ≡ false → IsNoEntry line
unprinted line found some differs e h s is =
    let read : entry_of (words line) ≡ Some e = ap (λ (l : List ℕ). entry_of (words l)) is ∙ line_read e h s in
    let same : Some found ≡ Some e = some ∙ read in
    let one : found ≡ e = cc in
    let printed : entry_text found ≡ line = ap entry_text one ∙ sym is in
    let equal : bytes_eq (entry_text found) line ≡ true = (bytes_eq-Decides (entry_text found) line).1 printed in
    absurd cc

-- a line that is printed as it was read is the entry's
pub printed : (line : List ℕ) (found : Entry) → bytes_eq (entry_text found) line ≡ true → line ≡ entry_text found
printed line found equal = sym ((bytes_eq-Decides (entry_text found) line).0 equal)
