-- Each event is read back from its words.
use Rattle.std.proofs.Common.{◌≡◌, ℕ, List, [], ◌∷◌, Option, Some, cond, codes, refl, arith}
use Rattle.std.specs.List.{AllByRecursion}
use Rattle.std.specs.Str.{bytes_eq}
use Rattle.svc_record.specs.declared.event.Event.{Event}
use Rattle.svc_record.specs.declared.event.Event.TheVariants as events
use Rattle.svc_record.specs.Text.{event_words, EventFits}
use Rattle.svc_base.specs.Options.{◌>>=◌}
use Rattle.svc_socket.proofs.PeerBack.{peer_back, peer_visible, peer_nonempty}
use Rattle.svc_text.specs.EventLines.{bytes_of, listed_of, bare_event, event_of_one, event_of_two, event_of_three, event_of_four, event_of}
use Rattle.svc_text.proofs.PieceLemmas.{by_recursion}
use Rattle.svc_text.proofs.Visible.{IsWord}
use Rattle.svc_text.proofs.DigitLemmas.{digits_word}
use Rattle.svc_text.proofs.WordBack.{n32, n64, ok_back, signal_back, side_back, bytes_back, listed_back, ok_fits, signal_fits, side_fits, bytes_fit, numbers_fit}

-- a message with any number of descriptors
any_received : List ℕ → List ℕ → Option Event
any_received v w = bytes_of v >>= λ bytes. listed_of w >>= λ fds. Some (events.Received bytes fds)

-- what a line says, where a message may have any number of descriptors
pub got_of : List (List ℕ) → Option Event
got_of (key ∷ v ∷ w ∷ []) = cond (bytes_eq key (codes "received")) (any_received v w) (event_of_two key v w)
got_of ws = event_of ws

pub event_back : (e : Event) → EventFits e → got_of (event_words e) ≡ Some e
unfolding got_of any_received event_of bare_event event_of_one event_of_two event_of_three event_of_four
event_back (events.Moment ms) h = rw (n64 ms h) refl
event_back (events.Ready s) h = rw (n32 s h) refl
event_back (events.Ended s) h = rw (n32 s h) refl
event_back (events.Bound s i fd) h = rw (n32 s h.0, n32 i h.1, n64 fd h.2) refl
event_back (events.InUse s i) h = rw (n32 s h.0, n32 i h.1) refl
event_back (events.BindFailed s i) h = rw (n32 s h.0, n32 i h.1) refl
event_back (events.Adopted s i) h = rw (n32 s h.0, n32 i h.1) refl
event_back (events.AdoptFailed s i) h = rw (n32 s h.0, n32 i h.1) refl
event_back (events.Received bytes fds) h = rw (bytes_back bytes (by_recursion _ bytes h.0), listed_back fds (by_recursion _ fds h.1)) refl
event_back events.NoSenderYet h = refl
event_back events.ReceiveFailed h = refl
event_back events.Connected h = refl
event_back events.NotThere h = refl
event_back events.StillConnecting h = refl
event_back events.ConnectFailed h = refl
event_back events.Sent h = refl
event_back events.SendBusy h = refl
event_back events.SendFailed h = refl
event_back (events.Arrived s i c peer) h = rw (n32 s h.0, n32 i h.1, n64 c h.2, peer_back peer h.3) refl
event_back (events.AcceptFailed s i n) h = rw (n32 s h.0, n32 i h.1, n32 n h.2) refl
event_back (events.Set c ok) h = rw (n64 c h, ok_back ok) refl
event_back (events.Shaken c ok) h = rw (n64 c h, ok_back ok) refl
event_back (events.Finished c) h = rw (n64 c h) refl
event_back (events.LoopEnded s i j) h = rw (n32 s h.0, n32 i h.1, n64 j h.2) refl
event_back (events.Signal kind) h = rw (signal_back kind) refl
event_back (events.Side side) h = rw (side_back side) refl
event_back events.ChildReady h = refl
event_back events.ChildGone h = refl
event_back events.DropFailed h = refl

pub event_fits : (e : Event) → EventFits e → AllByRecursion IsWord (event_words e)
event_fits (events.Moment ms) h = (record { visible = refl; some = omega arith }, (digits_word 10 ms, tt))
event_fits (events.Ready s) h = (record { visible = refl; some = omega arith }, (digits_word 10 s, tt))
event_fits (events.Ended s) h = (record { visible = refl; some = omega arith }, (digits_word 10 s, tt))
event_fits (events.Bound s i fd) h = (record { visible = refl; some = omega arith }, (digits_word 10 s, (digits_word 10 i, (digits_word 10 fd, tt))))
event_fits (events.InUse s i) h = (record { visible = refl; some = omega arith }, (digits_word 10 s, (digits_word 10 i, tt)))
event_fits (events.BindFailed s i) h = (record { visible = refl; some = omega arith }, (digits_word 10 s, (digits_word 10 i, tt)))
event_fits (events.Adopted s i) h = (record { visible = refl; some = omega arith }, (digits_word 10 s, (digits_word 10 i, tt)))
event_fits (events.AdoptFailed s i) h = (record { visible = refl; some = omega arith }, (digits_word 10 s, (digits_word 10 i, tt)))
event_fits (events.Received bytes fds) h = (record { visible = refl; some = omega arith }, (bytes_fit bytes, (numbers_fit fds, tt)))
event_fits events.NoSenderYet h = (record { visible = refl; some = omega arith }, tt)
event_fits events.ReceiveFailed h = (record { visible = refl; some = omega arith }, tt)
event_fits events.Connected h = (record { visible = refl; some = omega arith }, tt)
event_fits events.NotThere h = (record { visible = refl; some = omega arith }, tt)
event_fits events.StillConnecting h = (record { visible = refl; some = omega arith }, tt)
event_fits events.ConnectFailed h = (record { visible = refl; some = omega arith }, tt)
event_fits events.Sent h = (record { visible = refl; some = omega arith }, tt)
event_fits events.SendBusy h = (record { visible = refl; some = omega arith }, tt)
event_fits events.SendFailed h = (record { visible = refl; some = omega arith }, tt)
event_fits (events.Arrived s i c peer) h = (
  record { visible = refl; some = omega arith },
  (digits_word 10 s, (digits_word 10 i, (digits_word 10 c, (record { visible = peer_visible peer h.3; some = peer_nonempty peer }, tt)))),
)
event_fits (events.AcceptFailed s i n) h = (record { visible = refl; some = omega arith }, (digits_word 10 s, (digits_word 10 i, (digits_word 10 n, tt))))
event_fits (events.Set c ok) h = (record { visible = refl; some = omega arith }, (digits_word 10 c, (ok_fits ok, tt)))
event_fits (events.Shaken c ok) h = (record { visible = refl; some = omega arith }, (digits_word 10 c, (ok_fits ok, tt)))
event_fits (events.Finished c) h = (record { visible = refl; some = omega arith }, (digits_word 10 c, tt))
event_fits (events.LoopEnded s i j) h = (record { visible = refl; some = omega arith }, (digits_word 10 s, (digits_word 10 i, (digits_word 10 j, tt))))
event_fits (events.Signal kind) h = (record { visible = refl; some = omega arith }, (signal_fits kind, tt))
event_fits (events.Side side) h = (record { visible = refl; some = omega arith }, (side_fits side, tt))
event_fits events.ChildReady h = (record { visible = refl; some = omega arith }, tt)
event_fits events.ChildGone h = (record { visible = refl; some = omega arith }, tt)
event_fits events.DropFailed h = (record { visible = refl; some = omega arith }, tt)
