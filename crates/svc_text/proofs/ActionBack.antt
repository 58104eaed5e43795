-- Each action is read back from its words.
use Rattle.std.proofs.Common.{◌≡◌, ℕ, ◌^◌, List, [], ◌∷◌, map, Option, Some, None, cond, codes, refl, arith}
use Rattle.std.specs.List.{AllByRecursion}
use Rattle.std.specs.Str.{bytes_eq}
use Rattle.svc_record.specs.declared.action.Action.{Action}
use Rattle.svc_record.specs.declared.action.Action.TheVariants as actions
use Rattle.svc_record.specs.Text.{action_words, ActionFits}
use Rattle.svc_base.specs.Options.{◌>>=◌}
use Rattle.svc_base.specs.Words.{number_of}
use Rattle.svc_text.specs.NumberLists.{all_some}
use Rattle.svc_text.specs.EventLines.{bytes_of, listed_of}
use Rattle.svc_text.proofs.PieceLemmas.{by_recursion}
use Rattle.svc_text.proofs.Visible.{IsWord}
use Rattle.svc_text.proofs.DigitLemmas.{digits_word}
use Rattle.svc_text.proofs.WordBack.{n32, n64, yes_of, yes_back, phase_of, phase_back, setting_of, settings_back, bytes_back, listed_back, yes_fits, phase_fits, settings_fit, bytes_fit, numbers_fit}

bare_action : List ℕ → Option Action
bare_action key =
    cond (bytes_eq key (codes "openreceiver")) (Some actions.OpenReceiver)
    (cond (bytes_eq key (codes "tryreceive")) (Some actions.TryReceive)
    (cond (bytes_eq key (codes "notifyparent")) (Some actions.NotifyParent)
    (cond (bytes_eq key (codes "connect")) (Some actions.Connect)
    (cond (bytes_eq key (codes "broadcast")) (Some actions.Broadcast)
    (cond (bytes_eq key (codes "daemonize")) (Some actions.Daemonize) None)))))

action_of_one : List ℕ → List ℕ → Option Action
action_of_one key v =
    cond (bytes_eq key (codes "start")) (number_of (2 ^ 32) v >>= λ s. Some (actions.Start s))
    (cond (bytes_eq key (codes "fail")) (number_of (2 ^ 32) v >>= λ s. Some (actions.Fail s))
    (cond (bytes_eq key (codes "close")) (number_of (2 ^ 64) v >>= λ fd. Some (actions.Close fd))
    (cond (bytes_eq key (codes "refuse")) (number_of (2 ^ 64) v >>= λ c. Some (actions.Refuse c))
    (cond (bytes_eq key (codes "handshake")) (number_of (2 ^ 64) v >>= λ c. Some (actions.Handshake c))
    (cond (bytes_eq key (codes "serve")) (number_of (2 ^ 64) v >>= λ c. Some (actions.Serve c))
    (cond (bytes_eq key (codes "drop")) (number_of (2 ^ 64) v >>= λ c. Some (actions.Drop c))
    (cond (bytes_eq key (codes "cut")) (number_of (2 ^ 64) v >>= λ c. Some (actions.Cut c))
    (cond (bytes_eq key (codes "stop")) (number_of (2 ^ 64) v >>= λ seconds. Some (actions.Stop seconds)) None))))))))

action_of_two : List ℕ → List ℕ → List ℕ → Option Action
action_of_two key v w =
    cond (bytes_eq key (codes "bind")) (number_of (2 ^ 32) v >>= λ s. number_of (2 ^ 32) w >>= λ i. Some (actions.Bind s i))
    (cond (bytes_eq key (codes "send")) (bytes_of v >>= λ bytes. listed_of w >>= λ fds. Some (actions.Send bytes fds))
    (cond (bytes_eq key (codes "phase")) (phase_of v >>= λ p. number_of (2 ^ 64) w >>= λ ms. Some (actions.Phase p ms))
    (cond (bytes_eq key (codes "judged")) (number_of (2 ^ 64) v >>= λ c. yes_of w >>= λ said. Some (actions.Judged c said))
    (cond (bytes_eq key (codes "rest")) (number_of (2 ^ 32) v >>= λ s. number_of (2 ^ 32) w >>= λ i. Some (actions.Rest s i)) None))))

action_of_three : List ℕ → List ℕ → List ℕ → List ℕ → Option Action
action_of_three key v w x =
    cond (bytes_eq key (codes "adopt"))
    (number_of (2 ^ 32) v >>= λ s. number_of (2 ^ 32) w >>= λ i. number_of (2 ^ 64) x >>= λ fd. Some (actions.Adopt s i fd)) None

settings_of : List (List ℕ) → Option Action
settings_of [] = None
settings_of (v ∷ ws) = number_of (2 ^ 64) v >>= λ c. all_some (map setting_of ws) >>= λ list. Some (actions.Settings c list)

plain_action : List (List ℕ) → Option Action
plain_action (key ∷ []) = bare_action key
plain_action (key ∷ v ∷ []) = action_of_one key v
plain_action (key ∷ v ∷ w ∷ []) = action_of_two key v w
plain_action (key ∷ v ∷ w ∷ x ∷ []) = action_of_three key v w x
plain_action _ = None

-- what the words of an action's line say
pub action_of : List (List ℕ) → Option Action
action_of [] = None
action_of (key ∷ args) = cond (bytes_eq key (codes "settings")) (settings_of args) (plain_action (key ∷ args))

pub action_back : (a : Action) → ActionFits a → action_of (action_words a) ≡ Some a
unfolding action_of settings_of plain_action bare_action action_of_one action_of_two action_of_three
action_back (actions.Start s) h = rw (n32 s h) refl
action_back (actions.Fail s) h = rw (n32 s h) refl
action_back (actions.Bind s i) h = rw (n32 s h.0, n32 i h.1) refl
action_back (actions.Adopt s i fd) h = rw (n32 s h.0, n32 i h.1, n64 fd h.2) refl
action_back (actions.Close fd) h = rw (n64 fd h) refl
action_back actions.OpenReceiver h = refl
action_back actions.TryReceive h = refl
action_back actions.NotifyParent h = refl
action_back actions.Connect h = refl
action_back (actions.Send bytes fds) h = rw (bytes_back bytes (by_recursion _ bytes h.0), listed_back fds (by_recursion _ fds h.1)) refl
action_back (actions.Phase p ms) h = rw (phase_back p, n64 ms h) refl
action_back actions.Broadcast h = refl
action_back (actions.Judged c said) h = rw (n64 c h, yes_back said) refl
action_back (actions.Refuse c) h = rw (n64 c h) refl
action_back (actions.Settings c list) h = rw (n64 c h.0, settings_back list (by_recursion _ list h.1)) refl
action_back (actions.Handshake c) h = rw (n64 c h) refl
action_back (actions.Serve c) h = rw (n64 c h) refl
action_back (actions.Drop c) h = rw (n64 c h) refl
action_back (actions.Rest s i) h = rw (n32 s h.0, n32 i h.1) refl
action_back (actions.Cut c) h = rw (n64 c h) refl
action_back (actions.Stop seconds) h = rw (n64 seconds h) refl
action_back actions.Daemonize h = refl

pub action_fits : (a : Action) → AllByRecursion IsWord (action_words a)
action_fits (actions.Start s) = (record { visible = refl; some = omega arith }, (digits_word 10 s, tt))
action_fits (actions.Fail s) = (record { visible = refl; some = omega arith }, (digits_word 10 s, tt))
action_fits (actions.Bind s i) = (record { visible = refl; some = omega arith }, (digits_word 10 s, (digits_word 10 i, tt)))
action_fits (actions.Adopt s i fd) = (record { visible = refl; some = omega arith }, (digits_word 10 s, (digits_word 10 i, (digits_word 10 fd, tt))))
action_fits (actions.Close fd) = (record { visible = refl; some = omega arith }, (digits_word 10 fd, tt))
action_fits actions.OpenReceiver = (record { visible = refl; some = omega arith }, tt)
action_fits actions.TryReceive = (record { visible = refl; some = omega arith }, tt)
action_fits actions.NotifyParent = (record { visible = refl; some = omega arith }, tt)
action_fits actions.Connect = (record { visible = refl; some = omega arith }, tt)
action_fits (actions.Send bytes fds) = (record { visible = refl; some = omega arith }, (bytes_fit bytes, (numbers_fit fds, tt)))
action_fits (actions.Phase p ms) = (record { visible = refl; some = omega arith }, (phase_fits p, (digits_word 10 ms, tt)))
action_fits actions.Broadcast = (record { visible = refl; some = omega arith }, tt)
action_fits (actions.Judged c said) = (record { visible = refl; some = omega arith }, (digits_word 10 c, (yes_fits said, tt)))
action_fits (actions.Refuse c) = (record { visible = refl; some = omega arith }, (digits_word 10 c, tt))
action_fits (actions.Settings c list) = (record { visible = refl; some = omega arith }, (digits_word 10 c, settings_fit list))
action_fits (actions.Handshake c) = (record { visible = refl; some = omega arith }, (digits_word 10 c, tt))
action_fits (actions.Serve c) = (record { visible = refl; some = omega arith }, (digits_word 10 c, tt))
action_fits (actions.Drop c) = (record { visible = refl; some = omega arith }, (digits_word 10 c, tt))
action_fits (actions.Rest s i) = (record { visible = refl; some = omega arith }, (digits_word 10 s, (digits_word 10 i, tt)))
action_fits (actions.Cut c) = (record { visible = refl; some = omega arith }, (digits_word 10 c, tt))
action_fits (actions.Stop seconds) = (record { visible = refl; some = omega arith }, (digits_word 10 seconds, tt))
action_fits actions.Daemonize = (record { visible = refl; some = omega arith }, tt)

-- no status line begins as an action's does
pub no_action : (args : List (List ℕ)) → action_of (codes "status" ∷ args) ≡ None
unfolding action_of plain_action bare_action action_of_one action_of_two action_of_three
no_action [] = refl
no_action (v ∷ []) = refl
no_action (v ∷ w ∷ []) = refl
no_action (v ∷ w ∷ x ∷ []) = refl
no_action (v ∷ w ∷ x ∷ y ∷ more) = refl

pub no_end : action_of (codes "end" ∷ []) ≡ None
unfolding action_of plain_action bare_action
no_end = refl
