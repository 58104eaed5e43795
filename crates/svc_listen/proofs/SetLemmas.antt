-- Settings that were set one after the other.
use Rattle.std.proofs.Common.{◌≡◌, ℕ, ◌+◌, ◌<◌, ◌≤◌, Bool, true, false, List, [], ◌∷◌, ◌++◌, length, get_or, take, drop, Option, Some, None, refl, sym, ap, subst, ◌∙◌, append_assoc, arith}
use Rattle.std.specs.List.{cons_option}
use Rattle.std.specs.Option.{option_to_list, option_map}
use Rattle.std.proofs.lemmas.List.{take_more, take-append-drop, length-append}
use Rattle.std.proofs.lemmas.List.Elements.{filter_map-append}
use Rattle.svc_base.specs.Streams.{Rose}
use Rattle.svc_base.specs.declared.settings.Setting.{Setting}
use Rattle.svc_base.specs.declared.settings.Setting.TheVariants.{NoDelay, KeepAlive, Dscp, SndBuf, RcvBuf}
use Rattle.svc_base.specs.Calls.{Adds}
use Rattle.svc_base.proofs.CallLemmas.{Adds-then, Stays-then}
use Rattle.svc_socket.proofs.StepLemmas.{places}
use Rattle.svc_socket.specs.OptionLists.{settings_of}
use Rattle.svc_socket.specs.declared.protocols.l4.ext.TcpSocketOptions.{TcpSocketOptions}
use Rattle.svc_listen.specs.AcceptingData.{AcceptingData, IsSet}
use Rattle.svc_listen.specs.Accepts.{given, set_calls, AllSet, SetFails, Sets}
use Rattle.svc_listen.specs.declared.accepting.AcceptingCall.{AcceptingCall}
use Rattle.svc_listen.specs.declared.accepting.AcceptingCall.TheVariants as calls

set_calls-append : (c : ℕ) (xs ys : List Setting) → set_calls c (xs ++ ys) ≡ set_calls c xs ++ set_calls c ys
set_calls-append c [] ys = refl
set_calls-append c (x ∷ xs) ys = ap (λ (zs : List AcceptingCall). calls.Set c x true ∷ zs) (set_calls-append c xs ys)

-- these, all of which were set, and then those
pub Sets-then : (r : Bool) (k : ℕ) (xs ys : List Setting) (a b c : AcceptingData) → AllSet k xs a b → Sets k ys b c r → Sets k (xs ++ ys) a c r
Sets-then true k xs ys a b c p q = record {
  called = subst (Adds a.called c.called) (sym (set_calls-append k xs ys)) (Adds-then a.called b.called c.called _ _ p.called q.called);
  stays = Stays-then p.stays q.stays;
  place = places xs ys a.room b.room c.room p.place q.place;
  faults = q.faults ∙ p.faults;
  waits = q.waits ∙ p.waits;
}
Sets-then false k xs ys a b c p q =
    let last_call : List AcceptingCall = calls.Set k q.failed false ∷ [] in
    record {
      front = xs ++ q.front;
      failed = q.failed;
      back = q.back;
      all = ap (λ (zs : List Setting). xs ++ zs) q.all ∙ sym (append_assoc xs q.front (q.failed ∷ q.back));
      called = subst (Adds a.called c.called)
          (sym (append_assoc (set_calls k xs) (set_calls k q.front) last_call)
          ∙ ap (λ (zs : List AcceptingCall). zs ++ last_call) (sym (set_calls-append k xs q.front)))
          (Adds-then a.called b.called c.called _ _ p.called q.called);
      stays = Stays-then p.stays q.stays;
      place = places xs ys a.room b.room c.room p.place q.place;
      faults = subst (λ (n : ℕ). Rose n c.faults) p.faults q.faults;
      waits = q.waits ∙ p.waits;
    }

-- where one failed, the later ones weren't tried
pub Sets-rest : (k : ℕ) (xs ys : List Setting) (a b : AcceptingData) → SetFails k xs a b → SetFails k (xs ++ ys) a b
Sets-rest k xs ys a b p = record {
  front = p.front;
  failed = p.failed;
  back = p.back ++ ys;
  all = ap (λ (zs : List Setting). zs ++ ys) p.all ∙ append_assoc p.front (p.failed ∷ p.back) ys;
  called = p.called;
  stays = p.stays;
  place = let e : length (xs ++ ys) ≡ length xs + length ys = length-append xs ys in omega (arith, p.place, e);
  faults = p.faults;
  waits = p.waits;
}

cons_option-list : (o : Option Setting) (xs : List Setting) → cons_option o xs ≡ option_to_list o ++ xs
cons_option-list None xs = refl
cons_option-list (Some x) xs = refl

one_given : (o : Option Setting) → cons_option o [] ≡ option_to_list o
one_given None = refl
one_given (Some x) = refl

given-more : (steps : List (Option Setting)) (n : ℕ) (d : Option Setting) → n < length steps
    → given (take (n + 1) steps) ≡ given (take n steps) ++ option_to_list (get_or steps n d)
given-more steps n d h =
    ap given (take_more steps n d h) ∙ filter_map-append (λ step. step) (take n steps) (get_or steps n d ∷ [])
    ∙ ap (λ (zs : List Setting). given (take n steps) ++ zs) (one_given (get_or steps n d))

given-front : (steps : List (Option Setting)) (n : ℕ) → given steps ≡ given (take n steps) ++ given (drop n steps)
given-front steps n = ap given (sym (take-append-drop n steps)) ∙ filter_map-append (λ step. step) (take n steps) (drop n steps)

pub sets_more : (r : Bool) (k : ℕ) (steps : List (Option Setting)) (n : ℕ) (d : Option Setting) (a b c : AcceptingData) → n < length steps
    → AllSet k (given (take n steps)) a b → Sets k (option_to_list (get_or steps n d)) b c r → Sets k (given (take (n + 1) steps)) a c r
sets_more r k steps n d a b c h p q =
    subst (λ (zs : List Setting). Sets k zs a c r) (sym (given-more steps n d h))
    (Sets-then r k (given (take n steps)) (option_to_list (get_or steps n d)) a b c p q)

pub sets_front : (k : ℕ) (steps : List (Option Setting)) (n : ℕ) (a c : AcceptingData) → SetFails k (given (take n steps)) a c → SetFails k (given steps) a c
sets_front k steps n a c p =
    subst (λ (zs : List Setting). SetFails k zs a c) (sym (given-front steps n)) (Sets-rest k (given (take n steps)) (given (drop n steps)) a c p)

-- one setting that was tried
pub one_tried : (r : Bool) (k : ℕ) (s : Setting) (a b : AcceptingData) → IsSet a b k s r → Sets k (s ∷ []) a b r
one_tried true k s a b p = record { called = p.called; stays = p.stays; place = p.place; faults = p.faults; waits = p.waits }
one_tried false k s a b p =
    record { front = []; failed = s; back = []; all = refl; called = p.called; stays = p.stays; place = p.place; faults = p.faults; waits = p.waits }

pub step_tried : (r : Bool) (k : ℕ) (step : Option Setting) (s : Setting) (a b : AcceptingData) → step ≡ Some s → IsSet a b k s r
    → Sets k (option_to_list step) a b r
step_tried r k step s a b e p = subst (λ (o : Option Setting). Sets k (option_to_list o) a b r) (sym e) (one_tried r k s a b p)

four_given : (k d s r : Option Setting)
    → cons_option k (cons_option d (cons_option s (cons_option r []))) ≡ option_to_list k ++ (option_to_list d ++ (option_to_list s ++ option_to_list r))
four_given k d s r =
    cons_option-list k _
    ∙ ap (λ (xs : List Setting). option_to_list k ++ xs)
    (cons_option-list d _
    ∙ ap (λ (xs : List Setting). option_to_list d ++ xs) (cons_option-list s _ ∙ ap (λ (xs : List Setting). option_to_list s ++ xs) (one_given r)))

-- the settings of some options, as steps
pub given-settings : (opt : TcpSocketOptions) (k d s r : Option Setting) → k ≡ option_map KeepAlive opt.tcp_keepalive → d ≡ option_map Dscp opt.dscp
    → s ≡ option_map SndBuf opt.tcp_snd_buf → r ≡ option_map RcvBuf opt.tcp_recv_buf
    → given (Some NoDelay ∷ k ∷ d ∷ s ∷ r ∷ []) ≡ settings_of (Some opt)
given-settings opt k d s r ek ed es er =
    ap (λ (xs : List Setting). NoDelay ∷ xs)
    (four_given k d s r
    ∙ ap (λ (x : Option Setting). option_to_list x ++ (option_to_list d ++ (option_to_list s ++ option_to_list r))) ek
    ∙ ap (λ (x : Option Setting). option_to_list (option_map KeepAlive opt.tcp_keepalive) ++ (option_to_list x ++ (option_to_list s ++ option_to_list r))) ed
    ∙ ap (λ (x : Option Setting). option_to_list (option_map KeepAlive opt.tcp_keepalive)
    ++ (option_to_list (option_map Dscp opt.dscp) ++ (option_to_list x ++ option_to_list r))) es
    ∙ ap (λ (x : Option Setting). option_to_list (option_map KeepAlive opt.tcp_keepalive)
    ++ (option_to_list (option_map Dscp opt.dscp) ++ (option_to_list (option_map SndBuf opt.tcp_snd_buf) ++ option_to_list x))) er)
