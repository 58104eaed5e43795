-- Why a call that sets options answered as it did.
use Rattle.std.proofs.Common.{◌≡◌, ℕ, Bool, false, List, [], ◌∷◌, ◌++◌, Option, Some, None, Ok, Err, refl, sym, ap, subst, ◌∙◌, ◌⊎◌, inl, inr}
use Rattle.std.specs.Prelude.{option_and_then, IfSome}
use Rattle.std.specs.Option.{option_map, option_to_list}
use Rattle.std.specs.List.{AllByRecursion}
use Rattle.svc_base.specs.Streams.{Rose}
use Rattle.svc_socket.specs.OptionsData.{OptionsData}
use Rattle.svc_socket.specs.Steps.{Steps, given, Sets, Causes}
use Rattle.svc_socket.specs.OptionLists.{dscp_step, dscp_end, bind_options, bind_steps, bind_end, keepalive_steps}
use Rattle.svc_base.specs.declared.settings.TcpKeepalive.{TcpKeepalive}
use Rattle.svc_socket.specs.declared.options.Family.{Family}
use Rattle.svc_socket.specs.declared.options.Family.TheVariants.{V4, V6, Other}
use Rattle.svc_socket.specs.declared.options.SockOption.{SockOption}
use Rattle.svc_socket.specs.declared.options.SockOption.TheVariants as options
use Rattle.svc_socket.specs.declared.protocols.l4.ext.OptionError.{OptionError}
use Rattle.svc_socket.specs.declared.protocols.l4.ext.OptionError.TheVariants.{TooLarge, ConnectError, SocketError, BindError}
use Rattle.svc_socket.specs.declared.protocols.l4.ext.TcpSocketOptions.{TcpSocketOptions}
use Rattle.svc_socket.proofs.StepLemmas.{Answer, Sets-failed, Sets-ended}

-- its error doesn't say that a value is too large
abbrev pub IsNamed : SockOption × OptionError → Type 0
IsNamed step = step.1 ≡ TooLarge → ⊥

-- the answer behind the steps doesn't say so either, and is an error only where this fact holds
abbrev pub EndsWell : Type 0 → Answer → Type 0
EndsWell other last = (e : OptionError) → last ≡ Err e → (e ≡ TooLarge → ⊥) × other

named_at : (front : Steps) (failed : SockOption × OptionError) (back : Steps) → AllByRecursion IsNamed (front ++ failed ∷ back) → IsNamed failed
named_at [] failed back h = h.0
named_at (x ∷ front) failed back h = named_at front failed back h.1

cause_of : (other : Type 0) (before now : ℕ) (e : OptionError) → (e ≡ TooLarge → ⊥) → Rose before now ⊎ other → Causes false other before now (Err e)
cause_of other before now TooLarge h p = absurd (h refl)
cause_of other before now ConnectError h p = (refl, p)
cause_of other before now SocketError h p = (refl, p)
cause_of other before now BindError h p = (refl, p)

cause_at_end : (other : Type 0) (before now : ℕ) (last : Answer) → EndsWell other last → Causes false other before now last
cause_at_end other before now (Ok u) h = refl
cause_at_end other before now (Err e) h = let p = h e refl in cause_of other before now e p.0 (inr p.1)

cause_so : (other : Type 0) (steps : Steps) (last : Answer) (a b : OptionsData) (r : Answer) → AllByRecursion IsNamed steps → EndsWell other last
    → Sets steps last a b r → Causes false other a.faults b.faults r
cause_so other steps last a b r h ends (inl p) =
    subst (λ (x : Answer). Causes false other a.faults b.faults x) (sym p.answer_is) (cause_at_end other a.faults b.faults last ends)
cause_so other steps last a b r h ends (inr p) =
    subst (λ (x : Answer). Causes false other a.faults b.faults x) (sym p.answer_is)
    (cause_of other a.faults b.faults p.failed.1 (named_at p.front p.failed p.back (subst (λ (zs : Steps). AllByRecursion IsNamed zs) p.all h)) (inl p.faults))

-- where no value is too large
pub causes : (large : Bool) (other : Type 0) (steps : Steps) (last : Answer) (a b : OptionsData) (r : Answer) → large ≡ false → AllByRecursion IsNamed steps
    → EndsWell other last → Sets steps last a b r
    → Causes large other a.faults b.faults r
causes large other steps last a b r e h ends p = subst (λ (x : Bool). Causes x other a.faults b.faults r) (sym e) (cause_so other steps last a b r h ends p)

pub ends_ok : (other : Type 0) → EndsWell other (Ok tt)
ends_ok other e h = absurd cc

pub one_named : (option : SockOption) → AllByRecursion IsNamed ((option, ConnectError) ∷ [])
one_named option = (λ e. cc, tt)

pub keepalive_named : (ka : TcpKeepalive) → AllByRecursion IsNamed (keepalive_steps ka)
keepalive_named ka = (λ e. cc, (λ e. cc, (λ e. cc, (λ e. cc, (λ e. cc, tt)))))

-- ---- the differentiated services byte, and the options of a listening socket

pub dscp_named : (family : Family) (byte : ℕ) → IfSome (dscp_step family byte) IsNamed
dscp_named V4 byte = λ e. cc
dscp_named V6 byte = λ e. cc
dscp_named Other byte = tt

pub dscp_ends : (family : Family) → EndsWell (family ≡ Other) (dscp_end family)
dscp_ends V4 e h = absurd cc
dscp_ends V6 e h = absurd cc
dscp_ends Other e h = (λ t. cc, refl)

mapped_named : {A : Type 0} (f : A → SockOption) (error : OptionError) (o : Option A) → (error ≡ TooLarge → ⊥)
    → IfSome (option_map (λ x. (f x, error)) o) IsNamed
mapped_named f error None h = tt
mapped_named f error (Some x) h = h

given_dscp_named : (family : Family) (o : Option ℕ) → IfSome (option_and_then (dscp_step family) o) IsNamed
given_dscp_named family None = tt
given_dscp_named family (Some byte) = dscp_named family byte

given_named : (os : List (Option (SockOption × OptionError))) → AllByRecursion (λ (o : Option (SockOption × OptionError)). IfSome o IsNamed) os
    → AllByRecursion IsNamed (given os)
given_named [] h = tt
given_named (None ∷ os) h = given_named os h.1
given_named (Some x ∷ os) h = (h.0, given_named os h.1)

pub bind_named : (family : Family) (opt : TcpSocketOptions) → AllByRecursion IsNamed (bind_steps family opt)
bind_named family opt =
    given_named (bind_options family opt) (
      mapped_named options.V6Only BindError opt.ipv6_only (λ e. cc),
      (
        mapped_named options.ReusePort BindError opt.so_reuseport (λ e. cc),
        (
          mapped_named options.FastopenBacklog ConnectError opt.tcp_fastopen (λ e. cc),
          (given_dscp_named family opt.dscp, tt),
        ),
      ),
    )

bind_ends_at : (family : Family) (opt : TcpSocketOptions) (dscp : Option ℕ) → opt.dscp ≡ dscp → EndsWell (family ≡ Other) (bind_end family opt)
bind_ends_at family opt None d e h = absurd (let k = rw d at h in cc)
bind_ends_at family opt (Some byte) d e h = dscp_ends family e (rw d at h)

pub bind_ends : (family : Family) (opt : TcpSocketOptions) → EndsWell (family ≡ Other) (bind_end family opt)
bind_ends family opt = bind_ends_at family opt opt.dscp refl

dscp_list_named : (family : Family) (byte : ℕ) → AllByRecursion IsNamed (option_to_list (dscp_step family byte))
dscp_list_named V4 byte = (λ e. cc, tt)
dscp_list_named V6 byte = (λ e. cc, tt)
dscp_list_named Other byte = tt

pub dscp_cause_ok : (F f : Family) (byte : ℕ) (step : Option (SockOption × OptionError)) (r : Answer) (a b : OptionsData) → f ≡ F → step ≡ dscp_step f byte
    → r ≡ dscp_end f
    → Sets (option_to_list step) (Ok tt) a b (Ok tt) → Causes false (F ≡ Other) a.faults b.faults r
dscp_cause_ok F f byte step r a b d e g p =
    let s : option_to_list step ≡ option_to_list (dscp_step F byte) = ap option_to_list (e ∙ ap (λ (x : Family). dscp_step x byte) d) in
    causes false (F ≡ Other) (option_to_list (dscp_step F byte)) (dscp_end F) a b r refl (dscp_list_named F byte) (dscp_ends F)
    (Sets-ended _ _ r (dscp_end F) a b s (g ∙ ap dscp_end d) p)

pub dscp_cause_err : (F f : Family) (byte : ℕ) (step : Option (SockOption × OptionError)) (error : OptionError) (a b : OptionsData) → f ≡ F
    → step ≡ dscp_step f byte
    → Sets (option_to_list step) (Ok tt) a b (Err error) → Causes false (F ≡ Other) a.faults b.faults (Err error)
dscp_cause_err F f byte step error a b d e p =
    let s : option_to_list step ≡ option_to_list (dscp_step F byte) = ap option_to_list (e ∙ ap (λ (x : Family). dscp_step x byte) d) in
    causes false (F ≡ Other) (option_to_list (dscp_step F byte)) (dscp_end F) a b (Err error) refl (dscp_list_named F byte) (dscp_ends F)
    (Sets-failed _ _ (dscp_end F) a b error s p)

pub bind_cause_ok : (F f : Family) (opt : TcpSocketOptions) (steps : List (Option (SockOption × OptionError))) (r : Answer) (a b : OptionsData) (large : Bool)
    → large ≡ false → f ≡ F → given steps ≡ bind_steps f opt → r ≡ bind_end f opt
    → Sets (given steps) (Ok tt) a b (Ok tt) → Causes large (F ≡ Other) a.faults b.faults r
bind_cause_ok F f opt steps r a b large l d e g p =
    let s : given steps ≡ bind_steps F opt = e ∙ ap (λ (x : Family). bind_steps x opt) d in
    causes large (F ≡ Other) (bind_steps F opt) (bind_end F opt) a b r l (bind_named F opt) (bind_ends F opt)
    (Sets-ended _ _ r (bind_end F opt) a b s (g ∙ ap (λ (x : Family). bind_end x opt) d) p)

pub bind_cause_err : (F f : Family) (opt : TcpSocketOptions) (steps : List (Option (SockOption × OptionError))) (error : OptionError) (a b : OptionsData)
    (large : Bool) → large ≡ false → f ≡ F → given steps ≡ bind_steps f opt
    → Sets (given steps) (Ok tt) a b (Err error) → Causes large (F ≡ Other) a.faults b.faults (Err error)
bind_cause_err F f opt steps error a b large l d e p =
    let s : given steps ≡ bind_steps F opt = e ∙ ap (λ (x : Family). bind_steps x opt) d in
    causes large (F ≡ Other) (bind_steps F opt) (bind_end F opt) a b (Err error) l (bind_named F opt) (bind_ends F opt)
    (Sets-failed _ _ (bind_end F opt) a b error s p)
