use Rattle.std.proofs.Common.{◌≡◌, ◌^◌, ◌-◌, true, false, [], refl, sym, ◌∙◌, arith, length, List, ℕ, Some}
use Rattle.std.specs.Char.{is_control}
use Rattle.std.specs.Fmt.{digits, padded_integral, format_spec, styled_digits_output}
use Rattle.svc_messages.proofs.PlainLemmas.{plain_behind, plain_encode, plain_code, code_short, code_shown}
use Rattle.svc_messages.proofs.words.push_shown.Goals as goal

-- what is written of a control character
code_written : (c : goal.After-drop) → c.as_str.result.now ≡ code_shown c.args.c
code_written c =
    let code : List ℕ = padded_integral (format_spec 32 0 4 2 (2 ^ 64 - 1)) false [] (digits 16 false c.args.c) in
    let e : styled_digits_output c.in_radix.result c.laid_out.result ≡ Some code = rw (c.laid_out.ensures, c.in_radix.ensures) refl in
    c.as_str.ensures.value ∙ rw e at c.in_ok-format.ensures.ok

pub returns-in_ok-push_str-clause-plain : goal.returns-in_ok-push_str-clause-plain
returns-in_ok-push_str-clause-plain c = λ plain.
    let control : is_control c.args.c ≡ true = sym c.is_control.ensures ∙ c.if-is_control.true in
    plain_behind _ _ _ plain c.in_ok-push_str.ensures.bytes (rw (code_written c) (plain_code c.args.c control))

pub returns-in_ok-push_str-clause-short : goal.returns-in_ok-push_str-clause-short
returns-in_ok-push_str-clause-short c =
    let control : is_control c.args.c ≡ true = sym c.is_control.ensures ∙ c.if-is_control.true in
    let n : length c.as_str.result.now ≡ 4 = code_short c.args.c _ control (code_written c) in omega (arith, c.in_ok-push_str.ensures.len)

pub returns-in_ok-push-clause-plain : goal.returns-in_ok-push-clause-plain
returns-in_ok-push-clause-plain c = λ plain.
    plain_behind _ _ _ plain c.in_ok-push.ensures.bytes (plain_encode c.args.c (sym c.is_control.ensures ∙ c.if-is_control.false))
