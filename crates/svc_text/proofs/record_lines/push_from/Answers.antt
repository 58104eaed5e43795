use Rattle.std.proofs.Common.{◌∙◌, ◌≡◌, ◌-◌, ◌++◌, List, ℕ, ap, take, drop, string_bytes}
use Rattle.std.proofs.lemmas.Str.{IsUtf8-from_ascii, IsAscii-take}
use Rattle.svc_base.proofs.Pieces.{rest_whole}
use Rattle.svc_text.proofs.record_lines.push_from.Goals as goal

pub unreachable-requires : goal.unreachable-requires
unreachable-requires c = c.in_default.ensures.cases.0 (IsUtf8-from_ascii _ (IsAscii-take _ _ c.requires.ascii))

pub returns : goal.returns
returns c =
    let line = c.args.line.now in
    let start = c.args.start in
    let long : take (168 - start) (drop start line) ≡ drop start line = rw (← c.told-line) (rest_whole start line) in
    c.in_ok-push_str.ensures.bytes ∙ ap (λ (t : List ℕ). string_bytes c.args.text.now ++ t) (c.in-Ok.ensures.cases.0 ∙ long)
