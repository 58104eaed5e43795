use Rattle.std.proofs.Common.{◌≡◌, false, All, ◌++◌, reverse, string_bytes, sym, ap, ◌∙◌, subst}
use Rattle.svc_record.specs.Text.{text_of, line_of, EntryFits}
use Rattle.svc_text.proofs.TextLemmas.{text-more, fits-more, written}
use Rattle.svc_text.proofs.printing.RecordText.put.Goals as goal

pub invariant_of-self : goal.invariant_of-self
invariant_of-self c =
    let e = c.args.entry.now in
    let r = c.self.inside.entries in
    subst (λ q. All EntryFits (reverse q) × (c.is_err-self-inside.result ≡ false → string_bytes c.push_line.new.text ≡ text_of (reverse q)))
    (sym c.push.ensures) (
      fits-more e r c.self.invariant.0 c.read_entry.ensures,
      λ on. written c.push_line.result _ _ c.is_err-self-inside.ensures.value on c.push_line.ensures
          ∙ ap (λ t. t ++ line_of e) (c.self.invariant.1 c.if-not-self.true) ∙ sym (text-more e r),
    )

pub invariant_of-self-else-not-self : goal.invariant_of-self-else-not-self
invariant_of-self-else-not-self c =
    let e = c.args.entry.now in
    let r = c.self.inside.entries in
    subst (λ q. All EntryFits (reverse q) × (c.self.inside.is_short ≡ false → string_bytes c.self.inside.text ≡ text_of (reverse q))) (sym c.push.ensures) (
      fits-more e r c.self.invariant.0 c.read_entry.ensures,
      λ on. let short = c.if-not-self.false in absurd (cc),
    )
