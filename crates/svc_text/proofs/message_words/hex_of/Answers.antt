use Rattle.std.proofs.Common.{◌∙◌, length, sym, ap}
use Rattle.std.proofs.lemmas.Bool.{eqb-true, eqb-false}
use Rattle.svc_text.specs.EventLines.{hex_of}
use Rattle.svc_base.proofs.Pieces.{rest_whole}
use Rattle.svc_text.proofs.HexLemmas.{behind, hex_of-more, hex_of-stops, hex_of-end, hex_of-odd}
use Rattle.svc_text.proofs.message_words.hex_of.Goals as goal

pub returns-in_default-hex_byte_of : goal.returns-in_default-hex_byte_of
returns-in_default-hex_byte_of c =
    sym (hex_of-stops c.args.word.now c.loop-rest.rest.now c.loop-rest.bytes c.loop-rest.invariant c.in-len2-up.len_at_least c.in_default-hex_byte_of.ensures)

pub loop-rest-preserved : goal.loop-rest-preserved
loop-rest-preserved c =
    hex_of-more c.args.word.now c.loop-rest.rest.now c.loop-rest.bytes _ _ c.loop-rest.invariant c.in-len2-up.len_at_least c.in-Some.ensures
    c.in_ok-push_item.ensures.ok
    ∙ ap (λ rest. behind c.push_item.new.list (hex_of rest)) (sym (rest_whole 2 c.loop-rest.rest.now))

pub returns-then-is_empty : goal.returns-then-is_empty
returns-then-is_empty c =
    sym (hex_of-end c.args.word.now c.loop-rest.rest.now c.loop-rest.bytes c.loop-rest.invariant
    (eqb-true (length c.loop-rest.rest.now) 0 (sym c.if-is_empty.ensures)))

pub returns-else-is_empty : goal.returns-else-is_empty
returns-else-is_empty c =
    sym (hex_of-odd c.args.word.now c.loop-rest.rest.now c.loop-rest.bytes c.loop-rest.invariant c.in_default.len_below
    (eqb-false (length c.loop-rest.rest.now) 0 (sym c.if-is_empty.ensures)))
