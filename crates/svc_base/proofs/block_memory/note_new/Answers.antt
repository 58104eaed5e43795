use Rattle.std.proofs.Common.{rules, ◌≡◌, insert, ap, ◌∙◌, arith, ℕ}
use Rattle.svc_base.specs.Blocks.{first_key, put_note}
use Rattle.svc_base.proofs.IndexLemmas.{put_note-in, put_note-past}
use Rattle.svc_base.proofs.block_memory.note_new.Goals as goal

pub returns-then-at-len : goal.returns-then-at-len
returns-then-at-len g c =
    let put : c.insert.new.self.items ≡ insert c.args.firsts.now.items c.args.at c.first_key.result = search rules in
    put ∙ put_note-in c.args.firsts.now.items c.args.at c.first_key.result (omega (arith, c.args.firsts.now.ok.0))
    ∙ ap (λ (n : ℕ). put_note c.args.at n c.args.firsts.now.items) c.first_key.ensures

pub returns-else-at-len : goal.returns-else-at-len
returns-else-at-len g c =
    put_note-past c.args.firsts.now.items c.args.at (first_key g.T.Keyed.key_of c.args.block.now) (omega (arith, c.args.firsts.now.ok.0))
