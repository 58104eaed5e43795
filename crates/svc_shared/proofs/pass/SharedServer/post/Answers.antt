use Rattle.std.proofs.Common.{◌≡◌, ◌∙◌, subst, ℕ}
use Rattle.svc_base.specs.Items.{list_of}
use Rattle.svc_record.specs.Journal.{post}
use Rattle.svc_shared.specs.declared.pass.Posted.{Posted}
use Rattle.svc_shared.specs.declared.refusals.PostRefused.{PostRefused}
use Rattle.svc_shared.specs.Turn.{LeftWith}
use Rattle.svc_shared.specs.Posting.{IsPosted, IsRefused, never, LeftFor}
use Rattle.svc_shared.proofs.PostLemmas.{ok_map, err_map, posts_by, refuses_by}
use Rattle.svc_shared.proofs.pass.SharedServer.post.Goals as goal

pub returns-clause-posted : goal.returns-clause-posted
returns-clause-posted g c = let t = c.wait_turn-word.ensures.took in ok_map c.finish.result
    (λ (r : Posted). (r.pass.place.table_id ≡ c.wait_turn-word.new.place.table_id)
    × LeftWith c.args.self.now.board.shared.key.value
    (post c.args.pass.lot.number c.args.event c.args.said (list_of r.actions)) r.place r.end c.wait_turn-word.new.place.me r.pass.place.me)
    (IsPosted c.args.self.now c.args.pass c.args.event c.args.said)
    (λ (r : Posted) (h : (r.pass.place.table_id ≡ c.wait_turn-word.new.place.table_id)
    × LeftWith c.args.self.now.board.shared.key.value
    (post c.args.pass.lot.number c.args.event c.args.said (list_of r.actions)) r.place r.end c.wait_turn-word.new.place.me r.pass.place.me).
    posts_by c.args.self.now c.args.pass c.requires c.wait_turn-word.result t.0 c.wait_turn-word.new.place.me t.1 t.2 c.args.event c.args.said r
    (h.0 ∙ c.wait_turn-word.ensures.table)
    (subst (λ (n : ℕ). LeftWith c.args.self.now.board.shared.key.value
    (post n c.args.event c.args.said (list_of r.actions)) r.place r.end c.wait_turn-word.new.place.me r.pass.place.me) c.args.pass.number_is h.1))
    c.finish.ensures.posted

pub returns-clause-refused : goal.returns-clause-refused
returns-clause-refused g c = let t = c.wait_turn-word.ensures.took in err_map c.finish.result
    (λ (r : PostRefused). (r.pass.place.table_id ≡ c.wait_turn-word.new.place.table_id) × (r.event ≡ c.args.event)
    × LeftFor c.args.self.now.board.shared.key.value c.args.event r.reason c.wait_turn-word.new.place.me r.pass.place.me)
    (IsRefused never c.args.self.now c.args.pass c.args.event)
    (λ (r : PostRefused) (h : (r.pass.place.table_id ≡ c.wait_turn-word.new.place.table_id) × (r.event ≡ c.args.event)
    × LeftFor c.args.self.now.board.shared.key.value c.args.event r.reason c.wait_turn-word.new.place.me r.pass.place.me).
    refuses_by c.args.self.now c.args.pass c.requires c.wait_turn-word.result t.0 c.wait_turn-word.new.place.me t.1 t.2 never c.args.event r
    (h.0 ∙ c.wait_turn-word.ensures.table) h.1 h.2) c.finish.ensures.refused
