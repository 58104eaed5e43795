use Rattle.std.proofs.Common.{refl, ◌≡◌, ◌∙◌, subst, ℕ}
use Rattle.svc_base.specs.Items.{list_of}
use Rattle.svc_record.specs.Journal.{post}
use Rattle.svc_shared.specs.declared.pass.Posted.{Posted}
use Rattle.svc_shared.specs.declared.refusals.PostRefused.{PostRefused}
use Rattle.svc_shared.specs.Turn.{Waited, LeftWith}
use Rattle.svc_shared.specs.Posting.{IsPosted, IsRefused, IsBusy, LeftFor}
use Rattle.svc_shared.proofs.OwnLemmas.{begins-whole}
use Rattle.svc_shared.proofs.PostLemmas.{ok_map, err_map, posts_by, refuses_by, busy_by}
use Rattle.svc_shared.proofs.pass.SharedServer.try_post.Goals as goal
use Rattle.svc_shared.proofs.pass.SharedServer.try_post.Goals.{After-finish}

at_once : (c : After-finish) → Waited c.args.pass.place.me c.args.pass.place.me
at_once c = record { hand_is = refl; seen_is = refl; own_is = refl; notes = begins-whole c.args.pass.place.me.0.sight.notes }

pub returns-in-Ok-clause-posted : goal.returns-in-Ok-clause-posted
returns-in-Ok-clause-posted c = ok_map c.finish.result
    (λ (r : Posted). (r.pass.place.table_id ≡ c.take.new.place.table_id)
    × LeftWith c.args.self.now.board.shared.key.value
    (post c.args.pass.lot.number c.args.event c.args.said (list_of r.actions)) r.place r.end c.take.new.place.me r.pass.place.me)
    (IsPosted c.args.self.now c.args.pass c.args.event c.args.said)
    (λ (r : Posted) (h : (r.pass.place.table_id ≡ c.take.new.place.table_id)
    × LeftWith c.args.self.now.board.shared.key.value
    (post c.args.pass.lot.number c.args.event c.args.said (list_of r.actions)) r.place r.end c.take.new.place.me r.pass.place.me).
    posts_by c.args.self.now c.args.pass c.requires c.in-Ok.word c.args.pass.place.me c.take.new.place.me
    (at_once c) c.in-Ok.ensures.took c.args.event c.args.said r (h.0 ∙ c.take.ensures.table.0)
    (subst (λ (n : ℕ). LeftWith c.args.self.now.board.shared.key.value
    (post n c.args.event c.args.said (list_of r.actions)) r.place r.end c.take.new.place.me r.pass.place.me) c.args.pass.number_is h.1))
    c.finish.ensures.posted

pub returns-in-Ok-clause-refused : goal.returns-in-Ok-clause-refused
returns-in-Ok-clause-refused c = err_map c.finish.result
    (λ (r : PostRefused). (r.pass.place.table_id ≡ c.take.new.place.table_id) × (r.event ≡ c.args.event)
    × LeftFor c.args.self.now.board.shared.key.value c.args.event r.reason c.take.new.place.me r.pass.place.me)
    (λ (r : PostRefused). IsRefused (IsBusy c.args.pass r.pass) c.args.self.now c.args.pass c.args.event r)
    (λ (r : PostRefused) (h : (r.pass.place.table_id ≡ c.take.new.place.table_id) × (r.event ≡ c.args.event)
    × LeftFor c.args.self.now.board.shared.key.value c.args.event r.reason c.take.new.place.me r.pass.place.me).
    refuses_by c.args.self.now c.args.pass c.requires c.in-Ok.word c.args.pass.place.me c.take.new.place.me (at_once c) c.in-Ok.ensures.took
    (IsBusy c.args.pass r.pass) c.args.event r (h.0 ∙ c.take.ensures.table.0) h.1 h.2) c.finish.ensures.refused

pub returns-in-Err-clause-refused : goal.returns-in-Err-clause-refused
returns-in-Err-clause-refused c =
    busy_by c.args.self.now c.args.pass c.requires c.in-Err.word c.args.event _ c.take.ensures.table.0 refl refl c.in-Err.ensures.lost
