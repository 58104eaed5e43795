use Rattle.std.proofs.Common.{◌≡◌, ℕ, List, filter, subst, ap, OnOk}
use Rattle.svc_judge.specs.Endings.{is_uncut}
use Rattle.svc_judge.specs.Numbers.{put_onto}
use Rattle.svc_judge.proofs.ending.put_live.Goals as goal

pub returns-in-Some : goal.returns-in-Some
returns-in-Some c =
    subst
    (λ (ns : List ℕ). OnOk c.put_uncut.result (c.put_uncut.new.numbers.items ≡ put_onto (filter (is_uncut c.args.whole.now) ns) c.args.numbers.now.items))
    c.in-Some.ensures c.put_uncut.ensures

pub returns-in-None : goal.returns-in-None
returns-in-None c = ap (λ (ns : List ℕ). put_onto (filter (is_uncut c.args.whole.now) ns) c.args.numbers.now.items) c.in-None.ensures
