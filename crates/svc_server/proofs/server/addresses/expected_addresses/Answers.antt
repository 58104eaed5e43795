use Rattle.std.proofs.Common.{sym, ap, ◌∙◌, Vec, List, ℕ, Global}
use Rattle.std.specs.Prelude.{Option}
use Rattle.std.specs.Option.{option_map}
use Rattle.svc_base.specs.declared.text.Text.{Text}
use Rattle.svc_server.proofs.AddressLemmas.{seen-more, expected-none, expected-all}
use Rattle.svc_server.proofs.server.addresses.expected_addresses.Goals as goal

abbrev items : Option (Vec Text Global) → Option (List (List ℕ))
items found = option_map (λ (texts : Vec Text Global). texts.items) found

pub returns : goal.returns
returns g c =
    let seen = c.loop-service.invariant in
    expected-all g.B.ServiceWithDependents c.args.services.now c.loop-service.service-index seen.0 c.loop-service.expected.items c.loop-service-test.false
    seen.1 seen.2

pub returns-in-None : goal.returns-in-None
returns-in-None g c =
    sym (expected-none g.B.ServiceWithDependents c.args.services.now c.loop-service.service-index c.service-item.result c.loop-service-test.true
    c.service-item.is
    (sym c.in_ok-declared.ensures ∙ ap items c.in-None.is))

pub loop-service-preserved : goal.loop-service-preserved
loop-service-preserved g c =
    let seen = c.loop-service.invariant in
    seen-more g.B.ServiceWithDependents c.args.services.now c.loop-service.service-index c.service-item.result c.in-Some.declared.items seen.0
    c.loop-service.expected.items c.add_all_missing.new.texts.items
    c.loop-service-test.true c.service-item.is (sym c.in_ok-declared.ensures ∙ ap items c.in-Some.is) seen.1 seen.2 c.in_ok-add_all_missing-in-Some.ensures
