use Rattle.std.proofs.Common.{List, ◌-◌, refl, ap, ◌∙◌, take, drop, length}
use Rattle.std.specs.List.{list_any}
use Rattle.std.proofs.lemmas.List.{take_rest}
use Rattle.svc_record.specs.declared.entry.Entry.{Entry}
use Rattle.svc_record.specs.Boot.{is_open_receiver}
use Rattle.svc_session.proofs.SessionLemmas.{added-entries}
use Rattle.svc_handover.specs.declared.pair.ChannelState.{ChannelState}
use Rattle.svc_handover.specs.Channel.{after_told}
use Rattle.svc_handover.proofs.ChannelLemmas.{told-channel}
use Rattle.svc_handover.proofs.RunLemmas.{grows-new}
use Rattle.svc_handover.proofs.servers.Servers.take_new.Goals as goal

pub returns : goal.returns
returns c =
    let was = c.args.self.now.successor in
    let now = c.step_one.new.server in
    let step = c.args.step.now in
    let took = c.in_ok-step_one.ensures.takes in
    let told = took.1.0 in
    let n = c.len-before.result in
    let es = c.as_slice.result.now in
    let added = take_rest es n ∙ ap (drop n) (c.as_slice.ensures ∙ c.entries-2.ensures)
    ∙ added-entries was now step.event step.said took.0 told took.1.1 n (c.len-before.ensures ∙ ap (λ (xs : List Entry). length xs) c.entries.ensures) in
    record {
      grows = grows-new c.args.self.now
          (record { predecessor = c.args.self.now.predecessor; successor = now; channel = c.after_told-self.result }) step
          took.0 told c.requires.side took.1.1 refl
          (c.after_told-self.ensures
          ∙ told-channel (take (length es - n) (drop n es)) told c.after_new-channel.result (ap (λ (xs : List Entry). list_any is_open_receiver xs) added)
          ∙ ap (λ (x : ChannelState). after_told told x) c.after_new-channel.ensures);
    }
