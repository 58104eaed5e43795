use Rattle.std.proofs.Common.{List, ap, ◌∙◌}
use Rattle.std.specs.List.{list_any}
use Rattle.svc_record.specs.declared.entry.Entry.{Entry}
use Rattle.svc_record.specs.Boot.{is_open_receiver}
use Rattle.svc_handover.specs.declared.pair.ChannelState.TheVariants.{Missing}
use Rattle.svc_handover.proofs.ChannelLemmas.{told-channel}
use Rattle.svc_handover.proofs.RunLemmas.{runs-first}
use Rattle.svc_handover.proofs.servers.Servers.begin.Goals as goal

pub returns : goal.returns
returns c =
    let old = c.in-Ok.ensures.begins in
    let new = c.in-Ok-begin.ensures.begins in
    let entries = c.as_slice.ensures ∙ c.entries.ensures ∙ new.1.entries in
    record {
      begins = runs-first c.args.old c.args.new
          (record { predecessor = c.in-Ok.predecessor; successor = c.in-Ok-begin.successor; channel = c.after_told-channel.result }) old.0 new.0 old.1 new.1
          (c.after_told-channel.ensures
          ∙ told-channel c.as_slice.result.now new.0 Missing (ap (λ (xs : List Entry). list_any is_open_receiver xs) entries))
          c.read_addresses.ensures;
    }
