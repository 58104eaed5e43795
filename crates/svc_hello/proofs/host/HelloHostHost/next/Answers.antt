use Rattle.std.proofs.Common.{refl, reverse, map}
use Rattle.svc_base.specs.Items.{list_of}
use Rattle.svc_hello.proofs.EntryLemmas.{last-put, told-put}
use Rattle.svc_hello.specs.Handed.{handed_over}
use Rattle.svc_hello.proofs.host.HelloHostHost.next.Goals as goal

pub returns-clause-account : goal.returns-clause-account
returns-clause-account c =
    let old = list_of c.next_event-event.new.self.entries in
    let e = c.next_event-event.result in
    let last = last-put old (list_of c.put.new.self) c.as_slice.result.now e c.as_slice.ensures c.put.ensures.items in
    let handed = reverse (map handed_over c.next_event-event.new.self.services.items) in
    rw (last, ← c.next_event-event.ensures.entries, ← c.next_event-event.ensures.handed) (told-put old (list_of c.put.new.self) e handed c.put.ensures.items)

pub returns-clause-counts : goal.returns-clause-counts
returns-clause-counts c =
    let old = list_of c.next_event-event.new.self.entries in
    let last = last-put old (list_of c.put.new.self) c.as_slice.result.now c.next_event-event.result c.as_slice.ensures c.put.ensures.items in
    rw (last, ← c.next_event-event.ensures.failures) (refl, refl, c.failures_with-self.ensures)
