use Rattle.std.proofs.Common.{◌==◌, ◌^◌, [], length, ◌<◌, ◌≡◌, sym, ◌∙◌, arith}
use Rattle.std.proofs.Math.ListN.{length-set}
use Rattle.std.specs.List.{slice_split}
use Rattle.svc_base.specs.Words.{number_of}
use Rattle.svc_socket.proofs.ManyLemmas.{no_number, stores_more, stores_all, too_many, too_few}
use Rattle.svc_socket.proofs.reading.octets_in.Goals as goal

pub returns-in_default : goal.returns-in_default
returns-in_default c =
    sym (too_few (number_of (2 ^ 8)) (slice_split (λ b. b == 46) c.args.text.now) c.loop-i.i _ c.loop-i.rest.now
    (slice_split (λ b. b == 46) c.loop-i.rest.now) 4 c.loop-i.invariant.stored c.in_default.ensures (omega arith))

pub returns-in_default-number8 : goal.returns-in_default-number8
returns-in_default-number8 c =
    sym (no_number (number_of (2 ^ 8)) (slice_split (λ b. b == 46) c.args.text.now) c.loop-i.i _ c.in-Some.word.now _
    (slice_split (λ b. b == 46) c.loop-i.rest.now) 4 c.loop-i.invariant.stored c.in-Some.ensures c.in_default-number8.ensures)

pub returns-in_default-number8-2 : goal.returns-in_default-number8-2
returns-in_default-number8-2 c =
    sym (no_number (number_of (2 ^ 8)) (slice_split (λ b. b == 46) c.args.text.now) c.loop-i.i _ c.loop-i.rest.now []
    (slice_split (λ b. b == 46) c.loop-i.rest.now) 4 c.loop-i.invariant.stored (c.is_cut.ensures.one c.if-is_cut.false) c.in_default-number8-2.ensures)

pub loop-i-preserved : goal.loop-i-preserved
loop-i-preserved c =
    let room : c.loop-i.i < length c.loop-i.octets = omega (arith, c.loop-i.invariant.long) in
    record {
      stored = stores_more (number_of (2 ^ 8)) (slice_split (λ b. b == 46) c.args.text.now) c.loop-i.i c.loop-i.octets c.in-Some.word.now _
          (slice_split (λ b. b == 46) c.loop-i.rest.now) c.in-Some-number8.octet c.loop-i.invariant.stored c.in-Some.ensures c.in-Some-number8.ensures room;
      long = length-set c.loop-i.octets c.loop-i.i c.in-Some-number8.octet ∙ c.loop-i.invariant.long;
    }

pub returns-then-is_cut : goal.returns-then-is_cut
returns-then-is_cut c =
    sym (too_many (number_of (2 ^ 8)) (slice_split (λ b. b == 46) c.args.text.now) c.loop-i.i _
    (slice_split (λ b. b == 46) c.loop-i.rest.now) 4 c.loop-i.invariant.stored (c.is_cut.ensures.several c.if-is_cut.true) (omega arith))

pub returns : goal.returns
returns c =
    let at : c.loop-i.i ≡ 3 = omega arith in
    sym (rw at at
    (stores_all (number_of (2 ^ 8)) (slice_split (λ b. b == 46) c.args.text.now) c.loop-i.i c.loop-i.octets c.loop-i.rest.now
    (slice_split (λ b. b == 46) c.loop-i.rest.now) c.in-Some-number8-2.octet 4 c.loop-i.invariant.stored
    (c.is_cut.ensures.one c.if-is_cut.false) c.in-Some-number8-2.ensures (omega arith) c.loop-i.invariant.long))
