use Rattle.std.proofs.Common.{◌%◌, ap, sym, ◌∙◌, length}
use Rattle.svc_judge.specs.Chains.{alone_fits as event_fits_alone}
use Rattle.svc_judge.proofs.ChainLemmas.{alone_in, in_own}
use Rattle.svc_judge.proofs.alone.alone_fits.Goals as goal

pub returns-in-Some : goal.returns-in-Some
returns-in-Some c = λ q h.
    let n = length c.args.chains.now.parts in
    let e = c.args.entry.now in
    let m = c.in-Some.c in
    c.is_alone_right.ensures
    ∙ ap (event_fits_alone e) (c.of.ensures q h)
    ∙ alone_in n (m % n) e q (in_own n m e (sym c.in-Some.ensures))
