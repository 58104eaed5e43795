use Rattle.std.proofs.Common.{ℕ, ◌≡◌, ◌+◌, sym, subst, inl, refl, arith}
use Rattle.std.proofs.lemmas.List.Elements.{All-nil}
use Rattle.std.specs.Str.Lines.{lines}
use Rattle.svc_messages.specs.Places.{BeginsNone}
use Rattle.svc_messages.proofs.PlaceLemmas.{Passed, passed_one, passed_next, passed_at, passed_all}
use Rattle.svc_messages.proofs.places.place_of.Goals as goal

pub returns-then-passed-number-clause-line : goal.returns-then-passed-number-clause-line
returns-then-passed-number-clause-line c =
    (passed_at (lines c.args.bytes.now) (lines c.loop-line.rest.now) (lines c.in-Some.after.now) c.loop-line.passed c.args.number c.in-Some.line.now
    c.loop-line.section c.loop-line.invariant.passed c.in-Some.ensures.first (omega arith)).0

pub returns-then-passed-number-clause-section : goal.returns-then-passed-number-clause-section
returns-then-passed-number-clause-section c =
    (passed_at (lines c.args.bytes.now) (lines c.loop-line.rest.now) (lines c.in-Some.after.now) c.loop-line.passed c.args.number c.in-Some.line.now
    c.loop-line.section c.loop-line.invariant.passed c.in-Some.ensures.first (omega arith)).1

pub returns-clause-line : goal.returns-clause-line
returns-clause-line c =
    (passed_all (lines c.args.bytes.now) (lines c.loop-line.rest.now) c.loop-line.passed c.args.number c.loop-line.section c.loop-line.invariant.passed
    c.in_default.ensures.first c.loop-line.invariant.early).0

pub returns-clause-section : goal.returns-clause-section
returns-clause-section c =
    (passed_all (lines c.args.bytes.now) (lines c.loop-line.rest.now) c.loop-line.passed c.args.number c.loop-line.section c.loop-line.invariant.passed
    c.in_default.ensures.first c.loop-line.invariant.early).1

pub loop-line-preserved : goal.loop-line-preserved
loop-line-preserved c =
    let same : c.saturating_add-passed.result ≡ c.loop-line.passed + 1 = omega (arith, c.saturating_add-passed.ensures) in
    let P : ℕ → Type 0 = λ n. Passed (lines c.args.bytes.now) (lines c.in-Some.after.now) n c.unwrap_or-section.result in
    record {
      passed = subst P (sym same) (passed_next (lines c.args.bytes.now) (lines c.loop-line.rest.now) (lines c.in-Some.after.now) c.loop-line.passed
          c.in-Some.line.now c.loop-line.section c.unwrap_or-section.result c.header.result c.loop-line.invariant.passed c.in-Some.ensures.first
          c.header.ensures c.unwrap_or-section.ensures);
      early = omega arith;
    }

pub loop-line-init : goal.loop-line-init
loop-line-init c = record { passed = passed_one (lines c.args.bytes.now) _ (inl (refl, All-nil BeginsNone)); early = omega arith }
