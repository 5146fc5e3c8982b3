use Rattle.std.proofs.Common.{arith, ◌∙◌, sym}
use Rattle.life_core.proofs.Fractions.{shorter, trimmed_digits-last, fraction_text-some}
use Rattle.life_core.proofs.latency.Fraction.of_second.Goals as goal

pub loop-number-preserved : goal.loop-number-preserved
loop-number-preserved c =
    let held = c.loop-number.invariant in
    let less = shorter c.loop-number.width c.loop-number.number held.some c.loop-number-test.true held.fits in
    record { same = less.0 ∙ held.same; some = omega arith; fits = less.1 }

pub returns-clause-text : goal.returns-clause-text
returns-clause-text c =
    let held = c.loop-number.invariant in
    fraction_text-some c.args.nanos _ c.if-number-eq0.false (sym held.same ∙ trimmed_digits-last c.loop-number.width c.loop-number.number (omega arith))
