use Rattle.std.proofs.Common.{◌<◌, ◌^◌, arith, rules}
use Rattle.std.proofs.Output.{has_written_of_eq}
use Rattle.life_core.proofs.Fractions.{seconds_text, nonzero_width}
use Rattle.life_core.proofs.latency.LatencyDisplay.fmt.Goals as goal

pub returns-in-Some-clause-writes : goal.returns-in-Some-clause-writes
returns-in-Some-clause-writes g c = λ plain ok.
    let nanos = c.args.self.now.nanos in
    let number = c.in-Some.field-0.number in
    let width = c.in-Some.field-0.width in
    let known = c.in-Some.ensures in
    let wide = nonzero_width width number (omega arith) known.fits in
    let small : number < 2 ^ 64 = search rules in
    has_written_of_eq _ _ _ _ _ (rw (c.in-Seconds.is, c.laid_out.ensures) (seconds_text nanos number width known.fits wide small known.text)) (c.write-in-Some.ensures.writes plain ok)
