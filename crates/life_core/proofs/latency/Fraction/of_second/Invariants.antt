use Rattle.std.proofs.Common.{◌≡◌, ◌<◌, ◌^◌, ◌%◌}
use Rattle.life_core.specs.Texts.{trimmed_digits}
use Rattle.life_core.proofs.latency.Fraction.of_second.Given as goal

-- the zeros that were taken off are no part of the digits, and what is left has a digit that is none
abbrev pub invariant-loop-number : goal.invariant-loop-number
invariant-loop-number l = record {
  same : trimmed_digits l.width l.number ≡ trimmed_digits 9 (l.fn.nanos % 1000000000);
  some : 0 < l.number;
  fits : l.number < 10 ^ l.width;
}

abbrev pub decreases-loop-number : goal.decreases-loop-number
decreases-loop-number l = l.width
