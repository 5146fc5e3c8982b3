use Rattle.std.proofs.Common.{◌≡◌, ◌<◌, ◌++◌, ℕ, [], take, drop, length, get_or}
use Rattle.life_session.specs.Acts.{steps_of}
use Rattle.life_session.specs.Report.{steps_lines}
use Rattle.life_session.proofs.report.put_steps.Given as goal

abbrev pub invariant-loop-k : goal.invariant-loop-k
invariant-loop-k l = record {
  same_length : length l.made.items ≡ length l.told;
  counted : (i : ℕ) → i < length l.told → get_or l.made.items i 0 ≡ steps_of i (take l.k l.steps);
  so_far : l.text ++ steps_lines l.told (take l.k l.steps) (drop l.k l.steps) ≡ l.initial.text ++ steps_lines l.told [] l.steps;
}
